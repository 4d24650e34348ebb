-- Lists with the same elements, by insertion; and ending a write, which touches that write alone.
use Rattle.std.proofs.Common.{◌≡◌, ℕ, Bool, true, false, cond, ◌&&◌, eqb, ltb, ◌≢◌, List, [], ◌∷◌, ◌++◌, refl, subst, ap₂, arith}
use Rattle.std.specs.List.{AllByRecursion}
use Rattle.std.specs.List.Sorted.{IsPermutation}
use Rattle.std.proofs.ByRecursion.{All-weaker}
use Rattle.std.proofs.lemmas.List.Sorted.{IsPermutation-refl, IsPermutation-cons, IsPermutation-trans, IsPermutation-sym, IsPermutation-to_front}
use Rattle.std.proofs.lemmas.Bool.{ne_eqb, cond-false, cond_both}
use Rattle.protocol.specs.History.{Operation}
use Rattle.protocol.specs.Law.{EachTwo, VersionsRise}
use Rattle.protocol.proofs.Trace.{insert_ordered, end_write, end_writes}

-- k is l with o put in somewhere
pub data Insert (o : Operation) : List Operation → List Operation → Type 0 where
  here : {l : List Operation} → Insert o l (o ∷ l)
  there : {y : Operation} {l k : List Operation} → Insert o l k → Insert o (y ∷ l) (y ∷ k)

-- k has the elements of l, each once
pub data Arranged : List Operation → List Operation → Type 0 where
  done : Arranged [] []
  more : {o : Operation} {l k m : List Operation} → Arranged l k → Insert o k m → Arranged (o ∷ l) m

swap : {a b : Operation} (l k m : List Operation) → Insert a l k → Insert b k m → (j : List Operation) × Insert b l j × Insert a j m
swap {b = b} l k _ i here = (b ∷ l, here, there i)
swap l _ _ here (there {k = m} j) = (m, j, here)
swap _ _ _ (there {y = y} {l = l} {k = k} i) (there {k = m} j) = let z = swap l k m i j in (y ∷ z.0, there z.1, there z.2)

-- it does not matter where an operation is listed
pub to_front : {o : Operation} {l k m : List Operation} → Insert o l k → Arranged k m → Arranged (o ∷ l) m
to_front here h = h
to_front {o} {l = y ∷ l} {m = m} (there i) (more {k = k} h j) = go (to_front i h)
  where
    go : Arranged (o ∷ l) k → Arranged (o ∷ (y ∷ l)) m
    go (more {k = e} g f) = let z = swap e k m f j in more (more g z.1) z.2

pub from_front : {o : Operation} {l k m : List Operation} → Insert o l k → Arranged (o ∷ l) m → Arranged k m
from_front here h = h
from_front {m = m} (there i) (more {k = c} (more {k = b} g f) j) = let z = swap b c m f j in more (from_front i (more g z.1)) z.2

pub insert_under : {o : Operation} {l k : List Operation} (x : List Operation) → Insert o l k → Insert o (x ++ l) (x ++ k)
insert_under [] h = h
insert_under (y ∷ x) h = there (insert_under x h)

insert_shuffled : {o : Operation} (l k : List Operation) → Insert o l k → IsPermutation (o ∷ l) k
insert_shuffled {o} l _ here = IsPermutation-refl (o ∷ l)
insert_shuffled {o} _ _ (there {y = y} {l = l} {k = k} h) = IsPermutation-trans (o ∷ (y ∷ l)) (y ∷ (o ∷ l)) (y ∷ k) (two o y l) (IsPermutation-cons y (o ∷ l) k (insert_shuffled l k h))
  where
    -- o y l; y l o; y o l
    two : (o y : Operation) (l : List Operation) → IsPermutation (o ∷ (y ∷ l)) (y ∷ (o ∷ l))
    two o y l = IsPermutation-trans (o ∷ (y ∷ l)) (y ∷ (l ++ (o ∷ []))) (y ∷ (o ∷ l)) (IsPermutation-sym ((y ∷ l) ++ (o ∷ [])) (o ∷ (y ∷ l)) (IsPermutation-to_front (y ∷ l) o)) (IsPermutation-cons y (l ++ (o ∷ [])) (o ∷ l) (IsPermutation-to_front l o))

pub arranged_shuffled : (l k : List Operation) → Arranged l k → IsPermutation l k
arranged_shuffled _ _ done = IsPermutation-refl []
arranged_shuffled _ m (more {o = o} {l = l} {k = k} h i) = IsPermutation-trans (o ∷ l) (o ∷ k) m (IsPermutation-cons o l k (arranged_shuffled l k h)) (insert_shuffled k m i)

pub ordered_inserted : (o : Operation) (l : List Operation) → Insert o l (insert_ordered o l)
ordered_inserted o [] = here
ordered_inserted o (y ∷ l) = cond_both (ltb o.version y.version) _ _ (Insert o (y ∷ l)) (λ _. here) (λ _. there (ordered_inserted o l))

end_insert : (v c : ℕ) {o : Operation} {l k : List Operation} → Insert o l k → Insert (end_write v c o) (end_writes v c l) (end_writes v c k)
end_insert v c here = here
end_insert v c (there h) = there (end_insert v c h)

end_arranged : (v c : ℕ) {l k : List Operation} → Arranged l k → Arranged (end_writes v c l) (end_writes v c k)
end_arranged v c done = done
end_arranged v c (more h i) = more (end_arranged v c h) (end_insert v c i)

abbrev Other : Operation → Operation → Type 0
Other o y = y.write ≡ true → y.version ≢ o.version

insert_all : (P : Operation → Type 0) {o : Operation} {l k : List Operation} → Insert o l k → AllByRecursion P k → P o × AllByRecursion P l
insert_all P here h = h
insert_all P (there i) h = let z = insert_all P i h.1 in (z.0, (h.0, z.1))

arranged_all : (P : Operation → Type 0) {l k : List Operation} → Arranged l k → AllByRecursion P k → AllByRecursion P l
arranged_all P done h = tt
arranged_all P (more g i) h = let z = insert_all P i h in (z.0, arranged_all P g z.1)

others_in : {o : Operation} {l k : List Operation} → o.write ≡ true → Insert o l k → EachTwo VersionsRise k → AllByRecursion (Other o) l
others_in t here h = All-weaker _ _ (λ y r w e. omega (arith, r t w)) _ h.0
others_in t (there i) h = let z = insert_all _ i h.0 in ((λ w e. omega (arith, z.0 w t)), others_in t i h.1)

apart : {o : Operation} {l k : List Operation} → o.write ≡ true → Arranged (o ∷ l) k → EachTwo VersionsRise k → AllByRecursion (Other o) l
apart t (more g i) h = arranged_all _ g (others_in t i h)

end_rest : (o : Operation) (c : ℕ) (l : List Operation) → AllByRecursion (Other o) l → end_writes o.version c l ≡ l
end_rest o c [] h = refl
end_rest o c (y ∷ l) h = ap₂ (λ e l. record { write = y.write; begun = y.begun; ended = e; version = y.version; value = y.value } ∷ l) (go y.write refl h.0) (end_rest o c l h.1)
  where
    go : (b : Bool) → y.write ≡ b → (y.write ≡ true → y.version ≢ o.version) → cond (b && eqb y.version o.version) c y.ended ≡ y.ended
    go true e f = cond-false (eqb y.version o.version) _ _ (ne_eqb _ _ (f e))
    go false e f = refl

-- the write o ends
pub ended_arranged : (o : Operation) (c : ℕ) {l k : List Operation} → o.write ≡ true → Arranged (o ∷ l) k → EachTwo VersionsRise k → Arranged (end_write o.version c o ∷ l) (end_writes o.version c k)
ended_arranged o c {l} {k} t h r = subst (λ l. Arranged (end_write o.version c o ∷ l) (end_writes o.version c k)) (end_rest o c l (apart t h r)) (end_arranged o.version c h)
