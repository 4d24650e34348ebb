-- In a lawful order a read shows no write that is older than one that finished before the read began.
use Rattle.std.proofs.Common.{◌≡◌, ℕ, ◌<◌, ◌≤◌, Bool, true, false, cond, List, [], ◌∷◌, Option, sym, refl, subst, inl, inr, arith}
use Rattle.std.specs.List.{AllByRecursion}
use Rattle.std.proofs.ByRecursion.{All-weaker, all_shuffled}
use Rattle.std.proofs.lemmas.List.Sorted.{IsPermutation-sym}
use Rattle.std.proofs.lemmas.Bool.{both_ways}
use Rattle.protocol.specs.Examples.{old_calls, old_answers, Unlawful}
use Rattle.protocol.specs.History.{Operation}
use Rattle.protocol.specs.Law.{EachTwo, AnyByRecursion, EndedBefore, VersionsRise, InTime, ShowLatest}
use Rattle.protocol.proofs.Model.{Code}

-- an element of a list
abbrev Among : List Operation → Operation → Type 0
Among l o = AnyByRecursion (λ y. y ≡ o) l

members : (l : List Operation) → AllByRecursion (Among l) l
members [] = tt
members (o ∷ l) = (inl refl, All-weaker _ _ (λ y h. inr h) l (members l))

pick : (P : Operation → Type 0) (l : List Operation) (o : Operation) → AllByRecursion P l → Among l o → P o
pick P [] o h a = absurd a
pick P (y ∷ l) o h (inl e) = subst P e h.0
pick P (y ∷ l) o h (inr a) = pick P l o h.1 a

-- after a write of version v, reads show v or more
reads_above : (v : ℕ) (x : Option Code) (l : List Operation) → ShowLatest v x l → AllByRecursion (λ o. o.write ≡ true → v < o.version) l → EachTwo VersionsRise l → AllByRecursion (λ o. o.write ≡ false → v ≤ o.version) l
reads_above v x [] s a r = tt
reads_above v x (o ∷ l) s a r = go o.write refl s (λ s b. reads_above o.version o.value l s b r.1) (λ s. reads_above v x l s a.1 r.1)
  where
    go : (b : Bool) → o.write ≡ b → cond b (ShowLatest o.version o.value l) ((o.version ≡ v) × (o.value ≡ x) × ShowLatest v x l) →
        (ShowLatest o.version o.value l → AllByRecursion (λ y. y.write ≡ true → o.version < y.version) l → AllByRecursion (λ y. y.write ≡ false → o.version ≤ y.version) l) →
        (ShowLatest v x l → AllByRecursion (λ y. y.write ≡ false → v ≤ y.version) l) → AllByRecursion (λ y. y.write ≡ false → v ≤ y.version) (o ∷ l)
    go true e s up same = ((λ f. absurd (both_ways o.write f e)), All-weaker _ _ (λ y h f. omega (arith, h f, a.0 e)) l (up s (All-weaker _ _ (λ y h t. h e t) l r.0)))
    go false e s up same = ((λ _. omega (arith, s.0)), same s.2)

module _ (w r : Operation) (write : w.write ≡ true) (read : r.write ≡ false) (first : EndedBefore r.begun w) where
  never_older : (v : ℕ) (x : Option Code) (l : List Operation) → ShowLatest v x l → EachTwo VersionsRise l → EachTwo InTime l → Among l w → Among l r → w.version ≤ r.version
  never_older v x [] s u t a b = absurd a
  never_older v x (o ∷ l) s u t (inl a) (inl b) = absurd (both_ways o.write (subst (λ y. y.write ≡ false) (sym b) read) (subst (λ y. y.write ≡ true) (sym a) write))
  never_older v x (o ∷ l) s u t (inl a) (inr b) = subst (λ (y : Operation). y.version ≤ r.version) a (pick (λ y. y.write ≡ false → o.version ≤ y.version) l r (reads_above o.version o.value l (subst (λ c. cond c (ShowLatest o.version o.value l) ((o.version ≡ v) × (o.value ≡ x) × ShowLatest v x l)) is s) (All-weaker _ _ (λ y h k. h is k) l u.0) u.1) b read)
    where
      is : o.write ≡ true
      is = subst (λ (y : Operation). y.write ≡ true) (sym a) write
  never_older v x (o ∷ l) s u t (inr a) (inl b) = absurd (subst (λ (y : Operation). InTime y w) b (pick (InTime o) l w t.0 a) first)
  never_older v x (o ∷ l) s u t (inr a) (inr b) = go o.write s (λ v x s. never_older v x l s u.1 t.1 a b)
    where
      go : (c : Bool) → cond c (ShowLatest o.version o.value l) ((o.version ≡ v) × (o.value ≡ x) × ShowLatest v x l) → ((v : ℕ) (x : Option Code) → ShowLatest v x l → w.version ≤ r.version) → w.version ≤ r.version
      go true s rest = rest o.version o.value s
      go false s rest = rest v x s.2

pub old_unlawful : Unlawful 2 3 old_calls old_answers
old_unlawful e h =
    let a = all_shuffled (Among h.order) h.order _ (IsPermutation-sym _ h.order h.exactly) (members h.order) in
    omega (arith, never_older _ _ refl refl (omega arith, omega arith) 0 _ h.order h.shows h.rising h.in_time a.1.0 a.0)
