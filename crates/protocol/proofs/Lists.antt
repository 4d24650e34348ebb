-- Membership, what holds of each element, and what holds of each two.
use Rattle.std.proofs.Common.{◌≡◌, ℕ, zero, suc, ◌<◌, ◌≤◌, cond, eqb, ◌≢◌, ◌⊎◌, List, [], ◌∷◌, ◌++◌, length, sym, refl, ap, ◌∙◌, subst, inl, inr, arith}
use Rattle.std.specs.List.{AllByRecursion}
use Rattle.std.proofs.ByRecursion.{All-push}
use Rattle.std.proofs.lemmas.Bool.{cond_both, eqb-true, eqb-false, cases_eq}
use Rattle.protocol.specs.Law.{EachTwo}

abbrev pub In : ℕ → List ℕ → Type 0
In x [] = ⊥
In x (y ∷ l) = (x ≡ y) ⊎ In x l

pub pairs_push : {X : Type 0} (R : X → X → Type 0) (l : List X) (y : X) → EachTwo R l → AllByRecursion (λ x. R x y) l → EachTwo R (l ++ (y ∷ []))
pairs_push R [] y p q = (tt, tt)
pairs_push R (x ∷ l) y p q = (All-push (R x) l y p.0 q.0, pairs_push R l y p.1 q.1)

pub all_in : (P : ℕ → Type 0) (l : List ℕ) (x : ℕ) → AllByRecursion P l → In x l → P x
all_in P [] x h m = absurd m
all_in P (y ∷ l) x h (inl e) = subst P (sym e) h.0
all_in P (y ∷ l) x h (inr m) = all_in P l x h.1 m

pub in_all : (P : ℕ → Type 0) (l : List ℕ) → ((x : ℕ) → In x l → P x) → AllByRecursion P l
in_all P [] h = tt
in_all P (y ∷ l) h = (h y (inl refl), in_all P l (λ x m. h x (inr m)))

-- l without x
abbrev pub without_one : ℕ → List ℕ → List ℕ
without_one x [] = []
without_one x (y ∷ l) = cond (eqb x y) l (y ∷ without_one x l)

pub length_without_one : (x : ℕ) (l : List ℕ) → In x l → suc (length (without_one x l)) ≤ length l
length_without_one x [] m = absurd m
length_without_one x (y ∷ l) (inl e) = cond_both (eqb x y) l (y ∷ without_one x l) (λ z. suc (length z) ≤ suc (length l)) (λ _. omega arith) (λ d. absurd (eqb-false x y d e))
length_without_one x (y ∷ l) (inr m) = let ih = length_without_one x l m in cond_both (eqb x y) l (y ∷ without_one x l) (λ z. suc (length z) ≤ suc (length l)) (λ _. omega arith) (λ _. omega arith)

pub in_without_one : (x z : ℕ) (l : List ℕ) → z ≢ x → In z l → In z (without_one x l)
in_without_one x z [] d m = m
in_without_one x z (y ∷ l) d (inl e) = cond_both (eqb x y) l (y ∷ without_one x l) (In z) (λ t. let s = eqb-true x y t in absurd (d (e ∙ sym s))) (λ _. inl e)
in_without_one x z (y ∷ l) d (inr m) = cond_both (eqb x y) l (y ∷ without_one x l) (In z) (λ _. m) (λ _. inr (in_without_one x z l d m))

-- a list without repetition, each of whose elements another has, is no longer than that
pub fits_in : (l k : List ℕ) → EachTwo ◌≢◌ l → AllByRecursion (λ x. In x k) l → length l ≤ length k
fits_in [] k p q = omega arith
fits_in (x ∷ l) k p q =
    let sub : AllByRecursion (λ z. In z (without_one x k)) l = in_all _ l (λ z m. in_without_one x z k (λ e. all_in (λ y. x ≢ y) l z p.0 m (sym e)) (all_in (λ y. In y k) l z q.1 m)) in
    let ih = fits_in l (without_one x k) p.1 sub in
    let more = length_without_one x k q.0 in
    omega arith

abbrev pub upto : ℕ → List ℕ
upto zero = []
upto (suc n) = n ∷ upto n

pub length_upto : (n : ℕ) → length (upto n) ≡ n
length_upto zero = refl
length_upto (suc n) = ap suc (length_upto n)

pub in_upto : (x n : ℕ) → x < n → In x (upto n)
in_upto x zero h = absurd (omega arith)
in_upto x (suc n) h = elim (cases_eq x n) [ inl e ↦ inl e | inr d ↦ inr (in_upto x n (omega arith)) ]

pub all_and : {X : Type 0} (P Q : X → Type 0) (l : List X) → AllByRecursion P l → AllByRecursion Q l → AllByRecursion (λ x. P x × Q x) l
all_and P Q [] h k = tt
all_and P Q (x ∷ l) h k = ((h.0, k.0), all_and P Q l h.1 k.1)
