-- The writes that have a version and have not finished, by functions of the seat, from 0 on.
use Rattle.std.proofs.Common.{◌≡◌, ℕ, zero, suc, ◌<◌, ◌≤◌, true, cond, leb, ◌≢◌, List, [], ◌∷◌, ◌++◌, Some, sym, refl, subst, ap₂, subst₂, inl, inr, arith}
use Rattle.std.proofs.lemmas.Bool.{cond-true, cond-false, le-leb, lt-leb, cases_eq}
use Rattle.protocol.specs.History.{Operation, Doing, resting, writing, reading}
use Rattle.protocol.proofs.Arrangements.{Insert, here, insert_under}
use Rattle.protocol.proofs.Model.{Code}

abbrev pub write_since : ℕ → ℕ → Code → Operation
write_since t v x = record { write = true; begun = t; ended = 0; version = v; value = Some x }

-- the open write of one seat, by when it began, its count of "on", its version, and what it is doing
abbrev pub own : ℕ → ℕ → ℕ → ℕ → Doing → List Operation
own q t o v resting = []
own q t o v (reading b) = []
own q t o v (writing x) = cond (leb q o) (write_since t v x ∷ []) []

pub own_short : (q t o v : ℕ) (x : Code) → o < q → own q t o v (writing x) ≡ []
own_short q t o v x l = cond-false (leb q o) _ _ (lt-leb q o l)

pub own_long : (q t o v : ℕ) (x : Code) → q ≤ o → own q t o v (writing x) ≡ write_since t v x ∷ []
own_long q t o v x l = cond-true (leb q o) _ _ (le-leb q o l)

abbrev pub opens : ℕ → (ℕ → ℕ) → (ℕ → ℕ) → (ℕ → ℕ) → (ℕ → Doing) → ℕ → List Operation
opens q since ons version doing zero = []
opens q since ons version doing (suc k) = own q (since k) (ons k) (version k) (doing k) ++ opens q since ons version doing k

module _ (q : ℕ) (t u : ℕ → ℕ) (o p : ℕ → ℕ) (v w : ℕ → ℕ) (d e : ℕ → Doing) where
  abbrev Same : ℕ → Type 0
  Same s = own q (t s) (o s) (v s) (d s) ≡ own q (u s) (p s) (w s) (e s)

  pub opens_same : (k : ℕ) → ((s : ℕ) → s < k → Same s) → opens q t o v d k ≡ opens q u p w e k
  opens_same zero h = refl
  opens_same (suc k) h = ap₂ ◌++◌ (h k (omega arith)) (opens_same k (λ s l. h s (omega arith)))

  -- one seat has an open write that it had not
  pub opens_insert : (x : Operation) (k s : ℕ) → s < k → own q (t s) (o s) (v s) (d s) ≡ [] → own q (u s) (p s) (w s) (e s) ≡ x ∷ [] → ((i : ℕ) → s ≢ i → Same i) → Insert x (opens q t o v d k) (opens q u p w e k)
  opens_insert x zero s l a b h = absurd (omega arith)
  opens_insert x (suc k) s l a b h = elim (cases_eq s k) [ inl z ↦ now z | inr z ↦ later z (opens_insert x k s (omega arith) a b h) ]
    where
      now : s ≡ k → Insert x (opens q t o v d (suc k)) (opens q u p w e (suc k))
      now z = subst₂ (λ m n. Insert x (m ++ opens q t o v d k) (n ++ opens q u p w e k)) (sym (subst (λ s. own q (t s) (o s) (v s) (d s) ≡ []) z a)) (sym (subst (λ s. own q (u s) (p s) (w s) (e s) ≡ x ∷ []) z b))
          (subst (λ m. Insert x (opens q t o v d k) (x ∷ m)) (opens_same k (λ i i<k. h i (λ y. omega (arith, i<k, y, z)))) here)

      later : s ≢ k → Insert x (opens q t o v d k) (opens q u p w e k) → Insert x (opens q t o v d (suc k)) (opens q u p w e (suc k))
      later z ih = subst (λ m. Insert x (own q (t k) (o k) (v k) (d k) ++ opens q t o v d k) (m ++ opens q u p w e k)) (h k z) (insert_under (own q (t k) (o k) (v k) (d k)) ih)
