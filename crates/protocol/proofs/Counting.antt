-- Counting below n: two majorities meet.
use Rattle.std.proofs.Common.{◌≡◌, ℕ, zero, suc, ◌+◌, ◌<◌, ◌≤◌, Bool, true, false, cond, ◌≢◌, sym, refl, ap, ◌∙◌, subst, ap₂, inl, inr, arith}
use Rattle.std.proofs.lemmas.Bool.{cond_both, cond-true, cond-false, both_ways, cases_eq}
use Rattle.protocol.specs.Phases.{majority, count, most}

pub count_mono : (p r : ℕ → Bool) (n : ℕ) → ((i : ℕ) → i < n → p i ≡ true → r i ≡ true) → count p n ≤ count r n
count_mono p r zero h = omega arith
count_mono p r (suc n) h =
    let ih = count_mono p r n (λ i l. h i (omega arith)) in
    cond_both (p n) _ _ (λ z. z ≤ count r (suc n))
    (λ t. cond_both (r n) _ _ (λ z. suc (count p n) ≤ z) (λ _. omega arith) (λ f. absurd (both_ways (r n) f (h n (omega arith) t))))
    (λ _. cond_both (r n) _ _ (λ z. count p n ≤ z) (λ _. omega arith) (λ _. omega arith))

pub count_meet : (p r : ℕ → Bool) (n : ℕ) → n < count p n + count r n → (i : ℕ) × (i < n) × (p i ≡ true) × (r i ≡ true)
count_meet p r zero h = absurd (omega arith)
count_meet p r (suc n) h = go (p n) (r n) refl refl h (count_meet p r n)
  where
    go : (a b : Bool) → p n ≡ a → r n ≡ b → suc n < cond a (suc (count p n)) (count p n) + cond b (suc (count r n)) (count r n) →
        (n < count p n + count r n → (i : ℕ) × (i < n) × (p i ≡ true) × (r i ≡ true)) → (i : ℕ) × (i < suc n) × (p i ≡ true) × (r i ≡ true)
    go true true x y l ih = (n, omega arith, x, y)
    go true false x y l ih = let z = ih (omega arith) in (z.0, omega (arith, z.1), z.2, z.3)
    go false true x y l ih = let z = ih (omega arith) in (z.0, omega (arith, z.1), z.2, z.3)
    go false false x y l ih = let z = ih (omega arith) in (z.0, omega (arith, z.1), z.2, z.3)

pub quorums_meet : (p r : ℕ → Bool) (n : ℕ) → majority n ≤ count p n → majority n ≤ count r n → (i : ℕ) × (i < n) × (p i ≡ true) × (r i ≡ true)
quorums_meet p r n h k = count_meet p r n (omega arith)

pub most_above : (f : ℕ → ℕ) (n i : ℕ) → i < n → f i ≤ most f n
most_above f zero i h = absurd (omega arith)
most_above f (suc n) i h = elim (cases_eq i n) [ inl e ↦ rw e (omega arith) | inr d ↦ omega (arith, most_above f n i (omega arith)) ]

pub count_one : (p r : ℕ → Bool) (n i : ℕ) → i < n → p i ≡ false → r i ≡ true → ((j : ℕ) → i ≢ j → r j ≡ p j) → count r n ≡ suc (count p n)
count_one p r zero i l a b e = absurd (omega arith)
count_one p r (suc n) i l a b e = elim (cases_eq i n) [ inl d ↦ to_remove_largest d | inr d ↦ before d (count_one p r n i (omega arith) a b e) ]
  where
    same : (k : ℕ) → k ≤ i → count r k ≡ count p k
    same zero h = refl
    same (suc k) h = ap₂ (λ t z. cond t (suc z) z) (e k (omega arith)) (same k (omega arith))

    to_remove_largest : i ≡ n → count r (suc n) ≡ suc (count p (suc n))
    to_remove_largest d = let t : r n ≡ true = subst (λ k. r k ≡ true) d b in let f : p n ≡ false = subst (λ k. p k ≡ false) d a in
        cond-true (r n) _ _ t ∙ ap suc (same n (omega arith) ∙ sym (cond-false (p n) _ _ f))

    before : (i ≡ n → ⊥) → count r n ≡ suc (count p n) → count r (suc n) ≡ suc (count p (suc n))
    before d ih = ap₂ (λ t z. cond t (suc z) z) (e n d) ih ∙ cond_both (p n) (suc (count p n)) (count p n) (λ z. cond (p n) (suc (suc (count p n))) (suc (count p n)) ≡ suc z) (λ t. cond-true (p n) _ _ t) (λ f. cond-false (p n) _ _ f)
