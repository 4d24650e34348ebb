-- A sheet of lines as a function of seat and provider.
use Rattle.std.proofs.Common.{◌≡◌, ℕ, ◌+◌, ◌*◌, ◌/◌, ◌%◌, ◌<◌, ◌≤◌, Bool, true, false, cond, ◌&&◌, eqb, ltb, List, length, get_or, set, sym, refl, ap, ◌∙◌, subst, ap₂, arith, get_or-set_other, get_or-set_same}
use lib.Arith.{digits_lt, digits_div, digits_mod}
use Rattle.std.proofs.lemmas.Bool.{eqb-true, eqb-false, ltb-true, lt-ltb, and_parts, and_from, true≢false}
use Rattle.protocol.proofs.ModelSteps.{update_two}

module _ {X : Type 0} (m n : ℕ) (blank : X) where
  abbrev pub at : List X → ℕ → ℕ → X
  at l s i = cond (ltb s m && ltb i n) (get_or l (s * n + i) blank) blank

  same_row : (s o i j : ℕ) → i < n → j < n → s * n + i ≡ o * n + j → s ≡ o
  same_row s o i j a b e = sym (digits_div s a) ∙ (ap (λ k. k / n) e ∙ digits_div o b)

  same_column : (s o i j : ℕ) → i < n → j < n → s * n + i ≡ o * n + j → i ≡ j
  same_column s o i j a b e = sym (digits_mod s a) ∙ (ap (λ k. k % n) e ∙ digits_mod o b)

  -- one line written is one update
  pub at_set : (l : List X) → m * n ≤ length l → (s i : ℕ) (x : X) → s < m → i < n → (o j : ℕ) → at (set l (s * n + i) x) o j ≡ update_two (at l) s i x o j
  at_set l long s i x sm il o j = go (ltb o m && ltb j n) (eqb s o) (eqb i j) refl refl refl
    where
      here : s * n + i < length l
      here = omega (arith, digits_lt sm il)

      go : (a b c : Bool) → (ltb o m && ltb j n) ≡ a → eqb s o ≡ b → eqb i j ≡ c → cond a (get_or (set l (s * n + i) x) (o * n + j) blank) blank ≡ cond b (cond c x (cond a (get_or l (o * n + j) blank) blank)) (cond a (get_or l (o * n + j) blank) blank)
      go true true true t e d = ap₂ (λ o j. get_or (set l (s * n + i) x) (o * n + j) blank) (sym (eqb-true s o e)) (sym (eqb-true i j d)) ∙ get_or-set_same l (s * n + i) x blank here
      go true true false t e d = get_or-set_other l (s * n + i) (o * n + j) x blank (λ q. eqb-false i j d (sym (same_column o s j i (ltb-true j n (and_parts (ltb o m) (ltb j n) t).1) il q)))
      go true false c t e d = get_or-set_other l (s * n + i) (o * n + j) x blank (λ q. eqb-false s o e (sym (same_row o s j i (ltb-true j n (and_parts (ltb o m) (ltb j n) t).1) il q)))
      go false true true t e d = absurd (true≢false (sym (and_from (ltb o m) (ltb j n) (lt-ltb o m (subst (λ o. o < m) (eqb-true s o e) sm)) (lt-ltb j n (subst (λ j. j < n) (eqb-true i j d) il))) ∙ t))
      go false true false t e d = refl
      go false false c t e d = refl
