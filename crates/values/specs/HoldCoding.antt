use Rattle.std.specs.Prelude.{◌≡◌, ℕ, ◌^◌, Bool, true, false, ◌&&◌, List, [], ◌∷◌, length, Some, nat_eq, nat_le, nat_lt, refl}
use Rattle.std.specs.Cmp.{IsEquivalence}
use Rattle.std.specs.Cmp.Lexicographic.{pointwise, on_texts_equal}
use Rattle.std.proofs.Common.{subst, arith}
use Rattle.std.proofs.lemmas.Bool.{cond_both, and_parts, ltb-true, leb-true}
use Rattle.values.specs.Holds.{proper, hold_means, same_hold, hold_code, hold_decoded}
use Rattle.values.specs.declared.hold.Hold.{Hold}
use Rattle.values.specs.declared.hold.Hold.TheVariants.{Free, Held}
use Rattle.values.specs.LittleEndian.{unlittle_little}

pub length_hold_code : (h : Hold) → length (hold_code h) ≡ 11
length_hold_code Free = refl
length_hold_code (Held seat first last) = refl

decoded_held : (seat first last : ℕ) → proper seat first last ≡ true → hold_decoded (hold_code (Held seat first last)) ≡ Some (Held seat first last)
decoded_held seat first last ok =
    let a = and_parts (nat_lt seat (2 ^ 16)) (nat_lt last (2 ^ 32) && nat_le first last) ok in
    let b = and_parts (nat_lt last (2 ^ 32)) (nat_le first last) a.1 in
    let s = ltb-true seat (2 ^ 16) a.0 in
    let l = ltb-true last (2 ^ 32) b.0 in
    let f = leb-true first last b.1 in
    let us = unlittle_little 2 seat (omega arith) in
    let uf = unlittle_little 4 first (omega arith) in
    let ul = unlittle_little 4 last (omega arith) in
    rw (us, uf, ul, b.1) refl

pub decoded_hold : (h : Hold) → hold_decoded (hold_code (hold_means h)) ≡ Some (hold_means h)
decoded_hold Free = refl
decoded_hold (Held seat first last) =
    cond_both (proper seat first last) (Held seat first last) Free (λ h. hold_decoded (hold_code h) ≡ Some h) (decoded_held seat first last) (λ _. refl)

-- the numbers of a held hold
abbrev parts : Hold → List ℕ
parts Free = []
parts (Held seat first last) = seat ∷ first ∷ last ∷ []

and_true : (b : Bool) → (b && true) ≡ b
and_true true = refl
and_true false = refl

by_parts : (a b : Hold) → pointwise nat_eq (parts a) (parts b) ≡ same_hold a b
by_parts Free Free = refl
by_parts Free (Held s f l) = refl
by_parts (Held seat first last) Free = refl
by_parts (Held seat first last) (Held s f l) = simp and_true

pub same_hold_equivalence : IsEquivalence same_hold
same_hold_equivalence = subst IsEquivalence (λ i a b. by_parts a b i) (on_texts_equal parts)
