use Rattle.std.proofs.Common.{◌≡◌, ℕ, zero, suc, ◌/◌, ◌%◌, true, List, [], ◌∷◌, ◌++◌, length, slice_index, refl, sym, ap, ◌∙◌}
use Rattle.values.specs.Little.{little}
use Rattle.values.specs.Holds.{proper, hold_means, hold_code}
use Rattle.values.specs.declared.hold.Hold.TheVariants.{Held}
use Rattle.values.specs.LittleEndian.{little_four}

-- little-endian bytes are as many as are asked for
pub length_little : (k n : ℕ) → length (little k n) ≡ k
length_little zero n = refl
length_little (suc k) n = ap suc (length_little k (n / 256))

-- the bytes of a held hold, from those of its numbers as the standard library gives them
pub held_bytes : (seat first last : ℕ) (s f l : List ℕ) → proper seat first last ≡ true → s ≡ seat % 256 ∷ (seat / 256 % 256 ∷ []) → f ≡ first % 256 ∷ (first / 256 % 256 ∷ (first / 65536 % 256 ∷ (first / 16777216 % 256 ∷ []))) → l ≡ last % 256 ∷ (last / 256 % 256 ∷ (last / 65536 % 256 ∷ (last / 16777216 % 256 ∷ []))) → 7 ∷ (slice_index s 0 ∷ (slice_index s 1 ∷ (slice_index f 0 ∷ (slice_index f 1 ∷ (slice_index f 2 ∷ (slice_index f 3 ∷ (slice_index l 0 ∷ (slice_index l 1 ∷ (slice_index l 2 ∷ (slice_index l 3 ∷ [])))))))))) ≡ hold_code (hold_means (Held seat first last))
held_bytes seat first last s f l ok es ef el =
    let a : hold_code (hold_means (Held seat first last)) ≡ 7 ∷ (little 2 seat ++ (little 4 first ++ little 4 last)) = rw ok refl in
    let b : 7 ∷ (little 2 seat ++ (little 4 first ++ little 4 last)) ≡ 7 ∷ (s ++ (f ++ l)) = cc (es, ef ∙ sym (little_four first), el ∙ sym (little_four last)) in
    sym (a ∙ (b ∙ rw (es, ef, el) refl))
