-- Six bytes of a key or a version, written and read.
use Rattle.std.proofs.Common.{◌≡◌, ℕ, ◌+◌, ◌*◌, ◌/◌, ◌%◌, ◌^◌, ◌<◌, ◌≤◌, List, [], ◌∷◌, ◌++◌, length, get_or, take, drop, sym, refl, ap, ◌∙◌, arith}
use Rattle.std.proofs.lemmas.List.{drop_more}
use Rattle.values.specs.Little.{little, unlittle}
use Rattle.values.specs.Rank.{rank}
use Rattle.values.specs.declared.version.Version.{Version}
use Rattle.values.specs.LittleEndian.{unlittle_little, little_four}
use Rattle.journal.specs.Record.{six_bytes, rank_at}

-- six bytes at a place, one by one
pub rank_at_is : (i : ℕ) (bs : List ℕ) → i + 6 ≤ length bs →
    rank_at i bs ≡ (get_or bs i 0 + get_or bs (i + 1) 0 * 256 + get_or bs (i + 2) 0 * 65536 + get_or bs (i + 3) 0 * 16777216) * 65536 + (get_or bs (i + 4) 0 + get_or bs (i + 5) 0 * 256)
unfolding rank_at
rank_at_is i bs le =
    let e₀ = drop_more bs i 0 (omega arith) in
    let e₁ = drop_more bs (i + 1) 0 (omega arith) in
    let e₂ = drop_more bs (i + 2) 0 (omega arith) in
    let e₃ = drop_more bs (i + 3) 0 (omega arith) in
    let e₄ = drop_more bs (i + 4) 0 (omega arith) in
    let e₅ = drop_more bs (i + 5) 0 (omega arith) in
    let p₁ : i + 1 + 1 ≡ i + 2 = omega arith in
    let p₂ : i + 2 + 1 ≡ i + 3 = omega arith in
    let p₃ : i + 3 + 1 ≡ i + 4 = omega arith in
    let p₄ : i + 4 + 1 ≡ i + 5 = omega arith in
    let n : take 4 (drop i bs) ≡ get_or bs i 0 ∷ (get_or bs (i + 1) 0 ∷ (get_or bs (i + 2) 0 ∷ (get_or bs (i + 3) 0 ∷ []))) = rw (e₀, e₁, p₁, e₂, p₂, e₃) refl in
    let s : take 2 (drop (i + 4) bs) ≡ get_or bs (i + 4) 0 ∷ (get_or bs (i + 5) 0 ∷ []) = rw (e₄, p₄, e₅) refl in
    let u = ap unlittle n in
    let v = ap unlittle s in
    omega arith

-- a rank that is written and then read is that rank
pub rank_back : (k : ℕ) (rest : List ℕ) → k < 2 ^ 48 → unlittle (take 4 (six_bytes k ++ rest)) * 65536 + unlittle (take 2 (drop 4 (six_bytes k ++ rest))) ≡ k
unfolding six_bytes
rank_back k rest lt =
    let a = unlittle_little 4 (k / 65536) (omega arith) in
    let b = unlittle_little 2 (k % 65536) (omega arith) in
    omega arith

-- the rank of a version in memory
pub rank_fits : (v : Version) → v.number < 2 ^ 32 → v.seat < 2 ^ 16 → rank v < 2 ^ 48
rank_fits v n s = omega arith

-- the bytes of a version from those of its numbers, as the standard library gives them
pub six_is : (v : Version) (n s : List ℕ) → v.seat < 2 ^ 16 →
    n ≡ v.number % 256 ∷ (v.number / 256 % 256 ∷ (v.number / 65536 % 256 ∷ (v.number / 16777216 % 256 ∷ []))) → s ≡ v.seat % 256 ∷ (v.seat / 256 % 256 ∷ []) →
    get_or n 0 0 ∷ (get_or n 1 0 ∷ (get_or n 2 0 ∷ (get_or n 3 0 ∷ (get_or s 0 0 ∷ (get_or s 1 0 ∷ []))))) ≡ six_bytes (rank v)
unfolding six_bytes
six_is v n s lt en es =
    let d : rank v / 65536 ≡ v.number = omega arith in
    let m : rank v % 65536 ≡ v.seat = omega arith in
    let a : little 4 v.number ++ little 2 v.seat ≡ n ++ s = cc (en ∙ sym (little_four v.number), es) in
    let b : six_bytes (rank v) ≡ little 4 v.number ++ little 2 v.seat = ap (λ x. little 4 x ++ little 2 (rank v % 65536)) d ∙ ap (λ x. little 4 v.number ++ little 2 x) m in
    sym (b ∙ (a ∙ rw (en, es) refl))
