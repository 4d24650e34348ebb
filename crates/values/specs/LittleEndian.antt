use Rattle.std.specs.Prelude.{◌≡◌, ℕ, zero, suc, ◌/◌, ◌%◌, ◌^◌, ◌<◌, [], ◌∷◌}
use Rattle.std.proofs.Common.{arith}
use Rattle.std.proofs.Math.Nat.{pow-succ'}
use Rattle.values.specs.Little.{little, unlittle}

-- four bytes as the standard library gives them
pub little_four : (n : ℕ) → little 4 n ≡ n % 256 ∷ (n / 256 % 256 ∷ (n / 65536 % 256 ∷ (n / 16777216 % 256 ∷ [])))
little_four n =
    let a : n / 256 / 256 ≡ n / 65536 = omega arith in
    let b : n / 65536 / 256 ≡ n / 16777216 = omega arith in
    rw (a, b)

pub unlittle_little : (k n : ℕ) → n < 256 ^ k → unlittle (little k n) ≡ n
unlittle_little zero n lt = omega arith
unlittle_little (suc k) n lt =
    let p = pow-succ' 256 k in
    let l : n / 256 < 256 ^ k = omega arith in
    let ih = unlittle_little k (n / 256) l in
    omega arith
