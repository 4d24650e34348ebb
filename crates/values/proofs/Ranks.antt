use Rattle.std.proofs.Common.{◌≡◌, ℕ, ◌/◌, ◌%◌, ◌<◌, ap, ◌∙◌, arith}
use Rattle.values.specs.Rank.{rank, version_of}
use Rattle.values.specs.declared.version.Version.{Version}

-- a version is the version of its rank, since its seat has 16 bits
pub version_of_rank : (v : Version) → v.seat < 65536 → version_of (rank v) ≡ v
version_of_rank v fits =
    let n : rank v / 65536 ≡ v.number = omega arith in
    let s : rank v % 65536 ≡ v.seat = omega arith in
    let f : ℕ → Version = λ x. record { number = x; seat = rank v % 65536 } in
    let h : ℕ → Version = λ x. record { number = v.number; seat = x } in
    ap f n ∙ ap h s

-- and a rank is the rank of its version
pub rank_version_of : (r : ℕ) → rank (version_of r) ≡ r
rank_version_of r = omega arith
