use Rattle.std.specs.Prelude.{ℕ, zero, suc, ◌+◌, ◌*◌, ◌/◌, ◌%◌, List, [], ◌∷◌}

-- a number as so many bytes, little-endian
abbrev pub little : ℕ → ℕ → List ℕ
little zero n = []
little (suc k) n = n % 256 ∷ little k (n / 256)

-- the number that bytes write, little-endian
abbrev pub unlittle : List ℕ → ℕ
unlittle [] = 0
unlittle (b ∷ bs) = b + 256 * unlittle bs
