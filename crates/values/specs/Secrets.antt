use Rattle.std.specs.Prelude.{ℕ, ◌-◌, cond, List, [], ◌∷◌, ◌++◌, length, take, replicate, Some, None, Ok, Err, Option, Result, nat_le}
use Rattle.values.specs.declared.secret.Secret.{Secret}

-- What a secret's record means: its first bytes, or nothing where its length is above 48.
abbrev pub contents : Secret → List ℕ
contents s = cond (nat_le s.len 48) (take s.len s.bytes) []

-- bytes, and zeros after them up to 48
abbrev pub padded : List ℕ → List ℕ
padded bs = bs ++ replicate (48 - length bs) 0

-- the record of at most 48 bytes: past its length it has zeros
abbrev pub secret_of : List ℕ → Secret
secret_of bs = record { len = length bs; bytes = padded bs }

-- what making a secret answers
abbrev pub make_secret : List ℕ → Result Secret ℕ
make_secret bs = cond (nat_le (length bs) 48) (Ok (secret_of bs)) (Err 17)

-- the 49 bytes of a secret: its length, then 48 bytes
abbrev pub secret_code : List ℕ → List ℕ
secret_code bs = length bs ∷ padded bs

-- The secret in 49 bytes. The bytes past its length are not looked at.
abbrev pub secret_decoded : List ℕ → Option (List ℕ)
secret_decoded [] = None
secret_decoded (n ∷ bs) = cond (nat_le n 48) (Some (take n bs)) None
