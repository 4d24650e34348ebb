use Rattle.std.specs.Prelude.{ℕ, ◌^◌, Bool, true, false, cond, ◌&&◌, List, [], ◌∷◌, ◌++◌, take, replicate, Some, None, Ok, Err, Option, Result, ◌==◌, nat_le, nat_lt}
use Rattle.std.specs.List.{between}
use Rattle.values.specs.Little.{little, unlittle}
use Rattle.values.specs.declared.hold.Hold.{Hold}
use Rattle.values.specs.declared.hold.Hold.TheVariants.{Free, Held}

-- Whether these are a held hold's numbers: the seat has 16 bits, the minutes have 32, and the first is not after the last.
-- (The numbers of a record in memory always have so many bits.)
abbrev pub proper : ℕ → ℕ → ℕ → Bool
proper seat first last = nat_lt seat (2 ^ 16) && (nat_lt last (2 ^ 32) && nat_le first last)

-- What a hold's record means: itself, or the free hold.
abbrev pub hold_means : Hold → Hold
hold_means Free = Free
hold_means (Held seat first last) = cond (proper seat first last) (Held seat first last) Free

-- whether two holds, by their meanings, are the same: both free, or both by one seat for the same minutes
abbrev pub same_hold : Hold → Hold → Bool
same_hold Free Free = true
same_hold (Held seat first last) (Held s f l) = seat == s && (first == f && last == l)
same_hold _ _ = false

-- what making a held hold answers
abbrev pub make_hold : ℕ → ℕ → ℕ → Result Hold ℕ
make_hold seat first last = cond (nat_le first last) (Ok (Held seat first last)) (Err 18)

-- whether a hold, by its meaning, covers a minute
abbrev pub covers_minute : Hold → ℕ → Bool
covers_minute Free t = false
covers_minute (Held seat first last) t = nat_le first t && nat_le t last

-- the 11 bytes of a hold
abbrev pub hold_code : Hold → List ℕ
hold_code Free = 0 ∷ replicate 10 0
hold_code (Held seat first last) = 7 ∷ (little 2 seat ++ (little 4 first ++ little 4 last))

abbrev pub held_decoded : ℕ → ℕ → ℕ → Option Hold
held_decoded seat first last = cond (nat_le first last) (Some (Held seat first last)) None

-- The hold in 11 bytes. The bytes after a 0 are not looked at.
abbrev pub hold_decoded : List ℕ → Option Hold
hold_decoded [] = None
hold_decoded (tag ∷ bs) = cond (tag == 0) (Some Free) (cond (tag == 7) (held_decoded (unlittle (take 2 bs)) (unlittle (between 2 6 bs)) (unlittle (between 6 10 bs))) None)
