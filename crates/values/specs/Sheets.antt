use Rattle.std.specs.Prelude.{ℕ, cond, List, length, Ok, Err, Option, Result, ◌==◌}
use Rattle.std.specs.Option.{ok_or}

-- A value is written into a sheet of bytes, and read from one, whose length is its kind's width.
-- A sheet of another length, and bytes that are no value of the kind, are refused by 19.

-- what writing a code of some width answers, and what the sheet holds after
abbrev pub write_answer : ℕ → List ℕ → Result (Unit {0}) ℕ
write_answer wide sheet = cond (length sheet == wide) (Ok tt) (Err 19)

abbrev pub write_sheet : ℕ → List ℕ → List ℕ → List ℕ
write_sheet wide code sheet = cond (length sheet == wide) code sheet

-- what reading a sheet answers, where `decoded` reads a sheet of the right length
abbrev pub read_answer : {T : Type 0} → ℕ → (List ℕ → Option T) → List ℕ → Result T ℕ
read_answer wide decoded sheet = cond (length sheet == wide) (ok_or (decoded sheet) 19) (Err 19)
