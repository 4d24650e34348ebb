use Rattle.std.specs.Prelude.{ℕ, zero, suc, ◌+◌, ◌*◌, Bool, false, List, [], slice_index_or, slice_set}
use Rattle.stores.specs.Provider.{Provider}
use Rattle.protocol.specs.Lines.{Line, blank_line, restart_line}
use Rattle.protocol.specs.Seats.{Activity, Seat, blank_seat, turned_to}

-- What a relay of m seats and n providers works on: the seats' records, the lines' records (the line of seat s and provider
-- i, numbered from 1, at place (s - 1) × n + (i - 1)), the providers in a row, which of them are lost, and how often a
-- gathering line had to look a second time. The two sheets may be longer; what lies past m and past m × n is not touched.
pub record State : Type 0 where
  pub seats : List Seat
  pub lines : List Line
  pub row : List Provider
  pub lost : List Bool
  pub looks : ℕ

abbrev pub no_provider : Provider
no_provider = record { capacity = 0; cells = [] }

-- a seat, a line, a provider, and whether it is lost; here s and i are places, from 0 on
abbrev pub seat_at : State → ℕ → Seat
seat_at C s = slice_index_or C.seats s blank_seat

abbrev pub line_at : ℕ → List Line → ℕ → ℕ → Line
line_at n lines s i = slice_index_or lines (s * n + i) blank_line

abbrev pub provider_at : State → ℕ → Provider
provider_at C i = slice_index_or C.row i no_provider

abbrev pub lost_at : State → ℕ → Bool
lost_at C i = slice_index_or C.lost i false

abbrev pub with_line : ℕ → State → ℕ → ℕ → Line → State
with_line n C s i l = record { seats = C.seats; lines = slice_set C.lines (s * n + i) l; row = C.row; lost = C.lost; looks = C.looks }

-- the first k lines of a seat restart
abbrev pub restart_lines : ℕ → ℕ → ℕ → List Line → List Line
restart_lines zero n s lines = lines
restart_lines (suc k) n s lines = slice_set (restart_lines k n s lines) (s * n + k) (restart_line (line_at n lines s k))

-- a seat turns to another activity: a phase starts, or its operation ends
abbrev pub turn : ℕ → ℕ → Activity → State → State
turn n s a C = record { seats = slice_set C.seats s (turned_to a (seat_at C s)); lines = restart_lines n n s C.lines; row = C.row; lost = C.lost; looks = C.looks }
