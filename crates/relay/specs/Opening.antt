use Rattle.std.specs.Prelude.{◌≡◌, ℕ, zero, suc, ◌+◌, ◌*◌, Bool, true, false, cond, not, ◌&&◌, ◌||◌, List, [], ◌∷◌, length, take, replicate, Some, None, Ok, Err, Result, ◌==◌, nat_le, nat_lt, slice_index_or, slice_set}
use Rattle.stores.specs.Provider.{Provider}
use Rattle.banks.specs.Row.{absent, size_of}
use Rattle.protocol.specs.Lines as lin
use Rattle.protocol.specs.Seats as sea
use Rattle.protocol.specs.Steps.{outside}
use Rattle.protocol.specs.declared.operation.OperationKind.TheVariants.{Write}
use Rattle.protocol.specs.declared.phase.Phase.TheVariants.{Idle}
use Rattle.records.specs.Blanks.{blank_line_record, blank_seat_record}
use Rattle.records.specs.declared.line.Line.{Line}
use Rattle.records.specs.declared.seat.Seat.{Seat}
use Rattle.relay.specs.RelayState.{RelayState}

-- a provider with a capacity that open accepts for m seats; and one that holds no key
abbrev pub suits : ℕ → Provider → Bool
suits m p = nat_le (m + 2) p.capacity && nat_le p.capacity 32

abbrev pub is_empty : Provider → Bool
is_empty p = length p.cells == 0

-- whether the first k providers of a row are all such ones
abbrev pub first_are : (Provider → Bool) → List Provider → ℕ → Bool
first_are such row zero = true
first_are such row (suc k) = first_are such row k && such (slice_index_or row k absent)

-- Open with m seats over a row of providers, and sheets of so many places: whether it is accepted, or the first refusal.
abbrev pub open_check : ℕ → List Provider → ℕ → ℕ → Result (Unit {0}) ℕ
open_check m row seats lines =
    cond (outside m 16 || nat_lt 7 (size_of row)) (Err 1)
    (cond (nat_lt seats m || nat_lt lines (m * size_of row)) (Err 2)
    (cond (not (first_are (suits m) row (size_of row))) (Err 3)
    (cond (not (first_are is_empty row (size_of row))) (Err 4) (Ok tt))))

-- the list with its first k places set to x
abbrev pub cleared : {X : Type 0} → X → ℕ → List X → List X
cleared x zero l = l
cleared x (suc k) l = slice_set (cleared x k l) k x

-- an idle seat with its other fields zero or blank, from the code of the blank value
abbrev pub fresh_seat : List ℕ → sea.Seat
fresh_seat nothing = record { phase = Idle; operation = Write; version = 0; value = nothing }

abbrev pub none_lost : List Bool
none_lost = false ∷ false ∷ false ∷ false ∷ false ∷ false ∷ false ∷ []

-- What open hands over, from its answer: a relay with cleared sheets; or a relay that keeps its refusal, and the sheets.
abbrev pub opened : Result (Unit {0}) ℕ → ℕ → List ℕ → List Provider → List sea.Seat → List lin.Line → RelayState
opened (Ok u) m nothing row seats lines = record { refusal = None; seat_count = m; state = record { seats = cleared (fresh_seat nothing) m seats; lines = cleared lin.blank_line (m * size_of row) lines; row = row; lost = none_lost; looks = 0 } }
opened (Err e) m nothing row seats lines = record { refusal = Some e; seat_count = 0; state = record { seats = seats; lines = lines; row = row; lost = none_lost; looks = 0 } }

-- The first m seats and the first k lines are blank, field by field, where `nothing` is the blank value.
pub record FirstRecordsBlank {V : Type 0} (nothing : V) (m k : ℕ) (all_seats : List (Seat V)) (all_lines : List (Line V)) : Type 0 where
  pub seats : take m all_seats ≡ replicate m (blank_seat_record nothing)
  pub lines : take k all_lines ≡ replicate k blank_line_record
