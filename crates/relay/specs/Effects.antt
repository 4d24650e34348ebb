use Rattle.std.specs.Prelude.{◌≡◌, ℕ, ◌+◌, ◌-◌, ◌*◌, ◌<◌, Bool, false, cond, List, ◌++◌, length, take, drop, Ok, Err, Result, slice_index_or, slice_set}
use Rattle.stores.specs.Provider.{Provider}
use Rattle.banks.specs.Row.{absent}
use Rattle.protocol.specs.Answers.{Call, begin_write, begin_read, post, land, fetch, stop, lose, Answer, ok, refused}
use Rattle.protocol.specs.Lines as lin
use Rattle.protocol.specs.Lines.{LineState, free, sent, answered}
use Rattle.protocol.specs.Requests.{reply, served}
use Rattle.protocol.specs.Seats.{Activity, listing, gathering}
use Rattle.protocol.specs.Seats as sea
use Rattle.protocol.specs.State.{State}
use Rattle.records.specs.Means.{seat_means}
use Rattle.records.specs.declared.line.Line.{Line}
use Rattle.records.specs.declared.seat.Seat.{Seat}
use Rattle.relay.specs.Sheets.{lines_mean}
use Rattle.relay.specs.declared.beginning.Beginning.{Beginning}
use Rattle.relay.specs.declared.beginning.Beginning.TheVariants as begins

-- What the inner functions of a relay do, to one seat and its own lines, and to both sheets.

-- What of a state a call of one seat leaves as it is: the other seats, the lines before and after the seat's own, the
-- providers, and which are lost.
pub record Others : Type 0 where
  pub seats : List sea.Seat
  pub before : List lin.Line
  pub after : List lin.Line
  pub row : List Provider
  pub lost : List Bool

-- the state of seat s and its own lines among the others
abbrev pub among : Others → ℕ → sea.Seat → List lin.Line → ℕ → State
among o s seat own looks = record { seats = slice_set o.seats s seat; lines = o.before ++ (own ++ o.after); row = o.row; lost = o.lost; looks = looks }

-- Seat s, its own lines and the count of second looks take a step of the protocol, whatever the others are.
abbrev pub Steps : {V : Type 0} → (V → List ℕ) → ℕ → (State → State × Answer) → Seat V → List (Line V) → ℕ → Seat V → List (Line V) → ℕ → Answer → Type 0
Steps code s step was were looked now_is now_are looks answer =
    (o : Others) → s < length o.seats → length o.before ≡ s * length were → (among o s (seat_means code now_is) (lines_mean code now_are) looks, answer) ≡ step (among o s (seat_means code was) (lines_mean code were) looked)

-- Seats past the first m, and lines past the first m × n, are exactly as they were.
pub record BeyondAll {V : Type 0} (m n : ℕ) (was : List (Seat V)) (were : List (Line V)) (now_is : List (Seat V)) (now_are : List (Line V)) : Type 0 where
  pub seats : drop m now_is ≡ drop m was
  pub lines : drop (m * n) now_are ≡ drop (m * n) were

-- Of a sheet at most the record at place k was written; or at most the n records from place k on. All others are themselves as
-- they were.
abbrev pub WrittenAt : {X : Type 0} → ℕ → List X → List X → Type 0
WrittenAt {X} k was now_is = (x : X) × (now_is ≡ slice_set was k x)

abbrev pub WrittenFrom : {X : Type 0} → ℕ → ℕ → List X → List X → Type 0
WrittenFrom {X} k n was now_is = (own : List X) × ((length own ≡ n) × (now_is ≡ take k was ++ (own ++ drop n (drop k was))))

-- Seat s, and its lines at n providers, may be written; or its line at provider i alone. Both count from 1.
abbrev pub SeatWritten : {V : Type 0} → ℕ → ℕ → List (Seat V) → List (Line V) → List (Seat V) → List (Line V) → Type 0
SeatWritten n s was were now_is now_are = WrittenAt (s - 1) was now_is × WrittenFrom ((s - 1) * n) n were now_are

abbrev pub LineWritten : {V : Type 0} → ℕ → ℕ → ℕ → List (Line V) → List (Line V) → Type 0
LineWritten n s i were now_are = WrittenAt ((s - 1) * n + (i - 1)) were now_are

-- what an accepted call may write of the sheets
abbrev pub CallWrites : {V : Type 0} → ℕ → Call → List (Seat V) → List (Line V) → List (Seat V) → List (Line V) → Type 0
CallWrites n (begin_write s x) was were now_is now_are = SeatWritten n s was were now_is now_are
CallWrites n (begin_read s b) was were now_is now_are = SeatWritten n s was were now_is now_are
CallWrites n (fetch s i) was were now_is now_are = SeatWritten n s was were now_is now_are
CallWrites n (post s i) was were now_is now_are = (now_is ≡ was) × LineWritten n s i were now_are
CallWrites n (land s i) was were now_is now_are = (now_is ≡ was) × LineWritten n s i were now_are
CallWrites n (stop s) was were now_is now_are = WrittenAt (s - 1) was now_is × (now_are ≡ were)
CallWrites n (lose i) was were now_is now_are = (now_is ≡ was) × (now_are ≡ were)

-- what a seat begins, and by which call
abbrev pub beginning_means : {V : Type 0} → (V → List ℕ) → Beginning V → Activity
beginning_means code (begins.Write x) = listing (code x)
beginning_means code (begins.Read b) = gathering b

abbrev pub begin_call : {V : Type 0} → (V → List ℕ) → ℕ → Beginning V → Call
begin_call code s (begins.Write x) = begin_write s (code x)
begin_call code s (begins.Read b) = begin_read s b

-- what land comes to on a line's state: a refusal, or the reply and the step of the provider
abbrev pub landing : LineState → Provider → Result (LineState × Provider) ℕ
landing free p = Err 13
landing (answered b r) p = Err 13
landing (sent b q) p = Ok (answered b (reply q p), served q p)

abbrev pub land_check : Bool → LineState → Provider → Result (LineState × Provider) ℕ
land_check lost w p = cond lost (Err 12) (landing w p)

-- What land leaves at provider i of a row, from the answer of its check: the row of providers, and the line.
abbrev pub LandedAs : ℕ → List Provider → lin.Line → Result (LineState × Provider) ℕ → Answer → List Provider → lin.Line → Type 0
LandedAs i row line (Err e) a row_now line_now = (a ≡ refused e) × (row_now ≡ row) × (line_now ≡ line)
LandedAs i row line (Ok w) a row_now line_now = (a ≡ ok) × (row_now ≡ slice_set row i w.1) × (line_now ≡ record { state = w.0; progress = line.progress })

abbrev pub Landed : ℕ → List Bool → List Provider → lin.Line → Answer → List Provider → lin.Line → Type 0
Landed i lost row line a row_now line_now =
    LandedAs i row line (land_check (slice_index_or lost i false) line.state (slice_index_or row i absent)) a row_now line_now
