use Rattle.std.specs.Prelude.{ℕ, Bool, List, map, Ok, Err, Result, slice_index_or}
use Rattle.values.specs.Rank.{rank}
use Rattle.values.specs.Refusals.{refusal_number}
use Rattle.values.specs.declared.refusal.Refusal.{Refusal}
use Rattle.stores.specs.Provider.{Provider}
use Rattle.protocol.specs.Answers as ans
use Rattle.protocol.specs.Lines as lin
use Rattle.protocol.specs.Phases as pha
use Rattle.protocol.specs.Seats as sea
use Rattle.protocol.specs.State.{State, seat_at, line_at}
use Rattle.protocol.specs.Steps.{post_at, land_at, fetch_at}
use Rattle.records.specs.Means.{seat_means, line_means, accepted_as}
use Rattle.records.specs.declared.line.Line.{Line}
use Rattle.records.specs.declared.seat.Seat.{Seat}
use Rattle.relay.specs.declared.outcome.Outcome.{Outcome}
use Rattle.relay.specs.declared.outcome.Outcome.TheVariants as out

-- What the sheets of a relay mean, by the code of its values.
abbrev pub seats_mean : {V : Type 0} → (V → List ℕ) → List (Seat V) → List sea.Seat
seats_mean code seats = map (seat_means code) seats

abbrev pub lines_mean : {V : Type 0} → (V → List ℕ) → List (Line V) → List lin.Line
lines_mean code lines = map (line_means code) lines

-- the line at a place among a seat's own
abbrev pub line_in : List lin.Line → ℕ → lin.Line
line_in own i = slice_index_or own i lin.blank_line

-- the protocol's state of two sheets, beside a row of providers, which of them are lost, and the count of second looks
abbrev pub sheets_state : {V : Type 0} → (V → List ℕ) → List (Seat V) → List (Line V) → List Provider → List Bool → ℕ → State
sheets_state code seats lines row lost looks = record { seats = seats_mean code seats; lines = lines_mean code lines; row = row; lost = lost; looks = looks }

-- what a call that is only accepted or refused answers
abbrev pub acknowledged : Result (Unit {0}) Refusal → ans.Answer
acknowledged (Ok u) = ans.ok
acknowledged (Err e) = ans.refused (refusal_number e)

-- what a seat comes to
abbrev pub outcome_means : {V : Type 0} → (V → List ℕ) → Outcome V → pha.PhaseResult
outcome_means code out.GoesOn = pha.goes_on
outcome_means code (out.Ends a) = pha.turns sea.idle (accepted_as code a)
outcome_means code (out.Stores b p) = pha.turns (sea.storing b (rank p.version) (code p.value)) ans.on

-- Post, land and fetch of the line of seat s and provider i, counted from 0.
abbrev pub post_on : ℕ → ℕ → ℕ → State → State × ans.Answer
post_on n s i C = post_at n s i (sea.activity (seat_at C s)) (line_at n C.lines s i) C

abbrev pub land_on : ℕ → ℕ → ℕ → State → State × ans.Answer
land_on n s i C = land_at n s i (line_at n C.lines s i) C

abbrev pub fetch_on : ℕ → ℕ → ℕ → State → State × ans.Answer
fetch_on n s i C = fetch_at n s i (sea.activity (seat_at C s)) (line_at n C.lines s i) C
