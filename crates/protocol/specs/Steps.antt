use Rattle.std.specs.Prelude.{ℕ, suc, ◌+◌, ◌-◌, ◌*◌, min, Bool, true, false, cond, not, ◌&&◌, ◌||◌, nat_le, slice_set}
use Rattle.stores.specs.Provider.{Provider}
use Rattle.protocol.specs.Answers.{Call, begin_write, begin_read, post, land, fetch, stop, lose, Answer, ok, on, dropped, refused}
use Rattle.protocol.specs.Lines.{LineState, free, sent, answered, is_free, Progress, Line}
use Rattle.protocol.specs.Moves.{advance}
use Rattle.protocol.specs.Phases.{PhaseResult, goes_on, turns, phase_result}
use Rattle.protocol.specs.Requests.{Reply, keys_are, got, accepted, refused_by, reply, served}
use Rattle.protocol.specs.Seats.{Activity, stopped, listing, gathering, activity, is_idle, is_stopped, turned_to}
use Rattle.protocol.specs.Stages.{foreign, request_of}
use Rattle.protocol.specs.State.{State, seat_at, line_at, provider_at, lost_at, with_line, turn}
use Rattle.protocol.specs.declared.stage.Stage.{Stage}
use Rattle.protocol.specs.declared.stage.Stage.TheVariants as at

-- A call whose check fails is refused with a number, and changes nothing. Checks stand in their order.
abbrev pub refuse : State → ℕ → State × Answer
refuse C e = (C, refused e)

abbrev pub check : Bool → ℕ → State → State × Answer → State × Answer
check fails e C go = cond fails (refuse C e) go

abbrev pub outside : ℕ → ℕ → Bool
outside s m = not (nat_le 1 s && nat_le s m)

-- Begin a write or a read: listing or gathering.
abbrev pub begin_at : ℕ → ℕ → Activity → State → State × Answer
begin_at n s a C = check (is_stopped (activity (seat_at C s))) 7 C (check (not (is_idle (activity (seat_at C s)))) 8 C (turn n s a C, ok))

abbrev pub begin_step : ℕ → ℕ → ℕ → Activity → State → State × Answer
begin_step m n s a C = check (outside s m) 5 C (begin_at n (s - 1) a C)

-- Post: the line gets its stage's request, and is sent.
abbrev pub post_line : Activity → Line → Line
post_line a l = record { state = sent false (request_of a l.progress); progress = l.progress }

abbrev pub post_at : ℕ → ℕ → ℕ → Activity → Line → State → State × Answer
post_at n s i a l C = check (is_stopped a) 7 C (check (is_idle a || foreign a l) 9 C (check l.progress.done 10 C (check (not (is_free l.state)) 11 C (with_line n C s i (post_line a l), ok))))

abbrev pub post_step : ℕ → ℕ → ℕ → ℕ → State → State × Answer
post_step m n s i C = check (outside s m) 5 C (check (outside i n) 6 C (post_at n (s - 1) (i - 1) (activity (seat_at C (s - 1))) (line_at n C.lines (s - 1) (i - 1)) C))

-- Land: the provider carries the line's request out, and the line has its answer.
abbrev pub land_line : ℕ → ℕ → ℕ → Provider → Progress → LineState → State → State × Answer
land_line n s i d p free C = refuse C 13
land_line n s i d p (answered b r) C = refuse C 13
land_line n s i d p (sent b q) C = (record { seats = C.seats; lines = slice_set C.lines (s * n + i) (record { state = answered b (reply q d); progress = p }); row = slice_set C.row i (served q d); lost = C.lost; looks = C.looks }, ok)

abbrev pub land_at : ℕ → ℕ → ℕ → Line → State → State × Answer
land_at n s i l C = check (lost_at C i) 12 C (land_line n s i (provider_at C i) l.progress l.state C)

abbrev pub land_step : ℕ → ℕ → ℕ → ℕ → State → State × Answer
land_step m n s i C = check (outside s m) 5 C (check (outside i n) 6 C (land_at n (s - 1) (i - 1) (line_at n C.lines (s - 1) (i - 1)) C))

-- A second look: a line at the standing key is not done by its answer, and lists again. The count stays at 2³² - 1.
abbrev pub at_standing : Stage → Bool
at_standing at.List = false
at_standing at.RemoveOlder = false
at_standing at.PutStanding = false
at_standing at.PutOwn = false
at_standing at.RemoveLargest = false
at_standing at.GetLargest = false
at_standing at.GetStanding = true

abbrev pub looks_after : ℕ → Progress → Progress → ℕ
looks_after k before after = cond (at_standing before.stage && not after.done) (min 4294967295 (k + 1)) k

-- Fetch: the line is free again. A stale answer is dropped. Another one moves the line, and may end the seat's phase;
-- but where a put found no room, fetch answers "on".
abbrev pub freed : ℕ → ℕ → ℕ → Progress → ℕ → State → State
freed n s i p k C = record { seats = C.seats; lines = slice_set C.lines (s * n + i) (record { state = free; progress = p }); row = C.row; lost = C.lost; looks = k }

abbrev pub conclude : ℕ → ℕ → PhaseResult → State → State × Answer
conclude n s goes_on C = (C, on)
conclude n s (turns a y) C = (turn n s a C, y)

abbrev pub unless_full : Reply → PhaseResult → PhaseResult
unless_full (keys_are l) y = y
unless_full (got o) y = y
unless_full accepted y = y
unless_full (refused_by e) y = goes_on

abbrev pub judge : ℕ → ℕ → Activity → Reply → State → State × Answer
judge n s a r C = conclude n s (unless_full r (phase_result n (suc s) (line_at n C.lines s) a)) C

abbrev pub take_answer : ℕ → ℕ → ℕ → Activity → Reply → Progress → State → State × Answer
take_answer n s i a r p C = judge n s a r (freed n s i (advance a r p) (looks_after C.looks p (advance a r p)) C)

abbrev pub fetch_line : ℕ → ℕ → ℕ → Activity → Progress → LineState → State → State × Answer
fetch_line n s i a p free C = refuse C 14
fetch_line n s i a p (sent b q) C = refuse C 14
fetch_line n s i a p (answered true r) C = (freed n s i p C.looks C, dropped)
fetch_line n s i a p (answered false r) C = check (foreign a (record { state = answered false r; progress = p })) 14 C (take_answer n s i a r p C)

abbrev pub fetch_at : ℕ → ℕ → ℕ → Activity → Line → State → State × Answer
fetch_at n s i a l C = check (is_stopped a) 7 C (fetch_line n s i a l.progress l.state C)

abbrev pub fetch_step : ℕ → ℕ → ℕ → ℕ → State → State × Answer
fetch_step m n s i C = check (outside s m) 5 C (check (outside i n) 6 C (fetch_at n (s - 1) (i - 1) (activity (seat_at C (s - 1))) (line_at n C.lines (s - 1) (i - 1)) C))

-- Stop a seat: its lines, operation, version and value stay.
abbrev pub stop_at : ℕ → State → State × Answer
stop_at s C = check (is_stopped (activity (seat_at C s))) 7 C (record { seats = slice_set C.seats s (turned_to stopped (seat_at C s)); lines = C.lines; row = C.row; lost = C.lost; looks = C.looks }, ok)

abbrev pub stop_step : ℕ → ℕ → State → State × Answer
stop_step m s C = check (outside s m) 5 C (stop_at (s - 1) C)

-- Lose a provider: answers already given can still be fetched.
abbrev pub lose_at : ℕ → State → State × Answer
lose_at i C = check (lost_at C i) 12 C (record { seats = C.seats; lines = C.lines; row = C.row; lost = slice_set C.lost i true; looks = C.looks }, ok)

abbrev pub lose_step : ℕ → ℕ → State → State × Answer
lose_step n i C = check (outside i n) 6 C (lose_at (i - 1) C)

-- one call of a relay of m seats and n providers
abbrev pub step : ℕ → ℕ → State → Call → State × Answer
step m n C (begin_write s x) = begin_step m n s (listing x) C
step m n C (begin_read s b) = begin_step m n s (gathering b) C
step m n C (post s i) = post_step m n s i C
step m n C (land s i) = land_step m n s i C
step m n C (fetch s i) = fetch_step m n s i C
step m n C (stop s) = stop_step m s C
step m n C (lose i) = lose_step n i C
