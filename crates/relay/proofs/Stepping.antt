-- The protocol's steps, from the answers of their checks.
use Rattle.std.proofs.Common.{◌≡◌, ℕ, Bool, true, false, cond, not, ◌||◌, set, Ok, Err, Result, sym, refl, ap, ◌∙◌}
use Rattle.protocol.specs.Answers.{Answer, ok, refused}
use Rattle.protocol.specs.Lines.{is_free, Line}
use Rattle.protocol.specs.Seats.{Activity, stopped, is_idle, is_stopped, activity, turned_to}
use Rattle.protocol.specs.Stages.{foreign}
use Rattle.protocol.specs.State.{State, seat_at, turn, with_line}
use Rattle.protocol.specs.Steps.{begin_at, stop_at, post_line, post_at}
use Rattle.relay.specs.Checks.{begin_check, post_check, stop_check}

-- a refusal, or a step that is carried out
abbrev pub checked : State → State × Answer → Result (Unit {0}) ℕ → State × Answer
checked C go (Ok u) = go
checked C go (Err e) = (C, refused e)

checked_cond : (C : State) (go : State × Answer) (b : Bool) (e : ℕ) (r : Result (Unit {0}) ℕ) → checked C go (cond b (Err e) r) ≡ cond b (C, refused e) (checked C go r)
checked_cond C go true e r = refl
checked_cond C go false e r = refl

pub begin_is : (n s : ℕ) (a : Activity) (C : State) → begin_at n s a C ≡ checked C (turn n s a C, ok) (begin_check (activity (seat_at C s)))
begin_is n s a C =
    let q = activity (seat_at C s) in
    let go : State × Answer = (turn n s a C, ok) in
    sym (checked_cond C go (is_stopped q) 7 (cond (not (is_idle q)) (Err 8) (Ok tt)) ∙ ap (cond (is_stopped q) (C, refused 7)) (checked_cond C go (not (is_idle q)) 8 (Ok tt)))

pub stop_is : (s : ℕ) (C : State) → stop_at s C ≡ checked C (record { seats = set C.seats s (turned_to stopped (seat_at C s)); lines = C.lines; row = C.row; lost = C.lost; looks = C.looks }, ok) (stop_check (activity (seat_at C s)))
stop_is s C =
    let go : State × Answer = (record { seats = set C.seats s (turned_to stopped (seat_at C s)); lines = C.lines; row = C.row; lost = C.lost; looks = C.looks }, ok) in
    sym (checked_cond C go (is_stopped (activity (seat_at C s))) 7 (Ok tt))

pub post_is : (n s i : ℕ) (a : Activity) (l : Line) (C : State) → post_at n s i a l C ≡ checked C (with_line n C s i (post_line a l), ok) (post_check a l)
post_is n s i a l C =
    let go : State × Answer = (with_line n C s i (post_line a l), ok) in
    let three : Result (Unit {0}) ℕ = cond (not (is_free l.state)) (Err 11) (Ok tt) in
    let two : Result (Unit {0}) ℕ = cond l.progress.done (Err 10) three in
    let one : Result (Unit {0}) ℕ = cond (is_idle a || foreign a l) (Err 9) two in
    sym (checked_cond C go (is_stopped a) 7 one
    ∙ ap (cond (is_stopped a) (C, refused 7)) (checked_cond C go (is_idle a || foreign a l) 9 two
    ∙ ap (cond (is_idle a || foreign a l) (C, refused 9)) (checked_cond C go l.progress.done 10 three
    ∙ ap (cond l.progress.done (C, refused 10)) (checked_cond C go (not (is_free l.state)) 11 (Ok tt)))))
