-- A seat and its own lines among the others of a state: what a step of the protocol reads there, and what it leaves.
use Rattle.std.proofs.Common.{◌≡◌, ℕ, suc, ◌+◌, ◌-◌, ◌*◌, ◌<◌, List, ◌++◌, map, length, set, sym, ap, ◌∙◌, ap₂, arith, get_or-set_same}
use Rattle.std.proofs.lemmas.List.{set-set, set-append_left, set-append_right, length-set}
use Rattle.protocol.specs.Answers as ans
use Rattle.protocol.specs.Lines.{Line, Progress, free, restart_line}
use Rattle.protocol.specs.Moves.{advance}
use Rattle.protocol.specs.Phases.{phase_result}
use Rattle.protocol.specs.Requests.{Reply}
use Rattle.protocol.specs.Seats.{Activity, Seat, blank_seat, activity, turned_to}
use Rattle.protocol.specs.State.{State, seat_at, line_at, turn}
use Rattle.protocol.specs.Steps.{freed, conclude, unless_full, judge, take_answer, looks_after, fetch_at}
use Rattle.relay.specs.Effects.{Others, among}
use Rattle.relay.specs.Sheets.{line_in, fetch_on}
use Rattle.relay.proofs.Own.{line_among, restart_among, same_result}

module _ (o : Others) (n s : ℕ) (q : Seat) (own : List Line) (looks : ℕ) (within : s < length o.seats) (starts : length o.before ≡ s * n) (long : length own ≡ n) where
  pub seat_among : q ≡ seat_at (among o s q own looks) s
  seat_among = sym (get_or-set_same o.seats s q blank_seat within)

  pub own_among : (i : ℕ) → i < n → line_in own i ≡ line_at n (among o s q own looks).lines s i
  own_among i lt = sym (line_among n s o.before own o.after starts i (omega arith))

  pub turn_among : (a : Activity) (next : Seat) (lines : List Line) → next ≡ turned_to a q → lines ≡ map restart_line own → among o s next lines looks ≡ turn n s a (among o s q own looks)
  turn_among a next lines seat again =
      let f : List Seat → List Line → State = λ x y. record { seats = x; lines = y; row = o.row; lost = o.lost; looks = looks } in
      ap₂ f
      (ap (set o.seats s) (seat ∙ ap (turned_to a) seat_among) ∙ sym (set-set o.seats s q (turned_to a (seat_at (among o s q own looks) s))))
      (ap (λ x. o.before ++ (x ++ o.after)) again ∙ sym (restart_among n s o.before own o.after starts long))

  pub freed_among : (i : ℕ) (p : Progress) (k : ℕ) → i < n → among o s q (set own i (record { state = free; progress = p })) k ≡ freed n s i p k (among o s q own looks)
  freed_among i p k lt =
      let l : Line = record { state = free; progress = p } in
      let z : s * n + i - s * n ≡ i = omega arith in
      ap (λ ls. record { seats = set o.seats s q; lines = ls; row = o.row; lost = o.lost; looks = k })
      (sym (set-append_right o.before (own ++ o.after) (s * n) (s * n + i) l starts (omega arith)
      ∙ (ap (λ j. o.before ++ set (own ++ o.after) j l) z
      ∙ ap (λ x. o.before ++ x) (set-append_left own o.after i l (omega arith)))))

  pub judge_among : (a : Activity) (r : Reply) → conclude n s (unless_full r (phase_result n (suc s) (line_in own) a)) (among o s q own looks) ≡ judge n s a r (among o s q own looks)
  judge_among a r =
      ap (λ y. conclude n s (unless_full r y) (among o s q own looks))
      (same_result (line_in own) (line_at n (among o s q own looks).lines s) n (suc s) a own_among)

  pub fetch_among : (i : ℕ) (l : Line) → i < n → l ≡ line_in own i → fetch_at n s i (activity q) l (among o s q own looks) ≡ fetch_on n s i (among o s q own looks)
  fetch_among i l lt is =
      let f : Seat → Line → State × ans.Answer = λ q l. fetch_at n s i (activity q) l (among o s q own looks) in
      ap₂ (λ x l. fetch_at n s i (activity x) l (among o s q own looks)) seat_among (is ∙ own_among i lt)

pub take_among : (o : Others) (n s : ℕ) (q : Seat) (own : List Line) (looks : ℕ) (within : s < length o.seats) (starts : length o.before ≡ s * n) (long : length own ≡ n) (i : ℕ) (a : Activity) (r : Reply) (p : Progress) → i < n → (moved : List Line) (k : ℕ) → moved ≡ set own i (record { state = free; progress = advance a r p }) → k ≡ looks_after looks p (advance a r p) → conclude n s (unless_full r (phase_result n (suc s) (line_in moved) a)) (among o s q moved k) ≡ take_answer n s i a r p (among o s q own looks)
take_among o n s q own looks within starts long i a r p lt moved k is looked =
    judge_among o n s q moved k within starts (ap length is ∙ (length-set own i _ ∙ long)) a r
    ∙ ap (judge n s a r)
    (ap₂ (among o s q) is looked ∙ freed_among o n s q own looks within starts long i (advance a r p) (looks_after looks p (advance a r p)) lt)
