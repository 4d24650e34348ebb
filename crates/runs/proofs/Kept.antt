-- What a call leaves of a relay: the number of seats, the number of providers, and the refusal of its open.
use Rattle.std.proofs.Common.{◌≡◌, ℕ, suc, ◌-◌, Bool, true, false, not, ◌||◌, List, length, set, is_some, is_err, Some, None, Ok, Err, Option, Result, refl, ap, ◌∙◌, subst₂, arith}
use Rattle.std.specs.Option.{option_map}
use Rattle.std.proofs.lemmas.List.{length-set}
use Rattle.values.specs.Refusals.{refusal_number}
use Rattle.values.specs.declared.refusal.Refusal.{Refusal}
use Rattle.stores.specs.Provider.{Provider}
use Rattle.protocol.specs.Answers.{Call, begin_write, begin_read, post, land, fetch, stop, lose, Answer, ok, on, refused}
use Rattle.protocol.specs.Lines.{LineState, free, sent, answered, is_free, Progress}
use Rattle.protocol.specs.Moves.{advance}
use Rattle.protocol.specs.Phases.{PhaseResult, goes_on, turns, phase_result}
use Rattle.protocol.specs.Requests.{served}
use Rattle.protocol.specs.Seats.{Activity, listing, gathering, activity, is_idle, is_stopped, stopped, turned_to}
use Rattle.protocol.specs.Stages.{foreign}
use Rattle.protocol.specs.State.{State, seat_at, line_at, provider_at, lost_at, with_line, turn}
use Rattle.protocol.specs.Steps.{check, outside, begin_step, post_line, post_step, land_line, looks_after, freed, conclude, unless_full, take_answer, fetch_line, step}
use Rattle.records.specs.Means.{told}
use Rattle.records.specs.declared.answer.Answer.{Answer as Said}
use Rattle.records.specs.declared.answer.Answer.TheVariants as said
use Rattle.records.specs.declared.line.Line.{Line}
use Rattle.records.specs.declared.seat.Seat.{Seat}
use Rattle.relay.specs.Effects.{BeyondAll}
use Rattle.relay.specs.RelayState.{RelayState, admission, admitted, relay_step}

pub seats_kept : (R : RelayState) (c : Call) → (relay_step R c).0.seat_count ≡ R.seat_count
seats_kept R c = by (admission R.refusal R.seat_count (length R.state.row) (length R.state.seats) (length R.state.lines))
  where
    by : (A : Result ℕ ℕ) → (admitted A c R).0.seat_count ≡ R.seat_count
    by (Ok n) = refl
    by (Err e) = refl

module _ (C : State) where
  -- as many providers as before
  record AsMany (z : State × Answer) : Type 0 where
    many : length z.0.row ≡ length C.row

  same : (z : State × Answer) → length z.0.row ≡ length C.row → AsMany z
  same z e = record { many = e }

  checked : (b : Bool) (e : ℕ) (z : State × Answer) → AsMany z → AsMany (check b e C z)
  checked true e z h = same (C, refused e) refl
  checked false e z h = h

  concluded : (n s : ℕ) (y : PhaseResult) (D : State) → length D.row ≡ length C.row → AsMany (conclude n s y D)
  concluded n s goes_on D h = same (D, on) h
  concluded n s (turns a y) D h = same (turn n s a D, y) h

  landed : (n s i : ℕ) (d : Provider) (p : Progress) (w : LineState) → AsMany (land_line n s i d p w C)
  landed n s i d p free = same (C, refused 13) refl
  landed n s i d p (answered b r) = same (C, refused 13) refl
  landed n s i d p (sent b q) = same (land_line n s i d p (sent b q) C) (length-set C.row i (served q d))

  fetched : (n s i : ℕ) (a : Activity) (p : Progress) (w : LineState) → AsMany (fetch_line n s i a p w C)
  fetched n s i a p free = same (C, refused 14) refl
  fetched n s i a p (sent b q) = same (C, refused 14) refl
  fetched n s i a p (answered true r) = same (fetch_line n s i a p (answered true r) C) refl
  fetched n s i a p (answered false r) =
      let D = freed n s i (advance a r p) (looks_after C.looks p (advance a r p)) C in
      checked (foreign a (record { state = answered false r; progress = p })) 14 (take_answer n s i a r p C) (concluded n s (unless_full r (phase_result n (suc s) (line_at n D.lines s) a)) D refl)

  module _ (m n s : ℕ) where
    begun : (a : Activity) → AsMany (begin_step m n s a C)
    begun a = let q = activity (seat_at C (s - 1)) in checked (outside s m) 5 _ (checked (is_stopped q) 7 _ (checked (not (is_idle q)) 8 _ (same (turn n (s - 1) a C, ok) refl)))

    posted : (i : ℕ) → AsMany (post_step m n s i C)
    posted i =
        let q = activity (seat_at C (s - 1)) in
        let l = line_at n C.lines (s - 1) (i - 1) in
        checked (outside s m) 5 _ (checked (outside i n) 6 _ (checked (is_stopped q) 7 _ (checked (is_idle q || foreign q l) 9 _ (checked l.progress.done 10 _ (checked (not (is_free l.state)) 11 _ (same (with_line n C (s - 1) (i - 1) (post_line q l), ok) refl))))))

  called : (m n : ℕ) (c : Call) → AsMany (step m n C c)
  called m n (begin_write s x) = begun m n s (listing x)
  called m n (begin_read s b) = begun m n s (gathering b)
  called m n (post s i) = posted m n s i
  called m n (land s i) =
      let l = line_at n C.lines (s - 1) (i - 1) in
      checked (outside s m) 5 _ (checked (outside i n) 6 _ (checked (lost_at C (i - 1)) 12 _ (landed n (s - 1) (i - 1) (provider_at C (i - 1)) l.progress l.state)))
  called m n (fetch s i) =
      let q = activity (seat_at C (s - 1)) in
      let l = line_at n C.lines (s - 1) (i - 1) in
      checked (outside s m) 5 _ (checked (outside i n) 6 _ (checked (is_stopped q) 7 _ (fetched n (s - 1) (i - 1) q l.progress l.state)))
  called m n (stop s) = checked (outside s m) 5 _ (checked (is_stopped (activity (seat_at C (s - 1)))) 7 _ (same (record { seats = set C.seats (s - 1) (turned_to stopped (seat_at C (s - 1))); lines = C.lines; row = C.row; lost = C.lost; looks = C.looks }, ok) refl))
  called m n (lose i) = checked (outside i n) 6 _ (checked (lost_at C (i - 1)) 12 _ (same (record { seats = C.seats; lines = C.lines; row = C.row; lost = set C.lost (i - 1) true; looks = C.looks }, ok) refl))

pub providers_kept : (R : RelayState) (c : Call) → length (relay_step R c).0.state.row ≡ length R.state.row
providers_kept R c = by (admission R.refusal R.seat_count (length R.state.row) (length R.state.seats) (length R.state.lines))
  where
    by : (A : Result ℕ ℕ) → length (admitted A c R).0.state.row ≡ length R.state.row
    by (Ok n) = (called R.state R.seat_count n c).many
    by (Err e) = refl

-- a relay that open refused refuses every call
pub refuses : {V : Type 0} (code : V → List ℕ) (R X : RelayState) (o : Option Refusal) (r : Result (Said V) Refusal) (c : Call) → R.refusal ≡ option_map refusal_number o → is_some o ≡ true → ◌≡◌ {A = RelayState × Answer} (X, told code r) (relay_step R c) → is_err r ≡ true
refuses {V} code R X None r c is some step = absurd (let z : ◌≡◌ {A = ℕ} 0 1 = cc in omega arith)
refuses {V} code R X (Some e) r c is some step =
    by r (ap (λ (z : RelayState × Answer). z.1) step ∙ ap (λ o. (admitted (admission o R.seat_count (length R.state.row) (length R.state.seats) (length R.state.lines)) c R).1) is)
  where
    by : (r : Result (Said V) Refusal) → told code r ≡ refused (refusal_number e) → is_err r ≡ true
    by (Err x) eq = refl
    by (Ok said.Accepted) eq = absurd (let z : ◌≡◌ {A = ℕ} 0 1 = cc in omega arith)
    by (Ok said.On) eq = absurd (let z : ◌≡◌ {A = ℕ} 0 1 = cc in omega arith)
    by (Ok said.Dropped) eq = absurd (let z : ◌≡◌ {A = ℕ} 0 1 = cc in omega arith)
    by (Ok (said.Wrote v)) eq = absurd (let z : ◌≡◌ {A = ℕ} 0 1 = cc in omega arith)
    by (Ok (said.Read v x)) eq = absurd (let z : ◌≡◌ {A = ℕ} 0 1 = cc in omega arith)
    by (Ok said.Nothing) eq = absurd (let z : ◌≡◌ {A = ℕ} 0 1 = cc in omega arith)
    by (Ok said.Used) eq = absurd (let z : ◌≡◌ {A = ℕ} 0 1 = cc in omega arith)

-- what was left alone by the calls so far, and by one more
pub further : {V : Type 0} (m n m₀ n₀ : ℕ) (a c e : List (Seat V)) (b d f : List (Line V)) → m ≡ m₀ → n ≡ n₀ → BeyondAll m₀ n₀ a b c d → BeyondAll m n c d e f → BeyondAll m₀ n₀ a b e f
further m n m₀ n₀ a c e b d f is are before last =
    let h = subst₂ (λ m n. BeyondAll m n c d e f) is are last in
    record { seats = h.seats ∙ before.seats; lines = h.lines ∙ before.lines }
