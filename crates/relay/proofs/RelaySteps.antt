-- A relay's step, from the line or the refusal that was found.
use Rattle.std.proofs.Common.{◌≡◌, ℕ, ◌+◌, ◌-◌, ◌*◌, Bool, true, false, cond, IsErrAnd, List, length, set, is_ok, Ok, Err, Result, sym, ap, ◌∙◌, ap₂, arith}
use Rattle.std.proofs.lemmas.List.{length-map, set-get_or}
use Rattle.values.specs.Refusals.{refusal_number, numbered}
use Rattle.values.specs.declared.refusal.Refusal.{Refusal}
use Rattle.stores.specs.Provider.{Provider}
use Rattle.protocol.specs.Answers.{Call, post, land, fetch, stop, lose, Answer, ok, refused}
use Rattle.protocol.specs.Lines as lin
use Rattle.protocol.specs.Seats as sea
use Rattle.protocol.specs.Seats.{Activity, stopped, listing, gathering, activity, turned_to}
use Rattle.protocol.specs.State.{State, seat_at, line_at, with_line, lost_at}
use Rattle.protocol.specs.Steps.{check, outside, begin_at, post_line, post_at, stop_at, lose_at}
use Rattle.records.specs.Means.{line_means, seat_means}
use Rattle.records.specs.declared.line.Line.{Line}
use Rattle.records.specs.declared.seat.Seat.{Seat}
use Rattle.relay.specs.Checks.{located, seated, post_check, stop_check}
use Rattle.relay.specs.Effects.{beginning_means, begin_call}
use Rattle.relay.specs.RelayState.{RelayState, admission_of, admitted, with_state, relay_state, relay_step, line_of, seat_of, provider_of}
use Rattle.relay.specs.Sheets.{acknowledged, post_on, land_on, fetch_on}
use Rattle.relay.specs.declared.beginning.Beginning.{Beginning}
use Rattle.relay.specs.declared.beginning.Beginning.TheVariants as begins
use Rattle.relay.specs.declared.inner.Inner.{Inner}
use Rattle.relay.specs.declared.place.Place.{Place}
use Rattle.relay.specs.declared.place.SeatPlace.{SeatPlace}
use Rattle.relay.proofs.Exits.{refused_as}
use Rattle.relay.proofs.Stepping.{checked, post_is, stop_is}

pub step_is : {V : Type 0} (code : V → List ℕ) (row : List Provider) (r : Inner) (seats : List (Seat V)) (lines : List (Line V)) (call : Call) → admitted (admission_of row r (length seats) (length lines)) call (relay_state code row r seats lines) ≡ relay_step (relay_state code row r seats lines) call
step_is code row r seats lines call =
    sym (ap₂ (λ a b. admitted (admission_of row r a b) call (relay_state code row r seats lines)) (length-map seats (seat_means code)) (length-map lines (line_means code)))

-- a call that is refused, and one that makes a step of the protocol
module _ {V : Type 0} (code : V → List ℕ) (row : List Provider) (r : Inner) (seats : List (Seat V)) (lines : List (Line V)) (call : Call) where
  abbrev was : RelayState
  was = relay_state code row r seats lines

  pub call_refused : {T : Type 0} (says : Result T Refusal → Answer) (e : Refusal) (res : Result T Refusal) → IsErrAnd res (λ y. y ≡ e) → (was, says (Err e)) ≡ admitted (admission_of row r (length seats) (length lines)) call was → (was, says res) ≡ relay_step was call
  call_refused says e res h is = refused_as was says e res (relay_step was call) h (is ∙ step_is code row r seats lines call)

  pub call_made : {y z : State × Answer} → y ≡ z → with_state was z ≡ admitted (admission_of row r (length seats) (length lines)) call was → with_state was y ≡ relay_step was call
  call_made step is = ap (with_state was) step ∙ (is ∙ step_is code row r seats lines call)

-- where the seat of a number stands, over n providers
abbrev place_in : ℕ → ℕ → SeatPlace
place_in n s = record { seat = s - 1; start = (s - 1) * n; providers = n }

-- the checks of a seat's and a provider's number
two_refused : (m n s i e : ℕ) (C : State) (go : State × Answer) → Err e ≡ located (seated m n s) i → (C, refused e) ≡ check (outside s m) 5 C (check (outside i n) 6 C go)
two_refused m n s i e C go eq = by (outside s m) eq
  where
    of_line : (d : Bool) → ◌≡◌ {A = Result Place ℕ} (Err e) (cond d (Err 6) (Ok (record { seat = place_in n s; provider = i - 1 }))) → ◌≡◌ {A = State × Answer} (C, refused e) (cond d (C, refused 6) go)
    of_line true eq = cc
    of_line false eq = cc

    by : (b : Bool) → ◌≡◌ {A = Result Place ℕ} (Err e) (located (cond b (Err 5) (Ok (place_in n s))) i) → ◌≡◌ {A = State × Answer} (C, refused e) (cond b (C, refused 5) (check (outside i n) 6 C go))
    by true eq = cc
    by false eq = of_line (outside i n) eq

two_passed : (m n s i : ℕ) (at : Place) (C : State) (go : ℕ → ℕ → ℕ → State × Answer) → Ok at ≡ located (seated m n s) i → go at.seat.providers at.seat.seat at.provider ≡ check (outside s m) 5 C (check (outside i n) 6 C (go n (s - 1) (i - 1)))
two_passed m n s i at C go eq = by (outside s m) eq
  where
    of_line : (d : Bool) → ◌≡◌ {A = Result Place ℕ} (Ok at) (cond d (Err 6) (Ok (record { seat = place_in n s; provider = i - 1 }))) → go at.seat.providers at.seat.seat at.provider ≡ cond d (C, refused 6) (go n (s - 1) (i - 1))
    of_line true eq = absurd (let z : ◌≡◌ {A = ℕ} 0 1 = cc in omega arith)
    of_line false eq =
        let is : at ≡ record { seat = place_in n s; provider = i - 1 } = cc in
        ap (λ (a : Place). go a.seat.providers a.seat.seat a.provider) is

    by : (b : Bool) → ◌≡◌ {A = Result Place ℕ} (Ok at) (located (cond b (Err 5) (Ok (place_in n s))) i) → go at.seat.providers at.seat.seat at.provider ≡ cond b (C, refused 5) (check (outside i n) 6 C (go n (s - 1) (i - 1)))
    by true eq = absurd (let z : ◌≡◌ {A = ℕ} 0 1 = cc in omega arith)
    by false eq = of_line (outside i n) eq

module _ (R : RelayState) (s i : ℕ) where
  pub post_refused : (A : Result ℕ ℕ) (e : ℕ) → Err e ≡ line_of A R.seat_count s i → (R, refused e) ≡ admitted A (post s i) R
  post_refused (Err d) e eq = cc
  post_refused (Ok n) e eq = ap (with_state R) (two_refused R.seat_count n s i e R.state _ eq)

  pub post_found : (A : Result ℕ ℕ) (at : Place) → Ok at ≡ line_of A R.seat_count s i → with_state R (post_on at.seat.providers at.seat.seat at.provider R.state) ≡ admitted A (post s i) R
  post_found (Err d) at eq = absurd (let z : ◌≡◌ {A = ℕ} 0 1 = cc in omega arith)
  post_found (Ok n) at eq = ap (with_state R) (two_passed R.seat_count n s i at R.state (λ n s i. post_on n s i R.state) eq)

  pub fetch_refused_at : (A : Result ℕ ℕ) (e : ℕ) → Err e ≡ line_of A R.seat_count s i → (R, refused e) ≡ admitted A (fetch s i) R
  fetch_refused_at (Err d) e eq = cc
  fetch_refused_at (Ok n) e eq = ap (with_state R) (two_refused R.seat_count n s i e R.state _ eq)

  pub fetch_found : (A : Result ℕ ℕ) (at : Place) → Ok at ≡ line_of A R.seat_count s i → with_state R (fetch_on at.seat.providers at.seat.seat at.provider R.state) ≡ admitted A (fetch s i) R
  fetch_found (Err d) at eq = absurd (let z : ◌≡◌ {A = ℕ} 0 1 = cc in omega arith)
  fetch_found (Ok n) at eq = ap (with_state R) (two_passed R.seat_count n s i at R.state (λ n s i. fetch_on n s i R.state) eq)

  pub land_refused : (A : Result ℕ ℕ) (e : ℕ) → Err e ≡ line_of A R.seat_count s i → (R, refused e) ≡ admitted A (land s i) R
  land_refused (Err d) e eq = cc
  land_refused (Ok n) e eq = ap (with_state R) (two_refused R.seat_count n s i e R.state _ eq)

  pub land_found : (A : Result ℕ ℕ) (at : Place) → Ok at ≡ line_of A R.seat_count s i → with_state R (land_on at.seat.providers at.seat.seat at.provider R.state) ≡ admitted A (land s i) R
  land_found (Err d) at eq = absurd (let z : ◌≡◌ {A = ℕ} 0 1 = cc in omega arith)
  land_found (Ok n) at eq = ap (with_state R) (two_passed R.seat_count n s i at R.state (λ n s i. land_on n s i R.state) eq)

-- what post leaves, from its check
pub post_done : (n s i : ℕ) (C : State) (q : sea.Seat) (l next : lin.Line) (r : Result (Unit {0}) Refusal) (lines : List lin.Line) → q ≡ seat_at C s → l ≡ line_at n C.lines s i → numbered r ≡ post_check (activity q) l → next ≡ cond (is_ok r) (post_line (activity q) l) l → lines ≡ set C.lines (s * n + i) next → (record { seats = C.seats; lines = lines; row = C.row; lost = C.lost; looks = C.looks }, acknowledged r) ≡ post_on n s i C
post_done n s i C q l next (Ok u) lines seat line told is leaves =
    let f : List lin.Line → State × Answer = λ ls. (record { seats = C.seats; lines = ls; row = C.row; lost = C.lost; looks = C.looks }, ok) in
    ap f (leaves ∙ ap (set C.lines (s * n + i)) is)
    ∙ (ap (checked C (with_line n C s i (post_line (activity q) l), ok)) told
    ∙ (sym (post_is n s i (activity q) l C) ∙ ap₂ (λ q l. post_at n s i (activity q) l C) seat line))
post_done n s i C q l next (Err e) lines seat line told is leaves =
    let f : List lin.Line → State × Answer = λ ls. (record { seats = C.seats; lines = ls; row = C.row; lost = C.lost; looks = C.looks }, refused (refusal_number e)) in
    ap f (leaves ∙ (ap (set C.lines (s * n + i)) (is ∙ line) ∙ set-get_or C.lines (s * n + i) lin.blank_line))
    ∙ (ap (checked C (with_line n C s i (post_line (activity q) l), ok)) told
    ∙ (sym (post_is n s i (activity q) l C) ∙ ap₂ (λ q l. post_at n s i (activity q) l C) seat line))

-- what stop leaves, from its check
pub stop_done : (s : ℕ) (C : State) (q next : sea.Seat) (r : Result (Unit {0}) Refusal) (seats : List sea.Seat) → q ≡ seat_at C s → numbered r ≡ stop_check (activity q) → next ≡ cond (is_ok r) (turned_to stopped q) q → seats ≡ set C.seats s next → (record { seats = seats; lines = C.lines; row = C.row; lost = C.lost; looks = C.looks }, acknowledged r) ≡ stop_at s C
stop_done s C q next (Ok u) seats seat told is leaves =
    let f : sea.Seat → State × Answer = λ x. (record { seats = set C.seats s x; lines = C.lines; row = C.row; lost = C.lost; looks = C.looks }, ok) in
    ap (λ x. (record { seats = x; lines = C.lines; row = C.row; lost = C.lost; looks = C.looks }, ok)) leaves
    ∙ (ap f (is ∙ ap (turned_to stopped) seat) ∙ (ap (checked C (f (turned_to stopped (seat_at C s)))) (told ∙ ap (λ q. stop_check (activity q)) seat) ∙ sym (stop_is s C)))
stop_done s C q next (Err e) seats seat told is leaves =
    let f : sea.Seat → State × Answer = λ x. (record { seats = set C.seats s x; lines = C.lines; row = C.row; lost = C.lost; looks = C.looks }, ok) in
    ap (λ x. (record { seats = x; lines = C.lines; row = C.row; lost = C.lost; looks = C.looks }, refused (refusal_number e))) (leaves ∙ (ap (set C.seats s) (is ∙ seat) ∙ set-get_or C.seats s sea.blank_seat))
    ∙ (ap (checked C (f (turned_to stopped (seat_at C s)))) (told ∙ ap (λ q. stop_check (activity q)) seat) ∙ sym (stop_is s C))

-- the check of a seat's number
one_refused : (m n s e : ℕ) (C : State) (go : State × Answer) → Err e ≡ seated m n s → (C, refused e) ≡ check (outside s m) 5 C go
one_refused m n s e C go eq = by (outside s m) eq
  where
    by : (b : Bool) → ◌≡◌ {A = Result SeatPlace ℕ} (Err e) (cond b (Err 5) (Ok (place_in n s))) → ◌≡◌ {A = State × Answer} (C, refused e) (cond b (C, refused 5) go)
    by true eq = cc
    by false eq = cc

one_passed : (m n s : ℕ) (at : SeatPlace) (C : State) (go : ℕ → ℕ → State × Answer) → Ok at ≡ seated m n s → go at.providers at.seat ≡ check (outside s m) 5 C (go n (s - 1))
one_passed m n s at C go eq = by (outside s m) eq
  where
    by : (b : Bool) → ◌≡◌ {A = Result SeatPlace ℕ} (Ok at) (cond b (Err 5) (Ok (place_in n s))) → go at.providers at.seat ≡ cond b (C, refused 5) (go n (s - 1))
    by true eq = absurd (let z : ◌≡◌ {A = ℕ} 0 1 = cc in omega arith)
    by false eq =
        let is : at ≡ place_in n s = cc in
        ap (λ (a : SeatPlace). go a.providers a.seat) is

module _ (R : RelayState) (s : ℕ) where
  pub begin_refused : {V : Type 0} (code : V → List ℕ) (what : Beginning V) (A : Result ℕ ℕ) (e : ℕ) → Err e ≡ seat_of A R.seat_count s → (R, refused e) ≡ admitted A (begin_call code s what) R
  begin_refused code (begins.Write x) (Err d) e eq = cc
  begin_refused code (begins.Read b) (Err d) e eq = cc
  begin_refused code (begins.Write x) (Ok n) e eq = ap (with_state R) (one_refused R.seat_count n s e R.state _ eq)
  begin_refused code (begins.Read b) (Ok n) e eq = ap (with_state R) (one_refused R.seat_count n s e R.state _ eq)

  pub begin_found : {V : Type 0} (code : V → List ℕ) (what : Beginning V) (A : Result ℕ ℕ) (at : SeatPlace) → Ok at ≡ seat_of A R.seat_count s → with_state R (begin_at at.providers at.seat (beginning_means code what) R.state) ≡ admitted A (begin_call code s what) R
  begin_found code what (Err d) at eq = absurd (let z : ◌≡◌ {A = ℕ} 0 1 = cc in omega arith)
  begin_found code (begins.Write x) (Ok n) at eq = ap (with_state R) (one_passed R.seat_count n s at R.state (λ n s. begin_at n s (listing (code x)) R.state) eq)
  begin_found code (begins.Read b) (Ok n) at eq = ap (with_state R) (one_passed R.seat_count n s at R.state (λ n s. begin_at n s (gathering b) R.state) eq)

  pub stop_refused : (A : Result ℕ ℕ) (e : ℕ) → Err e ≡ seat_of A R.seat_count s → (R, refused e) ≡ admitted A (stop s) R
  stop_refused (Err d) e eq = cc
  stop_refused (Ok n) e eq = ap (with_state R) (one_refused R.seat_count n s e R.state _ eq)

  pub stop_found : (A : Result ℕ ℕ) (at : SeatPlace) → Ok at ≡ seat_of A R.seat_count s → with_state R (stop_at at.seat R.state) ≡ admitted A (stop s) R
  stop_found (Err d) at eq = absurd (let z : ◌≡◌ {A = ℕ} 0 1 = cc in omega arith)
  stop_found (Ok n) at eq = ap (with_state R) (one_passed R.seat_count n s at R.state (λ n s. stop_at s R.state) eq)

-- a provider's number, and whether it is lost
module _ (R : RelayState) (i : ℕ) where
  pub lose_refused : (A : Result ℕ ℕ) (e : ℕ) → Err e ≡ provider_of A i → (R, refused e) ≡ admitted A (lose i) R
  lose_refused (Err d) e eq = cc
  lose_refused (Ok n) e eq = ap (with_state R) (by (outside i n) eq)
    where
      by : (b : Bool) → ◌≡◌ {A = Result ℕ ℕ} (Err e) (cond b (Err 6) (Ok (i - 1))) → ◌≡◌ {A = State × Answer} (R.state, refused e) (cond b (R.state, refused 6) (lose_at (i - 1) R.state))
      by true eq = cc
      by false eq = cc

  pub lose_found : (A : Result ℕ ℕ) (k : ℕ) → Ok k ≡ provider_of A i → with_state R (lose_at k R.state) ≡ admitted A (lose i) R
  lose_found (Err d) k eq = absurd (let z : ◌≡◌ {A = ℕ} 0 1 = cc in omega arith)
  lose_found (Ok n) k eq = ap (with_state R) (by (outside i n) eq)
    where
      by : (b : Bool) → ◌≡◌ {A = Result ℕ ℕ} (Ok k) (cond b (Err 6) (Ok (i - 1))) → lose_at k R.state ≡ cond b (R.state, refused 6) (lose_at (i - 1) R.state)
      by true eq = absurd (let z : ◌≡◌ {A = ℕ} 0 1 = cc in omega arith)
      by false eq = ap (λ j. lose_at j R.state) (let z : k ≡ i - 1 = cc in z)

pub already_lost : (i : ℕ) (C : State) → lost_at C i ≡ true → (C, refused 12) ≡ lose_at i C
already_lost i C is = sym (ap (λ b. check b 12 C (record { seats = C.seats; lines = C.lines; row = C.row; lost = set C.lost i true; looks = C.looks }, ok)) is)

pub now_lost : (i : ℕ) (C : State) (flags : List Bool) → lost_at C i ≡ false → flags ≡ set C.lost i true → (record { seats = C.seats; lines = C.lines; row = C.row; lost = flags; looks = C.looks }, ok) ≡ lose_at i C
now_lost i C flags is eq =
    let f : List Bool → State × Answer = λ l. (record { seats = C.seats; lines = C.lines; row = C.row; lost = l; looks = C.looks }, ok) in
    ap f eq ∙ sym (ap (λ b. check b 12 C (record { seats = C.seats; lines = C.lines; row = C.row; lost = set C.lost i true; looks = C.looks }, ok)) is)
