-- A seat and its own lines in the sheets: what a step of theirs is to the state of the sheets.
use Rattle.std.proofs.Common.{◌≡◌, ℕ, ◌+◌, ◌-◌, ◌*◌, ◌<◌, ◌≤◌, Bool, List, ◌++◌, length, get_or, take, drop, set, is_err, Ok, Err, Result, sym, ap, ◌∙◌, ap₂, arith, length-drop}
use Rattle.std.proofs.lemmas.List.{map-set, map-append, length-map, length-take-le, get_or-map, set-get_or, take-append-drop, drop-set-lt}
use Rattle.std.specs.Result.{OnOk, IsErrAnd}
use Rattle.std.proofs.lemmas.Bool.{true≢false}
use Rattle.std.proofs.lemmas.Slice.{drop-put_mid}
use borrow.Rule.Slice.PartMut.{put_mid}
use Rattle.stores.specs.Provider.{Provider}
use Rattle.protocol.specs.Answers.{Answer}
use Rattle.protocol.specs.Lines as lin
use Rattle.protocol.specs.Seats as sea
use Rattle.protocol.specs.State.{State, line_at}
use Rattle.records.specs.Means.{line_means, seat_means}
use Rattle.records.specs.declared.line.Line.{Line}
use Rattle.records.specs.declared.seat.Seat.{Seat}
use Rattle.relay.specs.Checks.{Within}
use Rattle.relay.specs.Effects.{Others, among, Steps, BeyondAll, WrittenAt, WrittenFrom, LineWritten}
use Rattle.relay.specs.Sheets.{sheets_state, seats_mean, lines_mean}
use Rattle.relay.specs.declared.place.SeatPlace.{SeatPlace}

module _ {V : Type 0} (seats : List (Seat V)) (lines : List (Line V)) {m n : ℕ} {at : SeatPlace} {k : ℕ} (counts : k ≡ at.providers) (w : Within m n (length seats) (length lines) at) where
  abbrev own : List (Line V)
  own = take k (drop at.start lines)

  kept : put_mid at.start k lines own ≡ lines
  kept = ap (λ x. take at.start lines ++ x) (take-append-drop k (drop at.start lines)) ∙ take-append-drop at.start lines

  own_long : length own ≡ at.providers
  own_long = length-take-le k (drop at.start lines) (omega (arith, length-drop at.start lines, w.end, w.lines)) ∙ counts

  pub unchanged : (x next : Seat V) (lines_now : List (Line V)) → (next ≡ get_or seats at.seat x) × (lines_now ≡ own) → (set seats at.seat next ≡ seats) × (put_mid at.start k lines lines_now ≡ lines)
  unchanged x next lines_now same =
      (ap (set seats at.seat) same.0 ∙ set-get_or seats at.seat x, ap (put_mid at.start k lines) same.1 ∙ kept)

  pub beyond_all : (next : Seat V) (lines_now : List (Line V)) → length lines_now ≡ length own → BeyondAll m n seats lines (set seats at.seat next) (put_mid at.start k lines lines_now)
  beyond_all next lines_now long =
      record {
        seats = drop-set-lt m seats at.seat next w.seat;
        lines = drop-put_mid at.start k lines lines_now (m * n) (omega (arith, w.end, counts)) (omega (arith, w.end, w.lines)) (long ∙ (own_long ∙ sym counts));
      }

  module _ (code : V → List ℕ) (row : List Provider) (lost : List Bool) where
    abbrev others : Others
    others = record { seats = seats_mean code seats; before = lines_mean code (take at.start lines); after = lines_mean code (drop k (drop at.start lines)); row = row; lost = lost }

    placed : (next : Seat V) (lines_now : List (Line V)) (looks : ℕ) → sheets_state code (set seats at.seat next) (put_mid at.start k lines lines_now) row lost looks ≡ among others at.seat (seat_means code next) (lines_mean code lines_now) looks
    placed next lines_now looks =
        let f : List sea.Seat → List lin.Line → State = λ x y. record { seats = x; lines = y; row = row; lost = lost; looks = looks } in
        ap₂ f
        (map-set (seat_means code) seats at.seat next)
        (map-append (line_means code) (take at.start lines) (lines_now ++ drop k (drop at.start lines))
        ∙ ap (λ x. lines_mean code (take at.start lines) ++ x) (map-append (line_means code) lines_now (drop k (drop at.start lines))))

    stood : (x : Seat V) (looks : ℕ) → sheets_state code seats lines row lost looks ≡ among others at.seat (seat_means code (get_or seats at.seat x)) (lines_mean code own) looks
    stood x looks =
        ap₂ (λ x y. sheets_state code x y row lost looks) (sym (set-get_or seats at.seat x)) (sym kept) ∙ placed (get_or seats at.seat x) own looks

    pub step_placed : (step : ℕ → State → State × Answer) (x next : Seat V) (lines_now : List (Line V)) (looked looks : ℕ) (answer : Answer) → Steps code at.seat (step (length own)) (get_or seats at.seat x) own looked next lines_now looks answer → (sheets_state code (set seats at.seat next) (put_mid at.start k lines lines_now) row lost looks, answer) ≡ step at.providers (sheets_state code seats lines row lost looked)
    step_placed step x next lines_now looked looks answer h =
        ap (λ C. (C, answer)) (placed next lines_now looks)
        ∙ (h others (omega (arith, length-map seats (seat_means code), w.seat, w.seats)) (length-map (take at.start lines) (line_means code) ∙ (length-take-le at.start lines (omega (arith, w.end, w.lines)) ∙ (w.start ∙ ap (λ j. at.seat * j) (sym own_long))))
        ∙ (ap (λ j. step j (among others at.seat (seat_means code (get_or seats at.seat x)) (lines_mean code own) looked)) own_long
        ∙ ap (step at.providers) (sym (stood x looked))))

-- a seat, its own lines, and one of them lie in the sheets
module _ {m n seats lines : ℕ} {at : SeatPlace} (w : Within m n seats lines at) where
  pub seat_within : at.seat < seats
  seat_within = omega (arith, w.seat, w.seats)

  pub own_within : at.start ≤ lines
  own_within = omega (arith, w.end, w.lines)

  pub line_within : (i : ℕ) → i < at.providers → at.start + i < lines
  line_within i here = omega (arith, w.end, w.lines, here)

-- one line of a seat, as a call reads and writes it
module _ {V : Type 0} (code : V → List ℕ) (lines : List (Line V)) {m n seats : ℕ} {at : SeatPlace} (w : Within m n seats (length lines) at) {i : ℕ} (here : i < at.providers) where
  pub line_read : (x : Line V) → line_means code (get_or lines (at.start + i) x) ≡ line_at at.providers (lines_mean code lines) at.seat i
  line_read x =
      sym (get_or-map (line_means code) lines (at.start + i) x lin.blank_line (line_within w i here))
      ∙ ap (λ j. get_or (lines_mean code lines) (j + i) lin.blank_line) w.start

  pub line_written : (next : Line V) → lines_mean code (set lines (at.start + i) next) ≡ set (lines_mean code lines) (at.seat * at.providers + i) (line_means code next)
  line_written next =
      map-set (line_means code) lines (at.start + i) next
      ∙ ap (λ j. set (lines_mean code lines) (j + i) (line_means code next)) w.start

  pub line_beyond : (next : Line V) → drop (m * n) (set lines (at.start + i) next) ≡ drop (m * n) lines
  line_beyond next = drop-set-lt (m * n) lines (at.start + i) next (omega (arith, w.end, here))

-- a line that is written as it was read
pub line_kept : {V : Type 0} (lines : List (Line V)) (k : ℕ) (x next : Line V) → next ≡ get_or lines k x → set lines k next ≡ lines
line_kept lines k x next same = ap (set lines k) same ∙ set-get_or lines k x

-- What a call writes of the sheets, where it was found which seat and which line it is about.
module _ {V : Type 0} (lines : List (Line V)) {m n seats : ℕ} {at : SeatPlace} (w : Within m n seats (length lines) at) (s : ℕ) (same : at.seat ≡ s - 1) where
  starts : at.start ≡ (s - 1) * n
  starts = w.start ∙ ap₂ ◌*◌ same w.providers

  pub line_written_at : (i k : ℕ) → k + 1 ≡ i → (next : Line V) → LineWritten n s i lines (set lines (at.start + k) next)
  line_written_at i k here next =
      let place : k ≡ i - 1 = omega arith in
      (next, ap (λ j. set lines j next) (ap₂ ◌+◌ starts place))

  pub lines_written : (k : ℕ) → k ≡ at.providers → (own : List (Line V)) → length own ≡ length (take k (drop at.start lines)) → WrittenFrom ((s - 1) * n) n lines (put_mid at.start k lines own)
  lines_written k counts own long =
      let all : length (take k (drop at.start lines)) ≡ k = length-take-le k (drop at.start lines) (omega (arith, length-drop at.start lines, w.end, w.lines, counts)) in
      (own, (long ∙ (all ∙ (counts ∙ w.providers)), ap₂ (λ a b. take a lines ++ (own ++ drop b (drop a lines))) starts (counts ∙ w.providers)))

pub seat_written_at : {V : Type 0} (seats : List (Seat V)) (k s : ℕ) → k ≡ s - 1 → (next : Seat V) → WrittenAt (s - 1) seats (set seats k next)
seat_written_at seats k s same next = (next, ap (λ j. set seats j next) same)

-- what holds in any case holds of an accepted result, and anything holds of the acceptance of a refused one
pub if_ok : {T E : Type 0} {P : Type 0} (r : Result T E) → P → OnOk r P
if_ok (Ok x) p = p
if_ok (Err e) p = tt

pub not_ok : {T E : Type 0} (P : Type 0) (Q : E → Type 0) (r : Result T E) → IsErrAnd r Q → OnOk r P
not_ok P Q (Ok x) h = absurd h
not_ok P Q (Err e) h = tt

pub ok_alike : {S T E : Type 0} (P Q : Type 0) (r : Result S E) (q : Result T E) → is_err r ≡ is_err q → (P → Q) → OnOk q P → OnOk r Q
ok_alike P Q (Ok x) (Ok y) same f h = f h
ok_alike P Q (Ok x) (Err y) same f h = absurd (true≢false (sym same))
ok_alike P Q (Err x) q same f h = tt
