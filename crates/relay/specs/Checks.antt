use Rattle.std.specs.Prelude.{◌≡◌, ℕ, ◌+◌, ◌-◌, ◌*◌, ◌<◌, ◌≤◌, cond, not, ◌||◌, Ok, Err, Result}
use Rattle.protocol.specs.Lines.{is_free, Line}
use Rattle.protocol.specs.Seats.{Activity, is_idle, is_stopped}
use Rattle.protocol.specs.Stages.{foreign}
use Rattle.protocol.specs.Steps.{outside}
use Rattle.relay.specs.declared.place.Place.{Place}
use Rattle.relay.specs.declared.place.SeatPlace.{SeatPlace}

-- The checks of the calls, as answers: which refusal a call meets, if any.

-- a seat by number, of m, as a place from 0 on, over n providers
abbrev pub seated : ℕ → ℕ → ℕ → Result SeatPlace ℕ
seated m n seat = cond (outside seat m) (Err 5) (Ok (record { seat = seat - 1; start = (seat - 1) * n; providers = n }))

-- the line of a seat, if there is one, and a provider by number
abbrev pub located : Result SeatPlace ℕ → ℕ → Result Place ℕ
located (Ok at) provider = cond (outside provider at.providers) (Err 6) (Ok (record { seat = at; provider = provider - 1 }))
located (Err e) provider = Err e

-- A seat's place, and those of its lines, are among the places of m seats over n providers, for which the sheets have room.
pub record Within (m n seat_room line_room : ℕ) (at : SeatPlace) : Type 0 where
  pub seat : at.seat < m
  pub few : at.seat < 255
  pub providers : at.providers ≡ n
  pub start : at.start ≡ at.seat * at.providers
  pub end : at.start + at.providers ≤ m * n
  pub seats : m ≤ seat_room
  pub lines : m * n ≤ line_room

abbrev pub begin_check : Activity → Result (Unit {0}) ℕ
begin_check a = cond (is_stopped a) (Err 7) (cond (not (is_idle a)) (Err 8) (Ok tt))

abbrev pub post_check : Activity → Line → Result (Unit {0}) ℕ
post_check a l = cond (is_stopped a) (Err 7) (cond (is_idle a || foreign a l) (Err 9) (cond l.progress.done (Err 10) (cond (not (is_free l.state)) (Err 11) (Ok tt))))

abbrev pub stop_check : Activity → Result (Unit {0}) ℕ
stop_check a = cond (is_stopped a) (Err 7) (Ok tt)
