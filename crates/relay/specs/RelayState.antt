use Rattle.std.specs.Prelude.{ℕ, ◌-◌, ◌*◌, Bool, cond, ◌||◌, List, map, length, Some, None, Ok, Err, Option, Result, nat_lt}
use Rattle.std.specs.Option.{option_map}
use Rattle.values.specs.Refusals.{refusal_number}
use Rattle.stores.specs.Provider.{Provider}
use Rattle.protocol.specs.Answers.{Call, Answer, refused}
use Rattle.protocol.specs.State.{State}
use Rattle.protocol.specs.Steps.{step, outside}
use Rattle.records.specs.declared.line.Line.{Line}
use Rattle.records.specs.declared.seat.Seat.{Seat}
use Rattle.relay.specs.Checks.{located, seated}
use Rattle.relay.specs.Sheets.{sheets_state}
use Rattle.relay.specs.declared.inner.Inner.{Inner}
use Rattle.relay.specs.declared.inner.ProviderRecord.{ProviderRecord}
use Rattle.relay.specs.declared.place.Place.{Place}
use Rattle.relay.specs.declared.place.SeatPlace.{SeatPlace}
use Rattle.relay.specs.declared.relay.Relay.{Relay}

-- What a relay and its sheets mean: the number of the refusal of its open, if it was refused; the number of seats; and the
-- protocol's state. The number of providers is the length of the row.
pub record RelayState : Type 0 where
  pub refusal : Option ℕ
  pub seat_count : ℕ
  pub state : State

-- A relay that open refused answers that refusal to every call. Sheets that are too short are refused by 2.
-- Otherwise a call goes on, with the number of providers.
abbrev pub admission : Option ℕ → ℕ → ℕ → ℕ → ℕ → Result ℕ ℕ
admission (Some e) m n seats lines = Err e
admission None m n seats lines = cond (nat_lt seats m || nat_lt lines (m * n)) (Err 2) (Ok n)

-- what a relay over a row is admitted to, with sheets of so many places
abbrev pub admission_of : List Provider → Inner → ℕ → ℕ → Result ℕ ℕ
admission_of row r seats lines = admission (option_map refusal_number r.refused) r.seats (length row) seats lines

abbrev pub with_state : RelayState → State × Answer → RelayState × Answer
with_state R y = (record { refusal = R.refusal; seat_count = R.seat_count; state = y.0 }, y.1)

abbrev pub admitted : Result ℕ ℕ → Call → RelayState → RelayState × Answer
admitted (Ok n) call R = with_state R (step R.seat_count n R.state call)
admitted (Err e) call R = (R, refused e)

-- one call of a relay
abbrev pub relay_step : RelayState → Call → RelayState × Answer
relay_step R call = admitted (admission R.refusal R.seat_count (length R.state.row) (length R.state.seats) (length R.state.lines)) call R

-- which providers are lost, by the relay's records
abbrev pub lost_flags : Inner → List Bool
lost_flags r = map (λ (p : ProviderRecord). p.lost) r.providers

-- what a relay over a row of providers means, with its sheets, by the code of its values
abbrev pub relay_state : {V : Type 0} → (V → List ℕ) → List Provider → Inner → List (Seat V) → List (Line V) → RelayState
relay_state code row r seats lines = record { refusal = option_map refusal_number r.refused; seat_count = r.seats; state = sheets_state code seats lines row (lost_flags r) r.looks }

-- the bank that a relay owns, and what it keeps beside it
abbrev pub bank_of : {V B : Type 0} {g : _} {h : _} → Relay V B g h → B
bank_of r = r.bank

abbrev pub inner_of : {V B : Type 0} {g : _} {h : _} → Relay V B g h → Inner
inner_of r = r.inner

-- what a relay means, with its sheets, by the code of its values and the row of its bank
abbrev pub relay_means : {V B : Type 0} {g : _} {h : _} → (V → List ℕ) → (B → List Provider) → Relay V B g h → List (Seat V) → List (Line V) → RelayState
relay_means code row r seats lines = relay_state code (row (bank_of r)) (inner_of r) seats lines

-- the seat that a number names, and the line that a seat and a provider name, or the first refusal that is met
abbrev pub seat_of : Result ℕ ℕ → ℕ → ℕ → Result SeatPlace ℕ
seat_of (Ok n) m seat = seated m n seat
seat_of (Err e) m seat = Err e

abbrev pub line_of : Result ℕ ℕ → ℕ → ℕ → ℕ → Result Place ℕ
line_of A m seat provider = located (seat_of A m seat) provider

-- what looks answers
abbrev pub looks_answer : Option ℕ → ℕ → Result ℕ ℕ
looks_answer (Some e) looks = Err e
looks_answer None looks = Ok looks

-- the place of the provider that a number names, or the first refusal that is met
abbrev pub provider_of : Result ℕ ℕ → ℕ → Result ℕ ℕ
provider_of (Ok n) provider = cond (outside provider n) (Err 6) (Ok (provider - 1))
provider_of (Err e) provider = Err e
