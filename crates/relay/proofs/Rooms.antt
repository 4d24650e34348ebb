-- What keeps a relay's invariant, and where a relay is known to be one that open accepted.
use Rattle.std.proofs.Common.{◌≡◌, ℕ, ◌-◌, ◌*◌, Bool, true, false, cond, leb, is_none, List, get_or, set, Some, None, Ok, Err, Option, Result, sym, refl, ap, ◌∙◌, arith}
use lib.Seq.{map-set_same}
use Rattle.std.specs.List.{list_all}
use Rattle.std.specs.Option.{option_map}
use Rattle.std.proofs.lemmas.List.Folds.{list_all-map}
use Rattle.values.specs.Refusals.{refusal_number}
use Rattle.values.specs.declared.refusal.Refusal.{Refusal}
use Rattle.stores.specs.Provider.{Provider}
use Rattle.banks.specs.Row.{absent}
use Rattle.protocol.specs.Requests.{Request, list_keys, get_key, put_cell, remove_key, served}
use Rattle.protocol.specs.Lines as lin
use Rattle.protocol.specs.State.{line_at}
use Rattle.protocol.specs.Steps.{outside}
use Rattle.relay.specs.Checks.{located}
use Rattle.relay.specs.RelayState.{admission, line_of}
use Rattle.relay.specs.Room.{lists_fit}
use Rattle.relay.specs.declared.place.Place.{Place}
use Rattle.relay.specs.declared.place.SeatPlace.{SeatPlace}

-- a request leaves a provider's capacity as it was, and so the lists of its row fit as before
same_capacity : (q : Request) (p : Provider) → (served q p).capacity ≡ p.capacity
same_capacity list_keys p = refl
same_capacity (get_key k) p = refl
same_capacity (put_cell c) p = refl
same_capacity (remove_key k) p = refl

pub fit_after : (q : Request) (row : List Provider) (i : ℕ) → lists_fit (set row i (served q (get_or row i absent))) ≡ lists_fit row
fit_after q row i =
    let room : Provider → ℕ = λ p. p.capacity in
    sym (list_all-map (λ c. leb c 32) room (set row i (served q (get_or row i absent))))
    ∙ (ap (list_all (λ c. leb c 32)) (map-set_same room row i (served q (get_or row i absent)) absent (same_capacity q (get_or row i absent)))
    ∙ list_all-map (λ c. leb c 32) room row)

abbrev place_over : ℕ → ℕ → SeatPlace
place_over k s = record { seat = s - 1; start = (s - 1) * k; providers = k }

-- the line that a seat and a provider name is that of the place that was found
pub line_found : (A : Result ℕ ℕ) (m n s i : ℕ) (lines : List lin.Line) (at : Place) → at.seat.providers ≡ n → Ok at ≡ line_of A m s i → line_at at.seat.providers lines at.seat.seat at.provider ≡ line_at n lines (s - 1) (i - 1)
line_found (Err e) m n s i lines at same eq = absurd (let z : ◌≡◌ {A = ℕ} 0 1 = cc in omega arith)
line_found (Ok k) m n s i lines at same eq = by (outside s m) eq
  where
    of_line : (d : Bool) → ◌≡◌ {A = Result Place ℕ} (Ok at) (cond d (Err 6) (Ok (record { seat = place_over k s; provider = i - 1 }))) → line_at at.seat.providers lines at.seat.seat at.provider ≡ line_at n lines (s - 1) (i - 1)
    of_line true eq = absurd (let z : ◌≡◌ {A = ℕ} 0 1 = cc in omega arith)
    of_line false eq =
        let is : at ≡ record { seat = place_over k s; provider = i - 1 } = cc in
        ap (λ k. line_at k lines at.seat.seat at.provider) same ∙ ap (λ (a : Place). line_at n lines a.seat.seat a.provider) is

    by : (b : Bool) → ◌≡◌ {A = Result Place ℕ} (Ok at) (located (cond b (Err 5) (Ok (place_over k s))) i) → line_at at.seat.providers lines at.seat.seat at.provider ≡ line_at n lines (s - 1) (i - 1)
    by true eq = absurd (let z : ◌≡◌ {A = ℕ} 0 1 = cc in omega arith)
    by false eq = of_line (outside i k) eq

-- a relay where a line was found is one that open accepted
pub was_opened : (r : Option Refusal) (m n seats lines k s i : ℕ) (at : Place) → Ok at ≡ line_of (admission (option_map refusal_number r) m n seats lines) k s i → is_none r ≡ true
was_opened None m n seats lines k s i at eq = refl
was_opened (Some e) m n seats lines k s i at eq = absurd (let z : ◌≡◌ {A = ℕ} 0 1 = cc in omega arith)
