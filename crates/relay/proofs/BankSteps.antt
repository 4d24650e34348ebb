-- What land makes of the bank itself, from what it makes of it at the line that was found.
use Rattle.std.proofs.Common.{◌≡◌, ℕ, ◌+◌, ◌-◌, ◌*◌, Bool, true, false, cond, length, Ok, Err, Result, refl, ap, subst, arith}
use Rattle.std.specs.Result.{IsErrAnd}
use Rattle.values.specs.declared.refusal.Refusal.{Refusal}
use Rattle.stores.specs.Provider.{Cell, Provider}
use Rattle.protocol.specs.Answers.{Answer, land, refused}
use Rattle.protocol.specs.Lines.{LineState, free, sent, answered}
use Rattle.protocol.specs.State.{line_at, provider_at}
use Rattle.protocol.specs.Steps.{outside}
use Rattle.relay.specs.BankSteps.{LandStep, BankStep}
use Rattle.relay.specs.Checks.{located}
use Rattle.relay.specs.RelayState.{RelayState, relay_step, line_of, seat_of}
use Rattle.relay.specs.Sheets.{acknowledged}
use Rattle.relay.specs.declared.place.Place.{Place}
use Rattle.relay.specs.declared.place.SeatPlace.{SeatPlace}
use Rattle.relay.proofs.Locating.{inside}

abbrev place_over : ℕ → ℕ → SeatPlace
place_over k s = record { seat = s - 1; start = (s - 1) * k; providers = k }

-- the seat and the provider of a line that was found
pub line_place : (A : Result ℕ ℕ) (m s i : ℕ) (at : Place) → Ok at ≡ line_of A m s i → (at.seat.seat ≡ s - 1) × (at.provider + 1 ≡ i)
line_place (Err e) m s i at eq = absurd (let z : ◌≡◌ {A = ℕ} 0 1 = cc in omega arith)
line_place (Ok k) m s i at eq = by (outside s m) eq
  where
    of_line : (d : Bool) → outside i k ≡ d → ◌≡◌ {A = Result Place ℕ} (Ok at) (cond d (Err 6) (Ok (record { seat = place_over k s; provider = i - 1 }))) → (at.seat.seat ≡ s - 1) × (at.provider + 1 ≡ i)
    of_line true o eq = absurd (let z : ◌≡◌ {A = ℕ} 0 1 = cc in omega arith)
    of_line false o eq =
        let is : at ≡ record { seat = place_over k s; provider = i - 1 } = cc in
        let one = (inside i k o).0 in
        (ap (λ (a : Place). a.seat.seat) is, omega (arith, ap (λ (a : Place). a.provider) is))

    by : (b : Bool) → ◌≡◌ {A = Result Place ℕ} (Ok at) (located (cond b (Err 5) (Ok (place_over k s))) i) → (at.seat.seat ≡ s - 1) × (at.provider + 1 ≡ i)
    by true eq = absurd (let z : ◌≡◌ {A = ℕ} 0 1 = cc in omega arith)
    by false eq = of_line (outside i k) refl eq

-- the place of a seat that was found
pub seat_place : (A : Result ℕ ℕ) (m s : ℕ) (at : SeatPlace) → Ok at ≡ seat_of A m s → at.seat ≡ s - 1
seat_place (Err e) m s at eq = absurd (let z : ◌≡◌ {A = ℕ} 0 1 = cc in omega arith)
seat_place (Ok k) m s at eq = by (outside s m) eq
  where
    by : (b : Bool) → ◌≡◌ {A = Result SeatPlace ℕ} (Ok at) (cond b (Err 5) (Ok (place_over k s))) → at.seat ≡ s - 1
    by true eq = absurd (let z : ◌≡◌ {A = ℕ} 0 1 = cc in omega arith)
    by false eq = let is : at ≡ place_over k s = cc in ap (λ (a : SeatPlace). a.seat) is

module _ {B : Type 0} (puts : B → ℕ → Cell → B → Type 0) (removes : B → ℕ → ℕ → B → Type 0) (x y : B) where
  lands_refused : (i : ℕ) (w : LineState) (p : Provider) (e : ℕ) → LandStep puts removes i w p (refused e) x x
  lands_refused i free p e = refl
  lands_refused i (sent b q) p e = refl
  lands_refused i (answered b r) p e = refl

  -- a land that is refused
  pub not_landed : (R S : RelayState) (s i : ℕ) (r : Result (Unit {0}) Refusal) (e : Refusal) → IsErrAnd r (λ y. y ≡ e) → ◌≡◌ {A = RelayState × Answer} (S, acknowledged r) (relay_step R (land s i)) → BankStep puts removes R (land s i) x x
  not_landed R S s i (Ok u) e h is = absurd h
  not_landed R S s i (Err f) e h is =
      subst (λ a. LandStep puts removes i (line_at (length R.state.row) R.state.lines (s - 1) (i - 1)).state (provider_at R.state (i - 1)) a x x) (ap (λ (z : RelayState × Answer). z.1) is) (lands_refused i _ _ _)

  -- a land at the line that was found
  pub landed_there : (R S : RelayState) (s i j : ℕ) (a : Answer) (w : LineState) (p : Provider) → j ≡ i → w ≡ (line_at (length R.state.row) R.state.lines (s - 1) (i - 1)).state → p ≡ provider_at R.state (i - 1) →
      ◌≡◌ {A = RelayState × Answer} (S, a) (relay_step R (land s i)) → LandStep puts removes j w p a x y → BankStep puts removes R (land s i) x y
  landed_there R S s i j a w p same line provider is h =
      let state = (line_at (length R.state.row) R.state.lines (s - 1) (i - 1)).state in
      subst (λ a. LandStep puts removes i state (provider_at R.state (i - 1)) a x y) (ap (λ (z : RelayState × Answer). z.1) is)
      (subst (λ p. LandStep puts removes i state p a x y) provider
      (subst (λ w. LandStep puts removes i w p a x y) line
      (subst (λ j. LandStep puts removes j w p a x y) same h)))
