-- What an accepted open hands over meets the premise of the law.
use Rattle.std.proofs.Common.{◌≡◌, ℕ, zero, suc, ◌+◌, ◌*◌, ◌<◌, ◌≤◌, true, leb, List, length, get_or, set, is_some, is_ok, is_err, Some, None, Ok, Err, Option, Result, sym, refl, ap, ◌∙◌, ⊎_elim, arith, get_or-set_other, get_or-set_same}
use Rattle.std.specs.Option.{option_map}
use Rattle.std.specs.Result.{OnOk}
use Rattle.std.proofs.ByRecursion.{All-from_get_or}
use Rattle.std.proofs.lemmas.List.{length-set, nil_from_length}
use Rattle.std.proofs.lemmas.Bool.{and_parts, leb-true, eqb-true, cases_eq, true≢false}
use Rattle.values.specs.Refusals.{refusal_number, numbered}
use Rattle.values.specs.declared.refusal.Refusal.{Refusal}
use Rattle.stores.specs.Provider.{Provider}
use Rattle.banks.specs.Row.{absent, size_of}
use Rattle.protocol.specs.Law.{Opened}
use Rattle.protocol.specs.Lines as lin
use Rattle.protocol.specs.Seats as sea
use Rattle.relay.specs.Opening.{suits, is_empty, cleared, fresh_seat, opened}
use Rattle.relay.proofs.Openings.{Passed, few_sized, each_such}

-- a place that was cleared, and how many places there are
pub length_cleared : {X : Type 0} (x : X) (k : ℕ) (l : List X) → length (cleared x k l) ≡ length l
length_cleared x zero l = refl
length_cleared x (suc k) l = length-set (cleared x k l) k x ∙ length_cleared x k l

get_or_cleared : {X : Type 0} (x d : X) (k j : ℕ) (l : List X) → k ≤ length l → j < k → get_or (cleared x k l) j d ≡ x
get_or_cleared x d zero j l le lt = absurd (omega arith)
get_or_cleared x d (suc k) j l le lt =
    ⊎_elim
    (λ e. ap (λ j. get_or (set (cleared x k l) k x) j d) e ∙ get_or-set_same (cleared x k l) k x d (omega (arith, length_cleared x k l)))
    (λ ne. get_or-set_other (cleared x k l) k j x d ne ∙ get_or_cleared x d k j l (omega arith) (omega (arith, ne)))
    (cases_eq j k)

pub is_opened : (m : ℕ) (row : List Provider) (nothing : List ℕ) (seats : List sea.Seat) (lines : List lin.Line) → 1 ≤ length row → Passed m row (length seats) (length lines) → Opened m (length row) (opened (Ok tt) m nothing row seats lines).state
is_opened m row nothing seats lines some h =
    let whole : size_of row ≡ length row = few_sized row h.few in
    record {
      some_provider = omega arith;
      few_seats = omega (arith, h.few_seats);
      row = refl;
      empty = All-from_get_or _ row absent (λ i lt.
          let a : i < size_of row = omega (arith, whole) in
          let room = and_parts (leb (m + 2) (get_or row i absent).capacity) (leb (get_or row i absent).capacity 32) (each_such (suits m) row (size_of row) i h.suitable a) in (
            nil_from_length (get_or row i absent).cells (eqb-true (length (get_or row i absent).cells) 0 (each_such is_empty row (size_of row) i h.unused a)),
            leb-true (m + 2) (get_or row i absent).capacity room.0,
          ));
      flags = omega (arith, h.few, whole);
      seats = omega (arith, h.seats_fit, length_cleared (fresh_seat nothing) m seats);
      lines = omega (arith, h.lines_fit, ap (λ n. m * n) whole, length_cleared lin.blank_line (m * size_of row) lines);
      idle = λ s lt. ap (λ (q : sea.Seat). q.phase) (get_or_cleared (fresh_seat nothing) sea.blank_seat m s seats h.seats_fit lt);
      free = λ k lt. ap (λ (l : lin.Line). l.state) (get_or_cleared lin.blank_line lin.blank_line (m * size_of row) k lines h.lines_fit (omega (arith, lt, ap (λ n. m * n) whole)));
    }

-- what the answer of open says
pub was_accepted : (a : Result (Unit {0}) Refusal) → is_ok a ≡ true → numbered a ≡ Ok tt
was_accepted (Ok u) e = refl
was_accepted (Err x) e = absurd (true≢false (sym e))

module _ (m : ℕ) (nothing : List ℕ) (row : List Provider) (seats : List sea.Seat) (lines : List lin.Line) where
  pub keeps_refusal : (a : Result (Unit {0}) Refusal) (q : Option Refusal) → option_map refusal_number q ≡ (opened (numbered a) m nothing row seats lines).refusal → is_err a ≡ true → is_some q ≡ true
  keeps_refusal (Ok u) q is e = absurd (true≢false (sym e))
  keeps_refusal (Err x) None is e = absurd (let z : ◌≡◌ {A = ℕ} 0 1 = cc in omega arith)
  keeps_refusal (Err x) (Some y) is e = refl

  pub has_seats : (a : Result (Unit {0}) Refusal) → is_ok a ≡ true → (opened (numbered a) m nothing row seats lines).seat_count ≡ m
  has_seats (Ok u) e = refl
  has_seats (Err x) e = absurd (true≢false (sym e))

-- what holds of an accepted answer and of a refused one holds
pub either_way : {P : Type 0} (a : Result (Unit {0}) Refusal) → (is_ok a ≡ true → P) → (is_err a ≡ true → P) → P
either_way (Ok u) f g = f refl
either_way (Err x) f g = g refl

-- what holds once an answer is known to be accepted
pub if_accepted : (a : Result (Unit {0}) Refusal) (P : Type 0) → (is_ok a ≡ true → P) → OnOk a P
if_accepted (Ok u) P f = f refl
if_accepted (Err x) P f = tt
