-- On a relay that open accepted, every call is the protocol's step; so the law of the protocol's runs is that of the relay's.
use Rattle.std.proofs.Common.{◌≡◌, ℕ, zero, suc, ◌*◌, ◌<◌, ◌≤◌, ◌||◌, ltb, List, [], ◌∷◌, length, take, None, Ok, Err, sym, refl, ap, ◌∙◌, subst₂}
use Rattle.std.proofs.lemmas.Bool.{or_from, le-ltb, cond-false}
use Rattle.stores.specs.Provider.{Provider}
use Rattle.protocol.specs.Answers.{Call, Answer}
use Rattle.protocol.specs.History.{History, no_calls}
use Rattle.protocol.specs.Law.{Lawful, Opened, answers, end}
use Rattle.protocol.specs.Lines as lin
use Rattle.protocol.specs.Seats as sea
use Rattle.protocol.specs.State.{State}
use Rattle.protocol.specs.Steps.{step}
use Rattle.protocol.proofs.Lawfulness.{Sound, sound, first, law}
use Rattle.relay.specs.Opening.{open_check, opened}
use Rattle.relay.specs.RelayState.{RelayState, admission, admitted, relay_step}
use Rattle.runs.specs.Runs.{run_answers, run_end, AlwaysLawful}
use Rattle.relay.proofs.Openings.{passed}
use Rattle.runs.proofs.Openings.{is_opened}

-- a relay of m seats that was opened, in a state
abbrev of_state : ℕ → State → RelayState
of_state m C = record { refusal = None; seat_count = m; state = C }

module _ (m n : ℕ) (n0 : 0 < n) (small : m ≤ 65534) where
  module _ (C : State) (H : History) (h : Sound m n n0 small C H) where
    is_admitted : admission None m (length C.row) (length C.seats) (length C.lines) ≡ Ok n
    is_admitted =
        ap (λ k. admission None m k (length C.seats) (length C.lines)) h.sized.row
        ∙ cond-false (ltb (length C.seats) m || ltb (length C.lines) (m * n)) (Err 2) (Ok n) (or_from (ltb (length C.seats) m) (ltb (length C.lines) (m * n)) (le-ltb (length C.seats) m h.sized.seats) (le-ltb (length C.lines) (m * n) h.sized.lines))

    step_same : (c : Call) → ◌≡◌ {A = RelayState × Answer} (relay_step (of_state m C) c) (of_state m (step m n C c).0, (step m n C c).1)
    step_same c = ap (λ A. admitted A c (of_state m C)) is_admitted

  run_same : (cs : List Call) (C : State) (H : History) → Sound m n n0 small C H → (run_answers (of_state m C) cs ≡ answers m n C cs) × (run_end (of_state m C) cs ≡ of_state m (end m n C cs))
  run_same [] C H h = (refl, refl)
  run_same (c ∷ cs) C H h =
      let e = step_same C H h c in
      let rest = run_same cs (step m n C c).0 _ (sound m n n0 small (c ∷ []) C H h) in (
        ap (λ (z : RelayState × Answer). z.1 ∷ run_answers z.0 cs) e ∙ ap (λ l. (step m n C c).1 ∷ l) rest.0,
        ap (λ (z : RelayState × Answer). run_end z.0 cs) e ∙ rest.1,
      )

answers_taken : (k : ℕ) (R : RelayState) (cs : List Call) → run_answers R (take k cs) ≡ take k (run_answers R cs)
answers_taken zero R cs = refl
answers_taken (suc k) R [] = refl
answers_taken (suc k) R (c ∷ cs) = ap (λ l. (relay_step R c).1 ∷ l) (answers_taken k (relay_step R c).0 cs)

pub lawful_runs : (m : ℕ) (row : List Provider) (nothing : List ℕ) (seats : List sea.Seat) (lines : List lin.Line) (cs : List Call) → 1 ≤ length row → open_check m row (length seats) (length lines) ≡ Ok tt →
    AlwaysLawful m (length row) (opened (Ok tt) m nothing row seats lines) cs (run_answers (opened (Ok tt) m nothing row seats lines) cs)
lawful_runs m row nothing seats lines cs some accepted k =
    let h = passed m row (length seats) (length lines) accepted in
    let n = length row in
    let R = opened (Ok tt) m nothing row seats lines in
    let C = R.state in
    let o : Opened m n C = is_opened m row nothing seats lines some h in
    let same = run_same m n o.some_provider o.few_seats (take k cs) C no_calls (first m n o.some_provider o.few_seats C o) in
    subst₂ (λ said E. Lawful m n (take k cs) said E) (sym same.0 ∙ answers_taken k R cs) (sym (ap (λ (R : RelayState). R.state) same.1)) (law m n C o (take k cs))
