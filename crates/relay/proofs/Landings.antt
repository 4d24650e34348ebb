-- Land, from what its check comes to.
use Rattle.std.proofs.Common.{◌≡◌, ℕ, ◌+◌, ◌*◌, Bool, true, false, cond, List, set, Ok, Err, Result, sym, refl, ap, ◌∙◌, subst, ap₂}
use Rattle.std.proofs.lemmas.List.{set-get_or}
use Rattle.stores.specs.Provider.{Provider}
use Rattle.protocol.specs.Answers.{Answer, ok, refused}
use Rattle.protocol.specs.Lines as lin
use Rattle.protocol.specs.Lines.{LineState, free, sent, answered, Progress}
use Rattle.protocol.specs.State.{State, line_at, provider_at, lost_at}
use Rattle.protocol.specs.Steps.{land_line}
use Rattle.relay.specs.Effects.{landing, land_check, LandedAs, Landed}
use Rattle.relay.specs.Sheets.{land_on}

-- the state and the answer after a check
abbrev pub landed_state : ℕ → ℕ → ℕ → State → Result (LineState × Provider) ℕ → State × Answer
landed_state n s i C (Err e) = (C, refused e)
landed_state n s i C (Ok w) = (record { seats = C.seats; lines = set C.lines (s * n + i) (record { state = w.0; progress = (line_at n C.lines s i).progress }); row = set C.row i w.1; lost = C.lost; looks = C.looks }, ok)

module _ (n s i : ℕ) (C : State) where
  carried : (d : Provider) (p : Progress) (w : LineState) → p ≡ (line_at n C.lines s i).progress → land_line n s i d p w C ≡ landed_state n s i C (landing w d)
  carried d p free is = refl
  carried d p (answered b r) is = refl
  carried d p (sent b q) is = ap (λ p. land_line n s i d p (sent b q) C) is

  pub land_is : land_on n s i C ≡ landed_state n s i C (land_check (lost_at C i) (line_at n C.lines s i).state (provider_at C i))
  land_is = go (lost_at C i)
    where
      go : (b : Bool) → cond b (C, refused 12) (land_line n s i (provider_at C i) (line_at n C.lines s i).progress (line_at n C.lines s i).state C) ≡ landed_state n s i C (cond b (Err 12) (landing (line_at n C.lines s i).state (provider_at C i)))
      go true = refl
      go false = carried (provider_at C i) (line_at n C.lines s i).progress (line_at n C.lines s i).state refl

-- and where a line was landed so, the state is that one
pub landed_is : (n s i : ℕ) (C : State) (a : Answer) (row_now : List Provider) (line_now : lin.Line) (lines_now : List lin.Line) (res : Result (LineState × Provider) ℕ) → LandedAs i C.row (line_at n C.lines s i) res a row_now line_now → lines_now ≡ set C.lines (s * n + i) line_now → (record { seats = C.seats; lines = lines_now; row = row_now; lost = C.lost; looks = C.looks }, a) ≡ landed_state n s i C res
landed_is n s i C a row_now line_now lines_now (Err e) h is =
    let f : Answer → List Provider → List lin.Line → State × Answer = λ a r l. (record { seats = C.seats; lines = l; row = r; lost = C.lost; looks = C.looks }, a) in
    ap (λ a. f a row_now lines_now) h.0 ∙ ap₂ (f (refused e)) h.1 (is ∙ (ap (set C.lines (s * n + i)) h.2 ∙ set-get_or C.lines (s * n + i) lin.blank_line))
landed_is n s i C a row_now line_now lines_now (Ok w) h is =
    let f : Answer → List Provider → List lin.Line → State × Answer = λ a r l. (record { seats = C.seats; lines = l; row = r; lost = C.lost; looks = C.looks }, a) in
    ap (λ a. f a row_now lines_now) h.0 ∙ ap₂ (f ok) h.1 (is ∙ ap (set C.lines (s * n + i)) h.2)

pub landed_on : (n s i : ℕ) (C : State) (a : Answer) (row_now : List Provider) (line line_now : lin.Line) (lines_now : List lin.Line) → line ≡ line_at n C.lines s i → Landed i C.lost C.row line a row_now line_now → lines_now ≡ set C.lines (s * n + i) line_now → (record { seats = C.seats; lines = lines_now; row = row_now; lost = C.lost; looks = C.looks }, a) ≡ land_on n s i C
landed_on n s i C a row_now line line_now lines_now was h is =
    landed_is n s i C a row_now line_now lines_now (land_check (lost_at C i) (line_at n C.lines s i).state (provider_at C i)) (subst (λ l. Landed i C.lost C.row l a row_now line_now) was h) is
    ∙ sym (land_is n s i C)
