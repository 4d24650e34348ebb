-- The steps over functions of seat and provider, both from 0 on, in place of sheets.
use Rattle.std.proofs.Common.{ℕ, suc, Bool, true, false, cond, not, ◌||◌}
use Rattle.stores.specs.Provider.{Provider}
use Rattle.protocol.specs.Answers.{Answer, ok, on, dropped, refused}
use Rattle.protocol.specs.History.{update}
use Rattle.protocol.specs.Lines.{LineState, free, sent, answered, is_free, Progress, Line, restart_line}
use Rattle.protocol.specs.Moves.{advance}
use Rattle.protocol.specs.Phases.{PhaseResult, goes_on, turns, phase_result}
use Rattle.protocol.specs.Requests.{Reply, reply, served}
use Rattle.protocol.specs.Seats.{Activity, idle, stopped, listing, gathering, storing, is_idle, is_stopped}
use Rattle.protocol.specs.Stages.{foreign}
use Rattle.protocol.specs.Steps.{post_line, unless_full}
use Rattle.protocol.proofs.ModelSteps.{update_two}

pub record View : Type 0 where
  pub activity : ℕ → Activity
  -- the version in a seat's record, also once it has stopped
  pub version : ℕ → ℕ
  pub line : ℕ → ℕ → Line
  pub provider : ℕ → Provider
  pub lost : ℕ → Bool

abbrev pub with_line : View → ℕ → ℕ → Line → View
with_line V s i l = record { activity = V.activity; version = V.version; line = update_two V.line s i l; provider = V.provider; lost = V.lost }

abbrev pub version_kept : Activity → ℕ → ℕ
version_kept idle v = v
version_kept stopped v = v
version_kept (listing x) v = 0
version_kept (gathering b) v = 0
version_kept (storing b u x) v = u

abbrev pub turn : View → ℕ → Activity → View
turn V s a = record { activity = update V.activity s a; version = update V.version s (version_kept a (V.version s)); line = update V.line s (λ i. restart_line (V.line s i)); provider = V.provider; lost = V.lost }

abbrev pub check : Bool → ℕ → View → View × Answer → View × Answer
check fails e V go = cond fails (V, refused e) go

abbrev pub begin : ℕ → Activity → View → View × Answer
begin s a V = check (is_stopped (V.activity s)) 7 V (check (not (is_idle (V.activity s))) 8 V (turn V s a, ok))

abbrev pub post : ℕ → ℕ → Activity → Line → View → View × Answer
post s i a l V = check (is_stopped a) 7 V (check (is_idle a || foreign a l) 9 V (check l.progress.done 10 V (check (not (is_free l.state)) 11 V (with_line V s i (post_line a l), ok))))

abbrev pub land_line : ℕ → ℕ → Progress → LineState → View → View × Answer
land_line s i p free V = (V, refused 13)
land_line s i p (answered b r) V = (V, refused 13)
land_line s i p (sent b q) V = (record { activity = V.activity; version = V.version; line = update_two V.line s i (record { state = answered b (reply q (V.provider i)); progress = p }); provider = update V.provider i (served q (V.provider i)); lost = V.lost }, ok)

abbrev pub land : ℕ → ℕ → Line → View → View × Answer
land s i l V = check (V.lost i) 12 V (land_line s i l.progress l.state V)

abbrev pub freed : ℕ → ℕ → Progress → View → View
freed s i p V = with_line V s i (record { state = free; progress = p })

abbrev pub conclude : ℕ → PhaseResult → View → View × Answer
conclude s goes_on V = (V, on)
conclude s (turns a y) V = (turn V s a, y)

abbrev pub judge : ℕ → ℕ → Activity → Reply → View → View × Answer
judge n s a r V = conclude s (unless_full r (phase_result n (suc s) (V.line s) a)) V

abbrev pub fetch_line : ℕ → ℕ → ℕ → Activity → Progress → LineState → View → View × Answer
fetch_line n s i a p free V = (V, refused 14)
fetch_line n s i a p (sent b q) V = (V, refused 14)
fetch_line n s i a p (answered true r) V = (freed s i p V, dropped)
fetch_line n s i a p (answered false r) V = check (foreign a (record { state = answered false r; progress = p })) 14 V (judge n s a r (freed s i (advance a r p) V))

abbrev pub fetch : ℕ → ℕ → ℕ → Activity → Line → View → View × Answer
fetch n s i a l V = check (is_stopped a) 7 V (fetch_line n s i a l.progress l.state V)

abbrev pub halted : ℕ → View → View
halted s V = record { activity = update V.activity s stopped; version = V.version; line = V.line; provider = V.provider; lost = V.lost }

abbrev pub stop : ℕ → View → View × Answer
stop s V = check (is_stopped (V.activity s)) 7 V (halted s V, ok)

abbrev pub lose : ℕ → View → View × Answer
lose i V = check (V.lost i) 12 V (record { activity = V.activity; version = V.version; line = V.line; provider = V.provider; lost = update V.lost i true }, ok)
