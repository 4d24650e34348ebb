use Rattle.std.proofs.Common.{ℕ, ◌*◌, ◌∙◌, length, set, sym, ap, ap₂, add-one}
use Rattle.std.proofs.lemmas.List.{length-map, length-set, map-set}
use Rattle.protocol.specs.Answers.{Answer}
use Rattle.protocol.specs.Lines as lin
use Rattle.protocol.specs.Phases.{phase_result}
use Rattle.protocol.specs.Seats.{activity}
use Rattle.protocol.specs.State.{State}
use Rattle.protocol.specs.Steps.{conclude, unless_full, looks_after}
use Rattle.records.specs.Means.{line_means, progress_means, answer_means, seat_means}
use Rattle.relay.specs.Effects.{among}
use Rattle.relay.specs.Sheets.{lines_mean, line_in}
use Rattle.relay.proofs.Among.{take_among}
use Rattle.relay.proofs.steps.take_answer.Goals as goal

pub returns : goal.returns
returns g c =
    λ o within starts.
    let code = g.V.Kind.code in
    let s = c.args.s in
    let i = c.args.i in
    let own = c.args.own.now in
    let n = length own in
    let moved = set own i c.advanced-next.result in
    let q = seat_means code c.args.seat.now in
    let a = activity q in
    let r = answer_means code c.args.answer in
    let p = progress_means code c.args.line in
    let k = c.looks_after.result in
    let long = length-set own i c.advanced-next.result in
    let are = map-set (line_means code) own i c.advanced-next.result ∙ ap (set (lines_mean code own) i) c.advanced-next.ensures in
    let looked = c.looks_after.ensures ∙ ap (looks_after c.args.looks.now p) (ap (λ (l : lin.Line). l.progress) c.advanced-next.ensures) in
    let F : ℕ → ℕ → State × Answer = λ m number. conclude m s (unless_full r (phase_result m number (line_in (lines_mean code moved)) a)) (among o s q (lines_mean code moved) k) in
    c.conclude.ensures s k o within (starts ∙ ap (λ j. s * j) (sym long))
    ∙ (ap (λ y. conclude (length moved) s y (among o s q (lines_mean code moved) k)) c.outcome_of-outcome.ensures
    ∙ (ap₂ F long (add-one s)
    ∙ take_among o n s q (lines_mean code own) c.args.looks.now within starts (length-map own (line_means code)) i a r p c.requires (lines_mean code moved) k are looked))
