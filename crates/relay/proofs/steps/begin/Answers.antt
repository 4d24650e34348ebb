use Rattle.std.proofs.Common.{length, sym, ap, ◌∙◌}
use Rattle.std.proofs.lemmas.List.{length-map}
use Rattle.protocol.specs.Answers.{ok}
use Rattle.protocol.specs.Seats.{activity}
use Rattle.protocol.specs.State.{turn}
use Rattle.records.specs.Means.{line_means, seat_means}
use Rattle.relay.specs.Checks.{begin_check}
use Rattle.relay.specs.Effects.{among, beginning_means}
use Rattle.relay.specs.Sheets.{lines_mean, acknowledged}
use Rattle.relay.proofs.Among.{seat_among, turn_among}
use Rattle.relay.proofs.Exits.{refused_as}
use Rattle.relay.proofs.Stepping.{checked, begin_is}
use Rattle.relay.proofs.steps.begin.Goals as goal

pub returns-in_err-may_begin-clause-step : goal.returns-in_err-may_begin-clause-step
returns-in_err-may_begin-clause-step g c =
    λ s looks o within starts.
    let code = g.V.Kind.code in
    let n = length c.args.own.now in
    let q = seat_means code c.args.seat.now in
    let own = lines_mean code c.args.own.now in
    let C = among o s q own looks in
    let a = beginning_means code c.args.what in
    refused_as C acknowledged c.in_err-may_begin.field-0.0 _ _ c.from_residual.ensures.1
    (ap (checked C (turn n s a C, ok)) (c.in_err-may_begin.ensures ∙ ap (λ q. begin_check (activity q)) (seat_among o n s q own looks within starts (length-map c.args.own.now (line_means code)))) ∙ sym (begin_is n s a C))

pub returns-clause-step : goal.returns-clause-step
returns-clause-step g c =
    λ s looks o within starts.
    let code = g.V.Kind.code in
    let n = length c.args.own.now in
    let q = seat_means code c.args.seat.now in
    let own = lines_mean code c.args.own.now in
    let long = length-map c.args.own.now (line_means code) in
    let C = among o s q own looks in
    let a = beginning_means code c.args.what in
    ap (λ D. (D, ok)) (turn_among o n s q own looks within starts long a _ _ (ap (seat_means code) c.turn.ensures.seat ∙ c.of.ensures) c.turn.ensures.lines)
    ∙ (ap (checked C (turn n s a C, ok)) (c.in_ok-may_begin.ensures ∙ ap (λ q. begin_check (activity q)) (seat_among o n s q own looks within starts long)) ∙ sym (begin_is n s a C))
