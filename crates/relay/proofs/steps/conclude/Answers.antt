use Rattle.std.proofs.Common.{length, sym, ap, ◌∙◌}
use Rattle.values.specs.Rank.{rank}
use Rattle.protocol.specs.Answers.{on}
use Rattle.protocol.specs.Seats.{idle, storing}
use Rattle.protocol.specs.Steps.{conclude}
use Rattle.records.specs.Means.{line_means, accepted_as, seat_means}
use Rattle.std.proofs.lemmas.List.{length-map}
use Rattle.relay.specs.Effects.{among}
use Rattle.relay.specs.Sheets.{lines_mean, outcome_means}
use Rattle.relay.proofs.Among.{turn_among}
use Rattle.relay.proofs.steps.conclude.Goals as goal

pub returns-in-Ends : goal.returns-in-Ends
returns-in-Ends g c =
    λ s looks o within starts.
    let code = g.V.Kind.code in
    let n = length c.args.own.now in
    let q = seat_means code c.args.seat.now in
    let own = lines_mean code c.args.own.now in
    ap (λ C. (C, accepted_as code c.in-Ends.answer)) (turn_among o n s q own looks within starts (length-map c.args.own.now (line_means code)) idle _ _ (ap (seat_means code) c.turn.ensures.seat ∙ c.rested.ensures) c.turn.ensures.lines)
    ∙ sym (ap (λ x. conclude n s (outcome_means code x) (among o s q own looks)) c.in-Ends.is)

pub returns-in-Stores : goal.returns-in-Stores
returns-in-Stores g c =
    λ s looks o within starts.
    let code = g.V.Kind.code in
    let n = length c.args.own.now in
    let q = seat_means code c.args.seat.now in
    let own = lines_mean code c.args.own.now in
    let a = storing c.in-Stores.write (rank c.in-Stores.pair.version) (code c.in-Stores.pair.value) in
    ap (λ C. (C, on)) (turn_among o n s q own looks within starts (length-map c.args.own.now (line_means code)) a _ _ (ap (seat_means code) c.turn-in-Stores.ensures.seat ∙ c.storing.ensures) c.turn-in-Stores.ensures.lines)
    ∙ sym (ap (λ x. conclude n s (outcome_means code x) (among o s q own looks)) c.in-Stores.is)
