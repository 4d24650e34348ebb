use Rattle.std.proofs.Common.{length, sym, ◌∙◌, arith}
use Rattle.std.proofs.lemmas.Bool.{le-leb, lt-leb, cond-true, cond-false}
use Rattle.protocol.specs.Phases.{majority, goes_on}
use Rattle.records.specs.Means.{line_means}
use Rattle.relay.proofs.Own.{count_is}
use Rattle.relay.proofs.judging.judge.Goals as goal

pub returns-then-count_done-own : goal.returns-then-count_done-own
returns-then-count_done-own g c =
    let done = c.count_done.ensures ∙ count_is (line_means g.V.Kind.code) c.args.own.now in
    sym (cond-false _ _ goes_on (lt-leb (majority (length c.args.own.now)) _ (omega (arith, done))))

pub returns : goal.returns
returns g c =
    let done = c.count_done.ensures ∙ count_is (line_means g.V.Kind.code) c.args.own.now in
    c.end_phase.ensures ∙ sym (cond-true _ _ goes_on (le-leb (majority (length c.args.own.now)) _ (omega (arith, done))))
