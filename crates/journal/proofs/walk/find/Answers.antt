use Rattle.std.proofs.Common.{sym, ap, ◌∙◌, subst}
use Rattle.values.specs.Rank.{rank}
use Rattle.journal.specs.Log.{log}
use Rattle.journal.specs.Walk.{look_on}
use Rattle.journal.proofs.Replays.{find_replay}
use Rattle.journal.proofs.Finds.{Finding, cell_of, found_here}
use Rattle.journal.proofs.walk.find.Goals as goal

pub loop-record-preserved-then-has_key : goal.loop-record-preserved-then-has_key
loop-record-preserved-then-has_key c =
    let w = c.args.records.width in
    let F = Finding w (rank c.args.key) (log w c.args.records.bytes.now) (log c.next.new.self.width c.next.new.self.bytes.now) in
    subst F (sym c.then_some-found.ensures) (found_here _ _ _ _ _ c.in-Some.record _ c.in-Some.ensures.steps c.loop-record.invariant (sym c.has_key.ensures ∙ c.if-has_key.true) c.is_put.result c.is_put.ensures)

pub returns-clause-seen : goal.returns-clause-seen
returns-clause-seen c =
    let k = rank c.args.key in
    let all = log c.args.records.width c.args.records.bytes.now in
    sym (ap (look_on (cell_of c.loop-record.found) k) c.in-None.ensures.steps.0) ∙ (c.loop-record.invariant.looks ∙ sym (find_replay k all))
