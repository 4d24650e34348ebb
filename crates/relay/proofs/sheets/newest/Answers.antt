use Rattle.records.specs.Means.{line_means}
use Rattle.relay.proofs.Own.{pair_more}
use Rattle.relay.proofs.sheets.newest.Goals as goal

pub loop-line-preserved : goal.loop-line-preserved
loop-line-preserved g c = pair_more (line_means g.V.Kind.code) c.args.own.now c.loop-line.line-index c.line-item.result c.loop-line-test.true c.line-item.is _ _ _ c.loop-line.invariant c.counted_pair.ensures c.newer-best.ensures
