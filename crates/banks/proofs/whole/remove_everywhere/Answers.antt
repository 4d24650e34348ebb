use Rattle.std.proofs.Common.{arith}
use Rattle.banks.proofs.Steps.{removed_more}
use Rattle.banks.proofs.whole.remove_everywhere.Goals as goal

pub loop-place-preserved : goal.loop-place-preserved
loop-place-preserved g c =
    removed_more g.B.Bank.row g.B.Bank.removes _ c.loop-place.place _ c.loop-place.bank _ c.remove.result c.loop-place.invariant (omega arith) c.remove.ensures.after c.remove.ensures.answer c.remove.ensures.once
