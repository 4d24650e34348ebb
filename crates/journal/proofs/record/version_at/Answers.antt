use Rattle.std.proofs.Common.{arith}
use Rattle.journal.proofs.Sixes.{rank_at_is}
use Rattle.journal.proofs.record.version_at.Goals as goal

pub returns : goal.returns
returns c = let e = rank_at_is c.args.at c.args.bytes.now c.requires in omega arith
