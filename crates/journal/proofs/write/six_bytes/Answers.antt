use Rattle.std.proofs.Common.{arith}
use Rattle.journal.proofs.Sixes.{six_is}
use Rattle.journal.proofs.write.six_bytes.Goals as goal

pub returns : goal.returns
returns c = six_is c.args.version c.to_le_bytes.result c.to_le_bytes-2.result (omega arith) c.to_le_bytes.ensures c.to_le_bytes-2.ensures
