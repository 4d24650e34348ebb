use Rattle.values.specs.Rank.{rank}
use Rattle.journal.specs.Log.{log}
use Rattle.journal.proofs.Finds.{Finding}
use Rattle.journal.proofs.walk.find.Given as goal

abbrev pub invariant-loop-record : goal.invariant-loop-record
invariant-loop-record l = Finding l.fn.records.width (rank l.key) (log l.fn.records.width l.fn.records.bytes.now) (log l.record-iterator.width l.record-iterator.bytes.now) l.found
