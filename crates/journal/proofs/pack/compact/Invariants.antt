use Rattle.std.proofs.Common.{◌≡◌, ◌-◌, length}
use Rattle.values.specs.Rank.{rank}
use Rattle.journal.specs.Log.{log, mentions}
use Rattle.journal.proofs.Packs.{Packing}
use Rattle.journal.proofs.pack.compact.Given as goal

abbrev pub invariant-records : goal.invariant-records
invariant-records l = Packing l.w l.initial.bytes l.bytes l.to l.at

abbrev pub decreases-records : goal.decreases-records
decreases-records l = length l.initial.bytes - l.at

abbrev pub invariant-loop-later : goal.invariant-loop-later
invariant-loop-later l =
    mentions (rank l.key) (log l.later-iterator.width l.later-iterator.bytes.now) ≡ mentions (rank l.key) (log l.initial.later-iterator.width l.initial.later-iterator.bytes.now)
