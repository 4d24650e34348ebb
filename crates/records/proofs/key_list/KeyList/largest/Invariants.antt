use Rattle.std.proofs.Common.{◌≡◌, max, map, drop}
use Rattle.values.specs.Rank.{rank}
use Rattle.protocol.specs.Moves.{largest_key}
use Rattle.records.specs.Means.{listed}
use Rattle.records.proofs.key_list.KeyList.largest.Given as goal

abbrev pub invariant-loop-key : goal.invariant-loop-key
invariant-loop-key l = max (rank l.best) (largest_key (map rank (drop l.key-index l.key-items))) ≡ largest_key (listed l.self)
