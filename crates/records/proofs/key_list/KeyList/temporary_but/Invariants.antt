use Rattle.std.proofs.Common.{◌≡◌, ◌≤◌, ◌++◌, map, drop}
use Rattle.values.specs.Rank.{rank}
use Rattle.protocol.specs.Moves.{keys_but}
use Rattle.records.specs.Means.{listed}
use Rattle.records.proofs.key_list.KeyList.temporary_but.Given as goal

abbrev pub invariant-loop-key : goal.invariant-loop-key
invariant-loop-key l = record {
  order : l.kept.from ≤ l.kept.end;
  room : l.kept.end ≤ l.key-index;
  chosen : listed l.kept ++ keys_but (rank l.other) (map rank (drop l.key-index l.key-items)) ≡ keys_but (rank l.other) (listed l.self);
}
