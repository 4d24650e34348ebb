use Rattle.std.proofs.Common.{ap, ◌∙◌, arith}
use Rattle.values.specs.Rank.{rank}
use Rattle.journal.specs.Forms.{known}
use Rattle.journal.proofs.Encodings.{known_remove, is_remove_record}
use Rattle.journal.proofs.new_record.NewRecord.of_remove.Goals as goal

pub invariant_of-result : goal.invariant_of-result
invariant_of-result c = record { begun = ap known c.map_of_remove.ensures ∙ known_remove _; short = omega arith }

pub returns : goal.returns
returns c = is_remove_record c.map_of_remove.result (rank c.args.key) c.map_of_remove.ensures
