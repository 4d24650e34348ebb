use Rattle.std.proofs.Common.{ap, ◌∙◌}
use Rattle.stores.specs.Provider.{cell}
use Rattle.journal.specs.Forms.{known}
use Rattle.journal.proofs.Encodings.{known_put, is_put_record}
use Rattle.journal.proofs.new_record.NewRecord.of_put.Goals as goal

pub invariant_of-result : goal.invariant_of-result
invariant_of-result c = record { begun = ap known c.map_of_put.ensures ∙ known_put _ _; short = c.requires }

pub returns : goal.returns
returns c = is_put_record c.map_of_put.result (cell c.args.key c.args.version c.args.value.now) c.map_of_put.ensures
