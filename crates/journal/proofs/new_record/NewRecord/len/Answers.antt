use Rattle.std.proofs.Common.{sym, ◌∙◌}
use Rattle.journal.proofs.Writes.{encoding_long}
use Rattle.journal.proofs.new_record.NewRecord.len.Goals as goal

pub returns : goal.returns
returns c = c.size_of.ensures ∙ sym (encoding_long c.args.self.now)
