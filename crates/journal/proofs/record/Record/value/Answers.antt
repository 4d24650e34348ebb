use Rattle.std.proofs.Common.{sym}
use Rattle.std.proofs.lemmas.List.{take_rest}
use Rattle.journal.specs.Record.{record_value}
use Rattle.journal.proofs.record.Record.value.Goals as goal

pub returns : goal.returns
unfolding record_value
returns c = rw (sym c.form.ensures) (take_rest c.args.self.now.bytes.now _)
