use Rattle.std.proofs.Common.{refl}
use Rattle.journal.specs.Record.{is_put}
use Rattle.journal.proofs.record.Record.is_put.Goals as goal

pub returns : goal.returns
unfolding is_put
returns c = rw c.form.ensures refl
