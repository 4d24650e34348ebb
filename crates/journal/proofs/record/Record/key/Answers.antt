use Rattle.std.proofs.Common.{refl, sym}
use Rattle.journal.specs.Record.{record_key}
use Rattle.journal.proofs.Sizes.{key_fits}
use Rattle.journal.proofs.record.Record.key.Goals as goal

pub version_at-requires : goal.version_at-requires
version_at-requires c = key_fits c.args.self.now.bytes.now c.args.self.now.long (rw (sym c.form.ensures) c.if-form.true)

pub returns-then-form : goal.returns-then-form
unfolding record_key
returns-then-form c = rw (sym c.form.ensures, c.if-form.true) c.version_at.ensures

pub returns-else-form : goal.returns-else-form
unfolding record_key
returns-else-form c = rw (sym c.form.ensures, c.if-form.false) refl
