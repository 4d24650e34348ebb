use Rattle.std.proofs.Common.{sym, arith}
use Rattle.journal.proofs.Overlays.{overlay_none}
use Rattle.journal.proofs.Writes.{field_written}
use Rattle.journal.proofs.write.write_field.Goals as goal

pub returns-then-not-stands-clause-after : goal.returns-then-not-stands-clause-after
returns-then-not-stands-clause-after c = rw c.if-not-stands.true (sym (overlay_none c.args.at c.args.bytes.now))

pub returns-clause-after : goal.returns-clause-after
returns-clause-after c = field_written c.args.at _ c.args.stands c.args.field.now c.copy_from_slice.new.self c.args.bytes.now c.if-not-stands.false c.copy_from_slice.ensures.after (omega arith)
