use Rattle.std.proofs.Common.{refl}
use Rattle.journal.specs.Held.{contents_of}
use Rattle.journal.proofs.Holdings.{held}
use Rattle.journal.proofs.journal.Journal.used.Goals as goal

pub returns-clause-is : goal.returns-clause-is
returns-clause-is c = (held c.args.self.now (contents_of c.args.self.now) refl).used

pub returns-clause-log : goal.returns-clause-log
returns-clause-log c = held c.args.self.now (contents_of c.args.self.now) refl
