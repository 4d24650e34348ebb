use Rattle.protocol.proofs.Lawfulness.{law}
use Rattle.protocol.proofs.law.register_is_lawful.Goals as goal

pub returns : goal.returns
returns g = law
