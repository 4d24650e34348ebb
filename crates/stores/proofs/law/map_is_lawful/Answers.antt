use Rattle.stores.proofs.Gets.{law}
use Rattle.stores.proofs.law.map_is_lawful.Goals as goal

pub returns : goal.returns
returns g = law
