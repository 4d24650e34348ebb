use Rattle.protocol.proofs.Unlawful.{old_unlawful}
use Rattle.protocol.proofs.examples.old_read_is_unlawful.Goals as goal

pub returns : goal.returns
returns g = old_unlawful
