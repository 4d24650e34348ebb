use mathlib.Core.Path.{refl}
use Rattle.journal.specs.Forms.{size, form}
use Rattle.worked.proofs.cases.cases_hold.Goals as goal

pub returns : goal.returns
unfolding size form
returns c = refl
