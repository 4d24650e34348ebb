use Rattle.banks.proofs.Rows.{leads_left, leads_right}
use Rattle.banks.proofs.two.side.Goals as goal

pub returns-then-i-n : goal.returns-then-i-n
returns-then-i-n g c = leads_left _ _ _ _ (g.met.L.Bank.some c.args.bank.now.left) c.size-n.ensures c.if-i-n.true

pub returns-else-i-n : goal.returns-else-i-n
returns-else-i-n g c = leads_right _ _ _ _ c.size-n.ensures c.if-i-n.false c.ranges.i.fits
