use Rattle.std.proofs.Common.{◌++◌, sym, ap, ◌∙◌}
use Rattle.values.specs.Rank.{rank}
use Rattle.stores.specs.Operations.{remove_after}
use Rattle.banks.proofs.two.TwoBank.remove.Goals as goal

pub returns-in-Left-clause-after : goal.returns-in-Left-clause-after
returns-in-Left-clause-after g c =
    let step = remove_after (rank c.args.key) in
    ap (λ l. l ++ g.R.Bank.row c.args.self.now.right) c.remove.ensures.after ∙ sym (c.in-Left.ensures.stepped step)

pub returns-in-Right-clause-after : goal.returns-in-Right-clause-after
returns-in-Right-clause-after g c =
    let step = remove_after (rank c.args.key) in
    ap (λ r. g.L.Bank.row c.args.self.now.left ++ r) c.remove-in-Right.ensures.after ∙ sym (c.in-Right.ensures.1.stepped step)
