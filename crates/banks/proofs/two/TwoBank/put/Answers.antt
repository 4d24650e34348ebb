use Rattle.std.proofs.Common.{◌++◌, sym, ap, ◌∙◌}
use Rattle.stores.specs.Provider.{cell}
use Rattle.stores.specs.Operations.{put_after}
use Rattle.banks.proofs.two.TwoBank.put.Goals as goal

pub returns-in-Left-clause-after : goal.returns-in-Left-clause-after
returns-in-Left-clause-after g c =
    let step = put_after (cell c.args.key c.args.version (g.V.Kind.code c.args.value)) in
    ap (λ l. l ++ g.R.Bank.row c.args.self.now.right) c.put.ensures.after ∙ sym (c.in-Left.ensures.stepped step)

pub returns-in-Right-clause-after : goal.returns-in-Right-clause-after
returns-in-Right-clause-after g c =
    let step = put_after (cell c.args.key c.args.version (g.V.Kind.code c.args.value)) in
    ap (λ r. g.L.Bank.row c.args.self.now.left ++ r) c.put-in-Right.ensures.after ∙ sym (c.in-Right.ensures.1.stepped step)
