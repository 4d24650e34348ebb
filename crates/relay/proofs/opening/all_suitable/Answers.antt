use Rattle.std.proofs.Common.{◌+◌, ◌-◌, get_or, refl, ap, ◌∙◌, rules, tests}
use Rattle.std.proofs.lemmas.Iterator.{YieldsList-from_range}
use Rattle.std.proofs.lemmas.Iterator.Search.{all_from_yields_List}
use Rattle.banks.specs.Row.{absent}
use Rattle.relay.specs.Opening.{suits, first_are}
use Rattle.relay.proofs.Openings.{first_by_all}
use Rattle.relay.proofs.opening.all_suitable.Goals as goal

pub returns : goal.returns
returns g c =
    let row = g.B.Bank.row c.args.bank.now in
    all_from_yields_List (λ i. suits c.args.m (get_or row (i + 1 - 1) absent)) _ _ _ c.all.ensures.ran (YieldsList-from_range 0 c.size.result c.size.result refl (search rules)) (λ x b q k. search (rules, tests))
    ∙ first_by_all (suits c.args.m) row c.size.result ∙ ap (first_are (suits c.args.m) row) c.size.ensures
