use Rattle.std.proofs.Common.{replicate, sym, ap, ◌∙◌}
use Rattle.values.specs.Refusals.{numbered}
use Rattle.relay.proofs.Asking.{list_fits, keys_asked, was_ok}
use Rattle.relay.proofs.landing.ask_keys.Goals as goal

pub unwrap-count-requires : goal.unwrap-count-requires
unwrap-count-requires g c =
    was_ok _ _ (list_fits c.args.i (g.B.Bank.row c.args.bank.now) (replicate 32 (record { number = 0; seat = 0 })) (numbered c.list.result) c.requires.has c.requires.fits c.list.ensures.answer)

pub returns : goal.returns
returns g c =
    c.of.ensures
    ∙ keys_asked c.args.i (g.B.Bank.row c.args.bank.now) (replicate 32 (record { number = 0; seat = 0 })) c.list.new.sheet c.unwrap-count.result c.requires.has (ap numbered (sym c.unwrap-count.ensures) ∙ c.list.ensures.answer) c.list.ensures.after
