use Rattle.std.proofs.Common.{◌+◌, ◌-◌, ap, ◌∙◌, length, get_or, arith}
use Rattle.std.proofs.lemmas.List.{length-set}
use Rattle.banks.specs.Row.{absent}
use Rattle.protocol.specs.Requests.{served}
use Rattle.records.specs.Means.{request_means}
use Rattle.relay.specs.Room.{lists_fit}
use Rattle.relay.proofs.Rooms.{fit_after}
use Rattle.relay.proofs.relay.Relay.land_line.Goals as goal

pub invariant_of-self : goal.invariant_of-self
invariant_of-self g c = record {
  few = λ none.
      omega (arith, ap length c.ask-answer.ensures.after, length-set (g.B.Bank.row c.args.self.now.bank) (c.args.i + 1 - 1) (served (request_means g.V.Kind.code c.in-Sent.request) (get_or (g.B.Bank.row c.args.self.now.bank) (c.args.i + 1 - 1) absent)), c.args.self.now.few none);
  fits = λ none.
      ap lists_fit c.ask-answer.ensures.after
      ∙ (fit_after (request_means g.V.Kind.code c.in-Sent.request) (g.B.Bank.row c.args.self.now.bank) (c.args.i + 1 - 1) ∙ c.args.self.now.fits none);
}
