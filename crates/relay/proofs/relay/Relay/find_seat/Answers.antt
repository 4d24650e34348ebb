use Rattle.std.proofs.Common.{length, ◌+◌, ◌*◌, ◌≤◌, sym, refl, subst, arith}
use Rattle.std.specs.Option.{option_map}
use Rattle.values.specs.Refusals.{refusal_number}
use Rattle.relay.proofs.Locating.{admitted_fits, placed_in, rows_within}
use Rattle.relay.proofs.relay.Relay.find_seat.Goals as goal

pub returns-clause-within : goal.returns-clause-within
returns-clause-within g c =
    let r = c.args.self.now.inner in
    let n = length (g.B.Bank.row c.args.self.now.bank) in
    let s = c.in_ok-seat.seat in
    let a = admitted_fits (option_map refusal_number r.refused) r.seats n c.args.seats c.args.lines c.in_ok-providers.providers c.in_ok-providers.ensures in
    let p = placed_in c.args.seat r.seats 5 s c.in_ok-seat.ensures in
    record {
      seat = p.0;
      few = omega (arith, p.0);
      providers = a.2;
      start = refl;
      end = subst (λ k. s * k + k ≤ r.seats * n) (sym a.2) (rows_within s r.seats n p.0);
      seats = a.0;
      lines = a.1;
    }
