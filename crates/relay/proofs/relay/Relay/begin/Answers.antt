use Rattle.std.proofs.Common.{length, ◌+◌, ◌-◌, ◌≡◌, arith}
use borrow.Author.Rules.{scaled_Fits, scaled_fits≤}
use Rattle.protocol.specs.Steps.{begin_at}
use Rattle.relay.specs.Effects.{beginning_means}
use Rattle.relay.specs.RelayState.{admission_of, lost_flags}
use Rattle.relay.specs.Sheets.{acknowledged}
use Rattle.relay.proofs.BankSteps.{seat_place}
use Rattle.relay.proofs.Placing.{seat_within, own_within, step_placed, unchanged, beyond_all, seat_written_at, lines_written, if_ok, not_ok}
use Rattle.relay.proofs.RelaySteps.{call_refused, call_made, begin_refused, begin_found}
use Rattle.relay.proofs.relay.Relay.begin.Goals as goal

pub offset_bounds-lines-at : goal.offset_bounds-lines-at
offset_bounds-lines-at g c = scaled_fits≤ _ _ _ (own_within c.in_ok-at.ensures.within) (search c.well_formed)

pub offset_bounds-seats-at : goal.offset_bounds-seats-at
offset_bounds-seats-at g c = scaled_Fits _ _ _ (seat_within c.in_ok-at.ensures.within) (search c.well_formed)

pub returns-in_err-at-clause-step : goal.returns-in_err-at-clause-step
returns-in_err-at-clause-step g c =
    call_refused g.V.Kind.code _ _ _ _ _ acknowledged _ _ c.from_residual.ensures.1 (begin_refused _ _ g.V.Kind.code _ _ _ c.in_err-at.ensures.answer)

pub returns-in_err-at-clause-others : goal.returns-in_err-at-clause-others
returns-in_err-at-clause-others g c = not_ok _ _ c.from_residual.result c.from_residual.ensures.1

pub returns : goal.returns
returns g c =
    let code = g.V.Kind.code in
    let r = c.args.self.now.inner in
    let at = c.in_ok-at.at in
    let counts : at.start + at.providers - at.start ≡ at.providers = omega arith in
    let w = c.in_ok-at.ensures.within in
    let x = c.index-seats-at.result in
    let next = c.begin.new.seat in
    let own = c.begin.new.own in
    let found = seat_place (admission_of (g.B.Bank.row c.args.self.now.bank) r (length c.args.seats.now) (length c.args.lines.now)) r.seats c.args.seat at c.in_ok-at.ensures.answer in
    record {
      step =
          call_made code _ _ _ _ _ (step_placed _ _ counts w code _ (lost_flags r) (λ n. begin_at n at.seat (beginning_means code c.args.what)) x next own r.looks r.looks (acknowledged c.begin.result) (c.begin.ensures.step at.seat r.looks))
          (begin_found _ _ code _ _ at c.in_ok-at.ensures.answer);
      beyond = beyond_all _ _ counts w next own c.begin.auto.own;
      others = if_ok c.begin.result (seat_written_at c.args.seats.now at.seat c.args.seat found next, lines_written c.args.lines.now w c.args.seat found _ counts own c.begin.auto.own);
      refusal = λ e. unchanged _ _ counts w x next own (c.begin.ensures.refusal e);
    }
