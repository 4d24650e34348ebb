use Rattle.std.proofs.Common.{length, refl, ◌+◌, ◌-◌, ◌≡◌, ap, arith}
use borrow.Author.Rules.{scaled_Fits, scaled_fits≤}
use Rattle.records.specs.Means.{told}
use Rattle.relay.specs.RelayState.{admission_of, lost_flags}
use Rattle.relay.specs.Sheets.{fetch_on}
use Rattle.relay.proofs.BankSteps.{line_place}
use Rattle.relay.proofs.Placing.{seat_within, own_within, step_placed, unchanged, beyond_all, seat_written_at, lines_written, if_ok, not_ok}
use Rattle.relay.proofs.RelaySteps.{call_refused, call_made, fetch_refused_at, fetch_found}
use Rattle.relay.proofs.relay.Relay.fetch.Goals as goal

pub offset_bounds-lines-at : goal.offset_bounds-lines-at
offset_bounds-lines-at g c = scaled_fits≤ _ _ _ (own_within c.in_ok-at.ensures.within) (search c.well_formed)

pub offset_bounds-seats-at : goal.offset_bounds-seats-at
offset_bounds-seats-at g c = scaled_Fits _ _ _ (seat_within c.in_ok-at.ensures.within) (search c.well_formed)

pub returns-in_err-at-clause-step : goal.returns-in_err-at-clause-step
returns-in_err-at-clause-step g c =
    call_refused g.V.Kind.code _ _ _ _ _ (told g.V.Kind.code) _ _ c.from_residual.ensures.1 (fetch_refused_at _ _ _ _ _ c.in_err-at.ensures.answer)

pub returns-in_err-at-clause-others : goal.returns-in_err-at-clause-others
returns-in_err-at-clause-others g c = not_ok _ _ c.from_residual.result c.from_residual.ensures.1

pub returns : goal.returns
returns g c =
    let code = g.V.Kind.code in
    let r = c.args.self.now.inner in
    let at = c.in_ok-at.at in
    let counts : at.seat.start + at.seat.providers - at.seat.start ≡ at.seat.providers = omega arith in
    let w = c.in_ok-at.ensures.within in
    let x = c.index-seats-at.result in
    let next = c.fetch_line.new.seat in
    let own = c.fetch_line.new.own in
    let found = line_place (admission_of (g.B.Bank.row c.args.self.now.bank) r (length c.args.seats.now) (length c.args.lines.now)) r.seats c.args.seat c.args.provider at c.in_ok-at.ensures.answer in
    record {
      step =
          call_made code _ _ _ _ _ (step_placed _ _ counts w code _ (lost_flags r) (λ n. fetch_on n at.seat.seat at.provider) x next own r.looks c.fetch_line.new.looks (told code c.fetch_line.result) c.fetch_line.ensures.step)
          (fetch_found _ _ _ _ at c.in_ok-at.ensures.answer);
      beyond = beyond_all _ _ counts w next own c.fetch_line.auto.own;
      others = if_ok c.fetch_line.result (seat_written_at c.args.seats.now at.seat.seat c.args.seat found.0 next, lines_written c.args.lines.now w c.args.seat found.0 _ counts own c.fetch_line.auto.own);
      refusal = λ e.
          let h = c.fetch_line.ensures.refusal e in
          let same = unchanged _ _ counts w x next own (h.0, h.1) in
          (same.0, same.1, ap (λ n. record r { looks = n }) h.2);
      bank = refl;
    }
