use Rattle.std.proofs.Common.{length, get_or, set, ap, ◌∙◌, sym}
use Rattle.std.proofs.lemmas.List.{get_or-map, map-set, set-get_or, drop-set-lt}
use borrow.Author.Rules.{scaled_Fits}
use Rattle.protocol.specs.Seats.{blank_seat}
use Rattle.records.specs.Means.{seat_means}
use Rattle.relay.specs.RelayState.{admission_of}
use Rattle.relay.specs.Sheets.{acknowledged}
use Rattle.relay.proofs.BankSteps.{seat_place}
use Rattle.relay.proofs.Placing.{seat_within, seat_written_at, if_ok, not_ok}
use Rattle.relay.proofs.RelaySteps.{call_refused, call_made, stop_refused, stop_found, stop_done}
use Rattle.relay.proofs.relay.Relay.stop.Goals as goal

pub offset_bounds-seats-at : goal.offset_bounds-seats-at
offset_bounds-seats-at g c = scaled_Fits _ _ _ (seat_within c.in_ok-at.ensures.within) (search c.well_formed)

pub returns-in_err-at-clause-step : goal.returns-in_err-at-clause-step
returns-in_err-at-clause-step g c =
    call_refused g.V.Kind.code _ _ _ _ _ acknowledged _ _ c.from_residual.ensures.1 (stop_refused _ _ _ _ c.in_err-at.ensures.answer)

pub returns-in_err-at-clause-others : goal.returns-in_err-at-clause-others
returns-in_err-at-clause-others g c = not_ok _ _ c.from_residual.result c.from_residual.ensures.1

pub returns : goal.returns
returns g c =
    let mean = seat_means g.V.Kind.code in
    let seats = c.args.seats.now in
    let at = c.in_ok-at.at in
    let w = c.in_ok-at.ensures.within in
    let x = c.index-seats-at.result in
    let next = c.stop_seat.new.seat in
    let r = c.args.self.now.inner in
    let found = seat_place (admission_of (g.B.Bank.row c.args.self.now.bank) r (length seats) (length c.args.lines.now)) r.seats c.args.seat at c.in_ok-at.ensures.answer in
    record {
      step =
          call_made g.V.Kind.code _ _ _ _ _ (stop_done at.seat _ (mean (get_or seats at.seat x)) (mean next) c.stop_seat.result _ (sym (get_or-map mean seats at.seat x blank_seat (seat_within w))) c.stop_seat.ensures.answer c.stop_seat.ensures.means (map-set mean seats at.seat next))
          (stop_found _ _ _ at c.in_ok-at.ensures.answer);
      beyond = drop-set-lt _ seats at.seat next w.seat;
      others = if_ok c.stop_seat.result (seat_written_at seats at.seat c.args.seat found next);
      refusal = λ e. ap (set seats at.seat) (c.stop_seat.ensures.refusal e) ∙ set-get_or seats at.seat x;
    }
