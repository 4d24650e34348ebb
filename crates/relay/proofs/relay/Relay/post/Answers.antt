use Rattle.std.proofs.Common.{length}
use borrow.Author.Rules.{scaled_Fits}
use Rattle.protocol.specs.Seats.{blank_seat}
use Rattle.records.specs.Means.{seat_means}
use Rattle.relay.specs.RelayState.{admission_of}
use Rattle.relay.specs.Sheets.{acknowledged}
use Rattle.relay.proofs.BankSteps.{line_place}
use Rattle.relay.proofs.Own.{read_at}
use Rattle.relay.proofs.Placing.{line_kept, seat_within, line_within, line_read, line_written, line_beyond, line_written_at, if_ok, not_ok}
use Rattle.relay.proofs.RelaySteps.{call_refused, call_made, post_refused, post_found, post_done}
use Rattle.relay.proofs.relay.Relay.post.Goals as goal

pub offset_bounds-lines-at : goal.offset_bounds-lines-at
offset_bounds-lines-at g c = scaled_Fits _ _ _ (line_within c.in_ok-at.ensures.within _ c.in_ok-at.ensures.provider) (search c.well_formed)

pub returns-in_err-at-clause-step : goal.returns-in_err-at-clause-step
returns-in_err-at-clause-step g c =
    call_refused g.V.Kind.code _ _ _ _ _ acknowledged _ _ c.from_residual.ensures.1 (post_refused _ _ _ _ _ c.in_err-at.ensures.answer)

pub returns-in_err-at-clause-others : goal.returns-in_err-at-clause-others
returns-in_err-at-clause-others g c = not_ok _ _ c.from_residual.result c.from_residual.ensures.1

pub returns : goal.returns
returns g c =
    let code = g.V.Kind.code in
    let w = c.in_ok-at.ensures.within in
    let here = c.in_ok-at.ensures.provider in
    let x = c.index-lines-at.result in
    let next = c.post_line.new.line in
    let found = line_place (admission_of (g.B.Bank.row c.args.self.now.bank) c.args.self.now.inner (length c.args.seats.now) (length c.args.lines.now)) c.args.self.now.inner.seats c.args.seat c.args.provider c.in_ok-at.at c.in_ok-at.ensures.answer in
    let seat = read_at (seat_means code) blank_seat c.args.seats.now _ c.index-seats-at.result (seat_within w) c.index-seats-at.is in
    record {
      step =
          call_made code _ _ _ _ _ (post_done _ _ _ _ _ _ _ c.post_line.result _ seat (line_read code _ w here x) c.post_line.ensures.answer c.post_line.ensures.means (line_written code _ w here next))
          (post_found _ _ _ _ c.in_ok-at.at c.in_ok-at.ensures.answer);
      beyond = line_beyond code _ w here next;
      others = if_ok c.post_line.result (line_written_at c.args.lines.now w c.args.seat found.0 c.args.provider c.in_ok-at.at.provider found.1 next);
      refusal = λ e. line_kept c.args.lines.now _ x next (c.post_line.ensures.refusal e);
    }
