use Rattle.std.proofs.Common.{◌≡◌, ◌+◌, ◌-◌, length, get_or, set, ap, ◌∙◌, arith}
use borrow.Author.Rules.{scaled_Fits}
use Rattle.banks.specs.Row.{absent}
use Rattle.protocol.specs.Answers as ans
use Rattle.protocol.specs.Lines as lin
use Rattle.records.specs.Means.{line_means}
use Rattle.relay.specs.RelayState.{RelayState, admission_of, relay_state, relay_step}
use Rattle.relay.specs.Sheets.{lines_mean, acknowledged}
use Rattle.relay.specs.declared.inner.Inner.{Inner}
use Rattle.relay.proofs.BankSteps.{line_place, not_landed, landed_there}
use Rattle.relay.proofs.Landings.{landed_on}
use Rattle.relay.proofs.Placing.{line_kept, line_within, line_read, line_written, line_beyond, line_written_at, if_ok, not_ok}
use Rattle.relay.proofs.RelaySteps.{call_refused, call_made, land_refused, land_found}
use Rattle.relay.proofs.Rooms.{line_found, was_opened}
use Rattle.relay.proofs.relay.Relay.land.Goals as goal

pub offset_bounds-lines-at : goal.offset_bounds-lines-at
offset_bounds-lines-at g c = scaled_Fits _ _ _ (line_within c.in_ok-at.ensures.within _ c.in_ok-at.ensures.provider) (search c.well_formed)

pub returns-in_err-at-clause-step : goal.returns-in_err-at-clause-step
returns-in_err-at-clause-step g c =
    call_refused g.V.Kind.code _ _ _ _ _ acknowledged _ _ c.from_residual.ensures.1 (land_refused _ _ _ _ _ c.in_err-at.ensures.answer)

pub returns-in_err-at-clause-bank : goal.returns-in_err-at-clause-bank
returns-in_err-at-clause-bank g c =
    let bank = c.args.self.now.bank in
    let R : RelayState = relay_state g.V.Kind.code (g.B.Bank.row bank) c.args.self.now.inner c.args.seats.now c.args.lines.now in
    not_landed g.B.Bank.puts g.B.Bank.removes bank bank R R c.args.seat c.args.provider _ _ c.from_residual.ensures.1 (returns-in_err-at-clause-step g c)

pub land_line-requires-clause-accepted : goal.land_line-requires-clause-accepted
land_line-requires-clause-accepted g c = was_opened c.args.self.now.inner.refused _ _ _ _ _ _ _ _ c.in_ok-at.ensures.answer

pub returns-in_err-at-clause-others : goal.returns-in_err-at-clause-others
returns-in_err-at-clause-others g c = not_ok _ _ c.from_residual.result c.from_residual.ensures.1

pub returns : goal.returns
returns g c =
    let code = g.V.Kind.code in
    let w = c.in_ok-at.ensures.within in
    let here = c.in_ok-at.ensures.provider in
    let lines = c.args.lines.now in
    let i = c.in_ok-at.at.seat.start + c.in_ok-at.at.provider in
    let x = c.index-lines-at.result in
    let next = c.land_line.new.line in
    let f : Inner → RelayState × ans.Answer = λ q. (relay_state code (g.B.Bank.row c.land_line.new.self.bank) q c.args.seats.now (set lines i next), acknowledged c.land_line.result) in
    let row = g.B.Bank.row c.args.self.now.bank in
    let R : RelayState = relay_state code row c.args.self.now.inner c.args.seats.now lines in
    let S : RelayState = relay_state code (g.B.Bank.row c.land_line.new.self.bank) c.land_line.new.self.inner c.args.seats.now (set lines i next) in
    let step : ◌≡◌ {A = RelayState × ans.Answer} (S, acknowledged c.land_line.result) (relay_step R (ans.land c.args.seat c.args.provider)) =
    ap f c.land_line.ensures.inner
    ∙ call_made code _ _ _ _ _ (landed_on _ _ _ _ _ _ _ (line_means code next) _ (line_read code _ w here x) c.land_line.ensures.landed (line_written code _ w here next))
    (land_found _ _ _ _ c.in_ok-at.at c.in_ok-at.ensures.answer) in
    let found = line_place (admission_of row c.args.self.now.inner (length c.args.seats.now) (length lines)) c.args.self.now.inner.seats c.args.seat c.args.provider c.in_ok-at.at c.in_ok-at.ensures.answer in
    let place : c.in_ok-at.at.provider ≡ c.args.provider - 1 = omega (arith, found.1) in
    record {
      step = step;
      beyond = line_beyond code _ w here next;
      others = if_ok c.land_line.result (line_written_at lines w c.args.seat found.0 c.args.provider c.in_ok-at.at.provider found.1 next);
      refusal = λ e. let same = c.land_line.ensures.refusal e in (line_kept lines i x next same.0, same.1);
      bank =
          landed_there g.B.Bank.puts g.B.Bank.removes c.args.self.now.bank c.land_line.new.self.bank R S c.args.seat c.args.provider _ _ _ _ found.1
          (ap (λ (l : lin.Line). l.state) (line_read code _ w here x ∙ line_found _ _ _ _ _ (lines_mean code lines) c.in_ok-at.at w.providers c.in_ok-at.ensures.answer))
          (ap (λ k. get_or row k absent) place) step c.land_line.ensures.bank;
      inner = c.land_line.ensures.inner;
    }
