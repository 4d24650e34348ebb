use Rattle.std.proofs.Common.{true, is_none, sym, ap, ◌∙◌}
use Rattle.std.proofs.lemmas.List.{map-set}
use Rattle.relay.specs.declared.inner.Inner.{Inner}
use Rattle.relay.specs.declared.inner.ProviderRecord.{ProviderRecord}
use Rattle.protocol.specs.Answers as ans
use Rattle.relay.specs.RelayState.{relay_state}
use Rattle.relay.specs.Sheets.{acknowledged}
use Rattle.relay.proofs.RelaySteps.{call_refused, call_made, lose_refused, lose_found, already_lost, now_lost}
use Rattle.relay.proofs.relay.Relay.lose.Goals as goal

pub invariant_of-self : goal.invariant_of-self
invariant_of-self g c = record {
  few = λ none. c.args.self.now.few (ap (λ (r : Inner). is_none r.refused) (sym c.lose.ensures) ∙ none);
  fits = λ none. c.args.self.now.fits (ap (λ (r : Inner). is_none r.refused) (sym c.lose.ensures) ∙ none);
}

pub returns-in_err-i-clause-step : goal.returns-in_err-i-clause-step
returns-in_err-i-clause-step g c =
    call_refused g.V.Kind.code _ _ _ _ _ acknowledged _ _ c.from_residual.ensures.1 (lose_refused _ _ _ _ c.in_err-i.ensures)

pub returns-then-is_lost-clause-step : goal.returns-then-is_lost-clause-step
returns-then-is_lost-clause-step g c =
    call_made g.V.Kind.code _ _ _ _ _ (already_lost _ _ (sym c.is_lost.ensures ∙ c.if-is_lost.true)) (lose_found _ _ _ _ c.in_ok-i.ensures)

pub returns-clause-step : goal.returns-clause-step
returns-clause-step g c =
    let code = g.V.Kind.code in
    let r = c.args.self.now.inner in
    let i = c.in_ok-i.i in
    let flags = map-set (λ (p : ProviderRecord). p.lost) r.providers i (record { lost = true }) in
    ap (λ q. (relay_state code (g.B.Bank.row c.args.self.now.bank) q c.args.seats.now c.args.lines.now, ans.ok)) c.lose.ensures
    ∙ call_made code _ _ _ _ _ (now_lost i _ _ (sym c.is_lost.ensures ∙ c.if-is_lost.false) flags) (lose_found _ _ _ i c.in_ok-i.ensures)
