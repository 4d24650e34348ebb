use Rattle.std.proofs.Common.{◌≡◌, ◌<◌, ◌≤◌, true, length, get_or, is_some, sym, refl, ap, ◌∙◌, arith}
use lib.Seq.{map-set_same}
use Rattle.std.proofs.lemmas.List.{length-map, get_or-map, map-set}
use Rattle.protocol.specs.Answers.{Answer}
use Rattle.records.specs.Means.{call_means, told}
use Rattle.relay.specs.RelayState.{RelayState, relay_state}
use Rattle.relay.specs.declared.inner.Inner.{Inner}
use Rattle.runs.specs.Runs.{calls_in, answers_in}
use Rattle.runs.proofs.Running.{answers_more, end_more, bank_more, answers_all, end_all, bank_all}
use Rattle.runs.proofs.Kept.{seats_kept, providers_kept, refuses, further}
use Rattle.runs.proofs.run.make_calls.Goals as goal

pub loop-exchange-preserved : goal.loop-exchange-preserved
loop-exchange-preserved g c =
    let code = g.V.Kind.code in
    let row = g.B.Bank.row in
    let k = c.loop-exchange.exchange-index in
    let xs = c.loop-exchange.exchanges in
    let was = c.loop-exchange.relay in
    let call = (get_or xs k c.exchange-item.result).call in
    let R : RelayState = relay_state code (row was.bank) was.inner c.loop-exchange.seats c.loop-exchange.lines in
    let S : RelayState = relay_state code (row c.call-answer.new.self.bank) c.call-answer.new.self.inner c.call-answer.new.seats c.call-answer.new.lines in
    let a = c.call-answer.result in
    let ps = calls_in c.args.exchanges.now in
    let os = answers_in xs in
    let inv = c.loop-exchange.invariant in
    let lx : k < length xs = omega arith in
    let is : call ≡ get_or ps k call = sym (get_or-map (λ e. e.call) xs k c.exchange-item.result call lx) ∙ ap (λ l. get_or l k call) inv.calls in
    let step : ◌≡◌ {A = RelayState × Answer} (S, told code a) _ = c.call-answer.ensures.step in
    let lp : k < length ps = omega (arith, length-map c.args.exchanges.now (λ e. e.call)) in
    let lo : k < length os = omega (arith, length-map xs (λ e. e.answer)) in
    let means = call_means code call in
    record {
      calls = map-set_same (λ e. e.call) xs k _ c.exchange-item.result refl ∙ inv.calls;
      answers = answers_more (call_means code) (told code) ps os k _ R S call a _ lp lo is (map-set (λ e. e.answer) xs k _) step inv.answers;
      ended = end_more (call_means code) (told code) ps os k _ R S call (told code a) lp is step inv.ended;
      bank = λ last h. inv.bank last (bank_more (call_means code) (told code) ps os k g.B.Bank.puts g.B.Bank.removes R S call (told code a) was.bank c.call-answer.new.self.bank last lp is step c.call-answer.ensures.bank h);
      seats = ap (λ (z : RelayState × Answer). z.0.seat_count) step ∙ (seats_kept R means ∙ inv.seats);
      providers = ap (λ (z : RelayState × Answer). length z.0.state.row) step ∙ (providers_kept R means ∙ inv.providers);
      beyond = further _ _ _ _ _ _ _ _ _ _ inv.seats inv.providers inv.beyond c.call-answer.ensures.beyond;
      refusal = λ some.
          let h = inv.refusal some in
          let e : is_some was.inner.refused ≡ true = ap (λ (q : Inner). is_some q.refused) h.2 ∙ some in
          let r = c.call-answer.ensures.refusal (refuses code R S was.inner.refused a means refl e step) in
          (r.0 ∙ h.0, r.1 ∙ h.1, r.2 ∙ h.2, r.3 ∙ h.3);
    }

pub returns-clause-answers : goal.returns-clause-answers
returns-clause-answers g c =
    let R : RelayState = relay_state g.V.Kind.code (g.B.Bank.row c.loop-exchange.relay.bank) c.loop-exchange.relay.inner c.loop-exchange.seats c.loop-exchange.lines in
    let lp : length (calls_in c.args.exchanges.now) ≤ c.loop-exchange.exchange-index = omega (arith, length-map c.args.exchanges.now (λ e. e.call)) in
    let lo : length (answers_in c.loop-exchange.exchanges) ≤ c.loop-exchange.exchange-index = omega (arith, length-map c.loop-exchange.exchanges (λ e. e.answer)) in
    answers_all (call_means g.V.Kind.code) (told g.V.Kind.code) (calls_in c.args.exchanges.now) (answers_in c.loop-exchange.exchanges) c.loop-exchange.exchange-index _ R lp lo c.loop-exchange.invariant.answers

pub returns-clause-ended : goal.returns-clause-ended
returns-clause-ended g c =
    let R : RelayState = relay_state g.V.Kind.code (g.B.Bank.row c.loop-exchange.relay.bank) c.loop-exchange.relay.inner c.loop-exchange.seats c.loop-exchange.lines in
    let lp : length (calls_in c.args.exchanges.now) ≤ c.loop-exchange.exchange-index = omega (arith, length-map c.args.exchanges.now (λ e. e.call)) in
    end_all (call_means g.V.Kind.code) (told g.V.Kind.code) (calls_in c.args.exchanges.now) (answers_in c.loop-exchange.exchanges) c.loop-exchange.exchange-index _ R lp c.loop-exchange.invariant.ended

pub returns-clause-bank : goal.returns-clause-bank
returns-clause-bank g c =
    let R : RelayState = relay_state g.V.Kind.code (g.B.Bank.row c.loop-exchange.relay.bank) c.loop-exchange.relay.inner c.loop-exchange.seats c.loop-exchange.lines in
    let lp : length (calls_in c.args.exchanges.now) ≤ c.loop-exchange.exchange-index = omega (arith, length-map c.args.exchanges.now (λ e. e.call)) in
    c.loop-exchange.invariant.bank _ (bank_all (call_means g.V.Kind.code) (told g.V.Kind.code) (calls_in c.args.exchanges.now) (answers_in c.loop-exchange.exchanges) c.loop-exchange.exchange-index g.B.Bank.puts g.B.Bank.removes R _ lp)
