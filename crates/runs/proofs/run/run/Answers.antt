use Rattle.std.proofs.Common.{◌≡◌, ◌*◌, true, length, drop, is_ok, is_err, Ok, sym, ap, ◌∙◌, ap₂, subst₂}
use Rattle.std.proofs.lemmas.List.{length-map}
use Rattle.values.specs.Refusals.{numbered}
use Rattle.banks.specs.Row.{size_of}
use Rattle.records.specs.Means.{line_means, seat_means}
use Rattle.relay.specs.Opening.{open_check, opened}
use Rattle.relay.specs.RelayState.{RelayState, relay_state}
use Rattle.relay.specs.Sheets.{seats_mean, lines_mean}
use Rattle.runs.specs.Runs.{calls_mean, run_answers, run_end, BankSteps, AlwaysLawful}
use Rattle.relay.proofs.Openings.{passed, few_sized}
use Rattle.runs.proofs.Kept.{further}
use Rattle.runs.proofs.Openings.{was_accepted, keeps_refusal, has_seats, either_way, if_accepted}
use Rattle.runs.proofs.LawfulRuns.{lawful_runs}
use Rattle.runs.proofs.run.run.Goals as goal

pub returns : goal.returns
returns g c =
    let code = g.V.Kind.code in
    let m = c.args.m in
    let row = g.B.Bank.row c.args.bank in
    let nothing = code g.V.Kind.nothing in
    let seats = seats_mean code c.args.seats.now in
    let lines = lines_mean code c.args.lines.now in
    let calls = calls_mean code c.args.exchanges.now in
    let relay = c.open-relay.result.0 in
    let a = c.open-relay.result.1 in
    let o = c.open-relay.ensures in
    let h = c.make_calls.ensures in
    let start : relay_state code (g.B.Bank.row relay.bank) relay.inner c.open-relay.new.seats c.open-relay.new.lines ≡ opened (numbered a) m nothing row seats lines =
    o.state ∙ ap (λ x. opened x m nothing row seats lines) (sym o.answer) in
    let answers = h.answers ∙ ap (λ R. run_answers R calls) start in
    let ended = h.ended ∙ ap (λ R. run_end R calls) start in
    let refusal : is_err a ≡ true → (c.make_calls.new.seats ≡ c.args.seats.now) × (c.make_calls.new.lines ≡ c.args.lines.now) × (c.make_calls.new.relay.bank ≡ c.args.bank) = λ e.
    let before = o.refusal e in
    let after = h.refusal (keeps_refusal m nothing row seats lines a relay.inner.refused (ap (λ (R : RelayState). R.refusal) start) e) in
    (after.0 ∙ before.0, after.1 ∙ before.1, after.3 ∙ o.bank) in
    let checked : is_ok a ≡ true → open_check m row (length seats) (length lines) ≡ Ok tt = λ e.
    ap₂ (λ s l. open_check m row s l) (length-map c.args.seats.now (seat_means code)) (length-map c.args.lines.now (line_means code)) ∙ (sym o.answer ∙ was_accepted a e) in
    record {
      accepted = o.answer;
      calls = h.calls;
      answers = answers;
      ended = ended;
      beyond = either_way a
          (λ e. further _ _ m (size_of row) _ _ _ _ _ _ (ap (λ (R : RelayState). R.seat_count) start ∙ has_seats m nothing row seats lines a e) (ap (λ b. length (g.B.Bank.row b)) o.bank ∙ sym (few_sized row (passed m row (length seats) (length lines) (checked e)).few)) (record { seats = o.beyond.0; lines = o.beyond.1 }) h.beyond)
          (λ e. let same = refusal e in record { seats = ap (drop m) same.0; lines = ap (drop (m * size_of row)) same.1 });
      refusal = refusal;
      bank = subst₂ (λ R b. BankSteps g.B.Bank.puts g.B.Bank.removes R calls b c.make_calls.new.relay.bank) start o.bank h.bank;
      lawful = if_accepted a _ (λ e. subst₂ (λ x said. AlwaysLawful m (length row) (opened x m nothing row seats lines) calls said)
          (sym (was_accepted a e))
          (sym (answers ∙ ap (λ x. run_answers (opened x m nothing row seats lines) calls) (was_accepted a e)))
          (lawful_runs m row nothing seats lines calls (g.met.B.Bank.some c.args.bank) (checked e)));
    }
