use Rattle.std.proofs.Common.{◌≡◌, true, ◌++◌, map, length, take, drop, is_some}
use Rattle.records.specs.Means.{call_means, told}
use Rattle.relay.specs.Effects.{BeyondAll}
use Rattle.relay.specs.RelayState.{relay_state}
use Rattle.runs.specs.Runs.{calls_in, answers_in, calls_mean, run_answers, run_end, BankSteps}
use Rattle.runs.proofs.run.make_calls.Given as goal

-- The answers so far, with those that the calls ahead give, are all answers, and the calls ahead lead to the end of all calls;
-- so with what they make of the bank.
abbrev pub invariant-loop-exchange : goal.invariant-loop-exchange
invariant-loop-exchange g l =
    let code = g.V.Kind.code in
    let row = g.B.Bank.row in
    let was = l.initial.relay in
    let before = relay_state code (row was.bank) was.inner l.initial.seats l.initial.lines in
    let now = relay_state code (row l.relay.bank) l.relay.inner l.seats l.lines in
    let all = calls_mean code l.initial.exchanges in
    let ahead = map (call_means code) (drop l.exchange-index (calls_in l.initial.exchanges)) in
    record {
      calls : calls_in l.exchanges ≡ calls_in l.initial.exchanges;
      answers : map (told code) (take l.exchange-index (answers_in l.exchanges)) ++ run_answers now ahead ≡ run_answers before all;
      ended : run_end now ahead ≡ run_end before all;
      bank : (last : g.row.B.Denot) → BankSteps g.B.Bank.puts g.B.Bank.removes now ahead l.relay.bank last → BankSteps g.B.Bank.puts g.B.Bank.removes before all was.bank last;
      seats : l.relay.inner.seats ≡ was.inner.seats;
      providers : length (row l.relay.bank) ≡ length (row was.bank);
      beyond : BeyondAll was.inner.seats (length (row was.bank)) l.initial.seats l.initial.lines l.seats l.lines;
      refusal : is_some was.inner.refused ≡ true → (l.seats ≡ l.initial.seats) × (l.lines ≡ l.initial.lines) × (l.relay.inner ≡ was.inner) × (l.relay.bank ≡ was.bank);
    }
