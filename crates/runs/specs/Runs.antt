use Rattle.std.specs.Prelude.{◌≡◌, ℕ, List, [], ◌∷◌, map, take, Result}
use Rattle.values.specs.declared.refusal.Refusal.{Refusal}
use Rattle.stores.specs.Provider.{Cell}
use Rattle.protocol.specs.Answers as ans
use Rattle.protocol.specs.Law.{Lawful}
use Rattle.records.specs.Means.{call_means, told}
use Rattle.records.specs.declared.answer.Answer.{Answer}
use Rattle.records.specs.declared.call.Call.{Call}
use Rattle.records.specs.declared.call.Exchange.{Exchange}
use Rattle.relay.specs.BankSteps.{BankStep}
use Rattle.relay.specs.RelayState.{RelayState, relay_step}

-- The calls of a list of exchanges, and their answers: as they are, and what they mean.
abbrev pub calls_in : {V : Type 0} → List (Exchange V) → List (Call V)
calls_in l = map (λ e. e.call) l

abbrev pub answers_in : {V : Type 0} → List (Exchange V) → List (Result (Answer V) Refusal)
answers_in l = map (λ e. e.answer) l

abbrev pub calls_mean : {V : Type 0} → (V → List ℕ) → List (Exchange V) → List ans.Call
calls_mean code l = map (call_means code) (calls_in l)

abbrev pub answers_mean : {V : Type 0} → (V → List ℕ) → List (Exchange V) → List ans.Answer
answers_mean code l = map (told code) (answers_in l)

-- The answers to a list of calls of a relay, and the relay that the calls lead to: one step after the other.
abbrev pub run_answers : RelayState → List ans.Call → List ans.Answer
run_answers R [] = []
run_answers R (c ∷ cs) = (relay_step R c).1 ∷ run_answers (relay_step R c).0 cs

abbrev pub run_end : RelayState → List ans.Call → RelayState
run_end R [] = R
run_end R (c ∷ cs) = run_end (relay_step R c).0 cs

-- What the calls make of the bank itself, one after the other. `puts` and `removes` say of a bank what one put, and one remove,
-- at a provider make of it.
abbrev pub BankSteps : {B : Type 0} → (B → ℕ → Cell → B → Type 0) → (B → ℕ → ℕ → B → Type 0) → RelayState → List ans.Call → B → B → Type 0
BankSteps puts removes R [] x y = y ≡ x
BankSteps {B} puts removes R (c ∷ cs) x y = (next : B) × (BankStep puts removes R c x next × BankSteps puts removes (relay_step R c).0 cs next y)

-- At every moment of a run from R, after its first k calls, these calls, their answers, and the state that they lead to are
-- lawful on a relay of m seats and n providers. (After all calls, where k is at least their number.)
abbrev pub AlwaysLawful : ℕ → ℕ → RelayState → List ans.Call → List ans.Answer → Type 0
AlwaysLawful m n R calls answers = (k : ℕ) → Lawful m n (take k calls) (take k answers) (run_end R (take k calls)).state
