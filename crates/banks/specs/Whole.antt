use Rattle.std.specs.Prelude.{◌≡◌, ℕ, zero, suc, ◌-◌, ◌^◌, min, List, ◌++◌, map, length, take, drop, sum_by}
use Rattle.stores.specs.Provider.{Provider}
use Rattle.banks.specs.Row.{size_of}

-- What is done at every provider that has a number: at all of them, unless there are 2 ^ 64 or more.

-- The row that follows where each takes a step.
abbrev pub all_after : List Provider → (Provider → Provider) → List Provider
all_after row step = map step (take (size_of row) row) ++ drop (size_of row) row

-- How many keys they hold together, as far as a number of 64 bits can say.
abbrev pub total_keys : List Provider → ℕ
total_keys row = min (sum_by (λ p. length p.cells) (take (size_of row) row)) (2 ^ 64 - 1)

-- A key is taken out at each provider from 1 to n, one after the other, once at each. `removes` is what one remove at one of
-- them makes of the bank itself.
abbrev pub RemoveEach : {B : Type 0} → (B → ℕ → ℕ → B → Type 0) → ℕ → ℕ → B → B → Type 0
RemoveEach removes k zero before after = after ≡ before
RemoveEach {B} removes k (suc n) before after = (last : B) × RemoveEach removes k n before last × removes last (suc n) k after
