use Rattle.std.specs.Prelude.{ℕ, ◌-◌, ◌^◌, min, Bool, cond, ◌&&◌, List, [], length, Err, Result, nat_le, slice_index_or, slice_set}
use Rattle.stores.specs.Provider.{Provider}

-- A bank means the row of its providers' meanings. Providers are numbered from 1.

-- whether a row has a provider of this number
abbrev pub has : ℕ → List Provider → Bool
has i row = nat_le 1 i && nat_le i (length row)

-- what stands for a provider that there is not
abbrev pub absent : Provider
absent = record { capacity = 0; cells = [] }

-- What `found` says of provider i, or `missing` where the row has no such provider.
abbrev pub picked : {T : Type 0} → ℕ → List Provider → (Provider → T) → T → T
picked i row found missing = cond (has i row) (found (slice_index_or row (i - 1) absent)) missing

-- What a call on provider i answers: what the provider answers. There is no provider of another number: refused by 6.
abbrev pub answer_of : {T : Type 0} → ℕ → List Provider → (Provider → Result T ℕ) → Result T ℕ
answer_of i row answer = picked i row answer (Err 6)

-- The row that follows where provider i takes a step: the others stay, and all stay where there is no provider i.
abbrev pub row_after : ℕ → List Provider → (Provider → Provider) → List Provider
row_after i row step = picked i row (λ p. slice_set row (i - 1) (step p)) row

-- The number of providers, as far as a number of 64 bits can say: exact for every row of fewer than 2 ^ 64 providers.
abbrev pub size_of : List Provider → ℕ
size_of row = min (length row) (2 ^ 64 - 1)
