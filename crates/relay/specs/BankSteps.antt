use Rattle.std.specs.Prelude.{◌≡◌, ℕ, ◌-◌, length}
use Rattle.stores.specs.Provider.{Cell, Provider}
use Rattle.protocol.specs.Answers.{Call, begin_write, begin_read, post, land, fetch, stop, lose, Answer, ok, on, dropped, wrote, read, read_none, used, refused}
use Rattle.protocol.specs.Lines.{LineState, free, sent, answered}
use Rattle.protocol.specs.Requests.{Request, list_keys, get_key, put_cell, remove_key, Reply, keys_are, got, accepted, refused_by, reply}
use Rattle.protocol.specs.State.{line_at, provider_at}
use Rattle.relay.specs.RelayState.{RelayState, relay_step}

-- What calls make of a bank itself, and not only of what its providers mean. `puts` and `removes` say of a bank what one put,
-- and one remove, at a provider make of it.

-- A request is carried out at provider i, with this reply. A request that only reads, and a put that is refused, leave the bank
-- as it was.
abbrev pub RequestStep : {B : Type 0} → (B → ℕ → Cell → B → Type 0) → (B → ℕ → ℕ → B → Type 0) → ℕ → Request → Reply → B → B → Type 0
RequestStep puts removes i (put_cell c) accepted x y = puts x i c y
RequestStep puts removes i (remove_key k) r x y = removes x i k y
RequestStep puts removes i q r x y = y ≡ x

-- A line's request lands at provider i, whose meaning is p: if land is accepted, the request is carried out.
abbrev pub LandStep : {B : Type 0} → (B → ℕ → Cell → B → Type 0) → (B → ℕ → ℕ → B → Type 0) → ℕ → LineState → Provider → Answer → B → B → Type 0
LandStep puts removes i (sent b q) p ok x y = RequestStep puts removes i q (reply q p) x y
LandStep puts removes i w p a x y = y ≡ x

-- One call of a relay in state R: land alone works on the bank.
abbrev pub BankStep : {B : Type 0} → (B → ℕ → Cell → B → Type 0) → (B → ℕ → ℕ → B → Type 0) → RelayState → Call → B → B → Type 0
BankStep puts removes R (land s i) x y =
    LandStep puts removes i (line_at (length R.state.row) R.state.lines (s - 1) (i - 1)).state (provider_at R.state (i - 1)) (relay_step R (land s i)).1 x y
BankStep puts removes R call x y = y ≡ x
