use Rattle.std.specs.Prelude.{◌≡◌, ℕ, ◌≤◌, true, List, [], ◌∷◌, map, length, Some, None, Option, refl}
use Rattle.std.proofs.Common.{arith}
use Rattle.stores.specs.Keyed.{ascending}
use Rattle.stores.specs.Provider.{Cell, cell, cell_key}
use Rattle.banks_tests.specs.declared.slot.Held.{Held}

-- the map of a provider that holds at most one key, by the code of its value
abbrev pub slot_cells : {V : Type 0} → (V → List ℕ) → Option (Held V) → List Cell
slot_cells code None = []
slot_cells code (Some h) = cell h.key h.stored.version (code h.stored.value) ∷ []

-- It has at most one key, and so is ascending.

pub slot_few : {V : Type 0} (code : V → List ℕ) (o : Option (Held V)) → length (slot_cells code o) ≤ 1
slot_few code None = omega arith
slot_few code (Some h) = omega arith

pub slot_sorted : {V : Type 0} (code : V → List ℕ) (o : Option (Held V)) → ascending (map cell_key (slot_cells code o)) ≡ true
slot_sorted code None = refl
slot_sorted code (Some h) = refl
