use Rattle.std.specs.Prelude.{◌≡◌, ◌≤◌, true, List, ◌++◌, length}
use Rattle.std.proofs.Common.{arith}
use Rattle.std.proofs.lemmas.List.{length-append}
use Rattle.stores.specs.Keyed.{ascending}
use Rattle.stores.specs.Provider.{Provider, keys}

-- What holds of every provider: its map is ascending, and no larger than its capacity.
pub record Sound (p : Provider) : Type 0 where
  pub few : length p.cells ≤ p.capacity
  pub sorted : ascending (keys p) ≡ true

-- A row that goes on from one with a provider has a provider.
pub some_joined : (l r : List Provider) → 1 ≤ length l → 1 ≤ length (l ++ r)
some_joined l r some = let n = length-append l r in omega arith
