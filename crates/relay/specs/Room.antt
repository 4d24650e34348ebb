use Rattle.std.specs.Prelude.{Bool, List, nat_le}
use Rattle.std.specs.List.{list_all}
use Rattle.stores.specs.Provider.{Provider}

-- No provider of a row can hold more keys than a line keeps, which are 32.
abbrev pub lists_fit : List Provider → Bool
lists_fit row = list_all (λ p. nat_le p.capacity 32) row
