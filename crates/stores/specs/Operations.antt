use Rattle.std.specs.Prelude.{ℕ, Bool, cond, ◌||◌, List, ◌++◌, map, length, drop, is_some, Ok, Err, Option, Result, nat_le, nat_lt}
use Rattle.std.specs.Option.{option_map}
use Rattle.values.specs.Rank.{rank, version_of}
use Rattle.values.specs.declared.version.Version.{Version}
use Rattle.stores.specs.Keyed.{element_of, put, without}
use Rattle.stores.specs.Provider.{Pair, Cell, Provider, cell_key, keys}
use Rattle.stores.specs.declared.stored.Stored.{Stored}

-- What each operation of a store answers, and the provider that follows.

-- A key is put over its old pair, or added while there is room. Otherwise the put is refused by 15.
abbrev pub room_for : ℕ → Provider → Bool
room_for k p = is_some (element_of cell_key k p.cells) || nat_lt (length p.cells) p.capacity

abbrev pub put_answer : Cell → Provider → Result (Unit {0}) ℕ
put_answer c p = cond (room_for c.key p) (Ok tt) (Err 15)

abbrev pub put_after : Cell → Provider → Provider
put_after c p = record { capacity = p.capacity; cells = cond (room_for c.key p) (put cell_key c p.cells) p.cells }

abbrev pub remove_after : ℕ → Provider → Provider
remove_after k p = record { capacity = p.capacity; cells = without cell_key k p.cells }

abbrev pub get_answer : ℕ → Provider → Option Pair
get_answer k p = option_map (λ c. c.pair) (element_of cell_key k p.cells)

-- A list writes all keys, ascending, into the first places of a sheet, and the other places stay.
-- A sheet that is too short is refused by 16.
abbrev pub list_answer : Provider → List Version → Result ℕ ℕ
list_answer p sheet = cond (nat_le (length p.cells) (length sheet)) (Ok (length p.cells)) (Err 16)

abbrev pub list_sheet : Provider → List Version → List Version
list_sheet p sheet = cond (nat_le (length p.cells) (length sheet)) (map version_of (keys p) ++ drop (length p.cells) sheet) sheet

-- what a pair in memory means, by the code of its value
abbrev pub pair_means : {V : Type 0} → (V → List ℕ) → Stored V → Pair
pair_means code s = record { version = rank s.version; value = code s.value }
