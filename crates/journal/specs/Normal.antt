use Rattle.std.specs.Prelude.{ℕ, cond, List, [], map, Option}
use Rattle.std.specs.Option.{option_map, unwrap_or}
use Rattle.stores.specs.Provider.{Cell, Provider}
use Rattle.journal.specs.Log.{replay}
use Rattle.journal.specs.Contents.{Contents, serves}

-- The normal form of bytes for a kind of value: the bytes of the value that they mean, or of the blank value where they
-- mean none. (Two kinds of one width can use one journal, so bytes need not be written as the kind that reads them writes.)
unfoldable pub normal : {M : Type 0} → (List ℕ → Option M) → (M → List ℕ) → List ℕ → List ℕ → List ℕ
normal decoded coded blank bs = unwrap_or (option_map coded (decoded bs)) blank

-- a cell with the normal form of its value
abbrev pub normal_cell : (List ℕ → List ℕ) → Cell → Cell
normal_cell f c = record { key = c.key; pair = record { version = c.pair.version; value = f c.pair.value } }

-- What a journal means as a provider of values of a width, where f takes bytes to their normal form: the replay of its
-- log. For values of another width it has capacity 0 and holds nothing.
abbrev pub provider_of : ℕ → (List ℕ → List ℕ) → Contents → Provider
provider_of wide f s = record {
  capacity = cond (serves wide s) s.room 0;
  cells = cond (serves wide s) (map (normal_cell f) (replay s.records)) [];
}
