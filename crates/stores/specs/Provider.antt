use Rattle.std.specs.Prelude.{ℕ, List, map}
use Rattle.values.specs.Rank.{rank}
use Rattle.values.specs.declared.version.Version.{Version}

-- What a provider holds under one key: a version, by its rank, and a value, by the bytes that it is written as.
pub record Pair : Type 0 where
  pub version : ℕ
  pub value : List ℕ

-- one key of a provider's map, by its rank, with its pair
pub record Cell : Type 0 where
  pub key : ℕ
  pub pair : Pair

-- What a provider means: how many keys it can hold, which never changes, and its map, ascending by key.
pub record Provider : Type 0 where
  pub capacity : ℕ
  pub cells : List Cell

abbrev pub cell_key : Cell → ℕ
cell_key c = c.key

abbrev pub keys : Provider → List ℕ
keys p = map cell_key p.cells

-- the cell of a key, a version and a value's code
abbrev pub cell : Version → Version → List ℕ → Cell
cell key version code = record { key = rank key; pair = record { version = rank version; value = code } }
