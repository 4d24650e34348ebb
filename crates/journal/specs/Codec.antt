use Rattle.std.specs.Prelude.{◌≡◌, ℕ, true, false, List, length}
use Rattle.stores.specs.Provider.{Cell}
use Rattle.journal.specs.Forms.{size}
use Rattle.journal.specs.Record.{bit_map, record_key, record_cell, is_put, whole}

-- A record is read as the put of a cell: it has the length that the table gives, and says that cell.
pub record ReadsPut (w : ℕ) (r : List ℕ) (c : Cell) : Type 0 where
  pub wholly : whole w r ≡ true
  pub long : length r ≡ size w (bit_map r)
  pub puts : is_put r ≡ true
  pub says : record_cell r ≡ c

-- A record is read as the remove of a key.
pub record ReadsRemove (w : ℕ) (r : List ℕ) (k : ℕ) : Type 0 where
  pub wholly : whole w r ≡ true
  pub long : length r ≡ size w (bit_map r)
  pub removes : is_put r ≡ false
  pub says : record_key r ≡ k
