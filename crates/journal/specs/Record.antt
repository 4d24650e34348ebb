use Rattle.std.specs.Prelude.{ℕ, ◌+◌, ◌*◌, ◌/◌, ◌%◌, Bool, cond, ◌&&◌, List, [], ◌∷◌, ◌++◌, length, take, drop, ◌==◌, slice_index}
use Rattle.values.specs.Little.{little, unlittle}
use Rattle.stores.specs.Provider.{Cell}
use Rattle.journal.specs.Forms.{known, form, size}

-- A record is the list of its bytes: the bit map, then the fields that its form names. Keys and versions are their ranks.

-- how a record is written

-- a key or a version as six bytes: its number, then its seat
unfoldable pub six_bytes : ℕ → List ℕ
six_bytes k = little 4 (k / 65536) ++ little 2 (k % 65536)

-- a field that stands or is missing
abbrev pub field : Bool → List ℕ → List ℕ
field stands bs = cond stands bs []

-- the record of a cell under a bit map
unfoldable pub encoded : ℕ → Cell → List ℕ
encoded b c = b ∷ (field (form b).key (six_bytes c.key) ++ (field (form b).version (six_bytes c.pair.version) ++ field (form b).value c.pair.value))

-- What can be missing is: the standing key, and the version of a put that equals the key.
abbrev pub put_map : Bool → Bool → ℕ
put_map standing own = 4 + cond standing 0 1 + cond own 0 2

abbrev pub remove_map : Bool → ℕ
remove_map standing = cond standing 0 1

unfoldable pub put_record : Cell → List ℕ
put_record c = encoded (put_map (c.key == 0) (c.pair.version == c.key)) c

unfoldable pub remove_record : ℕ → List ℕ
remove_record k = encoded (remove_map (k == 0)) (record { key = k; pair = record { version = k; value = [] } })

-- how it is read

abbrev pub bit_map : List ℕ → ℕ
bit_map r = slice_index r 0

-- the key or the version whose six bytes begin at a place
unfoldable pub rank_at : ℕ → List ℕ → ℕ
rank_at i bs = unlittle (take 4 (drop i bs)) * 65536 + unlittle (take 2 (drop (i + 4) bs))

unfoldable pub record_key : List ℕ → ℕ
record_key r = cond (form (bit_map r)).key (rank_at 1 r) 0

unfoldable pub record_version : List ℕ → ℕ
record_version r = cond (form (bit_map r)).version (rank_at (1 + cond (form (bit_map r)).key 6 0) r) (record_key r)

unfoldable pub record_value : List ℕ → List ℕ
record_value r = drop (1 + (form (bit_map r)).length) r

-- a record with a value is a put, and any other is a remove
unfoldable pub is_put : List ℕ → Bool
is_put r = (form (bit_map r)).value

abbrev pub record_cell : List ℕ → Cell
record_cell r = record { key = record_key r; pair = record { version = record_version r; value = record_value r } }

-- whether a record begins with a bit map that is one, and has all its fields and no more
unfoldable pub whole : ℕ → List ℕ → Bool
whole w r = known (bit_map r) && length r == size w (bit_map r)
