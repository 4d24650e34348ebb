use Rattle.std.specs.Prelude.{ℕ, zero, suc, ◌+◌, ◌-◌, Bool, cond, List, [], ◌∷◌, ◌++◌, length, take, drop, replicate, ◌==◌, nat_le}
use Rattle.std.specs.List.{list_all, list_any}
use Rattle.stores.specs.Keyed.{put, without}
use Rattle.stores.specs.Provider.{Cell, cell_key}
use Rattle.journal.specs.Forms.{size}
use Rattle.journal.specs.Record.{record_key, record_cell, is_put, whole}

-- A log is a list of records. The bytes of a journal are cut into records from the front.

-- the bytes in at most so many records, where values are w bytes wide
abbrev pub cut : ℕ → ℕ → List ℕ → List (List ℕ)
cut zero w bs = []
cut (suc n) w [] = []
cut (suc n) w (b ∷ bs) = take (size w b) (b ∷ bs) ∷ cut n w (drop (size w b) (b ∷ bs))

unfoldable pub log : ℕ → List ℕ → List (List ℕ)
log w bs = cut (length bs) w bs

-- the bytes of records, one after the other
abbrev pub joined : List (List ℕ) → List ℕ
joined [] = []
joined (r ∷ rs) = r ++ joined rs

-- the bytes of records, and zeros after them up to n
abbrev pub filled : ℕ → List (List ℕ) → List ℕ
filled n rs = joined rs ++ replicate (n - length (joined rs)) 0

-- A log is well formed if every record is whole.
abbrev pub sound : ℕ → List (List ℕ) → Bool
sound w rs = list_all (whole w) rs

-- replay: the map that records leave, one after the other
abbrev pub step : List ℕ → List Cell → List Cell
step r m = cond (is_put r) (put cell_key (record_cell r) m) (without cell_key (record_key r) m)

abbrev pub replay_on : List Cell → List (List ℕ) → List Cell
replay_on m [] = m
replay_on m (r ∷ rs) = replay_on (step r m) rs

abbrev pub replay : List (List ℕ) → List Cell
replay rs = replay_on [] rs

-- whether a record has the key
abbrev pub mentions : ℕ → List (List ℕ) → Bool
mentions k rs = list_any (λ r. record_key r == k) rs

-- packing: the live records, in their order. A record is live if it is a put and no later record has its key.
abbrev pub live : List (List ℕ) → List (List ℕ)
live [] = []
live (r ∷ rs) = cond (is_put r) (cond (mentions (record_key r) rs) (live rs) (r ∷ live rs)) (live rs)

-- A record is appended to a log in n bytes. If it does not fit, the log is packed first.
unfoldable pub appended : ℕ → List ℕ → List (List ℕ) → List (List ℕ)
appended n r rs = cond (nat_le (length (joined rs) + length r) n) rs (live rs) ++ r ∷ []
