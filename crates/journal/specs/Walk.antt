use Rattle.std.specs.Prelude.{◌≡◌, ℕ, ◌+◌, ◌-◌, ◌≤◌, Bool, true, cond, not, ◌&&◌, List, [], ◌∷◌, ◌++◌, length, take, drop, replicate, Some, None, Option, ◌==◌, nat_lt}
use Rattle.std.specs.List.{insert, prefix_len}
use Rattle.stores.specs.Provider.{Cell, cell}
use Rattle.journal.specs.declared.new_record.NewRecord.{NewRecord}
use Rattle.journal.specs.Record.{encoded, record_key, record_cell, is_put}
use Rattle.journal.specs.Log.{log, sound, joined, mentions, live}

-- What the functions on a journal's bytes promise one another. No public contract cites these.

-- what a record says of its key
abbrev pub seen : List ℕ → Option Cell
seen r = cond (is_put r) (Some (record_cell r)) None

-- what a walk over records has seen of a key
abbrev pub look_on : Option Cell → ℕ → List (List ℕ) → Option Cell
look_on o k [] = o
look_on o k (r ∷ rs) = look_on (cond (record_key r == k) (seen r) o) k rs

-- the bytes of a record that is to be written
abbrev pub encoding : NewRecord → List ℕ
encoding r = encoded r.map (cell r.key r.version r.value.now)

-- a list with others laid over it from a place on
unfoldable pub overlay : {A : Type 0} → ℕ → List A → List A → List A
overlay at ys bs = take at bs ++ (ys ++ drop (at + length ys) bs)

unfoldable pub packed : ℕ → List ℕ → List ℕ
packed w bs = joined (live (log w bs))

-- The first `used` bytes are these records, whole, and the others are zeros.
pub record Logged (w used : ℕ) (bs : List ℕ) (rs : List (List ℕ)) : Type 0 where
  pub within : used ≤ length bs
  pub is : log w (take used bs) ≡ rs
  pub sounds : sound w rs ≡ true
  pub zeros : drop used bs ≡ replicate (length bs - used) 0

-- whether a record before others is live
abbrev pub is_live : List ℕ → List (List ℕ) → Bool
is_live r rs = is_put r && not (mentions (record_key r) rs)

-- the place of a key among ascending ones, and keys with those of some records put in their places
abbrev pub place : ℕ → List ℕ → ℕ
place k ks = prefix_len (λ x. nat_lt x k) ks

abbrev pub inserts : List ℕ → List (List ℕ) → List ℕ
inserts ks [] = ks
inserts ks (r ∷ rs) = inserts (insert ks (place (record_key r) ks) (record_key r)) rs
