use Rattle.std.specs.Prelude.{ℕ, ◌+◌, ◌-◌, ◌*◌, ◌/◌, ◌≤◌, min, Bool, cond, List, [], length, take, is_some, ◌==◌}
use Rattle.stores.specs.Keyed.{element_of}
use Rattle.stores.specs.Provider.{Cell, Provider, cell_key}
use Rattle.stores.specs.Operations.{room_for}
use Rattle.journal.specs.Record.{put_record, remove_record}
use Rattle.journal.specs.Log.{log, replay, live, appended}

-- What a journal has: the width of the values that it was made for, how many keys with such values it can hold, how many
-- bytes it was lent, and its log.
pub record Contents : Type 0 where
  pub width : ℕ
  pub room : ℕ
  pub size : ℕ
  pub records : List (List ℕ)

-- the contents of bytes of which the first `used` are the log
abbrev pub contents : ℕ → ℕ → ℕ → List ℕ → Contents
contents w room used bs = record { width = w; room = room; size = length bs; records = log w (take used bs) }

abbrev pub with_records : Contents → List (List ℕ) → Contents
with_records s rs = record { width = s.width; room = s.room; size = s.size; records = rs }

-- How many keys n bytes can hold: the largest number up to 32 such that they and one more fit, each with the longest
-- record.
abbrev pub room_in : ℕ → ℕ → ℕ
room_in w n = min 32 (n / (13 + w) - 1)

-- that this is so
pub record Largest (w n c : ℕ) : Type 0 where
  pub small : c ≤ 32
  pub fits : 1 ≤ c → (c + 1) * (13 + w) ≤ n
  pub most : (k : ℕ) → k ≤ 32 → (k + 1) * (13 + w) ≤ n → k ≤ c

-- nothing yet, in n bytes
abbrev pub empty : ℕ → ℕ → Contents
empty w n = record { width = w; room = room_in w n; size = n; records = [] }

-- the map of a log, with values as they stand in its bytes
abbrev pub raw : Contents → Provider
raw s = record { capacity = s.room; cells = replay s.records }

-- A put that finds room, and a remove of a present key, append one record. Nothing else does.
abbrev pub put_log : Cell → Contents → List (List ℕ)
put_log c s = cond (room_for c.key (raw s)) (appended s.size (put_record c) s.records) s.records

abbrev pub remove_log : ℕ → Contents → List (List ℕ)
remove_log k s = cond (is_some (element_of cell_key k (replay s.records))) (appended s.size (remove_record k) s.records) s.records

-- A journal serves the values of one width. It has no room for others, and an operation on others changes nothing.
abbrev pub serves : ℕ → Contents → Bool
serves wide s = s.width == wide

abbrev pub put_contents : ℕ → Cell → Contents → Contents
put_contents wide c s = with_records s (cond (serves wide s) (put_log c s) s.records)

abbrev pub remove_contents : ℕ → ℕ → Contents → Contents
remove_contents wide k s = with_records s (cond (serves wide s) (remove_log k s) s.records)

abbrev pub pack_contents : Contents → Contents
pack_contents s = with_records s (live s.records)
