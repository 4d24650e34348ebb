use Rattle.std.specs.Prelude.{◌≡◌, ℕ, List, map, take, drop}
use Rattle.stores.specs.Keyed.{without}
use Rattle.stores.specs.Provider.{Cell, Provider}
use Rattle.table.specs.Entries.{entry_key, entry_cell, layout, put_entry}
use Rattle.table.specs.declared.entry.Entry.{Entry}
use Rattle.table.specs.declared.table.Table.{Table}

abbrev pub entries_of : {V : Type 0} {g : _} → Table V g → List (Entry V)
entries_of t = t.entries.now

abbrev pub used_entries : {V : Type 0} {g : _} → Table V g → List (Entry V)
used_entries t = take t.used (entries_of t)

-- What a table means, by the code of its values.
abbrev pub table_provider : {V : Type 0} {g : _} → (V → List ℕ) → Table V g → Provider
table_provider code t = record { capacity = t.room; cells = map (entry_cell code) (used_entries t) }

-- all entries of a table once other entries are used: those past its room are as they were
abbrev pub relaid : {V : Type 0} {g : _} → V → Table V g → List (Entry V) → List (Entry V)
relaid blank t used = layout blank t.room used (drop t.room (entries_of t))

-- the used entries once an entry is put
abbrev pub used_after_put : {V : Type 0} {g : _} → Entry V → Table V g → List (Entry V)
used_after_put e t = put_entry t.room e (used_entries t)

-- One put of a cell in a table: an entry that means the cell is put among the used ones, once.
abbrev pub EntryPut : {V : Type 0} {g : _} → V → (V → List ℕ) → Table V g → Cell → Table V g → Type 0
EntryPut {V} blank code t c after = (e : Entry V) × (entry_cell code e ≡ c) × (entries_of after ≡ relaid blank t (used_after_put e t))

-- one remove of a key in a table
abbrev pub EntryRemoved : {V : Type 0} {g : _} → V → Table V g → ℕ → Table V g → Type 0
EntryRemoved blank t k after = entries_of after ≡ relaid blank t (without entry_key k (used_entries t))
