use Rattle.std.specs.Prelude.{◌≡◌, ℕ, ◌-◌, Bool, cond, ◌||◌, List, ◌++◌, length, replicate, is_some, nat_lt}
use Rattle.std.specs.Coded.{Coded, Coded-set, coded_ℕ, coded_list, coded×, code_by}
use mathlib.Core.Path.{refl}
use Rattle.values.specs.Rank.{rank}
use Rattle.values.specs.declared.version.Version.{Version}
use Rattle.stores.specs.Keyed.{element_of, put}
use Rattle.stores.specs.Provider.{Cell, cell}
use Rattle.table.specs.declared.entry.Entry.{Entry}

abbrev pub entry_key : {V : Type 0} → Entry V → ℕ
entry_key e = rank e.key

-- what an entry means, by the code of its value
abbrev pub entry_cell : {V : Type 0} → (V → List ℕ) → Entry V → Cell
entry_cell code e = cell e.key e.version (code e.value)

-- the entry that is not used, with the blank value
abbrev pub blank_entry : {V : Type 0} → V → Entry V
blank_entry value = record { key = record { number = 0; seat = 0 }; version = record { number = 0; seat = 0 }; value = value }

-- The code of an entry, from that of its value.
abbrev pub coded_version : Coded Version
coded_version = code_by (ℕ × ℕ) (coded× coded_ℕ coded_ℕ) (λ v. (v.number, v.seat)) (λ p. record { number = p.0; seat = p.1 }) (λ _. refl)

abbrev pub coded_entry : {V : Type 0} → Coded V → Coded (Entry V)
coded_entry {V} value = code_by (Version × (Version × V)) (coded× coded_version (coded× coded_version value)) (λ e. (e.key, (e.version, e.value))) (λ p. record { key = p.0; version = p.1.0; value = p.1.1 }) (λ _. refl)

-- So an equation between lists of entries is a fact with one proof at most, as a ghost field has to be.
pub entries_set : {V : Type 0} → Coded V → (es es' : List (Entry V)) → IsProp (es ≡ es')
entries_set value es es' = Coded-set (coded_list (coded_entry value)) es es'

-- The parts of a table: the used entries, then blank ones up to its room, then the entries past its room.
abbrev pub layout : {V : Type 0} → V → ℕ → List (Entry V) → List (Entry V) → List (Entry V)
layout blank room used rest = used ++ (replicate (room - length used) (blank_entry blank) ++ rest)

-- A put of an entry among the used ones: over the one of its key, or as a new one while there is room.
abbrev pub entry_fits : {V : Type 0} → ℕ → Entry V → List (Entry V) → Bool
entry_fits room e used = is_some (element_of entry_key (entry_key e) used) || nat_lt (length used) room

abbrev pub put_entry : {V : Type 0} → ℕ → Entry V → List (Entry V) → List (Entry V)
put_entry room e used = cond (entry_fits room e used) (put entry_key e used) used
