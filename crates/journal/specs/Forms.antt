use Rattle.std.specs.Prelude.{◌≡◌, ℕ, ◌+◌, ◌/◌, ◌%◌, ◌≤◌, Bool, true, false, cond, not, ◌||◌, List, [], ◌∷◌, map, Some, None, Option, is_some, ◌==◌, slice_index_or}
use Rattle.std.specs.Option.{unwrap_or}
use Rattle.journal.specs.declared.form.Form.{Form}

-- A record begins with its bit map: bit 0 for the key, bit 1 for the version, bit 2 for the value.
-- A put has a value; a remove has neither value nor version. So 2 and 3, and all above 7, are no record's.

-- what each bit map says of its record, if it is one: which fields follow, and how long key and version are together
abbrev pub forms : List (Option Form)
forms =
    Some (record { key = false; version = false; value = false; length = 0 })
    ∷ Some (record { key = true; version = false; value = false; length = 6 })
    ∷ None
    ∷ None
    ∷ Some (record { key = false; version = false; value = true; length = 0 })
    ∷ Some (record { key = true; version = false; value = true; length = 6 })
    ∷ Some (record { key = false; version = true; value = true; length = 6 })
    ∷ Some (record { key = true; version = true; value = true; length = 12 })
    ∷ []

-- The same by the bits alone. Key and version have six bytes each, and a record with a version has a value.
abbrev pub form_of_bits : Bool → Bool → Bool → Option Form
form_of_bits key version value =
    cond (value || not version) (Some (record { key = key; version = version; value = value; length = cond key 6 0 + cond version 6 0 })) None

-- the bit of a bit map: of its key for 1, of its version for 2, of its value for 4
abbrev pub has_bit : ℕ → ℕ → Bool
has_bit bit b = b / bit % 2 == 1

-- whether a record begins with this byte
unfoldable pub known : ℕ → Bool
known b = is_some (slice_index_or forms b None)

-- the form of the record that begins with this byte: no fields where none does
unfoldable pub form : ℕ → Form
form b = unwrap_or (slice_index_or forms b None) (record { key = false; version = false; value = false; length = 0 })

-- how long a record is that begins with this bit map, where values are w bytes wide
unfoldable pub size : ℕ → ℕ → ℕ
size w b = 1 + ((form b).length + cond (form b).value w 0)

-- The table is what the bits of its eight bit maps say, and no record begins with a greater byte.
pub record TableOfBits : Type 0 where
  pub rows : forms ≡ map (λ b. form_of_bits (has_bit 1 b) (has_bit 2 b) (has_bit 4 b)) (0 ∷ 1 ∷ 2 ∷ 3 ∷ 4 ∷ 5 ∷ 6 ∷ 7 ∷ [])
  pub above : (b : ℕ) → 8 ≤ b → known b ≡ false
