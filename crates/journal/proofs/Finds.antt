-- A walk that looks for a key.
use Rattle.std.proofs.Common.{◌≡◌, ℕ, true, false, Bool, cond, eqb, List, ◌∷◌, length, Some, None, Option, sym, ap, ◌∙◌}
use Rattle.std.specs.Option.{IfSome, option_map}
use Rattle.std.specs.Bool.{then_some}
use Rattle.std.proofs.lemmas.Bool.{and_parts, cond-true}
use Rattle.stores.specs.Provider.{Cell}
use Rattle.journal.specs.declared.record.Record.{Record}
use Rattle.journal.specs.declared.records.Records.{Records}
use Rattle.journal.specs.Record.{record_key, record_value, record_cell, is_put, whole}
use Rattle.journal.specs.Log.{log, sound}
use Rattle.journal.specs.Walk.{seen, look_on}
use Rattle.journal.proofs.Sizes.{value_long}

-- the log of an iterator that was made over bytes
pub log_of : (s t : Records) (w : ℕ) (bs : List ℕ) → s ≡ t → t.width ≡ w → t.bytes.now ≡ bs → log s.width s.bytes.now ≡ log w bs
log_of s t w bs e n b = ap (λ (x : Records). log x.width x.bytes.now) e ∙ (ap (λ m. log m t.bytes.now) n ∙ ap (log w) b)

-- the cell of a record that was found
abbrev pub cell_of : Option Record → Option Cell
cell_of o = option_map (λ r. record_cell r.bytes.now) o

-- What a walk keeps that has yet to read the records rs, of all: they are whole, and what it found is what it has seen of the
-- key.
pub record Finding (w k : ℕ) (all rs : List (List ℕ)) (found : Option Record) : Type 0 where
  pub sounds : sound w rs ≡ true
  pub wide : IfSome found (λ r. length (record_value r.bytes.now) ≡ w)
  pub looks : look_on (cell_of found) k rs ≡ look_on None k all

module _ (w k : ℕ) (all rs rs' : List (List ℕ)) (r : Record) (found : Option Record) (is : rs ≡ r.bytes.now ∷ rs') (l : Finding w k all rs found) where
  parts : (whole w r.bytes.now ≡ true) × (sound w rs' ≡ true)
  parts = and_parts (whole w r.bytes.now) (sound w rs') (ap (sound w) (sym is) ∙ l.sounds)

  looked : look_on (cond (eqb (record_key r.bytes.now) k) (seen r.bytes.now) (cell_of found)) k rs' ≡ look_on None k all
  looked = sym (ap (look_on (cell_of found) k) is) ∙ l.looks

  pub found_here : eqb (record_key r.bytes.now) k ≡ true → (b : Bool) → b ≡ is_put r.bytes.now → Finding w k all rs' (then_some b r)
  found_here t b p =
      let a : look_on (cond (is_put r.bytes.now) (Some (record_cell r.bytes.now)) None) k rs' ≡ look_on None k all = ap (λ o. look_on o k rs') (sym (cond-true (eqb (record_key r.bytes.now) k) (seen r.bytes.now) (cell_of found) t)) ∙ looked in
      elim b as (λ v. v ≡ is_put r.bytes.now → Finding w k all rs' (then_some v r)) [
        | true ↦ λ q. record { sounds = parts.1; wide = value_long w r.bytes.now parts.0 (sym q); looks = ap (λ v. look_on (cond v (Some (record_cell r.bytes.now)) None) k rs') q ∙ a }
        | false ↦ λ q. record { sounds = parts.1; wide = tt; looks = ap (λ v. look_on (cond v (Some (record_cell r.bytes.now)) None) k rs') q ∙ a }
      ] p
