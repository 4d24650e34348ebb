-- A record that was written is read back.
use Rattle.std.proofs.Common.{◌≡◌, ℕ, ◌^◌, ◌<◌, Bool, true, false, cond, eqb, List, [], ◌++◌, length, sym, refl, ap, ◌∙◌, ⊎_elim, arith}
use Rattle.std.proofs.lemmas.Bool.{cases_Bool, eq-eqb, eqb-true, cond-true, cond-false}
use Rattle.stores.specs.Keyed.{put, without}
use Rattle.stores.specs.Provider.{Cell, cell_key}
use Rattle.journal.specs.Forms.{known, form, size}
use Rattle.journal.specs.Record.{six_bytes, encoded, put_map, remove_map, put_record, remove_record, rank_at, record_key, record_version, record_value, record_cell, is_put, whole}
use Rattle.journal.specs.Codec.{ReadsPut, ReadsRemove}
use Rattle.journal.specs.Log.{step}
use Rattle.journal.proofs.Sizes.{whole_size}
use Rattle.journal.proofs.Sixes.{rank_back}

-- the bit maps of puts and removes

pub known_put : (s o : Bool) → known (put_map s o) ≡ true
unfolding known
known_put true true = refl
known_put true false = refl
known_put false true = refl
known_put false false = refl

pub known_remove : (s : Bool) → known (remove_map s) ≡ true
unfolding known
known_remove true = refl
known_remove false = refl

-- a put, by whether the key and the version are left out

key_as : (s o : Bool) (c : Cell) → c.key < 2 ^ 48 → record_key (encoded (put_map s o) c) ≡ cond s 0 c.key
unfolding encoded form record_key rank_at
key_as true true c f = refl
key_as true false c f = refl
key_as false true c f = rank_back c.key c.pair.value f
key_as false false c f = rank_back c.key (six_bytes c.pair.version ++ c.pair.value) f

version_as : (s o : Bool) (c : Cell) → c.key < 2 ^ 48 → c.pair.version < 2 ^ 48 → record_version (encoded (put_map s o) c) ≡ cond o (cond s 0 c.key) c.pair.version
unfolding encoded form record_version record_key rank_at six_bytes
version_as true true c f g = refl
version_as true false c f g = rank_back c.pair.version c.pair.value g
version_as false true c f g = rank_back c.key c.pair.value f
version_as false false c f g = rank_back c.pair.version c.pair.value g

value_as : (s o : Bool) (c : Cell) → record_value (encoded (put_map s o) c) ≡ c.pair.value
unfolding encoded form record_value six_bytes
value_as true true c = refl
value_as true false c = refl
value_as false true c = refl
value_as false false c = refl

whole_as : (s o : Bool) (c : Cell) (w : ℕ) → length c.pair.value ≡ w → whole w (encoded (put_map s o) c) ≡ true
unfolding encoded known form size whole six_bytes
whole_as true true c w e = eq-eqb _ _ (omega arith)
whole_as true false c w e = eq-eqb _ _ (omega arith)
whole_as false true c w e = eq-eqb _ _ (omega arith)
whole_as false false c w e = eq-eqb _ _ (omega arith)

is_put_as : (s o : Bool) (c : Cell) → is_put (encoded (put_map s o) c) ≡ true
unfolding encoded form is_put
is_put_as true true c = refl
is_put_as true false c = refl
is_put_as false true c = refl
is_put_as false false c = refl

left_out : (a b : ℕ) → cond (eqb a b) b a ≡ a
left_out a b = ⊎_elim (λ p. rw p (sym (eqb-true a b p))) (λ p. rw p refl) (cases_Bool (eqb a b))

-- a put that is written and then read is that put
pub put_back : (w : ℕ) (c : Cell) → c.key < 2 ^ 48 → c.pair.version < 2 ^ 48 → length c.pair.value ≡ w → ReadsPut w (put_record c) c
unfolding put_record
put_back w c f g e =
    let s = eqb c.key 0 in
    let o = eqb c.pair.version c.key in
    let r = encoded (put_map s o) c in
    let k : record_key r ≡ c.key = key_as s o c f ∙ left_out c.key 0 in
    let v : record_version r ≡ c.pair.version = version_as s o c f g ∙ (ap (λ x. cond (eqb c.pair.version c.key) x c.pair.version) (left_out c.key 0) ∙ left_out c.pair.version c.key) in
    let cell : ℕ → ℕ → List ℕ → Cell = λ x y z. record { key = x; pair = record { version = y; value = z } } in
    let h = whole_as s o c w e in
    record {
      wholly = h;
      long = whole_size w r h;
      puts = is_put_as s o c;
      says = ap (λ x. cell x (record_version r) (record_value r)) k ∙ (ap (λ y. cell c.key y (record_value r)) v ∙ ap (cell c.key c.pair.version) (value_as s o c));
    }

-- a remove, by whether the key is left out
remove_as : (s : Bool) (c : Cell) (w : ℕ) → c.key < 2 ^ 48 → (record_key (encoded (remove_map s) c) ≡ cond s 0 c.key) × (whole w (encoded (remove_map s) c) ≡ true) × (is_put (encoded (remove_map s) c) ≡ false)
unfolding encoded known form size record_key rank_at whole is_put six_bytes
remove_as true c w f = (refl, refl, refl)
remove_as false c w f = (rank_back c.key [] f, refl, refl)

pub remove_back : (w k : ℕ) → k < 2 ^ 48 → ReadsRemove w (remove_record k) k
unfolding remove_record
remove_back w k f =
    let a = remove_as (eqb k 0) (record { key = k; pair = record { version = k; value = [] } }) w f in
    record { wholly = a.1; long = whole_size w _ a.1; removes = a.2; says = a.0 ∙ left_out k 0 }

pub step_put : (w : ℕ) (r : List ℕ) (c : Cell) (m : List Cell) → ReadsPut w r c → step r m ≡ put cell_key c m
step_put w r c m b = cond-true (is_put r) (put cell_key (record_cell r) m) (without cell_key (record_key r) m) b.puts ∙ ap (λ x. put cell_key x m) b.says

pub step_remove : (w : ℕ) (r : List ℕ) (k : ℕ) (m : List Cell) → ReadsRemove w r k → step r m ≡ without cell_key k m
step_remove w r k m b = cond-false (is_put r) (put cell_key (record_cell r) m) (without cell_key (record_key r) m) b.removes ∙ ap (λ x. without cell_key x m) b.says

-- the records under the bit maps that were worked out
pub is_put_record : (b : ℕ) (c : Cell) → b ≡ put_map (eqb c.key 0) (eqb c.pair.version c.key) → encoded b c ≡ put_record c
unfolding put_record
is_put_record b c e = ap (λ x. encoded x c) e

pub is_remove_record : (b k : ℕ) → b ≡ remove_map (eqb k 0) → encoded b (record { key = k; pair = record { version = k; value = [] } }) ≡ remove_record k
unfolding remove_record
is_remove_record b k e = ap (λ x. encoded x (record { key = k; pair = record { version = k; value = [] } })) e
