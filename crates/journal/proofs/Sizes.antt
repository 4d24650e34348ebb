-- How long records are, by the table of forms.
use Rattle.std.proofs.Common.{◌≡◌, ℕ, zero, suc, ◌+◌, ◌<◌, ◌≤◌, true, cond, eqb, List, length, is_some, None, refl, ap, ⊎_elim, arith}
use Rattle.std.proofs.lemmas.List.{get_or_past, length-drop}
use Rattle.std.proofs.lemmas.Bool.{cases_lt, both_ways, eqb-true, cond_both, cond-true, and_parts}
use Rattle.journal.specs.Forms.{forms, known, form, size}
use Rattle.journal.specs.Record.{bit_map, whole, is_put, record_value}

-- the summed length in the table is that of the fields that stand
pub lengths : (b : ℕ) → (form b).length ≡ cond (form b).key 6 0 + cond (form b).version 6 0
unfolding form
lengths zero = refl
lengths (suc zero) = refl
lengths (suc (suc zero)) = refl
lengths (suc (suc (suc zero))) = refl
lengths (suc (suc (suc (suc zero)))) = refl
lengths (suc (suc (suc (suc (suc zero))))) = refl
lengths (suc (suc (suc (suc (suc (suc zero)))))) = refl
lengths (suc (suc (suc (suc (suc (suc (suc zero))))))) = refl
lengths (suc (suc (suc (suc (suc (suc (suc (suc b)))))))) = refl

pub known_below : (b : ℕ) → known b ≡ true → b < 8
unfolding known
known_below b h = ⊎_elim (λ lt. lt) (λ le. absurd (both_ways (known b) (ap is_some (get_or_past forms b None le)) h)) (cases_lt b 8)

pub short_fields : (b : ℕ) → (form b).length ≤ 12
short_fields b =
    let e = lengths b in
    let k : cond (form b).key 6 0 ≤ 6 = cond_both (form b).key 6 0 (λ n. n ≤ 6) (λ _. omega arith) (λ _. omega arith) in
    let v : cond (form b).version 6 0 ≤ 6 = cond_both (form b).version 6 0 (λ n. n ≤ 6) (λ _. omega arith) (λ _. omega arith) in
    omega arith

size_is : (w b : ℕ) → size w b ≡ 1 + ((form b).length + cond (form b).value w 0)
unfolding size
size_is w b = refl

pub size_le : (w b : ℕ) → size w b ≤ 13 + w
size_le w b =
    let e = size_is w b in
    let f = short_fields b in
    let v : cond (form b).value w 0 ≤ w = cond_both (form b).value w 0 (λ n. n ≤ w) (λ _. omega arith) (λ _. omega arith) in
    omega arith

pub size_pos : (w b : ℕ) → 0 < size w b
size_pos w b = let e = size_is w b in omega arith

pub whole_size : (w : ℕ) (r : List ℕ) → whole w r ≡ true → length r ≡ size w (bit_map r)
unfolding whole
whole_size w r h = eqb-true (length r) (size w (bit_map r)) (and_parts (known (bit_map r)) (eqb (length r) (size w (bit_map r))) h).1

-- a whole record begins with a bit map that is one
pub whole_known : (w : ℕ) (r : List ℕ) → whole w r ≡ true → known (bit_map r) ≡ true
unfolding whole
whole_known w r h = (and_parts (known (bit_map r)) (eqb (length r) (size w (bit_map r))) h).0

pub whole_some : (w : ℕ) (r : List ℕ) → whole w r ≡ true → 0 < length r
whole_some w r h = let z = whole_size w r h in let p = size_pos w (bit_map r) in omega arith

-- what a whole record has: the key and the version that its bit map names
pub whole_long : (w : ℕ) (r : List ℕ) → whole w r ≡ true → 1 + (form (bit_map r)).length ≤ length r
whole_long w r h = let z = whole_size w r h in let s = size_is w (bit_map r) in omega arith

pub key_fits : (r : List ℕ) → 1 + (form (bit_map r)).length ≤ length r → (form (bit_map r)).key ≡ true → 7 ≤ length r
key_fits r h k =
    let l = lengths (bit_map r) in
    let e : ◌≡◌ {A = ℕ} (cond (form (bit_map r)).key 6 0) 6 = cond-true (form (bit_map r)).key 6 0 k in
    omega arith

pub version_fits : (r : List ℕ) → 1 + (form (bit_map r)).length ≤ length r → (form (bit_map r)).version ≡ true → 7 + cond (form (bit_map r)).key 6 0 ≤ length r
version_fits r h v =
    let l = lengths (bit_map r) in
    let e : ◌≡◌ {A = ℕ} (cond (form (bit_map r)).version 6 0) 6 = cond-true (form (bit_map r)).version 6 0 v in
    omega arith

pub value_fits : (w : ℕ) (r : List ℕ) → whole w r ≡ true → (form (bit_map r)).value ≡ true → length r ≡ 1 + (form (bit_map r)).length + w
value_fits w r h v =
    let z = whole_size w r h in
    let s = size_is w (bit_map r) in
    let e = cond-true (form (bit_map r)).value w 0 v in
    omega arith

-- a put's value is as wide as its log's values
pub value_long : (w : ℕ) (r : List ℕ) → whole w r ≡ true → is_put r ≡ true → length (record_value r) ≡ w
unfolding record_value is_put
value_long w r h p =
    let v = value_fits w r h p in
    let d = length-drop (1 + (form (bit_map r)).length) r in
    omega arith
