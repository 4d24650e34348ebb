-- Bytes cut into records, and records joined to bytes.
use Rattle.std.proofs.Common.{◌≡◌, ℕ, zero, suc, ◌+◌, ◌<◌, ◌≤◌, true, List, [], ◌∷◌, ◌++◌, length, take, drop, Some, None, sym, refl, ap, ◌∙◌, subst, arith}
use Rattle.std.specs.List.{slice_get}
use Rattle.std.proofs.lemmas.List.{length-append, length-drop, length-take, take-append-drop, take_at, drop_at, drop-drop, append_assoc, append-nil}
use Rattle.std.proofs.lemmas.Bool.{and_parts, and_from}
use Rattle.journal.specs.Forms.{known, size}
use Rattle.journal.specs.Record.{bit_map, whole}
use Rattle.journal.specs.Log.{cut, log, joined, sound}
use Rattle.journal.proofs.Sizes.{size_pos, whole_size, whole_known, whole_some}

-- enough is as good as more
cut_more : (n m w : ℕ) (bs : List ℕ) → length bs ≤ n → length bs ≤ m → cut n w bs ≡ cut m w bs
cut_more zero zero w bs p q = refl
cut_more zero (suc m) w [] p q = refl
cut_more zero (suc m) w (b ∷ bs) p q = absurd (omega arith)
cut_more (suc n) zero w [] p q = refl
cut_more (suc n) zero w (b ∷ bs) p q = absurd (omega arith)
cut_more (suc n) (suc m) w [] p q = refl
cut_more (suc n) (suc m) w (b ∷ bs) p q =
    let s = size_pos w b in
    let l = length-drop (size w b) (b ∷ bs) in
    ap (λ rs. take (size w b) (b ∷ bs) ∷ rs) (cut_more n m w (drop (size w b) (b ∷ bs)) (omega arith) (omega arith))

log_cons : (w b : ℕ) (bs : List ℕ) → log w (b ∷ bs) ≡ take (size w b) (b ∷ bs) ∷ log w (drop (size w b) (b ∷ bs))
unfolding log
log_cons w b bs =
    let s = size_pos w b in
    let l = length-drop (size w b) (b ∷ bs) in
    ap (λ rs. take (size w b) (b ∷ bs) ∷ rs) (cut_more (length bs) (length (drop (size w b) (b ∷ bs))) w (drop (size w b) (b ∷ bs)) (omega arith) (omega arith))

log_nil : (w : ℕ) → log w [] ≡ []
unfolding log
log_nil w = refl

joined_cut : (n w : ℕ) (bs : List ℕ) → length bs ≤ n → joined (cut n w bs) ≡ bs
joined_cut zero w [] p = refl
joined_cut zero w (b ∷ bs) p = absurd (omega arith)
joined_cut (suc n) w [] p = refl
joined_cut (suc n) w (b ∷ bs) p =
    let s = size_pos w b in
    let l = length-drop (size w b) (b ∷ bs) in
    ap (λ xs. take (size w b) (b ∷ bs) ++ xs) (joined_cut n w (drop (size w b) (b ∷ bs)) (omega arith)) ∙ take-append-drop (size w b) (b ∷ bs)

-- cutting loses nothing
pub joined_log : (w : ℕ) (bs : List ℕ) → joined (log w bs) ≡ bs
unfolding log
joined_log w bs = joined_cut (length bs) w bs (omega arith)

-- whole records that were joined come apart again
pub log_joined : (w : ℕ) (rs : List (List ℕ)) → sound w rs ≡ true → log w (joined rs) ≡ rs
log_joined w [] h = log_nil w
log_joined w (([]) ∷ rs) h = absurd (let z = whole_size w [] (and_parts (whole w []) (sound w rs) h).0 in let s = size_pos w (bit_map []) in omega arith)
log_joined w ((b ∷ r) ∷ rs) h =
    let g = and_parts (whole w (b ∷ r)) (sound w rs) h in
    let z : length (b ∷ r) ≡ size w b = whole_size w (b ∷ r) g.0 in
    let t : take (size w b) ((b ∷ r) ++ joined rs) ≡ b ∷ r = take_at (b ∷ r) (joined rs) (size w b) z in
    let d : drop (size w b) ((b ∷ r) ++ joined rs) ≡ joined rs = drop_at (b ∷ r) (joined rs) (size w b) z in
    log_cons w b (r ++ joined rs) ∙ (ap (λ x. x ∷ log w (drop (size w b) ((b ∷ r) ++ joined rs))) t ∙ (ap (λ xs. (b ∷ r) ∷ log w xs) d ∙ ap (λ xs. (b ∷ r) ∷ xs) (log_joined w rs g.1)))

pub sound_append : (w : ℕ) (rs ss : List (List ℕ)) → sound w rs ≡ true → sound w ss ≡ true → sound w (rs ++ ss) ≡ true
sound_append w [] ss p q = q
sound_append w (r ∷ rs) ss p q =
    let g = and_parts (whole w r) (sound w rs) p in
    and_from (whole w r) (sound w (rs ++ ss)) g.0 (sound_append w rs ss g.1 q)

joined_append : (rs ss : List (List ℕ)) → joined (rs ++ ss) ≡ joined rs ++ joined ss
joined_append [] ss = refl
joined_append (r ∷ rs) ss = ap (λ xs. r ++ xs) (joined_append rs ss) ∙ sym (append_assoc r (joined rs) (joined ss))

bit_map_take : (n : ℕ) (bs : List ℕ) → 0 < n → bit_map (take n bs) ≡ bit_map bs
bit_map_take zero bs p = absurd (omega arith)
bit_map_take (suc n) [] p = refl
bit_map_take (suc n) (b ∷ bs) p = refl

-- what a walk learns of the record that begins with the first byte
pub record Begins (w b : ℕ) (bs : List ℕ) : Type 0 where
  pub begun : known b ≡ true
  pub within : size w b ≤ length bs
  pub one : whole w (take (size w b) bs) ≡ true
  pub rest : sound w (log w (drop (size w b) bs)) ≡ true
  pub is : log w bs ≡ take (size w b) bs ∷ log w (drop (size w b) bs)

begins_cons : (w b : ℕ) (bs : List ℕ) → sound w (log w (b ∷ bs)) ≡ true → Begins w b (b ∷ bs)
begins_cons w b bs h =
    let n = size w b in
    let e = log_cons w b bs in
    let g = and_parts (whole w (take n (b ∷ bs))) (sound w (log w (drop n (b ∷ bs)))) (sym (ap (sound w) e) ∙ h) in
    let f : bit_map (take (size w b) (b ∷ bs)) ≡ b = bit_map_take n (b ∷ bs) (size_pos w b) in
    let z : length (take (size w b) (b ∷ bs)) ≡ size w b = whole_size w (take n (b ∷ bs)) g.0 ∙ ap (size w) f in
    let l : length (take (size w b) (b ∷ bs)) ≤ length (b ∷ bs) = simp length-take (omega arith) in
    record { begun = ap known (sym f) ∙ whole_known w (take n (b ∷ bs)) g.0; within = omega arith; one = g.0; rest = g.1; is = e }

pub begins : (w b : ℕ) (bs : List ℕ) → Some b ≡ slice_get bs 0 → sound w (log w bs) ≡ true → Begins w b bs
begins w b [] is h = cc
begins w b (x ∷ bs) is h = let e : x ≡ b = cc in subst (λ y. Begins w y (x ∷ bs)) e (begins_cons w x bs h)

-- where no byte is left, no record is
pub ended : (w : ℕ) (bs : List ℕ) → None ≡ slice_get bs 0 → log w bs ≡ []
ended w [] is = log_nil w
ended w (b ∷ bs) is = cc

-- the record at a place, and those after it
pub record First (w : ℕ) (bs : List ℕ) (at : ℕ) (r : List ℕ) : Type 0 where
  pub more : 0 < length r
  pub within : at + length r ≤ length bs
  pub here : take (length r) (drop at bs) ≡ r
  pub rest : sound w (log w (drop (at + length r) bs)) ≡ true
  pub is : log w (drop at bs) ≡ r ∷ log w (drop (at + length r) bs)

pub first : (w : ℕ) (bs : List ℕ) (at : ℕ) (r : List ℕ) (rs : List (List ℕ)) → at ≤ length bs → sound w (log w (drop at bs)) ≡ true → log w (drop at bs) ≡ r ∷ rs → First w bs at r
first w bs at r rs le h e =
    let g = and_parts (whole w r) (sound w rs) (ap (sound w) (sym e) ∙ h) in
    let j : drop at bs ≡ r ++ joined rs = sym (joined_log w (drop at bs)) ∙ ap joined e in
    let d : drop (at + length r) bs ≡ joined rs = sym (drop-drop (length r) at bs) ∙ (ap (drop (length r)) j ∙ drop_at r (joined rs) (length r) refl) in
    let i : log w (drop (at + length r) bs) ≡ rs = ap (log w) d ∙ log_joined w rs g.1 in
    let n = ap length j in
    let a = length-append r (joined rs) in
    let k = length-drop at bs in
    record { more = whole_some w r g.0; within = omega arith; here = ap (take (length r)) j ∙ take_at r (joined rs) (length r) refl; rest = ap (sound w) i ∙ g.1; is = e ∙ ap (λ xs. r ∷ xs) (sym i) }

-- a whole record after whole records is one more
pub log_push : (w : ℕ) (bs r : List ℕ) → sound w (log w bs) ≡ true → whole w r ≡ true → log w (bs ++ r) ≡ log w bs ++ r ∷ []
log_push w bs r h o =
    let a : joined (log w bs ++ r ∷ []) ≡ bs ++ r = joined_append (log w bs) (r ∷ []) ∙ (ap (λ xs. joined (log w bs) ++ xs) (append-nil r) ∙ ap (λ xs. xs ++ r) (joined_log w bs)) in
    ap (log w) (sym a) ∙ log_joined w (log w bs ++ r ∷ []) (sound_append w (log w bs) (r ∷ []) h (and_from (whole w r) true o refl))
