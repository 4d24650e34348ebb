-- What the records of a log leave, and that packing keeps it.
use Rattle.std.proofs.Common.{◌≡◌, ℕ, suc, ◌+◌, ◌*◌, ◌≤◌, Bool, true, false, cond, ◌&&◌, not, eqb, List, [], ◌∷◌, ◌++◌, length, Some, None, Option, sym, refl, ap, ◌∙◌, subst, ⊎_elim, suc-mul, arith}
use Rattle.std.proofs.lemmas.List.{length-append}
use Rattle.std.proofs.lemmas.Bool.{cases_Bool, or_right, both_ways, cond-true, cond-false, cond_both, and_parts, and_from, eqb-true, eq-eqb}
use Rattle.stores.specs.Keyed.{element_of, put, without}
use Rattle.stores.specs.Provider.{Cell, cell_key}
use Rattle.stores.proofs.KeyedLists.{find_put, find_without}
use Rattle.journal.specs.Record.{bit_map, record_key, record_cell, is_put, whole}
use Rattle.journal.specs.Log.{joined, sound, step, replay_on, replay, mentions, live}
use Rattle.journal.specs.Lawful.{ascends_replay}
use Rattle.journal.specs.Walk.{seen, look_on, is_live}
use Rattle.journal.proofs.Sizes.{size_le, whole_size}
use Rattle.journal.proofs.Maps.{same_maps, length_put_new}

find_step : (k : ℕ) (r : List ℕ) (m : List Cell) → element_of cell_key k (step r m) ≡ cond (eqb (record_key r) k) (seen r) (element_of cell_key k m)
find_step k r m =
    ⊎_elim
    (λ p. rw p (find_put cell_key k (record_cell r) m))
    (λ p. rw p (find_without cell_key k (record_key r) m))
    (cases_Bool (is_put r))

find_replay_on : (k : ℕ) (m : List Cell) (rs : List (List ℕ)) → element_of cell_key k (replay_on m rs) ≡ look_on (element_of cell_key k m) k rs
find_replay_on k m [] = refl
find_replay_on k m (r ∷ rs) = find_replay_on k (step r m) rs ∙ ap (λ o. look_on o k rs) (find_step k r m)

pub find_replay : (k : ℕ) (rs : List (List ℕ)) → element_of cell_key k (replay rs) ≡ look_on None k rs
find_replay k rs = find_replay_on k [] rs

pub replay_push : (m : List Cell) (rs : List (List ℕ)) (r : List ℕ) → replay_on m (rs ++ r ∷ []) ≡ step r (replay_on m rs)
replay_push m [] r = refl
replay_push m (s ∷ rs) r = replay_push (step s m) rs r

mentions_live : (k : ℕ) (rs : List (List ℕ)) → mentions k rs ≡ false → mentions k (live rs) ≡ false
mentions_live k [] h = refl
mentions_live k (r ∷ rs) h =
    ⊎_elim
    (λ s. absurd (both_ways (mentions k (r ∷ rs)) h (rw s refl)))
    (λ s.
    let t : mentions k rs ≡ false = rw s at h in
    let i = mentions_live k rs t in
    cond_both (is_put r) (cond (mentions (record_key r) rs) (live rs) (r ∷ live rs)) (live rs) (λ xs. mentions k xs ≡ false)
    (λ _. cond_both (mentions (record_key r) rs) (live rs) (r ∷ live rs) (λ xs. mentions k xs ≡ false) (λ _. i) (λ _. rw s i))
    (λ _. i))
    (cases_Bool (eqb (record_key r) k))

look_none : (o : Option Cell) (k : ℕ) (rs : List (List ℕ)) → mentions k rs ≡ false → look_on o k rs ≡ o
look_none o k [] h = refl
look_none o k (r ∷ rs) h =
    ⊎_elim
    (λ s. absurd (both_ways (mentions k (r ∷ rs)) h (rw s refl)))
    (λ s. rw s (look_none o k rs (rw s at h)))
    (cases_Bool (eqb (record_key r) k))

look_any : (o p : Option Cell) (k : ℕ) (rs : List (List ℕ)) → mentions k rs ≡ true → look_on o k rs ≡ look_on p k rs
look_any o p k [] h = absurd (both_ways false refl h)
look_any o p k (r ∷ rs) h =
    ⊎_elim
    (λ s. rw s refl)
    (λ s. rw s (look_any o p k rs (rw s at h)))
    (cases_Bool (eqb (record_key r) k))

pub live_kept : (r : List ℕ) (rs : List (List ℕ)) → is_put r ≡ true → mentions (record_key r) rs ≡ false → live (r ∷ rs) ≡ r ∷ live rs
live_kept r rs p m = cond-true (is_put r) _ (live rs) p ∙ cond-false (mentions (record_key r) rs) (live rs) (r ∷ live rs) m

pub live_old : (r : List ℕ) (rs : List (List ℕ)) → is_put r ≡ true → mentions (record_key r) rs ≡ true → live (r ∷ rs) ≡ live rs
live_old r rs p m = cond-true (is_put r) _ (live rs) p ∙ cond-true (mentions (record_key r) rs) (live rs) (r ∷ live rs) m

pub live_gone : (r : List ℕ) (rs : List (List ℕ)) → is_put r ≡ false → live (r ∷ rs) ≡ live rs
live_gone r rs p = cond-false (is_put r) _ (live rs) p

-- a live record stays
live_by : {A : Type 0} (p m : Bool) (x y : A) → cond p (cond m y x) y ≡ cond (p && not m) x y
live_by true true x y = refl
live_by true false x y = refl
live_by false m x y = refl

pub live_stays : (r : List ℕ) (rs : List (List ℕ)) → is_live r rs ≡ true → live (r ∷ rs) ≡ r ∷ live rs
live_stays r rs h = live_by (is_put r) (mentions (record_key r) rs) _ _ ∙ cond-true (is_live r rs) _ _ h

look_hit : (o : Option Cell) (k : ℕ) (r : List ℕ) (rs : List (List ℕ)) → eqb (record_key r) k ≡ true → is_put r ≡ true → look_on o k (r ∷ rs) ≡ look_on (Some (record_cell r)) k rs
look_hit o k r rs s p = ap (λ x. look_on x k rs) (cond-true (eqb (record_key r) k) (seen r) o s ∙ cond-true (is_put r) (Some (record_cell r)) None p)

look_gone : (o : Option Cell) (k : ℕ) (r : List ℕ) (rs : List (List ℕ)) → eqb (record_key r) k ≡ true → is_put r ≡ false → look_on o k (r ∷ rs) ≡ look_on None k rs
look_gone o k r rs s p = ap (λ x. look_on x k rs) (cond-true (eqb (record_key r) k) (seen r) o s ∙ cond-false (is_put r) (Some (record_cell r)) None p)

look_past : (o : Option Cell) (k : ℕ) (r : List ℕ) (rs : List (List ℕ)) → eqb (record_key r) k ≡ false → look_on o k (r ∷ rs) ≡ look_on o k rs
look_past o k r rs s = ap (λ x. look_on x k rs) (cond-false (eqb (record_key r) k) (seen r) o s)

look_live : (k : ℕ) (rs : List (List ℕ)) → look_on None k (live rs) ≡ look_on None k rs
look_live k [] = refl
look_live k (r ∷ rs) =
    ⊎_elim
    (λ s.
    let kr : record_key r ≡ k = eqb-true (record_key r) k s in
    ⊎_elim
    (λ p.
    ⊎_elim
    (λ m. ap (look_on None k) (live_old r rs p m) ∙ (look_live k rs ∙ (look_any None (Some (record_cell r)) k rs (subst (λ j. mentions j rs ≡ true) kr m) ∙ sym (look_hit None k r rs s p))))
    (λ m.
    let m' : mentions k rs ≡ false = subst (λ j. mentions j rs ≡ false) kr m in
    ap (look_on None k) (live_kept r rs p m) ∙ (look_hit None k r (live rs) s p ∙ (look_none (Some (record_cell r)) k (live rs) (mentions_live k rs m') ∙ (sym (look_none (Some (record_cell r)) k rs m') ∙ sym (look_hit None k r rs s p)))))
    (cases_Bool (mentions (record_key r) rs)))
    (λ p. ap (look_on None k) (live_gone r rs p) ∙ (look_live k rs ∙ sym (look_gone None k r rs s p)))
    (cases_Bool (is_put r)))
    (λ s.
    cond_both (is_put r) (cond (mentions (record_key r) rs) (live rs) (r ∷ live rs)) (live rs) (λ xs. look_on None k xs ≡ look_on None k (r ∷ rs))
    (λ _. cond_both (mentions (record_key r) rs) (live rs) (r ∷ live rs) (λ xs. look_on None k xs ≡ look_on None k (r ∷ rs)) (λ _. look_live k rs ∙ sym (look_past None k r rs s)) (λ _. look_past None k r (live rs) s ∙ (look_live k rs ∙ sym (look_past None k r rs s))))
    (λ _. look_live k rs ∙ sym (look_past None k r rs s)))
    (cases_Bool (eqb (record_key r) k))

-- packing keeps the map
pub replay_live : (rs : List (List ℕ)) → replay (live rs) ≡ replay rs
replay_live rs = same_maps (replay (live rs)) (replay rs) (ascends_replay [] (live rs) refl) (ascends_replay [] rs refl) (λ k. find_replay k (live rs) ∙ (look_live k rs ∙ sym (find_replay k rs)))

-- each live record has a key of its own
count_on : (m : List Cell) (rs : List (List ℕ)) → ((k : ℕ) → mentions k rs ≡ true → element_of cell_key k m ≡ None) → length (replay_on m (live rs)) ≡ length m + length (live rs)
count_on m [] h = omega arith
count_on m (r ∷ rs) h =
    let h' : (k : ℕ) → mentions k rs ≡ true → element_of cell_key k m ≡ None = λ k t. h k (or_right (eqb (record_key r) k) (mentions k rs) t) in
    let i = count_on m rs h' in
    cond_both (is_put r) (cond (mentions (record_key r) rs) (live rs) (r ∷ live rs)) (live rs) (λ xs. length (replay_on m xs) ≡ length m + length xs)
    (λ p.
    cond_both (mentions (record_key r) rs) (live rs) (r ∷ live rs) (λ xs. length (replay_on m xs) ≡ length m + length xs)
    (λ _. i)
    (λ u.
    let n : length (put cell_key (record_cell r) m) ≡ suc (length m) = length_put_new (record_cell r) m (h (record_key r) (rw (eq-eqb (record_key r) (record_key r) refl) refl)) in
    let j = count_on (put cell_key (record_cell r) m) rs (λ k t.
    find_put cell_key k (record_cell r) m ∙
    ⊎_elim
    (λ s. absurd (both_ways (mentions (record_key r) rs) u (subst (λ x. mentions x rs ≡ true) (sym (eqb-true (record_key r) k s)) t)))
    (λ s. rw s (h' k t))
    (cases_Bool (eqb (record_key r) k))) in
    ap (λ x. length (replay_on x (live rs))) (cond-true (is_put r) (put cell_key (record_cell r) m) (without cell_key (record_key r) m) p) ∙ omega arith))
    (λ _. i)

pub count_live : (rs : List (List ℕ)) → length (live rs) ≡ length (replay rs)
count_live rs = let a = count_on [] rs (λ k t. refl) in let b = ap length (replay_live rs) in omega arith

pub sound_live : (w : ℕ) (rs : List (List ℕ)) → sound w rs ≡ true → sound w (live rs) ≡ true
sound_live w [] h = refl
sound_live w (r ∷ rs) h =
    let g = and_parts (whole w r) (sound w rs) h in
    let i = sound_live w rs g.1 in
    cond_both (is_put r) (cond (mentions (record_key r) rs) (live rs) (r ∷ live rs)) (live rs) (λ xs. sound w xs ≡ true)
    (λ _. cond_both (mentions (record_key r) rs) (live rs) (r ∷ live rs) (λ xs. sound w xs ≡ true) (λ _. i) (λ _. and_from (whole w r) (sound w (live rs)) g.0 i))
    (λ _. i)

pub length_joined : (w : ℕ) (rs : List (List ℕ)) → sound w rs ≡ true → length (joined rs) ≤ length rs * (13 + w)
length_joined w [] h = omega arith
length_joined w (r ∷ rs) h =
    let g = and_parts (whole w r) (sound w rs) h in
    let i = length_joined w rs g.1 in
    let a = length-append r (joined rs) in
    let z = whole_size w r g.0 in
    let s = size_le w (bit_map r) in
    let m = suc-mul (length rs) (13 + w) in
    omega arith
