-- What a get answers after puts and removes.
use Rattle.std.proofs.Common.{◌≡◌, ◌≢◌, ℕ, zero, suc, Bool, true, false, cond, eqb, List, [], ◌∷◌, map, take, Some, None, Option, sym, refl, ap, ◌∙◌, ⊎_elim}
use Rattle.std.specs.List.{list_any}
use Rattle.std.specs.Option.{option_map}
use Rattle.std.proofs.lemmas.Bool.{cases_Bool, and_parts, cond-true, cond-false, eq-eqb, eqb-true, ne_eqb}
use Rattle.stores.specs.Keyed.{headed, ascending, element_of, put}
use Rattle.stores.specs.Provider.{Pair, Cell, Provider, cell_key, keys}
use Rattle.stores.specs.Operations.{room_for, put_after, remove_after, get_answer}
use Rattle.stores.specs.Copying.{put_count, put_all, copied_answer}
use Rattle.stores.specs.MapLaw.{MapLaw}
use Rattle.stores.proofs.KeyedLists.{find_put, find_without, find_below, find_past, cond_map}
use Rattle.stores.proofs.CopySteps.{told_room, told_full, full_after}

abbrev pair_of : Option Cell → Option Pair
pair_of o = option_map (λ (c : Cell). c.pair) o

put_gets : (p : Provider) (c : Cell) (k : ℕ) → room_for c.key p ≡ true → get_answer k (put_after c p) ≡ cond (eqb c.key k) (Some c.pair) (get_answer k p)
put_gets p c k room =
    ap (λ cs. pair_of (element_of cell_key k cs)) (cond-true (room_for c.key p) (put cell_key c p.cells) p.cells room)
    ∙ (ap pair_of (find_put cell_key k c p.cells) ∙ cond_map pair_of (eqb c.key k) (Some c) (element_of cell_key k p.cells))

remove_gets : (p : Provider) (j k : ℕ) → get_answer k (remove_after j p) ≡ cond (eqb j k) None (get_answer k p)
remove_gets p j k = ap pair_of (find_without cell_key k j p.cells) ∙ cond_map pair_of (eqb j k) None (element_of cell_key k p.cells)

elsewhere : (p : Provider) (c : Cell) (k : ℕ) → k ≢ c.key → get_answer k (put_after c p) ≡ get_answer k p
elsewhere p c k ne =
    ⊎_elim
    (λ room. put_gets p c k room ∙ cond-false (eqb c.key k) (Some c.pair) (get_answer k p) (ne_eqb c.key k (λ e. ne (sym e))))
    (λ full. ap (get_answer k) (full_after c p full))
    (cases_Bool (room_for c.key p))

pub law : MapLaw
law = record {
  put_here = λ p c ok. put_gets p c c.key (told_room (room_for c.key p) (sym ok)) ∙ cond-true (eqb c.key c.key) (Some c.pair) (get_answer c.key p) (eq-eqb c.key c.key refl);
  put_elsewhere = elsewhere;
  put_refused = λ p c full. full_after c p (told_full (room_for c.key p) (sym full));
  remove_here = λ p k. remove_gets p k k ∙ cond-true (eqb k k) None (get_answer k p) (eq-eqb k k refl);
  remove_elsewhere = λ p j k ne. remove_gets p j k ∙ cond-false (eqb j k) None (get_answer k p) (ne_eqb j k (λ e. ne (sym e)));
}

-- a key that is absent is not among the first keys
not_among : (k n : ℕ) (cs : List Cell) → element_of cell_key k cs ≡ None → list_any (λ j. eqb j k) (take n (map cell_key cs)) ≡ false
not_among k zero cs none = refl
not_among k (suc n) [] none = refl
not_among k (suc n) (c ∷ cs) none =
    ⊎_elim
    (λ e. let z : ◌≡◌ {A = Option Cell} (Some c) None = sym (cond-true (eqb c.key k) (Some c) (element_of cell_key k cs) e) ∙ none in cc)
    (λ e. rw e (not_among k n cs (sym (find_past cell_key k c cs e) ∙ none)))
    (cases_Bool (eqb c.key k))

abbrev among : ℕ → ℕ → List Cell → Bool
among k n cs = list_any (λ j. eqb j k) (take n (map cell_key cs))

-- one more put, of a key that is not among the later ones
more_gets : (c : Cell) (cs : List Cell) (k n : ℕ) (last next before : Option Pair) → ascending (map cell_key (c ∷ cs)) ≡ true
    → last ≡ cond (among k n cs) (pair_of (element_of cell_key k cs)) next
    → next ≡ cond (eqb c.key k) (Some c.pair) before
    → last ≡ cond (among k (suc n) (c ∷ cs)) (pair_of (element_of cell_key k (c ∷ cs))) before
more_gets c cs k n last next before asc then first =
    let a = and_parts (headed c.key (map cell_key cs)) (ascending (map cell_key cs)) asc in
    ⊎_elim
    (λ e.
    let absent : element_of cell_key k cs ≡ None = sym (ap (λ x. element_of cell_key x cs) (eqb-true c.key k e)) ∙ find_below cell_key c.key cs a.0 a.1 in
    rw e (then ∙ (cond-false (among k n cs) (pair_of (element_of cell_key k cs)) next (not_among k n cs absent) ∙ (first ∙ cond-true (eqb c.key k) (Some c.pair) before e))))
    (λ e. rw e (then ∙ ap (cond (among k n cs) (pair_of (element_of cell_key k cs))) (first ∙ cond-false (eqb c.key k) (Some c.pair) before e)))
    (cases_Bool (eqb c.key k))

-- what a get answers after the puts of a copy
copy_gets : (cs : List Cell) (p : Provider) (k : ℕ) → ascending (map cell_key cs) ≡ true → get_answer k (put_all cs p) ≡ cond (among k (put_count cs p) cs) (pair_of (element_of cell_key k cs)) (get_answer k p)
copy_gets [] p k asc = refl
copy_gets (c ∷ cs) p k asc =
    let a = and_parts (headed c.key (map cell_key cs)) (ascending (map cell_key cs)) asc in
    let n = put_count cs (put_after c p) in
    let gets : ℕ → Option Pair = λ m. cond (among k m (c ∷ cs)) (pair_of (element_of cell_key k (c ∷ cs))) (get_answer k p) in
    ⊎_elim
    (λ room.
    ap (get_answer k) (cond-true (room_for c.key p) (put_all cs (put_after c p)) p room)
    ∙ (more_gets c cs k n _ (get_answer k (put_after c p)) (get_answer k p) asc (copy_gets cs (put_after c p) k a.1) (put_gets p c k room)
    ∙ sym (ap gets (cond-true (room_for c.key p) (suc n) 0 room))))
    (λ full.
    ap (get_answer k) (cond-false (room_for c.key p) (put_all cs (put_after c p)) p full)
    ∙ sym (ap gets (cond-false (room_for c.key p) (suc n) 0 full)))
    (cases_Bool (room_for c.key p))

pub copied : (from to after : Provider) (n : ℕ) → ascending (keys from) ≡ true → n ≡ put_count from.cells to → after ≡ put_all from.cells to → (k : ℕ) → get_answer k after ≡ copied_answer n from to k
copied from to after n asc answer is k = ap (get_answer k) is ∙ (copy_gets from.cells to k asc ∙ ap (λ m. copied_answer m from to k) (sym answer))
