-- Maps in ascending order of their keys are equal where every key has the same cell.
use Rattle.std.proofs.Common.{◌≡◌, ℕ, suc, ◌+◌, ◌<◌, ◌≤◌, true, false, cond, eqb, ltb, List, [], ◌∷◌, map, length, is_some, Some, None, Option, sym, refl, ap, ◌∙◌, ⊎_elim, arith}
use Rattle.std.proofs.lemmas.Bool.{cases_Bool, both_ways, cond_both, and_parts, eqb-true, ltb-true, ltb-false, lt-ltb}
use Rattle.std.proofs.lemmas.Bool.Decides.{nat_tests}
use Rattle.std.proofs.lemmas.Option.{none-some}
use Rattle.stores.specs.Keyed.{headed, ascending, element_of, put, without}
use Rattle.stores.specs.Provider.{Cell, cell_key}
use Rattle.stores.proofs.KeyedLists.{find_hit, find_past, find_below, without_absent, length_put}

abbrev pub ranks : List Cell → List ℕ
ranks m = map cell_key m

pub none_is : (o : Option Cell) → is_some o ≡ false → o ≡ None
none_is None h = refl
none_is (Some x) h = absurd (both_ways true h refl)

-- in order, a key before the first is absent
before_first : (k : ℕ) (c : Cell) (cs : List Cell) → ascending (ranks (c ∷ cs)) ≡ true → k < c.key → element_of cell_key k (c ∷ cs) ≡ None
before_first k c cs asc l = find_below cell_key k (c ∷ cs) (lt-ltb k c.key l) asc

absent_after : (k : ℕ) (c : Cell) (cs : List Cell) → ascending (ranks (c ∷ cs)) ≡ true → c.key ≡ k → element_of cell_key k cs ≡ None
absent_after k c cs asc s =
    let h = and_parts (headed c.key (ranks cs)) (ascending (ranks cs)) asc in
    sym (ap (λ k. element_of cell_key k cs) s) ∙ find_below cell_key c.key cs h.0 h.1

tail_ascends : (c : Cell) (cs : List Cell) → ascending (ranks (c ∷ cs)) ≡ true → ascending (ranks cs) ≡ true
tail_ascends c cs h = (and_parts (headed c.key (ranks cs)) (ascending (ranks cs)) h).1

pub same_maps : (m n : List Cell) → ascending (ranks m) ≡ true → ascending (ranks n) ≡ true → ((k : ℕ) → element_of cell_key k m ≡ element_of cell_key k n) → m ≡ n
same_maps [] [] p q h = refl
same_maps [] (d ∷ ds) p q h = absurd (none-some d (sym (sym (find_hit cell_key d.key d ds refl) ∙ sym (h d.key))))
same_maps (c ∷ cs) [] p q h = absurd (none-some c (sym (sym (find_hit cell_key c.key c cs refl) ∙ h c.key)))
same_maps (c ∷ cs) (d ∷ ds) p q h =
    ⊎_elim
    (λ e. absurd (none-some c (sym (sym (find_hit cell_key c.key c cs refl) ∙ (h c.key ∙ before_first c.key d ds q (ltb-true c.key d.key e))))))
    (λ e.
    ⊎_elim
    (λ s.
    let i = eqb-true c.key d.key s in
    let a : ◌≡◌ {A = Option Cell} (Some c) (Some d) = sym (find_hit cell_key d.key c cs i) ∙ (h d.key ∙ find_hit cell_key d.key d ds refl) in
    let b : c ≡ d = cc in
    let t : cs ≡ ds = same_maps cs ds (tail_ascends c cs p) (tail_ascends d ds q) (λ k.
    ⊎_elim
    (λ z. absent_after k c cs p (eqb-true c.key k z) ∙ sym (absent_after k d ds q (sym i ∙ eqb-true c.key k z)))
    (λ z. let z' : eqb d.key k ≡ false = grind (arith, nat_tests) in sym (find_past cell_key k c cs z) ∙ (h k ∙ find_past cell_key k d ds z'))
    (cases_Bool (eqb c.key k))) in
    ap (λ x. x ∷ cs) b ∙ ap (λ xs. d ∷ xs) t)
    (λ s.
    let f = ltb-false c.key d.key e in
    absurd (none-some d (sym (sym (find_hit cell_key d.key d ds refl) ∙ (sym (h d.key) ∙ before_first d.key c cs p (grind (arith, nat_tests)))))))
    (cases_Bool (eqb c.key d.key)))
    (cases_Bool (ltb c.key d.key))

-- how many keys a put and a remove leave

pub length_put_new : (n : Cell) (m : List Cell) → element_of cell_key n.key m ≡ None → length (put cell_key n m) ≡ suc (length m)
length_put_new n [] h = refl
length_put_new n (c ∷ cs) h =
    cond_both (ltb c.key n.key) (c ∷ put cell_key n cs) (n ∷ cond (eqb c.key n.key) cs (c ∷ cs)) (λ m. length m ≡ suc (length (c ∷ cs)))
    (λ p. ap suc (length_put_new n cs (sym (find_past cell_key n.key c cs (grind (arith, nat_tests))) ∙ h)))
    (λ p.
    cond_both (eqb c.key n.key) cs (c ∷ cs) (λ m. suc (length m) ≡ suc (length (c ∷ cs)))
    (λ s. absurd (none-some c (sym (sym (find_hit cell_key n.key c cs (eqb-true c.key n.key s)) ∙ h))))
    (λ s. refl))

pub length_put_old : (n : Cell) (m : List Cell) → ascending (ranks m) ≡ true → is_some (element_of cell_key n.key m) ≡ true → length (put cell_key n m) ≡ length m
length_put_old n m asc h = length_put cell_key n m asc ∙ (ap (λ b. length m + cond b 0 1) h ∙ (let z : length m + 0 ≡ length m = omega arith in z))

pub length_without : (k : ℕ) (m : List Cell) → ascending (ranks m) ≡ true → is_some (element_of cell_key k m) ≡ true → suc (length (without cell_key k m)) ≡ length m
length_without k [] asc h = absurd (both_ways false refl h)
length_without k (c ∷ cs) asc h =
    cond_both (eqb c.key k) (without cell_key k cs) (c ∷ without cell_key k cs) (λ m. suc (length m) ≡ length (c ∷ cs))
    (λ s. ap (λ m. suc (length m)) (without_absent cell_key k cs (absent_after k c cs asc (eqb-true c.key k s))))
    (λ s. ap suc (length_without k cs (tail_ascends c cs asc) (sym (ap is_some (find_past cell_key k c cs s)) ∙ h)))

pub some_long : (k : ℕ) (m : List Cell) → is_some (element_of cell_key k m) ≡ true → 1 ≤ length m
some_long k [] h = absurd (both_ways false refl h)
some_long k (c ∷ cs) h = omega arith
