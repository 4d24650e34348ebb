-- Facts of maps as lists, over any element type.
use Rattle.std.proofs.Common.{◌≡◌, ℕ, zero, suc, ◌+◌, ◌<◌, ◌≤◌, Bool, true, false, cond, eqb, ltb, List, [], ◌∷◌, map, length, get_or, is_some, Some, None, Option, sym, refl, ap, ◌∙◌, ⊎_elim, arith}
use Rattle.std.specs.Option.{option_map}
use Rattle.std.proofs.lemmas.Bool.{cases_Bool, cond_both, and_parts, and_from, cond-true, cond-false, ltb-true, ltb-false, eqb-true, eqb-false, lt-ltb, ne_eqb, eq-eqb}
use Rattle.std.proofs.lemmas.Bool.Decides.{nat_tests}
use Rattle.stores.specs.Keyed.{headed, ascending, element_of, put, without}

-- a key below the first of an ascending list is below every key of it
pub headed_before : (j k : ℕ) (ks : List ℕ) → j ≤ k → headed k ks ≡ true → headed j ks ≡ true
headed_before j k [] le h = refl
headed_before j k (x ∷ xs) le h = lt-ltb j x (let l = ltb-true k x h in omega arith)

module _ {A : Type 0} (key : A → ℕ) where
  -- a key that is below the first is absent
  pub find_below : (k : ℕ) (xs : List A) → headed k (map key xs) ≡ true → ascending (map key xs) ≡ true → element_of key k xs ≡ None
  find_below k [] h asc = refl
  find_below k (x ∷ xs) h asc =
      let l = ltb-true k (key x) h in
      let a = and_parts (headed (key x) (map key xs)) (ascending (map key xs)) asc in
      cond-false (eqb (key x) k) (Some x) (element_of key k xs) (ne_eqb (key x) k (λ e. omega arith))
      ∙ find_below k xs (headed_before k (key x) (map key xs) (omega arith) a.0) a.1

  -- what an ascending list has at a place, it has under that key
  pub find_at : (xs : List A) (i : ℕ) (d : A) → i < length xs → ascending (map key xs) ≡ true → element_of key (key (get_or xs i d)) xs ≡ Some (get_or xs i d)
  find_at [] i d lt asc = absurd (omega arith)
  find_at (x ∷ xs) zero d lt asc = cond-true (eqb (key x) (key x)) (Some x) (element_of key (key x) xs) (eq-eqb (key x) (key x) refl)
  find_at (x ∷ xs) (suc i) d lt asc =
      let a = and_parts (headed (key x) (map key xs)) (ascending (map key xs)) asc in
      let ih = find_at xs i d (omega arith) a.1 in
      ⊎_elim
      (λ p. let e = eqb-true (key x) (key (get_or xs i d)) p in
      let n = find_below (key x) xs a.0 a.1 in
      let z : ◌≡◌ {A = Option A} None (Some (get_or xs i d)) = sym n ∙ (ap (λ k. element_of key k xs) e ∙ ih) in
      absurd (let o : ◌≡◌ {A = ℕ} 0 1 = cc in omega arith))
      (λ p. cond-false (eqb (key x) (key (get_or xs i d))) (Some x) (element_of key (key (get_or xs i d)) xs) p ∙ ih)
      (cases_Bool (eqb (key x) (key (get_or xs i d))))

  -- what stands under a key after a put and after a remove

  pub find_hit : (k : ℕ) (c : A) (cs : List A) → key c ≡ k → element_of key k (c ∷ cs) ≡ Some c
  find_hit k c cs e = cond-true (eqb (key c) k) (Some c) (element_of key k cs) (eq-eqb (key c) k e)

  pub find_past : (k : ℕ) (c : A) (cs : List A) → eqb (key c) k ≡ false → element_of key k (c ∷ cs) ≡ element_of key k cs
  find_past k c cs e = cond-false (eqb (key c) k) (Some c) (element_of key k cs) e

  pub find_put : (k : ℕ) (n : A) (m : List A) → element_of key k (put key n m) ≡ cond (eqb (key n) k) (Some n) (element_of key k m)
  find_put k n [] = refl
  find_put k n (c ∷ cs) =
      cond_both (ltb (key c) (key n)) (c ∷ put key n cs) (n ∷ cond (eqb (key c) (key n)) cs (c ∷ cs)) (λ m. element_of key k m ≡ cond (eqb (key n) k) (Some n) (element_of key k (c ∷ cs)))
      (λ p.
      ⊎_elim
      (λ q.
      let f : eqb (key n) k ≡ false = grind (arith, nat_tests) in
      let e = eqb-true (key c) k q in
      find_hit k c (put key n cs) e ∙ sym (cond-false (eqb (key n) k) (Some n) (element_of key k (c ∷ cs)) f ∙ find_hit k c cs e))
      (λ q. rw q (find_put k n cs))
      (cases_Bool (eqb (key c) k)))
      (λ p.
      cond_both (eqb (key c) (key n)) cs (c ∷ cs) (λ m. element_of key k (n ∷ m) ≡ cond (eqb (key n) k) (Some n) (element_of key k (c ∷ cs)))
      (λ q. ⊎_elim (λ s. rw s refl) (λ s. let f : eqb (key c) k ≡ false = grind (arith, nat_tests) in rw (s, f) refl) (cases_Bool (eqb (key n) k)))
      (λ q. refl))

  pub find_without : (k j : ℕ) (m : List A) → element_of key k (without key j m) ≡ cond (eqb j k) None (element_of key k m)
  find_without k j [] = cond_both (eqb j k) None None (λ o. None ≡ o) (λ _. refl) (λ _. refl)
  find_without k j (c ∷ cs) =
      cond_both (eqb (key c) j) (without key j cs) (c ∷ without key j cs) (λ m. element_of key k m ≡ cond (eqb j k) None (element_of key k (c ∷ cs)))
      (λ p. find_without k j cs ∙ ⊎_elim (λ s. rw s refl) (λ s. let f : eqb (key c) k ≡ false = grind (arith, nat_tests) in rw (s, f) refl) (cases_Bool (eqb j k)))
      (λ p.
      ⊎_elim
      (λ s.
      let f : eqb j k ≡ false = grind (arith, nat_tests) in
      let e = eqb-true (key c) k s in
      find_hit k c (without key j cs) e ∙ sym (cond-false (eqb j k) None (element_of key k (c ∷ cs)) f ∙ find_hit k c cs e))
      (λ s. rw s (find_without k j cs))
      (cases_Bool (eqb (key c) k)))

  headed_put : (j : ℕ) (n : A) (xs : List A) → headed j (map key xs) ≡ true → j < key n → headed j (map key (put key n xs)) ≡ true
  headed_put j n [] h l = lt-ltb j (key n) l
  headed_put j n (x ∷ xs) h l =
      ⊎_elim (λ p. rw p h) (λ p. rw p (lt-ltb j (key n) l)) (cases_Bool (ltb (key x) (key n)))

  pub put_ascending : (n : A) (xs : List A) → ascending (map key xs) ≡ true → ascending (map key (put key n xs)) ≡ true
  put_ascending n [] asc = refl
  put_ascending n (x ∷ xs) asc =
      let a = and_parts (headed (key x) (map key xs)) (ascending (map key xs)) asc in
      ⊎_elim
      (λ p. rw p (and_from _ _ (headed_put (key x) n xs a.0 (ltb-true (key x) (key n) p)) (put_ascending n xs a.1)))
      (λ p.
      let l = ltb-false (key x) (key n) p in
      ⊎_elim
      (λ q. let e = eqb-true (key x) (key n) q in
      rw (p, q) (and_from _ _ (headed_before (key n) (key x) (map key xs) (omega arith) a.0) a.1))
      (λ q. let e = eqb-false (key x) (key n) q in
      let lt : key n < key x = omega (arith, ne_lt (key n) (key x) l (λ z. e (sym z))) in
      rw (p, q) (and_from _ _ (lt-ltb (key n) (key x) lt) asc))
      (cases_Bool (eqb (key x) (key n))))
      (cases_Bool (ltb (key x) (key n)))
    where
      ne_lt : (a b : ℕ) → a ≤ b → (a ≡ b → ⊥) → a < b
      ne_lt a b le ne = omega arith

  headed_without : (j k : ℕ) (xs : List A) → headed j (map key xs) ≡ true → ascending (map key xs) ≡ true → headed j (map key (without key k xs)) ≡ true
  headed_without j k [] h asc = refl
  headed_without j k (x ∷ xs) h asc =
      let a = and_parts (headed (key x) (map key xs)) (ascending (map key xs)) asc in
      let l = ltb-true j (key x) h in
      ⊎_elim
      (λ p. rw p (headed_without j k xs (headed_before j (key x) (map key xs) (omega arith) a.0) a.1))
      (λ p. rw p h)
      (cases_Bool (eqb (key x) k))

  pub without_ascending : (k : ℕ) (xs : List A) → ascending (map key xs) ≡ true → ascending (map key (without key k xs)) ≡ true
  without_ascending k [] asc = refl
  without_ascending k (x ∷ xs) asc =
      let a = and_parts (headed (key x) (map key xs)) (ascending (map key xs)) asc in
      ⊎_elim
      (λ p. rw p (without_ascending k xs a.1))
      (λ p. rw p (and_from _ _ (headed_without (key x) k xs a.0 a.1) (without_ascending k xs a.1)))
      (cases_Bool (eqb (key x) k))

  -- without a key that is absent
  pub without_absent : (k : ℕ) (xs : List A) → element_of key k xs ≡ None → without key k xs ≡ xs
  without_absent k [] none = refl
  without_absent k (x ∷ xs) none =
      ⊎_elim
      (λ p. let z : ◌≡◌ {A = Option A} (Some x) None = sym (cond-true (eqb (key x) k) (Some x) (element_of key k xs) p) ∙ none in
      absurd (let o : ◌≡◌ {A = ℕ} 0 1 = cc in omega arith))
      (λ p. let n = sym (cond-false (eqb (key x) k) (Some x) (element_of key k xs) p) ∙ none in
      cond-false (eqb (key x) k) (without key k xs) (x ∷ without key k xs) p ∙ ap (λ ys. x ∷ ys) (without_absent k xs n))
      (cases_Bool (eqb (key x) k))

module _ {A : Type 0} (key : A → ℕ) where
  pub length_put : (n : A) (xs : List A) → ascending (map key xs) ≡ true → length (put key n xs) ≡ length xs + cond (is_some (element_of key (key n) xs)) 0 1
  length_put n [] asc = refl
  length_put n (x ∷ xs) asc =
      let a = and_parts (headed (key x) (map key xs)) (ascending (map key xs)) asc in
      let ih = length_put n xs a.1 in
      ⊎_elim
      (λ p. let l = ltb-true (key x) (key n) p in
      let q : eqb (key x) (key n) ≡ false = ne_eqb (key x) (key n) (λ e. omega arith) in
      rw (p, q) (omega arith))
      (λ p. let l = ltb-false (key x) (key n) p in
      ⊎_elim
      (λ q. let f : put key n (x ∷ xs) ≡ n ∷ xs = cond-false (ltb (key x) (key n)) (x ∷ put key n xs) (n ∷ cond (eqb (key x) (key n)) xs (x ∷ xs)) p ∙ ap (λ ys. n ∷ ys) (cond-true (eqb (key x) (key n)) xs (x ∷ xs) q) in
      let m : element_of key (key n) (x ∷ xs) ≡ Some x = cond-true (eqb (key x) (key n)) (Some x) (element_of key (key n) xs) q in
      ap length f ∙ sym (ap (λ o. length (x ∷ xs) + cond (is_some o) 0 1) m ∙ (let z : length (x ∷ xs) + 0 ≡ suc (length xs) = omega arith in z)))
      (λ q. let e = eqb-false (key x) (key n) q in
      let m : element_of key (key n) (x ∷ xs) ≡ None = find_below key (key n) (x ∷ xs) (lt-ltb (key n) (key x) (below (key n) (key x) l e)) asc in
      let f : put key n (x ∷ xs) ≡ n ∷ (x ∷ xs) = cond-false (ltb (key x) (key n)) (x ∷ put key n xs) (n ∷ cond (eqb (key x) (key n)) xs (x ∷ xs)) p ∙ ap (λ ys. n ∷ ys) (cond-false (eqb (key x) (key n)) xs (x ∷ xs) q) in
      ap length f ∙ sym (ap (λ o. length (x ∷ xs) + cond (is_some o) 0 1) m ∙ (let z : length (x ∷ xs) + 1 ≡ suc (suc (length xs)) = omega arith in z)))
      (cases_Bool (eqb (key x) (key n))))
      (cases_Bool (ltb (key x) (key n)))
    where
      below : (a b : ℕ) → a ≤ b → (b ≡ a → ⊥) → a < b
      below a b le ne = omega arith

  pub length_without_le : (k : ℕ) (xs : List A) → length (without key k xs) ≤ length xs
  length_without_le k [] = omega arith
  length_without_le k (x ∷ xs) =
      let ih = length_without_le k xs in
      ⊎_elim (λ p. rw p (omega arith)) (λ p. rw p (omega arith)) (cases_Bool (eqb (key x) k))

-- a function of a choice
pub cond_map : {A B : Type 0} (f : A → B) (b : Bool) (x y : A) → f (cond b x y) ≡ cond b (f x) (f y)
cond_map f true x y = refl
cond_map f false x y = refl

-- elements with other elements of the same key in their place
module _ {A B : Type 0} (key : A → ℕ) (other : B → ℕ) (f : A → B) (same : (x : A) → other (f x) ≡ key x) where
  pub map_keys : (xs : List A) → map other (map f xs) ≡ map key xs
  map_keys [] = refl
  map_keys (x ∷ xs) = cc (same x, map_keys xs)

  pub find_map : (k : ℕ) (xs : List A) → element_of other k (map f xs) ≡ option_map f (element_of key k xs)
  find_map k [] = refl
  find_map k (x ∷ xs) =
      let a = ap (λ j. cond (eqb j k) (Some (f x)) (element_of other k (map f xs))) (same x) in
      let b = ap (λ r. cond (eqb (key x) k) (Some (f x)) r) (find_map k xs) in
      a ∙ (b ∙ sym (cond_map (option_map f) (eqb (key x) k) (Some x) (element_of key k xs)))

  pub put_map : (n : A) (xs : List A) → put other (f n) (map f xs) ≡ map f (put key n xs)
  put_map n [] = refl
  put_map n (x ∷ xs) =
      let one : Bool → List B → List B = λ b ys. cond b (f x ∷ ys) (f n ∷ cond (eqb (key x) (key n)) (map f xs) (f x ∷ map f xs)) in
      let a : put other (f n) (map f (x ∷ xs)) ≡ one (ltb (key x) (key n)) (put other (f n) (map f xs)) = simp (same x, same n) in
      let b = ap (one (ltb (key x) (key n))) (put_map n xs) in
      let d = cond_map (map f) (ltb (key x) (key n)) (x ∷ put key n xs) (n ∷ cond (eqb (key x) (key n)) xs (x ∷ xs)) in
      let e = cond_map (map f) (eqb (key x) (key n)) xs (x ∷ xs) in
      a ∙ (b ∙ sym (d ∙ ap (λ ys. cond (ltb (key x) (key n)) (f x ∷ map f (put key n xs)) (f n ∷ ys)) e))

  pub without_map : (k : ℕ) (xs : List A) → without other k (map f xs) ≡ map f (without key k xs)
  without_map k [] = refl
  without_map k (x ∷ xs) =
      let a = ap (λ j. cond (eqb j k) (without other k (map f xs)) (f x ∷ without other k (map f xs))) (same x) in
      let b = ap (λ ys. cond (eqb (key x) k) ys (f x ∷ ys)) (without_map k xs) in
      a ∙ (b ∙ sym (cond_map (map f) (eqb (key x) k) (without key k xs) (x ∷ without key k xs)))
