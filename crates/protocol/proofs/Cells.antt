-- A provider's map: what put and remove do to its cells, its largest key and its keys.
use Rattle.std.proofs.Common.{◌≡◌, ℕ, suc, ◌<◌, ◌≤◌, max, ◌||◌, eqb, ltb, ◌≢◌, ◌⊎◌, List, [], ◌∷◌, ◌++◌, map, length, Some, None, Option, refl, ap, ◌∙◌, inl, inr, arith}
use Rattle.std.specs.List.{AllByRecursion}
use Rattle.std.proofs.ByRecursion.{All-weaker}
use Rattle.std.proofs.lemmas.Bool.{cond_both, eqb-true, eqb-false, ltb-true, ltb-false, or_cases, or_parts}
use Rattle.stores.specs.Keyed.{element_of, put, without}
use Rattle.stores.specs.Provider.{Cell, cell_key}
use Rattle.protocol.specs.Law.{EachTwo}
use Rattle.protocol.specs.Moves.{largest_key, keys_but}
use Rattle.protocol.proofs.Model.{top, Tag, untag}
use Rattle.protocol.proofs.Lists.{In, fits_in}

-- what holds of each cell
pub all_insert : (P : Cell → Type 0) (c : Cell) (m : List Cell) → P c → AllByRecursion P m → AllByRecursion P (put cell_key c m)
all_insert P c [] p h = (p, tt)
all_insert P c (d ∷ m) p h =
    let ih = all_insert P c m p h.1 in
    cond_both (ltb d.key c.key) _ _ (AllByRecursion P) (λ _. (h.0, ih)) (λ _. (p, cond_both (eqb d.key c.key) _ _ (AllByRecursion P) (λ _. h.1) (λ _. h)))

pub all_erase : (P : Cell → Type 0) (k : ℕ) (m : List Cell) → AllByRecursion P m → AllByRecursion P (without cell_key k m)
all_erase P k [] h = tt
all_erase P k (c ∷ m) h = let ih = all_erase P k m h.1 in cond_both (eqb c.key k) _ _ (AllByRecursion P) (λ _. ih) (λ _. (h.0, ih))

-- what is got has the key that was asked
abbrev pub Got : (Cell → Type 0) → ℕ → Option Cell → Type 0
Got P k None = Unit {0}
Got P k (Some c) = P c × (c.key ≡ k)

pub all_get : (P : Cell → Type 0) (k : ℕ) (m : List Cell) → AllByRecursion P m → Got P k (element_of cell_key k m)
all_get P k [] h = tt
all_get P k (c ∷ m) h = cond_both (eqb c.key k) _ _ (Got P k) (λ t. (h.0, eqb-true c.key k t)) (λ _. all_get P k m h.1)

-- the order
abbrev pub Rising : List Cell → Type 0
Rising m = EachTwo (λ a b. a.key < b.key) m

pub rising_insert : (c : Cell) (m : List Cell) → Rising m → Rising (put cell_key c m)
rising_insert c [] h = (tt, tt)
rising_insert c (d ∷ m) h =
    let ih = rising_insert c m h.1 in
    cond_both (ltb d.key c.key) _ _ Rising
    (λ t. (all_insert (λ b. d.key < b.key) c m (ltb-true d.key c.key t) h.0, ih))
    (λ f. let l = ltb-false d.key c.key f in
    let up : (b : Cell) → d.key < b.key → c.key < b.key = λ b q. omega arith in
    let more = All-weaker (λ (b : Cell). d.key < b.key) (λ b. c.key < b.key) up m h.0 in
    (cond_both (eqb d.key c.key) _ _ (AllByRecursion (λ b. c.key < b.key)) (λ _. more) (λ f. let n = eqb-false d.key c.key f in (omega arith, more)), cond_both (eqb d.key c.key) _ _ Rising (λ _. h.1) (λ _. h)))

pub rising_erase : (k : ℕ) (m : List Cell) → Rising m → Rising (without cell_key k m)
rising_erase k [] h = tt
rising_erase k (c ∷ m) h = let ih = rising_erase k m h.1 in cond_both (eqb c.key k) _ _ Rising (λ _. ih) (λ _. (all_erase _ k m h.0, ih))

-- the largest key
pub top_insert : (c : Cell) (m : List Cell) → top (put cell_key c m) ≡ max c.key (top m)
top_insert c [] = refl
top_insert c (d ∷ m) =
    let ih = top_insert c m in
    cond_both (ltb d.key c.key) _ _ (λ z. top z ≡ max c.key (max d.key (top m))) (λ _. omega arith)
    (λ _. cond_both (eqb d.key c.key) _ _ (λ z. max c.key (top z) ≡ max c.key (max d.key (top m))) (λ t. let e = eqb-true d.key c.key t in omega arith) (λ _. refl))

pub top_erase_max : (k : ℕ) (m : List Cell) → max k (top (without cell_key k m)) ≡ max k (top m)
top_erase_max k [] = refl
top_erase_max k (c ∷ m) =
    let ih = top_erase_max k m in
    cond_both (eqb c.key k) _ _ (λ z. max k (top z) ≡ max k (max c.key (top m))) (λ t. let e = eqb-true c.key k t in omega arith) (λ _. omega arith)

pub top_erase : (k : ℕ) (m : List Cell) → k < top m → top (without cell_key k m) ≡ top m
top_erase k m h = omega (arith, top_erase_max k m)

-- keys
pub in_insert_new : (c : Cell) (m : List Cell) → In c.key (map cell_key (put cell_key c m))
in_insert_new c [] = inl refl
in_insert_new c (d ∷ m) =
    cond_both (ltb d.key c.key) _ _ (λ z. In c.key (map cell_key z)) (λ _. inr (in_insert_new c m)) (λ _. inl refl)

pub in_insert_old : (c : Cell) (m : List Cell) (x : ℕ) → In x (map cell_key m) → In x (map cell_key (put cell_key c m))
in_insert_old c [] x h = absurd h
in_insert_old c (d ∷ m) x h =
    cond_both (ltb d.key c.key) _ _ (λ z. In x (map cell_key z)) (λ _. elim h [ inl e ↦ inl e | inr r ↦ inr (in_insert_old c m x r) ])
    (λ _. cond_both (eqb d.key c.key) _ _ (λ z. In x (c.key ∷ map cell_key z)) (λ t. elim h [ inl e ↦ inl (e ∙ eqb-true d.key c.key t) | inr r ↦ inr r ]) (λ _. inr h))

pub in_erase : (k : ℕ) (m : List Cell) (x : ℕ) → x ≢ k → In x (map cell_key m) → In x (map cell_key (without cell_key k m))
in_erase k [] x d h = h
in_erase k (c ∷ m) x d (inl e) = cond_both (eqb c.key k) _ _ (λ z. In x (map cell_key z)) (λ t. absurd (d (e ∙ eqb-true c.key k t))) (λ _. inl e)
in_erase k (c ∷ m) x d (inr r) = let ih = in_erase k m x d r in cond_both (eqb c.key k) _ _ (λ z. In x (map cell_key z)) (λ _. ih) (λ _. inr ih)

pub erase_gone : (k : ℕ) (m : List Cell) → AllByRecursion (λ c. c.key ≢ k) (without cell_key k m)
erase_gone k [] = tt
erase_gone k (c ∷ m) = let ih = erase_gone k m in cond_both (eqb c.key k) _ _ (AllByRecursion (λ c. c.key ≢ k)) (λ _. ih) (λ d. (eqb-false c.key k d, ih))

-- the temporary keys but the largest
pub all_below : (l : List ℕ) → AllByRecursion (λ k. k ≤ largest_key l) l
all_below [] = tt
all_below (k ∷ l) = (omega arith, All-weaker (λ j. j ≤ largest_key l) (λ j. j ≤ max k (largest_key l)) (λ j h. omega arith) l (all_below l))

pub but_below : (t : ℕ) (l : List ℕ) → AllByRecursion (λ k. k ≤ t) l → AllByRecursion (λ k. k < t) (keys_but t l)
but_below t [] h = tt
but_below t (k ∷ l) h =
    let ih = but_below t l h.1 in
    cond_both (eqb k 0 || eqb k t) _ _ (AllByRecursion (λ k. k < t)) (λ _. ih) (λ f. let n = eqb-false k t (or_parts (eqb k 0) (eqb k t) f).1 in (omega arith, ih))

pub in_but : (t : ℕ) (l : List ℕ) (x : ℕ) → x ≢ 0 → In x l → In x (t ∷ keys_but t l)
in_but t [] x d h = absurd h
in_but t (k ∷ l) x d (inl e) =
    cond_both (eqb k 0 || eqb k t) _ _ (λ z. In x (t ∷ z)) (λ a. elim (or_cases (eqb k 0) (eqb k t) a) [ inl b ↦ absurd (d (e ∙ eqb-true k 0 b)) | inr b ↦ inl (e ∙ eqb-true k t b) ]) (λ _. inr (inl e))
in_but t (k ∷ l) x d (inr r) =
    let ih = in_but t l x d r in
    cond_both (eqb k 0 || eqb k t) _ _ (λ z. In x (t ∷ z)) (λ _. ih) (λ _. elim ih [ inl e ↦ inl e | inr q ↦ inr (inr q) ])

-- a map has at most one key more than its temporary ones
pub few_keys : (m : List Cell) (l : List ℕ) → Rising m → AllByRecursion (λ c. (c.key ≡ 0) ⊎ In c.key l) m → length m ≤ suc (length l)
few_keys m l r h = omega (arith, length_keys m, fits_in (map cell_key m) (0 ∷ l) (apart m r) (each m h))
  where
    length_keys : (m : List Cell) → length (map cell_key m) ≡ length m
    length_keys [] = refl
    length_keys (c ∷ m) = ap suc (length_keys m)

    each : (m : List Cell) → AllByRecursion (λ c. (c.key ≡ 0) ⊎ In c.key l) m → AllByRecursion (λ k. In k (0 ∷ l)) (map cell_key m)
    each [] h = tt
    each (c ∷ m) h = (h.0, each m h.1)

    far : (k : ℕ) (m : List Cell) → AllByRecursion (λ c. k < c.key) m → AllByRecursion (λ y. k ≢ y) (map cell_key m)
    far k [] h = tt
    far k (c ∷ m) h = ((λ e. omega (arith, e, h.0)), far k m h.1)

    apart : (m : List Cell) → Rising m → EachTwo ◌≢◌ (map cell_key m)
    apart [] r = tt
    apart (c ∷ m) r = (far c.key m r.0, apart m r.1)

-- tags and keys
abbrev pub tagged : List Tag → List ℕ
tagged [] = []
tagged (e ∷ E) = e.key ∷ tagged E

pub length_tagged : (E : List Tag) → length (tagged E) ≡ length E
length_tagged [] = refl
length_tagged (e ∷ E) = ap suc (length_tagged E)

pub tagged_untag : (k : ℕ) (E : List Tag) (x : ℕ) → x ≢ k → In x (tagged E) → In x (tagged (untag k E))
tagged_untag k [] x d h = h
tagged_untag k (e ∷ E) x d (inl q) = cond_both (eqb e.key k) _ _ (λ z. In x (tagged z)) (λ t. absurd (d (q ∙ eqb-true e.key k t))) (λ _. inl q)
tagged_untag k (e ∷ E) x d (inr r) = let ih = tagged_untag k E x d r in cond_both (eqb e.key k) _ _ (λ z. In x (tagged z)) (λ _. ih) (λ _. inr ih)

pub tagged_push : (E : List Tag) (e : Tag) (x : ℕ) → (x ≡ e.key) ⊎ In x (tagged E) → In x (tagged (E ++ (e ∷ [])))
tagged_push [] e x h = h
tagged_push (d ∷ E) e x (inl q) = inr (tagged_push E e x (inl q))
tagged_push (d ∷ E) e x (inr (inl q)) = inl q
tagged_push (d ∷ E) e x (inr (inr r)) = inr (tagged_push E e x (inr r))
