-- One test of all providers, and one blank record at each place.
use Rattle.std.proofs.Common.{◌≡◌, ℕ, zero, suc, ◌+◌, ◌-◌, ◌*◌, ◌^◌, ◌<◌, ◌≤◌, Bool, true, false, cond, not, ◌&&◌, ◌||◌, ltb, leb, List, [], ◌∷◌, None, Ok, Err, Result, ◌++◌, map, length, get_or, take, drop, set, replicate, sym, refl, ap, ◌∙◌, ap₂, ⊎_elim, append_assoc, add-one, zero-add, le_refl, arith, drop-cons}
use native.Mathlib.Nat.{min-eq_left, min-eq_right}
use Rattle.std.specs.List.{list_all, range_with_len}
use Rattle.std.proofs.lemmas.List.{take_at, replicate_more, length-replicate, length-take-le, map-set, set-append_right}
use Rattle.std.proofs.lemmas.List.Folds.{list_all-append, list_all-map}
use Rattle.std.proofs.lemmas.List.FromFn.{map-range_with_len_more}
use Rattle.std.proofs.lemmas.Bool.{and_parts, or_parts, not-false, leb-true, ltb-false, cases_lt, cases_eq}
use Rattle.stores.specs.Provider.{Provider}
use Rattle.banks.specs.Row.{absent, size_of}
use Rattle.protocol.specs.Lines as lin
use Rattle.protocol.specs.Seats as sea
use Rattle.protocol.specs.Steps.{outside}
use Rattle.relay.specs.Opening.{suits, is_empty, first_are, open_check, cleared, none_lost}
use Rattle.relay.specs.RelayState.{RelayState}
use Rattle.relay.specs.Room.{lists_fit}

-- a test of the first n providers, by their numbers
module _ (such : Provider → Bool) (row : List Provider) where
  abbrev test : ℕ → Bool
  test i = such (get_or row (i + 1 - 1) absent)

  and_true : (b : Bool) → (b && true) ≡ b
  and_true true = refl
  and_true false = refl

  mapped : (n : ℕ) → list_all (λ b. b) (map test (range_with_len 0 n)) ≡ list_all test (range_with_len 0 n)
  mapped n = list_all-map (λ b. b) test (range_with_len 0 n)

  pub first_by_all : (n : ℕ) → list_all test (range_with_len 0 n) ≡ first_are such row n
  first_by_all zero = refl
  first_by_all (suc n) =
      let z : n + 1 - 1 ≡ n = omega arith in
      ap (λ k. list_all test (range_with_len 0 k)) (sym (add-one n))
      ∙ (sym (mapped (n + 1))
      ∙ (ap (list_all (λ b. b)) (map-range_with_len_more test 0 n n (zero-add n))
      ∙ (list_all-append (λ b. b) (map test (range_with_len 0 n)) (test n ∷ [])
      ∙ ap₂ ◌&&◌ (mapped n ∙ first_by_all n) (and_true (test n) ∙ ap (λ k. such (get_or row k absent)) z))))

pub filled_more : {X : Type 0} (xs : List X) (i : ℕ) (y : X) → i < length xs → set (replicate i y ++ drop i xs) i y ≡ replicate (i + 1) y ++ drop (i + 1) xs
filled_more xs i y lt =
    let z : i - i ≡ 0 = omega arith in
    set-append_right (replicate i y) (drop i xs) i i y (length-replicate i y) (le_refl i)
    ∙ (ap₂ (λ ys k. replicate i y ++ set ys k y) (drop-cons xs i y lt) z
    ∙ (sym (append_assoc (replicate i y) (y ∷ []) (drop (suc i) xs))
    ∙ ap₂ (λ a b. a ++ b) (replicate_more i y) (ap (λ k. drop k xs) (sym (add-one i)))))

pub cleared_is : {X : Type 0} (x : X) (k : ℕ) (xs : List X) → k ≤ length xs → cleared x k xs ≡ replicate k x ++ drop k xs
cleared_is x zero xs le = refl
cleared_is x (suc k) xs le =
    ap (λ ys. set ys k x) (cleared_is x k xs (omega arith))
    ∙ (filled_more xs k x (omega arith) ∙ ap (λ j. replicate j x ++ drop j xs) (add-one k))

cleared_map : {X Y : Type 0} (f : X → Y) (x : X) (k : ℕ) (xs : List X) → map f (cleared x k xs) ≡ cleared (f x) k (map f xs)
cleared_map f x zero xs = refl
cleared_map f x (suc k) xs = map-set f (cleared x k xs) k x ∙ ap (λ ys. set ys k (f x)) (cleared_map f x k xs)

-- what a sheet means after its first k places were set
pub cleared_means : {X Y : Type 0} (f : X → Y) (x : X) (y : Y) (k : ℕ) (xs first : List X) → k ≤ length xs → f x ≡ y → first ≡ replicate (length (take k xs)) x → map f (first ++ drop k xs) ≡ cleared y k (map f xs)
cleared_means f x y k xs first le is blank =
    ap (map f) (ap (λ ys. ys ++ drop k xs) (blank ∙ ap (λ j. replicate j x) (length-take-le k xs le)) ∙ sym (cleared_is x k xs le))
    ∙ (cleared_map f x k xs ∙ ap (λ y. cleared y k (map f xs)) is)

-- the first places are the record that was set
pub first_set : {X : Type 0} (x y : X) (k : ℕ) (xs first : List X) → k ≤ length xs → first ≡ replicate (length (take k xs)) x → x ≡ y → take k (first ++ drop k xs) ≡ replicate k y
first_set x y k xs first le blank is =
    let e : first ≡ replicate k x = blank ∙ ap (λ j. replicate j x) (length-take-le k xs le) in
    let n : length first ≡ k = ap length e ∙ length-replicate k x in
    take_at first (drop k xs) k (omega (arith, n)) ∙ (e ∙ ap (replicate k) is)

-- the state of a relay that was opened
pub opened_by : (m : ℕ) (row : List Provider) {s t : List sea.Seat} {l k : List lin.Line} → s ≡ t → l ≡ k → ◌≡◌ {A = RelayState} (record { refusal = None; seat_count = m; state = record { seats = s; lines = l; row = row; lost = none_lost; looks = 0 } }) (record { refusal = None; seat_count = m; state = record { seats = t; lines = k; row = row; lost = none_lost; looks = 0 } })
opened_by m row seats lines = ap₂ (λ s l. record { refusal = None; seat_count = m; state = record { seats = s; lines = l; row = row; lost = none_lost; looks = 0 } }) seats lines

-- a row of few providers is as long as its size
pub few_sized : (row : List Provider) → size_of row ≤ 7 → size_of row ≡ length row
few_sized row le = ⊎_elim (λ l. absurd (omega (arith, le, min-eq_right {n = 2 ^ 64 - 1} {m = length row} (omega arith)))) (λ l. min-eq_left l) (cases_lt (2 ^ 64 - 1) (length row))

-- the checks of an open that was accepted
pub record Passed (m : ℕ) (row : List Provider) (seats lines : ℕ) : Type 0 where
  pub some_seat : 1 ≤ m
  pub few_seats : m ≤ 16
  pub few : size_of row ≤ 7
  pub seats_fit : m ≤ seats
  pub lines_fit : m * size_of row ≤ lines
  pub suitable : first_are (suits m) row (size_of row) ≡ true
  pub unused : first_are is_empty row (size_of row) ≡ true

pub passed : (m : ℕ) (row : List Provider) (seats lines : ℕ) → open_check m row seats lines ≡ Ok tt → Passed m row seats lines
passed m row seats lines eq =
    let f = by (outside m 16 || ltb 7 (size_of row)) (ltb seats m || ltb lines (m * size_of row)) (not (first_are (suits m) row (size_of row))) (not (first_are is_empty row (size_of row))) eq in
    let one = or_parts (outside m 16) (ltb 7 (size_of row)) f.0 in
    let two = or_parts (ltb seats m) (ltb lines (m * size_of row)) f.1 in
    let range = and_parts (leb 1 m) (leb m 16) (not-false (leb 1 m && leb m 16) one.0) in
    record {
      some_seat = leb-true 1 m range.0;
      few_seats = leb-true m 16 range.1;
      few = ltb-false 7 (size_of row) one.1;
      seats_fit = ltb-false seats m two.0;
      lines_fit = ltb-false lines (m * size_of row) two.1;
      suitable = not-false (first_are (suits m) row (size_of row)) f.2;
      unused = not-false (first_are is_empty row (size_of row)) f.3;
    }
  where
    by : (a b c d : Bool) → ◌≡◌ {A = Result (Unit {0}) ℕ} (cond a (Err 1) (cond b (Err 2) (cond c (Err 3) (cond d (Err 4) (Ok tt))))) (Ok tt) → (a ≡ false) × (b ≡ false) × (c ≡ false) × (d ≡ false)
    by true b c d e = absurd (let z : ◌≡◌ {A = ℕ} 0 1 = cc in omega arith)
    by false true c d e = absurd (let z : ◌≡◌ {A = ℕ} 0 1 = cc in omega arith)
    by false false true d e = absurd (let z : ◌≡◌ {A = ℕ} 0 1 = cc in omega arith)
    by false false false true e = absurd (let z : ◌≡◌ {A = ℕ} 0 1 = cc in omega arith)
    by false false false false e = (refl, refl, refl, refl)

-- each of the first k providers is such a one
pub each_such : (such : Provider → Bool) (row : List Provider) (k i : ℕ) → first_are such row k ≡ true → i < k → such (get_or row i absent) ≡ true
each_such such row zero i t lt = absurd (omega arith)
each_such such row (suc k) i t lt =
    let h = and_parts (first_are such row k) (such (get_or row k absent)) t in
    ⊎_elim (λ e. ap (λ j. such (get_or row j absent)) e ∙ h.1) (λ ne. each_such such row k i h.0 (omega (arith, ne))) (cases_eq i k)

pub few_opened : (m : ℕ) (row : List Provider) (seats lines : ℕ) → Ok tt ≡ open_check m row seats lines → length row ≤ 7
few_opened m row seats lines eq = let h = passed m row seats lines (sym eq) in omega (arith, h.few, few_sized row h.few)

all_true : (such : Provider → Bool) (row : List Provider) → ((i : ℕ) → i < length row → such (get_or row i absent) ≡ true) → list_all such row ≡ true
all_true such [] h = refl
all_true such (p ∷ row) h = ap₂ ◌&&◌ (h 0 (omega arith)) (all_true such row (λ i lt. h (suc i) (omega arith)))

-- where open accepts a bank, a line has room for each provider's keys
pub fits_opened : (m : ℕ) (row : List Provider) (seats lines : ℕ) → Ok tt ≡ open_check m row seats lines → lists_fit row ≡ true
fits_opened m row seats lines eq =
    let h = passed m row seats lines (sym eq) in
    all_true (λ p. leb p.capacity 32) row (λ i lt.
    let p = get_or row i absent in
    (and_parts (leb (m + 2) p.capacity) (leb p.capacity 32) (each_such (suits m) row (size_of row) i h.suitable (omega (arith, lt, few_sized row h.few)))).1)
