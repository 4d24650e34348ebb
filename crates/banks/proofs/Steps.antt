use Rattle.std.proofs.Common.{◌≡◌, ℕ, ◌+◌, ◌-◌, ◌<◌, List, [], ◌∷◌, ◌++◌, map, length, get_or, take, drop, set, Ok, Err, Result, OnOk, sym, ap, ◌∙◌, subst, add-one, append_assoc, arith}
use Rattle.std.proofs.lemmas.List.{length-append, length-map, length-take-le, length-drop, drop_more, set_at, get_or_at, map_more}
use Rattle.values.specs.Refusals.{numbered}
use Rattle.values.specs.declared.refusal.Refusal.{Refusal}
use Rattle.stores.specs.Provider.{Provider}
use Rattle.stores.specs.Operations.{remove_after}
use Rattle.banks.specs.Row.{absent, answer_of, row_after}
use Rattle.banks.specs.Whole.{RemoveEach}
use Rattle.banks.proofs.Rows.{row_inside, picked_inside}

-- One turn of a loop over the providers of a row: the first i are done, and provider i + 1 is next.

same_place : (i : ℕ) → i + 1 - 1 ≡ i
same_place i = omega arith

stepped_at : (p ys : List Provider) (y : Provider) (i : ℕ) (step : Provider → Provider)
    → length p ≡ i → row_after (i + 1) (p ++ y ∷ ys) step ≡ p ++ step y ∷ ys
stepped_at p ys y i step here =
    let row = p ++ y ∷ ys in
    let long = length-append p (y ∷ ys) in
    row_inside (i + 1) row step (omega arith) (omega arith)
    ∙ ap (λ k. set row k (step (get_or row k absent))) (same_place i)
    ∙ ap (λ q. set row i (step q)) (get_or_at p y ys absent i here)
    ∙ set_at p y ys (step y) i here

module _ (row : List Provider) (i : ℕ) (more : i < length row) where
  pub stepped_more : (step : Provider → Provider)
      → row_after (i + 1) (map step (take i row) ++ drop i row) step ≡ map step (take (i + 1) row) ++ drop (i + 1) row
  stepped_more step =
      let done = map step (take i row) in
      let next = get_or row i absent in
      let rest = drop (i + 1) row in
      ap (λ l. row_after (i + 1) (done ++ l) step) (drop_more row i absent more)
      ∙ stepped_at done rest next i step (length-map (take i row) step ∙ length-take-le i row (omega arith))
      ∙ sym (ap (λ l. l ++ rest) (map_more step row i absent more) ∙ append_assoc done (step next ∷ []) rest)

-- The first i providers of a row, which became `now`, were asked once each to remove a key.
pub record Removed {B : Type 0} (row : B → List Provider) (removes : B → ℕ → ℕ → B → Type 0) (k i : ℕ) (old now : B) : Type 0 where
  pub after : row now ≡ map (remove_after k) (take i (row old)) ++ drop i (row old)
  pub once : RemoveEach removes k i old now

-- a number from 1 to the length of a row gets an answer
answered : (row old : List Provider) (step : Provider → Provider) (i : ℕ) (r : Result (Unit {0}) Refusal) {P : Type 0}
    → row ≡ map step (take i old) ++ drop i old → i < length old → numbered r ≡ answer_of (i + 1) row (λ _. Ok tt) → OnOk r P → P
answered row old step i r is more told p =
    let n = length-append (map step (take i old)) (drop i old) in
    let a = length-map (take i old) step in
    let b = length-take-le i old (omega arith) in
    let d = length-drop i old in
    let long : length row ≡ length old = ap length is ∙ (n ∙ omega arith) in
    accepted r (told ∙ picked_inside (i + 1) row (λ _. Ok tt) (Err 6) (omega arith) (omega arith)) p
  where
    accepted : {P : Type 0} (r : Result (Unit {0}) Refusal) → numbered r ≡ Ok tt → OnOk r P → P
    accepted (Ok x) e p = p
    accepted (Err x) e p = cc

-- one provider more
pub removed_more : {B : Type 0} (row : B → List Provider) (removes : B → ℕ → ℕ → B → Type 0) (k i : ℕ) (old now next : B) (r : Result (Unit {0}) Refusal)
    → Removed row removes k i old now → i < length (row old) → row next ≡ row_after (i + 1) (row now) (remove_after k) → numbered r ≡ answer_of (i + 1) (row now) (λ _. Ok tt) → OnOk r (removes now (i + 1) k next)
    → Removed row removes k (i + 1) old next
removed_more row removes k i old now next r h more after told once =
    let step = remove_after k in
    let done = answered (row now) (row old) step i r h.after more told once in
    record {
      after = after ∙ ap (λ ps. row_after (i + 1) ps step) h.after ∙ stepped_more (row old) i more step;
      once = subst (λ n. RemoveEach removes k n old next) (sym (add-one i)) (now, h.once, subst (λ n. removes now n k next) (add-one i) done);
    }
