-- A seat's own lines among the lines of all seats.
use Rattle.std.proofs.Common.{◌≡◌, ℕ, zero, suc, ◌+◌, ◌*◌, ◌<◌, ◌≤◌, max, Bool, true, false, cond, leb, List, ◌++◌, count_by, map, length, get_or, take, drop, set, Option, sym, refl, ap, ◌∙◌, ap₂, append_assoc, add-one, arith, length-append}
use Rattle.std.proofs.lemmas.List.{get_or-map, get_or-append-add, get_or_append_left, length-map, take_all, take_at, drop_at}
use Rattle.std.proofs.lemmas.List.Folds.{fold-map}
use Rattle.std.proofs.lemmas.List.Sums.{count_by_more_yes, count_by_more_no}
use Rattle.std.proofs.lemmas.List.Edits.{paste_more, paste_all, paste_none}
use Rattle.std.proofs.Math.Seq.{paste}
use Rattle.stores.specs.Provider.{Pair}
use Rattle.protocol.specs.Lines.{Line, blank_line, restart_line}
use Rattle.protocol.specs.Phases.{counts, done_lines, listed_on, largest_listed, found_on, newer, newest_found, goes_on, end_listing, end_gathering, result_of, phase_result, majority}
use Rattle.protocol.specs.Seats.{Activity, idle, stopped, listing, gathering, storing}
use Rattle.protocol.specs.State.{line_at, restart_lines}
use Rattle.relay.specs.Sheets.{line_in}

-- what stands at a place of a sheet
pub read_at : {X Y : Type 0} (f : X → Y) (d : Y) (xs : List X) (k : ℕ) (x : X) → k < length xs → x ≡ get_or xs k x → f x ≡ get_or (map f xs) k d
read_at f d xs k x lt is = sym (get_or-map f xs k x d lt ∙ ap f (sym is))

module _ (n s : ℕ) (before own after : List Line) (starts : length before ≡ s * n) where
  pub line_among : (i : ℕ) → i < length own → line_at n (before ++ (own ++ after)) s i ≡ line_in own i
  line_among i lt =
      ap (λ k. get_or (before ++ (own ++ after)) (k + i) blank_line) (sym starts)
      ∙ (get_or-append-add before (own ++ after) i blank_line ∙ get_or_append_left own after blank_line i lt)

  restarts : (k : ℕ) → k ≤ length own → restart_lines k n s (before ++ (own ++ after)) ≡ paste (before ++ (own ++ after)) (s * n) (map restart_line own) k
  restarts zero le = paste_none (before ++ (own ++ after)) (s * n) (map restart_line own)
  restarts (suc k) le =
      let all = before ++ (own ++ after) in
      let again = map restart_line own in
      ap₂ (λ ls l. set ls (s * n + k) (restart_line l)) (restarts k (omega arith)) (line_among k (omega arith))
      ∙ (ap (set (paste all (s * n) again k) (s * n + k)) (sym (get_or-map restart_line own k blank_line blank_line (omega arith)))
      ∙ (paste_more all (s * n) again k blank_line (omega (arith, length-append before (own ++ after), length-append own after)) (omega (arith, length-map own restart_line))
      ∙ ap (paste all (s * n) again) (add-one k)))

  pub restart_among : length own ≡ n → restart_lines n n s (before ++ (own ++ after)) ≡ before ++ (map restart_line own ++ after)
  restart_among is =
      let all = before ++ (own ++ after) in
      let again = map restart_line own in
      restarts n (omega arith)
      ∙ (paste_all all (s * n) again n (omega (arith, length-map own restart_line))
      ∙ ap₂ (λ x y. x ++ (again ++ y)) (take_at before (own ++ after) (s * n) starts) (ap (drop (s * n + n)) (sym (append_assoc before own after)) ∙ drop_at (before ++ own) after (s * n + n) (omega (arith, length-append before own))))

-- What a phase comes to depends on the seat's own lines alone.
module _ (f g : ℕ → Line) where
  same_done : (n : ℕ) → ((i : ℕ) → i < n → f i ≡ g i) → done_lines f n ≡ done_lines g n
  same_done zero same = refl
  same_done (suc n) same =
      ap₂ (λ l d. cond (counts l) (suc d) d) (same n (omega arith)) (same_done n (λ i lt. same i (omega arith)))

  same_largest : (n : ℕ) → ((i : ℕ) → i < n → f i ≡ g i) → largest_listed f n ≡ largest_listed g n
  same_largest zero same = refl
  same_largest (suc n) same =
      ap₂ (λ l k. max (listed_on l) k) (same n (omega arith)) (same_largest n (λ i lt. same i (omega arith)))

  same_newest : (n : ℕ) → ((i : ℕ) → i < n → f i ≡ g i) → newest_found f n ≡ newest_found g n
  same_newest zero same = refl
  same_newest (suc n) same =
      ap₂ (λ l o. newer o (found_on l)) (same n (omega arith)) (same_newest n (λ i lt. same i (omega arith)))

  same_end : (n number : ℕ) (a : Activity) → ((i : ℕ) → i < n → f i ≡ g i) → result_of n number f a ≡ result_of n number g a
  same_end n number idle same = refl
  same_end n number stopped same = refl
  same_end n number (listing x) same = ap (λ k. end_listing k number x) (same_largest n same)
  same_end n number (gathering b) same = ap (end_gathering b) (same_newest n same)
  same_end n number (storing b v x) same = refl

  pub same_result : (n number : ℕ) (a : Activity) → ((i : ℕ) → i < n → f i ≡ g i) → phase_result n number f a ≡ phase_result n number g a
  same_result n number a same =
      ap₂ (λ d r. cond (leb (majority n) d) r goes_on) (same_done n same) (same_end n number a same)

-- one more line in a maximum and in the newest pair, and how many lines count
module _ {X : Type 0} (f : X → Line) (own : List X) where
  pub key_more : (i : ℕ) (x : X) → i < length own → x ≡ get_or own i x → (d e k : ℕ) → d ≡ largest_listed (line_in (map f own)) i → k ≡ listed_on (f x) → e ≡ max k d → e ≡ largest_listed (line_in (map f own)) (i + 1)
  key_more i x lt is d e k before this eq =
      eq ∙ (ap₂ max (this ∙ ap listed_on (read_at f blank_line own i x lt is)) before ∙ sym (ap (largest_listed (line_in (map f own))) (add-one i)))

  pub pair_more : (i : ℕ) (x : X) → i < length own → x ≡ get_or own i x → (d e p : Option Pair) → d ≡ newest_found (line_in (map f own)) i → p ≡ found_on (f x) → e ≡ newer d p → e ≡ newest_found (line_in (map f own)) (i + 1)
  pair_more i x lt is d e p before this eq =
      eq ∙ (ap₂ newer before (this ∙ ap found_on (read_at f blank_line own i x lt is)) ∙ sym (ap (newest_found (line_in (map f own))) (add-one i)))

-- how many lines count
counted : (ls : List Line) (k : ℕ) → k ≤ length ls → count_by counts (take k ls) ≡ done_lines (line_in ls) k
counted ls zero le = refl
counted ls (suc k) le = go (counts (line_in ls k)) refl (counted ls k (omega arith))
  where
    more : (n : ℕ) → count_by counts (take (k + 1) ls) ≡ n → count_by counts (take (suc k) ls) ≡ n
    more n is = ap (λ j. count_by counts (take j ls)) (sym (add-one k)) ∙ is

    go : (b : Bool) → counts (line_in ls k) ≡ b → count_by counts (take k ls) ≡ done_lines (line_in ls) k → count_by counts (take (suc k) ls) ≡ cond b (suc (done_lines (line_in ls) k)) (done_lines (line_in ls) k)
    go true is before = more _ (count_by_more_yes counts ls k blank_line (omega arith) is ∙ (add-one (count_by counts (take k ls)) ∙ ap suc before))
    go false is before = more _ (count_by_more_no counts ls k blank_line (omega arith) is ∙ before)

count_of : {X : Type 0} (f : X → Line) (own : List X) → count_by (λ x. counts (f x)) own ≡ count_by counts (map f own)
count_of f own = sym (fold-map (λ n l. n + cond (counts l) 1 0) f 0 own)

pub count_is : {X : Type 0} (f : X → Line) (own : List X) → count_by (λ x. counts (f x)) own ≡ done_lines (line_in (map f own)) (length own)
count_is f own =
    let long = length-map own f in
    count_of f own ∙ (ap (count_by counts) (sym (take_all (length own) (map f own) (omega arith))) ∙ counted (map f own) (length own) (omega arith))
