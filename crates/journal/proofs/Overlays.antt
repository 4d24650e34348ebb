-- Bytes laid over others.
use Rattle.std.proofs.Common.{◌≡◌, ℕ, suc, ◌+◌, ◌-◌, ◌<◌, ◌≤◌, List, [], ◌∷◌, ◌++◌, length, take, drop, set, replicate, sym, ap, ◌∙◌, arith}
use borrow.Rule.Slice.PartMut.{put_mid}
use lib.Seq.{paste}
use Rattle.std.proofs.lemmas.List.{length-take-le, length-append, length-drop, take-append-drop, take_at, drop_at, drop-drop, append_assoc, set_split, take-take, length-take, take-append-le, drop_all, append-nil}
use Rattle.journal.specs.Walk.{overlay}

pub overlay_none : {A : Type 0} (at : ℕ) (bs : List A) → overlay at [] bs ≡ bs
unfolding overlay
overlay_none at bs = let e : at + 0 ≡ at = omega arith in ap (λ n. take at bs ++ drop n bs) e ∙ take-append-drop at bs

module _ {A : Type 0} (at : ℕ) (ys bs : List A) (fits : at + length ys ≤ length bs) where
  overlay_is : overlay at ys bs ≡ (take at bs ++ ys) ++ drop (at + length ys) bs
  unfolding overlay
  overlay_is = sym (append_assoc (take at bs) ys (drop (at + length ys) bs))

  front : length (take at bs ++ ys) ≡ at + length ys
  front =
      let a = length-append (take at bs) ys in
      let b = length-take-le at bs (omega arith) in
      omega arith

  pub take_overlay : take (at + length ys) (overlay at ys bs) ≡ take at bs ++ ys
  take_overlay = ap (take (at + length ys)) overlay_is ∙ take_at (take at bs ++ ys) (drop (at + length ys) bs) (at + length ys) front

  take_overlay_below : (n : ℕ) → n ≤ at → take n (overlay at ys bs) ≡ take n bs
  take_overlay_below n le =
      sym (take-take n (at + length ys) (overlay at ys bs) (omega arith)) ∙ (ap (take n) take_overlay ∙
      (let b = length-take-le at bs (omega arith) in sym (take-take n at (take at bs ++ ys) le) ∙ (ap (take n) (take_at (take at bs) ys at b) ∙ take-take n at bs le)))

  pub drop_overlay : (n : ℕ) → at + length ys ≤ n → drop n (overlay at ys bs) ≡ drop n bs
  drop_overlay n le =
      let f = front in
      let e : n ≡ at + length ys + (n - (at + length ys)) = omega arith in
      let d : drop (at + length ys) (overlay at ys bs) ≡ drop (at + length ys) bs = ap (drop (at + length ys)) overlay_is ∙ drop_at (take at bs ++ ys) (drop (at + length ys) bs) (at + length ys) front in
      let k = n - (at + length ys) in
      ap (λ m. drop m (overlay at ys bs)) e ∙ (sym (drop-drop k (at + length ys) (overlay at ys bs)) ∙ (ap (drop k) d ∙ (drop-drop k (at + length ys) bs ∙ ap (λ m. drop m bs) (sym e))))

  pub length_overlay : length (overlay at ys bs) ≡ length bs
  length_overlay =
      let a = ap length overlay_is in
      let b = length-append (take at bs ++ ys) (drop (at + length ys) bs) in
      let d = length-drop (at + length ys) bs in
      let f = front in
      omega arith

  pub overlay_overlay : (zs : List A) (n : ℕ) → n ≡ at + length ys → n + length zs ≤ length bs → overlay n zs (overlay at ys bs) ≡ overlay at (ys ++ zs) bs
  unfolding overlay
  overlay_overlay zs n is le =
      let l = length-append ys zs in
      let t : take n (overlay at ys bs) ≡ take at bs ++ ys = ap (λ m. take m (overlay at ys bs)) is ∙ take_overlay in
      let d : drop (n + length zs) (overlay at ys bs) ≡ drop (at + length (ys ++ zs)) bs = drop_overlay (n + length zs) (omega arith) ∙ ap (λ m. drop m bs) (omega arith) in
      ap (λ xs. xs ++ (zs ++ drop (n + length zs) (overlay at ys bs))) t ∙ (ap (λ xs. (take at bs ++ ys) ++ (zs ++ xs)) d ∙ (append_assoc (take at bs) ys (zs ++ drop (at + length (ys ++ zs)) bs) ∙ ap (λ xs. take at bs ++ xs) (sym (append_assoc ys zs (drop (at + length (ys ++ zs)) bs)))))

pub overlay_put_mid : (at k : ℕ) (bs ys : List ℕ) → k ≡ length ys → put_mid at k bs ys ≡ overlay at ys bs
unfolding overlay
overlay_put_mid at k bs ys is = ap (λ xs. take at bs ++ (ys ++ xs)) (drop-drop k at bs ∙ ap (λ m. drop (at + m) bs) is)

pub overlay_set : {A : Type 0} (at : ℕ) (bs : List A) (b : A) → at < length bs → set bs at b ≡ overlay at (b ∷ []) bs
unfolding overlay
overlay_set at bs b lt = let e : suc at ≡ at + 1 = omega arith in set_split bs at b lt ∙ ap (λ m. take at bs ++ (b ∷ drop m bs)) e

-- one element before others that were laid
pub overlay_cons : {A : Type 0} (at : ℕ) (x : A) (ys bs : List A) → at + 1 + length ys ≤ length bs → set (overlay (at + 1) ys bs) at x ≡ overlay at (x ∷ ys) bs
unfolding overlay
overlay_cons at x ys bs fits =
    let L = overlay (at + 1) ys bs in
    let n = length_overlay (at + 1) ys bs fits in
    let t : take at (overlay (at + 1) ys bs) ≡ take at bs = take_overlay_below (at + 1) ys bs fits at (omega arith) in
    let lt = length-take-le (at + 1) bs (omega arith) in
    let d : drop (at + 1) (overlay (at + 1) ys bs) ≡ ys ++ drop (at + 1 + length ys) bs = drop_at (take (at + 1) bs) (ys ++ drop (at + 1 + length ys) bs) (at + 1) lt in
    let e : at + 1 + length ys ≡ at + length (x ∷ ys) = omega arith in
    overlay_set at L x (omega arith) ∙ (ap (λ xs. xs ++ (x ∷ drop (at + 1) L)) t ∙ (ap (λ xs. take at bs ++ (x ∷ xs)) d ∙ ap (λ m. take at bs ++ (x ∷ (ys ++ drop m bs))) e))

-- a part of a list, laid over another
pub overlay_paste : {A : Type 0} (at n : ℕ) (ys bs : List A) → n ≤ length ys → paste bs at ys n ≡ overlay at (take n ys) bs
unfolding overlay
overlay_paste at n ys bs le = append_assoc (take at bs) (take n ys) (drop (at + n) bs) ∙ ap (λ m. take at bs ++ (take n ys ++ drop (at + m) bs)) (sym (length-take-le n ys le))

pub zeroes : (bs new fill P : List ℕ) (used to : ℕ) → used ≤ length bs → length new ≡ used → take to new ≡ P → to ≤ used →
    fill ≡ replicate (length (take (length (new ++ drop used bs) - to) (drop to (new ++ drop used bs)))) 0 →
    put_mid to (length (new ++ drop used bs) - to) (new ++ drop used bs) fill ≡ P ++ replicate (length bs - length P) 0
zeroes bs new fill P used to le ln is tu fl =
    let X = new ++ drop used bs in
    let lp : length P ≡ to = sym (ap length is) ∙ length-take-le to new (omega arith) in
    let t : take to (new ++ drop used bs) ≡ P = take-append-le to new (drop used bs) (omega arith) ∙ is in
    let lx : length (new ++ drop used bs) ≡ length bs = let a = length-append new (drop used bs) in let b = length-drop used bs in omega arith in
    let d : drop (length X - to) (drop to X) ≡ [] = drop-drop (length X - to) to X ∙ drop_all (to + (length X - to)) X (omega arith) in
    let e : length (take (length X - to) (drop to X)) ≡ length bs - length P = simp (length-take, length-drop) (omega arith) in
    ap (λ ys. ys ++ (fill ++ drop (length X - to) (drop to X))) t ∙ (ap (λ ys. P ++ (fill ++ ys)) d ∙ (ap (λ ys. P ++ ys) (append-nil fill ∙ fl) ∙ ap (λ m. P ++ replicate m 0) e))
