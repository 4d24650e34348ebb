use Rattle.std.proofs.Common.{◌≡◌, ℕ, ◌-◌, ◌^◌, ◌<◌, ◌≤◌, true, cond, ◌&&◌, leb, List, ◌++◌, length, get_or, set, sym, refl, ap, ◌∙◌, arith}
use Rattle.std.proofs.lemmas.List.{length-append, get_or_append_left, set-append_left, get_or-append_right, set-append_right}
use Rattle.std.proofs.lemmas.Bool.{le-leb, and_from, cond-true}
use Rattle.std.proofs.lemmas.Bool.Decides.{nat_tests}
use Rattle.stores.specs.Provider.{Provider}
use Rattle.stores.proofs.KeyedLists.{cond_map}
use Rattle.banks.specs.Row.{has, absent, picked, row_after, size_of}
use Rattle.banks.specs.Sides.{Renumbered}

-- A number from 1 to the length of a row names a provider.

pub has_inside : (i : ℕ) (row : List Provider) → 1 ≤ i → i ≤ length row → has i row ≡ true
has_inside i row low high = and_from (leb 1 i) (leb i (length row)) (le-leb 1 i low) (le-leb i (length row) high)

pub picked_inside : {T : Type 0} (i : ℕ) (row : List Provider) (found : Provider → T) (missing : T)
    → 1 ≤ i → i ≤ length row → picked i row found missing ≡ found (get_or row (i - 1) absent)
picked_inside i row found missing low high = cond-true (has i row) _ _ (has_inside i row low high)

pub row_inside : (i : ℕ) (row : List Provider) (step : Provider → Provider)
    → 1 ≤ i → i ≤ length row → row_after i row step ≡ set row (i - 1) (step (get_or row (i - 1) absent))
row_inside i row step low high = picked_inside i row (λ p. set row (i - 1) (step p)) row low high

-- A part of a row, put back by `within`, takes the row's steps.

renumbered : (i k : ℕ) (row part : List Provider) (within : List Provider → List Provider)
    → row ≡ within part
    → has i row ≡ has k part
    → get_or row (i - 1) absent ≡ get_or part (k - 1) absent
    → ((p : Provider) → set row (i - 1) p ≡ within (set part (k - 1) p))
    → Renumbered i row k part within
renumbered i k row part within whole known provider placed =
    record {
      known = known;
      provider = provider;
      stepped = λ step.
          let new = step (get_or part (k - 1) absent) in
          ap (λ p. cond (has i row) (set row (i - 1) (step p)) row) provider
          ∙ ap (λ x. cond (has i row) x row) (placed new)
          ∙ ap (λ x. cond (has i row) (within (set part (k - 1) new)) x) whole
          ∙ ap (λ b. cond b (within (set part (k - 1) new)) (within part)) known
          ∙ sym (cond_map within (has k part) (set part (k - 1) new) part);
    }

-- Providers of the left one of two banks, whose size is n, keep their numbers.
pub leads_left : (l r : List Provider) (n i : ℕ) → 1 ≤ length l → n ≡ size_of l → i ≤ n
    → Renumbered i (l ++ r) i l (λ part. part ++ r)
leads_left l r n i some size here =
    let all = length-append l r in
    let place : i - 1 < length l = omega arith in
    let known : has i (l ++ r) ≡ has i l = ap (λ b. leb 1 i && b) (le-leb i (length (l ++ r)) (omega arith) ∙ sym (le-leb i (length l) (omega arith))) in
    renumbered i i (l ++ r) l (λ part. part ++ r) refl known (get_or_append_left l r absent (i - 1) place)
    (λ p. set-append_left l r (i - 1) p place)

-- Those of the right one are numbered on from n. (A number has 64 bits, so n is then the whole length of the left row.)
pub leads_right : (l r : List Provider) (n i : ℕ) → n ≡ size_of l → n < i → i < 2 ^ 64
    → (i - n ≡ i - length l) × Renumbered i (l ++ r) (i - n) r (λ part. l ++ part)
leads_right l r n i size past fits =
    let all = length-append l r in
    let long : length l ≡ n = omega arith in
    let place : i - 1 - n ≡ i - n - 1 = omega arith in
    let known : has i (l ++ r) ≡ has (i - n) r = grind (arith, nat_tests) in (
      omega arith,
      renumbered i (i - n) (l ++ r) r (λ part. l ++ part) refl known
          (get_or-append_right l r n (i - 1) absent long (omega arith) ∙ ap (λ k. get_or r k absent) place)
          (λ p. set-append_right l r n (i - 1) p long (omega arith) ∙ ap (λ k. l ++ set r k p) place),
    )
