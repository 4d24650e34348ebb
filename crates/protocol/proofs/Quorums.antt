-- What a seat's lines that are done come to, in the records and in the model.
use Rattle.std.proofs.Common.{◌≡◌, ℕ, zero, suc, ◌<◌, ◌≤◌, max, Bool, true, false, cond, ◌&&◌, ltb, Some, None, Option, sym, refl, ap, ◌∙◌, subst, le_trans, arith}
use mathlib.Core.Path.{fun_ext}
use Rattle.std.proofs.lemmas.Bool.{cond_both, ltb-true, ltb-false, true≢false}
use Rattle.stores.specs.Provider.{Pair}
use Rattle.protocol.specs.Lines.{LineState, free, sent, answered, is_free, Progress, Line}
use Rattle.protocol.specs.Phases.{count, most, majority, done_lines, listed_on, found_on, version_in, newest_found}
use Rattle.protocol.specs.Seats.{Activity}
use Rattle.protocol.specs.declared.stage.Stage.{Stage}
use Rattle.protocol.specs.declared.stage.Stage.TheVariants as at
use Rattle.protocol.proofs.Counting.{count_mono}
use Rattle.protocol.proofs.Decoding.{list_progress, gather_progress, gather_at, pair_found}
use Rattle.protocol.proofs.Model as M
use Rattle.protocol.proofs.ModelSteps as S
use Rattle.protocol.proofs.ModelSteps.{ModelState, or_zero, version_of}
use Rattle.protocol.proofs.Simulation.{transit_of, pend, pending, seen, Match, FreeIfDone, not_done}
use Rattle.protocol.proofs.View.{View}

-- on a free line
pub listed_free : (p : Progress) → or_zero (list_progress p) ≡ listed_on (record { state = free; progress = p })
listed_free p = go p.done
  where
    go : (b : Bool) → or_zero (cond b (Some p.largest) None) ≡ cond b p.largest 0
    go true = refl
    go false = refl

gather_zero : (g : Stage) (b k : ℕ) → version_of (gather_at g b k) ≡ 0
gather_zero at.List b k = refl
gather_zero at.RemoveOlder b k = refl
gather_zero at.PutStanding b k = refl
gather_zero at.PutOwn b k = refl
gather_zero at.RemoveLargest b k = refl
gather_zero at.GetLargest b k = refl
gather_zero at.GetStanding b k = refl

pair_version : (z : Option Pair) → version_of (pair_found z) ≡ version_in z
pair_version None = refl
pair_version (Some z) = refl

pub found_free : (p : Progress) → version_of (gather_progress p) ≡ version_in (found_on (record { state = free; progress = p }))
found_free p = go p.done
  where
    go : (b : Bool) → version_of (cond b (pair_found p.found) (gather_at p.stage p.largest p.mark)) ≡ version_in (cond b p.found None)
    go true = pair_version p.found
    go false = gather_zero p.stage p.largest p.mark

pub newest_most : (lines : ℕ → Line) (k : ℕ) → version_in (newest_found lines k) ≡ most (λ i. version_in (found_on (lines i))) k
newest_most lines zero = refl
newest_most lines (suc k) =
    let o = newest_found lines k in
    let p = found_on (lines k) in
    let ih = newest_most lines k in
    cond_both (ltb (version_in o) (version_in p)) p o (λ z. version_in z ≡ max (version_in p) (most (λ i. version_in (found_on (lines i))) k))
    (λ t. omega (arith, ltb-true (version_in o) (version_in p) t, ih)) (λ f. omega (arith, ltb-false (version_in o) (version_in p) f, ih))

module _ (n : ℕ) (V : View) (s : ℕ) (st : ModelState) (m : Match V st) (a : Activity) (e : V.activity s ≡ a) where
  abbrev pub now : ℕ → Progress
  now i = pending a (V.line s i)

  pub seat_eq : st.seat s ≡ seen a now
  seat_eq = m.seats s ∙ ap (λ a. seen a (λ i. pending a (V.line s i))) e

  loose : (D : Progress → Bool) (p : Progress) (w : LineState) → is_free w ≡ true → D p ≡ true → (S.is_free (transit_of w) && D (pend a p w)) ≡ true
  loose D p free f t = t
  loose D p (sent b q) f t = absurd (true≢false (sym f))
  loose D p (answered b r) f t = absurd (true≢false (sym f))

  pub quorum : ((i : ℕ) → FreeIfDone (V.line s i)) → (D : Progress → Bool) → ((p : Progress) → D p ≡ p.done) → majority n ≤ done_lines (V.line s) n → majority n ≤ count (λ i. S.is_free (st.transit s i) && D (now i)) n
  quorum free_if_done D d q = le_trans q (count_mono _ _ n (λ i _ t. subst (λ w. (S.is_free w && D (pending a (V.line s i))) ≡ true) (sym (m.transits s i)) (loose D (V.line s i).progress (V.line s i).state (free_if_done i t) (d (V.line s i).progress ∙ t))))

  -- g is f on a free line, and 0 on one that is not done
  pub most_eq : ((i : ℕ) → FreeIfDone (V.line s i)) → (f : Progress → ℕ) (g : Line → ℕ) → ((p : Progress) → f p ≡ g (record { state = free; progress = p })) → ((l : Line) → l.progress.done ≡ false → g l ≡ 0) →
      most (λ i. cond (S.is_free (st.transit s i)) (f (now i)) 0) n ≡ most (λ i. g (V.line s i)) n
  most_eq free_if_done f g on off = ap (λ h. most h n) (fun_ext (λ i. ap (λ w. cond (S.is_free w) (f (pending a (V.line s i))) 0) (m.transits s i) ∙ one (V.line s i).progress (V.line s i).state (free_if_done i)))
    where
      one : (p : Progress) (w : LineState) → FreeIfDone (record { state = w; progress = p }) → cond (S.is_free (transit_of w)) (f (pend a p w)) 0 ≡ g (record { state = w; progress = p })
      one p free h = on p
      one p (sent b q) h = let l : Line = record { state = sent b q; progress = p } in sym (off l (not_done l h refl))
      one p (answered b r) h = let l : Line = record { state = answered b r; progress = p } in sym (off l (not_done l h refl))

  -- the pair that is taken is one that was found
  abbrev pub Picked : Option Pair → Type 0
  Picked None = Unit {0}
  Picked (Some z) = (0 < z.version) × ((j : ℕ) × (gather_progress (now j) ≡ M.found z.version z.value))

  pick_done : (j : ℕ) (p : Progress) → now j ≡ p → 0 < version_in (cond p.done p.found None) → Picked (cond p.done p.found None)
  pick_done j p h l = go p.done refl l
    where
      yes : (o : Option Pair) → gather_progress (now j) ≡ pair_found o → 0 < version_in o → Picked o
      yes None h l = tt
      yes (Some z) h l = (l, (j, h))

      go : (b : Bool) → p.done ≡ b → 0 < version_in (cond b p.found None) → Picked (cond b p.found None)
      go true d l = yes p.found (ap gather_progress h ∙ ap (λ b. cond b (pair_found p.found) (gather_at p.stage p.largest p.mark)) d) l
      go false d l = tt

  pick_here : (j : ℕ) (p : Progress) (w : LineState) → FreeIfDone (record { state = w; progress = p }) → now j ≡ pend a p w → 0 < version_in (cond p.done p.found None) → Picked (cond p.done p.found None)
  pick_here j p free r h l = pick_done j p h l
  pick_here j p (sent b q) r h l = pick_done j p h l
  pick_here j p (answered b x) r h l = subst (λ t. Picked (cond t p.found None)) (sym (not_done (record { state = answered b x; progress = p }) r refl)) tt

  pub picked : ((i : ℕ) → FreeIfDone (V.line s i)) → (k : ℕ) → Picked (newest_found (V.line s) k)
  picked free_if_done zero = tt
  picked free_if_done (suc k) =
      let o = newest_found (V.line s) k in
      let p = found_on (V.line s k) in
      let ih = picked free_if_done k in
      cond_both (ltb (version_in o) (version_in p)) p o Picked (λ t. pick_here k (V.line s k).progress (V.line s k).state (free_if_done k) refl (omega (arith, ltb-true (version_in o) (version_in p) t))) (λ _. ih)
