-- What holds of functions that are changed at one place.
use Rattle.std.proofs.Common.{◌≡◌, ℕ, Bool, true, false, cond, eqb, ◌≢◌, refl, subst, subst₂}
use Rattle.std.proofs.lemmas.Bool.{eqb-true, eqb-false, cond-true, cond-false, eq-eqb, ne_eqb}
use Rattle.protocol.specs.History.{update}
use Rattle.protocol.proofs.ModelSteps.{update_two}

pub update_map : {X Y : Type 0} (h : ℕ → Y → X) (f : ℕ → X) (g : ℕ → Y) (s : ℕ) (x : X) (y : Y) → ((o : ℕ) → s ≢ o → f o ≡ h o (g o)) → x ≡ h s y → (o : ℕ) → update f s x o ≡ h o (update g s y o)
update_map h f g s x y e d o = go (eqb s o) refl
  where
    go : (b : Bool) → eqb s o ≡ b → cond b x (f o) ≡ h o (cond b y (g o))
    go true p = subst (λ o. x ≡ h o y) (eqb-true s o p) d
    go false p = e o (eqb-false s o p)

pub update_two_map : {X Y : Type 0} (h : ℕ → ℕ → Y → X) (f : ℕ → ℕ → X) (g : ℕ → ℕ → Y) (s i : ℕ) (x : X) (y : Y) → ((o j : ℕ) → f o j ≡ h o j (g o j)) → x ≡ h s i y → (o j : ℕ) → update_two f s i x o j ≡ h o j (update_two g s i y o j)
update_two_map h f g s i x y e d o j = go (eqb s o) (eqb i j) refl refl
  where
    go : (a b : Bool) → eqb s o ≡ a → eqb i j ≡ b → cond a (cond b x (f o j)) (f o j) ≡ h o j (cond a (cond b y (g o j)) (g o j))
    go true true p q = subst₂ (λ o j. x ≡ h o j y) (eqb-true s o p) (eqb-true i j q) d
    go true false p q = e o j
    go false b p q = e o j

pub update_two_row : {X : Type 0} (f : ℕ → ℕ → X) (s i : ℕ) (x : X) (j : ℕ) → update_two f s i x s j ≡ update (f s) i x j
update_two_row f s i x j = cond-true (eqb s s) _ _ (eq-eqb s s refl)

pub update_two_else : {X : Type 0} (f : ℕ → ℕ → X) (s i : ℕ) (x : X) (o j : ℕ) → s ≢ o → update_two f s i x o j ≡ f o j
update_two_else f s i x o j d = cond-false (eqb s o) _ _ (ne_eqb s o d)

pub update_under : {X Y : Type 0} (g : X → Y) (f : ℕ → X) (i : ℕ) (x : X) (j : ℕ) → g (update f i x j) ≡ update (λ j. g (f j)) i (g x) j
update_under g f i x j = go (eqb i j)
  where
    go : (b : Bool) → g (cond b x (f j)) ≡ cond b (g x) (g (f j))
    go true = refl
    go false = refl

pub at5 : {X Y Z W U : Type 0} (P : ℕ → X → Y → Z → W → U → Type 0) (fx : ℕ → X) (fy : ℕ → Y) (fz : ℕ → Z) (fw : ℕ → W) (fu : ℕ → U) (s : ℕ) (x : X) (y : Y) (z : Z) (w : W) (u : U) →
    P s x y z w u → ((o : ℕ) → s ≢ o → P o (fx o) (fy o) (fz o) (fw o) (fu o)) → (o : ℕ) → P o (update fx s x o) (update fy s y o) (update fz s z o) (update fw s w o) (update fu s u o)
at5 P fx fy fz fw fu s x y z w u h rest o = go (eqb s o) refl
  where
    go : (a : Bool) → eqb s o ≡ a → P o (cond a x (fx o)) (cond a y (fy o)) (cond a z (fz o)) (cond a w (fw o)) (cond a u (fu o))
    go true p = subst (λ o. P o x y z w u) (eqb-true s o p) h
    go false p = rest o (eqb-false s o p)
