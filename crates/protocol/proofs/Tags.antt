-- The bound on a provider's keys. Beside the cells the model keeps a tag for each temporary key: which seat put it last,
-- ordered by the last put. The seats of all tags but the first differ, so there is at most one more than there are seats.
use Rattle.std.proofs.Common.{◌≡◌, ℕ, suc, ◌<◌, ◌≤◌, false, eqb, ◌≢◌, ◌⊎◌, List, [], ◌∷◌, ◌++◌, length, sym, refl, ap, ◌∙◌, inl, inr, arith}
use Rattle.std.specs.List.{AllByRecursion}
use Rattle.std.proofs.ByRecursion.{All-push, All-weaker}
use Rattle.std.proofs.lemmas.Bool.{cond_both, eqb-false}
use Rattle.protocol.specs.Law.{EachTwo}
use Rattle.protocol.proofs.Model.{Tag, untag}
use Rattle.protocol.proofs.Lists.{In, pairs_push, fits_in, upto, in_upto, length_upto}

-- none of the tags is the seat's
abbrev pub Others : ℕ → List Tag → Type 0
Others s E = AllByRecursion (λ e. e.who ≢ s) E

-- none but the first
abbrev pub Tail : ℕ → List Tag → Type 0
Tail s [] = Unit {0}
Tail s (e ∷ E) = Others s E

-- up to the seat's last tag all keys are in l
abbrev pub Own : ℕ → List ℕ → List Tag → Type 0
Own s l [] = Unit {0}
Own s l (e ∷ E) = Others s (e ∷ E) ⊎ (In e.key l × Own s l E)

-- the seats of all but the first are apart
abbrev pub Spread : List Tag → Type 0
Spread [] = Unit {0}
Spread (e ∷ E) = EachTwo (λ a b. a.who ≢ b.who) E

abbrev pub Apart : List Tag → Type 0
Apart E = EachTwo (λ a b. a.key ≢ b.key) E

pub untag_all : (P : Tag → Type 0) (k : ℕ) (E : List Tag) → AllByRecursion P E → AllByRecursion P (untag k E)
untag_all P k [] h = tt
untag_all P k (e ∷ E) h = let ih = untag_all P k E h.1 in cond_both (eqb e.key k) (untag k E) (e ∷ untag k E) (AllByRecursion P) (λ _. ih) (λ _. (h.0, ih))

pub untag_pairs : (R : Tag → Tag → Type 0) (k : ℕ) (E : List Tag) → EachTwo R E → EachTwo R (untag k E)
untag_pairs R k [] h = tt
untag_pairs R k (e ∷ E) h = let ih = untag_pairs R k E h.1 in cond_both (eqb e.key k) (untag k E) (e ∷ untag k E) (EachTwo R) (λ _. ih) (λ _. (untag_all (R e) k E h.0, ih))

pub untag_gone : (k : ℕ) (E : List Tag) → AllByRecursion (λ e. e.key ≢ k) (untag k E)
untag_gone k [] = tt
untag_gone k (e ∷ E) = let ih = untag_gone k E in cond_both (eqb e.key k) (untag k E) (e ∷ untag k E) (AllByRecursion (λ e. e.key ≢ k)) (λ _. ih) (λ d. (eqb-false e.key k d, ih))

others_own : (s : ℕ) (l : List ℕ) (E : List Tag) → Others s E → Own s l E
others_own s l [] h = tt
others_own s l (e ∷ E) h = inl h

others_tail : (s : ℕ) (E : List Tag) → Others s E → Tail s E
others_tail s [] h = tt
others_tail s (e ∷ E) h = h.1

pub own_untag : (s : ℕ) (l : List ℕ) (k : ℕ) (E : List Tag) → Own s l E → Own s l (untag k E)
own_untag s l k [] h = tt
own_untag s l k (e ∷ E) (inl h) = others_own s l (untag k (e ∷ E)) (untag_all _ k (e ∷ E) h)
own_untag s l k (e ∷ E) (inr h) = let ih = own_untag s l k E h.1 in cond_both (eqb e.key k) (untag k E) (e ∷ untag k E) (Own s l) (λ _. ih) (λ _. inr (h.0, ih))

pub own_push : (s : ℕ) (l : List ℕ) (E : List Tag) (e : Tag) → e.who ≢ s → Own s l E → Own s l (E ++ (e ∷ []))
own_push s l [] e d h = inl (d, tt)
own_push s l (x ∷ E) e d (inl h) = inl (All-push (λ e. e.who ≢ s) (x ∷ E) e h d)
own_push s l (x ∷ E) e d (inr h) = inr (h.0, own_push s l E e d h.1)

pub tail_untag : (s k : ℕ) (E : List Tag) → Tail s E → Tail s (untag k E)
tail_untag s k [] h = tt
tail_untag s k (e ∷ E) h = let r = untag_all _ k E h in cond_both (eqb e.key k) (untag k E) (e ∷ untag k E) (Tail s) (λ _. others_tail s (untag k E) r) (λ _. r)

pub tail_push : (s : ℕ) (E : List Tag) (e : Tag) → e.who ≢ s → Tail s E → Tail s (E ++ (e ∷ []))
tail_push s [] e d h = tt
tail_push s (x ∷ E) e d h = All-push (λ e. e.who ≢ s) E e h d

-- the seat removes k itself
pub own_removed : (s : ℕ) (b k : ℕ) (l : List ℕ) (E : List Tag) → Own s (b ∷ (k ∷ l)) E → Own s (b ∷ l) (untag k E)
own_removed s b k l [] h = tt
own_removed s b k l (e ∷ E) (inl h) = others_own s (b ∷ l) (untag k (e ∷ E)) (untag_all _ k (e ∷ E) h)
own_removed s b k l (e ∷ E) (inr h) = let ih = own_removed s b k l E h.1 in cond_both (eqb e.key k) (untag k E) (e ∷ untag k E) (Own s (b ∷ l)) (λ _. ih) (λ d. inr (go d h.0, ih))
  where
    go : eqb e.key k ≡ false → In e.key (b ∷ (k ∷ l)) → In e.key (b ∷ l)
    go d (inl a) = inl a
    go d (inr (inl a)) = absurd (eqb-false e.key k d a)
    go d (inr (inr a)) = inr a

-- all but one are removed
pub own_tail : (s b : ℕ) (E : List Tag) → Apart E → Own s (b ∷ []) E → Tail s E
own_tail s b [] a h = tt
own_tail s b (e ∷ E) a (inl h) = h.1
own_tail s b (e ∷ E) a (inr (inl x, h)) = go E a.0 h
  where
    go : (E : List Tag) → AllByRecursion (λ y. e.key ≢ y.key) E → Own s (b ∷ []) E → Others s E
    go [] a h = tt
    go (y ∷ E) a (inl h) = h
    go (y ∷ E) a (inr (inl z, h)) = absurd (a.0 (x ∙ sym z))
    go (y ∷ E) a (inr (inr z, h)) = absurd z
own_tail s b (e ∷ E) a (inr (inr x, h)) = absurd x

-- a put by s, when none but the first tag is its own
pub spread_untag : (k : ℕ) (E : List Tag) → Spread E → Spread (untag k E)
spread_untag k [] h = tt
spread_untag k (e ∷ E) h = let r = untag_pairs _ k E h in cond_both (eqb e.key k) (untag k E) (e ∷ untag k E) Spread (λ _. pairs_spread (untag k E) r) (λ _. r)
  where
    pairs_spread : (E : List Tag) → EachTwo (λ a b. a.who ≢ b.who) E → Spread E
    pairs_spread [] h = tt
    pairs_spread (e ∷ E) h = h.1

pub spread_push : (E : List Tag) (e : Tag) → Tail e.who E → Spread E → Spread (E ++ (e ∷ []))
spread_push [] e t h = tt
spread_push (x ∷ E) e t h = pairs_push _ E e h t

pub apart_push : (k s : ℕ) (E : List Tag) → Apart E → Apart (untag k E ++ (record { key = k; who = s } ∷ []))
apart_push k s E h = pairs_push _ (untag k E) _ (untag_pairs _ k E h) (untag_gone k E)

-- so there are at most one more than the seats
abbrev whos : List Tag → List ℕ
whos [] = []
whos (e ∷ E) = e.who ∷ whos E

length_whos : (E : List Tag) → length (whos E) ≡ length E
length_whos [] = refl
length_whos (e ∷ E) = ap suc (length_whos E)

whos_all : (P : ℕ → Type 0) (E : List Tag) → AllByRecursion (λ e. P e.who) E → AllByRecursion P (whos E)
whos_all P [] h = tt
whos_all P (e ∷ E) h = (h.0, whos_all P E h.1)

whos_pairs : (E : List Tag) → EachTwo (λ a b. a.who ≢ b.who) E → EachTwo ◌≢◌ (whos E)
whos_pairs [] h = tt
whos_pairs (e ∷ E) h = (whos_all (λ w. e.who ≢ w) E h.0, whos_pairs E h.1)

pub few_tags : (m : ℕ) (E : List Tag) → AllByRecursion (λ e. e.who < m) E → Spread E → length E ≤ suc m
few_tags m [] a h = omega arith
few_tags m (e ∷ E) a h =
    let sub : AllByRecursion (λ x. In x (upto m)) (whos E) = whos_all _ E (All-weaker (λ e. e.who < m) (λ e. In e.who (upto m)) (λ x q. in_upto x.who m q) E a.1) in
    let r = fits_in (whos E) (upto m) (whos_pairs E h) sub in
    omega (arith, length_whos E, length_upto m)
