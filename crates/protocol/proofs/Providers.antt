-- What holds of one provider (`ProviderOk`): its keys rise; a temporary key holds the version of its name; every pair that it
-- holds was given to a write. And which requests may be on the way to it (`RequestOk`): a put of a given pair under the
-- standing key or its own, and a remove of a key below the largest. Such requests keep what holds, and the largest key
-- never falls: the heart of the protocol.
use Rattle.std.proofs.Common.{◌≡◌, ℕ, ◌+◌, ◌<◌, ◌≤◌, eqb, ◌≢◌, ◌⊎◌, List, [], ◌∷◌, ◌++◌, map, length, Some, Option, refl, inl, inr, arith}
use Rattle.std.specs.List.{AllByRecursion}
use Rattle.std.proofs.ByRecursion.{All-push, All-weaker}
use Rattle.std.proofs.lemmas.Bool.{cond_both, eqb-true, eqb-false, cases_eq}
use Rattle.stores.specs.Keyed.{put, without}
use Rattle.stores.specs.Provider.{Cell, cell_key}
use Rattle.protocol.specs.Requests.{Request, list_keys, get_key, put_cell, remove_key}
use Rattle.protocol.proofs.Model.{Code, top, Tag, untag, put_tag, carry, retag}
use Rattle.protocol.proofs.Lists.{In, all_and}
use Rattle.protocol.proofs.Tags.{Tail, Own, Spread, Apart, untag_all, untag_pairs, untag_gone, own_untag, own_push, tail_untag, tail_push, spread_untag, spread_push, apart_push, few_tags}
use Rattle.protocol.proofs.Cells.{Rising, all_insert, all_erase, rising_insert, rising_erase, top_insert, top_erase, in_insert_new, in_insert_old, in_erase, erase_gone, tagged, tagged_untag, tagged_push, few_keys, length_tagged}

pub record ProviderOk (seats : ℕ) (g : ℕ → Option Code) (m : List Cell) (E : List Tag) : Type 0 where
  pub rising : Rising m
  pub paired : AllByRecursion (λ c. ((c.key ≡ 0) ⊎ (c.key ≡ c.pair.version)) × (g c.pair.version ≡ Some c.pair.value)) m
  pub keyed : AllByRecursion (λ c. (c.key ≡ 0) ⊎ In c.key (tagged E)) m
  pub held : AllByRecursion (λ e. (e.key ≢ 0) × In e.key (map cell_key m)) E
  pub apart : Apart E
  pub spread : Spread E
  pub known : AllByRecursion (λ e. e.who < seats) E

abbrev pub RequestOk : (ℕ → Option Code) → ℕ → ℕ → List Tag → Request → Type 0
RequestOk g s t E list_keys = Unit {0}
RequestOk g s t E (get_key k) = Unit {0}
RequestOk g s t E (put_cell c) = (g c.pair.version ≡ Some c.pair.value) × ((c.key ≡ 0) ⊎ ((c.key ≡ c.pair.version) × Tail s E))
RequestOk g s t E (remove_key k) = k < t

-- the bound on the keys
pub few_keys_held : {seats : ℕ} {g : ℕ → Option Code} {m : List Cell} {E : List Tag} → ProviderOk seats g m E → length m ≤ seats + 2
few_keys_held {seats = k} {m = m} {E = E} h = omega (arith, few_keys m (tagged E) h.rising h.keyed, length_tagged E, few_tags k E h.known h.spread)

-- a request at another seat's line
pub record Keeps (s : ℕ) (E F : List Tag) : Type 0 where
  pub own : (l : List ℕ) → Own s l E → Own s l F
  pub tail : Tail s E → Tail s F

pub keeps_put : (s o k : ℕ) (E : List Tag) → o ≢ s → Keeps s E (put_tag o k E)
keeps_put s o k E d = cond_both (eqb k 0) _ _ (Keeps s E) (λ _. record { own = λ l h. h; tail = λ h. h })
    (λ _. record { own = λ l h. own_push s l (untag k E) _ d (own_untag s l k E h); tail = λ h. tail_push s (untag k E) _ d (tail_untag s k E h) })

pub keeps : (s o : ℕ) (E : List Tag) (r : Request) → o ≢ s → Keeps s E (retag o r E)
keeps s o E list_keys d = record { own = λ l h. h; tail = λ h. h }
keeps s o E (get_key k) d = record { own = λ l h. h; tail = λ h. h }
keeps s o E (put_cell c) d = keeps_put s o c.key E d
keeps s o E (remove_key k) d = record { own = λ l h. own_untag s l k E h; tail = λ h. tail_untag s k E h }

module _ (g : ℕ → Option Code) (s : ℕ) (m : List Cell) (E : List Tag) where
  -- no request lowers the largest key
  pub grows : (r : Request) → RequestOk g s (top m) E r → top m ≤ top (carry r m)
  grows list_keys h = omega arith
  grows (get_key k) h = omega arith
  grows (put_cell c) h = omega (arith, top_insert c m)
  grows (remove_key k) h = omega (arith, top_erase k m h)

  module _ (seats : ℕ) (known : s < seats) (ok : ProviderOk seats g m E) where
    put_standing : (c : Cell) → c.key ≡ 0 → (g c.pair.version ≡ Some c.pair.value) → ProviderOk seats g (put cell_key c m) E
    put_standing c z a = record {
      rising = rising_insert c m ok.rising;
      paired = all_insert _ c m (inl z, a) ok.paired;
      keyed = all_insert _ c m (inl z) ok.keyed;
      held = All-weaker _ _ (λ e h. (h.0, in_insert_old c m e.key h.1)) E ok.held;
      apart = ok.apart;
      spread = ok.spread;
      known = ok.known;
    }

    put_temp : (c : Cell) → c.key ≢ 0 → c.key ≡ c.pair.version → Tail s E → (g c.pair.version ≡ Some c.pair.value) → ProviderOk seats g (put cell_key c m) (untag c.key E ++ (record { key = c.key; who = s } ∷ []))
    put_temp c z e t a = record {
      rising = rising_insert c m ok.rising;
      paired = all_insert _ c m (inr e, a) ok.paired;
      keyed = all_insert _ c m (inr (tagged_push (untag c.key E) _ c.key (inl refl))) (All-weaker _ _ (λ x q. still x q (cases_eq x.key c.key)) m ok.keyed);
      held = All-push _ (untag c.key E) _ (untag_all _ c.key E (All-weaker _ _ (λ e q. (q.0, in_insert_old c m e.key q.1)) E ok.held)) (z, in_insert_new c m);
      apart = apart_push c.key s E ok.apart;
      spread = spread_push (untag c.key E) _ (tail_untag s c.key E t) (spread_untag c.key E ok.spread);
      known = All-push _ (untag c.key E) _ (untag_all _ c.key E ok.known) known;
    }
      where
        still : (x : Cell) → (x.key ≡ 0) ⊎ In x.key (tagged E) → (x.key ≡ c.key) ⊎ (x.key ≡ c.key → ⊥) → (x.key ≡ 0) ⊎ In x.key (tagged (untag c.key E ++ (record { key = c.key; who = s } ∷ [])))
        still x (inl e) d = inl e
        still x (inr q) (inl e) = inr (tagged_push (untag c.key E) _ x.key (inl e))
        still x (inr q) (inr d) = inr (tagged_push (untag c.key E) _ x.key (inr (tagged_untag c.key E x.key d q)))

    put_tags : (c : Cell) → ((c.key ≡ 0) ⊎ ((c.key ≡ c.pair.version) × Tail s E)) → (g c.pair.version ≡ Some c.pair.value) → ProviderOk seats g (put cell_key c m) (put_tag s c.key E)
    put_tags c h a = cond_both (eqb c.key 0) _ _ (ProviderOk seats g (put cell_key c m)) (λ t. put_standing c (eqb-true c.key 0 t) a)
        (λ f. elim h [ inl z ↦ absurd (eqb-false c.key 0 f z) | inr q ↦ put_temp c (eqb-false c.key 0 f) q.0 q.1 a ])

    removed : (k : ℕ) → ProviderOk seats g (without cell_key k m) (untag k E)
    removed k = record {
      rising = rising_erase k m ok.rising;
      paired = all_erase _ k m ok.paired;
      keyed = All-weaker _ _ (λ c h. elim h.1 [ inl z ↦ inl z | inr q ↦ inr (tagged_untag k E c.key h.0 q) ]) (without cell_key k m) (all_and _ _ (without cell_key k m) (erase_gone k m) (all_erase _ k m ok.keyed));
      held = All-weaker _ _ (λ e h. (h.1.0, in_erase k m e.key h.0 h.1.1)) (untag k E) (all_and _ _ (untag k E) (untag_gone k E) (untag_all _ k E ok.held));
      apart = untag_pairs _ k E ok.apart;
      spread = spread_untag k E ok.spread;
      known = untag_all _ k E ok.known;
    }

    pub provider_kept : (r : Request) → RequestOk g s (top m) E r → ProviderOk seats g (carry r m) (retag s r E)
    provider_kept list_keys h = ok
    provider_kept (get_key k) h = ok
    provider_kept (put_cell c) h = put_tags c h.1 h.0
    provider_kept (remove_key k) h = removed k
