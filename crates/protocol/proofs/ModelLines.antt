-- What holds of one line, by its progress, and that a landing at its provider keeps it. `t` is the provider's largest key, and
-- `f`, the floor, is what that was when the seat's operation began. A storing line's largest listed key is not above t, and
-- once the line is done neither is its version; what a listing or gathering line that is done has seen is not below f.
-- A line with a stale request or answer on the way is at its start.
use Rattle.std.proofs.Common.{◌≡◌, ℕ, ◌<◌, ◌≤◌, true, false, eqb, ltb, leb, ◌≢◌, ◌⊎◌, List, [], ◌∷◌, map, Some, None, Option, sym, refl, ◌∙◌, subst, inl, inr, arith}
use Rattle.std.specs.List.{AllByRecursion}
use Rattle.std.proofs.ByRecursion.{All-weaker}
use Rattle.std.proofs.lemmas.Bool.{cond_both, eqb-true, eqb-false, ltb-true, ltb-false, leb-true, eq-eqb, ne_eqb, cond-true, cond-false}
use Rattle.stores.specs.Keyed.{element_of, put, without}
use Rattle.stores.specs.Provider.{Cell, cell_key}
use Rattle.protocol.specs.Law.{EachTwo}
use Rattle.protocol.specs.Requests.{Request, list_keys, get_key, put_cell, remove_key}
use Rattle.protocol.specs.History.{update}
use Rattle.protocol.specs.Moves.{older_keys}
use Rattle.protocol.proofs.Model.{Code, cell_of, top, Tag, untag, put_tag, carry, retag}
use Rattle.protocol.proofs.Model.{StoreProgress, to_list, to_remove, to_put_standing, to_put_own, to_remove_largest, stored, GatherProgress, to_list_again, to_get_largest, to_get_standing, found_none, found, ModelSeat, idle, stopped, listing, gathering, storing, Transit, free, sent, returned}
use Rattle.protocol.proofs.Model.{to_remove_all, ask_store, next_store, ask_gather, got_largest, got_standing, next_gather, ask, next, list_done, listed_once}
use Rattle.protocol.proofs.ModelSteps.{stale, Active}
use Rattle.protocol.proofs.Lists.{In}
use Rattle.protocol.proofs.Tags.{Tail, Own, own_removed, own_tail, untag_pairs}
use Rattle.protocol.proofs.Cells.{top_insert, top_erase, all_get, Got, all_below, but_below, in_but}
use Rattle.protocol.proofs.Providers.{ProviderOk, RequestOk, Keeps}

pub update_same : {X : Type 0} (f : ℕ → X) (i : ℕ) (x : X) → update f i x i ≡ x
update_same f i x = cond-true (eqb i i) x (f i) (eq-eqb i i refl)

pub update_other : {X : Type 0} (f : ℕ → X) (i j : ℕ) (x : X) → i ≢ j → update f i x j ≡ f j
update_other f i j x d = cond-false (eqb i j) x (f j) (ne_eqb i j d)

abbrev pub StoreOk : ℕ → ℕ → ℕ → List Tag → StoreProgress → Type 0
StoreOk s v t E to_list = Unit {0}
StoreOk s v t E (to_remove k rest big) = (big ≤ t) × AllByRecursion (λ x. x < big) (k ∷ rest) × Own s (big ∷ (k ∷ rest)) E
StoreOk s v t E (to_put_standing big) = (big ≤ t) × Tail s E
StoreOk s v t E (to_put_own big) = (big < v) × Tail s E
StoreOk s v t E (to_remove_largest big) = (big < v) × (v ≤ t)
StoreOk s v t E stored = v ≤ t

abbrev pub GatherOk : (ℕ → Option Code) → ℕ → GatherProgress → Type 0
GatherOk g f (to_list_again k) = k ≢ 0 → f ≤ k
GatherOk g f (to_get_largest b k) = (b ≢ 0) × (f ≤ b) × (f ≤ k)
GatherOk g f (to_get_standing k) = f ≤ k
GatherOk g f found_none = f ≡ 0
GatherOk g f (found v x) = (f ≤ v) × (g v ≡ Some x)

abbrev pub ListOk : ℕ → Option ℕ → Type 0
ListOk f None = Unit {0}
ListOk f (Some k) = f ≤ k

module _ (g : ℕ → Option Code) (s : ℕ) where
  abbrev pub ProgressOk : ℕ → List Tag → ℕ → ℕ → ModelSeat → Type 0
  ProgressOk t E f i idle = Unit {0}
  ProgressOk t E f i stopped = Unit {0}
  ProgressOk t E f i (listing x p) = ListOk f (p i)
  ProgressOk t E f i (gathering b p) = GatherOk g f (p i)
  ProgressOk t E f i (storing b v x p) = StoreOk s v t E (p i)

  -- a seat that stores has a version and value that were given
  abbrev pub SeatOk : ModelSeat → Type 0
  SeatOk idle = Unit {0}
  SeatOk stopped = Unit {0}
  SeatOk (listing x p) = Unit {0}
  SeatOk (gathering b p) = Unit {0}
  SeatOk (storing b v x p) = (v ≢ 0) × (g v ≡ Some x)

  -- a request that is not stale is the one of the line's stage
  abbrev pub Asked : ℕ → Request → ModelSeat → Type 0
  Asked i r idle = ⊥
  Asked i r stopped = Unit {0}
  Asked i r (listing x p) = r ≡ list_keys
  Asked i r (gathering b p) = r ≡ ask_gather (p i)
  Asked i r (storing b v x p) = r ≡ ask_store v x (p i)

  -- a line with a stale request is at its first stage
  abbrev pub Blank : ℕ → ModelSeat → Type 0
  Blank i idle = Unit {0}
  Blank i stopped = Unit {0}
  Blank i (listing x p) = p i ≡ None
  Blank i (gathering b p) = p i ≡ to_list_again 0
  Blank i (storing b v x p) = p i ≡ to_list

  -- a listing line that has its answer is done
  abbrev pub Heard : ℕ → ModelSeat → Type 0
  Heard i idle = Unit {0}
  Heard i stopped = Unit {0}
  Heard i (listing x p) = list_done (p i) ≡ true
  Heard i (gathering b p) = Unit {0}
  Heard i (storing b v x p) = Unit {0}

  abbrev pub TransitOk : ℕ → List Tag → ℕ → ModelSeat → Transit → Type 0
  TransitOk t E i q free = Unit {0}
  TransitOk t E i q (sent true r) = RequestOk g s t E r × Blank i q
  TransitOk t E i q (sent false r) = RequestOk g s t E r × Asked i r q
  TransitOk t E i q (returned true) = Blank i q
  TransitOk t E i q (returned false) = Heard i q

  -- another seat's request lands at the provider
  store_frame : (v t u : ℕ) (E F : List Tag) (p : StoreProgress) → t ≤ u → Keeps s E F → StoreOk s v t E p → StoreOk s v u F p
  store_frame v t u E F to_list l k h = tt
  store_frame v t u E F (to_remove x rest big) l k h = (omega arith, h.1, k.own (big ∷ (x ∷ rest)) h.2)
  store_frame v t u E F (to_put_standing big) l k h = (omega arith, k.tail h.1)
  store_frame v t u E F (to_put_own big) l k h = (h.0, k.tail h.1)
  store_frame v t u E F (to_remove_largest big) l k h = (h.0, omega arith)
  store_frame v t u E F stored l k h = omega arith

  pub progress_frame : (t u : ℕ) (E F : List Tag) (f i : ℕ) (q : ModelSeat) → t ≤ u → Keeps s E F → ProgressOk t E f i q → ProgressOk u F f i q
  progress_frame t u E F f i idle l k h = tt
  progress_frame t u E F f i stopped l k h = tt
  progress_frame t u E F f i (listing x p) l k h = h
  progress_frame t u E F f i (gathering b p) l k h = h
  progress_frame t u E F f i (storing b v x p) l k h = store_frame v t u E F (p i) l k h

  request_frame : (t u : ℕ) (E F : List Tag) (r : Request) → t ≤ u → Keeps s E F → RequestOk g s t E r → RequestOk g s u F r
  request_frame t u E F list_keys l k h = tt
  request_frame t u E F (get_key x) l k h = tt
  request_frame t u E F (put_cell c) l k h = (h.0, elim h.1 [ inl z ↦ inl z | inr q ↦ inr (q.0, k.tail q.1) ])
  request_frame t u E F (remove_key x) l k h = omega arith

  pub transit_frame : (t u : ℕ) (E F : List Tag) (i : ℕ) (q : ModelSeat) (w : Transit) → t ≤ u → Keeps s E F → TransitOk t E i q w → TransitOk u F i q w
  transit_frame t u E F i q free l k h = tt
  transit_frame t u E F i q (sent true r) l k h = (request_frame t u E F r l k h.0, h.1)
  transit_frame t u E F i q (sent false r) l k h = (request_frame t u E F r l k h.0, h.1)
  transit_frame t u E F i q (returned true) l k h = h
  transit_frame t u E F i q (returned false) l k h = h

  -- its own request
  module _ (m : List Cell) (E : List Tag) (seats : ℕ) (ok : ProviderOk seats g m E) where
    clear_ok : (v t : ℕ) (F : List Tag) (rest : List ℕ) (big : ℕ) → big ≤ t → EachTwo (λ a b. a.key ≢ b.key) F → AllByRecursion (λ x. x < big) rest → Own s (big ∷ rest) F → StoreOk s v t F (to_remove_all rest big)
    clear_ok v t F [] big l a h o = (l, own_tail s big F a o)
    clear_ok v t F (k ∷ rest) big l a h o = (l, h, o)

    own_all : (l : List ℕ) (F : List Tag) → AllByRecursion (λ e. In e.key l) F → Own s l F
    own_all l [] h = tt
    own_all l (e ∷ F) h = inr (h.0, own_all l F h.1)

    pub store_land : (v : ℕ) (x : Code) (p : StoreProgress) → RequestOk g s (top m) E (ask_store v x p) → StoreOk s v (top m) E p → StoreOk s v (top (carry (ask_store v x p) m)) (retag s (ask_store v x p) E) (next_store v m p)
    store_land v x to_list r h =
        clear_ok v (top m) E (older_keys (map cell_key m)) (top m) (omega arith) ok.apart (but_below (top m) (map cell_key m) (all_below (map cell_key m)))
        (own_all (top m ∷ older_keys (map cell_key m)) E (All-weaker _ _ (λ e q. in_but (top m) (map cell_key m) e.key q.0 q.1) E ok.held))
    store_land v x (to_remove k rest big) r h = clear_ok v (top (without cell_key k m)) (untag k E) rest big (omega (arith, top_erase k m r, h.0)) (untag_pairs _ k E ok.apart) h.1.1 (own_removed s big k rest E h.2)
    store_land v x (to_put_standing big) r h =
        let c : Cell = cell_of 0 v x in
        cond_both (ltb big v) _ _ (StoreOk s v (top (put cell_key c m)) E) (λ t. (ltb-true big v t, h.1)) (λ f. omega (arith, ltb-false big v f, top_insert c m, h.0))
    store_land v x (to_put_own big) r h =
        let c : Cell = cell_of v v x in
        cond_both (eqb big 0) _ _ (StoreOk s v (top (put cell_key c m)) (put_tag s v E)) (λ _. omega (arith, top_insert c m)) (λ _. (h.0, omega (arith, top_insert c m)))
    store_land v x (to_remove_largest big) r h = omega (arith, top_erase big m r, h.1)
    store_land v x stored r h = h

    abbrev Fine : Cell → Type 0
    Fine c = ((c.key ≡ 0) ⊎ (c.key ≡ c.pair.version)) × (g c.pair.version ≡ Some c.pair.value)

    largest_ok : (f b k : ℕ) (o : Option Cell) → b ≢ 0 → f ≤ b → f ≤ k → Got Fine b o → GatherOk g f (got_largest k o)
    largest_ok f b k None n l h q = h
    largest_ok f b k (Some c) n l h q = (elim q.0.0 [ inl z ↦ absurd (n (sym q.1 ∙ z)) | inr e ↦ omega (arith, q.1) ], q.0.1)

    standing_ok : (f k : ℕ) (o : Option Cell) → f ≤ k → Got Fine 0 o → GatherOk g f (got_standing k o)
    standing_ok f k None l q = λ _. l
    standing_ok f k (Some c) l q = cond_both (leb k c.pair.version) _ _ (GatherOk g f) (λ t. (omega (arith, leb-true k c.pair.version t), q.0.1)) (λ _ _. l)

    pub gather_land : (f : ℕ) (p : GatherProgress) → f ≤ top m → GatherOk g f p → GatherOk g f (next_gather m p)
    gather_land f (to_list_again k) l h =
        cond_both (eqb (top m) 0) _ _ (GatherOk g f) (λ t. omega (arith, eqb-true (top m) 0 t))
        (λ n. (eqb-false (top m) 0 n, l, cond_both (eqb k 0) _ _ (λ z. f ≤ z) (λ _. l) (λ d. h (eqb-false k 0 d))))
    gather_land f (to_get_largest b k) l h = largest_ok f b k (element_of cell_key b m) h.0 h.1 h.2 (all_get Fine b m ok.paired)
    gather_land f (to_get_standing k) l h = standing_ok f k (element_of cell_key 0 m) h (all_get Fine 0 m ok.paired)
    gather_land f found_none l h = h
    gather_land f (found v x) l h = h

    once_ok : (f : ℕ) (o : Option ℕ) → f ≤ top m → ListOk f o → ListOk f (listed_once o (top m))
    once_ok f None l h = l
    once_ok f (Some k) l h = h

    once_done : (o : Option ℕ) → list_done (listed_once o (top m)) ≡ true
    once_done None = refl
    once_done (Some k) = refl

    -- the line's own answer
    pub progress_land : (f i : ℕ) (r : Request) (q : ModelSeat) → f ≤ top m → RequestOk g s (top m) E r → Asked i r q → ProgressOk (top m) E f i q → ProgressOk (top (carry r m)) (retag s r E) f i (next q i m)
    progress_land f i r idle l o a h = tt
    progress_land f i r stopped l o a h = tt
    progress_land f i r (listing x p) l o a h = rw (update_same p i (listed_once (p i) (top m))) (once_ok f (p i) l h)
    progress_land f i r (gathering b p) l o a h = rw (update_same p i (next_gather m (p i))) (gather_land f (p i) l h)
    progress_land f i r (storing b v x p) l o a h = rw (update_same p i (next_store v m (p i)), a) (store_land v x (p i) (rw a at o) h)

    pub progress_else : (t : ℕ) (F : List Tag) (f i j : ℕ) (q : ModelSeat) → i ≢ j → ProgressOk t F f j q → ProgressOk t F f j (next q i m)
    progress_else t F f i j idle d h = tt
    progress_else t F f i j stopped d h = tt
    progress_else t F f i j (listing x p) d h = rw (update_other p i j (listed_once (p i) (top m)) d) h
    progress_else t F f i j (gathering b p) d h = rw (update_other p i j (next_gather m (p i)) d) h
    progress_else t F f i j (storing b v x p) d h = rw (update_other p i j (next_store v m (p i)) d) h

    pub asked_else : (i j : ℕ) (r : Request) (q : ModelSeat) → i ≢ j → Asked j r q → Asked j r (next q i m)
    asked_else i j r idle d h = h
    asked_else i j r stopped d h = h
    asked_else i j r (listing x p) d h = h
    asked_else i j r (gathering b p) d h = rw (update_other p i j (next_gather m (p i)) d) h
    asked_else i j r (storing b v x p) d h = rw (update_other p i j (next_store v m (p i)) d) h

    pub blank_else : (i j : ℕ) (q : ModelSeat) → i ≢ j → Blank j q → Blank j (next q i m)
    blank_else i j idle d h = h
    blank_else i j stopped d h = h
    blank_else i j (listing x p) d h = rw (update_other p i j (listed_once (p i) (top m)) d) h
    blank_else i j (gathering b p) d h = rw (update_other p i j (next_gather m (p i)) d) h
    blank_else i j (storing b v x p) d h = rw (update_other p i j (next_store v m (p i)) d) h

    pub heard_else : (i j : ℕ) (q : ModelSeat) → i ≢ j → Heard j q → Heard j (next q i m)
    heard_else i j idle d h = h
    heard_else i j stopped d h = h
    heard_else i j (listing x p) d h = rw (update_other p i j (listed_once (p i) (top m)) d) h
    heard_else i j (gathering b p) d h = tt
    heard_else i j (storing b v x p) d h = tt

    pub heard_here : (i : ℕ) (q : ModelSeat) → Heard i (next q i m)
    heard_here i idle = tt
    heard_here i stopped = tt
    heard_here i (listing x p) = rw (update_same p i (listed_once (p i) (top m))) (once_done (p i))
    heard_here i (gathering b p) = tt
    heard_here i (storing b v x p) = tt

  pub blank_progress : (t : ℕ) (E : List Tag) (f i : ℕ) (q : ModelSeat) → Blank i q → ProgressOk t E f i q
  blank_progress t E f i idle h = tt
  blank_progress t E f i stopped h = tt
  blank_progress t E f i (listing x p) h = subst (ListOk f) (sym h) tt
  blank_progress t E f i (gathering b p) h = subst (GatherOk g f) (sym h) (λ n. absurd (n refl))
  blank_progress t E f i (storing b v x p) h = subst (StoreOk s v t E) (sym h) tt

  -- the request that post gives a line that is not done
  pub post_ok : (t : ℕ) (E : List Tag) (f i : ℕ) (q : ModelSeat) → SeatOk q → ProgressOk t E f i q → RequestOk g s t E (ask q i)
  post_ok t E f i idle k h = tt
  post_ok t E f i stopped k h = tt
  post_ok t E f i (listing x p) k h = tt
  post_ok t E f i (gathering b p) k h = by_gather (p i)
    where
      by_gather : (p : GatherProgress) → RequestOk g s t E (ask_gather p)
      by_gather (to_list_again k) = tt
      by_gather (to_get_largest b k) = tt
      by_gather (to_get_standing k) = tt
      by_gather found_none = tt
      by_gather (found v x) = tt
  post_ok t E f i (storing b v x p) k h = by_store (p i) h
    where
      by_store : (p : StoreProgress) → StoreOk s v t E p → RequestOk g s t E (ask_store v x p)
      by_store to_list h = tt
      by_store (to_remove z rest big) h = omega (arith, h.0, h.1.0)
      by_store (to_put_standing big) h = (k.1, inl refl)
      by_store (to_put_own big) h = (k.1, inr (refl, h.1))
      by_store (to_remove_largest big) h = omega arith
      by_store stored h = tt

  pub asked_ask : (i : ℕ) (q : ModelSeat) → Active q → Asked i (ask q i) q
  asked_ask i idle n = n
  asked_ask i stopped n = tt
  asked_ask i (listing x p) n = refl
  asked_ask i (gathering b p) n = refl
  asked_ask i (storing b v x p) n = refl

-- more versions are given
module _ (g k : ℕ → Option Code) (more : (v : ℕ) (x : Code) → g v ≡ Some x → k v ≡ Some x) where
  more_request : (s t : ℕ) (E : List Tag) (r : Request) → RequestOk g s t E r → RequestOk k s t E r
  more_request s t E list_keys h = tt
  more_request s t E (get_key z) h = tt
  more_request s t E (put_cell c) h = (more c.pair.version c.pair.value h.0, h.1)
  more_request s t E (remove_key z) h = h

  pub more_gather : (f : ℕ) (p : GatherProgress) → GatherOk g f p → GatherOk k f p
  more_gather f (to_list_again z) h = h
  more_gather f (to_get_largest b z) h = h
  more_gather f (to_get_standing z) h = h
  more_gather f found_none h = h
  more_gather f (found v x) h = (h.0, more v x h.1)

  pub more_progress : (s t : ℕ) (E : List Tag) (f i : ℕ) (q : ModelSeat) → ProgressOk g s t E f i q → ProgressOk k s t E f i q
  more_progress s t E f i idle h = tt
  more_progress s t E f i stopped h = tt
  more_progress s t E f i (listing x p) h = h
  more_progress s t E f i (gathering b p) h = more_gather f (p i) h
  more_progress s t E f i (storing b v x p) h = h

  pub more_transit : (s t : ℕ) (E : List Tag) (i : ℕ) (q : ModelSeat) (w : Transit) → TransitOk g s t E i q w → TransitOk k s t E i q w
  more_transit s t E i q free h = tt
  more_transit s t E i q (sent true r) h = (more_request s t E r h.0, more_blank q h.1)
    where
      more_blank : (q : ModelSeat) → Blank g s i q → Blank k s i q
      more_blank idle h = h
      more_blank stopped h = h
      more_blank (listing x p) h = h
      more_blank (gathering b p) h = h
      more_blank (storing b v x p) h = h
  more_transit s t E i q (sent false r) h = (more_request s t E r h.0, more_asked q h.1)
    where
      more_asked : (q : ModelSeat) → Asked g s i r q → Asked k s i r q
      more_asked idle h = h
      more_asked stopped h = h
      more_asked (listing x p) h = h
      more_asked (gathering b p) h = h
      more_asked (storing b v x p) h = h
  more_transit s t E i q (returned true) h = more_blank q h
    where
      more_blank : (q : ModelSeat) → Blank g s i q → Blank k s i q
      more_blank idle h = h
      more_blank stopped h = h
      more_blank (listing x p) h = h
      more_blank (gathering b p) h = h
      more_blank (storing b v x p) h = h
  more_transit s t E i q (returned false) h = more_heard q h
    where
      more_heard : (q : ModelSeat) → Heard g s i q → Heard k s i q
      more_heard idle h = h
      more_heard stopped h = h
      more_heard (listing x p) h = h
      more_heard (gathering b p) h = h
      more_heard (storing b v x p) h = h

  pub more_seat : (s : ℕ) (q : ModelSeat) → SeatOk g s q → SeatOk k s q
  more_seat s idle h = h
  more_seat s stopped h = h
  more_seat s (listing x p) h = h
  more_seat s (gathering b p) h = h
  more_seat s (storing b v x p) h = (h.0, more v x h.1)

  pub more_provider : (seats : ℕ) (m : List Cell) (E : List Tag) → ProviderOk seats g m E → ProviderOk seats k m E
  more_provider seats m E h = record { rising = h.rising; paired = All-weaker _ _ (λ c q. (q.0, more c.pair.version c.pair.value q.1)) m h.paired; keyed = h.keyed; held = h.held; apart = h.apart; spread = h.spread; known = h.known }

  -- the seat's phase is a new one
  pub stale_transit : (s t : ℕ) (E : List Tag) (i : ℕ) (q u : ModelSeat) (w : Transit) → Blank k s i u → TransitOk g s t E i q w → TransitOk k s t E i u (stale w)
  stale_transit s t E i q u free b h = tt
  stale_transit s t E i q u (sent true r) b h = (more_request s t E r h.0, b)
  stale_transit s t E i q u (sent false r) b h = (more_request s t E r h.0, b)
  stale_transit s t E i q u (returned c) b h = b
