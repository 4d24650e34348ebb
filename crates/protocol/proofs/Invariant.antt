-- The invariant of the whole model, and that each step keeps it. `highest` is the largest version of a finished write or
-- settled read: a majority of the providers has a key not below it (`risen`). `low` is what it was when a seat's operation
-- began, and a majority had a floor not below that (`begun`). Two majorities meet, so what a phase collects is not below low,
-- and a new version is above it.
use Rattle.std.proofs.Common.{◌≡◌, ℕ, suc, ◌<◌, ◌≤◌, max, Bool, true, false, cond, ◌&&◌, eqb, leb, ◌≢◌, ◌⊎◌, List, Some, None, Option, sym, refl, ap, ◌∙◌, subst, subst₂, inl, inr, le_trans, arith}
use Rattle.std.proofs.lemmas.Bool.{cond_both, cond-true, eqb-true, eqb-false, cases_eq, cases_lt, leb-true, le-leb, and_parts, false≢true}
use Rattle.stores.specs.Provider.{Cell}
use Rattle.protocol.specs.Requests.{Request}
use Rattle.protocol.specs.History.{update}
use Rattle.protocol.specs.Phases.{majority, count, most, next_version}
use Rattle.protocol.proofs.Model.{Code, top, Tag, carry, retag, ask, list_done, gather_done, store_done}
use Rattle.protocol.proofs.Model.{StoreProgress, to_list, to_remove, to_put_standing, to_put_own, to_remove_largest, stored, GatherProgress, to_list_again, to_get_largest, to_get_standing, found_none, found, ModelSeat, idle, stopped, listing, gathering, storing, Transit, free, sent, returned}
use Rattle.protocol.proofs.ModelSteps.{ModelProvider, ModelState, update_two, stale, is_free, listed, found_at, or_zero, version_of, provider_land, moved, post, fetch, land, enter, stop, begin, go_on, give, finish, blank_list, blank_gather, blank_store, owner, Active, Step, posts, lands, fetches, begins_write, begins_read, stops, gives, uses_up, finds, reads, reads_none, ends}
use Rattle.protocol.proofs.Providers.{ProviderOk, RequestOk, keeps, grows, provider_kept}
use Rattle.protocol.proofs.ModelLines.{ListOk, GatherOk, StoreOk, ProgressOk, TransitOk, SeatOk, Asked, progress_frame, transit_frame, progress_land, progress_else, asked_else, Blank, blank_else, heard_else, heard_here, blank_progress, post_ok, asked_ask, more_progress, more_transit, more_seat, more_provider, stale_transit, update_same, update_other}
use Rattle.protocol.proofs.Counting.{count_mono, quorums_meet, most_above}

-- an update at one place, or at one seat and one provider: what holds there, and elsewhere
pub at1 : {X : Type 0} (P : ℕ → X → Type 0) (f : ℕ → X) (i : ℕ) (x : X) → P i x → ((j : ℕ) → i ≢ j → P j (f j)) → (j : ℕ) → P j (update f i x j)
at1 P f i x h k j = cond_both (eqb i j) x (f j) (P j) (λ t. subst (λ j. P j x) (eqb-true i j t) h) (λ d. k j (eqb-false i j d))

pub at2 : {X Y Z : Type 0} (P : ℕ → ℕ → X → Y → Z → Type 0) (fx : ℕ → X) (fy : ℕ → Y) (fz : ℕ → ℕ → Z) (s i : ℕ) (x : X) (y : Y) (z : Z) →
    P s i x y z → ((j : ℕ) → i ≢ j → P s j x (fy j) (fz s j)) → ((o : ℕ) → s ≢ o → P o i (fx o) y (fz o i)) → ((o j : ℕ) → s ≢ o → i ≢ j → P o j (fx o) (fy j) (fz o j)) →
    (o j : ℕ) → P o j (update fx s x o) (update fy i y j) (update_two fz s i z o j)
at2 P fx fy fz s i x y z here row col rest o j = go (eqb s o) (eqb i j) refl refl
  where
    go : (a b : Bool) → eqb s o ≡ a → eqb i j ≡ b → P o j (cond a x (fx o)) (cond b y (fy j)) (cond a (cond b z (fz o j)) (fz o j))
    go true true p q = subst₂ (λ o j. P o j x y z) (eqb-true s o p) (eqb-true i j q) here
    go true false p q = subst (λ o. P o j x (fy j) (fz o j)) (eqb-true s o p) (row j (eqb-false i j q))
    go false true p q = subst (λ j. P o j (fx o) y (fz o j)) (eqb-true i j q) (col o (eqb-false s o p))
    go false false p q = rest o j (eqb-false s o p) (eqb-false i j q)

pub at3 : {X Y Z : Type 0} (P : ℕ → X → Y → Z → Type 0) (fx : ℕ → X) (fy : ℕ → Y) (fz : ℕ → Z) (s : ℕ) (x : X) (y : Y) (z : Z) →
    P s x y z → ((o : ℕ) → s ≢ o → P o (fx o) (fy o) (fz o)) → (o : ℕ) → P o (update fx s x o) (update fy s y o) (update fz s z o)
at3 P fx fy fz s x y z here rest o = go (eqb s o) refl
  where
    go : (a : Bool) → eqb s o ≡ a → P o (cond a x (fx o)) (cond a y (fy o)) (cond a z (fz o))
    go true p = subst (λ o. P o x y z) (eqb-true s o p) here
    go false p = rest o (eqb-false s o p)

update_id : {X : Type 0} (f : ℕ → X) (i j : ℕ) → update f i (f i) j ≡ f j
update_id f i j = cond_both (eqb i j) _ _ (λ z. z ≡ f j) (λ t. ap f (eqb-true i j t)) (λ _. refl)

pub at_line : {Z : Type 0} (P : ℕ → ℕ → Z → Type 0) (f : ℕ → ℕ → Z) (s i : ℕ) (z : Z) → P s i z → ((o j : ℕ) → P o j (f o j)) → (o j : ℕ) → P o j (update_two f s i z o j)
at_line P f s i z h k o j =
    cond_both (eqb s o) _ _ (P o j) (λ a. cond_both (eqb i j) _ _ (P o j) (λ b. subst₂ (λ o j. P o j z) (eqb-true s o a) (eqb-true i j b) h) (λ _. k o j)) (λ _. k o j)

pub record LineOk (g : ℕ → Option Code) (s : ℕ) (d : ModelProvider) (f i : ℕ) (q : ModelSeat) (w : Transit) : Type 0 where
  pub above : f ≤ top d.cells
  pub progress : ProgressOk g s (top d.cells) d.tags f i q
  pub transit : TransitOk g s (top d.cells) d.tags i q w

-- a seat's last version, and that of its operation, among those finished
abbrev pub Rank : ℕ → ℕ → ℕ → ModelSeat → Type 0
Rank highest low latest idle = latest ≤ highest
Rank highest low latest stopped = Unit {0}
Rank highest low latest (listing x p) = latest ≤ low
Rank highest low latest (gathering b p) = latest ≤ highest
Rank highest low latest (storing b v x p) = (latest ≤ max highest v) × (low ≤ v)

rank_rise : (c k l w : ℕ) (q : ModelSeat) → c ≤ k → Rank c l w q → Rank k l w q
rank_rise c k l w idle h r = omega arith
rank_rise c k l w stopped h r = tt
rank_rise c k l w (listing x p) h r = r
rank_rise c k l w (gathering b p) h r = omega arith
rank_rise c k l w (storing b v x p) h r = (omega arith, r.1)

pub record Invariant (n seats : ℕ) (st : ModelState) : Type 0 where
  pub providers : (i : ℕ) → ProviderOk seats st.given (st.provider i).cells (st.provider i).tags
  pub lines : (s i : ℕ) → LineOk st.given s (st.provider i) (st.floor s i) i (st.seat s) (st.transit s i)
  pub activities : (s : ℕ) → SeatOk st.given s (st.seat s)
  pub ranks : (s : ℕ) → Rank st.highest (st.low s) (st.latest s) (st.seat s)
  pub lows : (s : ℕ) → st.low s ≤ st.highest
  pub begun : (s : ℕ) → majority n ≤ count (λ i. leb (st.low s) (st.floor s i)) n
  pub risen : majority n ≤ count (λ i. leb st.highest (top (st.provider i).cells)) n
  pub fresh : (v : ℕ) (x : Code) → st.given v ≡ Some x → (v ≢ 0) × (v ≤ st.latest (owner v))

-- what a landing leaves of a seat
module _ (g : ℕ → Option Code) (s : ℕ) (m : List Cell) (E : List Tag) (seats : ℕ) (ok : ProviderOk seats g m E) where
  moved_seat : (b : Bool) (q : ModelSeat) (i : ℕ) → SeatOk g s q → SeatOk g s (moved b q i m)
  moved_seat true q i h = h
  moved_seat false idle i h = h
  moved_seat false stopped i h = h
  moved_seat false (listing x p) i h = h
  moved_seat false (gathering b p) i h = h
  moved_seat false (storing b v x p) i h = h

  moved_rank : (c l w : ℕ) (b : Bool) (q : ModelSeat) (i : ℕ) → Rank c l w q → Rank c l w (moved b q i m)
  moved_rank c l w true q i h = h
  moved_rank c l w false idle i h = h
  moved_rank c l w false stopped i h = h
  moved_rank c l w false (listing x p) i h = h
  moved_rank c l w false (gathering b p) i h = h
  moved_rank c l w false (storing b v x p) i h = h

  moved_transit : (t : ℕ) (F : List Tag) (i j : ℕ) (b : Bool) (q : ModelSeat) (w : Transit) → i ≢ j → TransitOk g s t F j q w → TransitOk g s t F j (moved b q i m) w
  moved_transit t F i j b q free d h = tt
  moved_transit t F i j true q (sent true r) d h = h
  moved_transit t F i j false q (sent true r) d h = (h.0, blank_else g s m E seats ok i j q d h.1)
  moved_transit t F i j true q (sent false r) d h = h
  moved_transit t F i j false q (sent false r) d h = (h.0, asked_else g s m E seats ok i j r q d h.1)
  moved_transit t F i j true q (returned c) d h = h
  moved_transit t F i j false q (returned true) d h = blank_else g s m E seats ok i j q d h
  moved_transit t F i j false q (returned false) d h = heard_else g s m E seats ok i j q d h

  moved_else : (t : ℕ) (F : List Tag) (f i j : ℕ) (b : Bool) (q : ModelSeat) → i ≢ j → ProgressOk g s t F f j q → ProgressOk g s t F f j (moved b q i m)
  moved_else t F f i j true q d h = h
  moved_else t F f i j false q d h = progress_else g s m E seats ok t F f i j q d h

module _ (n seats : ℕ) (st : ModelState) (inv : Invariant n seats st) where
  -- the line's own landing, stale or not
  module _ (s i : ℕ) (r : Request) (l : s < seats) where
    pub here_progress : (b : Bool) → st.transit s i ≡ sent b r → RequestOk st.given s (top (st.provider i).cells) (st.provider i).tags r × ProgressOk st.given s (top (carry r (st.provider i).cells)) (retag s r (st.provider i).tags) (st.floor s i) i (moved b (st.seat s) i (st.provider i).cells)
    here_progress true e =
        let d = st.provider i in
        let ok : RequestOk st.given s (top d.cells) d.tags r × Blank st.given s i (st.seat s) = subst (TransitOk st.given s (top d.cells) d.tags i (st.seat s)) e (inv.lines s i).transit in
        (ok.0, blank_progress st.given s (top (carry r d.cells)) (retag s r d.tags) (st.floor s i) i (st.seat s) ok.1)
    here_progress false e =
        let d = st.provider i in
        let ok : RequestOk st.given s (top d.cells) d.tags r × Asked st.given s i r (st.seat s) = subst (TransitOk st.given s (top d.cells) d.tags i (st.seat s)) e (inv.lines s i).transit in
        (ok.0, progress_land st.given s d.cells d.tags seats (inv.providers i) (st.floor s i) i r (st.seat s) (inv.lines s i).above ok.0 ok.1 (inv.lines s i).progress)

    here_transit : (b : Bool) → st.transit s i ≡ sent b r → TransitOk st.given s (top (carry r (st.provider i).cells)) (retag s r (st.provider i).tags) i (moved b (st.seat s) i (st.provider i).cells) (returned b)
    here_transit true e = (subst (TransitOk st.given s (top (st.provider i).cells) (st.provider i).tags i (st.seat s)) e (inv.lines s i).transit).1
    here_transit false e = heard_here st.given s (st.provider i).cells (st.provider i).tags seats (inv.providers i) i (st.seat s)

  land_inv : (s i : ℕ) (b : Bool) (r : Request) → s < seats → st.transit s i ≡ sent b r → Invariant n seats (land st s i b r)
  land_inv s i b r l e =
      let d = st.provider i in
      let g = st.given in
      let q : ModelSeat = moved b (st.seat s) i d.cells in
      let d' : ModelProvider = provider_land s r d in
      let ok = here_progress s i r l b e in
      let up = grows g s d.cells d.tags r ok.0 in
      let rise : (j : ℕ) → top (st.provider j).cells ≤ top (update st.provider i d' j).cells = at1 (λ j d. top (st.provider j).cells ≤ top d.cells) st.provider i d' up (λ j _. omega arith) in
      record {
        providers = at1 (λ j d. ProviderOk seats g d.cells d.tags) st.provider i d' (provider_kept g s d.cells d.tags seats l (inv.providers i) r ok.0) (λ j _. inv.providers j);
        lines = at2 (λ s i q d w. LineOk g s d (st.floor s i) i q w) st.seat st.provider st.transit s i q d' (returned b)
            (record { above = omega (arith, (inv.lines s i).above); progress = ok.1; transit = here_transit s i r l b e })
            (λ j ne. record { above = (inv.lines s j).above; progress = moved_else g s d.cells d.tags seats (inv.providers i) (top (st.provider j).cells) (st.provider j).tags (st.floor s j) i j b (st.seat s) ne (inv.lines s j).progress; transit = moved_transit g s d.cells d.tags seats (inv.providers i) (top (st.provider j).cells) (st.provider j).tags i j b (st.seat s) (st.transit s j) ne (inv.lines s j).transit })
            (λ o ne. let k = keeps o s d.tags r ne in record { above = omega (arith, (inv.lines o i).above); progress = progress_frame g o (top d.cells) (top d'.cells) d.tags d'.tags (st.floor o i) i (st.seat o) up k (inv.lines o i).progress; transit = transit_frame g o (top d.cells) (top d'.cells) d.tags d'.tags i (st.seat o) (st.transit o i) up k (inv.lines o i).transit })
            (λ o j _ _. inv.lines o j);
        activities = at1 (λ s q. SeatOk g s q) st.seat s q (moved_seat g s d.cells d.tags seats (inv.providers i) b (st.seat s) i (inv.activities s)) (λ o _. inv.activities o);
        ranks = at1 (λ s q. Rank st.highest (st.low s) (st.latest s) q) st.seat s q (moved_rank g s d.cells d.tags seats (inv.providers i) st.highest (st.low s) (st.latest s) b (st.seat s) i (inv.ranks s)) (λ o _. inv.ranks o);
        lows = inv.lows;
        begun = inv.begun;
        risen = le_trans inv.risen (count_mono _ _ n (λ j _ t. le-leb _ _ (omega (arith, leb-true st.highest (top (st.provider j).cells) t, rise j))));
        fresh = inv.fresh;
      }

  post_inv : (s i : ℕ) → Active (st.seat s) → Invariant n seats (post st s i)
  post_inv s i a = record {
    providers = inv.providers;
    lines = at_line (λ o j w. LineOk st.given o (st.provider j) (st.floor o j) j (st.seat o) w) st.transit s i (sent false (ask (st.seat s) i))
        (let h = inv.lines s i in record { above = h.above; progress = h.progress; transit = (post_ok st.given s (top (st.provider i).cells) (st.provider i).tags (st.floor s i) i (st.seat s) (inv.activities s) h.progress, asked_ask st.given s i (st.seat s) a) })
        inv.lines;
    activities = inv.activities;
    ranks = inv.ranks;
    lows = inv.lows;
    begun = inv.begun;
    risen = inv.risen;
    fresh = inv.fresh;
  }

  fetch_inv : (s i : ℕ) → Invariant n seats (fetch st s i)
  fetch_inv s i = record {
    providers = inv.providers;
    lines = at_line (λ o j w. LineOk st.given o (st.provider j) (st.floor o j) j (st.seat o) w) st.transit s i free
        (let h = inv.lines s i in record { above = h.above; progress = h.progress; transit = tt })
        inv.lines;
    activities = inv.activities;
    ranks = inv.ranks;
    lows = inv.lows;
    begun = inv.begun;
    risen = inv.risen;
    fresh = inv.fresh;
  }

  -- one lemma for all that starts a phase or ends an operation
  enter_inv : (s : ℕ) (q : ModelSeat) (g : ℕ → Option Code) (low : ℕ) (floor : ℕ → ℕ) (highest latest : ℕ) →
      ((v : ℕ) (x : Code) → st.given v ≡ Some x → g v ≡ Some x) → ((i : ℕ) → Blank g s i q) → SeatOk g s q → Rank highest low latest q → st.highest ≤ highest → low ≤ highest →
      ((i : ℕ) → floor i ≤ top (st.provider i).cells) → majority n ≤ count (λ i. leb low (floor i)) n → majority n ≤ count (λ i. leb highest (top (st.provider i).cells)) n →
      ((v : ℕ) (x : Code) → g v ≡ Some x → (v ≢ 0) × (v ≤ update st.latest s latest (owner v))) →
      Invariant n seats (enter st s q g low floor highest latest)
  enter_inv s q g low floor highest latest more blank activity rank c l under quorum risen fresh = record {
    providers = λ i. more_provider st.given g more seats (st.provider i).cells (st.provider i).tags (inv.providers i);
    lines = at3 (λ o f q w. (i : ℕ) → LineOk g o (st.provider i) (f i) i q (w i)) st.floor st.seat st.transit s floor q (λ i. stale (st.transit s i))
        (λ i. let d = st.provider i in record { above = under i; progress = blank_progress g s (top d.cells) d.tags (floor i) i q (blank i); transit = stale_transit st.given g more s (top d.cells) d.tags i (st.seat s) q (st.transit s i) (blank i) (inv.lines s i).transit })
        (λ o _ i. let d = st.provider i in let h = inv.lines o i in record { above = h.above; progress = more_progress st.given g more o (top d.cells) d.tags (st.floor o i) i (st.seat o) h.progress; transit = more_transit st.given g more o (top d.cells) d.tags i (st.seat o) (st.transit o i) h.transit });
    activities = at1 (λ o q. SeatOk g o q) st.seat s q activity (λ o _. more_seat st.given g more o (st.seat o) (inv.activities o));
    ranks = at3 (λ o l w q. Rank highest l w q) st.low st.latest st.seat s low latest q rank (λ o _. rank_rise st.highest highest (st.low o) (st.latest o) (st.seat o) c (inv.ranks o));
    lows = at1 (λ o l. l ≤ highest) st.low s low l (λ o _. omega (arith, inv.lows o));
    begun = at3 (λ o l f q. majority n ≤ count (λ i. leb l (f i)) n) st.low st.floor st.seat s low floor q quorum (λ o _. inv.begun o);
    risen = risen;
    fresh = fresh;
  }

  stop_inv : (s : ℕ) → Invariant n seats (stop st s)
  stop_inv s = record {
    providers = inv.providers;
    lines = at3 (λ o q w f. (i : ℕ) → LineOk st.given o (st.provider i) (st.floor o i) i q (st.transit o i)) st.seat st.seat st.seat s stopped stopped stopped
        (λ i. let h = inv.lines s i in record { above = h.above; progress = tt; transit = halt i (st.transit s i) h.transit })
        (λ o _ i. inv.lines o i);
    activities = at1 (λ o q. SeatOk st.given o q) st.seat s stopped tt (λ o _. inv.activities o);
    ranks = at1 (λ o q. Rank st.highest (st.low o) (st.latest o) q) st.seat s stopped tt (λ o _. inv.ranks o);
    lows = inv.lows;
    begun = inv.begun;
    risen = inv.risen;
    fresh = inv.fresh;
  }
    where
      halt : (i : ℕ) (w : Transit) → TransitOk st.given s (top (st.provider i).cells) (st.provider i).tags i (st.seat s) w → TransitOk st.given s (top (st.provider i).cells) (st.provider i).tags i stopped w
      halt i free h = tt
      halt i (sent true r) h = (h.0, tt)
      halt i (sent false r) h = (h.0, tt)
      halt i (returned true) h = tt
      halt i (returned false) h = tt

  fresh_kept : (s : ℕ) (v : ℕ) (x : Code) → st.given v ≡ Some x → (v ≢ 0) × (v ≤ update st.latest s (st.latest s) (owner v))
  fresh_kept s v x e = ((inv.fresh v x e).0, rw (update_id st.latest s (owner v)) (inv.fresh v x e).1)

  begin_inv : (s : ℕ) (q : ModelSeat) → ((i : ℕ) → Blank st.given s i q) → SeatOk st.given s q → Rank st.highest st.highest (st.latest s) q → Invariant n seats (begin st s q)
  begin_inv s q blank activity rank = enter_inv s q st.given st.highest (λ i. top (st.provider i).cells) st.highest (st.latest s) (λ v x e. e) blank activity rank (omega arith) (omega arith) (λ i. omega arith) inv.risen inv.risen (fresh_kept s)

  go_on_inv : (s : ℕ) (q : ModelSeat) → ((i : ℕ) → Blank st.given s i q) → SeatOk st.given s q → Rank st.highest (st.low s) (st.latest s) q → Invariant n seats (go_on st s q)
  go_on_inv s q blank activity rank = enter_inv s q st.given (st.low s) (st.floor s) st.highest (st.latest s) (λ v x e. e) blank activity rank (omega arith) (inv.lows s) (λ i. (inv.lines s i).above) (inv.begun s) inv.risen (fresh_kept s)

  -- a majority of lines that are done meets the providers that had the largest finished version
  meet : (s : ℕ) (f : ℕ → ℕ) (test : ℕ → Bool) → majority n ≤ count (λ i. is_free (st.transit s i) && test i) n → ((i : ℕ) → test i ≡ true → st.floor s i ≤ f i) → st.low s ≤ most (λ i. cond (is_free (st.transit s i)) (f i) 0) n
  meet s f test quorum up =
      let z = quorums_meet (λ i. leb (st.low s) (st.floor s i)) (λ i. is_free (st.transit s i) && test i) n (inv.begun s) quorum in
      let i = z.0 in
      let two = and_parts (is_free (st.transit s i)) (test i) z.3 in
      let above = most_above (λ i. cond (is_free (st.transit s i)) (f i) 0) n i z.1 in
      let here : cond (is_free (st.transit s i)) (f i) 0 ≡ f i = cond-true (is_free (st.transit s i)) (f i) 0 two.0 in
      omega (arith, leb-true (st.low s) (st.floor s i) z.2, up i two.1)

  pub reach_list : (s : ℕ) (x : Code) (p : ℕ → Option ℕ) → st.seat s ≡ listing x p → majority n ≤ count (λ i. is_free (st.transit s i) && list_done (p i)) n → st.low s ≤ most (listed st s p) n
  reach_list s x p e quorum = meet s (λ i. or_zero (p i)) (λ i. list_done (p i)) quorum (λ i t. by (p i) t (subst (ProgressOk st.given s (top (st.provider i).cells) (st.provider i).tags (st.floor s i) i) e (inv.lines s i).progress))
    where
      by : {f : ℕ} (o : Option ℕ) → list_done o ≡ true → ListOk f o → f ≤ or_zero o
      by None t h = absurd (false≢true t)
      by (Some k) t h = h

  pub reach_find : (s : ℕ) (b : Bool) (p : ℕ → GatherProgress) → st.seat s ≡ gathering b p → majority n ≤ count (λ i. is_free (st.transit s i) && gather_done (p i)) n → st.low s ≤ most (found_at st s p) n
  reach_find s b p e quorum = meet s (λ i. version_of (p i)) (λ i. gather_done (p i)) quorum (λ i t. by (p i) t (subst (ProgressOk st.given s (top (st.provider i).cells) (st.provider i).tags (st.floor s i) i) e (inv.lines s i).progress))
    where
      by : {f : ℕ} (o : GatherProgress) → gather_done o ≡ true → GatherOk st.given f o → f ≤ version_of o
      by (to_list_again k) t h = absurd (false≢true t)
      by (to_get_largest c k) t h = absurd (false≢true t)
      by (to_get_standing k) t h = absurd (false≢true t)
      by found_none t h = omega arith
      by (found v x) t h = h.0

  finish_inv : (s : ℕ) (b : Bool) (v : ℕ) (x : Code) (p : ℕ → StoreProgress) → st.seat s ≡ storing b v x p → majority n ≤ count (λ i. is_free (st.transit s i) && store_done (p i)) n → Invariant n seats (finish st s v)
  finish_inv s b v x p e quorum =
      let rank : Rank st.highest (st.low s) (st.latest s) (storing b v x p) = subst (Rank st.highest (st.low s) (st.latest s)) e (inv.ranks s) in
      enter_inv s idle st.given (st.low s) (st.floor s) (max st.highest v) (st.latest s) (λ v x e. e) (λ i. tt) tt rank.0 (omega arith) (omega (arith, inv.lows s)) (λ i. (inv.lines s i).above) (inv.begun s) (risen (cases_lt st.highest v)) (fresh_kept s)
    where
      by : (t : ℕ) (E : List Tag) (p : StoreProgress) → store_done p ≡ true → StoreOk s v t E p → v ≤ t
      by t E to_list d h = absurd (false≢true d)
      by t E (to_remove k r big) d h = absurd (false≢true d)
      by t E (to_put_standing big) d h = absurd (false≢true d)
      by t E (to_put_own big) d h = absurd (false≢true d)
      by t E (to_remove_largest big) d h = absurd (false≢true d)
      by t E stored d h = h

      risen : (st.highest < v) ⊎ (v ≤ st.highest) → majority n ≤ count (λ i. leb (max st.highest v) (top (st.provider i).cells)) n
      risen (inl l) = le_trans quorum (count_mono _ _ n (λ i _ t. le-leb _ _ (let d = st.provider i in
          let k = by (top d.cells) d.tags (p i) (and_parts (is_free (st.transit s i)) (store_done (p i)) t).1 (subst (ProgressOk st.given s (top d.cells) d.tags (st.floor s i) i) e (inv.lines s i).progress) in omega arith)))
      risen (inr l) = le_trans inv.risen (count_mono _ _ n (λ i _ t. le-leb _ _ (omega (arith, leb-true st.highest (top (st.provider i).cells) t))))

  pub fresh_new : (s v : ℕ) → st.latest s < v → owner v ≡ s → (u : ℕ) (y : Code) → st.given u ≡ Some y → v ≢ u
  fresh_new s v new whose u y h d =
      let a : v ≤ st.latest (owner v) = subst (λ w. w ≤ st.latest (owner w)) (sym d) (inv.fresh u y h).1 in
      let b : v ≤ st.latest s = subst (λ o. v ≤ st.latest o) whose a in omega arith

  module _ (s : ℕ) (x : Code) (p : ℕ → Option ℕ) (l : suc s < 65536) (v : ℕ) (new : st.latest s < v) (whose : owner v ≡ s) where
    given_more : (u : ℕ) (y : Code) → st.given u ≡ Some y → update st.given v (Some x) u ≡ Some y
    given_more u y h = update_other st.given v u (Some x) (fresh_new s v new whose u y h) ∙ h

    given_fresh : (u : ℕ) (y : Code) → update st.given v (Some x) u ≡ Some y → (u ≢ 0) × (u ≤ update st.latest s v (owner u))
    given_fresh u y h = go (cases_eq v u)
      where
        self : v ≤ update st.latest s v s
        self = rw (update_same st.latest s v) (omega arith)

        up : (o : ℕ) → st.latest o ≤ update st.latest s v o
        up = at1 (λ o w. st.latest o ≤ w) st.latest s v (omega arith) (λ o _. omega arith)

        go : (v ≡ u) ⊎ (v ≡ u → ⊥) → (u ≢ 0) × (u ≤ update st.latest s v (owner u))
        go (inl d) = subst (λ u. (u ≢ 0) × (u ≤ update st.latest s v (owner u))) d (omega arith, subst (λ o. v ≤ update st.latest s v o) (sym whose) self)
        go (inr d) = let old = inv.fresh u y (sym (update_other st.given v u (Some x) d) ∙ h) in (old.0, le_trans old.1 (up (owner u)))

    given_inv : st.low s ≤ v → Invariant n seats (give st s (storing true v x blank_store) v x)
    given_inv low = enter_inv s (storing true v x blank_store) (update st.given v (Some x)) (st.low s) (st.floor s) st.highest v
        given_more (λ i. refl) (omega arith, update_same st.given v (Some x)) (omega arith, low) (omega arith) (inv.lows s) (λ i. (inv.lines s i).above) (inv.begun s) inv.risen given_fresh

  give_inv : (s : ℕ) (x : Code) (p : ℕ → Option ℕ) → suc s < 65536 → st.seat s ≡ listing x p → majority n ≤ count (λ i. is_free (st.transit s i) && list_done (p i)) n →
      Invariant n seats (give st s (storing true (next_version (most (listed st s p) n) (suc s)) x blank_store) (next_version (most (listed st s p) n) (suc s)) x)
  give_inv s x p l e quorum =
      let k = most (listed st s p) n in
      let reach = reach_list s x p e quorum in
      let rank : st.latest s ≤ st.low s = subst (Rank st.highest (st.low s) (st.latest s)) e (inv.ranks s) in
      given_inv s x p l (next_version k (suc s)) (omega arith) (omega arith) (omega arith)

  find_inv : (s j : ℕ) (p : ℕ → GatherProgress) (v : ℕ) (x : Code) → st.seat s ≡ gathering true p → majority n ≤ count (λ i. is_free (st.transit s i) && gather_done (p i)) n →
      p j ≡ found v x → v ≡ most (found_at st s p) n → v ≢ 0 → Invariant n seats (go_on st s (storing false v x blank_store))
  find_inv s j p v x e quorum at big some' =
      let reach = reach_find s true p e quorum in
      let rank : st.latest s ≤ st.highest = subst (Rank st.highest (st.low s) (st.latest s)) e (inv.ranks s) in
      let h : GatherOk st.given (st.floor s j) (p j) = subst (ProgressOk st.given s (top (st.provider j).cells) (st.provider j).tags (st.floor s j) j) e (inv.lines s j).progress in
      let f : GatherOk st.given (st.floor s j) (found v x) = subst (GatherOk st.given (st.floor s j)) at h in
      go_on_inv s (storing false v x blank_store) (λ i. refl) (some', f.1) (omega arith, omega arith)

-- each step keeps the invariant
pub step_inv : (n seats : ℕ) → seats ≤ 65534 → (st su : ModelState) → Step n seats st su → Invariant n seats st → Invariant n seats su
step_inv n seats few_keys_held st su (posts s i l a) inv = post_inv n seats st inv s i a
step_inv n seats few_keys_held st su (lands s i b r l e) inv = land_inv n seats st inv s i b r l e
step_inv n seats few_keys_held st su (fetches s i) inv = fetch_inv n seats st inv s i
step_inv n seats few_keys_held st su (begins_write s x l e) inv = begin_inv n seats st inv s (listing x blank_list) (λ i. refl) tt (subst (Rank st.highest (st.low s) (st.latest s)) e (inv.ranks s))
step_inv n seats few_keys_held st su (begins_read s b l e) inv = begin_inv n seats st inv s (gathering b blank_gather) (λ i. refl) tt (subst (Rank st.highest (st.low s) (st.latest s)) e (inv.ranks s))
step_inv n seats few_keys_held st su (stops s) inv = stop_inv n seats st inv s
step_inv n seats few_keys_held st su (gives s x p l e q) inv = give_inv n seats st inv s x p (omega arith) e q
step_inv n seats few_keys_held st su (uses_up s x p e) inv = go_on_inv n seats st inv s idle (λ i. tt) tt (omega (arith, inv.lows s, subst (Rank st.highest (st.low s) (st.latest s)) e (inv.ranks s)))
step_inv n seats few_keys_held st su (finds s j p v x l e q a b z) inv = find_inv n seats st inv s j p v x e q a b z
step_inv n seats few_keys_held st su (reads s j p v x l e q a b z) inv = go_on_inv n seats st inv s idle (λ i. tt) tt (subst (Rank st.highest (st.low s) (st.latest s)) e (inv.ranks s))
step_inv n seats few_keys_held st su (reads_none s b p l e q z) inv = go_on_inv n seats st inv s idle (λ i. tt) tt (subst (Rank st.highest (st.low s) (st.latest s)) e (inv.ranks s))
step_inv n seats few_keys_held st su (ends s b v x p l e q) inv = finish_inv n seats st inv s b v x p e q
