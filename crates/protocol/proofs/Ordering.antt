-- The order of the operations. An operation is put in before the first one of larger version, a write when it gets its
-- version and a settled read when it finishes; versions do not fall along the order, they rise strictly towards a write, and
-- none that finished before another began stands after it.
use Rattle.std.proofs.Common.{◌≡◌, ℕ, suc, ◌<◌, ◌≤◌, max, Bool, true, false, ◌&&◌, eqb, ltb, ◌≢◌, ◌⊎◌, List, [], ◌∷◌, Some, None, Option, sym, refl, ap, ◌∙◌, subst, inl, inr, arith}
use Rattle.std.specs.List.{AllByRecursion}
use Rattle.std.proofs.ByRecursion.{All-weaker}
use Rattle.std.proofs.lemmas.Bool.{cond_both, eqb-true, ltb-true, ltb-false, cases_eq, cases_lt, and_parts, false≢true}
use Rattle.protocol.specs.History.{update, Operation}
use Rattle.protocol.specs.Phases.{most, next_version}
use Rattle.protocol.proofs.Model.{Code, top, GatherProgress, gathering, storing, found}
use Rattle.protocol.proofs.ModelSteps.{ModelState, Step, listed, posts, lands, fetches, begins_write, begins_read, stops, gives, uses_up, finds, reads, reads_none, ends}
use Rattle.protocol.proofs.Trace.{Trace, insert_ordered, end_write, end_writes, begun_trace, placed, read_plain, ended_trace, tick, trace_step}
use Rattle.protocol.specs.Law.{AnyByRecursion, EachTwo}
use Rattle.protocol.proofs.Lists.{all_and}
use Rattle.protocol.proofs.ModelLines.{update_same, update_other, GatherOk, ProgressOk, SeatOk}
use Rattle.protocol.proofs.Invariant.{Invariant, Rank, at1, at3, fresh_new, reach_find, reach_list}

pub any_weaker : {X : Type 0} (P Q : X → Type 0) → ((x : X) → P x → Q x) → (l : List X) → AnyByRecursion P l → AnyByRecursion Q l
any_weaker P Q f [] h = h
any_weaker P Q f (x ∷ l) (inl h) = inl (f x h)
any_weaker P Q f (x ∷ l) (inr h) = inr (any_weaker P Q f l h)

-- a may stand before b
pub record Before (a b : Operation) : Type 0 where
  pub below : a.version ≤ b.version
  pub strict : b.write ≡ true → a.version < b.version
  pub time : b.ended ≢ 0 → a.begun ≤ b.ended

pub ordered_all : (P : Operation → Type 0) (o : Operation) (l : List Operation) → P o → AllByRecursion P l → AllByRecursion P (insert_ordered o l)
ordered_all P o [] p h = (p, tt)
ordered_all P o (y ∷ l) p h = cond_both (ltb o.version y.version) _ _ (AllByRecursion P) (λ _. (p, h)) (λ _. (h.0, ordered_all P o l p h.1))

pub ordered_any : (P : Operation → Type 0) (o : Operation) (l : List Operation) → AnyByRecursion P l → AnyByRecursion P (insert_ordered o l)
ordered_any P o [] h = absurd h
ordered_any P o (y ∷ l) h = cond_both (ltb o.version y.version) _ _ (AnyByRecursion P) (λ _. inr h) (λ _. elim h [ inl e ↦ inl e | inr r ↦ inr (ordered_any P o l r) ])

pub ordered_new : (P : Operation → Type 0) (o : Operation) (l : List Operation) → P o → AnyByRecursion P (insert_ordered o l)
ordered_new P o [] h = inl h
ordered_new P o (y ∷ l) h = cond_both (ltb o.version y.version) _ _ (AnyByRecursion P) (λ _. inl h) (λ _. inr (ordered_new P o l h))

pub ordered_pairs : (o : Operation) (l : List Operation) → EachTwo (Before) l → AllByRecursion (λ y. y.version ≤ o.version → Before y o) l → AllByRecursion (λ y. o.version < y.version → Before o y) l → EachTwo (Before) (insert_ordered o l)
ordered_pairs o [] h a b = (tt, tt)
ordered_pairs o (y ∷ l) h a b =
    cond_both (ltb o.version y.version) _ _ (EachTwo (Before))
    (λ t. let k = ltb-true o.version y.version t in ((b.0 k, All-weaker _ _ (λ z q. q.0 (omega (arith, q.1.below))) l (all_and _ _ l b.1 h.0)), h))
    (λ f. let k = ltb-false o.version y.version f in (ordered_all (Before y) o l (a.0 k) h.0, ordered_pairs o l h.1 a.1 b.1))

pub end_all : (P Q : Operation → Type 0) (v c : ℕ) (l : List Operation) → ((o : Operation) → P o → Q (end_write v c o)) → AllByRecursion P l → AllByRecursion Q (end_writes v c l)
end_all P Q v c [] f h = tt
end_all P Q v c (o ∷ l) f h = (f o h.0, end_all P Q v c l f h.1)

pub end_any : (P Q : Operation → Type 0) (v c : ℕ) (l : List Operation) → ((o : Operation) → P o → Q (end_write v c o)) → AnyByRecursion P l → AnyByRecursion Q (end_writes v c l)
end_any P Q v c [] f h = h
end_any P Q v c (o ∷ l) f (inl h) = inl (f o h)
end_any P Q v c (o ∷ l) f (inr h) = inr (end_any P Q v c l f h)

pub end_pairs : (v c : ℕ) (l : List Operation) → AllByRecursion (λ o. o.begun ≤ c) l → EachTwo (Before) l → EachTwo (Before) (end_writes v c l)
end_pairs v c [] b h = tt
end_pairs v c (o ∷ l) b h = (end_all (Before o) (Before (end_write v c o)) v c l (λ y q. one o y b.0 q) h.0, end_pairs v c l b.1 h.1)
  where
    one : (o y : Operation) → o.begun ≤ c → Before o y → Before (end_write v c o) (end_write v c y)
    one o y b q = record { below = q.below; strict = q.strict; time = cond_both (y.write && eqb y.version v) _ _ (λ e. e ≢ 0 → o.begun ≤ e) (λ _ _. b) (λ _. q.time) }

-- what was given at v stands in the order, begun by t
abbrev pub Written : ℕ → Code → ℕ → Operation → Type 0
Written v x t o = (o.write ≡ true) × (o.version ≡ v) × (o.value ≡ Some x) × (o.begun ≤ t)

abbrev pub OperationOk : (ℕ → Option Code) → Operation → Type 0
OperationOk g o = ((o.version ≡ 0) × (o.value ≡ None) × (o.write ≡ false)) ⊎ ((x : Code) × (o.value ≡ Some x) × (g o.version ≡ Some x))

abbrev pub Late : ℕ → ℕ → Operation → Type 0
Late since low o = o.ended ≢ 0 → o.ended < since → o.version ≤ low

abbrev pub PlainOk : List Operation → Operation → Type 0
PlainOk l r = (((r.version ≡ 0) × (r.value ≡ None)) ⊎ ((x : Code) × (r.value ≡ Some x) × AnyByRecursion (Written r.version x r.ended) l)) × AllByRecursion (Late r.begun r.version) l

-- what holds of the order and the plain reads beside the state
pub record TraceInv (g : ℕ → Option Code) (highest : ℕ) (low : ℕ → ℕ) (L : Trace) : Type 0 where
  pub pairs : EachTwo (Before) L.order
  pub times : AllByRecursion (λ o. (o.begun ≤ L.clock) × (o.ended ≤ L.clock)) L.order
  pub sinces : (s : ℕ) → L.since s ≤ L.clock
  pub oks : AllByRecursion (OperationOk g) L.order
  pub there : (v : ℕ) (x : Code) → g v ≡ Some x → AnyByRecursion (Written v x L.clock) L.order
  pub highests : AllByRecursion (λ o. o.ended ≢ 0 → o.version ≤ highest) L.order
  pub lows : (s : ℕ) → AllByRecursion (Late (L.since s) (low s)) L.order
  pub begins : AllByRecursion (λ r. r.begun ≤ L.clock) L.plain
  pub plains : AllByRecursion (PlainOk L.order) L.plain

module _ (g : ℕ → Option Code) (highest : ℕ) (low : ℕ → ℕ) (L : Trace) (h : TraceInv g highest low L) where
  -- the seat's low is written again
  trace_keep : (s : ℕ) → TraceInv g highest (update low s (low s)) L
  trace_keep s = record { pairs = h.pairs; times = h.times; sinces = h.sinces; oks = h.oks; there = h.there; highests = h.highests; lows = at1 (λ o l. AllByRecursion (Late (L.since o) l) L.order) low s (low s) (h.lows s) (λ o _. h.lows o); begins = h.begins; plains = h.plains }

  trace_begin : (s : ℕ) → TraceInv g highest (update low s highest) (begun_trace s L)
  trace_begin s = record {
    pairs = h.pairs;
    times = h.times;
    sinces = at1 (λ o t. t ≤ L.clock) L.since s L.clock (omega arith) (λ o _. h.sinces o);
    oks = h.oks;
    there = h.there;
    highests = h.highests;
    lows = at3 (λ o t l _. AllByRecursion (Late t l) L.order) L.since low low s L.clock highest highest (All-weaker _ _ (λ o q n _. q n) L.order h.highests) (λ o _. h.lows o);
    begins = h.begins;
    plains = h.plains;
  }

  pub trace_tick : TraceInv g highest low (tick L)
  trace_tick = record {
    pairs = h.pairs;
    times = All-weaker _ _ (λ o q. (omega (arith, q.0), omega (arith, q.1))) L.order h.times;
    sinces = λ s. omega (arith, h.sinces s);
    oks = h.oks;
    there = λ v x e. any_weaker (Written v x L.clock) (Written v x (suc L.clock)) (λ o q. (q.0, q.1, q.2, omega (arith, q.3))) L.order (h.there v x e);
    highests = h.highests;
    lows = h.lows;
    begins = All-weaker _ _ (λ r q. omega arith) L.plain h.begins;
    plains = h.plains;
  }

  -- an operation takes its place: a write that is not ended, or a read that ends now
  trace_insert : (k : ℕ → Option Code) (o : Operation) → ((v : ℕ) (x : Code) → g v ≡ Some x → k v ≡ Some x) → OperationOk k o → (o.ended ≡ 0) ⊎ (o.ended ≡ L.clock) → o.begun ≤ L.clock →
      AllByRecursion (λ y. y.version ≤ o.version → Before y o) L.order → AllByRecursion (λ y. o.version < y.version → Before o y) L.order → (o.ended ≢ 0 → o.version ≤ highest) →
      ((v : ℕ) (x : Code) → k v ≡ Some x → (g v ≡ Some x) ⊎ Written v x L.clock o) → TraceInv k highest low (placed o L)
  trace_insert k o more ok time begun before after done new = record {
    pairs = ordered_pairs o L.order h.pairs before after;
    times = ordered_all _ o L.order (begun, ended) h.times;
    sinces = h.sinces;
    oks = ordered_all _ o L.order ok (All-weaker (OperationOk g) (OperationOk k) (λ y q. elim q [ inl z ↦ inl z | inr z ↦ inr (z.0, z.1, more y.version z.0 z.2) ]) L.order h.oks);
    there = λ v x e. elim (new v x e) [ inl q ↦ ordered_any _ o L.order (h.there v x q) | inr q ↦ ordered_new _ o L.order q ];
    highests = ordered_all _ o L.order done h.highests;
    lows = λ s. ordered_all _ o L.order (late (L.since s) (low s) (h.sinces s)) (h.lows s);
    begins = h.begins;
    plains = All-weaker _ _ (λ r q. (elim q.1.0 [ inl z ↦ inl z | inr z ↦ inr (z.0, z.1, ordered_any (Written r.version z.0 r.ended) o L.order z.2) ], ordered_all _ o L.order (late r.begun r.version q.0) q.1.1)) L.plain (all_and _ _ L.plain h.begins h.plains);
  }
    where
      ended : o.ended ≤ L.clock
      ended = omega arith

      late : (t w : ℕ) → t ≤ L.clock → o.ended ≢ 0 → o.ended < t → o.version ≤ w
      late t w l n e = absurd (omega arith)

  trace_end : (v : ℕ) → TraceInv g (max highest v) low (ended_trace v L)
  trace_end v = record {
    pairs = end_pairs v L.clock L.order (All-weaker _ _ (λ o q. q.0) L.order h.times) h.pairs;
    times = end_all _ _ v L.clock L.order (λ o q. (q.0, cond_both (o.write && eqb o.version v) _ _ (λ e. e ≤ L.clock) (λ _. omega arith) (λ _. q.1))) h.times;
    sinces = h.sinces;
    oks = end_all _ _ v L.clock L.order (λ o q. q) h.oks;
    there = λ u x e. end_any (Written u x L.clock) (Written u x L.clock) v L.clock L.order (λ o q. q) (h.there u x e);
    highests = end_all _ _ v L.clock L.order (λ o q. cond_both (o.write && eqb o.version v) _ _ (λ e. e ≢ 0 → o.version ≤ max highest v) (λ t _. omega (arith, eqb-true o.version v (and_parts o.write (eqb o.version v) t).1)) (λ _ n. omega (arith, q n))) h.highests;
    lows = λ s. end_all _ _ v L.clock L.order (λ o q. late o (L.since s) (low s) (h.sinces s) q) (h.lows s);
    begins = h.begins;
    plains = All-weaker _ _ (λ r q. (elim q.1.0 [ inl z ↦ inl z | inr z ↦ inr (z.0, z.1, end_any (Written r.version z.0 r.ended) (Written r.version z.0 r.ended) v L.clock L.order (λ o a. a) z.2) ], end_all _ _ v L.clock L.order (λ o a. late o r.begun r.version q.0 a) q.1.1)) L.plain (all_and _ _ L.plain h.begins h.plains);
  }
    where
      late : (o : Operation) (t w : ℕ) → t ≤ L.clock → Late t w o → Late t w (end_write v L.clock o)
      late o t w l q = cond_both (o.write && eqb o.version v) _ _ (λ e. e ≢ 0 → e < t → o.version ≤ w) (λ _ _ e. absurd (omega arith)) (λ _. q)

  trace_plain : (r : Operation) → r.begun ≤ L.clock → PlainOk L.order r → TraceInv g highest low (read_plain r L)
  trace_plain r b ok = record { pairs = h.pairs; times = h.times; sinces = h.sinces; oks = h.oks; there = h.there; highests = h.highests; lows = h.lows; begins = (b, h.begins); plains = (ok, h.plains) }

  trace_rise : (k : ℕ) → highest ≤ k → TraceInv g k low L
  trace_rise k l = record { pairs = h.pairs; times = h.times; sinces = h.sinces; oks = h.oks; there = h.there; highests = All-weaker _ _ (λ o q n. omega (arith, q n)) L.order h.highests; lows = h.lows; begins = h.begins; plains = h.plains }

  -- a read of version v, not below what finished before it, takes its place
  trace_read : (s v : ℕ) (x : Option Code) → low s ≤ v → v ≤ highest → OperationOk g (record { write = false; begun = L.since s; ended = L.clock; version = v; value = x }) →
      TraceInv g highest low (placed (record { write = false; begun = L.since s; ended = L.clock; version = v; value = x }) L)
  trace_read s v x l c ok =
      trace_insert g (record { write = false; begun = L.since s; ended = L.clock; version = v; value = x }) (λ v x e. e) ok (inr refl) (h.sinces s)
      (All-weaker _ _ (λ y q k. record { below = k; strict = λ f. absurd (false≢true f); time = λ _. q.0 }) L.order h.times)
      (All-weaker _ _ (λ y q k. record { below = omega arith; strict = λ _. k; time = λ n. elim (cases_lt y.ended (L.since s)) [ inl e ↦ absurd (omega (arith, q n e)) | inr e ↦ e ] }) L.order (h.lows s))
      (λ _. c) (λ v x e. inl e)

  -- a write gets the new version v
  trace_give : (s v : ℕ) (x : Code) → ((u : ℕ) (y : Code) → g u ≡ Some y → v ≢ u) → low s < v →
      TraceInv (update g v (Some x)) highest low (placed (record { write = true; begun = L.since s; ended = 0; version = v; value = Some x }) L)
  trace_give s v x fresh l =
      trace_insert (update g v (Some x)) (record { write = true; begun = L.since s; ended = 0; version = v; value = Some x }) (λ u y e. update_other g v u (Some x) (fresh u y e) ∙ e) (inr (x, refl, update_same g v (Some x))) (inl refl) (h.sinces s)
      (All-weaker _ _ (λ y q k. record { below = k; strict = λ _. elim q [ inl z ↦ omega (arith, z.0) | inr z ↦ omega (arith, fresh y.version z.0 z.2) ]; time = λ n. absurd (n refl) }) L.order h.oks)
      (All-weaker _ _ (λ y q k. record { below = omega arith; strict = λ _. k; time = λ n. elim (cases_lt y.ended (L.since s)) [ inl e ↦ absurd (omega (arith, q n e)) | inr e ↦ e ] }) L.order (h.lows s))
      (λ n. absurd (n refl))
      (λ u y e. elim (cases_eq v u) [ inl d ↦ inr (refl, d, sym (update_same g v (Some x)) ∙ (ap (update g v (Some x)) d ∙ e), h.sinces s) | inr d ↦ inl (sym (update_other g v u (Some x) d) ∙ e) ])

-- each step keeps it
module _ (n seats : ℕ) (few_keys_held : seats ≤ 65534) (st : ModelState) (inv : Invariant n seats st) (L : Trace) (h : TraceInv st.given st.highest st.low L) where
  found_given : (s j : ℕ) (b : Bool) (p : ℕ → GatherProgress) (v : ℕ) (x : Code) → st.seat s ≡ gathering b p → p j ≡ found v x → st.given v ≡ Some x
  found_given s j b p v x e a =
      let h : GatherOk st.given (st.floor s j) (p j) = subst (ProgressOk st.given s (top (st.provider j).cells) (st.provider j).tags (st.floor s j) j) e (inv.lines s j).progress in
      let f : GatherOk st.given (st.floor s j) (found v x) = subst (GatherOk st.given (st.floor s j)) a h in f.1

  pub trace_step_inv : (su : ModelState) (d : Step n seats st su) → TraceInv su.given su.highest su.low (trace_step n seats st su d L)
  trace_step_inv su (posts s i l a) = h
  trace_step_inv su (lands s i b r l e) = h
  trace_step_inv su (fetches s i) = h
  trace_step_inv su (begins_write s x l e) = trace_begin st.given st.highest st.low L h s
  trace_step_inv su (begins_read s b l e) = trace_begin st.given st.highest st.low L h s
  trace_step_inv su (stops s) = h
  trace_step_inv su (gives s x p l e q) =
      let k = most (listed st s p) n in
      let reach = reach_list n seats st inv s x p e q in
      let rank : st.latest s ≤ st.low s = subst (Rank st.highest (st.low s) (st.latest s)) e (inv.ranks s) in
      trace_keep _ _ _ _ (trace_give st.given st.highest st.low L h s (next_version k (suc s)) x (fresh_new n seats st inv s (next_version k (suc s)) (omega arith) (omega arith)) (omega arith)) s
  trace_step_inv su (uses_up s x p e) = trace_keep st.given st.highest st.low L h s
  trace_step_inv su (finds s j p v x l e q a b z) = trace_keep st.given st.highest st.low L h s
  trace_step_inv su (reads s j p v x l e q a b z) =
      let reach = reach_find n seats st inv s false p e q in
      trace_keep _ _ _ _ (trace_plain st.given st.highest st.low L h (record { write = false; begun = L.since s; ended = L.clock; version = v; value = Some x }) (h.sinces s)
      (inr (x, refl, h.there v x (found_given s j false p v x e a)), All-weaker _ _ (λ o q n t. omega (arith, q n t)) L.order (h.lows s))) s
  trace_step_inv su (reads_none s true p l e q z) =
      let reach = reach_find n seats st inv s true p e q in
      trace_keep _ _ _ _ (trace_read st.given st.highest st.low L h s 0 None (omega arith) (omega arith) (inl (refl, refl, refl))) s
  trace_step_inv su (reads_none s false p l e q z) =
      let reach = reach_find n seats st inv s false p e q in
      trace_keep _ _ _ _ (trace_plain st.given st.highest st.low L h (record { write = false; begun = L.since s; ended = L.clock; version = 0; value = None }) (h.sinces s)
      (inl (refl, refl), All-weaker _ _ (λ o q n t. omega (arith, q n t)) L.order (h.lows s))) s
  trace_step_inv su (ends s true v x p l e q) = trace_keep _ _ _ _ (trace_end st.given st.highest st.low L h v) s
  trace_step_inv su (ends s false v x p l e q) =
      let rank : Rank st.highest (st.low s) (st.latest s) (storing false v x p) = subst (Rank st.highest (st.low s) (st.latest s)) e (inv.ranks s) in
      let ok : SeatOk st.given s (storing false v x p) = subst (SeatOk st.given s) e (inv.activities s) in
      let H = trace_rise st.given st.highest st.low L h (max st.highest v) (omega arith) in
      trace_keep _ _ _ _ (trace_read st.given (max st.highest v) st.low L H s v (Some x) rank.1 (omega arith) (inr (x, refl, ok.1))) s
