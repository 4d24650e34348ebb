-- Every run of the model is a correct register.
use Rattle.std.proofs.Common.{◌≡◌, ℕ, zero, suc, ◌+◌, ◌<◌, ◌≤◌, Bool, true, false, cond, ◌⊎◌, List, [], ◌∷◌, length, None, Option, sym, refl, ap, ◌∙◌, inl, inr, arith}
use Rattle.std.specs.List.{AllByRecursion}
use Rattle.std.proofs.ByRecursion.{All-weaker}
use Rattle.std.proofs.lemmas.Bool.{both_ways}
use Rattle.std.proofs.lemmas.Option.{none-some}
use Rattle.protocol.specs.History.{Operation}
use Rattle.protocol.specs.Law.{EachTwo, AnyByRecursion, VersionsRise, InTime, ShowLatest, NotOld, NoneBefore}
use Rattle.protocol.specs.Phases.{count}
use Rattle.protocol.proofs.Lists.{all_and}
use Rattle.protocol.proofs.Model.{Code, idle, free}
use Rattle.protocol.proofs.ModelSteps.{ModelState, Step}
use Rattle.protocol.proofs.Trace.{Trace, trace_step, tick}
use Rattle.protocol.proofs.Providers.{few_keys_held}
use Rattle.protocol.proofs.Invariant.{Invariant, step_inv}
use Rattle.protocol.proofs.Ordering.{any_weaker, Before, OperationOk, TraceInv, trace_tick, trace_step_inv}

abbrev pub first_state : ModelState
first_state = record { seat = λ s. idle; transit = λ s i. free; provider = λ i. record { cells = []; tags = [] }; given = λ v. None; low = λ s. 0; floor = λ s i. 0; highest = 0; latest = λ s. 0 }

abbrev pub first_trace : Trace
first_trace = record { clock = 1; since = λ s. 0; order = []; plain = [] }

-- a run: steps, and the next call's place now and then
pub data Run (n seats : ℕ) : ModelState → Trace → Type 0 where
  opened : Run n seats first_state first_trace
  ticks : {st : ModelState} {L : Trace} → Run n seats st L → Run n seats st (tick L)
  goes : {st su : ModelState} {L : Trace} → Run n seats st L → (d : Step n seats st su) → Run n seats su (trace_step n seats st su d L)

-- a plain read shows nothing, or a write that began when it finished or before
abbrev pub ShowsBy : List Operation → Operation → Type 0
ShowsBy order r = ((r.version ≡ 0) × (r.value ≡ None)) ⊎ AnyByRecursion (λ w. (w.write ≡ true) × (w.version ≡ r.version) × (w.value ≡ r.value) × (w.begun ≤ r.ended)) order

pub record Register (seats : ℕ) (st : ModelState) (L : Trace) : Type 0 where
  pub rising : EachTwo VersionsRise L.order
  pub above : AllByRecursion (λ w. w.write ≡ true → 0 < w.version) L.order
  pub in_time : EachTwo InTime L.order
  pub shows : ShowLatest 0 None L.order
  pub plain_some : AllByRecursion (ShowsBy L.order) L.plain
  pub plain_new : AllByRecursion (NotOld L.order) L.plain
  pub plain_none : AllByRecursion (NoneBefore L.order) L.plain
  pub few_keys : (i : ℕ) → length (st.provider i).cells ≤ seats + 2

-- a write of o's version and value is in l
abbrev Source : List Operation → Operation → Type 0
Source l o = AnyByRecursion (λ w. (w.write ≡ true) × (w.version ≡ o.version) × (w.value ≡ o.value)) l

abbrev Legal : ℕ → Option Code → List Operation → Operation → Type 0
Legal v x l o = ((o.version ≡ v) × (o.value ≡ x)) ⊎ Source l o

none_later : (o : Operation) (l : List Operation) → AllByRecursion (Before o) l → Source l o → ⊥
none_later o [] p h = h
none_later o (w ∷ l) p (inl z) = omega (arith, p.0.strict z.0, z.1)
none_later o (w ∷ l) p (inr z) = none_later o l p.1 z

shows : (v : ℕ) (x : Option Code) (l : List Operation) → EachTwo Before l → AllByRecursion (λ o. o.write ≡ true → v < o.version) l → AllByRecursion (Legal v x l) l → ShowLatest v x l
shows v x [] p above h = tt
shows v x (o ∷ l) p above h = go (shows o.version o.value l p.1) (shows v x l p.1) o.write refl
  where
    after : o.write ≡ true → AllByRecursion (Legal o.version o.value l) l
    after t = All-weaker _ _ (λ y q. elim q.1 [ inl z ↦ absurd (omega (arith, above.0 t, q.0.below, z.0)) | inr (inl z) ↦ inl (sym z.1, sym z.2) | inr (inr z) ↦ inr z ]) l (all_and _ _ l p.0 h.1)

    later : o.write ≡ false → AllByRecursion (Legal v x l) l
    later f = All-weaker _ _ (λ y q. elim q [ inl z ↦ inl z | inr (inl z) ↦ absurd (both_ways o.write f z.0) | inr (inr z) ↦ inr z ]) l h.1

    here : o.write ≡ false → (o.version ≡ v) × (o.value ≡ x)
    here f = elim h.0 [ inl z ↦ z | inr (inl z) ↦ absurd (both_ways o.write f z.0) | inr (inr z) ↦ absurd (none_later o l p.0 z) ]

    go : (AllByRecursion (λ y. y.write ≡ true → o.version < y.version) l → AllByRecursion (Legal o.version o.value l) l → ShowLatest o.version o.value l) → (AllByRecursion (λ y. y.write ≡ true → v < y.version) l → AllByRecursion (Legal v x l) l → ShowLatest v x l) →
        (b : Bool) → o.write ≡ b → cond b (ShowLatest o.version o.value l) ((o.version ≡ v) × (o.value ≡ x) × ShowLatest v x l)
    go rest same true t = rest (All-weaker _ _ (λ y q. q.strict) l p.0) (after t)
    go rest same false f = ((here f).0, (here f).1, same above.1 (later f))

pairs_each : (R S : Operation → Operation → Type 0) → ((a b : Operation) → R a b → S a b) → (l : List Operation) → EachTwo R l → EachTwo S l
pairs_each R S f [] h = tt
pairs_each R S f (o ∷ l) h = (All-weaker _ _ (f o) l h.0, pairs_each R S f l h.1)

all_true : (n : ℕ) → count (λ i. true) n ≡ n
all_true zero = refl
all_true (suc n) = ap suc (all_true n)

first_inv : (n seats : ℕ) → 0 < n → Invariant n seats first_state
first_inv n seats n0 = record {
  providers = λ i. record { rising = tt; paired = tt; keyed = tt; held = tt; apart = tt; spread = tt; known = tt };
  lines = λ s i. record { above = omega arith; progress = tt; transit = tt };
  activities = λ s. tt;
  ranks = λ s. omega arith;
  lows = λ s. omega arith;
  begun = λ s. omega (arith, all_true n);
  risen = omega (arith, all_true n);
  fresh = λ v x e. absurd (none-some _ e);
}

first_trace_inv : TraceInv (λ v. None) 0 (λ s. 0) first_trace
first_trace_inv = record { pairs = tt; times = tt; sinces = λ s. omega arith; oks = tt; there = λ v x e. absurd (none-some _ e); highests = tt; lows = λ s. tt; begins = tt; plains = tt }

pub both : (n seats : ℕ) → 0 < n → seats ≤ 65534 → {st : ModelState} {L : Trace} → Run n seats st L → Invariant n seats st × TraceInv st.given st.highest st.low L
both n seats n0 small opened = (first_inv n seats n0, first_trace_inv)
both n seats n0 small (ticks {st = st} {L = L} r) = let h = both n seats n0 small r in (h.0, trace_tick st.given st.highest st.low L h.1)
both n seats n0 small (goes {st = st} {su = su} {L = L} r d) = let h = both n seats n0 small r in (step_inv n seats small st su d h.0, trace_step_inv n seats small st h.0 L h.1 su d)

-- what the invariants say of the operations
pub register : (n seats : ℕ) → 0 < n → seats ≤ 65534 → (st : ModelState) (L : Trace) → Run n seats st L → Register seats st L
register n seats n0 small st L r =
    let h = both n seats n0 small r in
    let i = h.0 in
    let j = h.1 in
    let positive : AllByRecursion (λ w. w.write ≡ true → 0 < w.version) L.order = All-weaker _ _ (λ o q t. elim q [ inl z ↦ absurd (both_ways o.write z.2 t) | inr z ↦ omega (arith, (i.fresh o.version z.0 z.2).0) ]) L.order j.oks in
    record {
      rising = pairs_each Before VersionsRise (λ a b q _ t. q.strict t) L.order j.pairs;
      above = positive;
      in_time = pairs_each Before InTime (λ a b q e. omega (arith, q.time e.0, e.1)) L.order j.pairs;
      shows = shows 0 None L.order j.pairs positive (All-weaker (OperationOk st.given) (Legal 0 None L.order) (λ o q. elim q [ inl z ↦ inl (z.0, z.1) | inr z ↦ inr (any_weaker _ _ (λ w a. (a.0, a.1, a.2 ∙ sym z.1)) L.order (j.there o.version z.0 z.2)) ]) L.order j.oks);
      plain_some = All-weaker _ _ (λ r q. elim q.0 [ inl z ↦ inl z | inr z ↦ inr (any_weaker _ _ (λ w a. (a.0, a.1, a.2 ∙ sym z.1, a.3)) L.order z.2) ]) L.plain j.plains;
      plain_new = All-weaker _ _ (λ r q. All-weaker _ _ (λ o a _ e. a e.0 e.1) L.order q.1) L.plain j.plains;
      plain_none = All-weaker _ _ (λ r q z. All-weaker _ _ (λ o a t e. omega (arith, a.0 t, a.1 e.0 e.1, z)) L.order (all_and _ _ L.order positive q.1)) L.plain j.plains;
      few_keys = λ k. few_keys_held (i.providers k);
    }
