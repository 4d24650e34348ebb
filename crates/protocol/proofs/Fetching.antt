-- Fetch keeps a view and its history matched to a run.
use Rattle.std.proofs.Common.{◌≡◌, ℕ, suc, ◌/◌, ◌<◌, ◌≤◌, Bool, true, false, cond, ◌&&◌, eqb, leb, ◌≢◌, List, [], ◌∷◌, ◌++◌, Some, None, Option, sym, refl, ap, ◌∙◌, subst, subst₂, inl, inr, arith}
use Rattle.std.proofs.lemmas.Bool.{cond_both, cond-true, cases_eq, eq-eqb, leb-true, leb-false}
use Rattle.stores.specs.Provider.{Pair}
use Rattle.protocol.specs.Answers.{on}
use Rattle.protocol.specs.History.{History, Operation, Doing, resting, writing, reading, update, fetch_noted, wrote_by, read_by}
use Rattle.protocol.specs.Lines.{restarted, restart_line}
use Rattle.protocol.specs.Phases.{count, majority, done_lines, listed_on, largest_listed, found_on, version_in, newest_found, next_version, most, PhaseResult, goes_on, end_gathering, phase_result}
use Rattle.protocol.specs.Seats.{Activity, idle, listing, gathering, storing}
use Rattle.protocol.proofs.Arrangements.{Insert, Arranged, more, to_front, from_front, insert_under, ordered_inserted, ended_arranged}
use Rattle.protocol.proofs.Decoding.{list_progress, store_progress, gather_progress, list_is_done, store_is_done, gather_is_done}
use Rattle.protocol.proofs.Invariant.{at1, at3}
use Rattle.protocol.proofs.Model as M
use Rattle.protocol.proofs.Model.{Code, ModelSeat, list_done, store_done, gather_done}
use Rattle.protocol.proofs.ModelLines.{update_same, update_other}
use Rattle.protocol.proofs.ModelSteps as S
use Rattle.protocol.proofs.ModelSteps.{ModelState, Step, or_zero, version_of}
use Rattle.protocol.proofs.OpenWrites.{own, own_short, own_long, opens, opens_same, opens_insert, write_since}
use Rattle.protocol.proofs.Quorums.{listed_free, found_free, newest_most, now, seat_eq, quorum, most_eq, Picked, picked}
use Rattle.protocol.proofs.Register.{goes, register}
use Rattle.protocol.proofs.Simulation.{seen, DoingOk, Come, But, told, story, Reached, enter_match, turn_roomy, turn_free_if_done}
use Rattle.protocol.proofs.Trace.{Trace, trace_step, end_writes}
use Rattle.protocol.proofs.View.{View, turn, version_kept, conclude}

module _ (n seats : ℕ) (V : View) (s : ℕ) (l : s < seats) (w : Come n seats V (But s)) where
  abbrev q : ℕ
  q = majority n

  abbrev st : ModelState
  st = w.st

  abbrev L : Trace
  L = w.trace

  abbrev H : History
  H = story w

  abbrev own_now : List Operation
  own_now = own q (L.since s) (w.ons s) (V.version s) (w.doing s)

  -- g is f but at the seat
  abbrev Else : {X : Type 0} → (ℕ → X) → (ℕ → X) → Type 0
  Else f g = (i : ℕ) → s ≢ i → f i ≡ g i

  else_update : {X : Type 0} (f : ℕ → X) (x : X) → Else f (update f s x)
  else_update f x i d = sym (update_other f s i x d)

  module _ (o v : ℕ → ℕ) (d : ℕ → Doing) (eo : Else w.ons o) (ev : Else V.version v) (ed : Else w.doing d) where
    abbrev old : List Operation
    old = opens q L.since w.ons V.version w.doing seats

    abbrev new : List Operation
    new = opens q L.since o v d seats

    abbrev own_new : List Operation
    own_new = own q (L.since s) (o s) (v s) (d s)

    others : (i : ℕ) → s ≢ i → own q (L.since i) (w.ons i) (V.version i) (w.doing i) ≡ own q (L.since i) (o i) (v i) (d i)
    others i ne = rw (eo i ne, ev i ne, ed i ne) refl

    opens_kept : own_now ≡ own_new → old ≡ new
    opens_kept h = opens_same q L.since L.since w.ons o V.version v w.doing d seats (λ i _. elim (cases_eq s i) [ inl e ↦ subst (λ i. own q (L.since i) (w.ons i) (V.version i) (w.doing i) ≡ own q (L.since i) (o i) (v i) (d i)) e h | inr e ↦ others i e ])

    opens_gained : (x : Operation) → own_now ≡ [] → own_new ≡ x ∷ [] → Insert x old new
    opens_gained x a b = opens_insert q L.since L.since w.ons o V.version v w.doing d x seats s l a b others

    opens_lost : (x : Operation) → own_now ≡ x ∷ [] → own_new ≡ [] → Insert x new old
    opens_lost x a b = opens_insert q L.since L.since o w.ons v V.version d w.doing x seats s l b a (λ i ne. sym (others i ne))

  abbrev Settled : PhaseResult → Type 0
  Settled y = let z = conclude s y V in Reached n seats z.0 (fetch_noted s z.1 H)

  -- the phase goes on
  wait : (a : Activity) → V.activity s ≡ a → DoingOk n (V.line s) a (V.version s) (w.doing s) (suc (w.ons s)) → own_now ≡ own q (L.since s) (suc (w.ons s)) (V.version s) (w.doing s) → Settled goes_on
  wait a e h same = record {
    is = refl;
    come = record {
      st = st;
      trace = L;
      run = w.run;
      match = w.match;
      doing = w.doing;
      ons = update w.ons s (suc (w.ons s));
      finished = w.finished;
      arranged = subst (λ m. Arranged (w.finished ++ m) L.order) (opens_kept (update w.ons s (suc (w.ons s))) V.version w.doing (else_update w.ons (suc (w.ons s))) (λ i _. refl) (λ i _. refl) (same ∙ ap (λ o. own q (L.since s) o (V.version s) (w.doing s)) (sym (update_same w.ons s (suc (w.ons s)))))) w.arranged;
      doings = λ o _. at1 (λ o t. DoingOk n (V.line o) (V.activity o) (V.version o) (w.doing o) t) w.ons s (suc (w.ons s)) (subst (λ a. DoingOk n (V.line s) a (V.version s) (w.doing s) (suc (w.ons s))) (sym e) h) w.doings o;
      roomy = w.roomy;
      free_if_done = w.free_if_done;
      large = w.large;
    };
  }

  -- a phase starts or the operation ends
  go_to : (a : Activity) (z : ModelSeat) → z ≡ seen a (λ i. restarted (V.line s i).progress) → (g : ℕ → Option Code) (low : ℕ) (floor : ℕ → ℕ) (highest latest : ℕ) →
      (b : Step n seats st (S.enter st s z g low floor highest latest)) → (doing : ℕ → Doing) (ons : ℕ → ℕ) (finished : List Operation) → Else w.doing doing → Else w.ons ons →
      Arranged (finished ++ opens q (trace_step n seats st _ b L).since ons (update V.version s (version_kept a (V.version s))) doing seats) (trace_step n seats st _ b L).order →
      DoingOk n (λ i. restart_line (V.line s i)) a (version_kept a (V.version s)) (doing s) (ons s) → Reached n seats (turn V s a) (told (trace_step n seats st _ b L) doing ons finished)
  go_to a z e g low floor highest latest b doing ons finished ed eo arr h = record {
    is = refl;
    come = record {
      st = S.enter st s z g low floor highest latest;
      trace = trace_step n seats st _ b L;
      run = goes w.run b;
      match = enter_match V st w.match s a z e g low floor highest latest;
      doing = doing;
      ons = ons;
      finished = finished;
      arranged = arr;
      doings = λ o _. at3 (λ o a ls v. DoingOk n ls a v (doing o) (ons o)) V.activity V.line V.version s a (λ i. restart_line (V.line s i)) (version_kept a (V.version s)) h
          (λ o ne. subst₂ (DoingOk n (V.line o) (V.activity o) (V.version o)) (ed o ne) (eo o ne) (w.doings o ne)) o;
      roomy = turn_roomy V s w.roomy;
      free_if_done = turn_free_if_done V s w.free_if_done;
      large = w.large;
    };
  }

  own_read : (b : Bool) → w.doing s ≡ reading b → (t o v : ℕ) → own q t o v (w.doing s) ≡ []
  own_read b e t o v = ap (own q t o v) e

  -- the seat rests, and no write of it was open
  rest_kept : own_now ≡ [] → opens q L.since w.ons V.version w.doing seats ≡ opens q L.since w.ons (update V.version s (V.version s)) (update w.doing s resting) seats
  rest_kept h = opens_kept w.ons (update V.version s (V.version s)) (update w.doing s resting) (λ i _. refl) (else_update V.version (V.version s)) (else_update w.doing resting)
      (h ∙ sym (ap (own q (L.since s) (w.ons s) (update V.version s (V.version s) s)) (update_same w.doing s resting)))

  rest_arranged : own_now ≡ [] → Arranged (w.finished ++ opens q L.since w.ons (update V.version s (V.version s)) (update w.doing s resting) seats) L.order
  rest_arranged h = subst (λ m. Arranged (w.finished ++ m) L.order) (rest_kept h) w.arranged

  pub settle_list : (x : Code) → V.activity s ≡ listing x → w.doing s ≡ writing x → done_lines (V.line s) n ≡ suc (w.ons s) → w.ons s < q → Settled (phase_result n (suc s) (V.line s) (listing x))
  settle_list x e dx cnt lt = cond_both (leb q (done_lines (V.line s) n)) _ _ Settled
      (λ t. let qu = quorum n V s st w.match (listing x) e (w.free_if_done s) (λ p. list_done (list_progress p)) list_is_done (leb-true _ _ t) in
      cond_both (leb 999999 (largest_listed (V.line s) n / 65536)) _ _ Settled
      (λ _. go_to idle M.idle refl _ _ _ _ _ (S.uses_up s x p (seat_eq n V s st w.match (listing x) e)) (update w.doing s resting) w.ons w.finished (else_update w.doing resting) (λ i _. refl) (rest_arranged none) (update_same w.doing s resting))
      (λ _. subst (λ u. Reached n seats (turn V s (storing true u x)) (fetch_noted s on H)) (ap (λ k. next_version k (suc s)) same) (given qu (omega (arith, leb-true _ _ t, cnt)))))
      (λ f. wait (listing x) e (dx, sym cnt, omega (arith, leb-false _ _ f, cnt)) (none ∙ sym (ap (own q (L.since s) (suc (w.ons s)) (V.version s)) dx ∙ own_short q (L.since s) (suc (w.ons s)) (V.version s) x (omega (arith, leb-false _ _ f, cnt)))))
    where
      p : ℕ → Option ℕ
      p i = list_progress (now n V s st w.match (listing x) e i)

      same : most (S.listed st s p) n ≡ largest_listed (V.line s) n
      same = most_eq n V s st w.match (listing x) e (w.free_if_done s) (λ p. or_zero (list_progress p)) listed_on listed_free (λ l h. ap (λ b. cond b l.progress.largest 0) h)

      none : own_now ≡ []
      none = ap (own q (L.since s) (w.ons s) (V.version s)) dx ∙ own_short q (L.since s) (w.ons s) (V.version s) x lt

      given : q ≤ count (λ i. S.is_free (st.transit s i) && list_done (p i)) n → suc (w.ons s) ≡ q → Reached n seats (turn V s (storing true (next_version (most (S.listed st s p) n) (suc s)) x)) (fetch_noted s on H)
      given qu eq =
          let u = next_version (most (S.listed st s p) n) (suc s) in
          let o : ℕ → ℕ = update w.ons s (suc (w.ons s)) in
          let v : ℕ → ℕ = update V.version s u in
          let op : Operation = write_since (L.since s) u x in
          let there : own q (L.since s) (o s) (v s) (w.doing s) ≡ op ∷ [] = rw (update_same w.ons s (suc (w.ons s)), update_same V.version s u, dx) (own_long q (L.since s) (suc (w.ons s)) u x (omega arith)) in
          let ins = opens_gained o v w.doing (else_update w.ons (suc (w.ons s))) (else_update V.version u) (λ i _. refl) op none there in
          go_to (storing true u x) (M.storing true u x S.blank_store) refl _ _ _ _ _ (S.gives s x p l (seat_eq n V s st w.match (listing x) e) qu) w.doing o w.finished (λ i _. refl) (else_update w.ons (suc (w.ons s)))
          (from_front (insert_under w.finished ins) (more w.arranged (ordered_inserted op L.order))) (dx, omega (arith, update_same w.ons s (suc (w.ons s))), refl)

  abbrev read_op : ℕ → Option Code → Operation
  read_op v x = record { write = false; begun = L.since s; ended = L.clock; version = v; value = x }

  pub settle_gather : (b : Bool) → V.activity s ≡ gathering b → w.doing s ≡ reading b → Settled (phase_result n (suc s) (V.line s) (gathering b))
  settle_gather b e dx = cond_both (leb q (done_lines (V.line s) n)) _ _ Settled
      (λ t. ended_by b e dx (quorum n V s st w.match (gathering b) e (w.free_if_done s) (λ p. gather_done (gather_progress p)) gather_is_done (leb-true _ _ t)) (newest_found (V.line s) n) (picked n V s st w.match (gathering b) e (w.free_if_done s) n)
      (most_eq n V s st w.match (gathering b) e (w.free_if_done s) (λ p. version_of (gather_progress p)) (λ l. version_in (found_on l)) found_free (λ l h. ap (λ c. version_in (cond c l.progress.found None)) h) ∙ sym (newest_most (V.line s) n)))
      (λ f. wait (gathering b) e dx (own_read b dx _ _ _ ∙ sym (own_read b dx _ _ _)))
    where
      ended_by : (b : Bool) (e : V.activity s ≡ gathering b) → w.doing s ≡ reading b → q ≤ count (λ i. S.is_free (st.transit s i) && gather_done (gather_progress (now n V s st w.match (gathering b) e i))) n → (o : Option Pair) → Picked n V s st w.match (gathering b) e o →
          most (λ i. cond (S.is_free (st.transit s i)) (version_of (gather_progress (now n V s st w.match (gathering b) e i))) 0) n ≡ version_in o → Settled (end_gathering b o)
      ended_by true e dx qu None z same = subst (λ d. Reached n seats (turn V s idle) (read_by s 0 None d H)) (sym dx)
          (go_to idle M.idle refl _ _ _ _ _ (S.reads_none s true (λ i. gather_progress (now n V s st w.match (gathering true) e i)) l (seat_eq n V s st w.match (gathering true) e) qu (sym same)) (update w.doing s resting) w.ons (read_op 0 None ∷ w.finished) (else_update w.doing resting) (λ i _. refl)
          (more (rest_arranged (own_read true dx _ _ _)) (ordered_inserted (read_op 0 None) L.order)) (update_same w.doing s resting))
      ended_by false e dx qu None z same = subst (λ d. Reached n seats (turn V s idle) (read_by s 0 None d H)) (sym dx)
          (go_to idle M.idle refl _ _ _ _ _ (S.reads_none s false (λ i. gather_progress (now n V s st w.match (gathering false) e i)) l (seat_eq n V s st w.match (gathering false) e) qu (sym same)) (update w.doing s resting) w.ons w.finished (else_update w.doing resting) (λ i _. refl)
          (rest_arranged (own_read false dx _ _ _)) (update_same w.doing s resting))
      ended_by true e dx qu (Some y) z same =
          let o : ℕ → ℕ = update w.ons s (suc (w.ons s)) in
          let v : ℕ → ℕ = update V.version s y.version in
          go_to (storing false y.version y.value) (M.storing false y.version y.value S.blank_store) refl _ _ _ _ _
          (S.finds s z.1.0 (λ i. gather_progress (now n V s st w.match (gathering true) e i)) y.version y.value l (seat_eq n V s st w.match (gathering true) e) qu z.1.1 (sym same) (λ f. omega (arith, z.0, f)))
          w.doing o w.finished (λ i _. refl) (else_update w.ons (suc (w.ons s)))
          (subst (λ m. Arranged (w.finished ++ m) L.order) (opens_kept o v w.doing (else_update w.ons (suc (w.ons s))) (else_update V.version y.version) (λ i _. refl) (own_read true dx _ _ _ ∙ sym (own_read true dx _ _ _))) w.arranged) dx
      ended_by false e dx qu (Some y) z same = subst (λ d. Reached n seats (turn V s idle) (read_by s y.version (Some y.value) d H)) (sym dx)
          (go_to idle M.idle refl _ _ _ _ _
          (S.reads s z.1.0 (λ i. gather_progress (now n V s st w.match (gathering false) e i)) y.version y.value l (seat_eq n V s st w.match (gathering false) e) qu z.1.1 (sym same) (λ f. omega (arith, z.0, f)))
          (update w.doing s resting) w.ons w.finished (else_update w.doing resting) (λ i _. refl) (rest_arranged (own_read false dx _ _ _)) (update_same w.doing s resting))

  module _ (n0 : 0 < n) (small : seats ≤ 65534) where
    pub settle_store : (b : Bool) (v : ℕ) (x : Code) → V.activity s ≡ storing b v x → DoingOk n (V.line s) (storing b v x) (V.version s) (w.doing s) (w.ons s) → Settled (phase_result n (suc s) (V.line s) (storing b v x))
    settle_store false v x e dx = cond_both (leb q (done_lines (V.line s) n)) _ _ Settled
        (λ t. subst (λ d. Reached n seats (turn V s idle) (read_by s v (Some x) d H)) (sym dx)
        (go_to idle M.idle refl _ _ _ _ _ (S.ends s false v x (λ i. store_progress (now n V s st w.match (storing false v x) e i)) l (seat_eq n V s st w.match (storing false v x) e) (quorum n V s st w.match (storing false v x) e (w.free_if_done s) (λ p. store_done (store_progress p)) store_is_done (leb-true _ _ t)))
        (update w.doing s resting) w.ons (read_op v (Some x) ∷ w.finished) (else_update w.doing resting) (λ i _. refl)
        (more (rest_arranged (own_read true dx _ _ _)) (ordered_inserted (read_op v (Some x)) L.order)) (update_same w.doing s resting)))
        (λ f. wait (storing false v x) e dx (own_read true dx _ _ _ ∙ sym (own_read true dx _ _ _)))
    settle_store true v x e dx = cond_both (leb q (done_lines (V.line s) n)) _ _ Settled
        (λ t. subst (λ d. Reached n seats (turn V s idle) (wrote_by s v d H)) (sym dx.0)
        (go_to idle M.idle refl _ _ _ _ _ (S.ends s true v x (λ i. store_progress (now n V s st w.match (storing true v x) e i)) l (seat_eq n V s st w.match (storing true v x) e) (quorum n V s st w.match (storing true v x) e (w.free_if_done s) (λ p. store_done (store_progress p)) store_is_done (leb-true _ _ t)))
        (update w.doing s resting) w.ons (record { write = true; begun = L.since s; ended = L.clock; version = v; value = Some x } ∷ w.finished) (else_update w.doing resting) (λ i _. refl) wrote (update_same w.doing s resting)))
        (λ f. wait (storing true v x) e (dx.0, omega (arith, dx.1), dx.2) (opened (w.ons s) dx.1 ∙ sym (opened (suc (w.ons s)) (omega (arith, dx.1)))))
      where
        op : Operation
        op = write_since (L.since s) v x

        opened : (o : ℕ) → q ≤ o → own q (L.since s) o (V.version s) (w.doing s) ≡ op ∷ []
        opened o h = rw (dx.0, dx.2) (own_long q (L.since s) o v x h)

        arranged : Arranged (op ∷ (w.finished ++ opens q L.since w.ons (update V.version s (V.version s)) (update w.doing s resting) seats)) L.order
        arranged = to_front (insert_under w.finished (opens_lost w.ons (update V.version s (V.version s)) (update w.doing s resting) (λ i _. refl) (else_update V.version (V.version s)) (else_update w.doing resting) op (opened (w.ons s) dx.1)
            (ap (own q (L.since s) (w.ons s) (update V.version s (V.version s) s)) (update_same w.doing s resting)))) w.arranged

        wrote : Arranged (record { write = true; begun = L.since s; ended = L.clock; version = v; value = Some x } ∷ (w.finished ++ opens q L.since w.ons (update V.version s (V.version s)) (update w.doing s resting) seats)) (end_writes v L.clock L.order)
        wrote = subst (λ c. Arranged (record { write = true; begun = L.since s; ended = c; version = v; value = Some x } ∷ (w.finished ++ opens q L.since w.ons (update V.version s (V.version s)) (update w.doing s resting) seats)) (end_writes v L.clock L.order))
            (cond-true (eqb v v) L.clock 0 (eq-eqb v v refl)) (ended_arranged op L.clock refl arranged (register n seats n0 small st L w.run).rising)
