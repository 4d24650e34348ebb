-- Begin, post, land, stop and lose keep a view and its history matched to a run.
use Rattle.std.proofs.Common.{◌≡◌, ℕ, ◌+◌, ◌<◌, ◌≤◌, Bool, true, false, not, ◌||◌, [], ◌++◌, length, sym, refl, ap, ◌∙◌, subst, ap₂, inl, inr, arith}
use Rattle.std.proofs.lemmas.Bool.{cond_both, cases_eq, or_parts, true≢false}
use Rattle.stores.specs.Provider.{Provider}
use Rattle.protocol.specs.Answers.{Answer, ok}
use Rattle.protocol.specs.History.{Doing, resting, writing, reading, update, begin_noted}
use Rattle.protocol.specs.Lines.{LineState, free, sent, answered, is_free, Progress, Line, restarted, restart_line}
use Rattle.protocol.specs.Moves.{advance}
use Rattle.protocol.specs.Phases.{majority, counts}
use Rattle.protocol.specs.Requests.{reply, served}
use Rattle.protocol.specs.Seats.{Activity, idle, stopped, listing, gathering, storing, is_idle, is_stopped}
use Rattle.protocol.specs.Stages.{foreign, request_of}
use Rattle.protocol.specs.Steps.{post_line}
use Rattle.protocol.proofs.Arrangements.{Arranged}
use Rattle.protocol.proofs.Decoding.{Roomy, serves, same_capacity, reply_roomy}
use Rattle.protocol.proofs.Invariant.{Invariant, here_progress, at1, at3, at_line}
use Rattle.protocol.proofs.Model as M
use Rattle.protocol.proofs.Model.{Code, ModelSeat, carry, top}
use Rattle.protocol.proofs.ModelLines.{Asked, SeatOk, TransitOk, update_same, update_other}
use Rattle.protocol.proofs.ModelSteps as S
use Rattle.protocol.proofs.ModelSteps.{ModelState, Step, update_two}
use Rattle.protocol.proofs.OpenWrites.{own, opens, opens_same, own_short}
use Rattle.protocol.proofs.Providers.{few_keys_held, provider_kept}
use Rattle.protocol.proofs.Register.{Run, goes, both}
use Rattle.protocol.proofs.Simulation.{transit_of, pend, pending, seen, Match, DoingOk, Come, Always, story, Reached, still, seen_cong, same_progress, ask_seen, Working, active, enter_match, turn_roomy, line_roomy, turn_free_if_done, line_free_if_done, none_counted, doing_same, seat_moves}
use Rattle.protocol.proofs.Trace.{trace_step, begun_trace}
use Rattle.protocol.proofs.Updates.{at5, update_map, update_two_map, update_two_row, update_two_else}
use Rattle.protocol.proofs.View.{View, with_line, turn, version_kept, begin, post, land_line, land, stop, lose}

idle_when : (a : Activity) → not (is_idle a) ≡ false → a ≡ idle
idle_when idle h = refl
idle_when stopped h = absurd (true≢false h)
idle_when (listing x) h = absurd (true≢false h)
idle_when (gathering b) h = absurd (true≢false h)
idle_when (storing b v x) h = absurd (true≢false h)

works_when : (a : Activity) → is_stopped a ≡ false → is_idle a ≡ false → Working a
works_when idle h k = true≢false k
works_when stopped h k = true≢false h
works_when (listing x) h k = tt
works_when (gathering b) h k = tt
works_when (storing b v x) h k = tt

free_when : (w : LineState) → not (is_free w) ≡ false → w ≡ free
free_when free h = refl
free_when (sent b q) h = absurd (true≢false h)
free_when (answered b r) h = absurd (true≢false h)

module _ (n seats : ℕ) where
  pub doing_line : (V : View) (w : Come n seats V Always) (s i : ℕ) (l : Line) → ((x : Code) → V.activity s ≡ listing x → counts l ≡ counts (V.line s i)) → (o : ℕ) → Always o → DoingOk n (update_two V.line s i l o) (V.activity o) (V.version o) (w.doing o) (w.ons o)
  doing_line V w s i l e o _ = doing_same n (V.line o) (update_two V.line s i l o) (V.activity o) (V.version o) (w.doing o) (w.ons o)
      (λ x q j. at_line (λ o j l. V.activity o ≡ listing x → counts l ≡ counts (V.line o j)) V.line s i l (e x) (λ o j _. refl) o j q) (w.doings o tt)

  -- post
  pub post_reach : (V : View) (s i : ℕ) → s < seats → (w : Come n seats V Always) → Reached n seats (post s i (V.activity s) (V.line s i) V).0 (story w)
  post_reach V s i l w =
      let P : View × Answer → Type 0 = λ z. Reached n seats z.0 (story w) in
      cond_both (is_stopped (V.activity s)) _ _ P (λ _. still w) (λ ns. cond_both (is_idle (V.activity s) || foreign (V.activity s) (V.line s i)) _ _ P (λ _. still w)
      (λ nf. cond_both (V.line s i).progress.done _ _ P (λ _. still w) (λ nd. cond_both (not (is_free (V.line s i).state)) _ _ P (λ _. still w)
      (λ fr. go (works_when (V.activity s) ns (or_parts (is_idle (V.activity s)) _ nf).0) nd (free_when (V.line s i).state fr)))))
    where
      go : Working (V.activity s) → (V.line s i).progress.done ≡ false → (V.line s i).state ≡ free → Reached n seats (with_line V s i (post_line (V.activity s) (V.line s i))) (story w)
      go k nd e =
          let st = w.st in
          let m = w.match in
          let line : Line = post_line (V.activity s) (V.line s i) in
          let here : pending (V.activity s) (V.line s i) ≡ (V.line s i).progress = ap (pend (V.activity s) (V.line s i).progress) e in
          record {
            is = refl;
            come = record {
              st = S.post st s i;
              trace = w.trace;
              run = goes w.run (S.posts s i l (subst S.Active (sym (m.seats s)) (active (V.activity s) (λ i. pending (V.activity s) (V.line s i)) k)));
              match = record {
                seats = same_progress V st m s i line (sym here);
                transits = update_two_map (λ o j l. transit_of l.state) st.transit V.line s i (M.sent false (M.ask (st.seat s) i)) line m.transits
                    (ap (M.sent false) (ap (λ q. M.ask q i) (m.seats s) ∙ (ask_seen (V.activity s) _ i (ap (λ (p : Progress). p.done) here ∙ nd) ∙ ap (request_of (V.activity s)) here)));
                cells = m.cells;
              };
              doing = w.doing;
              ons = w.ons;
              finished = w.finished;
              arranged = w.arranged;
              doings = doing_line V w s i line (λ x q. refl);
              roomy = line_roomy V s i line refl w.roomy;
              free_if_done = line_free_if_done V s i line (λ d. absurd (true≢false (sym d ∙ nd))) w.free_if_done;
              large = w.large;
            };
          }

  -- of a seat that is idle and begins, no write is open
  begin_opens : (V : View) (s : ℕ) (v c : ℕ) (d : Doing) (w : Come n seats V Always) → w.doing s ≡ resting → own (majority n) c 0 v d ≡ [] →
      opens (majority n) w.trace.since w.ons V.version w.doing seats ≡ opens (majority n) (update w.trace.since s c) (update w.ons s 0) (update V.version s v) (update w.doing s d) seats
  begin_opens V s v c d w r h = opens_same (majority n) w.trace.since (update w.trace.since s c) w.ons (update w.ons s 0) V.version (update V.version s v) w.doing (update w.doing s d) seats
      (λ o _. elim (cases_eq s o) [ inl e ↦ subst same e here | inr e ↦ rw (update_other w.trace.since s o c e, update_other w.ons s o 0 e, update_other V.version s o v e, update_other w.doing s o d e) refl ])
    where
      same : ℕ → Type 0
      same o = own (majority n) (w.trace.since o) (w.ons o) (V.version o) (w.doing o) ≡ own (majority n) (update w.trace.since s c o) (update w.ons s 0 o) (update V.version s v o) (update w.doing s d o)

      here : same s
      here = rw (update_same w.trace.since s c, update_same w.ons s 0, update_same V.version s v, update_same w.doing s d, r) (sym h)

  -- begin
  begin_go : (V : View) (s : ℕ) (a : Activity) (z : ModelSeat) (d : Doing) (w : Come n seats V Always) → V.activity s ≡ idle → z ≡ seen a (λ i. restarted (V.line s i).progress) →
      (b : Step n seats w.st (S.begin w.st s z)) → trace_step n seats w.st _ b w.trace ≡ begun_trace s w.trace →
      own (majority n) w.trace.clock 0 (version_kept a (V.version s)) d ≡ [] → DoingOk n (λ i. restart_line (V.line s i)) a (version_kept a (V.version s)) d 0 → Reached n seats (turn V s a) (begin_noted s d ok (story w))
  begin_go V s a z d w e h b t none fine = record {
    is = refl;
    come = record {
      st = S.begin w.st s z;
      trace = begun_trace s w.trace;
      run = subst (Run n seats (S.begin w.st s z)) t (goes w.run b);
      match = enter_match V w.st w.match s a z h _ _ _ _ _;
      doing = update w.doing s d;
      ons = update w.ons s 0;
      finished = w.finished;
      arranged = subst (λ l. Arranged (w.finished ++ l) w.trace.order) (begin_opens V s (version_kept a (V.version s)) w.trace.clock d w (subst (λ a. DoingOk n (V.line s) a (V.version s) (w.doing s) (w.ons s)) e (w.doings s tt)) none) w.arranged;
      doings = λ o _. at5 (λ o a ls v d t. DoingOk n ls a v d t) V.activity V.line V.version w.doing w.ons s a (λ i. restart_line (V.line s i)) (version_kept a (V.version s)) d 0 fine (λ o _. w.doings o tt) o;
      roomy = turn_roomy V s w.roomy;
      free_if_done = turn_free_if_done V s w.free_if_done;
      large = w.large;
    };
  }

  begin_reach : (V : View) (s : ℕ) (a : Activity) (d : Doing) (w : Come n seats V Always) → (V.activity s ≡ idle → Reached n seats (turn V s a) (begin_noted s d ok (story w))) → let z = begin s a V in Reached n seats z.0 (begin_noted s d z.1 (story w))
  begin_reach V s a d w h =
      let P : View × Answer → Type 0 = λ z. Reached n seats z.0 (begin_noted s d z.1 (story w)) in
      cond_both (is_stopped (V.activity s)) _ _ P (λ _. still w) (λ _. cond_both (not (is_idle (V.activity s))) _ _ P (λ _. still w) (λ f. h (idle_when (V.activity s) f)))

  seat_idle : (V : View) (s : ℕ) (w : Come n seats V Always) → V.activity s ≡ idle → w.st.seat s ≡ M.idle
  seat_idle V s w e = w.match.seats s ∙ ap (λ a. seen a (λ i. pending a (V.line s i))) e

  pub write_reach : (V : View) (s : ℕ) (x : Code) → s < seats → (w : Come n seats V Always) → let z = begin s (listing x) V in Reached n seats z.0 (begin_noted s (writing x) z.1 (story w))
  write_reach V s x l w = begin_reach V s (listing x) (writing x) w (λ e. begin_go V s (listing x) (M.listing x S.blank_list) (writing x) w e refl (S.begins_write s x l (seat_idle V s w e)) refl
      (own_short (majority n) w.trace.clock 0 0 x (omega arith)) (refl, sym (none_counted n (V.line s)), omega arith))

  pub read_reach : (V : View) (s : ℕ) (b : Bool) → s < seats → (w : Come n seats V Always) → let z = begin s (gathering b) V in Reached n seats z.0 (begin_noted s (reading b) z.1 (story w))
  read_reach V s b l w = begin_reach V s (gathering b) (reading b) w (λ e. begin_go V s (gathering b) (M.gathering b S.blank_gather) (reading b) w e refl (S.begins_read s b l (seat_idle V s w e)) refl refl refl)

  -- stop and lose
  pub stop_reach : (V : View) (s : ℕ) → (w : Come n seats V Always) → Reached n seats (stop s V).0 (story w)
  stop_reach V s w = cond_both (is_stopped (V.activity s)) _ _ (λ (z : View × Answer). Reached n seats z.0 (story w)) (λ _. still w) (λ _. record {
    is = refl;
    come = record {
      st = S.stop w.st s;
      trace = w.trace;
      run = goes w.run (S.stops s);
      match = record {
        seats = at3 (λ o q a _. q ≡ seen a (λ j. pending a (V.line o j))) w.st.seat V.activity V.activity s M.stopped stopped stopped refl (λ o _. w.match.seats o);
        transits = w.match.transits;
        cells = w.match.cells;
      };
      doing = w.doing;
      ons = w.ons;
      finished = w.finished;
      arranged = w.arranged;
      doings = λ o _. at1 (λ o a. DoingOk n (V.line o) a (V.version o) (w.doing o) (w.ons o)) V.activity s stopped tt (λ o _. w.doings o tt) o;
      roomy = w.roomy;
      free_if_done = w.free_if_done;
      large = w.large;
    };
  })

  pub lose_reach : (V : View) (i : ℕ) → (w : Come n seats V Always) → Reached n seats (lose i V).0 (story w)
  lose_reach V i w = cond_both (V.lost i) _ _ (λ (z : View × Answer). Reached n seats z.0 (story w)) (λ _. still w) (λ _. record {
    is = refl;
    come = record { st = w.st; trace = w.trace; run = w.run; match = record { seats = w.match.seats; transits = w.match.transits; cells = w.match.cells }; doing = w.doing; ons = w.ons; finished = w.finished; arranged = w.arranged; doings = w.doings; roomy = w.roomy; free_if_done = w.free_if_done; large = w.large };
  })

  -- land
  module _ (n0 : 0 < n) (small : seats ≤ 65534) where
    land_sent : (V : View) (s i : ℕ) → s < seats → i < n → (w : Come n seats V Always) → (v : LineState) → (V.line s i).state ≡ v → Reached n seats (land_line s i (V.line s i).progress v V).0 (story w)
    land_sent V s i l li w free e = still w
    land_sent V s i l li w (answered b r) e = still w
    land_sent V s i l li w (sent b q) e =
        record {
          is = refl;
          come = record {
            st = S.land st s i b q;
            trace = w.trace;
            run = goes w.run (S.lands s i b q l transit_eq);
            match = record {
              seats = at1 (λ o z. z ≡ seen (V.activity o) (λ j. pending (V.activity o) (update_two V.line s i line o j))) st.seat s (S.moved b (st.seat s) i (st.provider i).cells) (here_seat b e)
                  (λ o ne. m.seats o ∙ seen_cong (V.activity o) _ _ (λ j. ap (pending (V.activity o)) (sym (update_two_else V.line s i line o j ne))));
              transits = update_two_map (λ o j l. transit_of l.state) st.transit V.line s i (M.returned b) line m.transits refl;
              cells = at3 (λ j x y _. x.cells ≡ y.cells) st.provider V.provider V.provider i (S.provider_land s q (st.provider i)) (served q d) d (ap (carry q) (m.cells i) ∙ sym (serves q d fits)) (λ j _. m.cells j);
            };
            doing = w.doing;
            ons = w.ons;
            finished = w.finished;
            arranged = w.arranged;
            doings = doing_line V w s i line (λ x _. refl);
            roomy = line_roomy V s i line (reply_roomy q d fits) w.roomy;
            free_if_done = line_free_if_done V s i line (λ t. absurd (true≢false (sym (w.free_if_done s i t) ∙ ap is_free e))) w.free_if_done;
            large = at1 (λ j (p : Provider). j < n → seats + 2 ≤ p.capacity) V.provider i (served q d) (λ _. subst (λ k. seats + 2 ≤ k) (sym (same_capacity q d)) (w.large i li)) (λ j _. w.large j);
          };
        }
      where
        st : ModelState
        st = w.st

        m : Match V st
        m = w.match

        a : Activity
        a = V.activity s

        d : Provider
        d = V.provider i

        inv : Invariant n seats st
        inv = (both n seats n0 small w.run).0

        transit_eq : st.transit s i ≡ M.sent b q
        transit_eq = m.transits s i ∙ ap transit_of e

        line : Line
        line = record { state = answered b (reply q d); progress = (V.line s i).progress }

        fits : Roomy q d
        fits = subst (λ c. length (carry q c) ≤ d.capacity) (m.cells i) (omega (arith, w.large i li, few_keys_held (provider_kept st.given s (st.provider i).cells (st.provider i).tags seats l (inv.providers i) q (here_progress n seats st inv s i q l b transit_eq).0)))

        here_seat : (b : Bool) → (V.line s i).state ≡ sent b q → S.moved b (st.seat s) i (st.provider i).cells ≡ seen a (λ j. pending a (update_two V.line s i (record { state = answered b (reply q d); progress = (V.line s i).progress }) s j))
        here_seat true e = same_progress V st m s i _ (sym (ap (pend a (V.line s i).progress) e)) s
        here_seat false e =
            let p : ℕ → Progress = λ j. pending a (V.line s j) in
            let new : Line = record { state = answered false (reply q d); progress = (V.line s i).progress } in
            let asked : Asked st.given s i q (seen a p) = subst (Asked st.given s i q) (m.seats s) (subst (TransitOk st.given s (top (st.provider i).cells) (st.provider i).tags i (st.seat s)) (m.transits s i ∙ ap transit_of e) (inv.lines s i).transit).1 in
            let fine : SeatOk st.given s (seen a p) = subst (SeatOk st.given s) (m.seats s) (inv.activities s) in
            ap₂ (λ z c. M.next z i c) (m.seats s) (m.cells i) ∙ (seat_moves st.given s a p i q d fits fine asked ∙ seen_cong a _ _
            (λ j. update_map (λ o l. pending a l) p (V.line s) i (advance a (reply q d) (p i)) new (λ o _. refl) (ap (advance a (reply q d)) (ap (pend a (V.line s i).progress) e)) j ∙ ap (pending a) (sym (update_two_row V.line s i new j))))

    pub land_reach : (V : View) (s i : ℕ) → s < seats → i < n → (w : Come n seats V Always) → Reached n seats (land s i (V.line s i) V).0 (story w)
    land_reach V s i l li w = cond_both (V.lost i) _ _ (λ (z : View × Answer). Reached n seats z.0 (story w)) (λ _. still w) (λ _. land_sent V s i l li w (V.line s i).state refl)
