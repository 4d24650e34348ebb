-- A fetch as a whole.
use Rattle.std.proofs.Common.{◌≡◌, ℕ, suc, ◌<◌, ◌≤◌, Bool, true, false, sym, refl, ap, ◌∙◌, subst, subst₂}
use Rattle.std.proofs.lemmas.Bool.{cond_both, true≢false}
use Rattle.protocol.specs.Answers.{Answer}
use Rattle.protocol.specs.History.{fetch_noted}
use Rattle.protocol.specs.Law.{is_refusal, holds_refusal}
use Rattle.protocol.specs.Lines.{LineState, free, sent, answered, is_free, Progress, Line}
use Rattle.protocol.specs.Moves.{advance}
use Rattle.protocol.specs.Phases.{counts, done_lines, PhaseResult, phase_result}
use Rattle.protocol.specs.Requests.{Reply, keys_are, got, accepted, refused_by}
use Rattle.protocol.specs.Seats.{Activity, idle, stopped, listing, gathering, storing, is_stopped}
use Rattle.protocol.specs.Stages.{foreign}
use Rattle.protocol.specs.Steps.{unless_full}
use Rattle.protocol.proofs.Counting.{count_one}
use Rattle.protocol.proofs.Decoding.{list_progress, list_is_done}
use Rattle.protocol.proofs.Fetching.{settle_list, settle_gather, settle_store}
use Rattle.protocol.proofs.Invariant.{Invariant}
use Rattle.protocol.proofs.Model as M
use Rattle.protocol.proofs.Model.{Code, list_done, top}
use Rattle.protocol.proofs.ModelLines.{TransitOk, update_same, update_other}
use Rattle.protocol.proofs.ModelSteps as S
use Rattle.protocol.proofs.Register.{goes, both}
use Rattle.protocol.proofs.Simulation.{transit_of, pend, pending, seen, Match, DoingOk, Come, Always, But, story, Reached, still, same_progress, line_roomy, line_free_if_done, not_done, doing_same}
use Rattle.protocol.proofs.Calling.{doing_line}
use Rattle.protocol.proofs.Updates.{update_two_map, update_two_row, update_two_else}
use Rattle.protocol.proofs.View.{View, freed, conclude, judge, fetch_line, fetch}

-- a put found room
not_full : (r : Reply) (y : PhaseResult) → is_refusal r ≡ false → y ≡ unless_full r y
not_full (keys_are l) y h = refl
not_full (got o) y h = refl
not_full accepted y h = refl
not_full (refused_by e) y h = absurd (true≢false h)

module _ (n seats : ℕ) (n0 : 0 < n) (small : seats ≤ 65534) (V : View) (s i : ℕ) (l : s < seats) (li : i < n) (w : Come n seats V Always) where
  inv : Invariant n seats w.st
  inv = (both n seats n0 small w.run).0

  -- the line is free, at its pending progress
  free_match : (p : Progress) → p ≡ pending (V.activity s) (V.line s i) → Match (freed s i p V) (S.fetch w.st s i)
  free_match p e = record {
    seats = same_progress V w.st w.match s i (record { state = free; progress = p }) e;
    transits = update_two_map (λ o j l. transit_of l.state) w.st.transit V.line s i M.free (record { state = free; progress = p }) w.match.transits refl;
    cells = w.match.cells;
  }

  -- a stale answer's line is at its start, and a listing line's answer makes it done
  transit_fact : (a : Activity) (b : Bool) (r : Reply) → V.activity s ≡ a → (V.line s i).state ≡ answered b r →
      TransitOk w.st.given s (top (w.st.provider i).cells) (w.st.provider i).tags i (seen a (λ j. pending a (V.line s j))) (M.returned b)
  transit_fact a b r ea ew = let st = w.st in
      subst₂ (TransitOk st.given s (top (st.provider i).cells) (st.provider i).tags i) (w.match.seats s ∙ ap (λ a. seen a (λ j. pending a (V.line s j))) ea) (w.match.transits s i ∙ ap transit_of ew) (inv.lines s i).transit

  drop_reach : (r : Reply) → (V.line s i).state ≡ answered true r → Reached n seats (freed s i (V.line s i).progress V) (story w)
  drop_reach r e =
      let p = (V.line s i).progress in
      let new : Line = record { state = free; progress = p } in
      record {
        is = refl;
        come = record {
          st = S.fetch w.st s i;
          trace = w.trace;
          run = goes w.run (S.fetches s i);
          match = free_match p (sym (ap (pend (V.activity s) p) e));
          doing = w.doing;
          ons = w.ons;
          finished = w.finished;
          arranged = w.arranged;
          doings = doing_line n seats V w s i new (λ x q. refl);
          roomy = line_roomy V s i new refl w.roomy;
          free_if_done = line_free_if_done V s i new (λ _. refl) w.free_if_done;
          large = w.large;
        };
      }

  module _ (r : Reply) (e : (V.line s i).state ≡ answered false r) where
    abbrev line : Line
    line = record { state = free; progress = advance (V.activity s) r (V.line s i).progress }

    abbrev T : View
    T = freed s i line.progress V

    abbrev come : Come n seats T (But s)
    come = record {
      st = S.fetch w.st s i;
      trace = w.trace;
      run = goes w.run (S.fetches s i);
      match = free_match line.progress (sym (ap (pend (V.activity s) (V.line s i).progress) e));
      doing = w.doing;
      ons = w.ons;
      finished = w.finished;
      arranged = w.arranged;
      doings = λ o d. doing_same n (V.line o) (T.line o) (V.activity o) (V.version o) (w.doing o) (w.ons o) (λ x q j. ap counts (update_two_else V.line s i line o j d)) (w.doings o tt);
      roomy = line_roomy V s i line refl w.roomy;
      free_if_done = line_free_if_done V s i line (λ _. refl) w.free_if_done;
      large = w.large;
    }

    doing_at : (a : Activity) → V.activity s ≡ a → DoingOk n (V.line s) a (V.version s) (w.doing s) (w.ons s)
    doing_at a q = subst (λ a. DoingOk n (V.line s) a (V.version s) (w.doing s) (w.ons s)) q (w.doings s tt)

    counted : (x : Code) → V.activity s ≡ listing x → done_lines (T.line s) n ≡ suc (w.ons s)
    counted x q =
        let heard : list_done (list_progress (pending (listing x) (V.line s i))) ≡ true = transit_fact (listing x) false r q e in
        let at_i : T.line s i ≡ line = update_two_row V.line s i line i ∙ update_same (V.line s) i line in
        let new : counts (T.line s i) ≡ true = ap counts at_i ∙ (ap (λ a. (advance a r (V.line s i).progress).done) q ∙ (ap (λ w. (pend (listing x) (V.line s i).progress w).done) (sym e) ∙ (sym (list_is_done (pending (listing x) (V.line s i))) ∙ heard))) in
        let old : counts (V.line s i) ≡ false = not_done (V.line s i) (w.free_if_done s i) (ap is_free e) in
        count_one (λ j. counts (V.line s j)) (λ j. counts (T.line s j)) n i li old new (λ j d. ap counts (update_two_row V.line s i line j ∙ update_other (V.line s) i j line d)) ∙ ap suc (sym (doing_at (listing x) q).1)

    settled : (a : Activity) → V.activity s ≡ a → foreign a (record { state = answered false r; progress = (V.line s i).progress }) ≡ false →
        let z = conclude s (phase_result n (suc s) (T.line s) a) T in Reached n seats z.0 (fetch_noted s z.1 (story w))
    settled idle q f = absurd (true≢false f)
    settled stopped q f = absurd (true≢false f)
    settled (listing x) q f = let d = doing_at (listing x) q in settle_list n seats T s l come x q d.0 (counted x q) d.2
    settled (gathering b) q f = settle_gather n seats T s l come b q (doing_at (gathering b) q)
    settled (storing b v x) q f = settle_store n seats T s l come n0 small b v x q (weak b (doing_at (storing b v x) q))
      where
        weak : (b : Bool) → DoingOk n (V.line s) (storing b v x) (V.version s) (w.doing s) (w.ons s) → DoingOk n (T.line s) (storing b v x) (V.version s) (w.doing s) (w.ons s)
        weak true d = d
        weak false d = d

    take_reach : foreign (V.activity s) (record { state = answered false r; progress = (V.line s i).progress }) ≡ false → let z = judge n s (V.activity s) r T in Reached n seats z.0 (fetch_noted s z.1 (story w))
    take_reach f = subst (λ y. let z = conclude s y T in Reached n seats z.0 (fetch_noted s z.1 (story w))) (not_full r (phase_result n (suc s) (T.line s) (V.activity s)) (sym (ap holds_refusal e) ∙ w.roomy s i)) (settled (V.activity s) refl f)

  by_state : (v : LineState) → (V.line s i).state ≡ v → let z = fetch_line n s i (V.activity s) (V.line s i).progress v V in Reached n seats z.0 (fetch_noted s z.1 (story w))
  by_state free e = still w
  by_state (sent b q) e = still w
  by_state (answered true r) e = drop_reach r e
  by_state (answered false r) e = cond_both (foreign (V.activity s) (record { state = answered false r; progress = (V.line s i).progress })) _ _ (λ (z : View × Answer). Reached n seats z.0 (fetch_noted s z.1 (story w))) (λ _. still w) (λ f. take_reach r e f)

  pub fetch_reach : let z = fetch n s i (V.activity s) (V.line s i) V in Reached n seats z.0 (fetch_noted s z.1 (story w))
  fetch_reach = cond_both (is_stopped (V.activity s)) _ _ (λ (z : View × Answer). Reached n seats z.0 (fetch_noted s z.1 (story w))) (λ _. still w) (λ _. by_state (V.line s i).state refl)
