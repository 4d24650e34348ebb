-- The steps on sheets are the steps on views.
use Rattle.std.proofs.Common.{◌≡◌, ℕ, zero, suc, ◌+◌, ◌*◌, ◌<◌, ◌≤◌, max, Bool, true, false, cond, not, ◌&&◌, ◌||◌, eqb, ltb, leb, ◌≢◌, List, length, get_or, set, sym, refl, ap, ◌∙◌, subst, ap₂, subst₂, inl, inr, arith, length-set, get_or-set_other, get_or-set_same}
use mathlib.Core.Path.{fun_ext}
use Rattle.std.proofs.lemmas.Bool.{cond-true, cond-false, cases_eq, eqb-true, eq-eqb, ne_eqb, lt-ltb, le-ltb, cases_lt, and_from}
use Rattle.stores.specs.Provider.{Provider}
use Rattle.protocol.specs.Answers.{Answer, ok, refused}
use Rattle.protocol.specs.History.{update}
use Rattle.protocol.specs.Lines.{LineState, free, sent, answered, is_free, Progress, Line, blank_line, restart_line}
use Rattle.protocol.specs.Moves.{advance}
use Rattle.protocol.specs.Phases.{counts, done_lines, listed_on, largest_listed, found_on, newer, newest_found, PhaseResult, goes_on, turns, end_listing, end_gathering, end_storing, majority, phase_result}
use Rattle.protocol.specs.Requests.{Reply, reply, served}
use Rattle.protocol.specs.Seats.{Activity, idle, stopped, listing, gathering, storing, Seat, blank_seat, activity, is_idle, is_stopped, turned_to}
use Rattle.protocol.specs.Stages.{foreign}
use Rattle.protocol.specs.State as states
use Rattle.protocol.specs.Steps as steps
use Rattle.protocol.specs.State.{State, no_provider, seat_at, line_at, provider_at, lost_at, restart_lines}
use Rattle.protocol.specs.Steps.{refuse, unless_full, looks_after, post_line}
use Rattle.protocol.proofs.ModelLines.{update_same, update_other}
use Rattle.protocol.proofs.ModelSteps.{update_two}
use Rattle.protocol.proofs.Sheets.{at, at_set}
use Rattle.protocol.proofs.Updates.{update_under}
use Rattle.protocol.proofs.View as views
use Rattle.protocol.proofs.View.{View, version_kept}

-- two seats' lines agree below n
module _ (f g : ℕ → Line) where
  abbrev Below : ℕ → Type 0
  Below n = (j : ℕ) → j < n → f j ≡ g j

  below_count : (n : ℕ) → Below n → done_lines f n ≡ done_lines g n
  below_count zero h = refl
  below_count (suc n) h = ap₂ (λ b k. cond b (suc k) k) (ap counts (h n (omega arith))) (below_count n (λ j l. h j (omega arith)))

  below_key : (n : ℕ) → Below n → largest_listed f n ≡ largest_listed g n
  below_key zero h = refl
  below_key (suc n) h = ap₂ max (ap listed_on (h n (omega arith))) (below_key n (λ j l. h j (omega arith)))

  below_found : (n : ℕ) → Below n → newest_found f n ≡ newest_found g n
  below_found zero h = refl
  below_found (suc n) h = ap₂ newer (below_found n (λ j l. h j (omega arith))) (ap found_on (h n (omega arith)))

  below_result : (n s : ℕ) (a : Activity) → Below n → phase_result n s f a ≡ phase_result n s g a
  below_result n s idle h = ap (λ k. cond (leb (majority n) k) goes_on goes_on) (below_count n h)
  below_result n s stopped h = ap (λ k. cond (leb (majority n) k) goes_on goes_on) (below_count n h)
  below_result n s (listing x) h = ap₂ (λ k t. cond (leb (majority n) k) (end_listing t s x) goes_on) (below_count n h) (below_key n h)
  below_result n s (gathering b) h = ap₂ (λ k o. cond (leb (majority n) k) (end_gathering b o) goes_on) (below_count n h) (below_found n h)
  below_result n s (storing b v x) h = ap (λ k. cond (leb (majority n) k) (end_storing b v x) goes_on) (below_count n h)

module _ (m n : ℕ) where
  abbrev pub lines_of : List Line → ℕ → ℕ → Line
  lines_of ls = at m n blank_line ls

  abbrev pub activities_of : List Seat → ℕ → Activity
  activities_of ss s = cond (ltb s m) (activity (get_or ss s blank_seat)) idle

  abbrev pub versions_of : List Seat → ℕ → ℕ
  versions_of ss s = (get_or ss s blank_seat).version

  abbrev pub view : State → View
  view C = record { activity = activities_of C.seats; version = versions_of C.seats; line = lines_of C.lines; provider = provider_at C; lost = lost_at C }

  abbrev made : (ℕ → Activity) → (ℕ → ℕ) → (ℕ → ℕ → Line) → (ℕ → Provider) → (ℕ → Bool) → View
  made a v l p o = record { activity = a; version = v; line = l; provider = p; lost = o }

  pub record Sized (C : State) : Type 0 where
    pub seats : m ≤ length C.seats
    pub lines : m * n ≤ length C.lines
    pub row : length C.row ≡ n
    pub flags : n ≤ length C.lost

  pub line_here : (ls : List Line) (s i : ℕ) → s < m → i < n → lines_of ls s i ≡ line_at n ls s i
  line_here ls s i a b = cond-true (ltb s m && ltb i n) _ _ (and_from (ltb s m) (ltb i n) (lt-ltb s m a) (lt-ltb i n b))

  pub activity_here : (ss : List Seat) (s : ℕ) → s < m → activities_of ss s ≡ activity (get_or ss s blank_seat)
  activity_here ss s a = cond-true (ltb s m) _ _ (lt-ltb s m a)

  get_or_update : {X : Type 0} (l : List X) (s : ℕ) (x d : X) → s < length l → (o : ℕ) → get_or (set l s x) o d ≡ update (λ o. get_or l o d) s x o
  get_or_update l s x d a o = elim (cases_eq s o) [
    | inl e ↦ subst (λ o. get_or (set l s x) o d ≡ update (λ o. get_or l o d) s x o) e (get_or-set_same l s x d a ∙ sym (update_same (λ o. get_or l o d) s x))
    | inr e ↦ get_or-set_other l s o x d (λ q. e (sym q)) ∙ sym (update_other (λ o. get_or l o d) s o x e)
  ]

  activity_set : (ss : List Seat) (s : ℕ) (q : Seat) → m ≤ length ss → s < m → (o : ℕ) → activities_of (set ss s q) o ≡ update (activities_of ss) s (activity q) o
  activity_set ss s q long a o = elim (cases_eq s o) [ inl e ↦ subst (λ o. activities_of (set ss s q) o ≡ update (activities_of ss) s (activity q) o) e same | inr d ↦ other d ]
    where
      same : activities_of (set ss s q) s ≡ update (activities_of ss) s (activity q) s
      same = activity_here (set ss s q) s a ∙ (ap activity (get_or-set_same ss s q blank_seat (omega arith)) ∙ sym (update_same (activities_of ss) s (activity q)))

      other : s ≢ o → activities_of (set ss s q) o ≡ update (activities_of ss) s (activity q) o
      other d = ap (λ q. cond (ltb o m) (activity q) idle) (get_or-set_other ss s o q blank_seat (λ e. d (sym e))) ∙ sym (update_other (activities_of ss) s o (activity q) d)

  version_set : (ss : List Seat) (s : ℕ) (q : Seat) → m ≤ length ss → s < m → (o : ℕ) → versions_of (set ss s q) o ≡ update (versions_of ss) s q.version o
  version_set ss s q long a o = ap (λ (q : Seat). q.version) (get_or_update ss s q blank_seat (omega arith) o) ∙ update_under (λ (q : Seat). q.version) (λ o. get_or ss o blank_seat) s q o

  -- the lines of a seat restart
  restart_long : (k s : ℕ) (ls : List Line) → length (restart_lines k n s ls) ≡ length ls
  restart_long zero s ls = refl
  restart_long (suc k) s ls = length-set (restart_lines k n s ls) (s * n + k) _ ∙ restart_long k s ls

  restart_view : (k s : ℕ) (ls : List Line) → m * n ≤ length ls → s < m → k ≤ n → (o j : ℕ) → lines_of (restart_lines k n s ls) o j ≡ cond (eqb s o) (cond (ltb j k) (restart_line (lines_of ls s j)) (lines_of ls o j)) (lines_of ls o j)
  restart_view zero s ls long a le o j = go (eqb s o)
    where
      go : (b : Bool) → lines_of ls o j ≡ cond b (cond (ltb j 0) (restart_line (lines_of ls s j)) (lines_of ls o j)) (lines_of ls o j)
      go true = sym (cond-false (ltb j 0) _ _ (le-ltb j 0 (omega arith)))
      go false = refl
  restart_view (suc k) s ls long a le o j =
      at_set m n blank_line (restart_lines k n s ls) (omega (arith, restart_long k s ls)) s k (restart_line (line_at n ls s k)) a (omega arith) o j ∙ go (eqb s o) refl (restart_view k s ls long a (omega arith) o j)
    where
      old : Line
      old = lines_of ls o j

      new : Line
      new = restart_line (lines_of ls s j)

      go : (b : Bool) → eqb s o ≡ b → lines_of (restart_lines k n s ls) o j ≡ cond b (cond (ltb j k) new old) old → cond b (cond (eqb k j) (restart_line (line_at n ls s k)) (lines_of (restart_lines k n s ls) o j)) (lines_of (restart_lines k n s ls) o j) ≡ cond b (cond (ltb j (suc k)) new old) old
      go false e h = h
      go true e h = elim (cases_eq k j) [
        | inl q ↦ cond-true (eqb k j) _ _ (eq-eqb k j q) ∙ (ap restart_line (sym (line_here ls s k a (omega arith)) ∙ ap (lines_of ls s) q) ∙ sym (cond-true (ltb j (suc k)) _ _ (lt-ltb j (suc k) (omega arith))))
        | inr d ↦ cond-false (eqb k j) _ _ (ne_eqb k j d) ∙ (h ∙ ap (λ b. cond b new old) (later d))
      ]
        where
          later : k ≢ j → ltb j k ≡ ltb j (suc k)
          later d = elim (cases_lt j k) [ inl q ↦ lt-ltb j k q ∙ sym (lt-ltb j (suc k) (omega arith)) | inr q ↦ le-ltb j k q ∙ sym (le-ltb j (suc k) (omega arith)) ]

  -- a record that is turned to an activity shows it
  turned_activity : (q : Seat) (a : Activity) → activity (turned_to a q) ≡ a
  turned_activity q idle = refl
  turned_activity q stopped = refl
  turned_activity q (listing x) = refl
  turned_activity q (gathering true) = refl
  turned_activity q (gathering false) = refl
  turned_activity q (storing true v x) = refl
  turned_activity q (storing false v x) = refl

  turned_version : (q : Seat) (a : Activity) → (turned_to a q).version ≡ version_kept a q.version
  turned_version q idle = refl
  turned_version q stopped = refl
  turned_version q (listing x) = refl
  turned_version q (gathering b) = refl
  turned_version q (storing b v x) = refl

  -- what a step comes to, on sheets and on views
  pub record Agree (z : State × Answer) (y : View × Answer) : Type 0 where
    pub same : view z.0 ≡ y.0
    pub says : z.1 ≡ y.1
    pub sized : Sized z.0

  module _ (C : State) (h : Sized C) where
    abbrev W : View
    W = view C

    still : (e : ℕ) → Agree (refuse C e) (W, refused e)
    still e = record { same = refl; says = refl; sized = h }

    checked : (b : Bool) (e : ℕ) (z : State × Answer) (y : View × Answer) → Agree z y → Agree (steps.check b e C z) (views.check b e W y)
    checked true e z y g = still e
    checked false e z y g = g

    lines_sized : (ls : List Line) (k : ℕ) → length ls ≡ length C.lines → Sized (record { seats = C.seats; lines = ls; row = C.row; lost = C.lost; looks = k })
    lines_sized ls k e = record { seats = h.seats; lines = omega (arith, h.lines); row = h.row; flags = h.flags }

    set_view : (s i : ℕ) (l : Line) → s < m → i < n → lines_of (set C.lines (s * n + i) l) ≡ update_two (lines_of C.lines) s i l
    set_view s i l a b = fun_ext (λ o. fun_ext (λ j. at_set m n blank_line C.lines h.lines s i l a b o j))

    turn_view : (s : ℕ) (k : Activity) → s < m → view (states.turn n s k C) ≡ views.turn W s k
    turn_view s k a =
        ap₂ (λ f v. made f v (lines_of (restart_lines n n s C.lines)) W.provider W.lost)
        (fun_ext (λ o. activity_set C.seats s _ h.seats a o ∙ ap (λ k. update W.activity s k o) (turned_activity (seat_at C s) k)))
        (fun_ext (λ o. version_set C.seats s _ h.seats a o ∙ ap (λ k. update W.version s k o) (turned_version (seat_at C s) k)))
        ∙ ap (λ l. made (update W.activity s k) (update W.version s (version_kept k (W.version s))) l W.provider W.lost) (fun_ext (λ o. fun_ext (λ j. restart_view n s C.lines h.lines a (omega arith) o j ∙ whole o j)))
      where
        whole : (o j : ℕ) → cond (eqb s o) (cond (ltb j n) (restart_line (W.line s j)) (W.line o j)) (W.line o j) ≡ update W.line s (λ i. restart_line (W.line s i)) o j
        whole o j = go (eqb s o) refl
          where
            past : (b : Bool) → ltb j n ≡ b → s ≡ o → cond b (restart_line (W.line s j)) (W.line o j) ≡ restart_line (W.line s j)
            past true e q = refl
            past false e q = ap (λ o. W.line o j) (sym q) ∙ (blank e ∙ sym (ap restart_line (blank e)))
              where
                blank : ltb j n ≡ false → W.line s j ≡ blank_line
                blank e = cond-false (ltb s m && ltb j n) _ _ (ap₂ ◌&&◌ (lt-ltb s m a) e)

            go : (b : Bool) → eqb s o ≡ b → cond b (cond (ltb j n) (restart_line (W.line s j)) (W.line o j)) (W.line o j) ≡ cond b (λ i. restart_line (W.line s i)) (W.line o) j
            go true e = past (ltb j n) refl (eqb-true s o e)
            go false e = refl

    turned : (s : ℕ) (k : Activity) (y : Answer) → s < m → Agree (states.turn n s k C, y) (views.turn W s k, y)
    turned s k y l = record {
      same = turn_view s k l;
      says = refl;
      sized = record { seats = omega (arith, h.seats, length-set C.seats s (turned_to k (seat_at C s))); lines = omega (arith, h.lines, restart_long n s C.lines); row = h.row; flags = h.flags };
    }

    concluded : (s : ℕ) (y : PhaseResult) → s < m → Agree (steps.conclude n s y C) (views.conclude s y W)
    concluded s goes_on l = record { same = refl; says = refl; sized = h }
    concluded s (turns k a) l = turned s k a l

    pub begins : (s : ℕ) (k : Activity) → s < m → Agree (steps.begin_at n s k C) (views.begin s k W)
    begins s k l = subst (λ a. Agree (steps.begin_at n s k C) (views.check (is_stopped a) 7 W (views.check (not (is_idle a)) 8 W (views.turn W s k, ok)))) (sym (activity_here C.seats s l)) (let q = activity (seat_at C s) in checked (is_stopped q) 7 _ _ (checked (not (is_idle q)) 8 _ _ (turned s k ok l)))

    written : (s i : ℕ) (l : Line) → s < m → i < n → Agree (states.with_line n C s i l, ok) (views.with_line W s i l, ok)
    written s i l a b = record { same = ap (λ f. made W.activity W.version f W.provider W.lost) (set_view s i l a b); says = refl; sized = lines_sized _ C.looks (length-set C.lines (s * n + i) l) }

    pub posts : (s i : ℕ) → s < m → i < n → Agree (steps.post_at n s i (activity (seat_at C s)) (line_at n C.lines s i) C) (views.post s i (W.activity s) (W.line s i) W)
    posts s i a b = let k = activity (seat_at C s) in let l = line_at n C.lines s i in
        subst₂ (λ k' l'. Agree (steps.post_at n s i k l C) (views.post s i k' l' W)) (sym (activity_here C.seats s a)) (sym (line_here C.lines s i a b)) (checked (is_stopped k) 7 _ _ (checked (is_idle k || foreign k l) 9 _ _ (checked l.progress.done 10 _ _ (checked (not (is_free l.state)) 11 _ _ (written s i (post_line k l) a b)))))

    lands_line : (s i : ℕ) (p : Progress) (w : LineState) → s < m → i < n → Agree (steps.land_line n s i (provider_at C i) p w C) (views.land_line s i p w W)
    lands_line s i p free a b = still 13
    lands_line s i p (answered t r) a b = still 13
    lands_line s i p (sent t q) a b = record {
      same = ap₂ (λ f g. made W.activity W.version f g W.lost) (set_view s i _ a b) (fun_ext (get_or_update C.row i (served q (provider_at C i)) no_provider (omega (arith, h.row))));
      says = refl;
      sized = record { seats = h.seats; lines = omega (arith, h.lines, length-set C.lines (s * n + i) (record { state = answered t (reply q (provider_at C i)); progress = p })); row = length-set C.row i (served q (provider_at C i)) ∙ h.row; flags = h.flags };
    }

    pub lands : (s i : ℕ) → s < m → i < n → Agree (steps.land_at n s i (line_at n C.lines s i) C) (views.land s i (W.line s i) W)
    lands s i a b = let l = line_at n C.lines s i in subst (λ l'. Agree (steps.land_at n s i l C) (views.land s i l' W)) (sym (line_here C.lines s i a b)) (checked (lost_at C i) 12 _ _ (lands_line s i l.progress l.state a b))

    pub stops : (s : ℕ) → s < m → Agree (steps.stop_at s C) (views.stop s W)
    stops s a = let q : Seat = turned_to stopped (seat_at C s) in subst (λ k. Agree (steps.stop_at s C) (views.check (is_stopped k) 7 W (views.halted s W, ok))) (sym (activity_here C.seats s a)) (checked (is_stopped (activity (seat_at C s))) 7 _ _ (record {
      same = ap₂ (λ f v. made f v W.line W.provider W.lost) (fun_ext (λ o. activity_set C.seats s q h.seats a o)) (fun_ext (λ o. version_set C.seats s q h.seats a o ∙ kept o));
      says = refl;
      sized = record { seats = omega (arith, h.seats, length-set C.seats s q); lines = h.lines; row = h.row; flags = h.flags };
    }))
      where
        kept : (o : ℕ) → update W.version s (W.version s) o ≡ W.version o
        kept o = elim (cases_eq s o) [ inl e ↦ cond-true (eqb s o) _ _ (eq-eqb s o e) ∙ ap W.version e | inr d ↦ update_other W.version s o (W.version s) d ]

    pub loses : (i : ℕ) → i < n → Agree (steps.lose_at i C) (views.lose i W)
    loses i a = checked (lost_at C i) 12 _ _ (record {
      same = ap (λ f. made W.activity W.version W.line W.provider f) (fun_ext (get_or_update C.lost i true false (omega (arith, h.flags))));
      says = refl;
      sized = record { seats = h.seats; lines = h.lines; row = h.row; flags = omega (arith, h.flags, length-set C.lost i true) };
    })

    frees : (s i : ℕ) (p : Progress) (k : ℕ) → s < m → i < n → view (steps.freed n s i p k C) ≡ views.freed s i p W
    frees s i p k a b = ap (λ f. made W.activity W.version f W.provider W.lost) (set_view s i _ a b)

    frees_sized : (s i : ℕ) (p : Progress) (k : ℕ) → Sized (steps.freed n s i p k C)
    frees_sized s i p k = lines_sized _ k (length-set C.lines (s * n + i) (record { state = free; progress = p }))

  judged : (C : State) (h : Sized C) (s : ℕ) (k : Activity) (r : Reply) → s < m → Agree (steps.judge n s k r C) (views.judge n s k r (view C))
  judged C h s k r a = subst (λ y. Agree (steps.judge n s k r C) (views.conclude s (unless_full r y) (view C))) (below_result (line_at n C.lines s) ((view C).line s) n (suc s) k (λ j l. sym (line_here C.lines s j a l))) (concluded C h s _ a)

  fetches_line : (C : State) (h : Sized C) (s i : ℕ) (k : Activity) (p : Progress) (w : LineState) → s < m → i < n → Agree (steps.fetch_line n s i k p w C) (views.fetch_line n s i k p w (view C))
  fetches_line C h s i k p free a b = still C h 14
  fetches_line C h s i k p (sent t q) a b = still C h 14
  fetches_line C h s i k p (answered true r) a b = record { same = frees C h s i p C.looks a b; says = refl; sized = frees_sized C h s i p C.looks }
  fetches_line C h s i k p (answered false r) a b =
      let c = looks_after C.looks p (advance k r p) in
      let D = steps.freed n s i (advance k r p) c C in
      checked C h (foreign k (record { state = answered false r; progress = p })) 14 _ _ (subst (λ T. Agree (steps.judge n s k r D) (views.judge n s k r T)) (frees C h s i (advance k r p) c a b) (judged D (frees_sized C h s i (advance k r p) c) s k r a))

  pub fetches : (C : State) (h : Sized C) (s i : ℕ) → s < m → i < n → Agree (steps.fetch_at n s i (activity (seat_at C s)) (line_at n C.lines s i) C) (views.fetch n s i ((view C).activity s) ((view C).line s i) (view C))
  fetches C h s i a b = let k = activity (seat_at C s) in let l = line_at n C.lines s i in
      subst₂ (λ k' l'. Agree (steps.fetch_at n s i k l C) (views.fetch n s i k' l' (view C))) (sym (activity_here C.seats s a)) (sym (line_here C.lines s i a b)) (checked C h (is_stopped k) 7 _ _ (fetches_line C h s i k l.progress l.state a b))
