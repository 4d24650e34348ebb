-- The law: every list of calls on an opened relay is lawful.
use Rattle.std.proofs.Common.{◌≡◌, ℕ, zero, suc, ◌+◌, ◌-◌, ◌*◌, ◌/◌, ◌%◌, ◌<◌, ◌≤◌, true, false, ◌&&◌, ltb, List, [], ◌∷◌, ◌++◌, length, get_or, take, sym, refl, ap, subst, subst₂, mod-lt, div-lt_iff_lt-mul, arith}
use native.Mathlib.Nat.{mod-add-div'}
use lib.Arith.{digits_lt}
use Rattle.std.specs.List.{AllByRecursion}
use Rattle.std.specs.List.Sorted.{IsPermutation}
use Rattle.std.proofs.ByRecursion.{All-get_or, All-from_get_or}
use Rattle.std.proofs.lemmas.List.{get_or-take, length-take}
use Rattle.std.proofs.lemmas.Bool.{cond_both, and_parts, ltb-true}
use Rattle.stores.specs.Provider.{Provider}
use Rattle.protocol.specs.Answers.{Call, begin_write, begin_read, post, land, fetch, stop, lose, Answer}
use Rattle.protocol.specs.Fitting.{AnswersFit, RecordShows}
use Rattle.protocol.specs.History.{History, open_writes, Doing, resting, writing, reading, begin_noted, fetch_noted, noted, next_call, history, no_calls}
use Rattle.protocol.specs.Law.{Lawful, Opened, Law, answers, end, holds_refusal, NotOld, NoneBefore}
use Rattle.protocol.specs.Lines.{Line, blank_line}
use Rattle.protocol.specs.Lines as lines
use Rattle.protocol.specs.Phases.{majority}
use Rattle.protocol.specs.Seats.{Activity, idle, stopped, listing, gathering, storing, activity_in, activity}
use Rattle.protocol.specs.State.{State, seat_at, no_provider}
use Rattle.protocol.specs.Steps.{step}
use Rattle.protocol.proofs.Arrangements.{Arranged, done, arranged_shuffled}
use Rattle.protocol.proofs.Calling.{write_reach, read_reach, post_reach, land_reach, stop_reach, lose_reach}
use Rattle.protocol.proofs.Fetched.{fetch_reach}
use Rattle.protocol.proofs.Fits.{ranged, step_fits}
use Rattle.protocol.proofs.Histories.{Alike, begin_alike, fetch_alike, next_alike, opens_open}
use Rattle.protocol.proofs.OpenWrites.{opens}
use Rattle.protocol.proofs.Register.{ShowsBy, opened, ticks, first_state, first_trace, register}
use Rattle.protocol.proofs.Places.{placed, first_placed, all_before}
use Rattle.protocol.proofs.Simulation.{Come, Always, story, Reached, seen, pending, transit_of, DoingOk}
use Rattle.protocol.proofs.Trace.{tick}
use Rattle.protocol.proofs.View.{View}
use Rattle.protocol.proofs.Viewing.{view, Sized, Agree, begins, posts, lands, fetches, stops, loses, lines_of, line_here, activity_here, activities_of}

-- what fits what a seat is doing, its record shows
shown : (n : ℕ) (ls : ℕ → Line) (a : Activity) (v : ℕ) (d : Doing) (o : ℕ) → DoingOk n ls a v d o → RecordShows a d
shown n ls idle v d o h = h
shown n ls stopped v d o h = tt
shown n ls (listing x) v d o h = h.0
shown n ls (gathering b) v d o h = h
shown n ls (storing true u x) v d o h = h.0
shown n ls (storing false u x) v d o h = h

module _ (m n : ℕ) (n0 : 0 < n) (small : m ≤ 65534) where
  -- a state and a history that a run leads to
  pub record Sound (C : State) (H : History) : Type 0 where
    pub sized : Sized m n C
    pub come : Come n m (view m n C) Always
    pub alike : Alike (story come) H

  ticked : (C : State) (H : History) → Sound C H → Sound C (next_call H)
  ticked C H h = let w = h.come in record {
    sized = h.sized;
    come = record { st = w.st; trace = tick w.trace; run = ticks w.run; match = w.match; doing = w.doing; ons = w.ons; finished = w.finished; arranged = w.arranged; doings = w.doings; roomy = w.roomy; free_if_done = w.free_if_done; large = w.large };
    alike = next_alike (story w) H h.alike;
  }

  -- a step on sheets that is a step on views
  made : (f g : Answer → History) (z : State × Answer) (y : View × Answer) → Agree m n z y → Reached n m y.0 (f y.1) → Alike (f z.1) (g z.1) → Sound z.0 (g z.1)
  made f g z y a r k =
      let q : Reached n m (view m n z.0) (f z.1) = subst₂ (λ V b. Reached n m V (f b)) (sym a.same) (sym a.says) r in
      record { sized = a.sized; come = q.come; alike = subst (λ B. Alike B (g z.1)) (sym q.is) k }

  module _ (C : State) (H : History) (h : Sound C H) where
    abbrev w : Come n m (view m n C) Always
    w = h.come

    unchanged : (z : State × Answer) (y : View × Answer) → Agree m n z y → Reached n m y.0 (story w) → Sound z.0 H
    unchanged z y a r = made (λ _. story w) (λ _. H) z y a r h.alike

    begun : (s : ℕ) (d : Doing) (z : State × Answer) (y : View × Answer) → suc (s - 1) ≡ s → Agree m n z y → Reached n m y.0 (begin_noted (s - 1) d y.1 (story w)) → Sound z.0 (begin_noted s d z.1 H)
    begun s d z y e a r = made (λ b. begin_noted (s - 1) d b (story w)) (λ b. begin_noted s d b H) z y a r (subst (λ k. Alike (begin_noted (s - 1) d z.1 (story w)) (begin_noted k d z.1 H)) e (begin_alike (story w) H h.alike (s - 1) d z.1))

    fetched : (s : ℕ) (z : State × Answer) (y : View × Answer) → suc (s - 1) ≡ s → Agree m n z y → Reached n m y.0 (fetch_noted (s - 1) y.1 (story w)) → Sound z.0 (fetch_noted s z.1 H)
    fetched s z y e a r = made (λ b. fetch_noted (s - 1) b (story w)) (λ b. fetch_noted s b H) z y a r (subst (λ k. Alike (fetch_noted (s - 1) z.1 (story w)) (fetch_noted k z.1 H)) e (fetch_alike (story w) H h.alike (s - 1) z.1))

    one : (c : Call) → let z = step m n C c in Sound z.0 (noted c z.1 H)
    one (begin_write s x) = ranged C (λ z. Sound z.0 (begin_noted s (writing x) z.1 H)) s m 5 _ h (λ e l. begun s (writing x) _ _ e (begins m n C h.sized (s - 1) (listing x) l) (write_reach n m (view m n C) (s - 1) x l w))
    one (begin_read s b) = ranged C (λ z. Sound z.0 (begin_noted s (reading b) z.1 H)) s m 5 _ h (λ e l. begun s (reading b) _ _ e (begins m n C h.sized (s - 1) (gathering b) l) (read_reach n m (view m n C) (s - 1) b l w))
    one (post s i) = let P : State × Answer → Type 0 = λ z. Sound z.0 H in
        ranged C P s m 5 _ h (λ _ l. ranged C P i n 6 _ h (λ _ k. unchanged _ _ (posts m n C h.sized (s - 1) (i - 1) l k) (post_reach n m (view m n C) (s - 1) (i - 1) l w)))
    one (land s i) = let P : State × Answer → Type 0 = λ z. Sound z.0 H in
        ranged C P s m 5 _ h (λ _ l. ranged C P i n 6 _ h (λ _ k. unchanged _ _ (lands m n C h.sized (s - 1) (i - 1) l k) (land_reach n m n0 small (view m n C) (s - 1) (i - 1) l k w)))
    one (fetch s i) = let P : State × Answer → Type 0 = λ z. Sound z.0 (fetch_noted s z.1 H) in
        ranged C P s m 5 _ h (λ e l. ranged C P i n 6 _ h (λ _ k. fetched s _ _ e (fetches m n C h.sized (s - 1) (i - 1) l k) (fetch_reach n m n0 small (view m n C) (s - 1) (i - 1) l k w)))
    one (stop s) = ranged C (λ z. Sound z.0 H) s m 5 _ h (λ _ l. unchanged _ _ (stops m n C h.sized (s - 1) l) (stop_reach n m (view m n C) (s - 1) w))
    one (lose i) = ranged C (λ z. Sound z.0 H) i n 6 _ h (λ _ k. unchanged _ _ (loses m n C h.sized (i - 1) k) (lose_reach n m (view m n C) (i - 1) w))

  pub sound : (cs : List Call) (C : State) (H : History) → Sound C H → Sound (end m n C cs) (history cs (answers m n C cs) H)
  sound [] C H h = h
  sound (c ∷ cs) C H h = sound cs _ _ (ticked _ _ (one C H h c))

  -- the seats' records show what the history says that the seats are doing
  records_show : (C : State) (H : History) → Sound C H → (s : ℕ) → s < m → RecordShows (activity (seat_at C s)) (H.doing (suc s))
  records_show C H h s l = subst₂ RecordShows (activity_here m n C.seats s l) (h.alike.doing s) (shown n ((view m n C).line s) _ _ _ _ (h.come.doings s tt))

  answers_fit : (cs : List Call) (C : State) (H : History) → Sound C H → AnswersFit cs (answers m n C cs) H
  answers_fit [] C H h = tt
  answers_fit (c ∷ cs) C H h = (step_fits m n C H.doing (records_show C H h) c, answers_fit cs _ _ (ticked _ _ (one C H h c)))

  -- what open hands over
  opens_none : (q : ℕ) (t o v : ℕ → ℕ) (k : ℕ) → opens q t o v (λ s. resting) k ≡ []
  opens_none q t o v zero = refl
  opens_none q t o v (suc k) = opens_none q t o v k

  module _ (C : State) (h : Opened m n C) where
    idle_at : (s : ℕ) → activities_of m n C.seats s ≡ idle
    idle_at s = cond_both (ltb s m) _ _ (λ a. a ≡ idle) (λ t. ap (λ k. activity_in k (seat_at C s)) (h.idle s (ltb-true s m t))) (λ _. refl)

    free_at : (s i : ℕ) → (lines_of m n C.lines s i).state ≡ lines.free
    free_at s i = cond_both (ltb s m && ltb i n) _ _ (λ (l : Line). l.state ≡ lines.free) (λ t. let z = and_parts (ltb s m) (ltb i n) t in h.free (s * n + i) (digits_lt (ltb-true s m z.0) (ltb-true i n z.1))) (λ _. refl)

    empty_at : (l : List Provider) → AllByRecursion (λ (p : Provider). (p.cells ≡ []) × (m + 2 ≤ p.capacity)) l → (i : ℕ) → (get_or l i no_provider).cells ≡ []
    empty_at [] a i = refl
    empty_at (p ∷ l) a zero = a.0.0
    empty_at (p ∷ l) a (suc i) = empty_at l a.1 i

    pub first : Sound C no_calls
    first = record {
      sized = record { seats = h.seats; lines = h.lines; row = h.row; flags = h.flags };
      come = record {
        st = first_state;
        trace = first_trace;
        run = opened;
        match = record {
          seats = λ s. sym (ap (λ a. seen a (λ i. pending a ((view m n C).line s i))) (idle_at s));
          transits = λ s i. sym (ap transit_of (free_at s i));
          cells = λ i. sym (empty_at C.row h.empty i);
        };
        doing = λ s. resting;
        ons = λ s. 0;
        finished = [];
        arranged = subst (λ l. Arranged l []) (sym (opens_none (majority n) (λ s. 0) (λ s. 0) (view m n C).version m)) done;
        doings = λ s _. subst (λ a. DoingOk n ((view m n C).line s) a ((view m n C).version s) resting 0) (sym (idle_at s)) refl;
        roomy = λ s i. ap holds_refusal (free_at s i);
        free_if_done = λ s i _. ap lines.is_free (free_at s i);
        large = λ i l. (All-get_or (λ (p : Provider). (p.cells ≡ []) × (m + 2 ≤ p.capacity)) C.row i no_provider (omega (arith, h.row)) h.empty).1;
      };
      alike = record { clock = refl; since = λ s. refl; doing = λ s. refl; ons = λ s. refl; finished = refl; plain = refl };
    }

  -- what a sound state and history say
  pub bounded : (C : State) (H : History) → Sound C H → AllByRecursion (λ (p : Provider). length p.cells ≤ m + 2) C.row
  bounded C H h =
      let w = h.come in
      let r = register n m n0 small w.st w.trace w.run in
      All-from_get_or _ C.row no_provider (λ i _. subst (λ c. length c ≤ m + 2) (w.match.cells i) (r.few_keys i))

  module _ (cs : List Call) (as' : List Answer) (E : State) (fit : AnswersFit cs as' no_calls) (h : Sound E (history cs as' no_calls)) where
    line_roomy : (k : ℕ) → k < m * n → holds_refusal (get_or E.lines k blank_line).state ≡ false
    line_roomy k l =
        let i = k % n in
        let s = k / n in
        let e : s * n + i ≡ k = omega (arith, mod-add-div' k n) in
        let li : i < n = mod-lt k n0 in
        let ls : s < m = (div-lt_iff_lt-mul n0).1 l in
        subst (λ k. holds_refusal (get_or E.lines k blank_line).state ≡ false) e (subst (λ (l : Line). holds_refusal l.state ≡ false) (line_here m n E.lines s i ls li) (h.come.roomy s i))

    lawful : Lawful m n cs as' E
    lawful =
        let w = h.come in
        let H = history cs as' no_calls in
        let r = register n m n0 small w.st w.trace w.run in
        let same = h.alike.plain in
        let exact : IsPermutation (H.finished ++ open_writes (majority n) (λ s. (seat_at E s).version) H m) w.trace.order = arranged_shuffled _ _ (subst₂ (λ f l. Arranged (f ++ l) w.trace.order) h.alike.finished (opens_open (majority n) (view m n E).version (story w) H h.alike m) w.arranged) in
        record {
          answers_fit = fit;
          order = w.trace.order;
          exactly = exact;
          rising = r.rising;
          above = r.above;
          in_time = r.in_time;
          shows = r.shows;
          plain_some = all_before H m (λ s. (seat_at E s).version) w.trace.order _ exact (placed cs as' no_calls first_placed) (subst (AllByRecursion (ShowsBy w.trace.order)) same r.plain_some);
          plain_new = subst (AllByRecursion (NotOld w.trace.order)) same r.plain_new;
          plain_none = subst (AllByRecursion (NoneBefore w.trace.order)) same r.plain_none;
          records_show = records_show E H h;
          few_keys = bounded E H h;
          roomy = All-from_get_or _ (take (m * n) E.lines) blank_line (λ i l. let b : i < m * n = omega (arith, length-take (m * n) E.lines) in subst (λ (l : Line). holds_refusal l.state ≡ false) (sym (get_or-take (m * n) E.lines i blank_line b)) (line_roomy i b));
        }

pub law : Law
law m n C h cs =
    let n0 = h.some_provider in
    let small = h.few_seats in
    let o = first m n n0 small C h in
    lawful m n n0 small cs (answers m n C cs) (end m n C cs) (answers_fit m n n0 small cs C no_calls o) (sound m n n0 small cs C no_calls o)
