-- Where the seats' records show what the seats are doing, each step's answer fits.
use Rattle.std.proofs.Common.{◌≡◌, ℕ, suc, ◌-◌, ◌/◌, ◌<◌, Bool, true, false, not, ◌&&◌, ◌||◌, leb, Some, None, Option, sym, ap, subst, refl, arith}
use Rattle.std.proofs.lemmas.Bool.{cond_both, leb-true, and_parts, true≢false}
use Rattle.stores.specs.Provider.{Pair}
use Rattle.protocol.specs.Answers.{Call, begin_write, begin_read, post, land, fetch, stop, lose, Answer, ok, on, wrote, read}
use Rattle.protocol.specs.Fitting.{fits_begin, fits_fetch, fits_other, fits, RecordShows}
use Rattle.protocol.specs.History.{Doing, writing, reading}
use Rattle.protocol.specs.Lines.{LineState, free, sent, answered, is_free, Progress, Line}
use Rattle.protocol.specs.Moves.{advance}
use Rattle.protocol.specs.Phases.{PhaseResult, goes_on, majority, done_lines, largest_listed, newest_found, end_listing, end_gathering, result_of, phase_result}
use Rattle.protocol.specs.Requests.{Reply, keys_are, got, accepted, refused_by}
use Rattle.protocol.specs.Seats.{Activity, idle, stopped, listing, gathering, storing, activity, is_idle, is_stopped}
use Rattle.protocol.specs.Stages.{foreign}
use Rattle.protocol.specs.State.{State, seat_at, line_at, provider_at, lost_at}
use Rattle.protocol.specs.Steps.{check, refuse, outside, begin_at, post_at, land_line, land_at, conclude, unless_full, freed, looks_after, fetch_line, fetch_at, step}

-- a number that is in range
inside : (s m : ℕ) → outside s m ≡ false → (suc (s - 1) ≡ s) × (s - 1 < m)
inside s m f = let z = and_parts (leb 1 s) (leb s m) (un_not (leb 1 s && leb s m) f) in let a = leb-true 1 s z.0 in let b = leb-true s m z.1 in (omega arith, omega arith)
  where
    un_not : (b : Bool) → not b ≡ false → b ≡ true
    un_not true e = refl
    un_not false e = absurd (true≢false e)

-- a number out of range is refused
pub ranged : (C : State) (P : State × Answer → Type 0) (s k e : ℕ) (z : State × Answer) → P (refuse C e) → (suc (s - 1) ≡ s → s - 1 < k → P z) → P (check (outside s k) e C z)
ranged C P s k e z out go = cond_both (outside s k) _ _ P (λ _. out) (λ f. let i = inside s k f in go i.0 i.1)

module _ (n s : ℕ) (C : State) (d : Doing) where
  begin_fits : (a : Activity) → RecordShows (activity (seat_at C s)) d → fits_begin (begin_at n s a C).1 d ≡ true
  begin_fits a h =
      let P : State × Answer → Type 0 = λ z. fits_begin z.1 d ≡ true in
      cond_both (is_stopped (activity (seat_at C s))) _ _ P (λ _. refl) (λ _. cond_both (not (is_idle (activity (seat_at C s)))) _ _ P (λ _. refl) (λ f. resting_fits (activity (seat_at C s)) f h))
    where
      resting_fits : (a : Activity) → not (is_idle a) ≡ false → RecordShows a d → fits_begin ok d ≡ true
      resting_fits idle f h = ap (fits_begin ok) h
      resting_fits stopped f h = absurd (true≢false f)
      resting_fits (listing x) f h = absurd (true≢false f)
      resting_fits (gathering b) f h = absurd (true≢false f)
      resting_fits (storing b v x) f h = absurd (true≢false f)

-- what a seat comes to fits its operation
module _ (n s k : ℕ) (lines : ℕ → Line) (C : State) where
  abbrev Fits : Doing → PhaseResult → Type 0
  Fits d y = fits_fetch (conclude n s y C).1 d ≡ true

  gathered_fits : (b : Bool) (o : Option Pair) → Fits (reading b) (end_gathering b o)
  gathered_fits true None = refl
  gathered_fits false None = refl
  gathered_fits true (Some p) = refl
  gathered_fits false (Some p) = refl

  module _ (l : Line) (d : Doing) where
    on_fits : (a : Activity) → foreign a l ≡ false → RecordShows a d → Fits d goes_on
    on_fits idle f h = absurd (true≢false f)
    on_fits stopped f h = absurd (true≢false f)
    on_fits (listing x) f h = ap (fits_fetch on) h
    on_fits (gathering b) f h = ap (fits_fetch on) h
    on_fits (storing true v x) f h = ap (fits_fetch on) h
    on_fits (storing false v x) f h = ap (fits_fetch on) h

    end_fits : (a : Activity) → foreign a l ≡ false → RecordShows a d → Fits d (result_of n k lines a)
    end_fits idle f h = absurd (true≢false f)
    end_fits stopped f h = absurd (true≢false f)
    end_fits (listing x) f h = subst (λ d. Fits d (end_listing (largest_listed lines n) k x)) (sym h) (cond_both (leb 999999 (largest_listed lines n / 65536)) _ _ (Fits (writing x)) (λ _. refl) (λ _. refl))
    end_fits (gathering b) f h = subst (λ d. Fits d (end_gathering b (newest_found lines n))) (sym h) (gathered_fits b (newest_found lines n))
    end_fits (storing true v x) f h = ap (fits_fetch (wrote v)) h
    end_fits (storing false v x) f h = ap (fits_fetch (read v x)) h

    judged_fits : (a : Activity) (r : Reply) → foreign a l ≡ false → RecordShows a d → Fits d (unless_full r (phase_result n k lines a))
    judged_fits a r f h = go r
      where
        ended : Fits d (phase_result n k lines a)
        ended = cond_both (leb (majority n) (done_lines lines n)) _ _ (Fits d) (λ _. end_fits a f h) (λ _. on_fits a f h)

        go : (r : Reply) → Fits d (unless_full r (phase_result n k lines a))
        go (keys_are l) = ended
        go (got o) = ended
        go accepted = ended
        go (refused_by e) = on_fits a f h

module _ (n s i : ℕ) (a : Activity) (p : Progress) (C : State) (d : Doing) (h : RecordShows a d) where
  abbrev Fetches : State × Answer → Type 0
  Fetches z = fits_fetch z.1 d ≡ true

  fetched_fits : (w : LineState) → Fetches (fetch_line n s i a p w C)
  fetched_fits free = refl
  fetched_fits (sent b q) = refl
  fetched_fits (answered true r) = refl
  fetched_fits (answered false r) =
      let l : Line = record { state = answered false r; progress = p } in
      let E : State = freed n s i (advance a r p) (looks_after C.looks p (advance a r p)) C in
      cond_both (foreign a l) _ _ Fetches (λ _. refl) (λ f. judged_fits n s (suc s) (line_at n E.lines s) E l d a r f h)

fetch_fits : (n s i : ℕ) (a : Activity) (l : Line) (C : State) (d : Doing) → RecordShows a d → fits_fetch (fetch_at n s i a l C).1 d ≡ true
fetch_fits n s i a l C d h = cond_both (is_stopped a) _ _ (Fetches n s i a l.progress C d h) (λ _. refl) (λ _. fetched_fits n s i a l.progress C d h l.state)

-- post, land, stop and lose are accepted or refused
abbrev Other : State × Answer → Type 0
Other z = fits_other z.1 ≡ true

post_fits : (n s i : ℕ) (a : Activity) (l : Line) (C : State) → Other (post_at n s i a l C)
post_fits n s i a l C = cond_both (is_stopped a) _ _ Other (λ _. refl) (λ _. cond_both (is_idle a || foreign a l) _ _ Other (λ _. refl) (λ _. cond_both l.progress.done _ _ Other (λ _. refl) (λ _. cond_both (not (is_free l.state)) _ _ Other (λ _. refl) (λ _. refl))))

land_fits : (n s i : ℕ) (l : Line) (C : State) → Other (land_at n s i l C)
land_fits n s i l C = cond_both (lost_at C i) _ _ Other (λ _. refl) (λ _. landed_fits l.state)
  where
    landed_fits : (w : LineState) → Other (land_line n s i (provider_at C i) l.progress w C)
    landed_fits free = refl
    landed_fits (sent b q) = refl
    landed_fits (answered b r) = refl

pub step_fits : (m n : ℕ) (C : State) (doing : ℕ → Doing) → ((s : ℕ) → s < m → RecordShows (activity (seat_at C s)) (doing (suc s))) → (c : Call) → fits c (step m n C c).1 doing ≡ true
step_fits m n C doing h = go
  where
    here : (s : ℕ) → suc (s - 1) ≡ s → s - 1 < m → RecordShows (activity (seat_at C (s - 1))) (doing s)
    here s e l = subst (λ k. RecordShows (activity (seat_at C (s - 1))) (doing k)) e (h (s - 1) l)

    go : (c : Call) → fits c (step m n C c).1 doing ≡ true
    go (begin_write s x) = ranged C (λ z. fits_begin z.1 (doing s) ≡ true) s m 5 _ refl (λ e l. begin_fits n (s - 1) C (doing s) (listing x) (here s e l))
    go (begin_read s b) = ranged C (λ z. fits_begin z.1 (doing s) ≡ true) s m 5 _ refl (λ e l. begin_fits n (s - 1) C (doing s) (gathering b) (here s e l))
    go (post s i) = ranged C Other s m 5 _ refl (λ _ _. ranged C Other i n 6 _ refl (λ _ _. post_fits n (s - 1) (i - 1) (activity (seat_at C (s - 1))) (line_at n C.lines (s - 1) (i - 1)) C))
    go (land s i) = ranged C Other s m 5 _ refl (λ _ _. ranged C Other i n 6 _ refl (λ _ _. land_fits n (s - 1) (i - 1) (line_at n C.lines (s - 1) (i - 1)) C))
    go (fetch s i) =
        let P : State × Answer → Type 0 = λ z. fits_fetch z.1 (doing s) ≡ true in
        ranged C P s m 5 _ refl (λ e l. ranged C P i n 6 _ refl (λ _ _. fetch_fits n (s - 1) (i - 1) (activity (seat_at C (s - 1))) (line_at n C.lines (s - 1) (i - 1)) C (doing s) (here s e l)))
    go (stop s) = ranged C Other s m 5 _ refl (λ _ _. cond_both (is_stopped (activity (seat_at C (s - 1)))) _ _ Other (λ _. refl) (λ _. refl))
    go (lose i) = ranged C Other i n 6 _ refl (λ _ _. cond_both (lost_at C (i - 1)) _ _ Other (λ _. refl) (λ _. refl))
