-- A view, and its history, match a run of the model.
use Rattle.std.proofs.Common.{◌≡◌, ℕ, zero, suc, ◌+◌, ◌<◌, ◌≤◌, Bool, true, false, ◌≢◌, List, ◌++◌, Option, sym, refl, ap, ◌∙◌, subst}
use mathlib.Core.Path.{fun_ext}
use Rattle.std.proofs.lemmas.Bool.{true≢false}
use Rattle.stores.specs.Provider.{Provider}
use Rattle.protocol.specs.History.{History, Operation, Doing, resting, writing, reading, update}
use Rattle.protocol.specs.Law.{holds_refusal}
use Rattle.protocol.specs.Lines.{LineState, free, sent, answered, is_free, stale_state, Progress, Line, restarted, restart_line}
use Rattle.protocol.specs.Moves.{advance}
use Rattle.protocol.specs.Phases.{count, majority, counts, done_lines}
use Rattle.protocol.specs.Requests.{Request, reply}
use Rattle.protocol.specs.Seats.{Activity, idle, stopped, listing, gathering, storing}
use Rattle.protocol.specs.Stages.{request_of}
use Rattle.protocol.proofs.Arrangements.{Arranged}
use Rattle.protocol.proofs.Decoding.{list_progress, store_progress, gather_progress, store_asks, gather_asks, Roomy, list_moves, store_moves, gather_moves}
use Rattle.protocol.proofs.Invariant.{at1, at3, at_line}
use Rattle.protocol.proofs.Model as M
use Rattle.protocol.proofs.Model.{Code, ModelSeat, Transit, listed_once, top, next_store, next_gather}
use Rattle.protocol.proofs.ModelLines.{Asked, SeatOk}
use Rattle.protocol.proofs.ModelSteps as S
use Rattle.protocol.proofs.ModelSteps.{ModelState, update_two}
use Rattle.protocol.proofs.OpenWrites.{opens}
use Rattle.protocol.proofs.Register.{Run}
use Rattle.protocol.proofs.Trace.{Trace}
use Rattle.protocol.proofs.Updates.{update_map}
use Rattle.protocol.proofs.View.{View, turn}

abbrev pub transit_of : LineState → Transit
transit_of free = M.free
transit_of (sent b q) = M.sent b q
transit_of (answered b r) = M.returned b

-- the progress that a line comes to once its answer, if it has one that is not stale, is fetched
abbrev pub pend : Activity → Progress → LineState → Progress
pend a p free = p
pend a p (sent b q) = p
pend a p (answered true r) = p
pend a p (answered false r) = advance a r p

abbrev pub pending : Activity → Line → Progress
pending a l = pend a l.progress l.state

abbrev pub seen : Activity → (ℕ → Progress) → ModelSeat
seen idle p = M.idle
seen stopped p = M.stopped
seen (listing x) p = M.listing x (λ i. list_progress (p i))
seen (gathering b) p = M.gathering b (λ i. gather_progress (p i))
seen (storing b v x) p = M.storing b v x (λ i. store_progress (p i))

pub record Match (V : View) (st : ModelState) : Type 0 where
  pub seats : (s : ℕ) → st.seat s ≡ seen (V.activity s) (λ i. pending (V.activity s) (V.line s i))
  pub transits : (s i : ℕ) → st.transit s i ≡ transit_of (V.line s i).state
  pub cells : (i : ℕ) → (st.provider i).cells ≡ (V.provider i).cells

-- what the history says of a seat fits what the seat is doing; v is the version in its record
abbrev pub DoingOk : ℕ → (ℕ → Line) → Activity → ℕ → Doing → ℕ → Type 0
DoingOk n ls idle v d o = d ≡ resting
DoingOk n ls stopped v d o = Unit {0}
DoingOk n ls (listing x) v d o = (d ≡ writing x) × (o ≡ done_lines ls n) × (o < majority n)
DoingOk n ls (gathering b) v d o = d ≡ reading b
DoingOk n ls (storing true u x) v d o = (d ≡ writing x) × (majority n ≤ o) × (v ≡ u)
DoingOk n ls (storing false u x) v d o = d ≡ reading true

-- a line that is done is free
abbrev pub FreeIfDone : Line → Type 0
FreeIfDone l = l.progress.done ≡ true → is_free l.state ≡ true

-- so a line that is not free is not done
pub not_done : (l : Line) → FreeIfDone l → is_free l.state ≡ false → l.progress.done ≡ false
not_done l r f = go l.progress.done r
  where
    go : (b : Bool) → (b ≡ true → is_free l.state ≡ true) → b ≡ false
    go true r = absurd (true≢false (sym (r refl) ∙ f))
    go false r = refl

-- What a view has come to is what some run comes to. Of seat s, if `but` says so, the history is still to be told.
pub record Come (n seats : ℕ) (V : View) (but : ℕ → Type 0) : Type 0 where
  pub st : ModelState
  pub trace : Trace
  pub run : Run n seats st trace
  pub match : Match V st
  pub doing : ℕ → Doing
  pub ons : ℕ → ℕ
  pub finished : List Operation
  pub arranged : Arranged (finished ++ opens (majority n) trace.since ons V.version doing seats) trace.order
  pub doings : (s : ℕ) → but s → DoingOk n (V.line s) (V.activity s) (V.version s) (doing s) (ons s)
  pub roomy : (s i : ℕ) → holds_refusal (V.line s i).state ≡ false
  pub free_if_done : (s i : ℕ) → FreeIfDone (V.line s i)
  pub large : (i : ℕ) → i < n → seats + 2 ≤ (V.provider i).capacity

abbrev pub Always : ℕ → Type 0
Always s = Unit {0}

abbrev pub But : ℕ → ℕ → Type 0
But s o = s ≢ o

-- the history, of seats from 0 on
abbrev pub told : Trace → (ℕ → Doing) → (ℕ → ℕ) → List Operation → History
told L d o f = record { clock = L.clock; since = L.since; doing = d; ons = o; finished = f; plain = L.plain }

abbrev pub story : {n seats : ℕ} {V : View} {but : ℕ → Type 0} → Come n seats V but → History
story w = told w.trace w.doing w.ons w.finished

pub record Reached (n seats : ℕ) (V : View) (H : History) : Type 0 where
  pub come : Come n seats V Always
  pub is : story come ≡ H

pub still : {n seats : ℕ} {V : View} (w : Come n seats V Always) → Reached n seats V (story w)
still w = record { come = w; is = refl }

pub seen_cong : (a : Activity) (p q : ℕ → Progress) → ((i : ℕ) → p i ≡ q i) → seen a p ≡ seen a q
seen_cong a p q e = ap (seen a) (fun_ext e)

-- one line is written again, its pending progress as before
pub same_progress : (V : View) (st : ModelState) → Match V st → (s i : ℕ) (l : Line) → pending (V.activity s) l ≡ pending (V.activity s) (V.line s i) → (o : ℕ) → st.seat o ≡ seen (V.activity o) (λ j. pending (V.activity o) (update_two V.line s i l o j))
same_progress V st m s i l e o = m.seats o ∙ seen_cong (V.activity o) _ _ (λ j. at_line (λ o j l. pending (V.activity o) (V.line o j) ≡ pending (V.activity o) l) V.line s i l (sym e) (λ o j. refl) o j)

pub ask_seen : (a : Activity) (p : ℕ → Progress) (i : ℕ) → (p i).done ≡ false → M.ask (seen a p) i ≡ request_of a (p i)
ask_seen idle p i f = refl
ask_seen stopped p i f = refl
ask_seen (listing x) p i f = refl
ask_seen (gathering b) p i f = gather_asks b (p i) f
ask_seen (storing b v x) p i f = store_asks b v x (p i) f

abbrev pub Working : Activity → Type 0
Working idle = ⊥
Working stopped = ⊥
Working (listing x) = Unit {0}
Working (gathering b) = Unit {0}
Working (storing b v x) = Unit {0}

pub active : (a : Activity) (p : ℕ → Progress) → Working a → S.Active (seen a p)
active idle p h = h
active stopped p h = h
active (listing x) p h = tt
active (gathering b) p h = tt
active (storing b v x) p h = tt

-- a phase starts or an operation ends
restart_pending : (a : Activity) (l : Line) → pending a (restart_line l) ≡ restarted l.progress
restart_pending a l = go l.state
  where
    go : (w : LineState) → pend a (restarted l.progress) (stale_state w) ≡ restarted l.progress
    go free = refl
    go (sent b r) = refl
    go (answered b r) = refl

stale_transits : (w : LineState) → S.stale (transit_of w) ≡ transit_of (stale_state w)
stale_transits free = refl
stale_transits (sent b r) = refl
stale_transits (answered b r) = refl

pub enter_match : (V : View) (st : ModelState) → Match V st → (s : ℕ) (a : Activity) (q : ModelSeat) → q ≡ seen a (λ i. restarted (V.line s i).progress) → (g : ℕ → Option Code) (low : ℕ) (floor : ℕ → ℕ) (highest latest : ℕ) → Match (turn V s a) (S.enter st s q g low floor highest latest)
enter_match V st m s a q e g low floor highest latest = record {
  seats = at3 (λ o q a ls. q ≡ seen a (λ j. pending a (ls j))) st.seat V.activity V.line s q a (λ i. restart_line (V.line s i))
      (e ∙ sym (seen_cong a (λ j. pending a (restart_line (V.line s j))) (λ j. restarted (V.line s j).progress) (λ j. restart_pending a (V.line s j)))) (λ o _. m.seats o);
  transits = at3 (λ o w ls _. (j : ℕ) → w j ≡ transit_of (ls j).state) st.transit V.line V.line s (λ i. S.stale (st.transit s i)) (λ i. restart_line (V.line s i)) (λ i. restart_line (V.line s i))
      (λ j. ap S.stale (m.transits s j) ∙ stale_transits (V.line s j).state) (λ o _. m.transits o);
  cells = m.cells;
}

stale_roomy : (w : LineState) → holds_refusal w ≡ false → holds_refusal (stale_state w) ≡ false
stale_roomy free h = refl
stale_roomy (sent b r) h = refl
stale_roomy (answered b r) h = h

pub turn_roomy : (V : View) (s : ℕ) → ((s i : ℕ) → holds_refusal (V.line s i).state ≡ false) → (o i : ℕ) → holds_refusal (update V.line s (λ i. restart_line (V.line s i)) o i).state ≡ false
turn_roomy V s h = at1 (λ o ls. (i : ℕ) → holds_refusal (ls i).state ≡ false) V.line s (λ i. restart_line (V.line s i)) (λ i. stale_roomy (V.line s i).state (h s i)) (λ o _. h o)

pub line_roomy : (V : View) (s i : ℕ) (l : Line) → holds_refusal l.state ≡ false → ((s i : ℕ) → holds_refusal (V.line s i).state ≡ false) → (o j : ℕ) → holds_refusal (update_two V.line s i l o j).state ≡ false
line_roomy V s i l a h = at_line (λ o j l. holds_refusal l.state ≡ false) V.line s i l a h

pub turn_free_if_done : (V : View) (s : ℕ) → ((s i : ℕ) → FreeIfDone (V.line s i)) → (o i : ℕ) → FreeIfDone (update V.line s (λ i. restart_line (V.line s i)) o i)
turn_free_if_done V s h = at1 (λ o ls. (i : ℕ) → FreeIfDone (ls i)) V.line s (λ i. restart_line (V.line s i)) (λ i d. absurd (true≢false (sym d))) (λ o _. h o)

pub line_free_if_done : (V : View) (s i : ℕ) (l : Line) → FreeIfDone l → ((s i : ℕ) → FreeIfDone (V.line s i)) → (o j : ℕ) → FreeIfDone (update_two V.line s i l o j)
line_free_if_done V s i l a h = at_line (λ o j l. FreeIfDone l) V.line s i l a h

-- no line counts in a phase that starts
pub none_counted : (k : ℕ) (ls : ℕ → Line) → done_lines (λ i. restart_line (ls i)) k ≡ 0
none_counted zero ls = refl
none_counted (suc k) ls = none_counted k ls

-- one line is written again, and counts as before
pub doing_same : (n : ℕ) (ls ks : ℕ → Line) (a : Activity) (v : ℕ) (d : Doing) (o : ℕ) → ((x : Code) → a ≡ listing x → (j : ℕ) → counts (ks j) ≡ counts (ls j)) → DoingOk n ls a v d o → DoingOk n ks a v d o
doing_same n ls ks idle v d o e h = h
doing_same n ls ks stopped v d o e h = tt
doing_same n ls ks (listing x) v d o e h = (h.0, h.1 ∙ ap (λ f. count f n) (fun_ext (λ j. sym (e x refl j))), h.2)
doing_same n ls ks (gathering b) v d o e h = h
doing_same n ls ks (storing true u x) v d o e h = h
doing_same n ls ks (storing false u x) v d o e h = h

-- an answer moves the record as it moves the model
pub seat_moves : (g : ℕ → Option Code) (s : ℕ) (a : Activity) (p : ℕ → Progress) (i : ℕ) (q : Request) (d : Provider) → Roomy q d → SeatOk g s (seen a p) → Asked g s i q (seen a p) →
    M.next (seen a p) i d.cells ≡ seen a (update p i (advance a (reply q d) (p i)))
seat_moves g s idle p i q d l k e = refl
seat_moves g s stopped p i q d l k e = refl
seat_moves g s (listing x) p i q d l k e = ap (M.listing x) (fun_ext (update_map (λ o y. list_progress y) (λ j. list_progress (p j)) p i (listed_once (list_progress (p i)) (top d.cells)) (advance (listing x) (reply q d) (p i)) (λ o _. refl)
    (sym (ap (λ q. list_progress (advance (listing x) (reply q d) (p i))) e ∙ list_moves x (p i) d))))
seat_moves g s (gathering b) p i q d l k e = ap (M.gathering b) (fun_ext (update_map (λ o y. gather_progress y) (λ j. gather_progress (p j)) p i (next_gather d.cells (gather_progress (p i))) (advance (gathering b) (reply q d) (p i)) (λ o _. refl)
    (sym (ap (λ q. gather_progress (advance (gathering b) (reply q d) (p i))) e ∙ gather_moves b (p i) d))))
seat_moves g s (storing b v x) p i q d l k e = ap (M.storing b v x) (fun_ext (update_map (λ o y. store_progress y) (λ j. store_progress (p j)) p i (next_store v d.cells (store_progress (p i))) (advance (storing b v x) (reply q d) (p i)) (λ o _. refl)
    (sym (ap (λ q. store_progress (advance (storing b v x) (reply q d) (p i))) e ∙ store_moves b v x (p i) d k.0 (subst (λ q. Roomy q d) e l)))))
