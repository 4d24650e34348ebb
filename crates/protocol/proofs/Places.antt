-- No call both begins an operation and finishes another: the places at which operations began differ from those at which
-- plain reads ended.
use Rattle.std.proofs.Common.{◌≡◌, ℕ, zero, suc, ◌<◌, true, false, leb, ◌≢◌, List, [], ◌∷◌, ◌++◌, Option, sym, refl, subst, inl, inr, arith}
use Rattle.std.specs.List.{AllByRecursion}
use Rattle.std.specs.List.Sorted.{IsPermutation}
use Rattle.std.proofs.ByRecursion.{All-weaker, All-append, all_shuffled}
use Rattle.std.proofs.lemmas.Bool.{cond_both}
use Rattle.protocol.specs.Answers.{Call, begin_write, begin_read, post, land, fetch, stop, lose, Answer, ok, on, dropped, wrote, read, read_none, used, refused}
use Rattle.protocol.specs.History.{History, Operation, Doing, resting, writing, reading, update, begin_noted, wrote_by, read_by, fetch_noted, noted, next_call, history, no_calls, open_write, open_writes}
use Rattle.protocol.specs.Law.{AnyByRecursion, ShowsSome}
use Rattle.protocol.proofs.Invariant.{at1}
use Rattle.protocol.proofs.Lists.{all_and}
use Rattle.protocol.proofs.Model.{Code}
use Rattle.protocol.proofs.Register.{ShowsBy}

-- the next call is at c; operations began at t, f are those that finished, and p are the plain reads
pub record Places (c : ℕ) (t : ℕ → ℕ) (f p : List Operation) : Type 0 where
  pub since : (s : ℕ) → t s < c
  pub begun : AllByRecursion (λ o. o.begun < c) f
  pub ended : AllByRecursion (λ r. r.ended < c) p
  pub apart_since : (s : ℕ) → AllByRecursion (λ r. t s ≢ r.ended) p
  pub apart : AllByRecursion (λ o. AllByRecursion (λ r. o.begun ≢ r.ended) p) f

abbrev pub Placed : History → Type 0
Placed H = Places H.clock H.since H.finished H.plain

module _ (c : ℕ) (t : ℕ → ℕ) (f p : List Operation) (h : Places c t f p) where
  later : Places (suc c) t f p
  later = record { since = λ s. omega (arith, h.since s); begun = All-weaker _ _ (λ o q. omega arith) f h.begun; ended = All-weaker _ _ (λ r q. omega arith) p h.ended; apart_since = h.apart_since; apart = h.apart }

  begun_at : (s : ℕ) → Places (suc c) (update t s c) f p
  begun_at s = record {
    since = at1 (λ o k. k < suc c) t s c (omega arith) (λ o _. omega (arith, h.since o));
    begun = later.begun;
    ended = later.ended;
    apart_since = at1 (λ o k. AllByRecursion (λ r. k ≢ r.ended) p) t s c (All-weaker _ _ (λ r q e. omega (arith, q, e)) p h.ended) (λ o _. h.apart_since o);
    apart = h.apart;
  }

  more_finished : (s : ℕ) (o : Operation) → o.begun ≡ t s → Places (suc c) t (o ∷ f) p
  more_finished s o e = record { since = later.since; begun = (omega (arith, h.since s, e), later.begun); ended = later.ended; apart_since = h.apart_since; apart = (subst (λ k. AllByRecursion (λ r. k ≢ r.ended) p) (sym e) (h.apart_since s), h.apart) }

  more_plain : (r : Operation) → r.ended ≡ c → Places (suc c) t f (r ∷ p)
  more_plain r e = record {
    since = later.since;
    begun = later.begun;
    ended = (omega arith, later.ended);
    apart_since = λ s. ((λ q. omega (arith, h.since s, q, e)), h.apart_since s);
    apart = All-weaker _ _ (λ o q. ((λ k. omega (arith, q.0, k, e)), q.1)) f (all_and _ _ f h.begun h.apart);
  }

module _ (H : History) (h : Placed H) where
  still : Placed (next_call H)
  still = later H.clock H.since H.finished H.plain h

  begin_placed : (s : ℕ) (d : Doing) (a : Answer) → Placed (next_call (begin_noted s d a H))
  begin_placed s d ok = begun_at H.clock H.since H.finished H.plain h s
  begin_placed s d on = still
  begin_placed s d dropped = still
  begin_placed s d (wrote v) = still
  begin_placed s d (read v x) = still
  begin_placed s d read_none = still
  begin_placed s d used = still
  begin_placed s d (refused e) = still

  wrote_placed : (s v : ℕ) (d : Doing) → Placed (next_call (wrote_by s v d H))
  wrote_placed s v resting = still
  wrote_placed s v (reading b) = still
  wrote_placed s v (writing x) = more_finished H.clock H.since H.finished H.plain h s _ refl

  read_placed : (s v : ℕ) (x : Option Code) (d : Doing) → Placed (next_call (read_by s v x d H))
  read_placed s v x resting = still
  read_placed s v x (writing y) = still
  read_placed s v x (reading true) = more_finished H.clock H.since H.finished H.plain h s _ refl
  read_placed s v x (reading false) = more_plain H.clock H.since H.finished H.plain h _ refl

  fetch_placed : (s : ℕ) (a : Answer) → Placed (next_call (fetch_noted s a H))
  fetch_placed s ok = still
  fetch_placed s on = still
  fetch_placed s dropped = still
  fetch_placed s (wrote v) = wrote_placed s v (H.doing s)
  fetch_placed s (read v x) = read_placed s v _ (H.doing s)
  fetch_placed s read_none = read_placed s 0 _ (H.doing s)
  fetch_placed s used = still
  fetch_placed s (refused e) = still

  one_placed : (c : Call) (a : Answer) → Placed (next_call (noted c a H))
  one_placed (begin_write s x) a = begin_placed s (writing x) a
  one_placed (begin_read s b) a = begin_placed s (reading b) a
  one_placed (post s i) a = still
  one_placed (land s i) a = still
  one_placed (fetch s i) a = fetch_placed s a
  one_placed (stop s) a = still
  one_placed (lose i) a = still

pub placed : (cs : List Call) (ys : List Answer) (H : History) → Placed H → Placed (history cs ys H)
placed [] ys H h = h
placed (c ∷ cs) [] H h = h
placed (c ∷ cs) (y ∷ ys) H h = placed cs ys _ (one_placed H h c y)

pub first_placed : Placed no_calls
first_placed = record { since = λ s. omega arith; begun = tt; ended = tt; apart_since = λ s. tt; apart = tt }

-- what is shown began before
open_apart : (H : History) (q : ℕ) (version : ℕ → ℕ) → Placed H → (k : ℕ) → AllByRecursion (λ o. AllByRecursion (λ r. o.begun ≢ r.ended) H.plain) (open_writes q version H k)
open_apart H q version h zero = tt
open_apart H q version h (suc k) = All-append _ (open_write q (suc k) (version k) H (H.doing (suc k))) (open_writes q version H k) (one (H.doing (suc k))) (open_apart H q version h k)
  where
    one : (d : Doing) → AllByRecursion (λ o. AllByRecursion (λ r. o.begun ≢ r.ended) H.plain) (open_write q (suc k) (version k) H d)
    one resting = tt
    one (reading b) = tt
    one (writing x) = cond_both (leb q (H.ons (suc k))) _ _ (AllByRecursion (λ o. AllByRecursion (λ r. o.begun ≢ r.ended) H.plain)) (λ _. (h.apart_since (suc k), tt)) (λ _. tt)

all_swap : (R : Operation → Operation → Type 0) (l p : List Operation) → AllByRecursion (λ o. AllByRecursion (R o) p) l → AllByRecursion (λ r. AllByRecursion (λ o. R o r) l) p
all_swap R l [] h = tt
all_swap R l (r ∷ p) h = (All-weaker _ _ (λ o q. q.0) l h, all_swap R l p (All-weaker _ _ (λ o q. q.1) l h))

any_and : (P Q R : Operation → Type 0) → ((o : Operation) → P o → Q o → R o) → (l : List Operation) → AnyByRecursion P l → AllByRecursion Q l → AnyByRecursion R l
any_and P Q R f [] a h = a
any_and P Q R f (o ∷ l) (inl a) h = inl (f o a h.0)
any_and P Q R f (o ∷ l) (inr a) h = inr (any_and P Q R f l a h.1)

pub all_before : (H : History) (m : ℕ) (version : ℕ → ℕ) (order : List Operation) (q : ℕ) → IsPermutation (H.finished ++ open_writes q version H m) order → Placed H → AllByRecursion (ShowsBy order) H.plain → AllByRecursion (ShowsSome order) H.plain
all_before H m version order q e h s =
    let far = all_swap (λ o r. o.begun ≢ r.ended) order H.plain (all_shuffled _ _ order e (All-append _ H.finished (open_writes q version H m) h.apart (open_apart H q version h m))) in
    All-weaker _ _ (λ r z. elim z.0 [ inl y ↦ inl y | inr y ↦ inr (any_and _ _ _ (λ o a b. (a.0, a.1, a.2, omega (arith, a.3, b))) order y z.1) ]) H.plain (all_and _ _ H.plain s far)
