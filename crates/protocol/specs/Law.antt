use Rattle.std.specs.Prelude.{◌≡◌, ℕ, suc, ◌+◌, ◌*◌, ◌<◌, ◌≤◌, Bool, true, false, cond, ◌≢◌, ◌⊎◌, List, [], ◌∷◌, ◌++◌, length, take, None, Option, slice_index_or}
use Rattle.std.specs.List.{AllByRecursion}
use Rattle.std.specs.List.Sorted.{IsPermutation}
use Rattle.stores.specs.Provider.{Provider}
use Rattle.protocol.specs.Answers.{Call, Answer}
use Rattle.protocol.specs.Fitting.{AnswersFit, RecordShows}
use Rattle.protocol.specs.History.{Operation, no_calls, history, open_writes}
use Rattle.protocol.specs.Lines.{LineState, free, sent, answered, Line, blank_line}
use Rattle.protocol.specs.Lines as st
use Rattle.protocol.specs.Phases.{majority}
use Rattle.protocol.specs.Requests.{Reply, keys_are, got, accepted, refused_by}
use Rattle.protocol.specs.Seats.{activity}
use Rattle.protocol.specs.State.{State, seat_at}
use Rattle.protocol.specs.Steps.{step}
use Rattle.protocol.specs.declared.phase.Phase.TheVariants.{Idle}

-- R holds of each two elements, the earlier first
abbrev pub EachTwo : {X : Type 0} → (X → X → Type 0) → List X → Type 0
EachTwo R [] = Unit {0}
EachTwo R (x ∷ l) = AllByRecursion (R x) l × EachTwo R l

-- P holds of some element
abbrev pub AnyByRecursion : {X : Type 0} → (X → Type 0) → List X → Type 0
AnyByRecursion P [] = ⊥
AnyByRecursion P (x ∷ l) = P x ⊎ AnyByRecursion P l

-- a finished before place t
abbrev pub EndedBefore : ℕ → Operation → Type 0
EndedBefore t a = (a.ended ≢ 0) × (a.ended < t)

-- if both are writes, the version rises from a to b
abbrev pub VersionsRise : Operation → Operation → Type 0
VersionsRise a b = a.write ≡ true → b.write ≡ true → a.version < b.version

-- a may stand before b: b did not finish before a began
abbrev pub InTime : Operation → Operation → Type 0
InTime a b = EndedBefore a.begun b → ⊥

-- Each read shows the latest write that stands before it; version v and value x are those of the latest write so far.
abbrev pub ShowLatest : ℕ → Option (List ℕ) → List Operation → Type 0
ShowLatest v x [] = Unit {0}
ShowLatest v x (o ∷ l) = cond o.write (ShowLatest o.version o.value l) ((o.version ≡ v) × (o.value ≡ x) × ShowLatest v x l)

-- A plain read shows nothing, or a write that began before the read finished.
abbrev pub ShowsSome : List Operation → Operation → Type 0
ShowsSome order r = ((r.version ≡ 0) × (r.value ≡ None)) ⊎ AnyByRecursion (λ w. (w.write ≡ true) × (w.version ≡ r.version) × (w.value ≡ r.value) × (w.begun < r.ended)) order

-- No write that finished before the plain read began stands after the one that it shows: none has a larger version.
abbrev pub NotOld : List Operation → Operation → Type 0
NotOld order r = AllByRecursion (λ w. w.write ≡ true → EndedBefore r.begun w → w.version ≤ r.version) order

-- A plain read shows nothing only if no write had finished before it began.
abbrev pub NoneBefore : List Operation → Operation → Type 0
NoneBefore order r = r.version ≡ 0 → AllByRecursion (λ w. w.write ≡ true → EndedBefore r.begun w → ⊥) order

-- a line holds a refusal: a put found no room
abbrev pub is_refusal : Reply → Bool
is_refusal (keys_are l) = false
is_refusal (got o) = false
is_refusal accepted = false
is_refusal (refused_by e) = true

abbrev pub holds_refusal : LineState → Bool
holds_refusal free = false
holds_refusal (sent b q) = false
holds_refusal (answered b r) = is_refusal r

-- the writes that have a version, and the settled reads that have finished
abbrev pub standing : ℕ → ℕ → List Call → List Answer → State → List Operation
standing m n calls answers end = (history calls answers no_calls).finished ++ open_writes (majority n) (λ s. (seat_at end s).version) (history calls answers no_calls) m

abbrev pub plain_reads : List Call → List Answer → List Operation
plain_reads calls answers = (history calls answers no_calls).plain

-- What a run of calls on a relay of m seats and n providers obeys: the calls, their answers, and the state at their end.
pub record Lawful (m n : ℕ) (calls : List Call) (answers : List Answer) (end : State) : Type 0 where
  -- each call has one answer, which fits the operation that its seat is in the middle of;
  pub answers_fit : AnswersFit calls answers no_calls
  -- there is one order of the operations,
  pub order : List Operation
  -- which has exactly the writes that have a version and the finished settled reads, each once;
  pub exactly : IsPermutation (standing m n calls answers end) order
  -- writes stand in it by strictly rising version, and every version is above (0, 0);
  pub rising : EachTwo VersionsRise order
  pub above : AllByRecursion (λ w. w.write ≡ true → 0 < w.version) order
  -- an operation that finished before another began stands before it;
  pub in_time : EachTwo InTime order
  -- each read in it shows the latest write that stands before it, or nothing if there is none;
  pub shows : ShowLatest 0 None order
  -- a plain read shows a write that began before the read finished, or nothing,
  pub plain_some : AllByRecursion (ShowsSome order) (plain_reads calls answers)
  -- no write that finished before the plain read began stands after the one shown,
  pub plain_new : AllByRecursion (NotOld order) (plain_reads calls answers)
  -- and it shows nothing only if no write had finished before it began;
  pub plain_none : AllByRecursion (NoneBefore order) (plain_reads calls answers)
  -- at the end the seats' records show the operations that they are in the middle of;
  pub records_show : (s : ℕ) → s < m → RecordShows (activity (seat_at end s)) ((history calls answers no_calls).doing (suc s))
  -- each provider holds at most m + 2 keys,
  pub few_keys : AllByRecursion (λ (p : Provider). length p.cells ≤ m + 2) end.row
  -- and no line holds the answer that a put found no room.
  pub roomy : AllByRecursion (λ (l : Line). holds_refusal l.state ≡ false) (take (m * n) end.lines)

-- the answers to a list of calls, and the state that the calls lead to
abbrev pub answers : ℕ → ℕ → State → List Call → List Answer
answers m n C [] = []
answers m n C (c ∷ cs) = (step m n C c).1 ∷ answers m n (step m n C c).0 cs

abbrev pub end : ℕ → ℕ → State → List Call → State
end m n C [] = C
end m n C (c ∷ cs) = end m n (step m n C c).0 cs

-- What an accepted open hands over: at least one provider, each empty and with room for m + 2 keys, and sheets that are long
-- enough, with idle seats and free lines. (A seat's number has 16 bits; open takes at most 16 seats and 7 providers.)
pub record Opened (m n : ℕ) (C : State) : Type 0 where
  pub some_provider : 0 < n
  pub few_seats : m ≤ 65534
  pub row : length C.row ≡ n
  pub empty : AllByRecursion (λ (p : Provider). (p.cells ≡ []) × (m + 2 ≤ p.capacity)) C.row
  pub flags : n ≤ length C.lost
  pub seats : m ≤ length C.seats
  pub lines : m * n ≤ length C.lines
  pub idle : (s : ℕ) → s < m → (seat_at C s).phase ≡ Idle
  pub free : (k : ℕ) → k < m * n → (slice_index_or C.lines k blank_line).state ≡ st.free

-- every list of calls on an opened relay is lawful
abbrev pub Law : Type 0
Law = (m n : ℕ) (C : State) → Opened m n C → (calls : List Call) → Lawful m n calls (answers m n C calls) (end m n C calls)
