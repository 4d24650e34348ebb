use Rattle.std.specs.Prelude.{ℕ, zero, suc, Bool, true, false, cond, List, [], ◌∷◌, ◌++◌, Some, None, Option, ◌==◌, nat_le}
use Rattle.protocol.specs.Answers.{Call, begin_write, begin_read, post, land, fetch, stop, lose, Answer, ok, on, dropped, wrote, read, read_none, used, refused}

-- What a list of calls and their answers say of the register: which operations there were, and when.

-- A write, or a read that finished. It began and ended at these places among the calls, counted from 1; a write that has
-- not finished ended at 0. A read shows this version and value; one that shows nothing has version 0 and no value.
pub record Operation : Type 0 where
  pub write : Bool
  pub begun : ℕ
  pub ended : ℕ
  pub version : ℕ
  pub value : Option (List ℕ)

-- the operation that a seat is in the middle of: none, a write of a value, or a read, settled or not
pub data Doing : Type 0 where
  resting : Doing
  writing : List ℕ → Doing
  reading : Bool → Doing

-- The place of the next call; of each seat what it is doing, since when, and how many of its fetches have answered "on"
-- since then; the writes and settled reads that have finished; and the plain reads that have.
pub record History : Type 0 where
  pub clock : ℕ
  pub since : ℕ → ℕ
  pub doing : ℕ → Doing
  pub ons : ℕ → ℕ
  pub finished : List Operation
  pub plain : List Operation

abbrev pub no_calls : History
no_calls = record { clock = 1; since = λ s. 0; doing = λ s. resting; ons = λ s. 0; finished = []; plain = [] }

-- f with another value at s
abbrev pub update : {X : Type 0} → (ℕ → X) → ℕ → X → ℕ → X
update f s x o = cond (s == o) x (f o)

-- an accepted begin begins an operation
abbrev pub begins : ℕ → Doing → History → History
begins s d H = record { clock = H.clock; since = update H.since s H.clock; doing = update H.doing s d; ons = update H.ons s 0; finished = H.finished; plain = H.plain }

abbrev pub begin_noted : ℕ → Doing → Answer → History → History
begin_noted s d ok H = begins s d H
begin_noted s d on H = H
begin_noted s d dropped H = H
begin_noted s d (wrote v) H = H
begin_noted s d (read v x) H = H
begin_noted s d read_none H = H
begin_noted s d used H = H
begin_noted s d (refused e) H = H

-- a seat's operation finishes, or is no operation after all
abbrev pub rests : ℕ → List Operation → List Operation → History → History
rests s f p H = record { clock = H.clock; since = H.since; doing = update H.doing s resting; ons = H.ons; finished = f; plain = p }

abbrev pub ended_now : Bool → ℕ → ℕ → Option (List ℕ) → History → Operation
ended_now w s v x H = record { write = w; begun = H.since s; ended = H.clock; version = v; value = x }

abbrev pub wrote_by : ℕ → ℕ → Doing → History → History
wrote_by s v resting H = H
wrote_by s v (reading b) H = H
wrote_by s v (writing x) H = rests s (ended_now true s v (Some x) H ∷ H.finished) H.plain H

abbrev pub read_by : ℕ → ℕ → Option (List ℕ) → Doing → History → History
read_by s v x resting H = H
read_by s v x (writing y) H = H
read_by s v x (reading true) H = rests s (ended_now false s v x H ∷ H.finished) H.plain H
read_by s v x (reading false) H = rests s H.finished (ended_now false s v x H ∷ H.plain) H

abbrev pub heard_on : ℕ → History → History
heard_on s H = record { clock = H.clock; since = H.since; doing = H.doing; ons = update H.ons s (suc (H.ons s)); finished = H.finished; plain = H.plain }

-- a fetch that answers "wrote", "read" or "none" finishes its seat's operation; a write ended by "used" is no write
abbrev pub fetch_noted : ℕ → Answer → History → History
fetch_noted s ok H = H
fetch_noted s on H = heard_on s H
fetch_noted s dropped H = H
fetch_noted s (wrote v) H = wrote_by s v (H.doing s) H
fetch_noted s (read v x) H = read_by s v (Some x) (H.doing s) H
fetch_noted s read_none H = read_by s 0 None (H.doing s) H
fetch_noted s used H = rests s H.finished H.plain H
fetch_noted s (refused e) H = H

abbrev pub noted : Call → Answer → History → History
noted (begin_write s x) a H = begin_noted s (writing x) a H
noted (begin_read s b) a H = begin_noted s (reading b) a H
noted (post s i) a H = H
noted (land s i) a H = H
noted (fetch s i) a H = fetch_noted s a H
noted (stop s) a H = H
noted (lose i) a H = H

abbrev pub next_call : History → History
next_call H = record { clock = suc H.clock; since = H.since; doing = H.doing; ons = H.ons; finished = H.finished; plain = H.plain }

abbrev pub history : List Call → List Answer → History → History
history [] ys H = H
history (c ∷ cs) [] H = H
history (c ∷ cs) (y ∷ ys) H = history cs ys (next_call (noted c y H))

-- The writes that have a version and have not finished. A write has one from the q-th "on" of its seat's fetches on; it is
-- the one in its seat's record at the end.
abbrev pub open_write : ℕ → ℕ → ℕ → History → Doing → List Operation
open_write q s v H resting = []
open_write q s v H (reading b) = []
open_write q s v H (writing x) = cond (nat_le q (H.ons s)) (record { write = true; begun = H.since s; ended = 0; version = v; value = Some x } ∷ []) []

-- of the seats 1 to k, whose versions are `version`, counted from 0
abbrev pub open_writes : ℕ → (ℕ → ℕ) → History → ℕ → List Operation
open_writes q version H zero = []
open_writes q version H (suc k) = open_write q (suc k) (version k) H (H.doing (suc k)) ++ open_writes q version H k
