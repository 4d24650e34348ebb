use Rattle.std.specs.Prelude.{ℕ, Bool, false, List, map, take, drop, Ok, Err, Result}
use Rattle.std.specs.Option.{option_map}
use Rattle.values.specs.Rank.{rank}
use Rattle.values.specs.declared.version.Version.{Version}
use Rattle.values.specs.Refusals.{refusal_number}
use Rattle.values.specs.declared.refusal.Refusal.{Refusal}
use Rattle.stores.specs.Provider.{cell}
use Rattle.stores.specs.Operations.{pair_means}
use Rattle.protocol.specs.Answers as ans
use Rattle.protocol.specs.Lines as lin
use Rattle.protocol.specs.Moves.{advance}
use Rattle.protocol.specs.Requests as req
use Rattle.protocol.specs.Seats as sea
use Rattle.protocol.specs.Seats.{Activity}
use Rattle.records.specs.declared.answer.Answer.{Answer}
use Rattle.records.specs.declared.answer.Answer.TheVariants as said
use Rattle.records.specs.declared.call.Call.{Call}
use Rattle.records.specs.declared.call.Call.TheVariants as made
use Rattle.records.specs.declared.key_list.KeyList.{KeyList}
use Rattle.records.specs.declared.line.Line.{Line}
use Rattle.records.specs.declared.line.Reply.{Reply}
use Rattle.records.specs.declared.line.Reply.TheVariants as rep
use Rattle.records.specs.declared.line.Request.{Request}
use Rattle.records.specs.declared.line.Request.TheVariants as ask
use Rattle.records.specs.declared.line.Transit.{Transit}
use Rattle.records.specs.declared.line.Transit.TheVariants as tra
use Rattle.records.specs.declared.seat.Seat.{Seat}

-- What the records of a relay mean, in the terms of the protocol. `code` gives the bytes that a value is written as.

-- the keys of a list, and the same by rank
abbrev pub keys_of : KeyList → List Version
keys_of l = drop l.from (take l.end l.keys)

abbrev pub listed : KeyList → List ℕ
listed l = map rank (keys_of l)

abbrev pub seat_means : {V : Type 0} → (V → List ℕ) → Seat V → sea.Seat
seat_means code q = record { phase = q.phase; operation = q.operation; version = rank q.version; value = code q.value }

abbrev pub request_means : {V : Type 0} → (V → List ℕ) → Request V → req.Request
request_means code ask.List = req.list_keys
request_means code (ask.Get k) = req.get_key (rank k)
request_means code (ask.Put k s) = req.put_cell (cell k s.version (code s.value))
request_means code (ask.Remove k) = req.remove_key (rank k)

abbrev pub reply_means : {V : Type 0} → (V → List ℕ) → Reply V → req.Reply
reply_means code (rep.Keys l) = req.keys_are (listed l)
reply_means code (rep.Got o) = req.got (option_map (pair_means code) o)
reply_means code rep.Done = req.accepted

-- A provider's refusal is an answer, too.
abbrev pub answer_means : {V : Type 0} → (V → List ℕ) → Result (Reply V) Refusal → req.Reply
answer_means code (Ok r) = reply_means code r
answer_means code (Err e) = req.refused_by (refusal_number e)

abbrev pub transit_means : {V : Type 0} → (V → List ℕ) → Transit V → lin.LineState
transit_means code tra.Free = lin.free
transit_means code (tra.Sent b q) = lin.sent b (request_means code q)
transit_means code (tra.Answered b r) = lin.answered b (answer_means code r)

-- whether what is on the way is stale; where nothing is, it is not
abbrev pub is_stale : lin.LineState → Bool
is_stale lin.free = false
is_stale (lin.sent b q) = b
is_stale (lin.answered b r) = b

abbrev pub progress_means : {V : Type 0} → (V → List ℕ) → Line V → lin.Progress
progress_means code l = record { stage = l.stage; done = l.done; mark = rank l.mark; older = listed l.older; largest = rank l.largest; found = option_map (pair_means code) l.found }

abbrev pub line_means : {V : Type 0} → (V → List ℕ) → Line V → lin.Line
line_means code l = record { state = transit_means code l.transit; progress = progress_means code l }

-- how far a line is once the answer that it has is taken; without one it stays where it is
abbrev pub advance_own : Activity → lin.LineState → lin.Progress → lin.Progress
advance_own a (lin.answered b r) p = advance a r p
advance_own a x p = p

-- what a call and its answer mean
abbrev pub call_means : {V : Type 0} → (V → List ℕ) → Call V → ans.Call
call_means code (made.BeginWrite s x) = ans.begin_write s (code x)
call_means code (made.BeginRead s b) = ans.begin_read s b
call_means code (made.Post s i) = ans.post s i
call_means code (made.Land s i) = ans.land s i
call_means code (made.Fetch s i) = ans.fetch s i
call_means code (made.Stop s) = ans.stop s
call_means code (made.Lose i) = ans.lose i

abbrev pub accepted_as : {V : Type 0} → (V → List ℕ) → Answer V → ans.Answer
accepted_as code said.Accepted = ans.ok
accepted_as code said.On = ans.on
accepted_as code said.Dropped = ans.dropped
accepted_as code (said.Wrote v) = ans.wrote (rank v)
accepted_as code (said.Read v x) = ans.read (rank v) (code x)
accepted_as code said.Nothing = ans.read_none
accepted_as code said.Used = ans.used

abbrev pub told : {V : Type 0} → (V → List ℕ) → Result (Answer V) Refusal → ans.Answer
told code (Ok a) = accepted_as code a
told code (Err e) = ans.refused (refusal_number e)
