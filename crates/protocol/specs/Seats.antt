use Rattle.std.specs.Prelude.{ℕ, Bool, true, false, cond, List, []}
use Rattle.protocol.specs.declared.phase.Phase.{Phase}
use Rattle.protocol.specs.declared.phase.Phase.TheVariants as ph
use Rattle.protocol.specs.declared.operation.OperationKind.{OperationKind}
use Rattle.protocol.specs.declared.operation.OperationKind.TheVariants as op

-- What a seat's record means: its phase, the operation that it works on or worked on last, and the version and the value
-- of that operation. A version is its rank, and a value the bytes that it is written as.
pub record Seat : Type 0 where
  pub phase : Phase
  pub operation : OperationKind
  pub version : ℕ
  pub value : List ℕ

abbrev pub blank_seat : Seat
blank_seat = record { phase = ph.Idle; operation = op.Write; version = 0; value = [] }

-- What a seat is doing, read off its record: nothing; nothing ever again; listing for a write of a value; gathering, for a
-- settled read or not; or storing a version and a value, for a write or else for a settled read.
pub data Activity : Type 0 where
  idle : Activity
  stopped : Activity
  listing : List ℕ → Activity
  gathering : Bool → Activity
  storing : Bool → ℕ → List ℕ → Activity

abbrev pub is_write : OperationKind → Bool
is_write op.Write = true
is_write op.PlainRead = false
is_write op.SettledRead = false

abbrev pub is_settled : OperationKind → Bool
is_settled op.Write = false
is_settled op.PlainRead = false
is_settled op.SettledRead = true

abbrev pub activity_in : Phase → Seat → Activity
activity_in ph.Idle q = idle
activity_in ph.Listing q = listing q.value
activity_in ph.Storing q = storing (is_write q.operation) q.version q.value
activity_in ph.Gathering q = gathering (is_settled q.operation)
activity_in ph.Stopped q = stopped

abbrev pub activity : Seat → Activity
activity q = activity_in q.phase q

abbrev pub is_idle : Activity → Bool
is_idle idle = true
is_idle stopped = false
is_idle (listing x) = false
is_idle (gathering b) = false
is_idle (storing b v x) = false

abbrev pub is_stopped : Activity → Bool
is_stopped idle = false
is_stopped stopped = true
is_stopped (listing x) = false
is_stopped (gathering b) = false
is_stopped (storing b v x) = false

abbrev pub in_phase : Phase → Seat → Seat
in_phase h q = record { phase = h; operation = q.operation; version = q.version; value = q.value }

-- the record of a seat that turns to another activity; to be idle or stopped changes the phase alone
abbrev pub turned_to : Activity → Seat → Seat
turned_to idle q = in_phase ph.Idle q
turned_to stopped q = in_phase ph.Stopped q
turned_to (listing x) q = record { phase = ph.Listing; operation = op.Write; version = 0; value = x }
turned_to (gathering b) q = record { phase = ph.Gathering; operation = cond b op.SettledRead op.PlainRead; version = 0; value = q.value }
turned_to (storing b v x) q = record { phase = ph.Storing; operation = cond b op.Write op.SettledRead; version = v; value = x }
