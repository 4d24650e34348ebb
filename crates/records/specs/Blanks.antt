use Rattle.std.specs.Prelude.{false, replicate, None}
use Rattle.values.specs.declared.version.Version.{Version}
use Rattle.protocol.specs.declared.operation.OperationKind.TheVariants as op
use Rattle.protocol.specs.declared.phase.Phase.TheVariants as ph
use Rattle.protocol.specs.declared.stage.Stage.TheVariants as at
use Rattle.records.specs.declared.key_list.KeyList.{KeyList}
use Rattle.records.specs.declared.line.Line.{Line}
use Rattle.records.specs.declared.line.Transit.TheVariants as tra
use Rattle.records.specs.declared.seat.Seat.{Seat}

-- The blank records, field by field. What a record means says nothing of the places behind an empty list of keys; these do.

abbrev pub no_version : Version
no_version = record { number = 0; seat = 0 }

abbrev pub no_keys : KeyList
no_keys = record { keys = replicate 32 no_version; from = 0; end = 0 }

abbrev pub blank_line_record : {V : Type 0} → Line V
blank_line_record = record { transit = tra.Free; stage = at.List; done = false; mark = no_version; older = no_keys; largest = no_version; found = None }

-- `nothing` is the blank value
abbrev pub blank_seat_record : {V : Type 0} → V → Seat V
blank_seat_record nothing = record { phase = ph.Idle; operation = op.Write; version = no_version; value = nothing }
