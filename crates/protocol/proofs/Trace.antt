-- The operations of a run of the model, and the one order in which they stand.
use Rattle.std.proofs.Common.{ℕ, suc, true, false, cond, ◌&&◌, eqb, ltb, List, [], ◌∷◌, Some, None}
use Rattle.protocol.specs.History.{update, Operation}
use Rattle.protocol.specs.Phases.{most, next_version}
use Rattle.protocol.proofs.ModelSteps.{ModelState, Step, listed, posts, lands, fetches, begins_write, begins_read, stops, gives, uses_up, finds, reads, reads_none, ends}

-- what the proof keeps beside the state: the place of the next call, when each seat's operation began, the one order of
-- the operations, and the plain reads
pub record Trace : Type 0 where
  pub clock : ℕ
  pub since : ℕ → ℕ
  pub order : List Operation
  pub plain : List Operation

-- before the first of larger version
abbrev pub insert_ordered : Operation → List Operation → List Operation
insert_ordered o [] = o ∷ []
insert_ordered o (y ∷ l) = cond (ltb o.version y.version) (o ∷ (y ∷ l)) (y ∷ insert_ordered o l)

abbrev pub end_write : ℕ → ℕ → Operation → Operation
end_write v c o = record { write = o.write; begun = o.begun; ended = cond (o.write && eqb o.version v) c o.ended; version = o.version; value = o.value }

abbrev pub end_writes : ℕ → ℕ → List Operation → List Operation
end_writes v c [] = []
end_writes v c (o ∷ l) = end_write v c o ∷ end_writes v c l

abbrev pub begun_trace : ℕ → Trace → Trace
begun_trace s L = record { clock = L.clock; since = update L.since s L.clock; order = L.order; plain = L.plain }

abbrev pub placed : Operation → Trace → Trace
placed o L = record { clock = L.clock; since = L.since; order = insert_ordered o L.order; plain = L.plain }

abbrev pub read_plain : Operation → Trace → Trace
read_plain o L = record { clock = L.clock; since = L.since; order = L.order; plain = o ∷ L.plain }

abbrev pub ended_trace : ℕ → Trace → Trace
ended_trace v L = record { clock = L.clock; since = L.since; order = end_writes v L.clock L.order; plain = L.plain }

abbrev pub tick : Trace → Trace
tick L = record { clock = suc L.clock; since = L.since; order = L.order; plain = L.plain }

-- what a step adds
abbrev pub trace_step : (n seats : ℕ) (st su : ModelState) → Step n seats st su → Trace → Trace
trace_step n seats st su (posts s i l a) L = L
trace_step n seats st su (lands s i b r l e) L = L
trace_step n seats st su (fetches s i) L = L
trace_step n seats st su (begins_write s x l e) L = begun_trace s L
trace_step n seats st su (begins_read s b l e) L = begun_trace s L
trace_step n seats st su (stops s) L = L
trace_step n seats st su (gives s x p l e q) L = placed (record { write = true; begun = L.since s; ended = 0; version = next_version (most (listed st s p) n) (suc s); value = Some x }) L
trace_step n seats st su (uses_up s x p e) L = L
trace_step n seats st su (finds s j p v x l e q a b z) L = L
trace_step n seats st su (reads s j p v x l e q a b z) L = read_plain (record { write = false; begun = L.since s; ended = L.clock; version = v; value = Some x }) L
trace_step n seats st su (reads_none s true p l e q z) L = placed (record { write = false; begun = L.since s; ended = L.clock; version = 0; value = None }) L
trace_step n seats st su (reads_none s false p l e q z) L = read_plain (record { write = false; begun = L.since s; ended = L.clock; version = 0; value = None }) L
trace_step n seats st su (ends s true v x p l e q) L = ended_trace v L
trace_step n seats st su (ends s false v x p l e q) L = placed (record { write = false; begun = L.since s; ended = L.clock; version = v; value = Some x }) L
