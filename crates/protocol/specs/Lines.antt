use Rattle.std.specs.Prelude.{ℕ, Bool, true, false, List, [], None, Option}
use Rattle.stores.specs.Provider.{Pair}
use Rattle.protocol.specs.Requests.{Request, Reply}
use Rattle.protocol.specs.declared.stage.Stage.{Stage}
use Rattle.protocol.specs.declared.stage.Stage.TheVariants as at

-- A line is what one seat has to do with one provider. It is free, or its request is on the way to the provider, or the
-- provider's answer is on the way back. The Bool says whether request or answer is stale: of a phase that is over.
pub data LineState : Type 0 where
  free : LineState
  sent : Bool → Request → LineState
  answered : Bool → Reply → LineState

-- How far a line is in its seat's phase: its stage; whether it is done; the largest key of its first list that had a
-- temporary one (the mark, or 0); of its last list the largest temporary key (or 0) and the others that it has yet to
-- remove; and, of a gathering line that is done, the pair that it found, if any.
pub record Progress : Type 0 where
  pub stage : Stage
  pub done : Bool
  pub mark : ℕ
  pub older : List ℕ
  pub largest : ℕ
  pub found : Option Pair

-- what a line's record means
pub record Line : Type 0 where
  pub state : LineState
  pub progress : Progress

abbrev pub blank_line : Line
blank_line = record { state = free; progress = record { stage = at.List; done = false; mark = 0; older = []; largest = 0; found = None } }

abbrev pub is_free : LineState → Bool
is_free free = true
is_free (sent b q) = false
is_free (answered b r) = false

-- A phase of the line's seat starts, or its operation ends: what is on the way becomes stale, and the line is back at
-- stage list, not done and without a mark.
abbrev pub stale_state : LineState → LineState
stale_state free = free
stale_state (sent b q) = sent true q
stale_state (answered b r) = answered true r

abbrev pub restarted : Progress → Progress
restarted p = record { stage = at.List; done = false; mark = 0; older = p.older; largest = p.largest; found = p.found }

abbrev pub restart_line : Line → Line
restart_line l = record { state = stale_state l.state; progress = restarted l.progress }
