use Rattle.std.specs.Prelude.{ℕ, Bool, true, false, not, ◌&&◌, ◌||◌, List, [], ◌∷◌, ◌==◌, nat_eq, slice_index}
use Rattle.protocol.specs.Requests.{Request, list_keys, get_key, put_cell, remove_key, Reply, keys_are, got, accepted, refused_by}
use Rattle.protocol.specs.Lines.{LineState, free, sent, answered, is_free, Progress, Line}
use Rattle.protocol.specs.Seats.{Activity, idle, stopped, listing, gathering, storing}
use Rattle.protocol.specs.declared.stage.Stage.{Stage}
use Rattle.protocol.specs.declared.stage.Stage.TheVariants as at

-- The stages of each phase.
abbrev pub storing_stage : Stage → Bool
storing_stage at.List = true
storing_stage at.RemoveOlder = true
storing_stage at.PutStanding = true
storing_stage at.PutOwn = true
storing_stage at.RemoveLargest = true
storing_stage at.GetLargest = false
storing_stage at.GetStanding = false

abbrev pub gathering_stage : Stage → Bool
gathering_stage at.List = true
gathering_stage at.RemoveOlder = false
gathering_stage at.PutStanding = false
gathering_stage at.PutOwn = false
gathering_stage at.RemoveLargest = false
gathering_stage at.GetLargest = true
gathering_stage at.GetStanding = true

abbrev pub has_stage : Activity → Stage → Bool
has_stage idle g = false
has_stage stopped g = false
has_stage (listing x) g = gathering_stage g && storing_stage g
has_stage (gathering b) g = gathering_stage g
has_stage (storing b v x) g = storing_stage g

-- What a line asks at its stage. A stage of another phase asks for the keys; no call gets there, as such a line is foreign.
abbrev pub put_under : ℕ → ℕ → List ℕ → Request
put_under k v x = put_cell (record { key = k; pair = record { version = v; value = x } })

abbrev pub storing_request : ℕ → List ℕ → Stage → Progress → Request
storing_request v x at.List p = list_keys
storing_request v x at.RemoveOlder p = remove_key (slice_index p.older 0)
storing_request v x at.PutStanding p = put_under 0 v x
storing_request v x at.PutOwn p = put_under v v x
storing_request v x at.RemoveLargest p = remove_key p.largest
storing_request v x at.GetLargest p = list_keys
storing_request v x at.GetStanding p = list_keys

abbrev pub gathering_request : Stage → Progress → Request
gathering_request at.List p = list_keys
gathering_request at.RemoveOlder p = list_keys
gathering_request at.PutStanding p = list_keys
gathering_request at.PutOwn p = list_keys
gathering_request at.RemoveLargest p = list_keys
gathering_request at.GetLargest p = get_key p.largest
gathering_request at.GetStanding p = get_key 0

abbrev pub request_of : Activity → Progress → Request
request_of idle p = list_keys
request_of stopped p = list_keys
request_of (listing x) p = list_keys
request_of (gathering b) p = gathering_request p.stage p
request_of (storing b v x) p = storing_request v x p.stage p

-- Whether a line's last list has the key that its stage needs.
abbrev pub any_left : List ℕ → Bool
any_left [] = false
any_left (k ∷ l) = true

abbrev pub has_key : Stage → Progress → Bool
has_key at.List p = true
has_key at.RemoveOlder p = any_left p.older
has_key at.PutStanding p = true
has_key at.PutOwn p = true
has_key at.RemoveLargest p = not (p.largest == 0)
has_key at.GetLargest p = not (p.largest == 0)
has_key at.GetStanding p = true

-- Whether an answer is of the kind of a request; 15 answers a put alone.
abbrev pub suits : Request → Reply → Bool
suits list_keys r = elim r [ keys_are l ↦ true | got o ↦ false | accepted ↦ false | refused_by e ↦ false ]
suits (get_key k) r = elim r [ keys_are l ↦ false | got o ↦ true | accepted ↦ false | refused_by e ↦ false ]
suits (put_cell c) r = elim r [ keys_are l ↦ false | got o ↦ false | accepted ↦ true | refused_by e ↦ nat_eq e 15 ]
suits (remove_key k) r = elim r [ keys_are l ↦ false | got o ↦ false | accepted ↦ true | refused_by e ↦ false ]

abbrev pub state_suits : Request → LineState → Bool
state_suits q free = true
state_suits q (sent b o) = true
state_suits q (answered true r) = true
state_suits q (answered false r) = suits q r

-- A sheet may hold anything. A line is foreign, and so no line of its seat's phase, if the phase has no such stage, if the
-- line's list lacks the key that its stage needs, if it is done and not free, or if it is answered, not stale, and the
-- answer is of another kind than its stage's request.
abbrev pub foreign : Activity → Line → Bool
foreign a l = not (has_stage a l.progress.stage) || (not (has_key l.progress.stage l.progress) || ((l.progress.done && not (is_free l.state)) || not (state_suits (request_of a l.progress) l.state)))
