use Rattle.std.specs.Prelude.{◌≡◌, ℕ, Bool, true, false, List, [], ◌∷◌}
use Rattle.protocol.specs.Answers.{Call, begin_write, begin_read, fetch, Answer, ok, on, dropped, wrote, read, read_none, used, refused}
use Rattle.protocol.specs.History.{Doing, resting, writing, reading, History, noted, next_call}
use Rattle.protocol.specs.Seats.{Activity, idle, stopped, listing, gathering, storing}

-- Answers fit the operations that seats are in the middle of. Any call may be refused.

-- an operation begins only where there is none
abbrev pub fits_begin : Answer → Doing → Bool
fits_begin (refused e) d = true
fits_begin ok resting = true
fits_begin a d = false

-- A fetch may drop a stale answer. Otherwise there is an operation, which goes on, or ends as such an operation does.
abbrev pub fits_fetch : Answer → Doing → Bool
fits_fetch (refused e) d = true
fits_fetch dropped d = true
fits_fetch on (writing x) = true
fits_fetch on (reading b) = true
fits_fetch (wrote v) (writing x) = true
fits_fetch used (writing x) = true
fits_fetch (read v x) (reading b) = true
fits_fetch read_none (reading b) = true
fits_fetch a d = false

-- each other call is accepted or refused
abbrev pub fits_other : Answer → Bool
fits_other (refused e) = true
fits_other ok = true
fits_other a = false

abbrev pub fits : Call → Answer → (ℕ → Doing) → Bool
fits (begin_write s x) a doing = fits_begin a (doing s)
fits (begin_read s b) a doing = fits_begin a (doing s)
fits (fetch s i) a doing = fits_fetch a (doing s)
fits call a doing = fits_other a

-- Each call has one answer, which fits what the calls and answers before it, H so far, say of its seat.
abbrev pub AnswersFit : List Call → List Answer → History → Type 0
AnswersFit [] [] H = Unit {0}
AnswersFit (c ∷ cs) (y ∷ ys) H = (fits c y H.doing ≡ true) × AnswersFit cs ys (next_call (noted c y H))
AnswersFit cs ys H = ⊥

-- what a seat's record shows of its operation; that of a seat that has stopped shows nothing
abbrev pub RecordShows : Activity → Doing → Type 0
RecordShows idle d = d ≡ resting
RecordShows stopped d = Unit {0}
RecordShows (listing x) d = d ≡ writing x
RecordShows (gathering b) d = d ≡ reading b
RecordShows (storing true v x) d = d ≡ writing x
RecordShows (storing false v x) d = d ≡ reading true
