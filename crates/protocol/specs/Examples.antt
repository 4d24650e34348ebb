use Rattle.std.specs.Prelude.{ℕ, zero, suc, true, false, cond, List, [], ◌∷◌, ◌++◌, map, replicate}
use Rattle.protocol.specs.Answers.{Call, begin_write, begin_read, post, land, fetch, Answer, ok, on, dropped, wrote, read}
use Rattle.protocol.specs.Law.{Lawful}
use Rattle.values.specs.Rank.{rank}
use Rattle.stores.specs.Provider.{Provider}
use Rattle.protocol.specs.Lines.{Progress, blank_line}
use Rattle.protocol.specs.Moves.{advance}
use Rattle.protocol.specs.Requests.{Request, reply, served}
use Rattle.protocol.specs.Seats.{Activity, storing, blank_seat}
use Rattle.protocol.specs.Stages.{request_of}
use Rattle.protocol.specs.State.{State}

-- Runs of two seats and three empty providers of capacity four. Version (1, 1) has rank 65537, and (2, 2) has 131074.
abbrev pub fresh : State
fresh = record { seats = replicate 2 blank_seat; lines = replicate 6 blank_line; row = replicate 3 (record { capacity = 4; cells = [] }); lost = replicate 3 false; looks = 0 }

-- a line's request is sent, arrives, and its answer is taken; so many times
abbrev pub rounds : ℕ → ℕ → ℕ → List Call
rounds zero s i = []
rounds (suc k) s i = post s i ∷ (land s i ∷ (fetch s i ∷ rounds k s i))

-- the answers to so many rounds that do not end an operation, and to one that does
abbrev pub go_on : ℕ → List Answer
go_on zero = []
go_on (suc k) = ok ∷ (ok ∷ (on ∷ go_on k))

abbrev pub end_with : Answer → List Answer
end_with a = ok ∷ (ok ∷ (a ∷ []))

-- Seat 1 writes 7: it lists at providers 1 and 2, and puts at both.
abbrev pub write_calls : List Call
write_calls = begin_write 1 (7 ∷ []) ∷ (rounds 1 1 1 ++ (rounds 1 1 2 ++ (rounds 3 1 1 ++ rounds 3 1 2)))

abbrev pub write_answers : List Answer
write_answers = ok ∷ (go_on 7 ++ end_with (wrote 65537))

-- A settled read of seat 2 overlaps that write, which has put at provider 1 alone: the read finds 7 there and nothing at
-- provider 3, and puts it at provider 3 itself before it answers.
abbrev pub overlap_calls : List Call
overlap_calls = begin_write 1 (7 ∷ []) ∷ (rounds 1 1 1 ++ (rounds 1 1 2 ++ (rounds 3 1 1 ++ (begin_read 2 true ∷ (rounds 2 2 1 ++ (rounds 1 2 3 ++ (rounds 2 2 1 ++ rounds 3 2 3)))))))

abbrev pub overlap_answers : List Answer
overlap_answers = ok ∷ (go_on 5 ++ (ok ∷ (go_on 7 ++ end_with (read 65537 (7 ∷ [])))))

-- A put of that write is sent to provider 3 and does not arrive. The write ends without it, and seat 2 writes 9 over
-- providers 2 and 3. Then the old put arrives, late and stale: it puts 7 over 9 under the standing key of provider 3.
abbrev pub late_calls : List Call
late_calls = begin_write 1 (7 ∷ []) ∷ (rounds 1 1 1 ++ (rounds 1 1 2 ++ (rounds 1 1 3 ++ (post 1 3 ∷ (rounds 3 1 1 ++ (rounds 3 1 2 ++
    (begin_write 2 (9 ∷ []) ∷ (rounds 1 2 2 ++ (rounds 1 2 3 ++ (rounds 4 2 2 ++ (rounds 3 2 3 ++ (land 1 3 ∷ []))))))))))))

abbrev pub late_answers : List Answer
late_answers = ok ∷ (go_on 3 ++ (ok ∷ (go_on 5 ++ (end_with (wrote 65537) ++ (ok ∷ (go_on 8 ++ (end_with (wrote 131074) ++ (ok ∷ []))))))))

-- The late put's answer is dropped, and a settled read of seat 1 at providers 3 and 1 still shows 9.
abbrev pub recovery_calls : List Call
recovery_calls = late_calls ++ (fetch 1 3 ∷ (begin_read 1 true ∷ (rounds 2 1 3 ++ (rounds 2 1 1 ++ (rounds 2 1 3 ++ rounds 4 1 1)))))

abbrev pub recovery_answers : List Answer
recovery_answers = late_answers ++ (dropped ∷ (ok ∷ (go_on 9 ++ end_with (read 131074 (9 ∷ [])))))

-- Answers that no relay gives: the write of 7 and then that of 9 have finished, and a settled read shows 7.
abbrev pub old_calls : List Call
old_calls = begin_write 1 (7 ∷ []) ∷ (fetch 1 1 ∷ (begin_write 2 (9 ∷ []) ∷ (fetch 2 1 ∷ (begin_read 1 true ∷ (fetch 1 1 ∷ [])))))

abbrev pub old_answers : List Answer
old_answers = ok ∷ (wrote 65537 ∷ (ok ∷ (wrote 131074 ∷ (ok ∷ (read 65537 (7 ∷ []) ∷ [])))))

-- whatever the state at the end, these calls and answers are not lawful
abbrev pub Unlawful : ℕ → ℕ → List Call → List Answer → Type 0
Unlawful m n calls answers = (end : State) → Lawful m n calls answers end → ⊥

-- The requests that a line makes alone at a provider, up to k of them, until it is done.
abbrev pub requests : ℕ → Activity → Progress → Provider → List Request
requests zero a p d = []
requests (suc k) a p d = cond p.done [] (request_of a p ∷ requests k a (advance a (reply (request_of a p) d) p) (served (request_of a p) d))

-- those of a line that stores version v, with the value 7, at a provider that holds keys
abbrev pub key : ℕ → ℕ → ℕ
key number seat = rank (record { number = number; seat = seat })

abbrev pub holding : List ℕ → Provider
holding keys = record { capacity = 32; cells = map (λ k. record { key = k; pair = record { version = k; value = [] } }) keys }

abbrev pub store_requests : ℕ → List ℕ → List Request
store_requests v keys = requests 9 (storing true v (7 ∷ [])) blank_line.progress (holding keys)
