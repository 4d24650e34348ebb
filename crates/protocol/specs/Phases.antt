use Rattle.std.specs.Prelude.{ℕ, zero, suc, ◌+◌, ◌*◌, ◌/◌, max, Bool, true, false, cond, List, Some, None, Option, nat_le, nat_lt}
use Rattle.stores.specs.Provider.{Pair}
use Rattle.protocol.specs.Answers.{Answer, on, wrote, read, read_none, used}
use Rattle.protocol.specs.Lines.{Line}
use Rattle.protocol.specs.Seats.{Activity, idle, stopped, listing, gathering, storing}

-- How a phase ends, once enough of a seat's lines are done. `lines i` is the seat's line at provider i, from 0 on.

-- how many i below n pass a test, and the largest of f i
abbrev pub count : (ℕ → Bool) → ℕ → ℕ
count p zero = 0
count p (suc n) = cond (p n) (suc (count p n)) (count p n)

abbrev pub most : (ℕ → ℕ) → ℕ → ℕ
most f zero = 0
most f (suc n) = max (f n) (most f n)

-- more than half of n
abbrev pub majority : ℕ → ℕ
majority n = n / 2 + 1

-- A line counts as done where its record says so. (On a run such a line is free: a line is done by a fetch, which frees it,
-- and is not posted while it is done.)
abbrev pub counts : Line → Bool
counts l = l.progress.done

abbrev pub done_lines : (ℕ → Line) → ℕ → ℕ
done_lines lines n = count (λ i. counts (lines i)) n

-- the largest key listed on the lines that count, or 0
abbrev pub listed_on : Line → ℕ
listed_on l = cond (counts l) l.progress.largest 0

abbrev pub largest_listed : (ℕ → Line) → ℕ → ℕ
largest_listed lines n = most (λ i. listed_on (lines i)) n

-- the version that follows key k's number, for a seat
abbrev pub next_version : ℕ → ℕ → ℕ
next_version k seat = (k / 65536 + 1) * 65536 + seat

-- the pair of the largest version found on the lines that count, if any is above (0, 0); among equals the lowest provider's
abbrev pub found_on : Line → Option Pair
found_on l = cond (counts l) l.progress.found None

abbrev pub version_in : Option Pair → ℕ
version_in None = 0
version_in (Some p) = p.version

abbrev pub newer : Option Pair → Option Pair → Option Pair
newer a b = cond (nat_lt (version_in a) (version_in b)) b a

abbrev pub newest_found : (ℕ → Line) → ℕ → Option Pair
newest_found lines zero = None
newest_found lines (suc n) = newer (newest_found lines n) (found_on (lines n))

-- What a seat comes to: its phase goes on, or it turns to another activity, and its call gets an answer.
pub data PhaseResult : Type 0 where
  goes_on : PhaseResult
  turns : Activity → Answer → PhaseResult

-- Listing ends: the write gets the version after the largest key listed. At number 999,999 the versions are used up.
abbrev pub end_listing : ℕ → ℕ → List ℕ → PhaseResult
end_listing k seat x = cond (nat_le 999999 (k / 65536)) (turns idle used) (turns (storing true (next_version k seat) x) on)

-- Gathering ends: a read of nothing ends; a settled read goes on to store what it found; a plain read ends.
abbrev pub end_gathering : Bool → Option Pair → PhaseResult
end_gathering b None = turns idle read_none
end_gathering true (Some p) = turns (storing false p.version p.value) on
end_gathering false (Some p) = turns idle (read p.version p.value)

-- Storing ends, and with it the operation.
abbrev pub end_storing : Bool → ℕ → List ℕ → PhaseResult
end_storing true v x = turns idle (wrote v)
end_storing false v x = turns idle (read v x)

-- With a majority of the lines done the phase ends.
abbrev pub result_of : ℕ → ℕ → (ℕ → Line) → Activity → PhaseResult
result_of n seat lines idle = goes_on
result_of n seat lines stopped = goes_on
result_of n seat lines (listing x) = end_listing (largest_listed lines n) seat x
result_of n seat lines (gathering b) = end_gathering b (newest_found lines n)
result_of n seat lines (storing b v x) = end_storing b v x

abbrev pub phase_result : ℕ → ℕ → (ℕ → Line) → Activity → PhaseResult
phase_result n seat lines a = cond (nat_le (majority n) (done_lines lines n)) (result_of n seat lines a) goes_on
