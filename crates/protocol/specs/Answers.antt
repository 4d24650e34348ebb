use Rattle.std.specs.Prelude.{ℕ, Bool, List}

-- The calls of a relay, with the numbers of a seat and a provider, from 1 on. Any numbers may be given.
pub data Call : Type 0 where
  -- a seat and the value that it writes
  begin_write : ℕ → List ℕ → Call
  -- a seat, and whether the read is settled
  begin_read : ℕ → Bool → Call
  -- a line's request is sent, arrives at its provider, and its answer is taken: a seat and a provider
  post : ℕ → ℕ → Call
  land : ℕ → ℕ → Call
  fetch : ℕ → ℕ → Call
  -- a seat stops for good; a provider is lost for good
  stop : ℕ → Call
  lose : ℕ → Call

-- What a call answers. The operation goes on; a stale answer was dropped; a write or a read ended, with its version and
-- value; a read found nothing; a write found the versions used up; or the call is refused, with the refusal's number.
pub data Answer : Type 0 where
  ok : Answer
  on : Answer
  dropped : Answer
  wrote : ℕ → Answer
  read : ℕ → List ℕ → Answer
  read_none : Answer
  used : Answer
  refused : ℕ → Answer
