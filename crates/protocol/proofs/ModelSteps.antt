-- The whole state of the model, with what the proof keeps beside it, and its steps. A call is none, one or two of them.
use Rattle.std.proofs.Common.{◌≡◌, ℕ, suc, ◌-◌, ◌%◌, ◌<◌, ◌≤◌, max, Bool, true, false, cond, ◌&&◌, eqb, ◌≢◌, List, Some, None, Option}
use Rattle.stores.specs.Provider.{Cell}
use Rattle.protocol.specs.Requests.{Request}
use Rattle.protocol.specs.History.{update}
use Rattle.protocol.specs.Phases.{majority, count, most, next_version}
use Rattle.protocol.proofs.Model.{Code, top, Tag, carry, retag, ModelSeat, idle, stopped, listing, gathering, storing, GatherProgress, to_list_again, to_get_largest, to_get_standing, found_none, found, StoreProgress, to_list, Transit, free, sent, returned, ask, next, list_done, gather_done, store_done}

-- a provider: its map, and who put each temporary key, by the last put
pub record ModelProvider : Type 0 where
  pub cells : List Cell
  pub tags : List Tag

pub record ModelState : Type 0 where
  pub seat : ℕ → ModelSeat
  pub transit : ℕ → ℕ → Transit
  pub provider : ℕ → ModelProvider
  -- the value that a version was given to; for each seat's operation the largest version finished before it began, and
  -- each provider's largest key then; the largest version finished; each seat's last version
  pub given : ℕ → Option Code
  pub low : ℕ → ℕ
  pub floor : ℕ → ℕ → ℕ
  pub highest : ℕ
  pub latest : ℕ → ℕ

abbrev pub update_two : {X : Type 0} → (ℕ → ℕ → X) → ℕ → ℕ → X → ℕ → ℕ → X
update_two f s i x o j = cond (eqb s o) (cond (eqb i j) x (f o j)) (f o j)

abbrev pub stale : Transit → Transit
stale free = free
stale (sent b r) = sent true r
stale (returned b) = returned true

abbrev pub or_zero : Option ℕ → ℕ
or_zero None = 0
or_zero (Some k) = k

abbrev pub version_of : GatherProgress → ℕ
version_of (to_list_again k) = 0
version_of (to_get_largest b k) = 0
version_of (to_get_standing k) = 0
version_of found_none = 0
version_of (found v x) = v

abbrev pub is_free : Transit → Bool
is_free free = true
is_free (sent b r) = false
is_free (returned b) = false

abbrev pub listed : ModelState → ℕ → (ℕ → Option ℕ) → ℕ → ℕ
listed st s p i = cond (is_free (st.transit s i)) (or_zero (p i)) 0

-- what a gathering line that counts has found
abbrev pub found_at : ModelState → ℕ → (ℕ → GatherProgress) → ℕ → ℕ
found_at st s p i = cond (is_free (st.transit s i)) (version_of (p i)) 0

abbrev pub provider_land : ℕ → Request → ModelProvider → ModelProvider
provider_land s r d = record { cells = carry r d.cells; tags = retag s r d.tags }

-- a stale answer moves nothing
abbrev pub moved : Bool → ModelSeat → ℕ → List Cell → ModelSeat
moved true q i m = q
moved false q i m = next q i m

abbrev pub post : ModelState → ℕ → ℕ → ModelState
post st s i = record { seat = st.seat; transit = update_two st.transit s i (sent false (ask (st.seat s) i)); provider = st.provider; given = st.given; low = st.low; floor = st.floor; highest = st.highest; latest = st.latest }

abbrev pub fetch : ModelState → ℕ → ℕ → ModelState
fetch st s i = record { seat = st.seat; transit = update_two st.transit s i free; provider = st.provider; given = st.given; low = st.low; floor = st.floor; highest = st.highest; latest = st.latest }

abbrev pub land : ModelState → ℕ → ℕ → Bool → Request → ModelState
land st s i b r = record {
  seat = update st.seat s (moved b (st.seat s) i (st.provider i).cells);
  transit = update_two st.transit s i (returned b);
  provider = update st.provider i (provider_land s r (st.provider i));
  given = st.given;
  low = st.low;
  floor = st.floor;
  highest = st.highest;
  latest = st.latest;
}

abbrev pub stop : ModelState → ℕ → ModelState
stop st s = record { seat = update st.seat s stopped; transit = st.transit; provider = st.provider; given = st.given; low = st.low; floor = st.floor; highest = st.highest; latest = st.latest }

-- a phase of seat s starts, or its operation ends
abbrev pub enter : ModelState → ℕ → ModelSeat → (ℕ → Option Code) → ℕ → (ℕ → ℕ) → ℕ → ℕ → ModelState
enter st s q g low floor highest latest = record {
  seat = update st.seat s q;
  transit = update st.transit s (λ i. stale (st.transit s i));
  provider = st.provider;
  given = g;
  low = update st.low s low;
  floor = update st.floor s floor;
  highest = highest;
  latest = update st.latest s latest;
}

abbrev pub begin : ModelState → ℕ → ModelSeat → ModelState
begin st s q = enter st s q st.given st.highest (λ i. top (st.provider i).cells) st.highest (st.latest s)

abbrev pub go_on : ModelState → ℕ → ModelSeat → ModelState
go_on st s q = enter st s q st.given (st.low s) (st.floor s) st.highest (st.latest s)

-- the write of seat s gets version v for its value
abbrev pub give : ModelState → ℕ → ModelSeat → ℕ → Code → ModelState
give st s q v x = enter st s q (update st.given v (Some x)) (st.low s) (st.floor s) st.highest v

-- a write or a settled read of version v is finished
abbrev pub finish : ModelState → ℕ → ℕ → ModelState
finish st s v = enter st s idle st.given (st.low s) (st.floor s) (max st.highest v) (st.latest s)

abbrev pub Active : ModelSeat → Type 0
Active idle = ⊥
Active stopped = ⊥
Active (listing x p) = Unit {0}
Active (gathering b p) = Unit {0}
Active (storing b v x p) = Unit {0}

abbrev pub blank_list : ℕ → Option ℕ
blank_list i = None

abbrev pub blank_gather : ℕ → GatherProgress
blank_gather i = to_list_again 0

abbrev pub blank_store : ℕ → StoreProgress
blank_store i = to_list

-- the place of the seat whose version v is
abbrev pub owner : ℕ → ℕ
owner v = v % 65536 - 1

-- one step of a model of n providers
pub data Step (n seats : ℕ) (st : ModelState) : ModelState → Type 0 where
  posts : (s i : ℕ) → s < seats → Active (st.seat s) → Step n seats st (post st s i)
  lands : (s i : ℕ) (b : Bool) (r : Request) → s < seats → st.transit s i ≡ sent b r → Step n seats st (land st s i b r)
  fetches : (s i : ℕ) → Step n seats st (fetch st s i)
  begins_write : (s : ℕ) (x : Code) → s < seats → st.seat s ≡ idle → Step n seats st (begin st s (listing x blank_list))
  begins_read : (s : ℕ) (b : Bool) → s < seats → st.seat s ≡ idle → Step n seats st (begin st s (gathering b blank_gather))
  stops : (s : ℕ) → Step n seats st (stop st s)
  gives : (s : ℕ) (x : Code) (p : ℕ → Option ℕ) → s < seats → st.seat s ≡ listing x p → majority n ≤ count (λ i. is_free (st.transit s i) && list_done (p i)) n →
      Step n seats st (give st s (storing true (next_version (most (listed st s p) n) (suc s)) x blank_store) (next_version (most (listed st s p) n) (suc s)) x)
  uses_up : (s : ℕ) (x : Code) (p : ℕ → Option ℕ) → st.seat s ≡ listing x p → Step n seats st (go_on st s idle)
  finds : (s j : ℕ) (p : ℕ → GatherProgress) (v : ℕ) (x : Code) → s < seats → st.seat s ≡ gathering true p → majority n ≤ count (λ i. is_free (st.transit s i) && gather_done (p i)) n →
      p j ≡ found v x → v ≡ most (found_at st s p) n → v ≢ 0 → Step n seats st (go_on st s (storing false v x blank_store))
  reads : (s j : ℕ) (p : ℕ → GatherProgress) (v : ℕ) (x : Code) → s < seats → st.seat s ≡ gathering false p → majority n ≤ count (λ i. is_free (st.transit s i) && gather_done (p i)) n →
      p j ≡ found v x → v ≡ most (found_at st s p) n → v ≢ 0 → Step n seats st (go_on st s idle)
  reads_none : (s : ℕ) (b : Bool) (p : ℕ → GatherProgress) → s < seats → st.seat s ≡ gathering b p → majority n ≤ count (λ i. is_free (st.transit s i) && gather_done (p i)) n →
      0 ≡ most (found_at st s p) n → Step n seats st (go_on st s idle)
  ends : (s : ℕ) (b : Bool) (v : ℕ) (x : Code) (p : ℕ → StoreProgress) → s < seats → st.seat s ≡ storing b v x p → majority n ≤ count (λ i. is_free (st.transit s i) && store_done (p i)) n → Step n seats st (finish st s v)
