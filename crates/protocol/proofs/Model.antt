-- The protocol as the proof sees it: a seat's progress at each provider, and what is on the way.
-- An answer moves a line as soon as it is given, and not only when it is fetched.
use Rattle.std.proofs.Common.{ℕ, Bool, true, false, cond, eqb, ltb, leb, List, [], ◌∷◌, ◌++◌, map, Some, None, Option}
use Rattle.stores.specs.Keyed.{element_of, put, without}
use Rattle.stores.specs.Provider.{Cell, cell_key}
use Rattle.protocol.specs.History.{update}
use Rattle.protocol.specs.Moves.{largest_key, older_keys, mark_after}
use Rattle.protocol.specs.Requests.{Request, list_keys, get_key, put_cell, remove_key}

-- the bytes that a value is written as
abbrev pub Code : Type 0
Code = List ℕ

-- How far a storing line is, with the largest key listed: about to list; about to remove a key, with those that follow; at
-- each of the puts; about to remove the largest; done.
pub data StoreProgress : Type 0 where
  to_list : StoreProgress
  to_remove : ℕ → List ℕ → ℕ → StoreProgress
  to_put_standing : ℕ → StoreProgress
  to_put_own : ℕ → StoreProgress
  to_remove_largest : ℕ → StoreProgress
  stored : StoreProgress

-- How far a gathering line is, with its mark: about to list; to get the largest key; to get the standing one; done, with
-- nothing or with a pair.
pub data GatherProgress : Type 0 where
  to_list_again : ℕ → GatherProgress
  to_get_largest : ℕ → ℕ → GatherProgress
  to_get_standing : ℕ → GatherProgress
  found_none : GatherProgress
  found : ℕ → Code → GatherProgress

-- what a seat is doing, with its progress at each provider; a listing line that is done has the largest key listed
pub data ModelSeat : Type 0 where
  idle : ModelSeat
  stopped : ModelSeat
  listing : Code → (ℕ → Option ℕ) → ModelSeat
  gathering : Bool → (ℕ → GatherProgress) → ModelSeat
  storing : Bool → ℕ → Code → (ℕ → StoreProgress) → ModelSeat

-- what is on the way between a seat and a provider, and whether it is stale
pub data Transit : Type 0 where
  free : Transit
  sent : Bool → Request → Transit
  returned : Bool → Transit

-- a temporary key at a provider, and the seat that put it there last
pub record Tag : Type 0 where
  pub key : ℕ
  pub who : ℕ

-- the largest key: a temporary one, or 0 if there is none
abbrev pub top : List Cell → ℕ
top m = largest_key (map cell_key m)

-- what a request does to the cells, and to the tags of their temporary keys, ordered by the last put
abbrev pub carry : Request → List Cell → List Cell
carry list_keys m = m
carry (get_key k) m = m
carry (put_cell c) m = put cell_key c m
carry (remove_key k) m = without cell_key k m

abbrev pub untag : ℕ → List Tag → List Tag
untag k [] = []
untag k (t ∷ l) = cond (eqb t.key k) (untag k l) (t ∷ untag k l)

abbrev pub put_tag : ℕ → ℕ → List Tag → List Tag
put_tag s k l = cond (eqb k 0) l (untag k l ++ (record { key = k; who = s } ∷ []))

abbrev pub retag : ℕ → Request → List Tag → List Tag
retag s list_keys l = l
retag s (get_key k) l = l
retag s (put_cell c) l = put_tag s c.key l
retag s (remove_key k) l = untag k l

abbrev pub to_remove_all : List ℕ → ℕ → StoreProgress
to_remove_all [] big = to_put_standing big
to_remove_all (k ∷ rest) big = to_remove k rest big

-- the request of a stage; a line that is done has none, and a list stands there
abbrev pub cell_of : ℕ → ℕ → Code → Cell
cell_of k v x = record { key = k; pair = record { version = v; value = x } }

abbrev pub ask_store : ℕ → Code → StoreProgress → Request
ask_store v x to_list = list_keys
ask_store v x (to_remove k rest big) = remove_key k
ask_store v x (to_put_standing big) = put_cell (cell_of 0 v x)
ask_store v x (to_put_own big) = put_cell (cell_of v v x)
ask_store v x (to_remove_largest big) = remove_key big
ask_store v x stored = list_keys

abbrev pub next_store : ℕ → List Cell → StoreProgress → StoreProgress
next_store v m to_list = to_remove_all (older_keys (map cell_key m)) (top m)
next_store v m (to_remove k rest big) = to_remove_all rest big
next_store v m (to_put_standing big) = cond (ltb big v) (to_put_own big) stored
next_store v m (to_put_own big) = cond (eqb big 0) stored (to_remove_largest big)
next_store v m (to_remove_largest big) = stored
next_store v m stored = stored

abbrev pub ask_gather : GatherProgress → Request
ask_gather (to_list_again k) = list_keys
ask_gather (to_get_largest b k) = get_key b
ask_gather (to_get_standing k) = get_key 0
ask_gather found_none = list_keys
ask_gather (found v x) = list_keys

abbrev pub listed_gather : ℕ → ℕ → GatherProgress
listed_gather b k = cond (eqb b 0) found_none (to_get_largest b (mark_after k b))

abbrev pub got_largest : ℕ → Option Cell → GatherProgress
got_largest k None = to_get_standing k
got_largest k (Some c) = found c.pair.version c.pair.value

abbrev pub got_standing : ℕ → Option Cell → GatherProgress
got_standing k None = to_list_again k
got_standing k (Some c) = cond (leb k c.pair.version) (found c.pair.version c.pair.value) (to_list_again k)

abbrev pub next_gather : List Cell → GatherProgress → GatherProgress
next_gather m (to_list_again k) = listed_gather (top m) k
next_gather m (to_get_largest b k) = got_largest k (element_of cell_key b m)
next_gather m (to_get_standing k) = got_standing k (element_of cell_key 0 m)
next_gather m found_none = found_none
next_gather m (found v x) = found v x

abbrev pub ask : ModelSeat → ℕ → Request
ask idle i = list_keys
ask stopped i = list_keys
ask (listing x p) i = list_keys
ask (gathering b p) i = ask_gather (p i)
ask (storing b v x p) i = ask_store v x (p i)

abbrev pub store_done : StoreProgress → Bool
store_done to_list = false
store_done (to_remove k rest big) = false
store_done (to_put_standing big) = false
store_done (to_put_own big) = false
store_done (to_remove_largest big) = false
store_done stored = true

abbrev pub gather_done : GatherProgress → Bool
gather_done (to_list_again k) = false
gather_done (to_get_largest b k) = false
gather_done (to_get_standing k) = false
gather_done found_none = true
gather_done (found v x) = true

abbrev pub list_done : Option ℕ → Bool
list_done None = false
list_done (Some k) = true

-- a listing line keeps the largest key of its first list
abbrev pub listed_once : Option ℕ → ℕ → Option ℕ
listed_once None k = Some k
listed_once (Some t) k = Some t

-- the answer is in: the line at i goes on
abbrev pub next : ModelSeat → ℕ → List Cell → ModelSeat
next idle i m = idle
next stopped i m = stopped
next (listing x p) i m = listing x (update p i (listed_once (p i) (top m)))
next (gathering b p) i m = gathering b (update p i (next_gather m (p i)))
next (storing b v x p) i m = storing b v x (update p i (next_store v m (p i)))
