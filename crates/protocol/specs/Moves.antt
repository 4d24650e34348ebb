use Rattle.std.specs.Prelude.{ℕ, max, true, cond, ◌||◌, List, [], ◌∷◌, drop, Some, None, Option, ◌==◌, nat_le, nat_lt}
use Rattle.stores.specs.Provider.{Pair}
use Rattle.protocol.specs.Requests.{Reply, keys_are, got, accepted, refused_by}
use Rattle.protocol.specs.Lines.{Progress}
use Rattle.protocol.specs.Seats.{Activity, idle, stopped, listing, gathering, storing}
use Rattle.protocol.specs.declared.stage.Stage.{Stage}
use Rattle.protocol.specs.declared.stage.Stage.TheVariants as at

-- How an answer moves a line.

-- Of listed keys, the largest temporary one, or 0; and the temporary ones but t, in their order.
abbrev pub largest_key : List ℕ → ℕ
largest_key [] = 0
largest_key (k ∷ l) = max k (largest_key l)

abbrev pub keys_but : ℕ → List ℕ → List ℕ
keys_but t [] = []
keys_but t (k ∷ l) = cond (k == 0 || k == t) (keys_but t l) (k ∷ keys_but t l)

-- the older temporary keys: all but the largest
abbrev pub older_keys : List ℕ → List ℕ
older_keys l = keys_but (largest_key l) l

-- The mark is set by the first list that has a temporary key, and kept by later ones.
abbrev pub mark_after : ℕ → ℕ → ℕ
mark_after mark largest = cond (mark == 0) largest mark

-- Changes of one field.
abbrev pub to_stage : Stage → Progress → Progress
to_stage g p = record { stage = g; done = p.done; mark = p.mark; older = p.older; largest = p.largest; found = p.found }

abbrev pub keep_list : List ℕ → Progress → Progress
keep_list l p = record { stage = p.stage; done = p.done; mark = p.mark; older = older_keys l; largest = largest_key l; found = p.found }

abbrev pub drop_oldest : Progress → Progress
drop_oldest p = record { stage = p.stage; done = p.done; mark = p.mark; older = drop 1 p.older; largest = p.largest; found = p.found }

abbrev pub set_mark : Progress → Progress
set_mark p = record { stage = p.stage; done = p.done; mark = mark_after p.mark p.largest; older = p.older; largest = p.largest; found = p.found }

abbrev pub finished : Progress → Progress
finished p = record { stage = p.stage; done = true; mark = p.mark; older = p.older; largest = p.largest; found = p.found }

abbrev pub finished_with : Option Pair → Progress → Progress
finished_with o p = record { stage = p.stage; done = true; mark = p.mark; older = p.older; largest = p.largest; found = o }

-- Listing: a list is all.
abbrev pub advance_listing : Reply → Progress → Progress
advance_listing (keys_are l) p = finished (keep_list l p)
advance_listing (got o) p = p
advance_listing accepted p = p
advance_listing (refused_by e) p = p

-- Storing version v: list; remove the older temporary keys, one by one; put under the standing key; and, if there was no
-- temporary key or the largest was below v, put under v's own key and then remove that largest one, if any.
-- A put that found no room leaves the line where it is.
abbrev pub remove_or_put : List ℕ → Progress → Progress
remove_or_put [] p = to_stage at.PutStanding p
remove_or_put (k ∷ l) p = to_stage at.RemoveOlder p

abbrev pub after_list : Reply → Progress → Progress
after_list (keys_are l) p = remove_or_put (older_keys l) (keep_list l p)
after_list (got o) p = p
after_list accepted p = p
after_list (refused_by e) p = p

abbrev pub after_put : Reply → Progress → Progress → Progress
after_put (keys_are l) p next = p
after_put (got o) p next = p
after_put accepted p next = next
after_put (refused_by e) p next = p

abbrev pub advance_storing : ℕ → Stage → Reply → Progress → Progress
advance_storing v at.List r p = after_list r p
advance_storing v at.RemoveOlder r p = remove_or_put (drop 1 p.older) (drop_oldest p)
advance_storing v at.PutStanding r p = after_put r p (cond (p.largest == 0 || nat_lt p.largest v) (to_stage at.PutOwn p) (finished p))
advance_storing v at.PutOwn r p = after_put r p (cond (p.largest == 0) (finished p) (to_stage at.RemoveLargest p))
advance_storing v at.RemoveLargest r p = finished p
advance_storing v at.GetLargest r p = after_list r p
advance_storing v at.GetStanding r p = after_list r p

-- Gathering: list; with no temporary key the line is done with nothing. Otherwise get the largest; if it is there, done.
-- If it is gone, get the standing key; a version not below the mark is done. Else back to the list, with the mark.
abbrev pub gather_list : Reply → Progress → Progress
gather_list (keys_are l) p = cond (largest_key l == 0) (finished_with None (keep_list l p)) (to_stage at.GetLargest (set_mark (keep_list l p)))
gather_list (got o) p = p
gather_list accepted p = p
gather_list (refused_by e) p = p

abbrev pub gather_largest : Reply → Progress → Progress
gather_largest (keys_are l) p = p
gather_largest (got None) p = to_stage at.GetStanding p
gather_largest (got (Some x)) p = finished_with (Some x) p
gather_largest accepted p = p
gather_largest (refused_by e) p = p

abbrev pub gather_standing : Reply → Progress → Progress
gather_standing (keys_are l) p = p
gather_standing (got None) p = to_stage at.List p
gather_standing (got (Some x)) p = cond (nat_le p.mark x.version) (finished_with (Some x) p) (to_stage at.List p)
gather_standing accepted p = p
gather_standing (refused_by e) p = p

abbrev pub advance_gathering : Stage → Reply → Progress → Progress
advance_gathering at.List r p = gather_list r p
advance_gathering at.RemoveOlder r p = gather_list r p
advance_gathering at.PutStanding r p = gather_list r p
advance_gathering at.PutOwn r p = gather_list r p
advance_gathering at.RemoveLargest r p = gather_list r p
advance_gathering at.GetLargest r p = gather_largest r p
advance_gathering at.GetStanding r p = gather_standing r p

-- A line that is done stays as it is. (A done line with an answer is foreign, as is one at another phase's stage, and one
-- with an answer of another kind: no call moves those.)
abbrev pub moved : Activity → Reply → Progress → Progress
moved idle r p = p
moved stopped r p = p
moved (listing x) r p = advance_listing r p
moved (gathering b) r p = advance_gathering p.stage r p
moved (storing b v x) r p = advance_storing v p.stage r p

abbrev pub advance : Activity → Reply → Progress → Progress
advance a r p = cond p.done p (moved a r p)
