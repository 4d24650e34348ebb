-- A line's record read as the model's progress, and that a request and an answer move both alike.
use Rattle.std.proofs.Common.{◌≡◌, ℕ, suc, ◌≤◌, Bool, true, false, cond, ◌||◌, eqb, ltb, leb, ◌≢◌, List, [], ◌∷◌, map, length, get_or, drop, is_some, Some, None, Option, sym, refl, ap, ◌∙◌, arith}
use Rattle.std.specs.Option.{option_map}
use Rattle.std.proofs.lemmas.Bool.{cond_both, cond-true, lt-ltb, eqb-true, true≢false}
use Rattle.stores.specs.Keyed.{element_of, put}
use Rattle.stores.specs.Operations.{room_for}
use Rattle.stores.specs.Provider.{Pair, Cell, Provider, cell_key}
use Rattle.protocol.specs.Lines.{Progress}
use Rattle.protocol.specs.Moves.{largest_key, older_keys, mark_after, remove_or_put, to_stage, advance}
use Rattle.protocol.specs.Requests.{Request, list_keys, get_key, put_cell, remove_key, got, reply, served}
use Rattle.protocol.specs.Law.{is_refusal}
use Rattle.protocol.specs.Seats.{listing, gathering, storing}
use Rattle.protocol.specs.Stages.{request_of}
use Rattle.protocol.specs.declared.stage.Stage.{Stage}
use Rattle.protocol.specs.declared.stage.Stage.TheVariants as at
use Rattle.protocol.proofs.Model.{Code, cell_of, StoreProgress, to_list, to_remove, to_put_standing, to_put_own, to_remove_largest, stored, GatherProgress, to_list_again, to_get_largest, to_get_standing, found_none, found, top, carry, to_remove_all, ask_store, next_store, ask_gather, next_gather, listed_gather, got_largest, got_standing, listed_once, list_done, store_done, gather_done}

abbrev pub list_progress : Progress → Option ℕ
list_progress p = cond p.done (Some p.largest) None

abbrev pub store_at : Stage → List ℕ → ℕ → StoreProgress
store_at at.List o b = to_list
store_at at.RemoveOlder o b = to_remove (get_or o 0 0) (drop 1 o) b
store_at at.PutStanding o b = to_put_standing b
store_at at.PutOwn o b = to_put_own b
store_at at.RemoveLargest o b = to_remove_largest b
store_at at.GetLargest o b = to_list
store_at at.GetStanding o b = to_list

abbrev pub store_progress : Progress → StoreProgress
store_progress p = cond p.done stored (store_at p.stage p.older p.largest)

abbrev pub gather_at : Stage → ℕ → ℕ → GatherProgress
gather_at at.List b k = to_list_again k
gather_at at.RemoveOlder b k = to_list_again k
gather_at at.PutStanding b k = to_list_again k
gather_at at.PutOwn b k = to_list_again k
gather_at at.RemoveLargest b k = to_list_again k
gather_at at.GetLargest b k = to_get_largest b k
gather_at at.GetStanding b k = to_get_standing k

abbrev pub pair_found : Option Pair → GatherProgress
pair_found None = found_none
pair_found (Some z) = found z.version z.value

abbrev pub gather_progress : Progress → GatherProgress
gather_progress p = cond p.done (pair_found p.found) (gather_at p.stage p.largest p.mark)

-- a line's record is done where its progress is
pub list_is_done : (p : Progress) → list_done (list_progress p) ≡ p.done
list_is_done p = go p.done
  where
    go : (b : Bool) → list_done (cond b (Some p.largest) None) ≡ b
    go true = refl
    go false = refl

store_undone : (g : Stage) (o : List ℕ) (b : ℕ) → store_done (store_at g o b) ≡ false
store_undone at.List o b = refl
store_undone at.RemoveOlder o b = refl
store_undone at.PutStanding o b = refl
store_undone at.PutOwn o b = refl
store_undone at.RemoveLargest o b = refl
store_undone at.GetLargest o b = refl
store_undone at.GetStanding o b = refl

pub store_is_done : (p : Progress) → store_done (store_progress p) ≡ p.done
store_is_done p = go p.done
  where
    go : (b : Bool) → store_done (cond b stored (store_at p.stage p.older p.largest)) ≡ b
    go true = refl
    go false = store_undone p.stage p.older p.largest

gather_undone : (g : Stage) (b k : ℕ) → gather_done (gather_at g b k) ≡ false
gather_undone at.List b k = refl
gather_undone at.RemoveOlder b k = refl
gather_undone at.PutStanding b k = refl
gather_undone at.PutOwn b k = refl
gather_undone at.RemoveLargest b k = refl
gather_undone at.GetLargest b k = refl
gather_undone at.GetStanding b k = refl

pair_done : (z : Option Pair) → gather_done (pair_found z) ≡ true
pair_done None = refl
pair_done (Some z) = refl

pub gather_is_done : (p : Progress) → gather_done (gather_progress p) ≡ p.done
gather_is_done p = go p.done
  where
    go : (b : Bool) → gather_done (cond b (pair_found p.found) (gather_at p.stage p.largest p.mark)) ≡ b
    go true = pair_done p.found
    go false = gather_undone p.stage p.largest p.mark

-- a line that is not done asks what its progress asks
pub store_asks : (b : Bool) (v : ℕ) (x : Code) (p : Progress) → p.done ≡ false → ask_store v x (store_progress p) ≡ request_of (storing b v x) p
store_asks b v x p f = ap (λ t. ask_store v x (cond t stored (store_at p.stage p.older p.largest))) f ∙ go p.stage
  where
    go : (g : Stage) → ask_store v x (store_at g p.older p.largest) ≡ request_of (storing b v x) (to_stage g p)
    go at.List = refl
    go at.RemoveOlder = refl
    go at.PutStanding = refl
    go at.PutOwn = refl
    go at.RemoveLargest = refl
    go at.GetLargest = refl
    go at.GetStanding = refl

pub gather_asks : (b : Bool) (p : Progress) → p.done ≡ false → ask_gather (gather_progress p) ≡ request_of (gathering b) p
gather_asks b p f = ap (λ t. ask_gather (cond t (pair_found p.found) (gather_at p.stage p.largest p.mark))) f ∙ go p.stage
  where
    go : (g : Stage) → ask_gather (gather_at g p.largest p.mark) ≡ request_of (gathering b) (to_stage g p)
    go at.List = refl
    go at.RemoveOlder = refl
    go at.PutStanding = refl
    go at.PutOwn = refl
    go at.RemoveLargest = refl
    go at.GetLargest = refl
    go at.GetStanding = refl

-- a request finds room, so no put is refused
abbrev pub Roomy : Request → Provider → Type 0
Roomy q d = length (carry q d.cells) ≤ d.capacity

grown : (c : Cell) (m : List Cell) → is_some (element_of cell_key c.key m) ≡ false → length (put cell_key c m) ≡ suc (length m)
grown c [] e = refl
grown c (x ∷ m) e = go (eqb x.key c.key) refl e (grown c m)
  where
    go : (b : Bool) → eqb x.key c.key ≡ b → is_some (cond b (Some x) (element_of cell_key c.key m)) ≡ false → (is_some (element_of cell_key c.key m) ≡ false → length (put cell_key c m) ≡ suc (length m)) → length (put cell_key c (x ∷ m)) ≡ suc (suc (length m))
    go true t e ih = absurd (true≢false e)
    go false f e ih = cond_both (ltb x.key c.key) _ _ (λ z. length z ≡ suc (suc (length m))) (λ _. ap suc (ih e)) (λ _. ap (λ b. suc (length (cond b m (x ∷ m)))) f)

pub room : (c : Cell) (d : Provider) → Roomy (put_cell c) d → room_for c.key d ≡ true
room c d l = go (is_some (element_of cell_key c.key d.cells)) refl
  where
    go : (b : Bool) → is_some (element_of cell_key c.key d.cells) ≡ b → (b || ltb (length d.cells) d.capacity) ≡ true
    go true e = refl
    go false e = lt-ltb (length d.cells) d.capacity (omega (arith, grown c d.cells e))

pub serves : (q : Request) (d : Provider) → Roomy q d → (served q d).cells ≡ carry q d.cells
serves list_keys d l = refl
serves (get_key k) d l = refl
serves (put_cell c) d l = cond-true (room_for c.key d) _ _ (room c d l)
serves (remove_key k) d l = refl

pub same_capacity : (q : Request) (d : Provider) → (served q d).capacity ≡ d.capacity
same_capacity list_keys d = refl
same_capacity (get_key k) d = refl
same_capacity (put_cell c) d = refl
same_capacity (remove_key k) d = refl

pub reply_roomy : (q : Request) (d : Provider) → Roomy q d → is_refusal (reply q d) ≡ false
reply_roomy list_keys d l = refl
reply_roomy (get_key k) d l = refl
reply_roomy (put_cell c) d l = rw (room c d l) refl
reply_roomy (remove_key k) d l = refl

through : {X Y : Type 0} (f : X → Y) (b : Bool) (x y : X) → f (cond b x y) ≡ cond b (f x) (f y)
through f true x y = refl
through f false x y = refl

-- a progress by its fields
abbrev fields : Stage → Bool → ℕ → List ℕ → ℕ → Option Pair → Progress
fields g b k o t z = record { stage = g; done = b; mark = k; older = o; largest = t; found = z }

pub list_moves : (x : Code) (p : Progress) (d : Provider) → list_progress (advance (listing x) (reply list_keys d) p) ≡ listed_once (list_progress p) (top d.cells)
list_moves x p d = go p.done
  where
    go : (b : Bool) → let p : Progress = fields p.stage b p.mark p.older p.largest p.found in list_progress (advance (listing x) (reply list_keys d) p) ≡ listed_once (list_progress p) (top d.cells)
    go true = refl
    go false = refl

-- the keys that are left to remove
rest_progress : (o : List ℕ) (g : Stage) (k t : ℕ) (z : Option Pair) → store_progress (remove_or_put o (fields g false k o t z)) ≡ to_remove_all o t
rest_progress [] g k t z = refl
rest_progress (y ∷ o) g k t z = refl

pub store_moves : (b : Bool) (v : ℕ) (x : Code) (p : Progress) (d : Provider) → v ≢ 0 → Roomy (ask_store v x (store_progress p)) d →
    store_progress (advance (storing b v x) (reply (ask_store v x (store_progress p)) d) p) ≡ next_store v d.cells (store_progress p)
store_moves b v x p d nz l = go p.done p.stage l
  where
    -- no temporary key is below every version
    below : (t : ℕ) → (eqb t 0 || ltb t v) ≡ ltb t v
    below t = go (eqb t 0) refl
      where
        go : (a : Bool) → eqb t 0 ≡ a → (a || ltb t v) ≡ ltb t v
        go true e = sym (lt-ltb t v (omega (arith, nz, eqb-true t 0 e)))
        go false e = refl

    go : (a : Bool) (g : Stage) → let p : Progress = fields g a p.mark p.older p.largest p.found in Roomy (ask_store v x (store_progress p)) d →
        store_progress (advance (storing b v x) (reply (ask_store v x (store_progress p)) d) p) ≡ next_store v d.cells (store_progress p)
    go true g l = refl
    go false at.List l = rest_progress (older_keys (map cell_key d.cells)) at.List p.mark (top d.cells) p.found
    go false at.RemoveOlder l = rest_progress (drop 1 p.older) at.RemoveOlder p.mark p.largest p.found
    go false at.PutStanding l = rw (room (cell_of 0 v x) d l) (through store_progress (eqb p.largest 0 || ltb p.largest v) _ _ ∙ ap (λ t. cond t (to_put_own p.largest) stored) (below p.largest))
    go false at.PutOwn l = rw (room (cell_of v v x) d l) (through store_progress (eqb p.largest 0) _ _)
    go false at.RemoveLargest l = refl
    go false at.GetLargest l = rest_progress (older_keys (map cell_key d.cells)) at.GetLargest p.mark (top d.cells) p.found
    go false at.GetStanding l = rest_progress (older_keys (map cell_key d.cells)) at.GetStanding p.mark (top d.cells) p.found

pub gather_moves : (b : Bool) (p : Progress) (d : Provider) → gather_progress (advance (gathering b) (reply (ask_gather (gather_progress p)) d) p) ≡ next_gather d.cells (gather_progress p)
gather_moves b p d = go p.done p.stage
  where
    m : List Cell
    m = d.cells

    listed : (g : Stage) → let l = map cell_key m in
        gather_progress (cond (eqb (largest_key l) 0) (fields g true p.mark (older_keys l) (largest_key l) None) (fields at.GetLargest false (mark_after p.mark (largest_key l)) (older_keys l) (largest_key l) p.found)) ≡ listed_gather (top m) p.mark
    listed g = let l = map cell_key m in through gather_progress (eqb (largest_key l) 0) _ _

    largest : (o : Option Cell) → gather_progress (advance (gathering b) (got (option_map (λ c. c.pair) o)) (fields at.GetLargest false p.mark p.older p.largest p.found)) ≡ got_largest p.mark o
    largest None = refl
    largest (Some c) = refl

    standing : (o : Option Cell) → gather_progress (advance (gathering b) (got (option_map (λ c. c.pair) o)) (fields at.GetStanding false p.mark p.older p.largest p.found)) ≡ got_standing p.mark o
    standing None = refl
    standing (Some c) = through gather_progress (leb p.mark c.pair.version) _ _

    done : (z : Option Pair) (g : Stage) → let p : Progress = fields g true p.mark p.older p.largest z in gather_progress (advance (gathering b) (reply (ask_gather (gather_progress p)) d) p) ≡ next_gather m (gather_progress p)
    done None g = refl
    done (Some z) g = refl

    go : (a : Bool) (g : Stage) → let p : Progress = fields g a p.mark p.older p.largest p.found in gather_progress (advance (gathering b) (reply (ask_gather (gather_progress p)) d) p) ≡ next_gather m (gather_progress p)
    go true g = done p.found g
    go false at.List = listed at.List
    go false at.RemoveOlder = listed at.RemoveOlder
    go false at.PutStanding = listed at.PutStanding
    go false at.PutOwn = listed at.PutOwn
    go false at.RemoveLargest = listed at.RemoveLargest
    go false at.GetLargest = largest (element_of cell_key p.largest m)
    go false at.GetStanding = standing (element_of cell_key 0 m)
