use Rattle.std.specs.Prelude.{◌≡◌, ℕ, suc, cond, List, [], ◌∷◌, length, take, Ok, Err, Option, Result, ◌==◌, nat_le}
use Rattle.std.specs.List.{list_any}
use Rattle.values.specs.declared.version.Version.{Version}
use Rattle.stores.specs.Provider.{Pair, Cell, Provider, keys}
use Rattle.stores.specs.Operations.{room_for, put_after, get_answer}

-- Cells are put into a provider one by one, in their order, until one finds no room.

-- how many are put
abbrev pub put_count : List Cell → Provider → ℕ
put_count [] p = 0
put_count (c ∷ cs) p = cond (room_for c.key p) (suc (put_count cs (put_after c p))) 0

-- the provider that follows
abbrev pub put_all : List Cell → Provider → Provider
put_all [] p = p
put_all (c ∷ cs) p = cond (room_for c.key p) (put_all cs (put_after c p)) p

-- A copy of one provider into another puts all cells of the first, by way of a sheet for its keys.
-- A sheet that is too short is refused by 16.
abbrev pub copy_answer : Provider → Provider → List Version → Result ℕ ℕ
copy_answer from to sheet = cond (nat_le (length from.cells) (length sheet)) (Ok (put_count from.cells to)) (Err 16)

abbrev pub copy_after : Provider → Provider → List Version → Provider
copy_after from to sheet = cond (nat_le (length from.cells) (length sheet)) (put_all from.cells to) to

-- What a get of `to` answers after n keys of `from` were copied: under these keys what `from` answers, and under any other
-- what `to` answered before.
abbrev pub copied_answer : ℕ → Provider → Provider → ℕ → Option Pair
copied_answer n from to k = cond (list_any (λ j. j == k) (take n (keys from))) (get_answer k from) (get_answer k to)

-- Cells are put into a store one after the other, each once, where `puts` is what one put makes of the store itself.
abbrev pub PutEach : {S : Type 0} → (S → Cell → S → Type 0) → List Cell → S → S → Type 0
PutEach puts [] before after = after ≡ before
PutEach {S} puts (c ∷ cs) before after = (next : S) × puts before c next × PutEach puts cs next after
