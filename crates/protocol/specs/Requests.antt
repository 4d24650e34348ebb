use Rattle.std.specs.Prelude.{ℕ, List, Ok, Err, Option, Result}
use Rattle.stores.specs.Provider.{Pair, Cell, Provider, keys}
use Rattle.stores.specs.Operations.{put_answer, put_after, remove_after, get_answer}

-- What a seat can ask of a provider.
pub data Request : Type 0 where
  list_keys : Request
  get_key : ℕ → Request
  put_cell : Cell → Request
  remove_key : ℕ → Request

-- What a provider can answer: its keys; the pair of a key, if there is one; that it did what was asked;
-- or a refusal, by its number: a put that finds no room is refused by 15.
pub data Reply : Type 0 where
  keys_are : List ℕ → Reply
  got : Option Pair → Reply
  accepted : Reply
  refused_by : ℕ → Reply

abbrev pub put_reply : Result (Unit {0}) ℕ → Reply
put_reply (Ok u) = accepted
put_reply (Err e) = refused_by e

-- what a provider answers to a request
abbrev pub reply : Request → Provider → Reply
reply list_keys p = keys_are (keys p)
reply (get_key k) p = got (get_answer k p)
reply (put_cell c) p = put_reply (put_answer c p)
reply (remove_key k) p = accepted

-- the provider that follows
abbrev pub served : Request → Provider → Provider
served list_keys p = p
served (get_key k) p = p
served (put_cell c) p = put_after c p
served (remove_key k) p = remove_after k p
