use Rattle.std.specs.Prelude.{◌≡◌, ◌≢◌, ℕ, Some, None, Ok, Err}
use Rattle.stores.specs.Provider.{Cell, Provider}
use Rattle.stores.specs.Operations.{put_answer, put_after, remove_after, get_answer}

-- The law of the map: what a get answers after a put and after a remove, of every provider.
pub record MapLaw : Type 0 where
  -- after a put that finds room: its pair under its key, and what it was under every other
  pub put_here : (p : Provider) (c : Cell) → put_answer c p ≡ Ok tt → get_answer c.key (put_after c p) ≡ Some c.pair
  pub put_elsewhere : (p : Provider) (c : Cell) (k : ℕ) → k ≢ c.key → get_answer k (put_after c p) ≡ get_answer k p
  -- after a put that finds none: what it was
  pub put_refused : (p : Provider) (c : Cell) → put_answer c p ≡ Err 15 → put_after c p ≡ p
  -- after a remove: nothing under its key, and what it was under every other
  pub remove_here : (p : Provider) (k : ℕ) → get_answer k (remove_after k p) ≡ None
  pub remove_elsewhere : (p : Provider) (j k : ℕ) → k ≢ j → get_answer k (remove_after j p) ≡ get_answer k p
