use Rattle.std.specs.Prelude.{Bool, true, false, List, [], ◌∷◌, map, ℕ, length}
use Rattle.values.specs.Holds.{hold_means, covers_minute, hold_code}
use Rattle.values.specs.Secrets.{secret_code}
use Rattle.values.specs.declared.hold.Hold.{Hold}
use Rattle.values.specs.declared.hold.Hold.TheVariants.{Held}
use Rattle.journal.specs.Contents.{room_in}
use Rattle.journal.specs.Forms.{size}
use Rattle.protocol.specs.Phases.{next_version}
use Rattle.protocol.specs.Requests.{Request, list_keys, remove_key}
use Rattle.protocol.specs.Stages.{put_under}
use Rattle.protocol.specs.Examples.{key, store_requests}

-- Worked cases of the definitions: what each is about, what the definitions give, and what is expected.

-- how many bytes a secret is written as
abbrev pub secret_width : ℕ
secret_width = length (secret_code [])

-- the keys of a provider
abbrev pub four_keys : List ℕ
four_keys = key 0 0 ∷ key 3 1 ∷ key 3 2 ∷ key 4 1 ∷ []

-- a put of a version under a key, with the value 7
abbrev pub put_seven : ℕ → ℕ → Request
put_seven k v = put_under k v (7 ∷ [])

-- the hold by seat 3 from minute 10 to minute 20
abbrev pub hold : Hold
hold = hold_means (Held 3 10 20)

pub record Cases : Type 0 where
  -- the version that seat 2 chooses after the largest listed key (4, 7), and after none
  pub versions : List ℕ
  -- the requests of a line that stores (4, 2) at a provider with the four keys; (4, 1) at the same; (1, 1) at one with no key
  pub newer : List Request
  pub same : List Request
  pub empty : List Request
  -- with secrets: the lengths of a log's records by bit map 0, 1, 4, 5, 6, 7, and how many keys 248, 247, 124 and 123 bytes hold
  pub lengths : List ℕ
  pub capacities : List ℕ
  -- whether the hold covers minutes 9, 10, 20, 21; and the bytes that it is written as
  pub covered : List Bool
  pub written : List ℕ

abbrev pub given : Cases
given = record {
  versions = next_version (key 4 7) 2 ∷ next_version 0 2 ∷ [];
  newer = store_requests (key 4 2) four_keys;
  same = store_requests (key 4 1) four_keys;
  empty = store_requests (key 1 1) [];
  lengths = map (size secret_width) (0 ∷ 1 ∷ 4 ∷ 5 ∷ 6 ∷ 7 ∷ []);
  capacities = map (room_in secret_width) (248 ∷ 247 ∷ 124 ∷ 123 ∷ []);
  covered = map (covers_minute hold) (9 ∷ 10 ∷ 20 ∷ 21 ∷ []);
  written = hold_code hold;
}

abbrev pub expected : Cases
expected = record {
  versions = key 5 2 ∷ key 1 2 ∷ [];
  newer = list_keys ∷ remove_key (key 3 1) ∷ remove_key (key 3 2) ∷ put_seven 0 (key 4 2) ∷ put_seven (key 4 2) (key 4 2) ∷ remove_key (key 4 1) ∷ [];
  same = list_keys ∷ remove_key (key 3 1) ∷ remove_key (key 3 2) ∷ put_seven 0 (key 4 1) ∷ [];
  empty = list_keys ∷ put_seven 0 (key 1 1) ∷ put_seven (key 1 1) (key 1 1) ∷ [];
  lengths = 1 ∷ 7 ∷ 50 ∷ 56 ∷ 56 ∷ 62 ∷ [];
  capacities = 3 ∷ 2 ∷ 1 ∷ 0 ∷ [];
  covered = false ∷ true ∷ true ∷ false ∷ [];
  written = 7 ∷ 3 ∷ 0 ∷ 10 ∷ 0 ∷ 0 ∷ 0 ∷ 20 ∷ 0 ∷ 0 ∷ 0 ∷ [];
}
