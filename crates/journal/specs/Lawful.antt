use Rattle.std.specs.Prelude.{◌≡◌, ℕ, ◌≤◌, true, List, [], ◌∷◌, length, map, refl}
use Rattle.std.proofs.Common.{ap, ◌∙◌, ⊎_elim, arith}
use Rattle.std.proofs.lemmas.List.{length-map}
use Rattle.std.proofs.lemmas.Bool.{cases_Bool, cond_both}
use Rattle.stores.specs.Keyed.{ascending, put, without}
use Rattle.stores.specs.Provider.{Cell, cell_key, keys}
use Rattle.stores.proofs.KeyedLists.{put_ascending, without_ascending, map_keys}
use Rattle.journal.specs.declared.journal.Journal.{Journal}
use Rattle.journal.specs.Record.{record_key, record_cell, is_put}
use Rattle.journal.specs.Log.{step, replay_on, replay}
use Rattle.journal.specs.Contents.{serves}
use Rattle.journal.specs.Normal.{normal_cell, provider_of}
use Rattle.journal.specs.Held.{contents_of}

-- What a journal has to show of its provider: the map is no larger than the capacity, and ascending.

ascends_step : (r : List ℕ) (m : List Cell) → ascending (map cell_key m) ≡ true → ascending (map cell_key (step r m)) ≡ true
ascends_step r m h = cond_both (is_put r) (put cell_key (record_cell r) m) (without cell_key (record_key r) m) (λ n. ascending (map cell_key n) ≡ true) (λ _. put_ascending cell_key (record_cell r) m h) (λ _. without_ascending cell_key (record_key r) m h)

pub ascends_replay : (m : List Cell) (rs : List (List ℕ)) → ascending (map cell_key m) ≡ true → ascending (map cell_key (replay_on m rs)) ≡ true
ascends_replay m [] h = h
ascends_replay m (r ∷ rs) h = ascends_replay (step r m) rs (ascends_step r m h)

module _ (wide : ℕ) (f : List ℕ → List ℕ) (j : Journal) where
  pub few_cells : length (provider_of wide f (contents_of j)).cells ≤ (provider_of wide f (contents_of j)).capacity
  few_cells =
      let n = length-map (replay (contents_of j).records) (normal_cell f) in
      let k = j.counted in
      let l = j.few in
      ⊎_elim (λ t. rw t (omega arith)) (λ t. rw t (omega arith)) (cases_Bool (serves wide (contents_of j)))

  pub sorted_cells : ascending (keys (provider_of wide f (contents_of j))) ≡ true
  sorted_cells =
      let m = replay (contents_of j).records in
      let s : ascending (map cell_key (map (normal_cell f) m)) ≡ true = ap ascending (map_keys cell_key cell_key (normal_cell f) (λ _. refl) m) ∙ ascends_replay [] (contents_of j).records refl in
      ⊎_elim (λ t. rw t s) (λ t. rw t refl) (cases_Bool (serves wide (contents_of j)))
