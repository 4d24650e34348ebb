-- Values in their normal form, and providers with such values.
use Rattle.std.proofs.Common.{◌≡◌, ℕ, true, false, cond, ◌||◌, eqb, ltb, List, [], map, length, is_some, Some, None, Ok, Err, Option, Result, unwrap_or, sym, refl, ap, ◌∙◌, ⊎_elim}
use Rattle.std.specs.Option.{option_map, ok_or}
use Rattle.std.proofs.lemmas.List.{length-map}
use Rattle.std.proofs.lemmas.Bool.{cases_Bool, cond-true, cond-false, cond_both, eq-eqb}
use Rattle.values.specs.Sheets.{read_answer}
use Rattle.stores.specs.Keyed.{element_of, put, without}
use Rattle.stores.specs.Provider.{Cell, Provider, cell_key}
use Rattle.stores.specs.Operations.{room_for, put_answer, put_after, remove_after}
use Rattle.stores.proofs.KeyedLists.{without_absent, map_keys, find_map, put_map, without_map}
use Rattle.journal.specs.Record.{put_record, remove_record}
use Rattle.journal.specs.Codec.{ReadsPut, ReadsRemove}
use Rattle.journal.specs.Log.{replay, appended}
use Rattle.journal.specs.Contents.{Contents, raw, serves, put_log, remove_log, put_contents, remove_contents, pack_contents}
use Rattle.journal.specs.Normal.{normal, normal_cell, provider_of}
use Rattle.journal.proofs.Maps.{ranks, none_is}
use Rattle.journal.proofs.Encodings.{step_put, step_remove}
use Rattle.journal.proofs.Replays.{replay_live}
use Rattle.journal.proofs.Appends.{replay_appended}

module _ {M : Type 0} (decoded : List ℕ → Option M) (coded : M → List ℕ) (blank bs : List ℕ) where
  -- bytes that a value is written as are in their normal form
  pub kept : (m : M) → decoded bs ≡ Some m → bs ≡ coded m → normal decoded coded blank bs ≡ bs
  unfolding normal
  kept m d c = ap (λ o. unwrap_or (option_map coded o) blank) d ∙ sym c

  -- the bytes of what was read, or of the blank value where the bytes were refused
  abbrev coded_or : Result M ℕ → List ℕ
  coded_or (Ok m) = coded m
  coded_or (Err e) = blank

  coded_some : (o : Option M) → coded_or (ok_or o 19) ≡ unwrap_or (option_map coded o) blank
  coded_some None = refl
  coded_some (Some m) = refl

  normal_read : (wide : ℕ) → length bs ≡ wide → coded_or (read_answer wide decoded bs) ≡ normal decoded coded blank bs
  unfolding normal
  normal_read wide l = ap coded_or (cond-true (eqb (length bs) wide) (ok_or (decoded bs) 19) (Err 19) (eq-eqb (length bs) wide l)) ∙ coded_some (decoded bs)

  pub read_value : (wide : ℕ) (m : M) → length bs ≡ wide → Ok m ≡ read_answer wide decoded bs → coded m ≡ normal decoded coded blank bs
  read_value wide m l e = ap coded_or e ∙ normal_read wide l

  pub read_nothing : (wide n : ℕ) → length bs ≡ wide → Err n ≡ read_answer wide decoded bs → blank ≡ normal decoded coded blank bs
  read_nothing wide n l e = ap coded_or e ∙ normal_read wide l

-- the map of a log after a put and after a remove

replay_put : (w : ℕ) (c : Cell) (s : Contents) → ReadsPut w (put_record c) c → replay (put_log c s) ≡ cond (room_for c.key (raw s)) (put cell_key c (replay s.records)) (replay s.records)
replay_put w c s b =
    let a : replay (appended s.size (put_record c) s.records) ≡ put cell_key c (replay s.records) = replay_appended s.size (put_record c) s.records ∙ step_put w (put_record c) c (replay s.records) b in
    ⊎_elim
    (λ t. ap replay (cond-true (room_for c.key (raw s)) (appended s.size (put_record c) s.records) s.records t) ∙ (a ∙ sym (cond-true (room_for c.key (raw s)) (put cell_key c (replay s.records)) (replay s.records) t)))
    (λ t. ap replay (cond-false (room_for c.key (raw s)) (appended s.size (put_record c) s.records) s.records t) ∙ sym (cond-false (room_for c.key (raw s)) (put cell_key c (replay s.records)) (replay s.records) t))
    (cases_Bool (room_for c.key (raw s)))

replay_remove : (w k : ℕ) (s : Contents) → ReadsRemove w (remove_record k) k → replay (remove_log k s) ≡ without cell_key k (replay s.records)
replay_remove w k s b =
    let m = replay s.records in
    ⊎_elim
    (λ t. ap replay (cond-true (is_some (element_of cell_key k m)) (appended s.size (remove_record k) s.records) s.records t) ∙ (replay_appended s.size (remove_record k) s.records ∙ step_remove w (remove_record k) k m b))
    (λ t. ap replay (cond-false (is_some (element_of cell_key k m)) (appended s.size (remove_record k) s.records) s.records t) ∙ sym (without_absent cell_key k m (none_is (element_of cell_key k m) t)))
    (cases_Bool (is_some (element_of cell_key k (replay s.records))))

-- a map whose values are in their normal form

module _ (f : List ℕ → List ℕ) where
  pub ranks_normal : (m : List Cell) → ranks (map (normal_cell f) m) ≡ ranks m
  ranks_normal m = map_keys cell_key cell_key (normal_cell f) (λ _. refl) m

  pub find_normal : (k : ℕ) (m : List Cell) → element_of cell_key k (map (normal_cell f) m) ≡ option_map (normal_cell f) (element_of cell_key k m)
  find_normal k m = find_map cell_key cell_key (normal_cell f) (λ _. refl) k m

  put_normal : (n : Cell) (m : List Cell) → map (normal_cell f) (put cell_key n m) ≡ put cell_key (normal_cell f n) (map (normal_cell f) m)
  put_normal n m = sym (put_map cell_key cell_key (normal_cell f) (λ _. refl) n m)

  without_normal : (k : ℕ) (m : List Cell) → map (normal_cell f) (without cell_key k m) ≡ without cell_key k (map (normal_cell f) m)
  without_normal k m = sym (without_map cell_key cell_key (normal_cell f) (λ _. refl) k m)

some_mapped : {X Y : Type 0} (g : X → Y) (o : Option X) → is_some (option_map g o) ≡ is_some o
some_mapped g None = refl
some_mapped g (Some x) = refl

abbrev with_cells : ℕ → List Cell → Provider
with_cells n m = record { capacity = n; cells = m }

module _ (wide : ℕ) (f : List ℕ → List ℕ) (s : Contents) where
  pub provider_served : serves wide s ≡ true → provider_of wide f s ≡ with_cells s.room (map (normal_cell f) (replay s.records))
  provider_served t = ap (λ b. with_cells (cond b s.room 0) (cond b (map (normal_cell f) (replay s.records)) [])) t

  pub provider_other : serves wide s ≡ false → provider_of wide f s ≡ with_cells 0 []
  provider_other t = ap (λ b. with_cells (cond b s.room 0) (cond b (map (normal_cell f) (replay s.records)) [])) t

  room_normal : (k : ℕ) → room_for k (with_cells s.room (map (normal_cell f) (replay s.records))) ≡ room_for k (raw s)
  room_normal k =
      let m = replay s.records in
      ap (λ b. b || ltb (length (map (normal_cell f) m)) s.room) (ap is_some (find_normal f k m) ∙ some_mapped (normal_cell f) (element_of cell_key k m)) ∙ ap (λ n. is_some (element_of cell_key k m) || ltb n s.room) (length-map m (normal_cell f))

  pub answer_put : (c : Cell) → serves wide s ≡ true → put_answer c (provider_of wide f s) ≡ put_answer c (raw s)
  answer_put c t = ap (put_answer c) (provider_served t) ∙ ap (λ b. cond b (Ok tt) (Err 15)) (room_normal c.key)

module _ (wide : ℕ) (f : List ℕ → List ℕ) (s : Contents) where
  pub provider_put : (w : ℕ) (c : Cell) → ReadsPut w (put_record c) c → f c.pair.value ≡ c.pair.value → provider_of wide f (put_contents wide c s) ≡ put_after c (provider_of wide f s)
  provider_put w c b kept =
      let m = replay s.records in
      let N = normal_cell f in
      let cell : List ℕ → Cell = λ v. record { key = c.key; pair = record { version = c.pair.version; value = v } } in
      let n : N c ≡ c = ap cell kept in
      ⊎_elim
      (λ t.
      let l : cond (serves wide s) (put_log c s) s.records ≡ put_log c s = cond-true (serves wide s) (put_log c s) s.records t in
      let r : map N (cond (room_for c.key (raw s)) (put cell_key c m) m) ≡ cond (room_for c.key (raw s)) (put cell_key c (map N m)) (map N m) =
      cond_both (room_for c.key (raw s)) (put cell_key c m) m (λ xs. map N xs ≡ cond (room_for c.key (raw s)) (put cell_key c (map N m)) (map N m))
      (λ h. put_normal f c m ∙ (ap (λ x. put cell_key x (map N m)) n ∙ sym (cond-true (room_for c.key (raw s)) (put cell_key c (map N m)) (map N m) h)))
      (λ h. sym (cond-false (room_for c.key (raw s)) (put cell_key c (map N m)) (map N m) h)) in
      let e : map N (replay (cond (serves wide s) (put_log c s) s.records)) ≡ cond (room_for c.key (with_cells s.room (map N m))) (put cell_key c (map N m)) (map N m) =
      ap (λ xs. map N (replay xs)) l ∙ (ap (map N) (replay_put w c s b) ∙ (r ∙ ap (λ h. cond h (put cell_key c (map N m)) (map N m)) (sym (room_normal wide f s c.key)))) in
      provider_served wide f (put_contents wide c s) t ∙ (ap (with_cells s.room) e ∙ sym (ap (put_after c) (provider_served wide f s t))))
      (λ t. provider_other wide f (put_contents wide c s) t ∙ sym (ap (put_after c) (provider_other wide f s t)))
      (cases_Bool (serves wide s))

  pub provider_remove : (w k : ℕ) → ReadsRemove w (remove_record k) k → provider_of wide f (remove_contents wide k s) ≡ remove_after k (provider_of wide f s)
  provider_remove w k b =
      let m = replay s.records in
      let N = normal_cell f in
      ⊎_elim
      (λ t.
      let l : cond (serves wide s) (remove_log k s) s.records ≡ remove_log k s = cond-true (serves wide s) (remove_log k s) s.records t in
      let e : map N (replay (cond (serves wide s) (remove_log k s) s.records)) ≡ without cell_key k (map N m) = ap (λ xs. map N (replay xs)) l ∙ (ap (map N) (replay_remove w k s b) ∙ without_normal f k m) in
      provider_served wide f (remove_contents wide k s) t ∙ (ap (with_cells s.room) e ∙ sym (ap (remove_after k) (provider_served wide f s t))))
      (λ t. provider_other wide f (remove_contents wide k s) t ∙ sym (ap (remove_after k) (provider_other wide f s t)))
      (cases_Bool (serves wide s))

  pub provider_pack : provider_of wide f (pack_contents s) ≡ provider_of wide f s
  provider_pack = ap (λ m. with_cells (cond (serves wide s) s.room 0) (cond (serves wide s) (map (normal_cell f) m) [])) (replay_live s.records)
