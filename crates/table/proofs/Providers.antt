-- What the entries of a table mean, before and after a put and a remove.
use Rattle.std.proofs.Common.{◌≡◌, ℕ, ◌≤◌, Bool, true, cond, ◌||◌, ltb, leb, List, ◌++◌, map, length, drop, is_some, Some, None, Ok, Err, Option, sym, refl, ap, ◌∙◌, arith}
use Rattle.std.specs.Option.{option_map}
use Rattle.std.proofs.lemmas.List.{length-map}
use Rattle.std.proofs.lemmas.Simd.{map-map}
use Rattle.std.proofs.lemmas.Bool.{le-leb, cond-true}
use Rattle.values.specs.Rank.{version_of}
use Rattle.values.specs.declared.version.Version.{Version}
use Rattle.stores.specs.Keyed.{element_of, put, without}
use Rattle.stores.specs.Provider.{Cell, Provider, cell_key, keys}
use Rattle.stores.specs.Operations.{room_for, put_answer, put_after, remove_after, get_answer, list_sheet}
use Rattle.stores.proofs.KeyedLists.{cond_map, find_map, put_map, without_map}
use Rattle.table.specs.Entries.{entry_key, entry_cell, entry_fits, put_entry}
use Rattle.table.specs.declared.entry.Entry.{Entry}

mapped_some : {A B : Type 0} (f : A → B) (o : Option A) → is_some (option_map f o) ≡ is_some o
mapped_some f None = refl
mapped_some f (Some x) = refl

module _ {V : Type 0} (code : V → List ℕ) (room : ℕ) (us : List (Entry V)) where
  -- what these used entries mean
  abbrev pub provider_of : Provider
  provider_of = record { capacity = room; cells = map (entry_cell code) us }

  keys_mean : map version_of (keys provider_of) ≡ map (λ (e : Entry V). version_of (entry_key e)) us
  keys_mean = ap (map version_of) (map-map cell_key (entry_cell code) us) ∙ map-map version_of entry_key us

  pub count_means : length (map (entry_cell code) us) ≡ length us
  count_means = length-map us (entry_cell code)

  -- what a get answers, by what stands under the key
  pub get_means : (k : ℕ) (r : Option (Entry V)) → element_of entry_key k us ≡ r → option_map (λ (c : Cell). c.pair) (option_map (entry_cell code) r) ≡ get_answer k provider_of
  get_means k r is = sym (ap (option_map (λ (c : Cell). c.pair)) (find_map entry_key cell_key (entry_cell code) (λ _. refl) k us ∙ ap (option_map (entry_cell code)) is))

  pub list_fits : (sheet after : List Version) → length us ≤ length sheet → after ≡ map (λ (e : Entry V). version_of (entry_key e)) us ++ drop (length us) sheet → after ≡ list_sheet provider_of sheet
  list_fits sheet after le eq =
      let n = count_means in
      let f : leb (length (map (entry_cell code) us)) (length sheet) ≡ true = le-leb _ _ (omega arith) in
      eq ∙ sym (cond-true _ (map version_of (keys provider_of) ++ drop (length (map (entry_cell code) us)) sheet) sheet f ∙ (ap (λ ks. ks ++ drop (length (map (entry_cell code) us)) sheet) keys_mean ∙ ap (λ i. map (λ (e : Entry V). version_of (entry_key e)) us ++ drop i sheet) n))

  pub remove_means : (k : ℕ) (xs : List (Entry V)) → xs ≡ without entry_key k us → record { capacity = room; cells = map (entry_cell code) xs } ≡ remove_after k provider_of
  remove_means k xs is =
      let f : List Cell → Provider = λ cs. record { capacity = room; cells = cs } in
      ap f (ap (map (entry_cell code)) is ∙ sym (without_map entry_key cell_key (entry_cell code) (λ _. refl) k us))

  module _ (e : Entry V) where
    room_means : room_for (entry_key e) provider_of ≡ entry_fits room e us
    room_means =
        let a = ap is_some (find_map entry_key cell_key (entry_cell code) (λ _. refl) (entry_key e) us) ∙ mapped_some (entry_cell code) (element_of entry_key (entry_key e) us) in
        ap (λ b. b || ltb (length (map (entry_cell code) us)) room) a ∙ ap (λ n. is_some (element_of entry_key (entry_key e) us) || ltb n room) count_means

    pub put_means : (xs : List (Entry V)) → xs ≡ put_entry room e us → record { capacity = room; cells = map (entry_cell code) xs } ≡ put_after (entry_cell code e) provider_of
    put_means xs is =
        let f : List Cell → Provider = λ cs. record { capacity = room; cells = cs } in
        let a : map (entry_cell code) (put_entry room e us) ≡ cond (entry_fits room e us) (map (entry_cell code) (put entry_key e us)) (map (entry_cell code) us) = cond_map (map (entry_cell code)) (entry_fits room e us) (put entry_key e us) us in
        let b = ap (λ cs. cond (entry_fits room e us) cs (map (entry_cell code) us)) (sym (put_map entry_key cell_key (entry_cell code) (λ _. refl) e us)) in
        let d = ap (λ x. cond x (put cell_key (entry_cell code e) (map (entry_cell code) us)) (map (entry_cell code) us)) (sym room_means) in
        ap f (ap (map (entry_cell code)) is ∙ (a ∙ (b ∙ d)))

    pub put_answers : (fit : Bool) → entry_fits room e us ≡ fit → cond fit (Ok tt) (Err 15) ≡ put_answer (entry_cell code e) provider_of
    put_answers fit is = ap (λ b. cond b (Ok tt) (Err 15)) (sym is ∙ sym room_means)
