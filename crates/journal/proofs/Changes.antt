-- What an appended record leaves, and how many keys a put and a remove leave.
use Rattle.std.proofs.Common.{◌≡◌, ℕ, ◌+◌, ◌-◌, ◌<◌, ◌≤◌, true, false, cond, leb, List, [], ◌∷◌, ◌++◌, length, take, drop, replicate, is_some, sym, refl, ap, ◌∙◌, subst, arith}
use Rattle.std.proofs.lemmas.Bool.{le-leb, lt-leb}
use Rattle.stores.specs.Keyed.{element_of, put}
use Rattle.stores.specs.Provider.{Cell, cell_key}
use Rattle.journal.specs.declared.journal.Journal.{Journal}
use Rattle.journal.specs.Record.{whole, put_record, remove_record}
use Rattle.journal.specs.Codec.{ReadsPut, ReadsRemove}
use Rattle.journal.specs.Log.{log, sound, joined, live, replay, step, appended}
use Rattle.journal.specs.Contents.{Contents, contents, with_records, pack_contents}
use Rattle.journal.specs.Lawful.{ascends_replay}
use Rattle.journal.specs.Held.{bytes_of, contents_of, Holds}
use Rattle.journal.specs.Walk.{overlay, Logged}
use Rattle.journal.proofs.Maps.{none_is, some_long, length_put_new, length_put_old, length_without}
use Rattle.journal.proofs.Encodings.{step_put, step_remove}
use Rattle.journal.proofs.Overlays.{length_overlay}
use Rattle.journal.proofs.Appends.{pushed, used_is, room_packed, replay_appended}
use Rattle.journal.proofs.Holdings.{logged}

-- what a journal asks of a record that is appended, after which it has `count` keys
pub record Appends (j : Journal) (r : List ℕ) (count : ℕ) : Type 0 where
  pub wholly : whole j.width r ≡ true
  pub counted : count ≡ length (step r (replay (contents_of j).records))
  pub few : count ≤ j.room
  pub some : 1 ≤ j.room

-- Room was made for a record: the log is as it was or packed, and the record fits after it.
pub record Made (j : Journal) (r : List ℕ) (j' : Journal) : Type 0 where
  pub is : contents_of j' ≡ with_records (contents_of j) (cond (leb (length (joined (contents_of j).records) + length r) (length (bytes_of j))) (contents_of j).records (live (contents_of j).records))
  pub fits : j'.used + length r ≤ length (bytes_of j')

module _ (j : Journal) (r : List ℕ) where
  pub made_same : length r ≤ length (bytes_of j) - j.used → Made j r j
  made_same le =
      let rs = (contents_of j).records in
      let u = used_is j.width j.used (bytes_of j) rs (logged j) in
      let i = j.within in
      let t : leb (length (joined (contents_of j).records) + length r) (length (bytes_of j)) ≡ true = le-leb (length (joined rs) + length r) (length (bytes_of j)) (omega arith) in
      record { is = ap (λ b. with_records (contents_of j) (cond b rs (live rs))) (sym t); fits = omega arith }

  pub made_packed : (j' : Journal) → whole j.width r ≡ true → 1 ≤ j.room → length (bytes_of j) - j.used < length r → Holds j' (pack_contents (contents_of j)) → Made j r j'
  made_packed j' o some lt h =
      let rs = (contents_of j).records in
      let u = used_is j.width j.used (bytes_of j) rs (logged j) in
      let i = j.within in
      let t : leb (length (joined (contents_of j).records) + length r) (length (bytes_of j)) ≡ false = lt-leb (length (joined rs) + length r) (length (bytes_of j)) (omega arith) in
      let n = j.counted in
      let l = j.few in
      let f = room_packed j.width j.room (length (bytes_of j)) r rs j.whole o (omega arith) (j.fits some) in
      let v = h.used in
      let s = ap (λ (x : Contents). x.size) h.contents in
      record { is = h.contents ∙ ap (λ b. with_records (contents_of j) (cond b rs (live rs))) (sym t); fits = omega arith }

-- A record was written after the log.
pub record Extended (j : Journal) (r : List ℕ) (j' : Journal) (used count : ℕ) (bs : List ℕ) : Type 0 where
  pub size : length bs ≡ length (bytes_of j')
  pub within : used ≤ length bs
  pub sounds : sound j'.width (log j'.width (take used bs)) ≡ true
  pub zeros : drop used bs ≡ replicate (length bs - used) 0
  pub counted : count ≡ length (replay (log j'.width (take used bs)))
  pub few : count ≤ j'.room
  pub is : contents j'.width j'.room used bs ≡ with_records (contents_of j) (appended (contents_of j).size r (contents_of j).records)

pub extended : (j : Journal) (r : List ℕ) (j' : Journal) (used count : ℕ) (bs : List ℕ) → Made j r j' → whole j.width r ≡ true → count ≡ length (step r (replay (contents_of j).records)) → count ≤ j.room → used ≡ j'.used + length r → bs ≡ overlay j'.used r (bytes_of j') → Extended j r j' used count bs
unfolding appended
extended j r j' used count bs m o counted few used_to written =
    let rs = (contents_of j).records in
    let o' : whole j'.width r ≡ true = ap (λ (x : Contents). whole x.width r) m.is ∙ o in
    let F : ℕ → List ℕ → Type 0 = λ n xs. Logged j'.width n xs ((contents_of j').records ++ r ∷ []) in
    let p = subst (F used) (sym written) (subst (λ n. F n (overlay j'.used r (bytes_of j'))) (sym used_to) (pushed j'.width j'.used r (bytes_of j') (contents_of j').records (logged j') m.fits o')) in
    let l : log j'.width (take used bs) ≡ appended (length (bytes_of j)) r rs = p.is ∙ ap (λ (x : Contents). x.records ++ r ∷ []) m.is in
    let s : length bs ≡ length (bytes_of j') = ap length written ∙ length_overlay j'.used r (bytes_of j') m.fits in
    let n : j'.room ≡ j.room = ap (λ (x : Contents). x.room) m.is in
    record {
      size = s;
      within = p.within;
      sounds = ap (sound j'.width) p.is ∙ p.sounds;
      zeros = p.zeros;
      counted = counted ∙ ap length (sym (ap replay l ∙ replay_appended (length (bytes_of j)) r rs));
      few = omega arith;
      is =
          ap (λ k. with_records (record { width = j'.width; room = j'.room; size = k; records = [] }) (log j'.width (take used bs))) s ∙
          (ap (λ x. with_records x (log j'.width (take used bs))) m.is ∙ ap (with_records (contents_of j)) l);
    }

-- what a put leaves, over a present key and of a new one
module _ (j : Journal) (c : Cell) (r : List ℕ) (is : r ≡ put_record c) (back : ReadsPut j.width (put_record c) c) where
  put_whole : whole j.width r ≡ true
  put_whole = ap (whole j.width) is ∙ back.wholly

  put_step : step r (replay (contents_of j).records) ≡ put cell_key c (replay (contents_of j).records)
  put_step = ap (λ x. step x (replay (contents_of j).records)) is ∙ step_put j.width (put_record c) c (replay (contents_of j).records) back

  pub put_again : is_some (element_of cell_key c.key (replay (contents_of j).records)) ≡ true → Appends j r j.count
  put_again there =
      let m = replay (contents_of j).records in
      let n = j.counted in
      let l = j.few in
      let s = some_long c.key m there in
      record { wholly = put_whole; counted = j.counted ∙ sym (ap length put_step ∙ length_put_old c m (ascends_replay [] (contents_of j).records refl) there); few = j.few; some = omega arith }

  pub put_new : is_some (element_of cell_key c.key (replay (contents_of j).records)) ≡ false → j.count < j.room → Appends j r (j.count + 1)
  put_new gone lt =
      let m = replay (contents_of j).records in
      let n = length_put_new c m (none_is (element_of cell_key c.key m) gone) in
      let s = ap length put_step in
      let k = j.counted in
      record { wholly = put_whole; counted = omega arith; few = omega arith; some = omega arith }

-- what a remove of a present key leaves
module _ (j : Journal) (k : ℕ) (r : List ℕ) (is : r ≡ remove_record k) (back : ReadsRemove j.width (remove_record k) k) (there : is_some (element_of cell_key k (replay (contents_of j).records)) ≡ true) where
  pub removed : Appends j r (j.count - 1)
  removed =
      let m = replay (contents_of j).records in
      let t = ap length (ap (λ x. step x m) is ∙ step_remove j.width (remove_record k) k m back) in
      let n = length_without k m (ascends_replay [] (contents_of j).records refl) there in
      let s = some_long k m there in
      let i = j.counted in
      let l = j.few in
      record { wholly = ap (whole j.width) is ∙ back.wholly; counted = omega arith; few = omega arith; some = omega arith }
