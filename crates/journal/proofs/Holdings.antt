-- What a journal holds, and what it means as a provider, from its contents and its invariant.
use Rattle.std.proofs.Common.{◌≡◌, ℕ, ◌+◌, ◌*◌, ◌≤◌, true, false, eqb, leb, List, ◌++◌, map, length, take, drop, Option, sym, refl, ap, ◌∙◌, add-mul, one-mul, arith}
use Rattle.std.specs.Option.{option_map}
use Rattle.std.proofs.lemmas.List.{length-map}
use Rattle.std.proofs.lemmas.Bool.{cond-true, cond-false, eq-eqb, le-leb}
use Rattle.values.specs.Rank.{version_of}
use Rattle.values.specs.Sheets.{write_sheet}
use Rattle.values.specs.declared.version.Version.{Version}
use Rattle.stores.specs.Keyed.{element_of}
use Rattle.stores.specs.Provider.{Cell, Provider, cell_key, keys}
use Rattle.stores.specs.Operations.{put_answer, put_after, remove_after, get_answer, list_sheet}
use Rattle.journal.specs.declared.journal.Journal.{Journal}
use Rattle.journal.specs.Record.{put_record, remove_record}
use Rattle.journal.specs.Codec.{ReadsPut, ReadsRemove}
use Rattle.journal.specs.Log.{log, joined, filled, replay, live}
use Rattle.journal.specs.Contents.{Contents, contents, with_records, raw, serves, put_log, remove_log, put_contents, remove_contents, pack_contents}
use Rattle.journal.specs.Walk.{Logged}
use Rattle.journal.specs.Normal.{normal_cell, provider_of}
use Rattle.journal.specs.Held.{bytes_of, contents_of, Holds}
use Rattle.journal.proofs.Appends.{used_is, bytes_are}
use Rattle.journal.proofs.Normals.{ranks_normal, find_normal, provider_served, provider_put, provider_remove, answer_put}

pub logged : (j : Journal) → Logged j.width j.used (bytes_of j) (log j.width (take j.used (bytes_of j)))
logged j = record { within = j.within; is = refl; sounds = j.whole; zeros = j.zeros }

pub held : (j : Journal) (s : Contents) → contents_of j ≡ s → Holds j s
held j s e =
    let l = logged j in
    record {
      contents = e;
      bytes = bytes_are j.width j.used (bytes_of j) _ l ∙ ap (λ (x : Contents). filled x.size x.records) e;
      used = sym (used_is j.width j.used (bytes_of j) _ l) ∙ ap (λ (x : Contents). length (joined x.records)) e;
    }

pub contents_packed : (w room used used' : ℕ) (bs bs' : List ℕ) → Logged w used' bs' (live (log w (take used bs))) → length bs' ≡ length bs → contents w room used' bs' ≡ pack_contents (contents w room used bs)
contents_packed w room used used' bs bs' l n =
    let f : ℕ → List (List ℕ) → Contents = λ k x. record { width = w; room = room; size = k; records = x } in
    ap (λ k. f k (log w (take used' bs'))) n ∙ ap (f (length bs)) l.is

-- a journal as a provider of values of its own width, and of another

module _ (wide : ℕ) (f : List ℕ → List ℕ) (j : Journal) where
  pub count_is : serves wide (contents_of j) ≡ true → j.count ≡ length (provider_of wide f (contents_of j)).cells
  count_is e =
      let m = replay (contents_of j).records in
      j.counted ∙ (sym (length-map m (normal_cell f)) ∙ sym (ap (λ (p : Provider). length p.cells) (provider_served wide f (contents_of j) e)))

  pub got : (k : ℕ) (o : Option Cell) → serves wide (contents_of j) ≡ true → o ≡ element_of cell_key k (replay (contents_of j).records) → option_map (λ (c : Cell). c.pair) (option_map (normal_cell f) o) ≡ get_answer k (provider_of wide f (contents_of j))
  got k o e is =
      ap (λ x. option_map (λ (c : Cell). c.pair) (option_map (normal_cell f) x)) is ∙ (ap (option_map (λ (c : Cell). c.pair)) (sym (find_normal f k (replay (contents_of j).records))) ∙ sym (ap (get_answer k) (provider_served wide f (contents_of j) e)))

  pub list_done : (sheet sheet' : List Version) → serves wide (contents_of j) ≡ true → j.count ≤ length sheet → sheet' ≡ map version_of (map cell_key (replay (contents_of j).records)) ++ drop (length (replay (contents_of j).records)) sheet → sheet' ≡ list_sheet (provider_of wide f (contents_of j)) sheet
  list_done sheet sheet' e le is =
      let P = provider_of wide f (contents_of j) in
      let m = replay (contents_of j).records in
      let n = count_is e in
      let t : leb (length P.cells) (length sheet) ≡ true = le-leb (length P.cells) (length sheet) (omega arith) in
      let k : keys P ≡ map cell_key m = ap keys (provider_served wide f (contents_of j) e) ∙ ranks_normal f m in
      let l : length P.cells ≡ length m = sym n ∙ j.counted in
      is ∙ (ap (λ ks. map version_of ks ++ drop (length m) sheet) (sym k) ∙ (ap (λ i. map version_of (keys P) ++ drop i sheet) (sym l) ∙ sym (cond-true (leb (length P.cells) (length sheet)) (map version_of (keys P) ++ drop (length P.cells) sheet) sheet t)))

  -- values of another width change nothing
  pub put_other : (c : Cell) → serves wide (contents_of j) ≡ false → Holds j (put_contents wide c (contents_of j))
  put_other c e =
      let s = contents_of j in
      held j (put_contents wide c s) (ap (with_records s) (sym (cond-false (serves wide s) (put_log c s) s.records e)))

  pub remove_other : (k : ℕ) → serves wide (contents_of j) ≡ false → Holds j (remove_contents wide k (contents_of j))
  remove_other k e =
      let s = contents_of j in
      held j (remove_contents wide k s) (ap (with_records s) (sym (cond-false (serves wide s) (remove_log k s) s.records e)))

-- values of the journal's own width

module _ (wide : ℕ) (f : List ℕ → List ℕ) (j j' : Journal) where
  pub put_own : (w : ℕ) (c d : Cell) → serves wide (contents_of j) ≡ true → d ≡ c → ReadsPut w (put_record c) c → f c.pair.value ≡ c.pair.value → contents_of j' ≡ with_records (contents_of j) (put_log d (contents_of j)) →
      (provider_of wide f (contents_of j') ≡ put_after c (provider_of wide f (contents_of j))) × Holds j' (put_contents wide c (contents_of j))
  put_own w c d e same back kept left =
      let s = contents_of j in
      let a : contents_of j' ≡ put_contents wide c (contents_of j) = left ∙ (ap (λ x. with_records s (put_log x s)) same ∙ ap (with_records s) (sym (cond-true (serves wide s) (put_log c s) s.records e))) in
      (ap (provider_of wide f) a ∙ provider_put wide f s w c back kept, held j' (put_contents wide c s) a)

  pub remove_own : (w k : ℕ) → serves wide (contents_of j) ≡ true → ReadsRemove w (remove_record k) k → contents_of j' ≡ with_records (contents_of j) (remove_log k (contents_of j)) →
      (provider_of wide f (contents_of j') ≡ remove_after k (provider_of wide f (contents_of j))) × Holds j' (remove_contents wide k (contents_of j))
  remove_own w k e back left =
      let s = contents_of j in
      let a : contents_of j' ≡ remove_contents wide k (contents_of j) = left ∙ ap (with_records s) (sym (cond-true (serves wide s) (remove_log k s) s.records e)) in
      (ap (provider_of wide f) a ∙ provider_remove wide f s w k back, held j' (remove_contents wide k s) a)

pub answer_own : (wide : ℕ) (f : List ℕ → List ℕ) (j : Journal) (c d : Cell) → serves wide (contents_of j) ≡ true → d ≡ c → put_answer d (raw (contents_of j)) ≡ put_answer c (provider_of wide f (contents_of j))
answer_own wide f j c d e same = ap (λ x. put_answer x (raw (contents_of j))) same ∙ sym (answer_put wide f (contents_of j) c e)

-- a value that was written into a sheet of its width
pub written_is : (wide : ℕ) (code sheet sheet' : List ℕ) → length sheet ≡ wide → sheet' ≡ write_sheet wide code sheet → sheet' ≡ code
written_is wide code sheet sheet' l is = is ∙ cond-true (eqb (length sheet) wide) code sheet (eq-eqb (length sheet) wide l)

-- how many keys fit

pub one_more : (c d n : ℕ) → (c + 1) * d ≤ n → c * d + d ≤ n
one_more c d n le =
    let e = add-mul c 1 d in
    let g = one-mul d in
    omega arith
