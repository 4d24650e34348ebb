-- Packing: the live records so far stand at the front.
use Rattle.std.proofs.Common.{◌≡◌, ℕ, ◌+◌, ◌-◌, ◌≤◌, true, false, List, ◌∷◌, ◌++◌, length, take, drop, sym, refl, ap, ◌∙◌, arith}
use lib.Seq.{paste}
use Rattle.std.proofs.lemmas.List.{length-drop, append_assoc, take_rest}
use Rattle.journal.specs.declared.records.Records.{Records}
use Rattle.journal.specs.Record.{record_key, is_put}
use Rattle.journal.specs.Log.{log, sound, joined, live, mentions}
use Rattle.journal.specs.Walk.{overlay, packed}
use Rattle.journal.proofs.Cuts.{First, first}
use Rattle.journal.proofs.Finds.{log_of}
use Rattle.journal.proofs.Replays.{live_kept, live_old, live_gone}
use Rattle.journal.proofs.Overlays.{overlay_paste, take_overlay, drop_overlay, length_overlay}

-- What the walk keeps: the live records before `at` end at `to`, and those from `at` on are whole and still to come.
pub record Packing (w : ℕ) (old bs : List ℕ) (to at : ℕ) : Type 0 where
  pub size : length bs ≡ length old
  pub behind : to ≤ at
  pub within : at ≤ length bs
  pub sounds : sound w (log w (drop at bs)) ≡ true
  pub front : take to bs ++ joined (live (log w (drop at bs))) ≡ packed w old

pub packing_none : (w : ℕ) (bs : List ℕ) → sound w (log w bs) ≡ true → Packing w bs bs 0 0
unfolding packed
packing_none w bs h = record { size = refl; behind = omega arith; within = omega arith; sounds = h; front = refl }

-- the log of an iterator over the bytes from a place on
pub log_from : (s : Records) (w : ℕ) (bs : List ℕ) (at : ℕ) → s.width ≡ w → s.bytes.now ≡ take (length bs - at) (drop at bs) → log s.width s.bytes.now ≡ log w (drop at bs)
log_from s w bs at n b = log_of s s w (take (length bs - at) (drop at bs)) refl n b ∙ ap (log w) (take_rest bs at)

-- the same of an iterator that was made of it
pub log_after : (s t : Records) (w : ℕ) (bs : List ℕ) (at : ℕ) → s ≡ t → t.width ≡ w → t.bytes.now ≡ take (length bs - at) (drop at bs) → log s.width s.bytes.now ≡ log w (drop at bs)
log_after s t w bs at e n b = log_of s t w (take (length bs - at) (drop at bs)) e n b ∙ ap (log w) (take_rest bs at)

module _ (w : ℕ) (old bs : List ℕ) (to at : ℕ) (l : Packing w old bs to at) where
  -- the next record, as an iterator from the place gives it
  pub next_record : (s : Records) (r : List ℕ) (rs : List (List ℕ)) → s.width ≡ w → s.bytes.now ≡ take (length bs - at) (drop at bs) → log s.width s.bytes.now ≡ r ∷ rs → First w bs at r
  next_record s r rs n b e = first w bs at r rs l.within l.sounds (sym (log_from s w bs at n b) ∙ e)

  module _ (r : List ℕ) (f : First w bs at r) where
    passed : live (r ∷ log w (drop (at + length r) bs)) ≡ live (log w (drop (at + length r) bs)) → Packing w old bs to (at + length r)
    passed e =
        let i = f.within in
        let b = l.behind in
        record { size = l.size; behind = omega arith; within = f.within; sounds = f.rest; front = ap (λ xs. take to bs ++ joined xs) (sym (ap live f.is ∙ e)) ∙ l.front }

    -- a record that is no put, and one whose key a later record has, are passed over
    pub packing_gone : is_put r ≡ false → Packing w old bs to (at + length r)
    packing_gone p = passed (live_gone r (log w (drop (at + length r) bs)) p)

    pub packing_old : is_put r ≡ true → mentions (record_key r) (log w (drop (at + length r) bs)) ≡ true → Packing w old bs to (at + length r)
    packing_old p m = passed (live_old r (log w (drop (at + length r) bs)) p m)

    -- and any other is moved to the front
    pub packing_kept : (bs' : List ℕ) → is_put r ≡ true → mentions (record_key r) (log w (drop (at + length r) bs)) ≡ false → bs' ≡ paste bs to (drop at bs) (at + length r - at) → Packing w old bs' (to + (at + length r - at)) (at + length r)
    packing_kept bs' put new moved =
        let next = at + length r in
        let i = f.within in
        let b = l.behind in
        let n : at + length r - at ≡ length r = omega arith in
        let ld = length-drop at bs in
        let is : bs' ≡ overlay to r bs = moved ∙ (ap (paste bs to (drop at bs)) n ∙ (overlay_paste to (length r) (drop at bs) bs (omega arith) ∙ ap (λ ys. overlay to ys bs) f.here)) in
        let le : to + length r ≤ length bs = omega arith in
        let d : drop next bs' ≡ drop next bs = ap (drop next) is ∙ drop_overlay to r bs le next (omega arith) in
        let t : take (to + (at + length r - at)) bs' ≡ take to bs ++ r = ap (λ k. take (to + k) bs') n ∙ (ap (take (to + length r)) is ∙ take_overlay to r bs le) in
        let s : length bs' ≡ length bs = ap length is ∙ length_overlay to r bs le in
        let a : live (log w (drop at bs)) ≡ r ∷ live (log w (drop next bs)) = ap live f.is ∙ live_kept r (log w (drop next bs)) put new in
        record {
          size = s ∙ l.size;
          behind = omega arith;
          within = omega arith;
          sounds = ap (λ xs. sound w (log w xs)) d ∙ f.rest;
          front =
              ap (λ xs. xs ++ joined (live (log w (drop next bs')))) t ∙ (ap (λ xs. (take to bs ++ r) ++ joined (live (log w xs))) d ∙ (append_assoc (take to bs) r (joined (live (log w (drop next bs)))) ∙ (ap (λ xs. take to bs ++ joined xs) (sym a) ∙ l.front)));
        }
