-- A record that is appended, and what its replay leaves.
use Rattle.std.proofs.Common.{◌≡◌, ℕ, ◌+◌, ◌-◌, ◌*◌, ◌≤◌, true, cond, leb, List, [], ◌∷◌, ◌++◌, length, take, drop, replicate, sym, refl, ap, ◌∙◌, mul-le-mul_right, arith}
use Rattle.std.proofs.lemmas.List.{length-append, length-replicate, length-take-le, take_at, drop_at, drop-drop, drop-replicate, take-append-drop}
use Rattle.std.proofs.lemmas.Bool.{cond_both, and_from}
use Rattle.journal.specs.Record.{bit_map, whole}
use Rattle.journal.specs.Log.{log, sound, joined, filled, live, replay, step, appended}
use Rattle.journal.specs.Walk.{overlay, packed, Logged}
use Rattle.journal.proofs.Sizes.{size_le, whole_size}
use Rattle.journal.proofs.Cuts.{log_push, log_joined, joined_log, sound_append}
use Rattle.journal.proofs.Replays.{replay_push, replay_live, sound_live, count_live, length_joined}
use Rattle.journal.proofs.Overlays.{take_overlay, drop_overlay, length_overlay}

-- a record over the zeros after a log
pub pushed : (w used : ℕ) (r bs : List ℕ) (rs : List (List ℕ)) → Logged w used bs rs → used + length r ≤ length bs → whole w r ≡ true → Logged w (used + length r) (overlay used r bs) (rs ++ r ∷ [])
pushed w used r bs rs l fits o =
    let s : sound w (log w (take used bs)) ≡ true = ap (sound w) l.is ∙ l.sounds in
    let n = length_overlay used r bs fits in
    let e : length bs - used - length r ≡ length (overlay used r bs) - (used + length r) = omega arith in
    let d : drop (used + length r) bs ≡ drop (length r) (drop used bs) = sym (drop-drop (length r) used bs) in
    record {
      within = omega arith;
      is = ap (log w) (take_overlay used r bs fits) ∙ (log_push w (take used bs) r s o ∙ ap (λ xs. xs ++ r ∷ []) l.is);
      sounds = sound_append w rs (r ∷ []) l.sounds (and_from (whole w r) true o refl);
      zeros =
          drop_overlay used r bs fits (used + length r) (omega arith) ∙ (d ∙ (ap (drop (length r)) l.zeros ∙ (drop-replicate (length r) (length bs - used) 0 ∙ ap (λ k. replicate k 0) e)));
    }

-- bytes that are live records and zeros
pub packed_logged : (w used to : ℕ) (bs bs' : List ℕ) → sound w (log w (take used bs)) ≡ true → to ≡ length (packed w (take used bs)) → to ≤ length bs → bs' ≡ packed w (take used bs) ++ replicate (length bs - length (packed w (take used bs))) 0 → Logged w to bs' (live (log w (take used bs)))
unfolding packed
packed_logged w used to bs bs' h ti le is =
    let P = joined (live (log w (take used bs))) in
    let Z : List ℕ = replicate (length bs - length (joined (live (log w (take used bs))))) 0 in
    let la = ap length is ∙ length-append P Z in
    let lz : length Z ≡ length bs - length (joined (live (log w (take used bs)))) = length-replicate (length bs - length (joined (live (log w (take used bs))))) 0 in
    let t : take to bs' ≡ P = ap (take to) is ∙ take_at P Z to (sym ti) in
    let d : drop to bs' ≡ Z = ap (drop to) is ∙ drop_at P Z to (sym ti) in
    let s = sound_live w (log w (take used bs)) h in
    let e : length bs - length (joined (live (log w (take used bs)))) ≡ length bs' - to = omega arith in
    record {
      within = omega arith;
      is = ap (log w) t ∙ log_joined w (live (log w (take used bs))) s;
      sounds = s;
      zeros = d ∙ ap (λ k. replicate k 0) e;
    }

-- the records of a log take up its used part
pub used_is : (w used : ℕ) (bs : List ℕ) (rs : List (List ℕ)) → Logged w used bs rs → length (joined rs) ≡ used
used_is w used bs rs l = ap (λ xs. length (joined xs)) (sym l.is) ∙ (ap length (joined_log w (take used bs)) ∙ length-take-le used bs l.within)

-- all bytes are the records and zeros
pub bytes_are : (w used : ℕ) (bs : List ℕ) (rs : List (List ℕ)) → Logged w used bs rs → bs ≡ filled (length bs) rs
bytes_are w used bs rs l =
    let u = used_is w used bs rs l in
    let j : joined rs ≡ take used bs = ap joined (sym l.is) ∙ joined_log w (take used bs) in
    sym (take-append-drop used bs) ∙ (ap (λ xs. xs ++ drop used bs) (sym j) ∙ ap (λ xs. joined rs ++ xs) (l.zeros ∙ ap (λ k. replicate (length bs - k) 0) (sym u)))

-- live records and one more fit where there is room
pub room_packed : (w room n : ℕ) (r : List ℕ) (rs : List (List ℕ)) → sound w rs ≡ true → whole w r ≡ true → length (replay rs) ≤ room → room * (13 + w) + (13 + w) ≤ n → length (joined (live rs)) + length r ≤ n
room_packed w room n r rs h o few fits =
    let a = length_joined w (live rs) (sound_live w rs h) in
    let e = ap (λ k. k * (13 + w)) (count_live rs) in
    let b : length (replay rs) * (13 + w) ≤ room * (13 + w) = mul-le-mul_right (13 + w) few in
    let z = whole_size w r o in
    let s = size_le w (bit_map r) in
    omega arith

-- an appended record steps the map, packed or not
pub replay_appended : (n : ℕ) (r : List ℕ) (rs : List (List ℕ)) → replay (appended n r rs) ≡ step r (replay rs)
unfolding appended
replay_appended n r rs =
    replay_push [] (cond (leb (length (joined rs) + length r) n) rs (live rs)) r ∙
    cond_both (leb (length (joined rs) + length r) n) rs (live rs) (λ xs. step r (replay xs) ≡ step r (replay rs)) (λ _. refl) (λ _. ap (step r) (replay_live rs))
