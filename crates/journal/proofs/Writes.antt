-- A record is written field by field.
use Rattle.std.proofs.Common.{◌≡◌, ℕ, ◌+◌, ◌≤◌, Bool, true, false, cond, List, [], ◌∷◌, ◌++◌, length, set, sym, refl, ap, ◌∙◌, arith}
use borrow.Rule.Slice.PartMut.{put_mid}
use Rattle.std.proofs.lemmas.List.{length-append, append_assoc}
use Rattle.values.specs.Rank.{rank}
use Rattle.journal.specs.declared.form.Form.{Form}
use Rattle.journal.specs.declared.new_record.NewRecord.{NewRecord}
use Rattle.journal.specs.Forms.{form, size}
use Rattle.journal.specs.Record.{six_bytes, field, encoded}
use Rattle.journal.specs.Walk.{encoding, overlay}
use Rattle.journal.proofs.Sizes.{lengths}
use Rattle.journal.proofs.Overlays.{overlay_set, overlay_overlay, overlay_put_mid}

pub field_written : (at k : ℕ) (stands : Bool) (ys zs bs : List ℕ) → stands ≡ true → zs ≡ ys → k ≡ length ys → put_mid at k bs zs ≡ overlay at (field stands ys) bs
field_written at k stands ys zs bs t is len =
    ap (put_mid at k bs) is ∙ (overlay_put_mid at k bs ys len ∙ ap (λ b. overlay at (field b ys) bs) (sym t))

length_six : (k : ℕ) → length (six_bytes k) ≡ 6
unfolding six_bytes
length_six k = refl

length_field : (s : Bool) (bs : List ℕ) → length (field s bs) ≡ cond s (length bs) 0
length_field true bs = refl
length_field false bs = refl

-- a record by its form and the bytes of its key and its version, as they were worked out
module _ (r : NewRecord) (f : Form) (x y : List ℕ) (is : f ≡ form r.map) (key : x ≡ six_bytes (rank r.key)) (version : y ≡ six_bytes (rank r.version)) where
  fields : encoding r ≡ r.map ∷ (field f.key x ++ (field f.version y ++ field f.value r.value.now))
  unfolding encoded
  fields = rw (is, key, version) refl

  pub fields_long : length (encoding r) ≡ 1 + length (field f.key x) + length (field f.version y) + length (field f.value r.value.now)
  fields_long =
      let e = ap length fields in
      let a = length-append (field f.key x) (field f.version y ++ field f.value r.value.now) in
      let b = length-append (field f.version y) (field f.value r.value.now) in
      omega arith

  pub written : (at : ℕ) (bs : List ℕ) (mid to : ℕ) (b₂ b₃ b₄ : List ℕ) → at + length (encoding r) ≤ length bs →
      b₂ ≡ overlay (at + 1) (field f.key x) (set bs at r.map) → mid ≡ at + 1 + length (field f.key x) →
      b₃ ≡ overlay mid (field f.version y) b₂ → to ≡ mid + length (field f.version y) →
      b₄ ≡ overlay to (field f.value r.value.now) b₃ → b₄ ≡ overlay at (encoding r) bs
  written at bs mid to b₂ b₃ b₄ fits i₂ mi i₃ ti i₄ =
      let K = field f.key x in
      let V = field f.version y in
      let X = field f.value r.value.now in
      let B = r.map ∷ [] in
      let l = fields_long in
      let p₁ : set bs at r.map ≡ overlay at (r.map ∷ []) bs = overlay_set at bs r.map (omega arith) in
      let p₂ : b₂ ≡ overlay at (B ++ K) bs = i₂ ∙ (ap (overlay (at + 1) K) p₁ ∙ overlay_overlay at B bs (omega arith) K (at + 1) (omega arith) (omega arith)) in
      let l₂ : length (B ++ K) ≡ 1 + length (field f.key x) = omega arith in
      let p₃ : b₃ ≡ overlay at ((B ++ K) ++ V) bs = i₃ ∙ (ap (overlay mid V) p₂ ∙ overlay_overlay at (B ++ K) bs (omega arith) V mid (omega arith) (omega arith)) in
      let l₃ : length ((B ++ K) ++ V) ≡ 1 + length (field f.key x) + length (field f.version y) = let a = length-append (B ++ K) V in omega arith in
      let p₄ : overlay to X (overlay at ((B ++ K) ++ V) bs) ≡ overlay at (((B ++ K) ++ V) ++ X) bs = overlay_overlay at ((B ++ K) ++ V) bs (omega arith) X to (omega arith) (omega arith) in
      i₄ ∙ (ap (overlay to X) p₃ ∙ (p₄ ∙ ap (λ z. overlay at z bs) (append_assoc (B ++ K) V X ∙ sym fields)))

-- how long a record is that is to be written
pub encoding_long : (r : NewRecord) → length (encoding r) ≡ size (length r.value.now) r.map
unfolding size
encoding_long r =
    let l = fields_long r _ _ _ refl refl refl in
    let k : length (field (form r.map).key (six_bytes (rank r.key))) ≡ cond (form r.map).key 6 0 = length_field (form r.map).key (six_bytes (rank r.key)) ∙ ap (λ n. cond (form r.map).key n 0) (length_six (rank r.key)) in
    let v : length (field (form r.map).version (six_bytes (rank r.version))) ≡ cond (form r.map).version 6 0 = length_field (form r.map).version (six_bytes (rank r.version)) ∙ ap (λ n. cond (form r.map).version n 0) (length_six (rank r.version)) in
    let x = length_field (form r.map).value r.value.now in
    let s = lengths r.map in
    omega arith
