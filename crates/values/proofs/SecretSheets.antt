use Rattle.std.specs.Prelude.{Ok, Err, Result, nat_eq, slice_index}
use Rattle.std.proofs.Common.{◌≡◌, ℕ, ◌+◌, ◌-◌, ◌≤◌, true, List, [], ◌∷◌, ◌++◌, length, take, drop, replicate, slice_set, ap, ◌∙◌, refl, arith}
use borrow.Rule.Slice.PartMut.{put_mid}
use Rattle.std.specs.Option.{option_map}
use Rattle.std.proofs.lemmas.List.{length-take-le, take_at, drop_all, append-nil}
use Rattle.std.proofs.lemmas.Bool.{le-leb, eq-eqb}
use Rattle.values.specs.Refusals.{outcome, numbered}
use Rattle.values.specs.Sheets.{write_answer, write_sheet, read_answer}
use Rattle.values.specs.Secrets.{contents, padded, secret_of, make_secret, secret_code, secret_decoded}
use Rattle.values.specs.Coding.{contents_short}
use Rattle.values.specs.declared.refusal.Refusal.{Refusal}
use Rattle.values.specs.declared.secret.Secret.{Secret}

-- a sheet of the right length, after its first byte and then the others were written
pub written : (t text sheet to : List ℕ) → length t ≤ 48 → text ≡ t → length sheet ≡ 49 → to ≡ text ++ replicate (length (take 48 (drop 1 (slice_set sheet 0 (length text)))) - length text) 0 → (◌≡◌ {A = Result (Unit {0}) ℕ} (Ok tt) (write_answer 49 sheet)) × (put_mid 1 48 (slice_set sheet 0 (length text)) to ≡ write_sheet 49 (secret_code t) sheet)
written t text [] to short is wide eq = absurd (omega arith)
written t text (b ∷ bs) to short is wide eq =
    let f : nat_eq (length (b ∷ bs)) 49 ≡ true = eq-eqb _ _ wide in
    let n : length (take 48 bs) ≡ 48 = length-take-le 48 bs (omega arith) in
    let e : to ≡ padded text = eq ∙ ap (λ k. text ++ replicate (k - length text) 0) n in
    let d : drop 48 bs ≡ [] = drop_all 48 bs (omega arith) in
    let p : put_mid 1 48 (slice_set (b ∷ bs) 0 (length text)) to ≡ secret_code t = ap (λ xs. length text ∷ (to ++ xs)) d ∙ (ap (λ xs. length text ∷ xs) (append-nil to ∙ e) ∙ ap secret_code is) in
    (rw f refl, rw f p)

-- what the sheet then is, of a secret's text
pub written_secret : (s : Secret) (text sheet to : List ℕ) → text ≡ contents s → length sheet ≡ 49 → to ≡ text ++ replicate (length (take 48 (drop 1 (slice_set sheet 0 (length text)))) - length text) 0 → put_mid 1 48 (slice_set sheet 0 (length text)) to ≡ write_sheet 49 (secret_code (contents s)) sheet
written_secret s text sheet to is wide eq = (written (contents s) text sheet to (contents_short s) is wide eq).1

-- the secret made of some bytes means them
pub contents_of : (bs : List ℕ) → length bs ≤ 48 → contents (secret_of bs) ≡ bs
contents_of bs le = rw (le-leb (length bs) 48 le) (take_at bs (replicate {A = ℕ} (48 - length bs) 0) (length bs) refl)

-- what a secret made of the bytes after the first one says
pub read_back : (sheet : List ℕ) (r : Result Secret Refusal) → length sheet ≡ 49 → slice_index sheet 0 ≤ 48 → numbered r ≡ make_secret (take (slice_index sheet 0 + 1 - 1) (drop 1 sheet)) → (outcome contents r ≡ read_answer 49 secret_decoded sheet) × (numbered r ≡ read_answer 49 (λ bs. option_map secret_of (secret_decoded bs)) sheet)
read_back [] r wide le eq = absurd (omega arith)
read_back (n ∷ bs) r wide le eq =
    let f : nat_eq (length (n ∷ bs)) 49 ≡ true = eq-eqb _ _ wide in
    let l = le-leb n 48 le in
    let m : length (take n bs) ≡ n = length-take-le n bs (omega arith) in
    let k : n + 1 - 1 ≡ n = omega arith in
    let g = le-leb (length (take n bs)) 48 (omega arith) in
    let e : numbered r ≡ Ok (secret_of (take n bs)) = eq ∙ (ap (λ i. make_secret (take i bs)) k ∙ rw g refl) in
    (rw (f, l) (kept r e ∙ ap Ok (contents_of (take n bs) (omega arith))), rw (f, l) e)
  where
    kept : (r : Result Secret Refusal) {s : Secret} → numbered r ≡ Ok s → outcome contents r ≡ Ok (contents s)
    kept (Ok x) e = cc
    kept (Err x) e = cc
