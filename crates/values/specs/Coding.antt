use Rattle.std.specs.Prelude.{◌≡◌, ℕ, ◌-◌, ◌≤◌, List, [], length, take, replicate, Some, nat_le, refl}
use Rattle.std.proofs.Common.{ap, arith}
use Rattle.std.proofs.lemmas.List.{length-take, length-append, length-replicate, take_at}
use Rattle.std.proofs.lemmas.Bool.{cond_both, leb-true, le-leb}
use Rattle.values.specs.Secrets.{contents, padded, secret_code, secret_decoded}
use Rattle.values.specs.declared.secret.Secret.{Secret}

pub contents_short : (s : Secret) → length (contents s) ≤ 48
contents_short s =
    cond_both (nat_le s.len 48) (take s.len s.bytes) [] (λ t. length t ≤ 48)
    (λ p. let l = leb-true s.len 48 p in let n = length-take s.len s.bytes in omega arith)
    (λ p. omega arith)

pub length_padded : (bs : List ℕ) → length bs ≤ 48 → length (padded bs) ≡ 48
length_padded bs le =
    let a = length-append bs (replicate (48 - length bs) 0) in
    let b : length (replicate {A = ℕ} (48 - length bs) 0) ≡ 48 - length bs = length-replicate (48 - length bs) 0 in
    omega arith

pub length_code : (bs : List ℕ) → length bs ≤ 48 → length (secret_code bs) ≡ 49
length_code bs le = let a = length_padded bs le in omega arith

pub decoded_code : (bs : List ℕ) → length bs ≤ 48 → secret_decoded (secret_code bs) ≡ Some bs
decoded_code bs le =
    let b = le-leb (length bs) 48 le in
    rw b (ap Some (take_at bs (replicate {A = ℕ} (48 - length bs) 0) (length bs) refl))
