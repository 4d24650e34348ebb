-- What a bank's answers say of one provider.
use Rattle.std.proofs.Common.{◌≡◌, ℕ, ◌-◌, ◌≤◌, true, leb, List, [], ◌∷◌, map, length, get_or, take, is_ok, Ok, Err, Result, refl, ap, ◌∙◌, arith}
use Rattle.std.proofs.lemmas.Bool.{cond-true, le-leb}
use Rattle.values.specs.Rank.{rank, version_of}
use Rattle.values.specs.Refusals.{numbered}
use Rattle.values.specs.declared.refusal.Refusal.{Refusal}
use Rattle.values.specs.declared.version.Version.{Version}
use Rattle.values.proofs.Ranks.{rank_version_of}
use Rattle.stores.specs.Provider.{Provider, keys}
use Rattle.stores.specs.Operations.{list_answer, list_sheet}
use Rattle.stores.proofs.Listings.{listed_front}
use Rattle.banks.specs.Row.{has, absent, picked, answer_of}

pub answer_inside : {T : Type 0} (i : ℕ) (row : List Provider) (f : Provider → Result T ℕ) (x : Result T ℕ) → has i row ≡ true → x ≡ answer_of i row f → x ≡ f (get_or row (i - 1) absent)
answer_inside i row f x there eq = eq ∙ cond-true (has i row) (f (get_or row (i - 1) absent)) (Err 6) there

ranks_back : (ks : List ℕ) → map rank (map version_of ks) ≡ ks
ranks_back [] = refl
ranks_back (k ∷ ks) = cc (rank_version_of k, ranks_back ks)

-- there is room for all keys of a provider in a sheet that is long enough
listed_all : (p : Provider) (sheet : List Version) → length p.cells ≤ length sheet → list_answer p sheet ≡ Ok (length p.cells)
listed_all p sheet le = cond-true (leb (length p.cells) (length sheet)) (Ok (length p.cells)) (Err 16) (le-leb (length p.cells) (length sheet) le)

pub list_fits : (i : ℕ) (row : List Provider) (sheet : List Version) (x : Result ℕ ℕ) → has i row ≡ true → length (get_or row (i - 1) absent).cells ≤ length sheet → x ≡ answer_of i row (λ p. list_answer p sheet) → x ≡ Ok (length (get_or row (i - 1) absent).cells)
list_fits i row sheet x there le told =
    answer_inside i row (λ p. list_answer p sheet) x there told ∙ listed_all (get_or row (i - 1) absent) sheet le

pub keys_asked : (i : ℕ) (row : List Provider) (sheet after : List Version) (n : ℕ) → has i row ≡ true → Ok n ≡ answer_of i row (λ p. list_answer p sheet) → after ≡ picked i row (λ p. list_sheet p sheet) sheet → map rank (take n after) ≡ keys (get_or row (i - 1) absent)
keys_asked i row sheet after n there told is =
    let p = get_or row (i - 1) absent in
    let t = answer_inside i row (λ p. list_answer p sheet) (Ok n) there told in
    let a = is ∙ cond-true (has i row) (list_sheet p sheet) sheet there in
    let z : n ≡ n - 0 = omega arith in
    ap (map rank) (ap (λ k. take k after) z ∙ listed_front p sheet after n t a) ∙ ranks_back (keys p)

-- a result that means a number is one
pub was_ok : (r : Result ℕ Refusal) (n : ℕ) → numbered r ≡ Ok n → is_ok r ≡ true
was_ok (Ok x) n eq = refl
was_ok (Err e) n eq = absurd (let z : ◌≡◌ {A = ℕ} 0 1 = cc in omega arith)
