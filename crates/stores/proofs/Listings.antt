-- What a list that was accepted leaves in its sheet.
use Rattle.std.proofs.Common.{◌≡◌, ℕ, ◌-◌, Bool, true, false, cond, leb, List, ◌++◌, map, length, take, drop, Ok, Err, Result, refl, ap, ◌∙◌, arith}
use Rattle.std.proofs.lemmas.List.{length-map, take_at}
use Rattle.values.specs.Rank.{version_of}
use Rattle.values.specs.declared.version.Version.{Version}
use Rattle.stores.specs.Provider.{Provider, cell_key, keys}
use Rattle.stores.specs.Operations.{list_answer, list_sheet}

told_count : (b : Bool) (n m : ℕ) → ◌≡◌ {A = Result ℕ ℕ} (Ok n) (cond b (Ok m) (Err 16)) → (b ≡ true) × (n ≡ m)
told_count true n m e = (refl, cc)
told_count false n m e = (cc, cc)

pub listed_front : (p : Provider) (sheet after : List Version) (n : ℕ) → Ok n ≡ list_answer p sheet → after ≡ list_sheet p sheet → take (n - 0) after ≡ map version_of (keys p)
listed_front p sheet after n told is =
    let t = told_count (leb (length p.cells) (length sheet)) n (length p.cells) told in
    let a : after ≡ map version_of (keys p) ++ drop (length p.cells) sheet = is ∙ ap (λ b. cond b (map version_of (keys p) ++ drop (length p.cells) sheet) sheet) t.0 in
    let m = length-map (keys p) version_of in
    let k = length-map p.cells cell_key in
    ap (take (n - 0)) a ∙ take_at (map version_of (keys p)) (drop (length p.cells) sheet) (n - 0) (omega (arith, t.1))
