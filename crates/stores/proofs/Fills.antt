-- What a fill with a value that is always the same leaves.
use Rattle.std.proofs.Common.{◌≡◌, List, [], ◌∷◌, length, replicate, refl, subst}
use Rattle.std.specs.List.{FoldsTo}

pub given_always : {P A : Type 0} (R : P → A → P → Type 0) (p : P) (b : A) → ((x : A) (q : P) → R p x q → (x ≡ b) × (q ≡ p)) → (xs : List A) (last : P) → FoldsTo R p xs last → xs ≡ replicate (length xs) b
given_always R p b gives [] last ran = refl
given_always R p b gives (x ∷ xs) last ran =
    let h = gives x ran.0 ran.1 in
    let ih = given_always R p b gives xs last (subst (λ q. FoldsTo R q xs last) h.1 ran.2) in
    cc
