use Rattle.std.specs.Prelude.{ℕ, Bool, true, cond, ◌&&◌, List, [], ◌∷◌, Option, ◌==◌, nat_lt, find}

-- A map as a list, each element with a number of its own, its key, in strictly ascending order of the keys.
-- `key` gives an element's key.

abbrev pub headed : ℕ → List ℕ → Bool
headed k [] = true
headed k (x ∷ xs) = nat_lt k x

abbrev pub ascending : List ℕ → Bool
ascending [] = true
ascending (k ∷ ks) = headed k ks && ascending ks

-- the element of a key
abbrev pub element_of : {A : Type 0} → (A → ℕ) → ℕ → List A → Option A
element_of key k xs = find (λ x. key x == k) xs

-- an element put in its place, over the one of its key if there is one
abbrev pub put : {A : Type 0} → (A → ℕ) → A → List A → List A
put key n [] = n ∷ []
put key n (x ∷ xs) = cond (nat_lt (key x) (key n)) (x ∷ put key n xs) (n ∷ cond (key x == key n) xs (x ∷ xs))

-- the elements of other keys
abbrev pub without : {A : Type 0} → (A → ℕ) → ℕ → List A → List A
without key k [] = []
without key k (x ∷ xs) = cond (key x == k) (without key k xs) (x ∷ without key k xs)
