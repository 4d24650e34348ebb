-- What is known of a place that was found.
use Rattle.std.proofs.Common.{◌≡◌, ℕ, ◌+◌, ◌-◌, ◌*◌, ◌<◌, ◌≤◌, Bool, true, false, cond, ◌&&◌, ◌||◌, ltb, leb, Some, None, Ok, Err, Option, Result, refl, mul-le-mul_right, add-mul, arith}
use Rattle.std.proofs.lemmas.Bool.{or_parts, and_parts, not-false, ltb-false, leb-true}
use Rattle.protocol.specs.Steps.{outside}
use Rattle.relay.specs.RelayState.{admission}

pub admitted_fits : (o : Option ℕ) (m n seats lines k : ℕ) → Ok k ≡ admission o m n seats lines → (m ≤ seats) × (m * n ≤ lines) × (k ≡ n)
admitted_fits (Some e) m n seats lines k eq = absurd (let z : ◌≡◌ {A = ℕ} 0 1 = cc in omega arith)
admitted_fits None m n seats lines k eq = go (ltb seats m || ltb lines (m * n)) refl eq
  where
    go : (b : Bool) → (ltb seats m || ltb lines (m * n)) ≡ b → ◌≡◌ {A = Result ℕ ℕ} (Ok k) (cond b (Err 2) (Ok n)) → (m ≤ seats) × (m * n ≤ lines) × (k ≡ n)
    go true is eq = absurd (let z : ◌≡◌ {A = ℕ} 0 1 = cc in omega arith)
    go false is eq =
        let p = or_parts (ltb seats m) (ltb lines (m * n)) is in
        (ltb-false seats m p.0, ltb-false lines (m * n) p.1, cc)

pub inside : (s m : ℕ) → outside s m ≡ false → (1 ≤ s) × (s ≤ m)
inside s m is = let p = and_parts (leb 1 s) (leb s m) (not-false (leb 1 s && leb s m) is) in (leb-true 1 s p.0, leb-true s m p.1)

-- the place of a number that is one of m
pub placed_in : (s m e k : ℕ) → ◌≡◌ {A = Result ℕ ℕ} (Ok k) (cond (outside s m) (Err e) (Ok (s - 1))) → (k < m) × (k ≡ s - 1)
placed_in s m e k eq = go (outside s m) refl eq
  where
    go : (b : Bool) → outside s m ≡ b → ◌≡◌ {A = Result ℕ ℕ} (Ok k) (cond b (Err e) (Ok (s - 1))) → (k < m) × (k ≡ s - 1)
    go true is eq = absurd (let z : ◌≡◌ {A = ℕ} 0 1 = cc in omega arith)
    go false is eq =
        let p = inside s m is in
        let z : k ≡ s - 1 = cc in
        (omega arith, z)

-- the lines of a seat lie within those of all seats
pub rows_within : (s m n : ℕ) → s < m → s * n + n ≤ m * n
rows_within s m n lt =
    let a = mul-le-mul_right {m = s + 1} {n = m} n (omega arith) in
    let b = add-mul s 1 n in
    let d : 1 * n ≡ n = omega arith in
    omega arith
