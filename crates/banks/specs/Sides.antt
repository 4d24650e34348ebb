use Rattle.std.specs.Prelude.{◌≡◌, ℕ, ◌-◌, ◌⊎◌, List, ◌++◌, length, get_or, slice_index_or}
use Rattle.stores.specs.Provider.{Provider}
use Rattle.banks.specs.Row.{has, absent, row_after}
use Rattle.banks.specs.declared.side.Side.{Side}
use Rattle.banks.specs.declared.two.Two.{Two}
use Rattle.banks.specs.declared.side.Side.TheVariants.{Left, Right}

-- Number i of a row names the same provider as number k of a part of the row, or neither names one; and a step there is
-- a step of the part. `within` puts the part back into the row.
pub record Renumbered (i : ℕ) (row : List Provider) (k : ℕ) (part : List Provider) (within : List Provider → List Provider) : Type 0 where
  pub known : has i row ≡ has k part
  pub provider : get_or row (i - 1) absent ≡ slice_index_or part (k - 1) absent
  pub stepped : (step : Provider → Provider) → row_after i row step ≡ within (row_after k part step)

-- What it means that a number of two banks, with rows l and r, leads to one of them: to the right one by what is left of
-- it past the left row.
abbrev pub Leads : Side → ℕ → List Provider → List Provider → Type 0
Leads Left i l r = Renumbered i (l ++ r) i l (λ part. part ++ r)
Leads (Right k) i l r = (k ≡ i - length l) × Renumbered i (l ++ r) k r (λ part. l ++ part)

-- One step of two banks is one of the left bank or one of the right bank, and the other bank is as it was.
abbrev pub OneSide : {L R : Type 0} → (L → L → Type 0) → (R → R → Type 0) → Two L R → Two L R → Type 0
OneSide left right before after =
    (left before.left after.left × (after.right ≡ before.right)) ⊎ ((after.left ≡ before.left) × right before.right after.right)
