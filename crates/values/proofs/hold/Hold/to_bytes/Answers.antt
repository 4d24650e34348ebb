use Rattle.std.proofs.Common.{◌≡◌, true, sym, ap, ◌∙◌, arith}
use Rattle.std.proofs.lemmas.Bool.Decides.{nat_tests}
use Rattle.values.specs.Holds.{proper, hold_means, hold_code}
use Rattle.values.proofs.HoldBytes.{held_bytes}
use Rattle.values.proofs.hold.Hold.to_bytes.Goals as goal

pub returns-in-Held : goal.returns-in-Held
returns-in-Held c =
    let p : proper c.in-Held.seat c.in-Held.first c.in-Held.last ≡ true = grind (arith, nat_tests) in
    held_bytes c.in-Held.seat c.in-Held.first c.in-Held.last c.to_le_bytes.result c.to_le_bytes-in-Held.result c.to_le_bytes-in-Held-2.result p c.to_le_bytes.ensures c.to_le_bytes-in-Held.ensures c.to_le_bytes-in-Held-2.ensures
    ∙ ap (λ h. hold_code (hold_means h)) (sym c.in-Held.is)
