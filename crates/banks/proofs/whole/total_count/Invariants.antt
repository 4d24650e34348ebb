use Rattle.std.proofs.Common.{◌≡◌, ◌-◌, ◌^◌, min, length, take, sum_by}
use Rattle.banks.proofs.whole.total_count.Given as goal

abbrev pub invariant-loop-i : goal.invariant-loop-i
invariant-loop-i g l = l.total ≡ min (sum_by (λ p. length p.cells) (take l.i (g.B.Bank.row l.bank))) (2 ^ 64 - 1)
