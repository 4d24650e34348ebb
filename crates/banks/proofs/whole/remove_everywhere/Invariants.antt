use Rattle.values.specs.Rank.{rank}
use Rattle.banks.proofs.Steps.{Removed}
use Rattle.banks.proofs.whole.remove_everywhere.Given as goal

abbrev pub invariant-loop-place : goal.invariant-loop-place
invariant-loop-place g l = Removed g.B.Bank.row g.B.Bank.removes (rank l.key) l.place l.initial.bank l.bank
