use Rattle.stores.proofs.CopySteps.{Copied}
use Rattle.stores.proofs.copying.copy_listed.Given as goal

abbrev pub invariant-loop-i : goal.invariant-loop-i
invariant-loop-i g l = Copied g.T.Store.provider g.T.Store.puts (g.S.Store.provider l.from) l.i l.initial.to l.to
