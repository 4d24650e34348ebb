use Rattle.std.proofs.Common.{sym, ◌∙◌, arith}
use Rattle.values.specs.Rank.{rank}
use Rattle.journal.specs.Normal.{normal}
use Rattle.journal.proofs.Sixes.{rank_fits}
use Rattle.journal.proofs.Encodings.{remove_back}
use Rattle.journal.proofs.Holdings.{remove_other, remove_own}
use Rattle.journal.proofs.driver.JournalStore.remove.Goals as goal

pub returns-then-serves : goal.returns-then-serves
returns-then-serves g c =
    let f = normal g.V.Kind.decoded g.V.Kind.coded (g.V.Kind.code g.V.Kind.nothing) in
    let b = remove_back g.V.Kind.WIDTH (rank c.args.key) (rank_fits c.args.key (omega arith) (omega arith)) in
    let r = remove_own g.V.Kind.WIDTH f c.args.self.now _ g.V.Kind.WIDTH (rank c.args.key) (sym c.serves.ensures ∙ c.if-serves.true) b c.remove_key.ensures in
    record { after = r.0; once = r.1 }

pub returns-else-serves-clause-once : goal.returns-else-serves-clause-once
returns-else-serves-clause-once g c =
    let f = normal g.V.Kind.decoded g.V.Kind.coded (g.V.Kind.code g.V.Kind.nothing) in
    remove_other g.V.Kind.WIDTH f c.args.self.now (rank c.args.key) (sym c.serves.ensures ∙ c.if-serves.false)
