use Rattle.std.proofs.Common.{◌≡◌, ◌++◌, map, length, drop, sym, ◌∙◌, subst, arith}
use Rattle.values.specs.Rank.{version_of}
use Rattle.stores.specs.Provider.{cell_key}
use Rattle.journal.specs.Log.{replay}
use Rattle.journal.specs.Normal.{normal}
use Rattle.journal.proofs.Holdings.{list_done}
use Rattle.journal.proofs.driver.JournalStore.list.Goals as goal

pub returns-clause-after : goal.returns-clause-after
returns-clause-after g c =
    let f = normal g.V.Kind.decoded g.V.Kind.coded (g.V.Kind.code g.V.Kind.nothing) in
    let is = subst (λ rs. c.list_in.new.sheet ≡ map version_of (map cell_key (replay rs)) ++ drop (length (replay rs)) c.args.sheet.now) c.records.ensures.log c.list_in.ensures in
    list_done g.V.Kind.WIDTH f c.args.self.now c.args.sheet.now c.list_in.new.sheet (sym c.serves.ensures ∙ c.if-not-serves.false) (omega arith) is
