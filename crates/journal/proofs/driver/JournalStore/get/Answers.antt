use Rattle.std.proofs.Common.{List, ℕ, Some, None, Option, sym, ap, ◌∙◌}
use Rattle.stores.specs.Keyed.{element_of}
use Rattle.stores.specs.Provider.{Pair, cell_key}
use Rattle.stores.specs.Operations.{pair_means}
use Rattle.std.specs.Option.{option_map}
use Rattle.values.specs.Rank.{rank}
use Rattle.journal.specs.Record.{record_version}
use Rattle.journal.specs.Log.{replay}
use Rattle.journal.specs.Normal.{normal}
use Rattle.journal.proofs.Holdings.{got}
use Rattle.journal.proofs.driver.JournalStore.get.Goals as goal

pub returns-in_err-record : goal.returns-in_err-record
returns-in_err-record g c =
    let f = normal g.V.Kind.decoded g.V.Kind.coded (g.V.Kind.code g.V.Kind.nothing) in
    ap (option_map (pair_means g.V.Kind.code)) c.from_residual.ensures ∙
    got g.V.Kind.WIDTH f c.args.self.now (rank c.args.key) None (sym c.serves.ensures ∙ c.if-not-serves.false) (c.in_err-record.ensures.seen ∙ ap (λ rs. element_of cell_key (rank c.args.key) (replay rs)) c.records.ensures.log)

pub returns : goal.returns
returns g c =
    let f = normal g.V.Kind.decoded g.V.Kind.coded (g.V.Kind.code g.V.Kind.nothing) in
    let pair : ℕ → List ℕ → Option Pair = λ n v. Some (record { version = n; value = v }) in
    ap (λ n. pair n (g.V.Kind.code c.restore.result)) c.version.ensures ∙
    (ap (pair (record_version c.in_ok-record.record.bytes.now)) (c.restore.ensures ∙ ap f c.value.ensures) ∙
    got g.V.Kind.WIDTH f c.args.self.now (rank c.args.key) _ (sym c.serves.ensures ∙ c.if-not-serves.false) (c.in_ok-record.ensures.seen ∙ ap (λ rs. element_of cell_key (rank c.args.key) (replay rs)) c.records.ensures.log))
