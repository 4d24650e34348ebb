use Rattle.std.proofs.Common.{set, sym, ap, ◌∙◌, arith}
use Rattle.std.proofs.lemmas.List.{map-set, get_or-map, length-map}
use Rattle.std.proofs.lemmas.List.Edits.{map_over_more}
use Rattle.protocol.specs.Lines.{restart_line}
use Rattle.records.specs.Means.{line_means}
use Rattle.relay.specs.Sheets.{lines_mean}
use Rattle.relay.proofs.sheets.restart.Goals as goal

pub loop-line-preserved : goal.loop-line-preserved
loop-line-preserved g c =
    let f = line_means g.V.Kind.code in
    let i = c.loop-line.line-index in
    let x = c.line-item.result in
    let is = sym (get_or-map f c.loop-line.own i x (f x) (omega (arith, c.loop-line.auto.own)) ∙ ap f (sym c.line-item.is)) in
    map-set f c.loop-line.own i c.restarted.result
    ∙ (ap (set (lines_mean g.V.Kind.code c.loop-line.own) i) (c.restarted.ensures ∙ ap (λ l. restart_line (f l)) (sym c.line-item.is))
    ∙ map_over_more restart_line (lines_mean g.V.Kind.code c.args.own.now) (lines_mean g.V.Kind.code c.loop-line.own) i (f x) (omega (arith, length-map c.args.own.now f)) c.loop-line.invariant is)
