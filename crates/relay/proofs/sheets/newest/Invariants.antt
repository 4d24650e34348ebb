use Rattle.std.proofs.Common.{◌≡◌}
use Rattle.std.specs.Option.{option_map}
use Rattle.stores.specs.Operations.{pair_means}
use Rattle.protocol.specs.Phases.{newest_found}
use Rattle.relay.specs.Sheets.{lines_mean, line_in}
use Rattle.relay.proofs.sheets.newest.Given as goal

abbrev pub invariant-loop-line : goal.invariant-loop-line
invariant-loop-line g l = option_map (pair_means g.V.Kind.code) l.best ≡ newest_found (line_in (lines_mean g.V.Kind.code l.own)) l.line-index
