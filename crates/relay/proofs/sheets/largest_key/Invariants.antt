use Rattle.std.proofs.Common.{◌≡◌}
use Rattle.values.specs.Rank.{rank}
use Rattle.protocol.specs.Phases.{largest_listed}
use Rattle.relay.specs.Sheets.{lines_mean, line_in}
use Rattle.relay.proofs.sheets.largest_key.Given as goal

abbrev pub invariant-loop-line : goal.invariant-loop-line
invariant-loop-line g l = rank l.best ≡ largest_listed (line_in (lines_mean g.V.Kind.code l.own)) l.line-index
