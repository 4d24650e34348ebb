use Rattle.std.proofs.Common.{◌≡◌, ◌++◌, map, take, drop}
use Rattle.protocol.specs.Lines.{restart_line}
use Rattle.relay.specs.Sheets.{lines_mean}
use Rattle.relay.proofs.sheets.restart.Given as goal

abbrev pub invariant-loop-line : goal.invariant-loop-line
invariant-loop-line g l =
    lines_mean g.V.Kind.code l.own ≡ map restart_line (take l.line-index (lines_mean g.V.Kind.code l.initial.own)) ++ drop l.line-index (lines_mean g.V.Kind.code l.initial.own)
