use Rattle.std.proofs.Common.{◌≡◌, Ok, Err, ap, ◌∙◌}
use Rattle.std.specs.Result.{result_unwrap_or}
use Rattle.values.specs.Refusals.{outcome}
use Rattle.values.specs.Sheets.{read_answer}
use Rattle.journal.specs.Normal.{normal}
use Rattle.journal.proofs.Normals.{read_value, read_nothing}
use Rattle.journal.proofs.driver.restore.Goals as goal

pub returns : goal.returns
returns g c =
    let read = elim c.read.result as (λ r. outcome g.V.Kind.means r ≡ read_answer g.V.Kind.WIDTH g.V.Kind.decoded c.args.bytes.now → g.V.Kind.code (result_unwrap_or r c.blank.result) ≡ normal g.V.Kind.decoded g.V.Kind.coded (g.V.Kind.code g.V.Kind.nothing) c.args.bytes.now) [
      | Ok v ↦ λ h. g.met.V.Kind.follows v ∙ read_value _ _ _ _ _ (g.V.Kind.means v) c.requires h
      | Err e ↦ λ h. ap g.V.Kind.code c.blank.ensures ∙ read_nothing _ _ _ _ _ _ c.requires h
    ] c.read.ensures.answer in
    ap g.V.Kind.code c.unwrap_or.ensures ∙ read
