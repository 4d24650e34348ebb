use Rattle.std.proofs.Common.{◌≤◌, sym, arith}
use Rattle.journal.specs.Forms.{size}
use Rattle.journal.proofs.Sizes.{short_fields}
use Rattle.journal.proofs.forms.size_of.Goals as goal
use Rattle.journal.proofs.forms.size_of.Goals.{then-f, else-f}

pub overflow_add-result : goal.overflow_add-result
overflow_add-result c = let e : c.form_of-f.result.length ≤ 12 = rw c.form_of-f.ensures (short_fields c.args.map) in omega arith

pub overflow_add-result-2 : goal.overflow_add-result-2
overflow_add-result-2 c =
    let e : c.form_of-f.result.length ≤ 12 = rw c.form_of-f.ensures (short_fields c.args.map) in
    elim c.if-f.branch [ then-f v ↦ omega (arith, v.result-is) | else-f v ↦ omega (arith, v.result-is) ]

pub returns : goal.returns
unfolding size
returns c =
    rw (sym c.form_of-f.ensures) (elim c.if-f.branch [
      | then-f v ↦ rw v.if-f.true (omega (arith, v.result-is))
      | else-f v ↦ rw v.if-f.false (omega (arith, v.result-is))
    ])
