use Rattle.std.proofs.Common.{◌≡◌, ◌+◌, ◌≤◌, cond, length, sym, ap, ◌∙◌, arith}
use Rattle.journal.specs.Record.{record_version, rank_at}
use Rattle.journal.proofs.Sizes.{version_fits}
use Rattle.journal.proofs.record.Record.version.Goals as goal
use Rattle.journal.proofs.record.Record.version.Goals.{then-form-2, else-form-2}

pub version_at-requires : goal.version_at-requires
version_at-requires c =
    let f : 7 + cond c.form-form.result.key 6 0 ≤ length c.args.self.now.bytes.now = rw c.form-form.ensures (version_fits c.args.self.now.bytes.now c.args.self.now.long (rw (sym c.form-form.ensures) c.if-form.true)) in
    elim c.if-form-2.branch [
      | then-form-2 v ↦ let g = rw v.if-form-2.true at f in omega (arith, v.version_at-is)
      | else-form-2 v ↦ omega (arith, v.version_at-is)
    ]

pub returns-after-form-2 : goal.returns-after-form-2
unfolding record_version
returns-after-form-2 c =
    let p : c.if-form-2.version_at ≡ 1 + cond c.form-form.result.key 6 0 =
    elim c.if-form-2.branch [
      | then-form-2 v ↦ rw v.if-form-2.true v.version_at-is
      | else-form-2 v ↦ rw v.if-form-2.false v.version_at-is
    ] in
    rw (sym c.form-form.ensures, c.if-form.true) (c.version_at.ensures ∙ ap (λ i. rank_at i c.args.self.now.bytes.now) p)

pub returns-else-form : goal.returns-else-form
unfolding record_version
returns-else-form c = rw (sym c.form-form.ensures, c.if-form.false) c.key.ensures
