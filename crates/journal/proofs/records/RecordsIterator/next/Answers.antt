use Rattle.std.proofs.Common.{◌≡◌, ◌∷◌, true, length, ap, arith}
use Rattle.journal.specs.Record.{whole}
use Rattle.journal.specs.Log.{log}
use Rattle.journal.proofs.Sizes.{whole_known, whole_long}
use Rattle.journal.proofs.Cuts.{begins, ended}
use Rattle.journal.proofs.records.RecordsIterator.next.Goals as goal

pub returns-in_err-map-clause-steps : goal.returns-in_err-map-clause-steps
returns-in_err-map-clause-steps c =
    let e = ended c.args.self.now.width c.args.self.now.bytes.now c.in_err-map.ensures.value in
    rw c.from_residual.ensures (e, e)

pub size_of-requires-clause-known : goal.size_of-requires-clause-known
size_of-requires-clause-known c = (begins c.args.self.now.width _ c.args.self.now.bytes.now c.in_ok-map.ensures.value c.args.self.now.whole).begun

pub split_at-requires : goal.split_at-requires
split_at-requires c = let b = begins c.args.self.now.width _ c.args.self.now.bytes.now c.in_ok-map.ensures.value c.args.self.now.whole in let s = c.size_of.ensures in omega (arith, b.within)

pub invariant_of-self : goal.invariant_of-self
invariant_of-self c =
    let j = c.args.self.now in
    let b = begins j.width _ j.bytes.now c.in_ok-map.ensures.value j.whole in
    record { narrow = j.narrow; whole = rw (c.split_at.ensures.back, c.size_of.ensures) b.rest }

pub invariant_of-result : goal.invariant_of-result
invariant_of-result c =
    let j = c.args.self.now in
    let b = begins j.width _ j.bytes.now c.in_ok-map.ensures.value j.whole in
    let o : whole j.width c.split_at.result.0.now ≡ true = rw (c.split_at.ensures.front, c.size_of.ensures) b.one in
    record { begun = whole_known j.width c.split_at.result.0.now o; long = whole_long j.width c.split_at.result.0.now o }

pub returns-clause-steps : goal.returns-clause-steps
returns-clause-steps c =
    let j = c.args.self.now in
    let b = begins j.width _ j.bytes.now c.in_ok-map.ensures.value j.whole in
    rw (c.split_at.ensures.front, c.split_at.ensures.back, c.size_of.ensures) b.is

pub returns-clause-goes : goal.returns-clause-goes
returns-clause-goes c =
    let j = c.args.self.now in
    let b = begins j.width _ j.bytes.now c.in_ok-map.ensures.value j.whole in
    let e : log c.args.self.now.width c.args.self.now.bytes.now ≡ c.split_at.result.0.now ∷ log c.args.self.now.width c.split_at.result.1.now = rw (c.split_at.ensures.front, c.split_at.ensures.back, c.size_of.ensures) b.is in
    let l = ap length e in
    record { on = λ _. (tt, tt, omega arith); keeps = tt; rests = λ _. tt }
