use Rattle.std.proofs.Common.{◌≡◌, ◌+◌, ◌-◌, length, replicate, refl, ap, ◌∙◌, arith}
use Rattle.journal.specs.Log.{log}
use Rattle.journal.proofs.Holdings.{held, one_more}
use Rattle.journal.proofs.journal.Journal.new.Goals as goal

pub invariant_of-result : goal.invariant_of-result
unfolding log
invariant_of-result g c =
    let w = g.met.V.Kind.width in
    let k = c.fill.ensures.len in
    let s = c.WIDTH.ensures in
    let z : length c.args.bytes.now ≡ length c.fill.new.self - 0 = omega arith in
    record {
      narrow = omega arith;
      within = omega arith;
      whole = refl;
      zeros = c.fill.ensures.after (λ y h. h) ∙ ap (λ n. replicate n 0) z;
      counted = refl;
      few = omega arith;
      fits = λ h. let f = one_more c.room_in-room.result (13 + g.V.Kind.WIDTH) (length c.args.bytes.now) (c.room_in-room.ensures.most.fits h) in rw s (omega arith);
    }

pub returns-clause-log : goal.returns-clause-log
unfolding log
returns-clause-log g c = held _ _ (rw (c.WIDTH.ensures, c.room_in-room.ensures.is, c.fill.ensures.len) refl)
