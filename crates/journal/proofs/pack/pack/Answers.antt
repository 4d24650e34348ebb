use Rattle.std.proofs.Common.{◌≡◌, length, take, sym, ap, ◌∙◌, arith}
use Rattle.std.proofs.lemmas.List.{length-take-le}
use Rattle.journal.specs.Walk.{packed}
use Rattle.journal.proofs.Appends.{packed_logged}
use Rattle.journal.proofs.Overlays.{zeroes}
use Rattle.journal.proofs.pack.pack.Goals as goal

pub returns : goal.returns
returns c =
    let f = c.compact-to.ensures.front in
    let i = c.requires.log.within in
    let l = length-take-le c.args.used c.args.bytes.now i in
    let k : length c.compact-to.new.bytes ≡ c.args.used = c.compact-to.auto.bytes ∙ l in
    let w = c.compact-to.ensures.within in
    let t = sym (length-take-le c.compact-to.result c.compact-to.new.bytes (omega arith)) ∙ ap length f in
    packed_logged c.args.w c.args.used c.compact-to.result c.args.bytes.now _ c.requires.log.sounds t (omega arith) (zeroes c.args.bytes.now c.compact-to.new.bytes c.fill.new.self (packed c.args.w (take c.args.used c.args.bytes.now)) c.args.used c.compact-to.result i k f (omega arith) (c.fill.ensures.after (λ y h. h)))
