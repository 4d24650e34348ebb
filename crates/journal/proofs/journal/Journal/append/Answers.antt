use Rattle.std.proofs.Common.{sym, subst, arith}
use Rattle.journal.specs.Walk.{encoding}
use Rattle.journal.proofs.Changes.{Made, made_same, made_packed, extended}
use Rattle.journal.proofs.journal.Journal.append.Goals as goal
use Rattle.journal.proofs.journal.Journal.append.Goals.{Joined-self-len, then-self-len, else-self-len}

-- room for the record
made : (c : Joined-self-len) → Made c.args.self.now (encoding c.args.new.now) c.if-self-len.self
made c =
    let j = c.args.self.now in
    let r = encoding c.args.new.now in
    let n = c.len.ensures in
    elim c.if-self-len.branch [
      | then-self-len w ↦ subst (Made j r) (sym w.self-is) (made_packed j r w.pack.new.self c.requires.whole c.requires.some (omega (arith, w.if-self-len.true)) w.pack.ensures.log)
      | else-self-len w ↦ subst (Made j r) (sym w.self-is) (made_same j r (omega (arith, w.if-self-len.false)))
    ]

pub write-self-requires : goal.write-self-requires
write-self-requires c = (made (goal.at.write-self-requires c).Joined-self-len).fits

pub invariant_of-self : goal.invariant_of-self
invariant_of-self c =
    let j = c.if-self-len.self in
    let e = extended c.args.self.now (encoding c.args.new.now) j c.write-self.result c.args.count c.write-self.new.bytes (made (goal.at.invariant_of-self c).Joined-self-len) c.requires.whole c.requires.counted c.requires.few c.write-self.ensures.size c.write-self.ensures.after in
    record { narrow = j.narrow; within = e.within; whole = e.sounds; zeros = e.zeros; counted = e.counted; few = e.few; fits = λ h. let f = j.fits h in let s = e.size in omega arith }

pub returns : goal.returns
returns c =
    (extended c.args.self.now (encoding c.args.new.now) c.if-self-len.self c.write-self.result c.args.count c.write-self.new.bytes (made (goal.at.returns c).Joined-self-len) c.requires.whole c.requires.counted c.requires.few c.write-self.ensures.size c.write-self.ensures.after).is
