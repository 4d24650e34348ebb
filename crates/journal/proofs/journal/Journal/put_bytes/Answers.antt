use Rattle.std.proofs.Common.{sym, ◌∙◌, subst, arith}
use Rattle.std.proofs.lemmas.Bool.{both_ways}
use Rattle.stores.specs.Provider.{cell}
use Rattle.journal.specs.Walk.{encoding}
use Rattle.journal.proofs.Sixes.{rank_fits}
use Rattle.journal.proofs.Encodings.{put_back}
use Rattle.journal.proofs.Changes.{Appends, put_again, put_new}
use Rattle.journal.proofs.journal.Journal.put_bytes.Goals as goal
use Rattle.journal.proofs.journal.Journal.put_bytes.Goals.{Joined-else-not-present, else-not-present-via-then-not-present+else-self, else-not-present-via-else-not-present, then-present, else-present}

pub append-requires : goal.append-requires
append-requires c =
    let j = c.args.self.now in
    let e = cell c.args.key c.args.version c.args.value.now in
    let r = encoding c.of_put.result in
    let b = put_back j.width e (rank_fits c.args.key (omega arith) (omega arith)) (rank_fits c.args.version (omega arith) (omega arith)) c.requires in
    let l = j.few in
    let a : Appends j r c.if-present.count = elim c.if-present.branch [
      | then-present w ↦ subst (Appends j r) (sym w.count-is) (put_again j e r c.of_put.ensures b (sym c.is_present-present.ensures ∙ w.if-present.true))
      | else-present w ↦ subst (Appends j r) (sym w.count-is) (put_new j e r c.of_put.ensures b (sym c.is_present-present.ensures ∙ w.if-present.false) (elim c.else-not-present.branch [
        | else-not-present-via-then-not-present+else-self v ↦ omega (arith, v.if-self.false)
        | else-not-present-via-else-not-present v ↦ absurd (both_ways c.is_present-present.result w.if-present.false v.if-not-present.false)
      ]))
    ] in
    record { whole = a.wholly; counted = a.counted; few = a.few; some = a.some }
