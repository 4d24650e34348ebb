use Rattle.std.proofs.Common.{◌≡◌, Ok, Err, Result, OnOk, sym, ap, ◌∙◌, arith}
use Rattle.std.proofs.lemmas.List.{length-take}
use Rattle.stores.specs.Provider.{cell}
use Rattle.journal.specs.Normal.{normal}
use Rattle.journal.proofs.Sixes.{rank_fits}
use Rattle.journal.proofs.Encodings.{put_back}
use Rattle.journal.proofs.Normals.{kept}
use Rattle.journal.proofs.Holdings.{put_other, put_own, answer_own, written_is}
use Rattle.journal.proofs.driver.JournalStore.put.Goals as goal

on_ok : {T E P : Type 0} (r : Result T E) → P → OnOk r P
on_ok (Ok x) p = p
on_ok (Err e) p = tt

pub returns-then-not-serves-clause-log : goal.returns-then-not-serves-clause-log
returns-then-not-serves-clause-log g c =
    let f = normal g.V.Kind.decoded g.V.Kind.coded (g.V.Kind.code g.V.Kind.nothing) in
    put_other g.V.Kind.WIDTH f c.args.self.now (cell c.args.key c.args.version (g.V.Kind.code c.args.value)) (sym c.serves.ensures ∙ c.if-not-serves.true)

pub returns : goal.returns
returns g c =
    let f = normal g.V.Kind.decoded g.V.Kind.coded (g.V.Kind.code g.V.Kind.nothing) in
    let w = g.met.V.Kind.width in
    let j = c.args.self.now in
    let d = cell c.args.key c.args.version c.write.new.sheet in
    let e = cell c.args.key c.args.version (g.V.Kind.code c.args.value) in
    let n = c.WIDTH.ensures in
    let own = sym c.serves.ensures ∙ c.if-not-serves.false in
    let v : c.write.new.sheet ≡ g.V.Kind.code c.args.value = written_is g.V.Kind.WIDTH _ _ _ (simp length-take (omega arith)) c.write.ensures.after in
    let same = ap (cell c.args.key c.args.version) v in
    let b = put_back g.V.Kind.WIDTH e (rank_fits c.args.key (omega arith) (omega arith)) (rank_fits c.args.version (omega arith) (omega arith)) (g.met.V.Kind.whole c.args.value) in
    let r = put_own g.V.Kind.WIDTH f j _ g.V.Kind.WIDTH e d own same b (kept _ _ _ _ _ (g.met.V.Kind.back c.args.value) (g.met.V.Kind.follows c.args.value)) c.put_bytes.ensures.after in
    record { answer = c.put_bytes.ensures.answer ∙ answer_own g.V.Kind.WIDTH f j e d own same; after = r.0; refusal = c.put_bytes.ensures.refusal; once = on_ok c.put_bytes.result r.1; log = r.1 }
