use Rattle.std.proofs.Common.{◌≡◌, length, get_or, take, sym, ap, ◌∙◌, subst, arith}
use Rattle.std.proofs.lemmas.List.{length-map, at_drop_all}
use Rattle.values.specs.Rank.{version_of}
use Rattle.stores.specs.Provider.{cell_key, keys, cell}
use Rattle.stores.specs.Copying.{put_count, put_all, PutEach}
use Rattle.stores.proofs.CopySteps.{first, of_ok, of_err, room_of, full_of, not_absent, more_count, more_all, more_once, end_count, end_all}
use Rattle.stores.proofs.Gets.{copied}
use Rattle.stores.proofs.copying.copy_listed.Goals as goal

pub returns-in_default : goal.returns-in_default
returns-in_default g c = absurd (not_absent (g.S.Store.provider c.args.from.now) c.args.listed.now c.loop-i.i c.requires c.loop-i-test.true (g.met.S.Store.sorted c.args.from.now) c.in_default.ensures)

pub returns-then-is_err : goal.returns-then-is_err
returns-then-is_err g c =
    let p = g.S.Store.provider c.args.from.now in
    let q = g.T.Store.provider c.loop-i.to in
    let s = c.in-Some.stored in
    let x = cell (get_or c.args.listed.now c.loop-i.i first) s.version (g.V.Kind.code s.value) in
    let full = full_of x q c.put.result c.put.ensures.answer (sym c.is_err.ensures.value ∙ c.if-is_err.true) in
    let answer : c.loop-i.i ≡ put_count p.cells (g.T.Store.provider c.args.to.now) = end_count p c.args.listed.now c.loop-i.i c.requires c.loop-i-test.true (g.met.S.Store.sorted c.args.from.now) g.V.Kind.code s c.in-Some.ensures q _ full c.loop-i.invariant.counted in
    let after : g.T.Store.provider c.put.new.self ≡ put_all p.cells (g.T.Store.provider c.args.to.now) = end_all p c.args.listed.now c.loop-i.i c.requires c.loop-i-test.true (g.met.S.Store.sorted c.args.from.now) g.V.Kind.code s c.in-Some.ensures q _ _ full c.put.ensures.after c.loop-i.invariant.after in
    record {
      answer = answer;
      after = after;
      copied = copied p (g.T.Store.provider c.args.to.now) _ _ (g.met.S.Store.sorted c.args.from.now) answer after;
      once = subst (PutEach g.T.Store.puts (take c.loop-i.i p.cells) c.args.to.now) (sym (of_err c.put.result (sym c.is_err.ensures.value ∙ c.if-is_err.true) c.put.ensures.refusal)) c.loop-i.invariant.once;
    }

pub loop-i-preserved : goal.loop-i-preserved
loop-i-preserved g c =
    let p = g.S.Store.provider c.args.from.now in
    let q = g.T.Store.provider c.loop-i.to in
    let s = c.in-Some.stored in
    let x = cell (get_or c.args.listed.now c.loop-i.i first) s.version (g.V.Kind.code s.value) in
    let room = room_of x q c.put.result c.put.ensures.answer (sym c.is_err.ensures.value ∙ c.if-is_err.false) in
    record {
      counted = more_count p c.args.listed.now c.loop-i.i c.requires c.loop-i-test.true (g.met.S.Store.sorted c.args.from.now) g.V.Kind.code s c.in-Some.ensures q _ _ room c.put.ensures.after c.loop-i.invariant.counted;
      after = more_all p c.args.listed.now c.loop-i.i c.requires c.loop-i-test.true (g.met.S.Store.sorted c.args.from.now) g.V.Kind.code s c.in-Some.ensures q _ _ room c.put.ensures.after c.loop-i.invariant.after;
      once = more_once p c.args.listed.now c.loop-i.i c.requires c.loop-i-test.true (g.met.S.Store.sorted c.args.from.now) g.V.Kind.code s c.in-Some.ensures q g.T.Store.puts c.args.to.now c.loop-i.to _ c.loop-i.invariant.once (of_ok c.put.result (sym c.is_err.ensures.value ∙ c.if-is_err.false) c.put.ensures.once);
    }

pub returns : goal.returns
returns g c =
    let p = g.S.Store.provider c.args.from.now in
    let q = g.T.Store.provider c.loop-i.to in
    let n = ap length c.requires in
    let m = length-map (keys p) version_of in
    let k = length-map p.cells cell_key in
    let a = at_drop_all (λ cs. put_count cs q) p.cells c.loop-i.i (omega arith) in
    let b = at_drop_all (λ cs. put_all cs q) p.cells c.loop-i.i (omega arith) in
    let e : c.loop-i.i ≡ length c.args.listed.now = omega arith in
    let answer : length c.args.listed.now ≡ put_count p.cells (g.T.Store.provider c.args.to.now) = omega (arith, c.loop-i.invariant.counted) in
    let after : g.T.Store.provider c.loop-i.to ≡ put_all p.cells (g.T.Store.provider c.args.to.now) = sym b ∙ c.loop-i.invariant.after in
    record {
      answer = answer;
      after = after;
      copied = copied p (g.T.Store.provider c.args.to.now) _ _ (g.met.S.Store.sorted c.args.from.now) answer after;
      once = subst (λ i. PutEach g.T.Store.puts (take i p.cells) c.args.to.now c.loop-i.to) e c.loop-i.invariant.once;
    }
