use Rattle.std.proofs.Common.{rules, ◌+◌, eqb, length, drop, sym, ap, ◌∙◌, arith}
use Rattle.std.proofs.lemmas.Bool.{or_left}
use Rattle.std.proofs.lemmas.List.{take_rest}
use Rattle.values.specs.Rank.{rank}
use Rattle.journal.specs.Record.{record_key}
use Rattle.journal.specs.Log.{log, sound, mentions}
use Rattle.journal.proofs.Cuts.{First}
use Rattle.journal.proofs.Packs.{packing_none, packing_gone, packing_old, packing_kept, next_record, log_after}
use Rattle.journal.proofs.pack.compact.Goals as goal
use Rattle.journal.proofs.pack.compact.Goals.{In-Some}

-- the record at the place
here : (c : In-Some) → First c.args.w c.records.bytes c.records.at c.in-Some.record.bytes.now
here c = next_record _ _ _ _ _ c.records.invariant c.new.result _ _ c.new.ensures.width c.new.ensures.bytes c.in-Some.ensures.steps

pub records-init : goal.records-init
records-init c = packing_none c.args.w c.args.bytes.now c.requires.whole

pub records-preserved-then-not-is_put : goal.records-preserved-then-not-is_put
records-preserved-then-not-is_put c = packing_gone _ _ _ _ _ c.records.invariant _ (here (goal.at.records-preserved-then-not-is_put c).In-Some) (sym c.if-not-is_put.ensures)

pub records-smaller-then-not-is_put : goal.records-smaller-then-not-is_put
records-smaller-then-not-is_put c = let f = here (goal.at.records-smaller-then-not-is_put c).In-Some in let s = c.records.invariant.size in omega (arith, f.within, f.more)

pub slice_bounds-new-count-in-Some : goal.slice_bounds-new-count-in-Some
slice_bounds-new-count-in-Some c = (here (goal.at.slice_bounds-new-count-in-Some c).In-Some).within

pub slice_bounds-new-start-in-Some : goal.slice_bounds-new-start-in-Some
slice_bounds-new-start-in-Some c = let f = (here (goal.at.slice_bounds-new-start-in-Some c).In-Some).within in search rules

pub new-later-items-requires-clause-whole : goal.new-later-items-requires-clause-whole
new-later-items-requires-clause-whole c =
    let f = here (goal.at.new-later-items-requires-clause-whole c).In-Some in
    ap (λ xs. sound c.args.w (log c.args.w xs)) (take_rest c.records.bytes (c.records.at + length c.in-Some.record.bytes.now)) ∙ f.rest

pub records-preserved-then-has_key : goal.records-preserved-then-has_key
records-preserved-then-has_key c =
    let k = rank c.key-key.result in
    let e = log_after c.into_iter-later-iterator.result c.new-later-items.result c.args.w c.records.bytes _ c.into_iter-later-iterator.ensures.into_iter_gives c.new-later-items.ensures.width c.new-later-items.ensures.bytes in
    let m = sym (ap (mentions k) e) ∙ (sym c.loop-later.invariant ∙ (ap (mentions k) c.in-Some-later.ensures.steps ∙ or_left (eqb (record_key c.in-Some-later.later.bytes.now) k) _ (sym c.if-has_key.ensures))) in
    packing_old _ _ _ _ _ c.records.invariant _ (here (goal.at.records-preserved-then-has_key c).In-Some) (sym c.if-not-is_put.ensures) (ap (λ j. mentions j (log c.args.w (drop (c.records.at + length c.in-Some.record.bytes.now) c.records.bytes))) (sym c.key-key.ensures) ∙ m)

pub records-smaller-then-has_key : goal.records-smaller-then-has_key
records-smaller-then-has_key c = let f = here (goal.at.records-smaller-then-has_key c).In-Some in let s = c.records.invariant.size in omega (arith, f.within, f.more)

pub copy_within-requires-clause-in_bounds : goal.copy_within-requires-clause-in_bounds
copy_within-requires-clause-in_bounds c = (here (goal.at.copy_within-requires-clause-in_bounds c).In-Some).within

pub copy_within-requires-clause-dest_in_bounds : goal.copy_within-requires-clause-dest_in_bounds
copy_within-requires-clause-dest_in_bounds c = let f = (here (goal.at.copy_within-requires-clause-dest_in_bounds c).In-Some).within in let b = c.records.invariant.behind in omega arith

pub records-preserved : goal.records-preserved
records-preserved c =
    let k = rank c.key-key.result in
    let e = log_after c.into_iter-later-iterator.result c.new-later-items.result c.args.w c.records.bytes _ c.into_iter-later-iterator.ensures.into_iter_gives c.new-later-items.ensures.width c.new-later-items.ensures.bytes in
    let m = sym (ap (mentions k) e) ∙ (sym c.loop-later.invariant ∙ ap (mentions k) c.in-None.ensures.steps.0) in
    packing_kept _ _ _ _ _ c.records.invariant _ (here (goal.at.records-preserved c).In-Some) c.copy_within.new.self (sym c.if-not-is_put.ensures) (ap (λ j. mentions j (log c.args.w (drop (c.records.at + length c.in-Some.record.bytes.now) c.records.bytes))) (sym c.key-key.ensures) ∙ m) c.copy_within.ensures.after
