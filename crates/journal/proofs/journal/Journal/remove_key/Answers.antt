use Rattle.std.proofs.Common.{sym, arith}
use Rattle.values.specs.Rank.{rank}
use Rattle.journal.specs.Walk.{encoding}
use Rattle.journal.proofs.Sixes.{rank_fits}
use Rattle.journal.proofs.Encodings.{remove_back}
use Rattle.journal.proofs.Changes.{removed}
use Rattle.journal.proofs.journal.Journal.remove_key.Goals as goal

pub append-requires : goal.append-requires
append-requires c =
    let j = c.args.self.now in
    let a = removed j (rank c.args.key) (encoding c.of_remove.result) c.of_remove.ensures (remove_back j.width (rank c.args.key) (rank_fits c.args.key (omega arith) (omega arith))) (sym c.if-is_present.ensures) in
    record { whole = a.wholly; counted = a.counted; few = a.few; some = a.some }
