use Rattle.std.proofs.Common.{append_assoc, arith}
use Rattle.std.proofs.lemmas.List.{drop_more}
use Rattle.std.proofs.lemmas.Grind.{common_steps}
use Rattle.records.proofs.key_list.KeyList.temporary_but.Goals as goal

pub loop-key-preserved : goal.loop-key-preserved
loop-key-preserved c =
    let more = drop_more c.as_slice-key-items.result.now c.loop-key.key-index (record { number = 0; seat = 0 }) (omega arith) in
    record {
      order = grind arith;
      room = grind arith;
      chosen = grind (arith, common_steps, append_assoc);
    }
