use Rattle.std.proofs.Common.{length, None, is_some, refl, ap, arith}
use Rattle.std.proofs.lemmas.List.{get_or_past}
use Rattle.values.specs.Rank.{rank}
use Rattle.stores.specs.Provider.{cell}
use Rattle.journal.specs.Forms.{forms, known}
use Rattle.journal.proofs.Sixes.{rank_fits}
use Rattle.journal.proofs.Encodings.{put_back, remove_back}
use Rattle.journal.proofs.codec.codec_lawful.Goals as goal

pub returns-clause-put : goal.returns-clause-put
returns-clause-put c = put_back (length c.args.value.now) (cell c.args.key c.args.version c.args.value.now) (rank_fits c.args.key (omega arith) (omega arith)) (rank_fits c.args.version (omega arith) (omega arith)) refl

pub returns-clause-remove : goal.returns-clause-remove
returns-clause-remove c = remove_back (length c.args.value.now) (rank c.args.key) (rank_fits c.args.key (omega arith) (omega arith))

pub returns-clause-table : goal.returns-clause-table
unfolding known
returns-clause-table c = record {
  rows = refl;
  above = λ b le. ap is_some (get_or_past forms b None le);
}
