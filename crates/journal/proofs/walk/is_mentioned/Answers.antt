use Rattle.std.proofs.Common.{refl, eqb, rules}
use Rattle.std.proofs.lemmas.Iterator.Consumers.{YieldsList-from_first}
use Rattle.std.proofs.lemmas.Iterator.Search.{any_from_yields_List}
use borrow.Author.Tests.{tests}
use Rattle.values.specs.Rank.{rank}
use Rattle.journal.specs.declared.record.Record.{Record}
use Rattle.journal.specs.declared.records.Records.{Records}
use Rattle.journal.specs.Record.{record_key}
use Rattle.journal.specs.Log.{log}
use Rattle.journal.proofs.walk.is_mentioned.Goals as goal

pub returns : goal.returns
returns c = any_from_yields_List (λ r. eqb (record_key r) (rank c.args.key)) c.any.new.self _ c.any.result c.any.ensures.ran (YieldsList-from_first (λ (r : Record). r.bytes.now) (λ (s : Records). log s.width s.bytes.now) _ refl) (λ x b q h. search (rules, tests))
