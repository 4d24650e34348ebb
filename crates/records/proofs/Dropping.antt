use Rattle.std.proofs.Common.{◌≡◌, ℕ, ◌+◌, List, map, drop, sym, ap, ◌∙◌}
use Rattle.std.proofs.lemmas.List.{drop-drop, drop-map}
use Rattle.values.specs.Rank.{rank}
use Rattle.values.specs.declared.version.Version.{Version}

-- one place further on is the list after its first key
pub place_further : (i : ℕ) (ks : List Version) → map rank (drop (i + 1) ks) ≡ drop 1 (map rank (drop i ks))
place_further i ks = ap (map rank) (sym (drop-drop 1 i ks)) ∙ sym (drop-map rank 1 (drop i ks))
