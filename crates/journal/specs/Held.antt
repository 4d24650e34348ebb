use Rattle.std.specs.Prelude.{◌≡◌, ℕ, List, length}
use Rattle.journal.specs.declared.journal.Journal.{Journal}
use Rattle.journal.specs.Log.{joined, filled}
use Rattle.journal.specs.Contents.{Contents, contents}

-- the bytes that a journal was lent
abbrev pub bytes_of : Journal → List ℕ
bytes_of j = j.bytes.now

-- what it has in them
abbrev pub contents_of : Journal → Contents
contents_of j = contents j.width j.room j.used (bytes_of j)

-- A journal has these contents, all its bytes are the records and zeros after them, and its used length is the records'.
pub record Holds (j : Journal) (s : Contents) : Type 0 where
  pub contents : contents_of j ≡ s
  pub bytes : bytes_of j ≡ filled s.size s.records
  pub used : j.used ≡ length (joined s.records)
