use Rattle.std.specs.Prelude.{ℕ, ◌+◌, ◌*◌, ◌/◌, ◌%◌}
use Rattle.values.specs.declared.version.Version.{Version}

-- A version, or a key, as one number. A seat has 16 bits, so ranks compare as the pairs do, and rank 0 is (0, 0).
abbrev pub rank : Version → ℕ
rank v = v.number * 65536 + v.seat

-- the version of a rank
abbrev pub version_of : ℕ → Version
version_of r = record { number = r / 65536; seat = r % 65536 }
