-- Limits that more than one layer states.
use Rattle.std.specs.Prelude.{ℕ}

-- 01: field 1,024 bytes after substitution
abbrev pub field_limit : ℕ
field_limit = 1024
