-- The parts of a line with no quote byte.
use Rattle.std.specs.Prelude.{ℕ, ◌==◌, Bool}
use Rattle.cer_base.specs.declared.bytes.TheConstants.{COMMA}

-- what parts the fields
abbrev pub is_comma : ℕ → Bool
is_comma byte = byte == COMMA
