-- When a blank opens a ledger.
use Rattle.std.specs.Prelude.{◌≡◌, ℕ, ◌<◌}

-- the blank is for this ledger, and has a share
abbrev pub Opens : ℕ → ℕ → ℕ → ℕ → Type 0
Opens blank_name blank_parts name parts = (blank_name ≡ name) × (blank_parts ≡ parts) × (0 < blank_parts)
