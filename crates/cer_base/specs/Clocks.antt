-- Which whole numbers the clock of an event may be.
use Rattle.std.specs.Prelude.{◌^◌, ℤ, pos, ◌-ℤ◌, ◌≤ℤ◌, ◌<ℤ◌}

-- a whole number of 64 bits
abbrev pub IsShort : ℤ → Type 0
IsShort clock = ((pos 0 -ℤ pos (2 ^ 63)) ≤ℤ clock) × (clock <ℤ pos (2 ^ 63))
