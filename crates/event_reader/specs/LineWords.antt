-- The words of a line.
use Rattle.std.specs.Prelude.{ℕ, ◌==◌, Bool, if◌then◌else◌, nat_lt, List, length, Option, Some, None}
use Rattle.std.specs.List.{after_first, before_first, position_or_len}
use Rattle.event_reader.specs.declared.words.TheConstants.{BLANK}

abbrev pub is_blank : ℕ → Bool
is_blank byte = byte == BLANK

-- what stands before the first blank and after it, where there is one
abbrev pub cut : List ℕ → Option (List ℕ × List ℕ)
cut text = if nat_lt (position_or_len is_blank text) (length text) then Some (before_first is_blank text, after_first is_blank text) else None
