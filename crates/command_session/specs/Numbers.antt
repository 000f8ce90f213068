-- The numbers of a command.
use Rattle.std.specs.Prelude.{ℕ, Bool, ◌&&◌, if◌then◌else◌, nat_le, nat_lt, List, length, Option, Some, None, option_and_then}
use Rattle.std.specs.Str.{all_ascii_digits}
use Rattle.std.specs.Str.Parse.{digits_value}
use Rattle.command_session.specs.declared.numbers.TheConstants.{MOST_DIGITS}

-- one to ten digits
abbrev pub is_command_number : List ℕ → Bool
is_command_number digits = nat_lt 0 (length digits) && nat_le (length digits) MOST_DIGITS && all_ascii_digits digits

-- the number that they write
abbrev pub command_number : List ℕ → Option ℕ
command_number digits = if is_command_number digits then Some (digits_value 10 digits) else None

-- the number that the digits write, where it is from 1 to so many
abbrev pub one_of : ℕ → List ℕ → Option ℕ
one_of most digits = option_and_then (λ n. if nat_le 1 n && nat_le n most then Some n else None) (command_number digits)
