use Rattle.std.proofs.Common.{◌≡◌, ◌≤◌, drop}
use Rattle.std.specs.Prelude.{filter}
use Rattle.std.specs.Char.{is_ascii_digit}
use Rattle.cer_base.specs.Digits.{read_on}
use Rattle.ceql_grammar.specs.Values.{unsigned_number}
use Rattle.ceql_grammar.proofs.values.unsigned_number.Given as goal

abbrev pub invariant-loop-byte : goal.invariant-loop-byte
invariant-loop-byte l = (l.value ≤ l.limit) × (read_on l.value (filter is_ascii_digit (drop l.byte-index l.text)) ≡ unsigned_number l.text)
