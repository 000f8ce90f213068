-- A number of 64 bits has at most 20 digits.
use Rattle.std.proofs.Common.{rules}
use Rattle.std.proofs.lemmas.Fmt.{length-decimal-le}
use Rattle.answer_text.proofs.short.put_number.Goals as goal

pub write_digits-requires : goal.write_digits-requires
write_digits-requires c = search (rules, length-decimal-le 20)

pub returns-clause-place : goal.returns-clause-place
returns-clause-place c = search (rules, length-decimal-le 20)
