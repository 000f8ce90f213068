use Rattle.std.proofs.Common.{arith}
use Rattle.std.proofs.lemmas.Int.{ints}
use Rattle.stream_schema.proofs.Numbers.{negative_less, negative_greater}
use Rattle.stream_schema.proofs.number.cmp_numbers.Goals as goal

pub returns-else-b-lt0 : goal.returns-else-b-lt0
returns-else-b-lt0 c = negative_less c.args.a c.args.p c.args.b c.args.q (grind (arith, ints)) (grind (arith, ints))

pub returns-then-b-lt0-2 : goal.returns-then-b-lt0-2
returns-then-b-lt0-2 c = negative_greater c.args.a c.args.p c.args.b c.args.q (grind (arith, ints)) (grind (arith, ints))
