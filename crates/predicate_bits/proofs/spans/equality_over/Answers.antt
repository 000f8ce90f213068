use Rattle.predicate_bits.proofs.Spanned.{read_equal}
use Rattle.predicate_bits.proofs.spans.equality_over.Goals as goal

pub returns : goal.returns
returns c = read_equal c.args.first.now c.args.last.now c.args.literal.now c.compares_in_place-begins.result c.compares_in_place-ends.result c.compares_in_place-is_least.result c.compares_in_place-is_most.result c.compares_in_place-begins.ensures c.compares_in_place-ends.ensures c.compares_in_place-is_least.ensures c.compares_in_place-is_most.ensures c.requires
