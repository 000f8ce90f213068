use Rattle.std.proofs.Common.{ap, ◌∙◌}
use Rattle.std.proofs.lemmas.Option.{get_or_from_slice_get}
use Rattle.query_leaves.specs.Shapes.{each_holds}
use Rattle.predicate_bits.proofs.Checked.{sieve_read}
use Rattle.predicate_bits.proofs.conditions.holds_at.Goals as goal

pub hold_by-requires-clause-asks : goal.hold_by-requires-clause-asks
hold_by-requires-clause-asks c = (sieve_read c.args.list.now c.args.sieves.now c.args.number c.index-list-number.result c.index-sieves-number.result c.as_slice-tests.result.now c.requires.sieves c.requires.inside c.as_slice-tests.ensures.value c.index-sieves-number.is).asks

pub hold_by-requires-clause-comes : goal.hold_by-requires-clause-comes
hold_by-requires-clause-comes c = (sieve_read c.args.list.now c.args.sieves.now c.args.number c.index-list-number.result c.index-sieves-number.result c.as_slice-tests.result.now c.requires.sieves c.requires.inside c.as_slice-tests.ensures.value c.index-sieves-number.is).checks

pub returns : goal.returns
returns c = λ l at. c.hold_by.ensures ∙ ap (λ ts. each_holds ts c.args.event.now) (c.as_slice-tests.ensures.value ∙ ap (λ x. x.tests) (get_or_from_slice_get c.args.list.now c.args.number l c.index-list-number.result at))
