use Rattle.std.proofs.Common.{ap, sym, subst, ◌∙◌, Some}
use Rattle.stream_schema.specs.Names.{type_number}
use Rattle.query_leaves.specs.Tests.{AreTestsOf}
use Rattle.query_leaves.proofs.EventsRead.{leaf_made, nothing_made}
use Rattle.query_leaves.proofs.leaf_of.leaf_of.Goals as goal

pub returns-in_ok-tests-in-Some : goal.returns-in_ok-tests-in-Some
returns-in_ok-tests-in-Some c =
    let schema = c.args.schema.now in
    let tests = c.in_ok-tests-in-Some.tests in
    leaf_made schema c.args.occurrence.now c.in-Some.ty tests c.is_bound-marked.result c.is_bound-marked.ensures
    (c.in-Some.ensures.place ∙ ap (type_number schema.types) c.ty.ensures)
    (λ k has. c.in-Some.ensures.only k (has ∙ ap (λ n. Some n) (sym c.ty.ensures)))
    (subst (λ ps. AreTestsOf schema c.in-Some.ty ps tests) c.tests.ensures c.in_ok-tests-in-Some.ensures)

pub returns-in_ok-tests-in-None : goal.returns-in_ok-tests-in-None
returns-in_ok-tests-in-None c =
    nothing_made c.args.schema.now c.args.occurrence.now 0 c.in_ok-tests-in-None.tests c.is_bound-marked.result c.is_bound-marked.ensures c.in_ok-tests-in-None.ensures
    (λ k has. c.in-None.ensures.only k (has ∙ ap (λ n. Some n) (sym c.ty.ensures)))
