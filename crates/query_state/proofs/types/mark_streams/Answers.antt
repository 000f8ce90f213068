use Rattle.std.proofs.Common.{refl, subst, take_all}
use Rattle.std.specs.Prelude.{◌==◌}
use Rattle.std.specs.List.{list_any}
use Rattle.cel_terms.specs.Answers.{types_of_stream}
use Rattle.query_state.specs.QueryStates.{AreMarked}
use Rattle.query_state.proofs.Marked.{marked_none, marked_next}
use Rattle.query_state.proofs.types.mark_streams.Goals as goal

pub loop-name-init : goal.loop-name-init
loop-name-init c = marked_none _ c.args.table.now (λ ty. refl)

pub loop-name-preserved : goal.loop-name-preserved
loop-name-preserved c =
    marked_next (λ n ty. list_any (λ t. t == ty) (types_of_stream c.args.schema.now.streams n.text)) c.args.names.now c.loop-name.name-index c.name-item.result c.args.table.now c.loop-name.table c.mark_stream.new.table c.loop-name-test.true c.name-item.is c.loop-name.invariant c.mark_stream.ensures

pub returns : goal.returns
returns c = subst (λ ns. AreMarked (λ ty. list_any (λ n. list_any (λ t. t == ty) (types_of_stream c.args.schema.now.streams n.text)) ns) c.args.table.now c.loop-name.table) (take_all c.loop-name.name-index c.args.names.now c.loop-name-test.false) c.loop-name.invariant
