use Rattle.std.proofs.Common.{refl, subst, slice_index_or, take_all}
use Rattle.std.specs.Prelude.{◌==◌}
use Rattle.std.specs.List.{list_any}
use Rattle.std.proofs.lemmas.List.{get_or_default}
use Rattle.query_state.specs.QueryStates.{AreMarked}
use Rattle.query_state.proofs.Marked.{marked_none, marked_next}
use Rattle.query_state.proofs.types.mark_types.Goals as goal

pub loop-ty-init : goal.loop-ty-init
loop-ty-init c = marked_none _ c.args.table.now (λ ty. refl)

pub loop-ty-preserved : goal.loop-ty-preserved
loop-ty-preserved c =
    let x = slice_index_or c.args.types.now c.loop-ty.ty-index 0 in
    marked_next (λ t ty. t == ty) c.args.types.now c.loop-ty.ty-index x c.args.table.now c.loop-ty.table c.mark.new.table c.loop-ty-test.true (get_or_default c.args.types.now c.loop-ty.ty-index 0 x c.loop-ty-test.true) c.loop-ty.invariant c.mark.ensures

pub returns : goal.returns
returns c = subst (λ ts. AreMarked (λ ty. list_any (λ t. t == ty) ts) c.args.table.now c.loop-ty.table) (take_all c.loop-ty.ty-index c.args.types.now c.loop-ty-test.false) c.loop-ty.invariant
