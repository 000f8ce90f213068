use Rattle.std.proofs.Common.{◌≡◌, ◌∙◌, sym, ap, subst, true, List, Contains, Some, None, slice_index_or}
use Rattle.std.specs.Option.{option_copied}
use Rattle.stream_schema.specs.declared.Value.{Value}
use Rattle.partition_table.specs.Keys.{are_at}
use Rattle.query_state.proofs.Lacking.{lacking_stays}
use Rattle.query_state.proofs.own.is_nothing_unfound.Goals as goal

pub returns-then-begins_none : goal.returns-then-begins_none
returns-then-begins_none c told skip_insensitive =
    let here : slice_index_or c.args.table.now c.args.event.now.ty None ≡ Some c.in-Some.places.now = sym c.places_of.ensures ∙ ap option_copied c.in-Some.is in
    lacking_stays c.args.matches.now c.args.table.now c.args.event.now c.args.first.now c.args.bits.now skip_insensitive c.in-Some.places.now here (c.begins_none.ensures c.if-begins_none.true)
    (subst (λ values. (key : List Value) → are_at key c.in-Some.places.now values ≡ true → Contains c.args.matches.now.keys key → ⊥) c.as_slice.ensures (c.lacks.ensures told))
