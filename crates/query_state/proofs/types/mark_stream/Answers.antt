use Rattle.std.proofs.Common.{ap, sym, ◌∙◌, ℕ, false, Option, List}
use Rattle.std.specs.Prelude.{◌==◌}
use Rattle.std.specs.List.{list_any}
use Rattle.std.specs.Option.{option_map_or}
use Rattle.stream_schema.specs.Names.{stream_types}
use Rattle.cel_terms.proofs.TypesAndValues.{types_are}
use Rattle.query_state.proofs.Marked.{marked_none, marked_alike}
use Rattle.query_state.proofs.types.mark_stream.Goals as goal

pub returns-in-Some : goal.returns-in-Some
returns-in-Some c =
    marked_alike _ _ c.args.table.now c.mark_types.new.table (λ ty.
    ap (list_any (λ t. t == ty)) c.as_slice.ensures ∙ (ap (λ (o : Option (List ℕ)). option_map_or (list_any (λ t. t == ty)) o false) c.in-Some.ensures
    ∙ (ap (λ name. option_map_or (list_any (λ t. t == ty)) (stream_types c.args.schema.now.streams name) false) c.as_str.ensures ∙ sym (types_are c.args.schema.now.streams c.args.name.now.text ty)))
    ) c.mark_types.ensures

pub returns-in-None : goal.returns-in-None
returns-in-None c =
    marked_none _ c.args.table.now (λ ty.
    sym (ap (λ (o : Option (List ℕ)). option_map_or (list_any (λ t. t == ty)) o false) c.in-None.ensures
    ∙ (ap (λ name. option_map_or (list_any (λ t. t == ty)) (stream_types c.args.schema.now.streams name) false) c.as_str.ensures ∙ sym (types_are c.args.schema.now.streams c.args.name.now.text ty)))
    )
