use Rattle.std.proofs.Common.{◌≡◌, ◌<◌, ap, sym, ◌∙◌, false, ◌||◌, Bool, List, length, slice_index_or, arith}
use Rattle.std.specs.Prelude.{◌==◌}
use Rattle.std.specs.List.{list_any}
use Rattle.std.proofs.lemmas.List.{with_items_is}
use Rattle.cel_terms.specs.declared.Name.{Name}
use Rattle.cel_terms.specs.Answers.{types_of_stream}
use Rattle.cel_terms.proofs.TypesAndValues.{reads_is}
use Rattle.query_state.proofs.types.types_read.Goals as goal

pub returns : goal.returns
returns c ty less =
    let table = c.in_ok-table.table in
    let new = c.mark_streams.new.table in
    let long : length new ≡ table.len = (let e = c.as_mut_slice.ensures.len in let f = c.mark_streams.auto.table in omega arith) in
    let told : List Name → Bool = λ names. list_any (λ n. list_any (λ t. t == ty) (types_of_stream c.args.schema.now.streams n.text)) names in
    let inside : ty < length c.as_mut_slice.result.now = (let e = c.in_ok-table.ensures.count in let f = ap length c.as_mut_slice.ensures.value in omega arith) in
    let was : slice_index_or c.as_mut_slice.result.now ty false ≡ false = ap (λ ts. slice_index_or ts ty false) c.as_mut_slice.ensures.value ∙ c.in_ok-table.ensures.none ty in
    ap (λ ts. slice_index_or ts ty false) (with_items_is table new long)
    ∙ (c.mark_streams.ensures.each ty inside
    ∙ (ap (λ b. b || told c.as_slice.result.now) was
    ∙ (ap told c.as_slice.ensures ∙ sym (reads_is c.args.schema.now ty c.args.query.now.streams))))
