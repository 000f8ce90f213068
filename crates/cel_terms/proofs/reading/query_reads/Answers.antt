use Rattle.std.proofs.Common.{ap, sym, ◌∙◌}
use Rattle.std.specs.Prelude.{◌==◌}
use Rattle.std.specs.List.{list_any}
use Rattle.cel_terms.specs.Answers.{types_of_stream}
use Rattle.cel_terms.proofs.TypesAndValues.{reads_is}
use Rattle.cel_terms.proofs.reading.query_reads.Goals as goal

pub returns : goal.returns
returns c =
    c.some_stream_has.ensures
    ∙ (ap (list_any (λ n. list_any (λ t. t == c.args.event.now.ty) (types_of_stream c.args.schema.now.streams n.text))) c.as_slice.ensures
    ∙ sym (reads_is c.args.schema.now c.args.event.now.ty c.args.query.now.streams))
