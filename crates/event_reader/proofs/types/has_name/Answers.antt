use Rattle.std.proofs.Common.{sym, ◌∙◌}
use Rattle.std.proofs.lemmas.Slice.Eq.{bytes_eq-Decides}
use Rattle.event_reader.proofs.OfSchema.{known_name}
use Rattle.event_reader.proofs.types.has_name.Goals as goal

pub returns-in-Some : goal.returns-in-Some
returns-in-Some c = λ same.
    known_name _ c.well_declared.ensures c.args.name.now c.in-Some.known.now c.args.ty (sym c.as_bytes.ensures.value ∙ (bytes_eq-Decides c.as_bytes.result.now c.args.name.now).0 (sym c.eq.ensures ∙ same)) c.in-Some.ensures
