use Rattle.std.proofs.Common.{sym, subst}
use Rattle.std.specs.List.{AllByRecursion}
use Rattle.stream_schema.specs.Events.{IsOfSchema}
use Rattle.checkpoint_text.specs.declared.history.EventAt.{EventAt}
use Rattle.checkpoint_text.proofs.ParseState.{spelled_is_of_schema}
use Rattle.checkpoint_text.proofs.reading.read_checkpoint.Goals as goal

pub returns-in-Ok-read_on-clause-of_schema : goal.returns-in-Ok-read_on-clause-of_schema
returns-in-Ok-read_on-clause-of_schema g c =
    subst (AllByRecursion (λ (e : EventAt). IsOfSchema c.args.schema.now e.event)) (sym c.of.ensures) (spelled_is_of_schema c.args.schema.now c.args.queries.now _ c.in-Ok-read_on.ensures.spelled)
