use Rattle.std.proofs.Common.{List, subst}
use Rattle.stream_schema.specs.declared.Event.{Event}
use Rattle.query_engine.specs.Clocks.{NoneFallsBack}
use Rattle.event_run.proofs.listing.add_event.Goals as goal

pub returns-in_ok-push-in-None-clause-added : goal.returns-in_ok-push-in-None-clause-added
returns-in_ok-push-in-None-clause-added c = (
  subst (λ (xs : List Event). NoneFallsBack c.args.schema.now c.args.queries.now xs c.args.event) c.as_slice.ensures.value c.in-None.ensures.none,
  c.in_ok-push-in-None.ensures.items,
)
