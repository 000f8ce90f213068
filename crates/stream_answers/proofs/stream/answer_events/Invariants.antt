use Rattle.std.proofs.Common.{◌≡◌, ◌+◌, ◌^◌, ◌<◌, ℕ, List, Option, [], length}
use Rattle.stream_schema.specs.declared.Event.{Event}
use Rattle.answer_text.specs.declared.Order.TheVariants.{Walk}
use Rattle.query_engine.specs.Engine.{count_of, SameQueries}
use Rattle.stream_answers.specs.Counting.{HasBegun, Following}
use Rattle.stream_answers.specs.Events.{Lasts, LastsRead}
use Rattle.stream_answers.specs.Schedules.{saved}
use Rattle.stream_answers.specs.Steps.{AreBoundedBy}
use Rattle.stream_answers.proofs.stream.answer_events.Given as goal

-- the answers over the events so far are written or held
abbrev pub invariant-loop-output : goal.invariant-loop-output
invariant-loop-output g l = record {
  lasts : (earlier : List Event) → Lasts (g.E.Events.takes l.fn.events l.fn.engine.schema l.fn.engine.queries earlier) (g.E.Events.takes l.events l.fn.engine.schema l.fn.engine.queries earlier);
  reads_on : (earlier : List Event) (left : Option (List ℕ)) → LastsRead (g.E.Events.reads l.fn.events l.fn.engine.schema l.fn.engine.queries earlier left) (g.E.Events.reads l.events l.fn.engine.schema l.fn.engine.queries earlier left);
  following : (peaks : ℕ → ℕ) (earlier : List Event) (begun most_bytes : ℕ) → HasBegun l.fn.schedule peaks earlier l.fn.engine
      → AreBoundedBy l.fn.schedule.timing l.fn.engine.schema l.fn.engine.queries earlier [] begun (l.fn.steps + saved l.fn.schedule l.fn.engine)
      → Following (g.E.Events.takes l.fn.events l.fn.engine.schema l.fn.engine.queries earlier) (g.E.Events.gives l.events l.fn.engine.schema l.fn.engine.queries earlier (g.Q.Source.left l.source))
      l.fn.schedule.timing l.schedule earlier (record { order = l.fn.output.order; schema = l.fn.engine.schema; queries = l.fn.engine.queries; most_bytes = most_bytes })
      (g.Q.Source.left l.fn.source) (g.K.Sink.taken l.fn.out) (g.K.Sink.taken l.out) l.output.buffer l.engine begun l.steps peaks;
  timing : l.schedule.timing ≡ l.fn.schedule.timing;
  noted : length l.schedule.bases ≡ length l.fn.engine.queries;
  none_waits : l.fn.output.order ≡ Walk → l.output.buffer ≡ [];
  goes_on : g.E.Events.goes_on l.events l.engine.schema;
  counted : count_of l.engine + g.E.Events.room l.events < 2 ^ 64;
  same : SameQueries l.fn.engine l.engine;
  order : l.output.order ≡ l.fn.output.order;
  read_faults : g.Q.Source.faults l.source ≡ g.Q.Source.faults l.fn.source;
  write_faults : g.K.Sink.faults l.out ≡ g.K.Sink.faults l.fn.out;
}

abbrev pub decreases-loop-output : goal.decreases-loop-output
decreases-loop-output g l = g.E.Events.turns l.events
