use Rattle.std.proofs.Common.{ℕ, List, ◌≡◌, Some, subst}
use Rattle.event_run.specs.declared.RunFault.{RunFault}
use Rattle.event_run.specs.Runs.{RunsTo}
use Rattle.event_run.specs.Runs as stop
use Rattle.event_run.specs.Taking.{HasTaken}
use Rattle.event_run.specs.Listing.{StopsBy}
use Rattle.event_run.proofs.Listed.{begun, on_fault}
use Rattle.event_run.proofs.listing.read_events.Goals as goal

pub returns-in-Ok-read_on-clause-all : goal.returns-in-Ok-read_on-clause-all
returns-in-Ok-read_on-clause-all g c = λ bytes same.
    subst (λ (n : ℕ). RunsTo c.args.schema.now c.args.queries.now n bytes c.read_on.new.events.items stop.End) c.in-Ok.ensures.budget
    (c.in-Ok-read_on.ensures.all bytes (begun c.args.schema.now c.args.queries.now c.in-Ok.lines bytes (g.Q.Source.left c.args.source.now) c.new-events.result.items same c.new-events.ensures.items (c.in-Ok.ensures.given bytes)))

pub returns-clause-stops : goal.returns-clause-stops
returns-clause-stops g c =
    on_fault (Unit {0}) (Unit {0}) c.in-Err-read_on.stop
    (λ fault. (bytes : List ℕ) → HasTaken c.args.schema.now c.args.queries.now c.in-Ok.lines bytes (g.Q.Source.left c.args.source.now) c.new-events.result.items → StopsBy c.args.schema.now c.args.queries.now c.in-Ok.lines.budget bytes (g.Q.Source.left c.read_on.new.source) fault)
    (λ fault. (bytes : List ℕ) → g.Q.Source.left c.args.source.now ≡ Some bytes → StopsBy c.args.schema.now c.args.queries.now c.args.most_bytes bytes (g.Q.Source.left c.read_on.new.source) fault)
    (λ fault stops bytes same.
    subst (λ (n : ℕ). StopsBy c.args.schema.now c.args.queries.now n bytes (g.Q.Source.left c.read_on.new.source) fault) c.in-Ok.ensures.budget
    (stops bytes (begun c.args.schema.now c.args.queries.now c.in-Ok.lines bytes (g.Q.Source.left c.args.source.now) c.new-events.result.items same c.new-events.ensures.items (c.in-Ok.ensures.given bytes))))
    c.in-Err-read_on.ensures.stops
