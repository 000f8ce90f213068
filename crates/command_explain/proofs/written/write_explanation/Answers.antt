use Rattle.command_explain.proofs.Stopped.{wrote_none}
use Rattle.command_explain.proofs.written.write_explanation.Goals as goal

pub returns-in-Err-clause-wrote : goal.returns-in-Err-clause-wrote
returns-in-Err-clause-wrote g c =
    rw c.stream_fault.ensures (
    wrote_none (Unit {0}) (Unit {0}) (record { schema = c.args.schema.now; queries = c.args.queries.now; question = c.args.question.now }) (g.Q.Source.left c.args.source.now) (g.Q.Source.left c.read_events.new.source) (g.K.Sink.taken c.args.out.now) c.in-Err.stop c.in-Err.ensures.stops)
