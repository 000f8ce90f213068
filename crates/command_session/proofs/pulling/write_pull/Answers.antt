-- The lines, and then whether answers are left.
use Rattle.query_engine.specs.Engine.{rest}
use Rattle.command_session.specs.Sessions.{left_of}
use Rattle.command_session.proofs.Pulled.{pulled}
use Rattle.command_session.proofs.pulling.write_pull.Goals as goal

pub returns-in-Ok-clause-took : goal.returns-in-Ok-clause-took
returns-in-Ok-clause-took g c =
    let e = c.args.engine.now in
    pulled c.args.cursor.now.query c.args.end c.args.n (g.K.Sink.taken c.args.out.now) (g.K.Sink.taken c.write_answers.new.out) (g.K.Sink.taken c.write_end.new.out)
    (left_of e c.args.cursor.now) (rest e c.write_answers.new.cursor) c.is_done.result c.write_end.result c.in-Ok.ensures.took c.in-Ok.ensures.left
    (c.is_done.ensures e c.write_answers.ensures.fits) c.write_end.ensures.end c.write_end.ensures.more
