-- The lines of as many answers as turns were made are taken, no write has failed, and these answers and what is left are all.
use Rattle.std.proofs.Common.{◌≡◌}
use Rattle.query_engine.specs.Engine.{Fits}
use Rattle.command_session.specs.Sessions.{left_of}
use Rattle.command_session.proofs.Pulled.{Gave}
use Rattle.command_session.proofs.pulling.write_answers.Given as goal

abbrev pub invariant-loop-k : goal.invariant-loop-k
invariant-loop-k g l = record {
  fits : Fits l.engine l.cursor;
  query : l.cursor.query ≡ l.fn.cursor.query;
  counted : g.K.Sink.faults l.out ≡ g.K.Sink.faults l.fn.out;
  gave : Gave l.fn.cursor.query l.end (g.K.Sink.taken l.fn.out) (g.K.Sink.taken l.out) (left_of l.engine l.fn.cursor) (left_of l.engine l.cursor) l._k l.fn.steps l.steps;
}
