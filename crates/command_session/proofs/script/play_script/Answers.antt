use Rattle.command_session.proofs.ScriptEnds.{wrote_none}
use Rattle.command_session.proofs.Turning.{counted_none}
use Rattle.command_session.proofs.script.play_script.Goals as goal

pub returns-in-Err-clause-wrote : goal.returns-in-Err-clause-wrote
returns-in-Err-clause-wrote g c = wrote_none _ _ _

pub returns-in-Err-new-clause-wrote : goal.returns-in-Err-new-clause-wrote
returns-in-Err-new-clause-wrote g c = wrote_none _ _ _

pub returns-in-Err-clause-steps : goal.returns-in-Err-clause-steps
returns-in-Err-clause-steps g c = counted_none _ (g.Q.Source.left c.args.source.now) (g.K.Sink.taken c.args.out.now) c.args.steps.now

pub returns-in-Err-new-clause-steps : goal.returns-in-Err-new-clause-steps
returns-in-Err-new-clause-steps g c = counted_none _ (g.Q.Source.left c.args.source.now) (g.K.Sink.taken c.args.out.now) c.args.steps.now
