use Rattle.std.proofs.Common.{refl}
use Rattle.command_base.proofs.Ends.{queries_ended}
use Rattle.command_base.proofs.TextEnds.{reporting_ended}
use Rattle.command_explain.specs.Explained.{explain_task, report_of}
use Rattle.command_explain.proofs.command.explain.Goals as goal

pub returns-in-Err-clause-ended : goal.returns-in-Err-clause-ended
returns-in-Err-clause-ended g c =
    queries_ended _ _ _ (explain_task c.args.words.now) _ _ refl refl _ _ _ refl (rw c.as_str.ensures at c.read_accepted.ensures.asked.opened) (rw c.as_str.ensures at c.in-Err.ensures.stop)

pub returns-clause-ended : goal.returns-clause-ended
returns-clause-ended g c =
    reporting_ended _ _ _ (report_of c.args.words.now) (λ schema queries lines bytes it. (it.0, it.1)) _ _ _ c.in-Ok.accepted.schema c.in-Ok.accepted.queries _ _ _ _ c.read_accepted.ensures.asked.kept c.in-Ok.ensures.counts (rw c.as_str.ensures at c.in-Ok.ensures.accepted)
    (rw c.as_str.ensures at c.read_accepted.ensures.asked.opened) (rw c.as_str-events.ensures at c.explain_file.ensures.asked.opened) (rw c.as_str-events.ensures at c.explain_file.ensures.stop)
