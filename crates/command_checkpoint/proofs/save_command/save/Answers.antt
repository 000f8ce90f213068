use Rattle.std.proofs.Common.{refl}
use Rattle.command_base.proofs.Ends.{queries_ended}
use Rattle.command_base.proofs.TextEnds.{reporting_ended}
use Rattle.checkpoint_text.specs.Streams.{stream_of}
use Rattle.command_checkpoint.specs.Saving.{report_of, save_task}
use Rattle.command_checkpoint.proofs.save_command.save.Goals as goal

pub returns-in-Err-clause-ended : goal.returns-in-Err-clause-ended
returns-in-Err-clause-ended g c =
    queries_ended _ _ _ (save_task c.args.words.now) _ _ refl refl _ _ _ refl (rw c.as_str.ensures at c.read_accepted.ensures.asked.opened) (rw c.as_str.ensures at c.in-Err.ensures.stop)

pub returns-clause-ended : goal.returns-clause-ended
returns-clause-ended g c =
    reporting_ended _ _ _ (report_of c.args.words.now) (λ schema queries lines bytes it. (stream_of it.came, it.runs)) _ _ _ c.in-Ok.accepted.schema c.in-Ok.accepted.queries _ _ _ _ c.read_accepted.ensures.asked.kept c.in-Ok.ensures.counts (rw c.as_str.ensures at c.in-Ok.ensures.accepted)
    (rw c.as_str.ensures at c.read_accepted.ensures.asked.opened) (rw c.as_str-events.ensures at c.save_file.ensures.asked.opened) (rw c.as_str-events.ensures at c.save_file.ensures.stop)
