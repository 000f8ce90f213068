use Rattle.checkpoint_text.specs.Keeping.{checkpoint_text}
use Rattle.checkpoint_text.specs.declared.numbers.TheConstants.{MOST_POSITIONS}
use Rattle.command_checkpoint.proofs.KeptLines.{saved, stopped, room_for}
use Rattle.command_checkpoint.proofs.saving.save_events.Goals as goal

pub returns-in-Ok-write-clause-wrote : goal.returns-in-Ok-write-clause-wrote
returns-in-Ok-write-clause-wrote g c = (
  checkpoint_text c.keep_events.new.keep.positions c.keep_events.new.keep.lines,
  λ bytes same. saved c.args.schema.now c.args.queries.now c.args.most_bytes c.in-Ok.lines (g.Q.Source.left c.args.source.now) c.in-Ok-new.keep c.in-Ok-new.ensures c.in-Ok.ensures.budget c.in-Ok.ensures.given
      c.keepers_keep.ensures bytes c.keep_events.new.keep same (c.in-Ok-keep_events.ensures.all bytes),
  c.in-Ok-write.ensures.all,
)

pub returns-clause-wrote : goal.returns-clause-wrote
returns-clause-wrote g c = (
  checkpoint_text c.keep_events.new.keep.positions c.keep_events.new.keep.lines,
  λ bytes same. saved c.args.schema.now c.args.queries.now c.args.most_bytes c.in-Ok.lines (g.Q.Source.left c.args.source.now) c.in-Ok-new.keep c.in-Ok-new.ensures c.in-Ok.ensures.budget c.in-Ok.ensures.given
      c.keepers_keep.ensures bytes c.keep_events.new.keep same (c.in-Ok-keep_events.ensures.all bytes),
  rw c.in-Err-Fault.field-0-is at c.in-Err-Fault.ensures.part,
)

pub returns-in-Err-keep_events-clause-wrote : goal.returns-in-Err-keep_events-clause-wrote
returns-in-Err-keep_events-clause-wrote g c =
    rw c.stream_fault.ensures (
    stopped c.args.schema.now c.args.queries.now c.args.most_bytes c.in-Ok.lines (g.Q.Source.left c.args.source.now) c.in-Ok-new.keep c.in-Ok-new.ensures c.in-Ok.ensures.budget c.in-Ok.ensures.given
    (Unit {0}) (Unit {0}) (g.Q.Source.left c.keep_events.new.source) (g.K.Sink.taken c.args.out.now) c.in-Err-keep_events.stop c.in-Err-keep_events.ensures.stops)

pub keep_events-requires-clause-room : goal.keep_events-requires-clause-room
keep_events-requires-clause-room g c =
    room_for c.args.schema.now c.args.queries.now c.args.most_bytes c.in-Ok.lines (g.Q.Source.left c.args.source.now) c.in-Ok-new.keep c.in-Ok-new.ensures c.in-Ok.ensures.budget c.in-Ok.ensures.given
    MOST_POSITIONS c.requires.few
