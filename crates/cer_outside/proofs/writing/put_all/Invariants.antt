-- What was done so far is taken, and no write has failed.
use Rattle.std.proofs.Common.{length, ◌-◌, ◌≡◌, [], ◌≤◌, take}
use Rattle.cer_outside.specs.Bytes.{TookAll}
use Rattle.cer_outside.proofs.writing.put_all.Given as goal

abbrev pub invariant-loop-done : goal.invariant-loop-done
invariant-loop-done g l = record {
  within : l.done ≤ length l.bytes;
  took : TookAll (g.K.Sink.taken l.fn.sink) (g.K.Sink.taken l.sink) (take l.done l.bytes);
  counted : g.K.Sink.faults l.sink ≡ g.K.Sink.faults l.fn.sink;
  unasked : l.bytes ≡ [] → l.sink ≡ l.fn.sink;
}

abbrev pub decreases-loop-done : goal.decreases-loop-done
decreases-loop-done g l = length l.bytes - l.done
