-- There was no memory to tell why the line is refused, and nothing has changed.
use Rattle.std.proofs.Common.{refl, Err}
use Rattle.cer_base.specs.declared.OrMemory.TheVariants.{Memory}
use Rattle.core_c.proofs.feeding.feed_of.Goals as goal

pub returns-in-Err-Fault : goal.returns-in-Err-Fault
returns-in-Err-Fault g c = record {
  outcome = Err Memory;
  fed = (rw c.in-Err-Fault.field-0-is at c.in-Err-Fault.ensures.fed).stays;
  ends = refl;
  tells = (c.in-Err.ensures.fault, c.in-Err.ensures.words);
}
