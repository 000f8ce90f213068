-- There was no memory for the service, or to tell what is wrong with the text: the handle is as it was.
use Rattle.std.proofs.Common.{refl, Err}
use Rattle.cer_base.specs.declared.OrMemory.TheVariants.{Memory}
use Rattle.core_c.proofs.engine.open_of.Goals as goal

pub returns-in-Err : goal.returns-in-Err
returns-in-Err c = record { outcome = Err Memory; opens = refl; ends = refl; tells = (refl, refl) }

pub returns-in-Err-tell_query : goal.returns-in-Err-tell_query
returns-in-Err-tell_query c = record {
  outcome = Err Memory;
  opens = refl;
  ends = refl;
  tells = (c.in-Err-tell_query.ensures.fault, c.in-Err-tell_query.ensures.words);
}
