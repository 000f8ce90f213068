-- There was no memory to tell why the next line is refused: the lines before it are taken all the same.
use Rattle.std.proofs.Common.{refl}
use Rattle.core_service.specs.declared.SomeStop.TheVariants as stop
use Rattle.core_c.proofs.Outcomes.{untold}
use Rattle.core_c.proofs.feeding.feed_some_of.Goals as goal

pub returns-in-Refused : goal.returns-in-Refused
returns-in-Refused g c = record {
  outcome = record { used = c.feed_some-fed.result.used; stop = stop.Memory };
  fed = untold c.args.bytes.now c.args.service.now c.feed_some-fed.new.self c.feed_some-fed.result.used c.feed_some-fed.result.stop c.in-Refused.refused c.in-Refused.is c.feed_some-fed.ensures;
  bytes_used = refl;
  ends = refl;
  tells = (c.in-Err.ensures.fault, c.in-Err.ensures.words);
}
