use Rattle.event_reader.proofs.LineBufferParts.{found_further, none_further}
use Rattle.event_reader.proofs.line_buffer.line_feed_from.Goals as goal

pub returns-in-Some : goal.returns-in-Some
returns-in-Some c = found_further c.args.bytes.now c.args.from c.in-Some.place c.requires.within c.requires.none c.in-Some.ensures

pub returns-in-None : goal.returns-in-None
returns-in-None c = none_further c.args.bytes.now c.args.from c.requires.within c.requires.none c.in-None.ensures
