use Rattle.std.proofs.Common.{sym}
use Rattle.event_reader.proofs.LineBufferParts.{feed_there}
use Rattle.event_reader.proofs.line_buffer.LineBuffer.has_line.Goals as goal

pub returns-in-Some-clause-feed : goal.returns-in-Some-clause-feed
returns-in-Some-clause-feed c = sym (feed_there _ _ c.in-Some.ensures.found)
