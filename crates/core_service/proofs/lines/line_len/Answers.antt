use Rattle.core_service.proofs.Feeds.{before_feed, none_feed}
use Rattle.core_service.proofs.lines.line_len.Goals as goal

pub returns-clause-line : goal.returns-clause-line
returns-clause-line c = before_feed c.args.bytes.now c.memchr.result c.memchr.ensures

pub returns-clause-none : goal.returns-clause-none
returns-clause-none c = none_feed c.args.bytes.now c.memchr.result c.memchr.ensures
