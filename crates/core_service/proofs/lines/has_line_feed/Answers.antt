use Rattle.std.proofs.Common.{◌∙◌}
use Rattle.core_service.proofs.Feeds.{has_feed}
use Rattle.core_service.proofs.lines.has_line_feed.Goals as goal

pub returns : goal.returns
returns c = c.is_some.ensures ∙ has_feed c.args.bytes.now c.memchr.result c.memchr.ensures
