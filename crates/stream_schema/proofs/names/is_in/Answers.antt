use Rattle.std.proofs.Common.{◌∙◌}
use Rattle.stream_schema.proofs.Indexed.{has_is}
use Rattle.stream_schema.proofs.names.is_in.Goals as goal

pub returns : goal.returns
returns c = c.contains.ensures ∙ has_is c.args.set.now.keys c.args.name.now
