use Rattle.std.proofs.Common.{◌∙◌}
use Rattle.stream_schema.proofs.Indexed.{place_is}
use Rattle.stream_schema.proofs.names.place_in.Goals as goal

pub returns-clause-place : goal.returns-clause-place
returns-clause-place c = c.get_index_of.ensures.index ∙ place_is c.args.set.now.keys c.args.name.now
