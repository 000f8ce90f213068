use Rattle.std.proofs.Common.{◌∙◌}
use Rattle.match_explain.proofs.Ascending.{search_is}
use Rattle.match_explain.proofs.spans.lists.Goals as goal

pub returns : goal.returns
returns c = c.is_ok.ensures.value ∙ search_is c.args.positions.now c.args.position c.binary_search.result c.binary_search.ensures.position c.requires
