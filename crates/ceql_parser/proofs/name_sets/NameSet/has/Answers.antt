use Rattle.std.proofs.Common.{ap, ◌∙◌}
use Rattle.cel_terms.specs.Meaning.{lists_name}
use Rattle.ceql_parser.proofs.NameSetLemmas.{has_is}
use Rattle.ceql_parser.proofs.name_sets.NameSet.has.Goals as goal

pub returns : goal.returns
returns c = c.contains.ensures ∙ has_is c.self.inside.names.keys c.args.name.now ∙ ap (λ ns. lists_name ns c.args.name.now) c.self.view_is
