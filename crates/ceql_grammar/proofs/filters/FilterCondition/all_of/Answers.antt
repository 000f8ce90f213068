use Rattle.std.proofs.Common.{◌∙◌}
use Rattle.ceql_grammar.proofs.JoinedTerms.{all_filters_many}
use Rattle.ceql_grammar.proofs.filters.FilterCondition.all_of.Goals as goal

pub returns-then-len-ne1 : goal.returns-then-len-ne1
returns-then-len-ne1 c = record { value = all_filters_many c.args.members c.requires.some (λ e. c.if-len-ne1.true (c.len.ensures ∙ c.args.members.ok.0 ∙ e)) }
