use Rattle.std.proofs.Common.{◌∙◌}
use Rattle.query_state.proofs.lists.Lists.look_again.Goals as goal

pub returns : goal.returns
returns c = record {
  rows = c.look.ensures.rows ∙ c.forget.ensures.rows;
  is_dormant = λ t sets dormant_states. c.look.ensures.is_dormant t sets (dormant_states, c.forget.ensures.is_dormant t sets tt);
}
