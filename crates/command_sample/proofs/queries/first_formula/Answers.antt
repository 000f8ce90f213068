-- The filters over the chain of its two parts.
use Rattle.std.proofs.Common.{subst, sym}
use Rattle.command_sample.specs.Queries.{AreAllOf, IsChainOf, first_filters, first_parts}
use Rattle.command_sample.proofs.queries.first_formula.Goals as goal

pub returns : goal.returns
returns c = (
  subst (IsChainOf first_parts) (sym c.in_ok-chain.ensures.ok) c.in_ok-first_chain.ensures,
  subst (AreAllOf first_filters) (sym c.in_ok-vec.ensures.items) c.in_ok-small.ensures,
)
