use Rattle.std.proofs.Common.{ap, None}
use Rattle.query_state.specs.Matches.{OpenMatches}
use Rattle.query_state.proofs.AtFirst.{none_stands}
use Rattle.query_state.proofs.state.joined.Goals as goal

pub returns-clause-none : goal.returns-clause-none
returns-clause-none c = ap (λ (h : OpenMatches). h.nodes) c.requires.matcher.matches.none

pub returns-clause-stands : goal.returns-clause-stands
returns-clause-stands c = (None, none_stands c.args.schema.value c.args.query c.args.matcher.matches c.requires.matcher.matches)
