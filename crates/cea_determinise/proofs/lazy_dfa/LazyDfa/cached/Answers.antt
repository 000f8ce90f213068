use Rattle.std.proofs.Common.{ap, ◌∙◌, subst}
use Rattle.std.specs.Map.{lookup}
use Rattle.cea_determinise.specs.Keys.{is_same_key}
use Rattle.cea_determinise.specs.LazyDfa.{Table, IsSound}
use Rattle.cea_determinise.proofs.Growth.{if_found_right}
use Rattle.cea_determinise.proofs.lazy_dfa.LazyDfa.cached.Goals as goal

pub returns-in-None-clause-value : goal.returns-in-None-clause-value
returns-in-None-clause-value c = c.copied.ensures ∙ c.get.ensures.value ∙ ap (λ (t : Table). lookup (is_same_key c.args.key) t.transitions) c.self.view_is

pub returns-in-None-clause-right : goal.returns-in-None-clause-right
returns-in-None-clause-right c =
    let sound = subst IsSound c.self.view_is c.self.invariant.0 in
    let value = c.copied.ensures ∙ c.get.ensures.value ∙ ap (λ (t : Table). lookup (is_same_key c.args.key) t.transitions) c.self.view_is in
    let t = c.args.self.now in
    if_found_right t.cea t.states t.event_classes c.args.key t.transitions c.copied.result value sound.transitions
