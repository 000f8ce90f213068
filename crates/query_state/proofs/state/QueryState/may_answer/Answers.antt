use Rattle.std.proofs.Common.{◌≡◌, ◌∙◌, [], sym, ap, subst, rules}
use Rattle.query_standing.specs.Kept.{roots_at}
use Rattle.all_or_none.specs.Phases.{Phase}
use Rattle.query_state.proofs.Prepare.{idle_active_keys, inner_stands}
use Rattle.query_state.proofs.Giving.{can_list, no_roots}
use Rattle.query_state.proofs.Fresh.{fresh_seen}
use Rattle.query_state.proofs.AfterNoOps.{fresh_events}
use Rattle.query_state.proofs.state.QueryState.may_answer.Goals as goal

pub may_list-requires : goal.may_list-requires
may_list-requires c =
    let same : c.self.inside.upto ≡ c.args.count = search rules in
    let fresh : c.args.self.now.upto ≡ c.args.count = ap (λ (p : Phase). p.upto) (sym c.self.view_is) ∙ same in
    let i = idle_active_keys c.self.inside.schema.value c.self.inside.query c.self.inside.step c.self.inside.ready c.self.inside.sizes c.self.inside.matches c.self.inside.here c.self.inside.upto c.args.self.now c.self.view_is c.requires.idle in
    let e = fresh_events c.args.count c.args.self.now fresh c.requires.events in
    let s = inner_stands c.self.inside.schema.value c.self.inside.query c.self.inside.matches c.self.inside.here c.args.self.now i e.events e.stands in
    record { stands = can_list c.self.inside.schema.value c.self.inside.query e.events c.self.inside.matches s.0 c.self.inside.here s.1 }

pub returns : goal.returns
returns c =
    let same : c.self.inside.upto ≡ c.args.count = search rules in
    let fresh : c.args.self.now.upto ≡ c.args.count = ap (λ (p : Phase). p.upto) (sym c.self.view_is) ∙ same in
    let i = idle_active_keys c.self.inside.schema.value c.self.inside.query c.self.inside.step c.self.inside.ready c.self.inside.sizes c.self.inside.matches c.self.inside.here c.self.inside.upto c.args.self.now c.self.view_is c.requires.idle in
    let e = fresh_events c.args.count c.args.self.now fresh c.requires.events in
    let s = inner_stands c.self.inside.schema.value c.self.inside.query c.self.inside.matches c.self.inside.here c.args.self.now i e.events e.stands in
    record { none = λ none. subst (λ (p : Phase). roots_at p.query p.kept ≡ []) (sym (fresh_seen c.args.count c.args.self.now fresh)) (no_roots c.self.inside.schema.value c.self.inside.query e.events c.self.inside.matches s.0 c.self.inside.here c.args.self.now i s.1 (c.may_list.ensures.none none)) }
