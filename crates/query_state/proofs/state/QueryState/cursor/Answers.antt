use Rattle.std.proofs.Common.{◌≡◌, ◌∙◌, sym, ap, subst, rules}
use Rattle.std.specs.Prelude.{IfOk}
use Rattle.std.specs.Int.{w128}
use mir.Val.{SFits, to_z, of_z}
use Rattle.std.proofs.lemmas.Int.{to_z-of_z}
use Rattle.tecs_enumerate.specs.Remaining.{rest, recent_of}
use Rattle.query_standing.specs.Kept.{low_at, roots_at}
use Rattle.all_or_none.specs.Phases.{Phase}
use Rattle.query_state.proofs.Prepare.{idle_active_keys, inner_stands}
use Rattle.query_state.proofs.Giving.{can_list, low_is, gives}
use Rattle.query_state.proofs.Fresh.{fresh_seen}
use Rattle.query_state.proofs.AfterNoOps.{fresh_events}
use Rattle.query_state.proofs.state.QueryState.cursor.Goals as goal

pub cursor-requires-2-clause-stands : goal.cursor-requires-2-clause-stands
cursor-requires-2-clause-stands g c =
    let same : c.self.inside.upto ≡ c.args.count = search rules in
    let fresh : c.args.self.now.upto ≡ c.args.count = ap (λ (p : Phase). p.upto) (sym c.self.view_is) ∙ same in
    let i = idle_active_keys c.self.inside.schema.value c.self.inside.query c.self.inside.step c.self.inside.ready c.self.inside.sizes c.self.inside.matches c.self.inside.here c.self.inside.upto c.args.self.now c.self.view_is c.requires.idle in
    let e = fresh_events c.args.count c.args.self.now fresh c.requires.events in
    let s = inner_stands c.self.inside.schema.value c.self.inside.query c.self.inside.matches c.self.inside.here c.args.self.now i e.events e.stands in
    can_list c.self.inside.schema.value c.self.inside.query e.events c.self.inside.matches s.0 c.self.inside.here s.1

pub returns-clause-rest : goal.returns-clause-rest
returns-clause-rest g c =
    let same : c.self.inside.upto ≡ c.args.count = search rules in
    let fresh : c.args.self.now.upto ≡ c.args.count = ap (λ (p : Phase). p.upto) (sym c.self.view_is) ∙ same in
    let i = idle_active_keys c.self.inside.schema.value c.self.inside.query c.self.inside.step c.self.inside.ready c.self.inside.sizes c.self.inside.matches c.self.inside.here c.self.inside.upto c.args.self.now c.self.view_is c.requires.idle in
    let e = fresh_events c.args.count c.args.self.now fresh c.requires.events in
    let s = inner_stands c.self.inside.schema.value c.self.inside.query c.self.inside.matches c.self.inside.here c.args.self.now i e.events e.stands in
    let small : SFits w128 c.low_after-low.result = search rules in
    let number : to_z w128 (of_z w128 c.low_after-low.result) ≡ c.low_after-low.result = to_z-of_z _ _ small in
    let low = low_is c.self.inside.schema.value c.self.inside.query c.self.inside.matches c.self.inside.here c.args.self.now c.self.inside.clock.source c.args.clock.now.last (to_z w128 (of_z w128 c.low_after-low.result)) i c.self.invariant.0.clock (number ∙ c.low_after-low.ensures.low) in
    subst (λ (p : Phase). IfOk c.cursor-2.result (λ w. rest w c.args.self.now.kept.nodes ≡ recent_of (low_at p.query c.args.clock.now.last) c.args.self.now.kept.nodes (roots_at p.query p.kept))) (sym (fresh_seen c.args.count c.args.self.now fresh))
    (gives c.self.inside.schema.value c.self.inside.query e.events c.self.inside.matches s.0 c.self.inside.here c.args.self.now (to_z w128 (of_z w128 c.low_after-low.result)) (low_at c.args.self.now.query c.args.clock.now.last) c.cursor-2.result i s.1 low c.cursor-2.ensures.rest)
