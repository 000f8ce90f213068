use Rattle.std.proofs.Common.{◌≡◌, ◌≤◌, ◌+◌, ◌*◌, ◌∙◌, All, sym, ap, subst, length, map, arith, rules}
use Rattle.std.specs.Int.{w128}
use mir.Val.{SFits, to_z, of_z}
use Rattle.std.proofs.lemmas.Int.{to_z-of_z}
use Rattle.std.proofs.lemmas.List.{length-map}
use Rattle.cer_base.specs.Bits.{room_for}
use Rattle.cea_determinise.specs.LazyDfa.{Table}
use Rattle.tecs_enumerate.specs.Remaining.{CursorState, Fits}
use Rattle.query_standing.specs.Kept.{QueryState}
use Rattle.arena_compact.specs.Roots.{places}
use Rattle.query_state.specs.Matches.{OpenMatches, HasStatesOnce}
use Rattle.query_state.proofs.Prepare.{idle_active_keys, inner_with, inner_stands}
use Rattle.query_state.proofs.Giving.{low_is}
use Rattle.query_state.proofs.Compacting.{query_state_lists, Left, Removed, query_state_compacted, query_state_stands, query_state_fewer}
use Rattle.query_state.proofs.state.QueryState.compact.Goals as goal

pub compact-requires-clause-well_formed : goal.compact-requires-clause-well_formed
compact-requires-clause-well_formed g c =
    let i = idle_active_keys c.self.inside.schema.value c.self.inside.query c.self.inside.step c.self.inside.ready c.self.inside.sizes c.self.inside.matches c.self.inside.here c.self.inside.upto c.args.self.now c.self.view_is c.requires.idle in
    let e = c.requires.events in
    let s = inner_stands c.self.inside.schema.value c.self.inside.query c.self.inside.matches c.self.inside.here c.args.self.now i e.events e.stands in
    s.1.nodes

pub compact-requires-clause-lists : goal.compact-requires-clause-lists
compact-requires-clause-lists g c =
    let i = idle_active_keys c.self.inside.schema.value c.self.inside.query c.self.inside.step c.self.inside.ready c.self.inside.sizes c.self.inside.matches c.self.inside.here c.self.inside.upto c.args.self.now c.self.view_is c.requires.idle in
    let e = c.requires.events in
    let s = inner_stands c.self.inside.schema.value c.self.inside.query c.self.inside.matches c.self.inside.here c.args.self.now i e.events e.stands in
    query_state_lists c.self.inside.schema.value c.self.inside.query e.events c.self.inside.matches s.0 c.self.inside.here s.1

pub compact-requires-clause-cursors : goal.compact-requires-clause-cursors
compact-requires-clause-cursors g c =
    let i = idle_active_keys c.self.inside.schema.value c.self.inside.query c.self.inside.step c.self.inside.ready c.self.inside.sizes c.self.inside.matches c.self.inside.here c.self.inside.upto c.args.self.now c.self.view_is c.requires.idle in
    subst (λ (x : QueryState). All (λ (w : CursorState). w.query ≡ c.args.number → Fits w x.nodes) (map g.C.HasCursor.walk c.args.cursors.now)) (sym i.kept_is) c.requires.cursors

pub compact-requires-clause-room : goal.compact-requires-clause-room
compact-requires-clause-room g c =
    let i = idle_active_keys c.self.inside.schema.value c.self.inside.query c.self.inside.step c.self.inside.ready c.self.inside.sizes c.self.inside.matches c.self.inside.here c.self.inside.upto c.args.self.now c.self.view_is c.requires.idle in
    subst (λ (x : QueryState). length x.nodes ≤ c.args.room.now) (sym i.kept_is) c.requires.room

pub invariant_of-self : goal.invariant_of-self
invariant_of-self g c =
    let m = c.self.invariant.0 in let same = ap (λ (h : OpenMatches). h.table) c.shrink.ensures ∙ (c.remove-self-inside.ensures.same.0 ∙ c.compact.ensures.same.0) in (
      record {
        types = m.types;
        keys = m.keys;
        clock = m.clock;
        clocks = m.clocks;
        size = ap (λ (t : Table). t.cea.size) same ∙ m.size;
        empty = m.empty;
        room = m.room ∙ ap (λ (t : Table). room_for t.cea.size) (sym same);
      },
      tt,
      c.self.invariant.2,
      c.self.invariant.3,
      c.self.invariant.4,
    )

pub returns-clause-same : goal.returns-clause-same
returns-clause-same g c =
    let i = idle_active_keys c.self.inside.schema.value c.self.inside.query c.self.inside.step c.self.inside.ready c.self.inside.sizes c.self.inside.matches c.self.inside.here c.self.inside.upto c.args.self.now c.self.view_is c.requires.idle in
    (i.schema_is, i.query_is)

pub returns-clause-stands : goal.returns-clause-stands
returns-clause-stands g c =
    let i = idle_active_keys c.self.inside.schema.value c.self.inside.query c.self.inside.step c.self.inside.ready c.self.inside.sizes c.self.inside.matches c.self.inside.here c.self.inside.upto c.args.self.now c.self.view_is c.requires.idle in
    let small : SFits w128 c.low_after-low.result = search rules in
    let same : to_z w128 (of_z w128 c.low_after-low.result) ≡ c.low_after-low.result = to_z-of_z _ _ small in
    let low = low_is c.self.inside.schema.value c.self.inside.query c.self.inside.matches c.self.inside.here c.args.self.now c.self.inside.clock.source c.args.clock.now.last (to_z w128 (of_z w128 c.low_after-low.result)) i c.self.invariant.0.clock (same ∙ c.low_after-low.ensures.low) in
    let f = g.C.HasCursor.walk in let n = length-map c.args.cursors.now f in let m = length-map c.compact.new.cursors f in
    let left : Left c.args.number (to_z w128 (of_z w128 c.low_after-low.result)) c.self.inside.matches c.compact.new.self (map f c.args.cursors.now) (map f c.compact.new.cursors) = record {
      same = c.compact.ensures.same;
      nodes = c.compact.ensures.nodes;
      lists = c.compact.ensures.lists;
      cursors = record { count = m ∙ (c.compact.ensures.count ∙ sym n); each = λ k d lt. c.compact.ensures.cursors k d (omega arith) };
    } in
    let given : Removed c.compact.new.self c.self.inside.here c.shrink.new.self c.remove-self-inside.result = subst (λ (h : OpenMatches). Removed c.compact.new.self c.self.inside.here h c.remove-self-inside.result) (sym c.shrink.ensures) (record { same = c.remove-self-inside.ensures.same; given = c.remove-self-inside.ensures.given; have = c.remove-self-inside.ensures.have }) in
    λ events stands. query_state_stands c.self.inside.schema.value c.self.inside.query c.self.inside.matches c.compact.new.self c.self.inside.here c.args.self.now c.args.number (to_z w128 (of_z w128 c.low_after-low.result)) c.args.clock.now.last (map f c.args.cursors.now) (map f c.compact.new.cursors) i low left c.shrink.new.self c.remove-self-inside.result given events (inner_with c.self.inside.schema.value c.self.inside.query c.self.inside.matches c.self.inside.here c.args.self.now i c.args.clock.now.last events stands)

pub returns-clause-compacted : goal.returns-clause-compacted
returns-clause-compacted g c =
    let i = idle_active_keys c.self.inside.schema.value c.self.inside.query c.self.inside.step c.self.inside.ready c.self.inside.sizes c.self.inside.matches c.self.inside.here c.self.inside.upto c.args.self.now c.self.view_is c.requires.idle in
    let small : SFits w128 c.low_after-low.result = search rules in
    let same : to_z w128 (of_z w128 c.low_after-low.result) ≡ c.low_after-low.result = to_z-of_z _ _ small in
    let low = low_is c.self.inside.schema.value c.self.inside.query c.self.inside.matches c.self.inside.here c.args.self.now c.self.inside.clock.source c.args.clock.now.last (to_z w128 (of_z w128 c.low_after-low.result)) i c.self.invariant.0.clock (same ∙ c.low_after-low.ensures.low) in
    let f = g.C.HasCursor.walk in let n = length-map c.args.cursors.now f in let m = length-map c.compact.new.cursors f in
    let left : Left c.args.number (to_z w128 (of_z w128 c.low_after-low.result)) c.self.inside.matches c.compact.new.self (map f c.args.cursors.now) (map f c.compact.new.cursors) = record {
      same = c.compact.ensures.same;
      nodes = c.compact.ensures.nodes;
      lists = c.compact.ensures.lists;
      cursors = record { count = m ∙ (c.compact.ensures.count ∙ sym n); each = λ k d lt. c.compact.ensures.cursors k d (omega arith) };
    } in
    let given : Removed c.compact.new.self c.self.inside.here c.shrink.new.self c.remove-self-inside.result = subst (λ (h : OpenMatches). Removed c.compact.new.self c.self.inside.here h c.remove-self-inside.result) (sym c.shrink.ensures) (record { same = c.remove-self-inside.ensures.same; given = c.remove-self-inside.ensures.given; have = c.remove-self-inside.ensures.have }) in
    let e = c.requires.events in
    let s = inner_stands c.self.inside.schema.value c.self.inside.query c.self.inside.matches c.self.inside.here c.args.self.now i e.events e.stands in
    query_state_compacted c.self.inside.schema.value c.self.inside.query c.self.inside.matches c.compact.new.self c.self.inside.here c.args.self.now c.args.number (to_z w128 (of_z w128 c.low_after-low.result)) c.args.clock.now.last (map f c.args.cursors.now) (map f c.compact.new.cursors) i low left c.shrink.new.self c.remove-self-inside.result given s.0 e.events s.1

pub returns-clause-fewer : goal.returns-clause-fewer
returns-clause-fewer g c =
    let i = idle_active_keys c.self.inside.schema.value c.self.inside.query c.self.inside.step c.self.inside.ready c.self.inside.sizes c.self.inside.matches c.self.inside.here c.self.inside.upto c.args.self.now c.self.view_is c.requires.idle in
    let small : SFits w128 c.low_after-low.result = search rules in
    let same : to_z w128 (of_z w128 c.low_after-low.result) ≡ c.low_after-low.result = to_z-of_z _ _ small in
    let low = low_is c.self.inside.schema.value c.self.inside.query c.self.inside.matches c.self.inside.here c.args.self.now c.self.inside.clock.source c.args.clock.now.last (to_z w128 (of_z w128 c.low_after-low.result)) i c.self.invariant.0.clock (same ∙ c.low_after-low.ensures.low) in
    let f = g.C.HasCursor.walk in let n = length-map c.args.cursors.now f in let m = length-map c.compact.new.cursors f in
    let left : Left c.args.number (to_z w128 (of_z w128 c.low_after-low.result)) c.self.inside.matches c.compact.new.self (map f c.args.cursors.now) (map f c.compact.new.cursors) = record {
      same = c.compact.ensures.same;
      nodes = c.compact.ensures.nodes;
      lists = c.compact.ensures.lists;
      cursors = record { count = m ∙ (c.compact.ensures.count ∙ sym n); each = λ k d lt. c.compact.ensures.cursors k d (omega arith) };
    } in
    let given : Removed c.compact.new.self c.self.inside.here c.shrink.new.self c.remove-self-inside.result = subst (λ (h : OpenMatches). Removed c.compact.new.self c.self.inside.here h c.remove-self-inside.result) (sym c.shrink.ensures) (record { same = c.remove-self-inside.ensures.same; given = c.remove-self-inside.ensures.given; have = c.remove-self-inside.ensures.have }) in
    query_state_fewer c.self.inside.schema.value c.self.inside.query c.self.inside.matches c.compact.new.self c.self.inside.here c.args.self.now c.args.number (to_z w128 (of_z w128 c.low_after-low.result)) c.args.clock.now.last (map f c.args.cursors.now) (map f c.compact.new.cursors) i low left c.shrink.new.self c.remove-self-inside.result given

pub returns-clause-steps : goal.returns-clause-steps
returns-clause-steps g c =
    let i = idle_active_keys c.self.inside.schema.value c.self.inside.query c.self.inside.step c.self.inside.ready c.self.inside.sizes c.self.inside.matches c.self.inside.here c.self.inside.upto c.args.self.now c.self.view_is c.requires.idle in
    let paid = c.compact.ensures.steps in
    subst (λ (x : QueryState). c.compact.new.steps ≤ c.args.steps.now + 8 * length x.nodes + 4 * places x.rows) i.kept_is paid

pub returns-clause-once : goal.returns-clause-once
returns-clause-once g c =
    let i = idle_active_keys c.self.inside.schema.value c.self.inside.query c.self.inside.step c.self.inside.ready c.self.inside.sizes c.self.inside.matches c.self.inside.here c.self.inside.upto c.args.self.now c.self.view_is c.requires.idle in
    subst (λ (x : QueryState). All HasStatesOnce x.rows) i.kept_is c.compact.ensures.once
