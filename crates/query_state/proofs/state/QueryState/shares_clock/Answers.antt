use Rattle.std.proofs.Common.{◌≡◌, ◌∙◌, Bool, List, ap, sym, subst}
use Rattle.std.specs.Prelude.{Vec}
use Rattle.std.specs.declared.alloc.Global.{Global}
use Rattle.stream_schema.specs.Types.{Declared, IsWellDeclared}
use Rattle.query_standing.specs.Dormancy.{ShareClock}
use Rattle.window_clock.specs.Places.{IsOf}
use Rattle.all_or_none.specs.Phases.{Phase}
use Rattle.query_state.specs.QueryStates.{AreTypesRead}
use Rattle.query_state.proofs.Sharing.{shares}
use Rattle.query_state.proofs.state.QueryState.shares_clock.Goals as goal

pub returns-then-same_types : goal.returns-then-same_types
returns-then-same_types c told =
    let well = subst IsWellDeclared c.deref.ensures c.well_declared.ensures in
    let schema : c.other.inside.schema.value ≡ c.self.inside.schema.value = ap (λ (p : Phase). p.schema) c.other.view_is ∙ (c.requires.schema ∙ sym (ap (λ (p : Phase). p.schema) c.self.view_is)) in
    let items : Vec Bool Global → List Bool = λ v. v.items in
    let same = sym (c.as_slice.ensures.value ∙ ap items c.deref-2.ensures) ∙ (c.same_types.ensures c.if-same_types.true ∙ (c.as_slice-2.ensures.value ∙ ap items c.deref-3.ensures)) in
    let shared = shares c.self.inside.schema.value c.self.inside.query c.other.inside.query c.self.inside.types.value.items c.other.inside.types.value.items c.self.inside.clock.source c.other.inside.clock.source well
    c.self.invariant.0.types (subst (λ (s : Declared). AreTypesRead s c.other.inside.query c.other.inside.types.value.items) schema c.other.invariant.0.types)
    c.self.invariant.0.clock (subst (λ (s : Declared). IsOf s c.other.inside.query.window c.other.inside.clock.source) schema c.other.invariant.0.clock) same (c.reads_as.ensures told) in
    subst (λ (p : Phase). ShareClock c.args.self.now.schema c.args.self.now.query p.query) c.other.view_is
    (subst (λ (p : Phase). ShareClock p.schema p.query c.other.inside.query) c.self.view_is shared)
