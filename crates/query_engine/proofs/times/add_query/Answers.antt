use Rattle.std.proofs.Common.{◌≡◌, ◌∙◌, ◌+◌, ◌-◌, ◌≤◌, List, [], ◌∷◌, Some, map, length, refl, sym, ap, subst, slice_get, All, arith}
use Rattle.std.proofs.lemmas.List.Elements.{All-append, All-cons, All-nil}
use Rattle.cel_terms.specs.Checked.{IsChecked}
use Rattle.all_or_none.specs.Phases.{Phase}
use Rattle.query_engine.specs.declared.times.Group.{Group}
use Rattle.query_engine.specs.Times.{IsBlankGroup, AreHeadsIn, SharesWith}
use Rattle.query_engine.proofs.Standing.{map_at}
use Rattle.query_engine.proofs.GroupMembers.{one_member, one_group}
use Rattle.query_engine.proofs.GroupLoops.{at_here, schema_here, heads_in, shares_query}
use Rattle.query_engine.proofs.times.add_query.Goals as goal

pub find_group-requires-clause-schemas : goal.find_group-requires-clause-schemas
find_group-requires-clause-schemas c k d less = c.requires.schemas k d less ∙ sym (schema_here c.args.schema.now c.args.query_states.now c.args.k c.index-query_states-k.result c.requires.schemas c.requires.there c.index-query_states-k.is)

pub find_group-requires-clause-heads : goal.find_group-requires-clause-heads
find_group-requires-clause-heads c =
    let less = c.requires.there in
    subst (AreHeadsIn (length c.args.query_states.now)) (sym c.as_slice.ensures.value) (heads_in c.args.schema.now c.args.query_states.now c.args.k c.args.groups.now.items c.args.numbers.now.items (omega arith) c.requires.groups)

pub of-requires : goal.of-requires
of-requires c = record { checked = subst (λ (p : Phase). IsChecked c.args.schema.now p.query) (sym c.index-query_states-k-in-None.is) (c.requires.checked c.args.k c.index-query_states-k-in-None.result c.requires.there) }

pub returns-in_ok-push-in-Some-clause-groups : goal.returns-in_ok-push-in-Some-clause-groups
returns-in_ok-push-in-Some-clause-groups c =
    let schema_is = schema_here c.args.schema.now c.args.query_states.now c.args.k c.index-query_states-k.result c.requires.schemas c.requires.there c.index-query_states-k.is in
    let at = map_at (λ (p : Phase). p.query) c.args.query_states.now c.args.k c.index-query_states-k.result (at_here c.args.query_states.now c.args.k c.index-query_states-k.result c.requires.there c.index-query_states-k.is) in
    let inside = c.in-Some.ensures.inside in
    let high : c.in-Some.number ≤ length c.args.groups.now.items = (let h = inside.1 in let same = ap (λ (gs : List Group). length gs) c.as_slice.ensures.value in omega arith) in
    one_member c.args.schema.now (map (λ (p : Phase). p.query) c.args.query_states.now) c.args.k c.args.groups.now.items c.args.numbers.now.items c.requires.groups c.index-query_states-k.result.query at c.in-Some.number inside.0 high
    (shares_query c.args.schema.now c.index-query_states-k.result c.args.groups.now.items c.args.query_states.now c.in-Some.number c.index-query_states-k.result.query schema_is refl (subst (λ (gs : List Group). SharesWith c.index-query_states-k.result gs c.args.query_states.now c.in-Some.number) c.as_slice.ensures.value c.in-Some.ensures.shares))
    c.push.new.self.items c.in_ok-push-in-Some.ensures.items

pub returns-in_ok-push-in-None-2-clause-groups : goal.returns-in_ok-push-in-None-2-clause-groups
returns-in_ok-push-in-None-2-clause-groups c =
    let at = map_at (λ (p : Phase). p.query) c.args.query_states.now c.args.k c.index-query_states-k-in-None.result (at_here c.args.query_states.now c.args.k c.index-query_states-k-in-None.result c.requires.there c.index-query_states-k-in-None.is) in
    let place : c.args.k ≡ c.args.k + 1 - 1 = omega arith in
    let own = c.in_ok-group-in-None.ensures.group (map (λ (p : Phase). p.query) c.args.query_states.now) (omega arith) (subst (λ i. slice_get (map (λ (p : Phase). p.query) c.args.query_states.now) i ≡ Some c.index-query_states-k-in-None.result.query) place at) in
    let number : c.len.result ≡ length c.args.groups.now.items + 1 = (
    let a = c.len.ensures in
    let b = c.in_ok-push-in-None.ensures.len in
    let l = c.as_slice.ensures.len in
    let same = ap (λ (gs : List Group). length gs) c.as_slice.ensures.value in
    omega arith
    ) in
    one_group c.args.schema.now (map (λ (p : Phase). p.query) c.args.query_states.now) c.args.k c.args.groups.now.items c.args.numbers.now.items c.requires.groups c.index-query_states-k-in-None.result.query at c.in_ok-group-in-None.group c.in_ok-group-in-None.ensures.query own
    c.push-in-None.new.self.items c.in_ok-push-in-None.ensures.items c.len.result number c.push-in-None-2.new.self.items c.in_ok-push-in-None-2.ensures.items

pub returns-in_ok-push-in-None-2-clause-blank : goal.returns-in_ok-push-in-None-2-clause-blank
returns-in_ok-push-in-None-2-clause-blank c =
    subst (All IsBlankGroup) (sym c.in_ok-push-in-None.ensures.items) (All-append IsBlankGroup c.args.groups.now.items (c.in_ok-group-in-None.group ∷ []) c.requires.blank (All-cons IsBlankGroup c.in_ok-group-in-None.group [] c.in_ok-group-in-None.ensures.blank (All-nil IsBlankGroup)))
