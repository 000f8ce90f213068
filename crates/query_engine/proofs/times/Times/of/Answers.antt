use Rattle.std.proofs.Common.{◌≡◌, List, map, length, sym, subst, All, arith}
use Rattle.std.proofs.lemmas.List.Elements.{All-nil}
use Rattle.all_or_none.specs.Phases.{Phase}
use Rattle.query_engine.specs.declared.times.Group.{Group}
use Rattle.query_engine.specs.Times.{IsBlankGroup, AreHeadsIn, AreGroups, AreByType}
use Rattle.query_engine.proofs.Standing.{length_map}
use Rattle.query_engine.proofs.GroupMembers.{no_groups}
use Rattle.query_engine.proofs.GroupClocks.{first_clocks}
use Rattle.query_engine.proofs.GroupLoops.{heads_in}
use Rattle.query_engine.proofs.times.Times.of.Goals as goal

pub loop-k-init : goal.loop-k-init
loop-k-init c = record {
  groups = no_groups c.args.schema.now (map (λ (p : Phase). p.query) c.args.query_states.now) c.new-groups.result.items c.new-numbers.result.items c.new-groups.ensures.items c.new-numbers.ensures.items;
  blank = subst (All IsBlankGroup) (sym c.new-groups.ensures.items) (All-nil IsBlankGroup);
}

pub groups_by_type-requires-clause-heads : goal.groups_by_type-requires-clause-heads
groups_by_type-requires-clause-heads c =
    let le = c.loop-k.auto.k-end in
    subst (AreHeadsIn (length c.args.query_states.now)) (sym c.as_slice.ensures.value) (heads_in c.args.schema.now c.args.query_states.now c.loop-k.k c.loop-k.groups.items c.loop-k.numbers.items le c.loop-k.invariant.groups)

pub returns-clause-times : goal.returns-clause-times
returns-clause-times c =
    let le = c.loop-k.auto.k-end in
    let ge = c.loop-k-test.false in
    let many = length_map (λ (p : Phase). p.query) c.args.query_states.now in
    let all : c.loop-k.k ≡ length (map (λ (p : Phase). p.query) c.args.query_states.now) = omega arith in
    record {
      groups_are = subst (λ n. AreGroups c.args.schema.now (map (λ (p : Phase). p.query) c.args.query_states.now) n c.loop-k.groups.items c.loop-k.numbers.items) all c.loop-k.invariant.groups;
      by_type = subst (λ (gs : List Group). AreByType c.args.schema.now (map (λ (p : Phase). p.query) c.args.query_states.now) gs (length c.args.schema.now.types) c.in_ok-by_type.by_type.items) c.as_slice.ensures.value c.in_ok-by_type.ensures;
    }

pub returns-clause-clocks : goal.returns-clause-clocks
returns-clause-clocks c =
    let le = c.loop-k.auto.k-end in
    let ge = c.loop-k-test.false in
    let many = length_map (λ (p : Phase). p.query) c.args.query_states.now in
    let all : c.loop-k.k ≡ length (map (λ (p : Phase). p.query) c.args.query_states.now) = omega arith in
    first_clocks c.args.schema.now (map (λ (p : Phase). p.query) c.args.query_states.now) c.loop-k.groups.items c.loop-k.numbers.items (subst (λ n. AreGroups c.args.schema.now (map (λ (p : Phase). p.query) c.args.query_states.now) n c.loop-k.groups.items c.loop-k.numbers.items) all c.loop-k.invariant.groups) c.loop-k.invariant.blank
