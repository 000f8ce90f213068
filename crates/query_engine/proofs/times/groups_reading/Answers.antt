use Rattle.std.proofs.Common.{◌≡◌, ◌∙◌, ◌-◌, ◌<◌, ◌+◌, ℕ, Vec, Global, map, length, slice_index_or, sym, subst, arith, rules}
use Rattle.std.proofs.lemmas.Option.{slice_get-get_or}
use Rattle.stream_schema.specs.Types.{Declared}
use Rattle.query_engine.specs.Times.{AreThose, group_reads}
use Rattle.query_engine.proofs.GroupMembers.{those_none, those_push, those_past}
use Rattle.query_engine.proofs.GroupLoops.{at_here, schema_here, reads_here}
use Rattle.query_engine.proofs.times.groups_reading.Goals.{then-reads+in_ok-push, else-reads}
use Rattle.query_engine.proofs.times.groups_reading.Goals as goal

pub loop-g-init : goal.loop-g-init
loop-g-init c = those_none (group_reads c.args.schema.now (map (λ p. p.query) c.args.query_states.now) c.args.ty) c.args.groups.now c.new-numbers.result.items c.new-numbers.ensures.items

pub overflow_sub-groups : goal.overflow_sub-groups
overflow_sub-groups c = (c.requires.heads c.loop-g.g c.index-groups-g.result c.loop-g-test.true).0

pub bounds-query_states-groups : goal.bounds-query_states-groups
bounds-query_states-groups c =
    let h = c.requires.heads c.loop-g.g c.index-groups-g.result c.loop-g-test.true in
    let low = h.0 in
    let high = h.1 in
    omega arith

pub offset_bounds-query_states-groups : goal.offset_bounds-query_states-groups
offset_bounds-query_states-groups c =
    let h = c.requires.heads c.loop-g.g c.index-groups-g.result c.loop-g-test.true in
    let inside : (slice_index_or c.args.groups.now c.loop-g.g c.index-groups-g.result).query - 1 < length c.args.query_states.now = (let low = h.0 in let high = h.1 in omega arith) in
    search rules

pub reads-requires : goal.reads-requires
reads-requires c =
    let h = c.requires.heads c.loop-g.g c.index-groups-g.result c.loop-g-test.true in
    let inside : (slice_index_or c.args.groups.now c.loop-g.g c.index-groups-g.result).query - 1 < length c.args.query_states.now = (let low = h.0 in let high = h.1 in omega arith) in
    subst (λ (s : Declared). c.args.ty < length s.types) (sym (schema_here c.args.schema.now c.args.query_states.now ((slice_index_or c.args.groups.now c.loop-g.g c.index-groups-g.result).query - 1) c.index-query_states-groups.result c.requires.schemas inside c.index-query_states-groups.is)) c.requires.declared

pub loop-g-preserved : goal.loop-g-preserved
loop-g-preserved c =
    let h = c.requires.heads c.loop-g.g c.index-groups-g.result c.loop-g-test.true in
    let inside : (slice_index_or c.args.groups.now c.loop-g.g c.index-groups-g.result).query - 1 < length c.args.query_states.now = (let low = h.0 in let high = h.1 in omega arith) in
    let g = slice_index_or c.args.groups.now c.loop-g.g c.index-groups-g.result in
    let at = slice_get-get_or c.args.groups.now c.loop-g.g c.index-groups-g.result c.loop-g-test.true in
    let schema_is = schema_here c.args.schema.now c.args.query_states.now (g.query - 1) c.index-query_states-groups.result c.requires.schemas inside c.index-query_states-groups.is in
    let test : group_reads c.args.schema.now (map (λ p. p.query) c.args.query_states.now) c.args.ty g ≡ c.reads.result = reads_here c.args.schema.now c.args.query_states.now c.args.ty g c.index-query_states-groups.result c.reads.result (at_here c.args.query_states.now (g.query - 1) c.index-query_states-groups.result inside c.index-query_states-groups.is) schema_is c.reads.ensures in
    elim c.if-reads.branch [
      | then-reads+in_ok-push w ↦ subst (λ (v : Vec ℕ Global). AreThose (group_reads c.args.schema.now (map (λ p. p.query) c.args.query_states.now) c.args.ty) (c.loop-g.g + 1) c.args.groups.now v.items) (sym w.numbers-is)
          (those_push (group_reads c.args.schema.now (map (λ p. p.query) c.args.query_states.now) c.args.ty) c.loop-g.g c.args.groups.now c.loop-g.numbers.items c.loop-g.invariant g at (test ∙ w.if-reads.true) w.push.new.self.items w.in_ok-push.ensures.items)
      | else-reads w ↦ subst (λ (v : Vec ℕ Global). AreThose (group_reads c.args.schema.now (map (λ p. p.query) c.args.query_states.now) c.args.ty) (c.loop-g.g + 1) c.args.groups.now v.items) (sym w.numbers-is)
          (those_past (group_reads c.args.schema.now (map (λ p. p.query) c.args.query_states.now) c.args.ty) c.loop-g.g c.args.groups.now c.loop-g.numbers.items c.loop-g.invariant g at (test ∙ w.if-reads.false))
    ]

pub returns : goal.returns
returns c =
    let le = c.loop-g.auto.g-end in
    let ge = c.loop-g-test.false in
    subst (λ n. AreThose (group_reads c.args.schema.now (map (λ p. p.query) c.args.query_states.now) c.args.ty) n c.args.groups.now c.loop-g.numbers.items) (omega arith) c.loop-g.invariant
