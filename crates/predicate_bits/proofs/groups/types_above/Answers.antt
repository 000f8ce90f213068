use Rattle.std.proofs.Common.{subst, sym, ◌<◌, ◌+◌, All, take, take_all}
use Rattle.query_leaves.specs.declared.Leaf.{Leaf}
use Rattle.predicate_bits.proofs.Collected.{above_more}
use Rattle.predicate_bits.proofs.groups.types_above.Goals as goal

pub loop-leaf-preserved : goal.loop-leaf-preserved
loop-leaf-preserved c =
    let more = above_more c.args.list.now c.loop-leaf.leaf-index c.leaf-item.result c.loop-leaf.count c.in_ok-after.field-0 c.loop-leaf-test.true c.leaf-item.is c.loop-leaf.invariant c.in_ok-after.ensures in
    subst (λ n. All (λ (l : Leaf). l.ty < n) (take (c.loop-leaf.leaf-index + 1) c.args.list.now)) (sym c.max-count.ensures) more

pub returns : goal.returns
returns c = subst (All (λ (l : Leaf). l.ty < c.loop-leaf.count)) (take_all c.loop-leaf.leaf-index c.args.list.now c.loop-leaf-test.false) c.loop-leaf.invariant
