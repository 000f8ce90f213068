use Rattle.std.proofs.Common.{◌+◌, sym, subst, ◌∙◌, take}
use Rattle.std.proofs.lemmas.List.{take_all}
use Rattle.query_index.specs.Rows.{HaveTypes}
use Rattle.query_index.proofs.Listed.{types_next, types_past}
use Rattle.query_index.proofs.rows.types_of.Goals.{then-contains, else-contains}
use Rattle.query_index.proofs.rows.types_of.Goals as goal

pub loop-k-preserved : goal.loop-k-preserved
loop-k-preserved c = elim c.if-contains.branch [
  | then-contains w ↦ subst (HaveTypes (take (c.loop-k.k + 1) c.args.list.now) c.args.some.now) (sym w.types-is) (types_next c.args.list.now c.loop-k.k _ c.args.some.now c.loop-k.types w.put_type.new.types c.loop-k-test.true (λ is. w.put_type.ensures.here) w.put_type.ensures.kept c.loop-k.invariant)
  | else-contains w ↦ subst (HaveTypes (take (c.loop-k.k + 1) c.args.list.now) c.args.some.now) (sym w.types-is) (types_past c.args.list.now c.loop-k.k c.args.some.now c.loop-k.types c.loop-k-test.true (sym c.contains.ensures ∙ w.if-contains.false) c.loop-k.invariant)
]

pub returns : goal.returns
returns c = subst (λ ls. HaveTypes ls c.args.some.now c.loop-k.types) (take_all c.loop-k.k c.args.list.now c.loop-k-test.false) c.loop-k.invariant
