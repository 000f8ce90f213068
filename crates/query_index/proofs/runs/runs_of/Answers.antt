use Rattle.std.proofs.Common.{sym, subst, Vec, Global}
use Rattle.predicate_bits.specs.declared.spans.Span.{Span}
use Rattle.query_index.specs.declared.runs.Run.{Run}
use Rattle.query_index.proofs.Covered.{IsLeft, left_next, left_last}
use Rattle.query_index.proofs.runs.runs_of.Goals.{then-left-end+in_ok-put_tested, else-left-end}
use Rattle.query_index.proofs.runs.runs_of.Goals as goal

pub loop-end-preserved : goal.loop-end-preserved
loop-end-preserved c = elim c.if-left-end.branch [
  | then-left-end+in_ok-put_tested w ↦
      subst (λ (v : Vec Run Global). IsLeft v.items c.args.leaves.now c.args.parting.now.place c.args.span.now c.if-left-end.left c.args.row.now) (sym w.runs-is)
      (subst (λ (left : Span). IsLeft w.put_tested.new.runs.items c.args.leaves.now c.args.parting.now.place c.args.span.now left c.args.row.now) (sym w.left-is)
      (left_next c.loop-end.runs.items w.put_tested.new.runs.items c.args.leaves.now c.args.parting.now.place c.args.span.now c.loop-end.left w.up_to.result w.after-left.result c.args.row.now _ w.up_to.ensures.kind w.after-left.ensures.kind w.up_to.ensures.numbers w.after-left.ensures.numbers w.in_ok-put_tested.ensures.kept w.in_ok-put_tested.ensures.cover c.loop-end.invariant))
  | else-left-end w ↦
      subst (λ (v : Vec Run Global). IsLeft v.items c.args.leaves.now c.args.parting.now.place c.args.span.now c.if-left-end.left c.args.row.now) (sym w.runs-is)
      (subst (λ (left : Span). IsLeft c.loop-end.runs.items c.args.leaves.now c.args.parting.now.place c.args.span.now left c.args.row.now) (sym w.left-is) c.loop-end.invariant)
]

pub returns : goal.returns
returns c = left_last c.loop-end.runs.items c.put_tested-2.new.runs.items c.args.leaves.now c.args.parting.now.place c.args.span.now c.loop-end.left c.args.row.now c.in_ok-put_tested-2.ensures.kept c.in_ok-put_tested-2.ensures.cover c.loop-end.invariant
