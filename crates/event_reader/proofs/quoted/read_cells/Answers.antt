use Rattle.std.proofs.Common.{◌∙◌, ◌∷◌, ap, add-one, arith, sym, subst, get_or}
use Rattle.std.proofs.Math.ListN.{length-set}
use Rattle.std.proofs.Math.Seq.{drop-cons}
use Rattle.std.proofs.lemmas.List.{take_more_set}
use Rattle.stream_schema.specs.declared.Kind.TheVariants as kind
use Rattle.event_reader.specs.QuotedLines.{HasCell}
use Rattle.event_reader.proofs.CommonFields.{slice_is}
use Rattle.event_reader.proofs.QuotedFields.{one_more_cell}
use Rattle.event_reader.proofs.quoted.read_cells.Goals as goal

pub loop-i-preserved : goal.loop-i-preserved
loop-i-preserved c = record {
  long = length-set _ _ _ ∙ c.loop-i.invariant.long;
  read = λ begins.
      one_more_cell _ _ _ _ _ _ _ _ _ _ (subst (HasCell (get_or c.args.kinds.now c.loop-i.i kind.Int) c.in-Some.text.now c.read_cell.new.value) (sym (slice_is c.in-Some-read_cell.end c.in-Some.text.now)) c.in-Some-read_cell.ensures.has)
      (take_more_set c.loop-i.values.items c.loop-i.i c.read_cell.new.value (omega arith)) c.loop-i.invariant.read (rw add-one (drop-cons c.args.kinds.now c.loop-i.i _ (omega arith)))
      (c.in-Some.ensures.cases.0 ∙ ap (λ x. x ∷ c.in-Some.text.now) c.if-first-ne-COMMA.false);
}
