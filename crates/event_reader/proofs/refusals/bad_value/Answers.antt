use Rattle.std.proofs.Common.{◌∙◌, add-one, ap, arith, get_or, sym}
use Rattle.std.proofs.Math.Seq.{drop-cons}
use Rattle.stream_schema.specs.declared.Kind.TheVariants as kind
use Rattle.event_reader.specs.Values.{value_of}
use Rattle.event_reader.proofs.RefusedLines.{passes}
use Rattle.event_reader.proofs.refusals.bad_value.Goals as goal

pub loop-i-preserved : goal.loop-i-preserved
loop-i-preserved c =
    passes c.args.kinds.now c.args.fields.now c.loop-i.i (get_or c.args.kinds.now c.loop-i.i kind.Int) c.loop-i.rest.now c.in-Some.text.now c.unescape.new.scratch.items c.in-Some.field-0-0.now c.in-Some-unescape.end
    c.in-Ok-Some.field-0-0 c.loop-i.invariant (rw add-one (drop-cons c.args.kinds.now c.loop-i.i _ (omega (arith, c.loop-i-test.true)))) c.in-Some.ensures.cases.0 c.in-Some-unescape.ensures
    (sym c.in-Ok-Some.field-0-is ∙ c.in-Ok-Some.ensures ∙ ap (value_of (get_or c.args.kinds.now c.loop-i.i kind.Int)) c.as_slice.ensures.value)
