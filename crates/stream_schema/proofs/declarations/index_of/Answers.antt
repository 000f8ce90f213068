use Rattle.std.proofs.Common.{sym, ◌∙◌, ap, subst, map, take_all, arith}
use Rattle.cer_base.specs.Repeats.{HasNoRepeats}
use Rattle.stream_schema.specs.Declaring.{repeats_name}
use Rattle.stream_schema.proofs.Distinct.{repeated, one_more, repeats_not, never_repeated}
use Rattle.stream_schema.proofs.declarations.index_of.Goals as goal

pub returns-then-has-clause-none : goal.returns-then-has-clause-none
returns-then-has-clause-none c =
    repeated c.args.attrs.now c.loop-attr.attr-index c.attr-item.result c.loop-attr.names c.as_bytes-name.result.now
    c.loop-attr-test.true c.attr-item.is c.loop-attr.invariant.names (c.as_bytes-name.ensures.value ∙ c.as_str.ensures) (sym c.has.ensures ∙ c.if-has.true)

pub loop-attr-preserved : goal.loop-attr-preserved
loop-attr-preserved c =
    let name = c.as_bytes-name.result.now in
    let new = sym c.has.ensures ∙ c.if-has.false in
    record {
      names = c.in_ok-push.ensures.added ∙ one_more c.args.attrs.now c.loop-attr.attr-index c.attr-item.result c.loop-attr.names name c.loop-attr-test.true c.attr-item.is c.loop-attr.invariant.names (c.as_bytes-name.ensures.value ∙ c.as_str.ensures);
      once = subst HasNoRepeats (sym c.in_ok-push.ensures.added) (repeats_not c.loop-attr.names name c.loop-attr.invariant.once new);
    }

pub returns-clause-none : goal.returns-clause-none
returns-clause-none c =
    let named = c.loop-attr.invariant.names ∙ ap (map (λ a. a.name)) (take_all c.loop-attr.attr-index c.args.attrs.now c.loop-attr-test.false) in
    sym (never_repeated c.args.attrs.now (subst HasNoRepeats named c.loop-attr.invariant.once))
