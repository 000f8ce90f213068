use Rattle.std.proofs.Common.{ap, ◌∙◌, arith}
use Rattle.std.proofs.lemmas.Bool.{eq-eqb, ne_eqb}
use Rattle.ceql_grammar.specs.Values.{inside_quotes}
use Rattle.ceql_grammar.proofs.NumbersAndStrings.{quote_step, byte_step, nothing_unquoted, unquoted_whole}
use Rattle.ceql_grammar.proofs.values.unquoted.Goals as goal
use Rattle.ceql_grammar.proofs.values.unquoted.Goals.{in-Some+else-loop-i-test, in_default}

pub loop-i-preserved-then-inside-i : goal.loop-i-preserved-then-inside-i
loop-i-preserved-then-inside-i c = (
  quote_step c.in-Some.quote.now c.loop-i.bytes.items c.push.new.self.items c.in-Some.inside.now (inside_quotes c.in-Some.quote.now c.in-Some.inside.now) c.loop-i.i c.loop-i-test.true (eq-eqb _ _ c.if-inside-i.true) c.in_ok-push.ensures.items c.loop-i.invariant.0,
  omega (arith, c.loop-i-test.true),
)

pub loop-i-preserved : goal.loop-i-preserved
loop-i-preserved c = (
  byte_step c.in-Some.quote.now c.loop-i.bytes.items c.push.new.self.items c.in-Some.inside.now (inside_quotes c.in-Some.quote.now c.in-Some.inside.now) c.loop-i.i c.loop-i-test.true (ne_eqb _ _ c.if-inside-i.false) c.in_ok-push.ensures.items c.loop-i.invariant.0,
  omega (arith, c.loop-i-test.true),
)

pub returns : goal.returns
returns c = elim c.match-split_first.branch [
  | in-Some+else-loop-i-test w ↦ ap (λ v. v.items) w.bytes-is ∙ unquoted_whole w.in-Some.quote.now w.loop-i.bytes.items w.in-Some.inside.now c.args.text.now w.loop-i.i w.in-Some.ensures.cases.0 w.loop-i-test.false w.loop-i.invariant.0
  | in_default w ↦ ap (λ v. v.items) w.bytes-is ∙ c.new-bytes.ensures.items ∙ nothing_unquoted c.args.text.now w.in_default.ensures.cases
]
