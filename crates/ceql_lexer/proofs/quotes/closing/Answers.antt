use Rattle.std.proofs.Common.{eq-eqb, arith}
use Rattle.std.proofs.lemmas.Bool.{ne_eqb}
use Rattle.ceql_lexer.proofs.Strings.{passes_other, passes_doubled, closed_last, closed_here, open_at_line, open_at_end}
use Rattle.ceql_lexer.proofs.quotes.closing.Goals as goal
use Rattle.ceql_lexer.proofs.quotes.closing.Goals.{else-passed-text-via-then-passed-text+else-text-passed-2, else-passed-text-via-else-passed-text}

pub loop-passed-preserved-then-text-passed : goal.loop-passed-preserved-then-text-passed
loop-passed-preserved-then-text-passed c =
    passes_other c.args.quote c.args.text.now c.loop-passed.passed c.loop-passed.invariant c.loop-passed-test.true
    (ne_eqb _ _ c.if-text-passed-ne-LINE_FEED.true) (ne_eqb _ _ c.if-text-passed.true)

pub loop-passed-preserved : goal.loop-passed-preserved
loop-passed-preserved c =
    passes_doubled c.args.quote c.args.text.now c.loop-passed.passed c.loop-passed.invariant c.if-passed-text.true
    (ne_eqb _ _ c.if-text-passed-ne-LINE_FEED.true) (eq-eqb _ _ c.if-text-passed.false) (eq-eqb _ _ c.if-text-passed-2.true)

pub returns-else-passed-text-clause-value : goal.returns-else-passed-text-clause-value
returns-else-passed-text-clause-value c = elim c.else-passed-text.branch [
  | else-passed-text-via-then-passed-text+else-text-passed-2 w ↦
      closed_here c.args.quote c.args.text.now c.loop-passed.passed c.loop-passed.invariant w.if-passed-text.true
      (ne_eqb _ _ c.if-text-passed-ne-LINE_FEED.true) (eq-eqb _ _ c.if-text-passed.false) (ne_eqb _ _ w.if-text-passed-2.false)
  | else-passed-text-via-else-passed-text w ↦
      closed_last c.args.quote c.args.text.now c.loop-passed.passed c.loop-passed.invariant (omega arith)
      (ne_eqb _ _ c.if-text-passed-ne-LINE_FEED.true) (eq-eqb _ _ c.if-text-passed.false)
]

pub returns-else-text-passed-ne-LINE_FEED-clause-value : goal.returns-else-text-passed-ne-LINE_FEED-clause-value
returns-else-text-passed-ne-LINE_FEED-clause-value c =
    open_at_line c.args.quote c.args.text.now c.loop-passed.passed c.loop-passed.invariant c.loop-passed-test.true
    (eq-eqb _ _ c.if-text-passed-ne-LINE_FEED.false)

pub returns-after-loop-passed-clause-value : goal.returns-after-loop-passed-clause-value
returns-after-loop-passed-clause-value c =
    open_at_end c.args.quote c.args.text.now c.loop-passed.passed c.loop-passed.invariant c.loop-passed-test.false
