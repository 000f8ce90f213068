use Rattle.std.proofs.Common.{◌≡◌, ◌≤◌, sym, ◌∙◌, true, false, arith}
use Rattle.std.specs.Prelude.{codes}
use Rattle.ceql_grammar.specs.WordsAndSigns.{Is}
use Rattle.ceql_grammar.proofs.Depths.{open_next, within, not_here, here_first, nowhere}
use Rattle.ceql_grammar.proofs.depth.too_deep.Goals as goal
use Rattle.ceql_grammar.proofs.depth.too_deep.Goals.{else-depth-ge-DEEPEST_NESTING-via-then-depth-ge-DEEPEST_NESTING+else-is, else-depth-ge-DEEPEST_NESTING-via-else-depth-ge-DEEPEST_NESTING}
use Rattle.cer_base.specs.declared.limits.TheConstants.{DEEPEST_NESTING}

pub loop-token-preserved : goal.loop-token-preserved
loop-token-preserved c =
    let no : DEEPEST_NESTING ≤ c.loop-token.depth → Is (codes "(") c.token-item.result → ⊥ = elim c.else-depth-ge-DEEPEST_NESTING.branch [
      | else-depth-ge-DEEPEST_NESTING-via-then-depth-ge-DEEPEST_NESTING+else-is w ↦ λ l o. let k : false ≡ true = sym w.if-is.false ∙ w.is.ensures ∙ o in cc
      | else-depth-ge-DEEPEST_NESTING-via-else-depth-ge-DEEPEST_NESTING w ↦ λ l o. let m = w.if-depth-ge-DEEPEST_NESTING.false in omega (arith, l, m)
    ] in (
      open_next c.args.tokens.now c.loop-token.token-index c.token-item.result c.loop-token.depth c.open_after_one-depth.result c.loop-token-test.true c.token-item.is c.loop-token.invariant.0 c.open_after_one-depth.ensures,
      (
        within c.loop-token.depth c.open_after_one-depth.result c.token-item.result c.loop-token.invariant.1.0 no c.open_after_one-depth.ensures,
        not_here c.args.tokens.now c.loop-token.token-index c.token-item.result c.loop-token.depth c.loop-token-test.true c.token-item.is c.loop-token.invariant.0 no c.loop-token.invariant.1.1,
      ),
    )

pub returns-then-is : goal.returns-then-is
returns-then-is c = here_first c.args.tokens.now c.loop-token.token-index c.token-item.result c.loop-token.depth c.loop-token-test.true c.token-item.is c.loop-token.invariant.0 c.if-depth-ge-DEEPEST_NESTING.true (sym c.is.ensures ∙ c.if-is.true) c.loop-token.invariant.1.1

pub returns : goal.returns
returns c = nowhere c.args.tokens.now c.loop-token.token-index c.loop-token-test.false c.loop-token.invariant.1.1
