use Rattle.std.proofs.Common.{◌≡◌, sym, ap, subst, ◌∙◌, map, arith}
use Rattle.std.specs.Prelude.{IfOk}
use Rattle.query_leaves.specs.LeafTree.{LeafTree, plus}
use Rattle.query_leaves.specs.Expand.{Occurrence, one_or_more}
use Rattle.query_leaves.specs.Drafts.{tree_of_draft}
use Rattle.query_leaves.proofs.Drafted.{chain_is, choices_are, chain_repeats, choice_repeats}
use Rattle.query_leaves.proofs.draft.+one_or_more.Goals as goal

pub one_or_more-returns-in-Chain : goal.one_or_more-returns-in-Chain
one_or_more-returns-in-Chain t c =
    subst (λ (u : LeafTree Occurrence). IfOk c.one_or_more_in_turn.result (λ some. tree_of_draft some ≡ one_or_more c.args.tight u))
    (sym (ap tree_of_draft c.in-Chain.is ∙ chain_is c.in-Chain.parts))
    c.one_or_more_in_turn.ensures

pub one_or_more-returns-in-Either : goal.one_or_more-returns-in-Either
one_or_more-returns-in-Either t c =
    let same = choices_are c.in-Either.choices in
    subst (λ (u : LeafTree Occurrence). IfOk c.plus.result (λ some. tree_of_draft some ≡ u))
    (ap (plus c.args.tight) same ∙ sym (choice_repeats c.args.tight (map tree_of_draft c.in-Either.choices.items)) ∙ sym (ap (one_or_more c.args.tight) (ap tree_of_draft c.in-Either.is ∙ same)))
    c.plus.ensures

pub one_or_more_in_turn-returns-then-len-ne1 : goal.one_or_more_in_turn-returns-then-len-ne1
one_or_more_in_turn-returns-then-len-ne1 t c =
    subst (λ (u : LeafTree Occurrence). IfOk c.plus.result (λ some. tree_of_draft some ≡ u))
    (ap (plus c.args.tight) (chain_is c.args.parts) ∙ sym (chain_repeats c.args.tight c.args.parts.items (λ e. c.if-len-ne1.true (omega (arith, c.len.ensures, e)))))
    c.plus.ensures
