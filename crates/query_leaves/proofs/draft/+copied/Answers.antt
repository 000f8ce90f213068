use Rattle.std.proofs.Common.{sym, ap, ◌∙◌, map}
use Rattle.query_leaves.specs.LeafTree.{chain_of, choice_of}
use Rattle.query_leaves.specs.Drafts.{tree_of_draft, draft_part}
use Rattle.query_leaves.proofs.Drafted.{chain_is, choices_are}
use Rattle.query_leaves.proofs.draft.+copied.Goals as goal

pub copied-returns-in_ok-copied_parts-in-Chain : goal.copied-returns-in_ok-copied_parts-in-Chain
copied-returns-in_ok-copied_parts-in-Chain t c =
    chain_is c.in_ok-copied_parts-in-Chain.field-0
    ∙ ap chain_of (c.in_ok-copied_parts-in-Chain.ensures ∙ ap (map draft_part) c.deref.ensures.value)
    ∙ sym (ap tree_of_draft c.in-Chain.is ∙ chain_is c.in-Chain.parts)

pub copied-returns-in_ok-copied_each-in-Either : goal.copied-returns-in_ok-copied_each-in-Either
copied-returns-in_ok-copied_each-in-Either t c =
    choices_are c.in_ok-copied_each-in-Either.field-0
    ∙ ap choice_of (c.in_ok-copied_each-in-Either.ensures ∙ ap (map tree_of_draft) c.deref-in-Either.ensures.value)
    ∙ sym (ap tree_of_draft c.in-Either.is ∙ choices_are c.in-Either.choices)
