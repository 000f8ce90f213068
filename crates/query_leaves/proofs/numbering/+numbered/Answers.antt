use Rattle.std.proofs.Common.{◌≡◌, sym, ap, subst, ◌∙◌, ◌++◌, List, ℕ, [], length, map}
use Rattle.std.specs.Prelude.{IfOk}
use Rattle.std.specs.List.{flat_map}
use Rattle.query_leaves.specs.LeafTree.{LeafTree, chain_of, choice_of}
use Rattle.query_leaves.specs.Expand.{Occurrence}
use Rattle.query_leaves.specs.Leaves.{occurrences, numbered}
use Rattle.query_leaves.specs.Shapes.{tree_of_shape}
use Rattle.query_leaves.specs.Changes.{change_all}
use Rattle.query_leaves.specs.Drafts.{tree_of_draft, draft_part}
use Rattle.query_leaves.specs.Numbering.{HasNumbered, shape_part, occurrences_of_part, number_parts, number_each}
use Rattle.query_leaves.proofs.Above.{changed_shape, under_numbered, alone_numbered, on_ok}
use Rattle.query_leaves.proofs.Drafted as drafted
use Rattle.query_leaves.proofs.Shaped.{chain_is, choices_are}
use Rattle.query_leaves.proofs.Numbered.{chain_numbered, choice_numbered, chain_occurrences, choice_occurrences, part_shaped, part_numbered, choice_shaped, each_numbered}
use Rattle.query_leaves.proofs.numbering.+numbered.Goals as goal

pub numbered_parts-loop-part-preserved : goal.numbered_parts-loop-part-preserved
numbered_parts-loop-part-preserved t c =
    let x = c.part-item.result in
    let so_far = c.loop-part.invariant in
    record {
      shapes = ap (map shape_part) c.in_ok-push.ensures.items
          ∙ part_shaped c.args.parts.now c.loop-part.part-index x (length c.args.list.now.items) (length c.loop-part.list.items) c.loop-part.shapes.items _ c.loop-part-test.true c.part-item.is so_far.shapes so_far.leaves.count
          (ap (λ s. ((draft_part x).0, s)) c.in_ok-shape.ensures.shape);
      leaves = part_numbered c.args.schema.now c.args.above.now c.args.parts.now c.loop-part.part-index x c.args.list.now.items c.loop-part.list.items c.numbered.new.list.items c.args.made.now.items c.loop-part.made.items c.numbered.new.made.items c.loop-part-test.true c.part-item.is so_far.leaves c.in_ok-shape.ensures.leaves;
    }

pub numbered_each-loop-draft-preserved : goal.numbered_each-loop-draft-preserved
numbered_each-loop-draft-preserved t c =
    let x = c.draft-item.result in
    let so_far = c.loop-draft.invariant in
    record {
      shapes = ap (map tree_of_shape) c.in_ok-push.ensures.items
          ∙ choice_shaped c.args.drafts.now c.loop-draft.draft-index x (length c.args.list.now.items) (length c.loop-draft.list.items) c.loop-draft.shapes.items _ c.loop-draft-test.true c.draft-item.is so_far.shapes so_far.leaves.count
          c.in_ok-numbered.ensures.shape;
      leaves = each_numbered c.args.schema.now c.args.above.now c.args.drafts.now c.loop-draft.draft-index x c.args.list.now.items c.loop-draft.list.items c.numbered.new.list.items c.args.made.now.items c.loop-draft.made.items c.numbered.new.made.items c.loop-draft-test.true c.draft-item.is so_far.leaves c.in_ok-numbered.ensures.leaves;
    }

pub numbered-returns-in_ok-parts-in-Chain-clause-shape : goal.numbered-returns-in_ok-parts-in-Chain-clause-shape
numbered-returns-in_ok-parts-in-Chain-clause-shape t c =
    let base = length c.args.list.now.items in
    let parts = c.in-Chain.parts in
    chain_is c.in_ok-parts-in-Chain.parts
    ∙ ap chain_of (c.in_ok-parts-in-Chain.ensures.shapes ∙ ap (λ ps. number_parts base (map draft_part ps)) c.deref.ensures.value)
    ∙ sym (ap (numbered base) (ap tree_of_draft c.in-Chain.is ∙ drafted.chain_is parts) ∙ chain_numbered base (map draft_part parts.items))

pub numbered-returns-in_ok-parts-in-Chain-clause-leaves : goal.numbered-returns-in_ok-parts-in-Chain-clause-leaves
numbered-returns-in_ok-parts-in-Chain-clause-leaves t c =
    let parts = c.in-Chain.parts in
    subst (λ (os : List Occurrence). HasNumbered c.args.schema.now c.args.above.now os c.args.list.now.items c.numbered_parts.new.list.items c.args.made.now.items c.numbered_parts.new.made.items)
    (ap (λ ps. flat_map occurrences_of_part (map draft_part ps)) c.deref.ensures.value
    ∙ sym (ap occurrences (ap tree_of_draft c.in-Chain.is ∙ drafted.chain_is parts) ∙ chain_occurrences (map draft_part parts.items)))
    c.in_ok-parts-in-Chain.ensures.leaves

pub numbered-returns-in_ok-choices-in-Either-clause-shape : goal.numbered-returns-in_ok-choices-in-Either-clause-shape
numbered-returns-in_ok-choices-in-Either-clause-shape t c =
    let base = length c.args.list.now.items in
    let choices = c.in-Either.choices in
    choices_are c.in_ok-choices-in-Either.choices
    ∙ ap choice_of (c.in_ok-choices-in-Either.ensures.shapes ∙ ap (λ ds. number_each base (map tree_of_draft ds)) c.deref-in-Either.ensures.value)
    ∙ sym (ap (numbered base) (ap tree_of_draft c.in-Either.is ∙ drafted.choices_are choices) ∙ choice_numbered base (map tree_of_draft choices.items))

pub numbered-returns-in_ok-choices-in-Either-clause-leaves : goal.numbered-returns-in_ok-choices-in-Either-clause-leaves
numbered-returns-in_ok-choices-in-Either-clause-leaves t c =
    let choices = c.in-Either.choices in
    subst (λ (os : List Occurrence). HasNumbered c.args.schema.now c.args.above.now os c.args.list.now.items c.numbered_each.new.list.items c.args.made.now.items c.numbered_each.new.made.items)
    (ap (λ ds. flat_map occurrences (map tree_of_draft ds)) c.deref-in-Either.ensures.value
    ∙ sym (ap occurrences (ap tree_of_draft c.in-Either.is ∙ drafted.choices_are choices) ∙ choice_occurrences (map tree_of_draft choices.items)))
    c.in_ok-choices-in-Either.ensures.leaves

pub numbered-returns-in-Changed-clause-shape : goal.numbered-returns-in-Changed-clause-shape
numbered-returns-in-Changed-clause-shape t c =
    let base = length c.args.list.now.items in
    let change = change_all c.in-Changed.changes in
    subst (λ (u : LeafTree ℕ). IfOk c.numbered_under.result (λ s. tree_of_shape s ≡ u))
    (ap (λ d. numbered base (tree_of_draft d)) c.deref-in-Changed.ensures
    ∙ sym (ap (λ d. numbered base (tree_of_draft d)) c.in-Changed.is ∙ changed_shape change base (tree_of_draft c.in-Changed.part.value)))
    c.numbered_under.ensures.shape

pub numbered-returns-in-Changed-clause-leaves : goal.numbered-returns-in-Changed-clause-leaves
numbered-returns-in-Changed-clause-leaves t c =
    let schema = c.args.schema.now in
    let above = c.args.above.now in
    let changes = c.in-Changed.changes in
    let part = c.in-Changed.part.value in
    let before = c.args.list.now.items in
    let after = c.numbered_under.new.list.items in
    let made = c.args.made.now.items in
    on_ok c.numbered_under.result _ _
    (λ has.
    subst (λ d. HasNumbered schema above (occurrences (tree_of_draft d)) before after made made) (sym c.in-Changed.is)
    (under_numbered schema changes above (tree_of_draft part) before after made
    (subst (λ d. HasNumbered schema (changes ++ above) (occurrences (tree_of_draft d)) before after [] []) c.deref-in-Changed.ensures has)))
    c.numbered_under.ensures.leaves

pub numbered_under-returns-clause-leaves : goal.numbered_under-returns-clause-leaves
numbered_under-returns-clause-leaves t c =
    let schema = c.args.schema.now in
    let os = occurrences (tree_of_draft c.args.part.now) in
    let before = c.args.list.now.items in
    let after = c.numbered.new.list.items in
    on_ok c.numbered.result _ _
    (λ has.
    alone_numbered schema (c.args.changes.now ++ c.args.above.now) os before after c.new-made.result.items c.numbered.new.made.items c.new-made.ensures.items
    (subst (λ a. HasNumbered schema a os before after c.new-made.result.items c.numbered.new.made.items) c.in_ok-all.ensures has))
    c.numbered.ensures.leaves
