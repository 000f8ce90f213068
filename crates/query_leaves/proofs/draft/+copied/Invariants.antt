use Rattle.std.proofs.Common.{◌≡◌, map, take}
use Rattle.query_leaves.specs.Drafts.{tree_of_draft, draft_part}
use Rattle.query_leaves.proofs.draft.+copied.Given as goal

abbrev pub invariant-copied_parts-loop-part : goal.invariant-copied_parts-loop-part
invariant-copied_parts-loop-part l = map draft_part l.copies.items ≡ map draft_part (take l.part-index l.parts)

abbrev pub invariant-copied_each-loop-draft : goal.invariant-copied_each-loop-draft
invariant-copied_each-loop-draft l = map tree_of_draft l.copies.items ≡ map tree_of_draft (take l.draft-index l.drafts)
