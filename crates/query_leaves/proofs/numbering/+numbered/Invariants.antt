use Rattle.std.proofs.Common.{◌≡◌, length, map, take}
use Rattle.std.specs.List.{flat_map}
use Rattle.query_leaves.specs.Leaves.{occurrences}
use Rattle.query_leaves.specs.Shapes.{tree_of_shape}
use Rattle.query_leaves.specs.Drafts.{tree_of_draft, draft_part}
use Rattle.query_leaves.specs.Numbering.{HasNumbered, shape_part, occurrences_of_part, number_parts, number_each}
use Rattle.query_leaves.proofs.numbering.+numbered.Given as goal

abbrev pub invariant-numbered_parts-loop-part : goal.invariant-numbered_parts-loop-part
invariant-numbered_parts-loop-part l = record {
  shapes : map shape_part l.shapes.items ≡ number_parts (length l.initial.list.items) (map draft_part (take l.part-index l.parts));
  leaves : HasNumbered l.schema l.above (flat_map occurrences_of_part (map draft_part (take l.part-index l.parts))) l.initial.list.items l.list.items l.initial.made.items l.made.items;
}

abbrev pub invariant-numbered_each-loop-draft : goal.invariant-numbered_each-loop-draft
invariant-numbered_each-loop-draft l = record {
  shapes : map tree_of_shape l.shapes.items ≡ number_each (length l.initial.list.items) (map tree_of_draft (take l.draft-index l.drafts));
  leaves : HasNumbered l.schema l.above (flat_map occurrences (map tree_of_draft (take l.draft-index l.drafts))) l.initial.list.items l.list.items l.initial.made.items l.made.items;
}
