use Rattle.std.proofs.Common.{◌+◌, map, take}
use Rattle.query_leaves.specs.LeafTree.{chain_of, choice_of}
use Rattle.query_leaves.specs.Shapes.{tree_of_shape}
use Rattle.query_leaves.specs.Numbering.{shape_part}
use Rattle.cea_compile.specs.Ended.{AreEndsOf}
use Rattle.cea_compile.specs.Heights.{height, highest_part, highest_choice}
use Rattle.cea_compile.proofs.ends.+ends_of.Given as goal

abbrev pub invariant-ends_of_chain-loop-k : goal.invariant-ends_of_chain-loop-k
invariant-ends_of_chain-loop-k l = AreEndsOf l.size (chain_of (map shape_part (take l.k l.parts))) l.fn.followers l.followers l.ends

abbrev pub invariant-ends_of_choice-loop-choice : goal.invariant-ends_of_choice-loop-choice
invariant-ends_of_choice-loop-choice l = AreEndsOf l.size (choice_of (map tree_of_shape (take l.choice-index l.choices))) l.fn.followers l.followers l.ends

abbrev pub decreases-ends_of : goal.decreases-ends_of
decreases-ends_of l = height l.shape.now

abbrev pub decreases-ends_of_chain : goal.decreases-ends_of_chain
decreases-ends_of_chain l = highest_part l.parts.now + 1

abbrev pub decreases-ends_of_choice : goal.decreases-ends_of_choice
decreases-ends_of_choice l = highest_choice l.choices.now + 1
