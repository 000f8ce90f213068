use Rattle.std.proofs.Common.{◌+◌, map, take}
use Rattle.query_leaves.specs.LeafTree.{choice_of}
use Rattle.query_leaves.specs.Shapes.{tree_of_shape}
use Rattle.cea_compile.specs.Found.{HasFirst}
use Rattle.cea_compile.specs.Heights.{height, highest_part, highest_choice}
use Rattle.cea_compile.proofs.first.+put_first.Given as goal

abbrev pub invariant-put_first_of_choice-loop-choice : goal.invariant-put_first_of_choice-loop-choice
invariant-put_first_of_choice-loop-choice l = HasFirst (choice_of (map tree_of_shape (take l.choice-index l.choices))) l.fn.set l.set

abbrev pub decreases-put_first : goal.decreases-put_first
decreases-put_first l = height l.shape.now

abbrev pub decreases-put_first_of_chain : goal.decreases-put_first_of_chain
decreases-put_first_of_chain l = highest_part l.parts.now + 1

abbrev pub decreases-put_first_of_choice : goal.decreases-put_first_of_choice
decreases-put_first_of_choice l = highest_choice l.choices.now + 1
