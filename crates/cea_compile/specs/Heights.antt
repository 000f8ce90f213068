-- How deep a shape is, by which the search for its ends is seen to end.
-- Nobody needs to believe these; the public contracts speak of the tree of leaves alone.
use Rattle.std.specs.Prelude.{ℕ, ◌+◌, max, List, [], ◌∷◌}
use Rattle.query_leaves.specs.declared.Shape.{Shape, Chain', Either', Plus', Row_of-Shape, end_of-Shape, more_of-Shape, Row_of-ShapePart, end_of-ShapePart, more_of-ShapePart}
use Rattle.query_leaves.specs.declared.Shape as shape
use Rattle.query_leaves.specs.declared.ShapePart.{ShapePart, out-ShapePart}

-- A list of parts lies between a shape and its parts: it is above these, and the shape is above it.
abbrev mutual
  pub height : Shape → ℕ
  height (shape.Leaf k) = 0
  height (Chain' s parts) = height_of_parts parts + 2
  height (Either' s choices) = height_of_choices choices + 2
  height (Plus' tight p part) = height part + 1

  pub height_of_parts : {m : _} → Row_of-ShapePart m → ℕ
  height_of_parts end_of-ShapePart = 0
  height_of_parts (more_of-ShapePart tight part rest) = max (height part) (height_of_parts rest)

  pub height_of_choices : {m : _} → Row_of-Shape m → ℕ
  height_of_choices end_of-Shape = 0
  height_of_choices (more_of-Shape choice rest) = max (height choice) (height_of_choices rest)

abbrev pub highest_part : List ShapePart → ℕ
highest_part [] = 0
highest_part (p ∷ ps) = max (height (out-ShapePart p).part) (highest_part ps)

abbrev pub highest_choice : List Shape → ℕ
highest_choice [] = 0
highest_choice (s ∷ ss) = max (height s) (highest_choice ss)
