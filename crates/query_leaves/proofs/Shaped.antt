-- The tree of a shape, by the lists in it.
use Rattle.std.proofs.Common.{◌≡◌, refl, ap, ◌∙◌, ℕ, map}
use Rattle.std.specs.Prelude.{Vec}
use Rattle.std.specs.declared.alloc.Global.{Global}
use Rattle.query_leaves.specs.declared.Shape.{Shape, Chain, Chain', Either, Either', Row_of-Shape, end_of-Shape, more_of-Shape, items-the_row-Shape, items_hidden-the_row-Shape-1, Row_of-ShapePart, end_of-ShapePart, more_of-ShapePart, items-the_row-ShapePart, items_hidden-the_row-ShapePart-0}
use Rattle.query_leaves.specs.declared.ShapePart.{ShapePart}
use Rattle.query_leaves.specs.LeafTree as tree
use Rattle.query_leaves.specs.LeafTree.{LeafTree, sequence, linked_to, chain_of, choice_of}
use Rattle.query_leaves.specs.Shapes.{tree_of_shape, chain_of_shapes, linked_shapes, choice_of_shapes}
use Rattle.query_leaves.specs.Numbering.{shape_part}

linked_listed : (t : LeafTree ℕ) (n : _) (row : Row_of-ShapePart n) → linked_shapes t row ≡ linked_to t (map shape_part (items-the_row-ShapePart n row))
linked_listed t n end_of-ShapePart = refl
linked_listed t n (more_of-ShapePart tight part rest) = linked_listed (sequence tight t (tree_of_shape part)) _ rest

chain_listed : (n : _) (row : Row_of-ShapePart n) → chain_of_shapes row ≡ chain_of (map shape_part (items-the_row-ShapePart n row))
chain_listed n end_of-ShapePart = refl
chain_listed n (more_of-ShapePart tight part rest) = linked_listed (tree_of_shape part) _ rest

choices_listed : (n : _) (row : Row_of-Shape n) → choice_of_shapes row ≡ choice_of (map tree_of_shape (items-the_row-Shape n row))
choices_listed n end_of-Shape = refl
choices_listed n (more_of-Shape choice rest) = ap (λ t. tree.either (tree_of_shape choice) t) (choices_listed _ rest)

abbrev pub parts_in : Shape → (n : _) × Row_of-ShapePart n
parts_in (Chain' _ row) = (_, row)
parts_in _ = (_, end_of-ShapePart)

abbrev pub choices_in : Shape → (n : _) × Row_of-Shape n
choices_in (Either' _ row) = (_, row)
choices_in _ = (_, end_of-Shape)

pub chain_is : (parts : Vec ShapePart Global) → tree_of_shape (Chain parts) ≡ chain_of (map shape_part parts.items)
chain_is parts =
    let row = parts_in (Chain parts) in
    chain_listed row.0 row.1 ∙ ap (λ ps. chain_of (map shape_part ps)) (items_hidden-the_row-ShapePart-0 parts)

pub choices_are : (choices : Vec Shape Global) → tree_of_shape (Either choices) ≡ choice_of (map tree_of_shape choices.items)
choices_are choices =
    let row = choices_in (Either choices) in
    choices_listed row.0 row.1 ∙ ap (λ ds. choice_of (map tree_of_shape ds)) (items_hidden-the_row-Shape-1 choices)
