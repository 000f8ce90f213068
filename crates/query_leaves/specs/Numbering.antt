-- How the leaves of a draft are numbered, part by part.
-- Nobody needs to believe these; the public contracts speak of the tree of leaves alone.
use Rattle.std.specs.Prelude.{◌≡◌, ℕ, ◌+◌, Bool, List, [], ◌∷◌, ◌++◌, length, map}
use Rattle.std.specs.List.{AllByRecursion}
use Rattle.stream_schema.specs.Types.{Declared}
use Rattle.query_leaves.specs.declared.Leaf.{Leaf}
use Rattle.query_leaves.specs.declared.ShapePart.{ShapePart, out-ShapePart}
use Rattle.query_leaves.specs.LeafTree.{LeafTree}
use Rattle.cel_terms.specs.Answers.{is_bound}
use Rattle.query_leaves.specs.Expand.{Occurrence}
use Rattle.query_leaves.specs.Leaves.{occurrences, numbered}
use Rattle.query_leaves.specs.Shapes.{tree_of_shape}
use Rattle.query_leaves.specs.Tests.{IsMadeOf, AreMadeOf}
use Rattle.query_leaves.specs.Changes.{change_all, occurrence_of}
use Rattle.query_leaves.specs.declared.occurrence.Change.{Change}
use Rattle.query_leaves.specs.declared.leaf_under.LeafOfType.{LeafOfType}

-- the occurrence of a type under the changes
abbrev pub occurrence_under : List Change → List ℕ → Occurrence
occurrence_under above name = change_all above (occurrence_of name)

-- Each leaf is that of its type under the changes.
pub record AreMadeUnder (schema : Declared) (above : List Change) (made : List LeafOfType) : Type 0 where
  pub each : AllByRecursion (λ m. IsMadeOf schema (occurrence_under above m.name.now) m.leaf) made

-- The leaves of so many occurrences, under the changes above, stand behind those before. So do those of each type that are at hand.
pub record HasNumbered (schema : Declared) (above : List Change) (os : List Occurrence) (before after : List Leaf) (old new : List LeafOfType) : Type 0 where
  pub count : length after ≡ length before + length os
  pub list : AreMadeUnder schema above old → (earlier : List Occurrence) → AreMadeOf schema earlier before → AreMadeOf schema (earlier ++ map (change_all above) os) after
  pub kept : AreMadeUnder schema above old → AreMadeUnder schema above new

-- whether a part of a chain is tight, and its tree
abbrev pub shape_part : ShapePart → Bool × LeafTree ℕ
shape_part p = ((out-ShapePart p).tight, tree_of_shape (out-ShapePart p).part)

abbrev pub occurrences_of_part : Bool × LeafTree Occurrence → List Occurrence
occurrences_of_part p = occurrences p.1

-- the leaves of the parts of a chain, and of choices, numbered from left to right
abbrev pub number_parts : ℕ → List (Bool × LeafTree Occurrence) → List (Bool × LeafTree ℕ)
number_parts base [] = []
number_parts base (p ∷ ps) = (p.0, numbered base p.1) ∷ number_parts (base + length (occurrences p.1)) ps

abbrev pub number_each : ℕ → List (LeafTree Occurrence) → List (LeafTree ℕ)
number_each base [] = []
number_each base (t ∷ ts) = numbered base t ∷ number_each (base + length (occurrences t)) ts

-- They ask the same of an event of the same type, and the position of both is in the set of some name or of neither.
pub record AreAlike (a b : Occurrence) : Type 0 where
  pub type : a.type ≡ b.type
  pub tests : a.tests ≡ b.tests
  pub bound : is_bound a.names ≡ is_bound b.names

-- Under the changes the occurrence is no other than that of the type.
abbrev pub IsLike : List Change → Occurrence → Type 0
IsLike above o = AreAlike (change_all above (occurrence_of o.type)) (change_all above o)
