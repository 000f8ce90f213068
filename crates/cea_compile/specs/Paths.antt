-- The paths through a tree of leaves, and what a tree means.
use Rattle.std.specs.Prelude.{◌≡◌, ℕ, ◌<◌, ◌⊎◌, Bool, true, List, [], ◌∷◌, ◌++◌, map, Some, slice_get, IsTrue}
use Rattle.stream_schema.specs.declared.Event.{Event}
use Rattle.cel_terms.specs.declared.Pred.{Pred}
use Rattle.cel_terms.specs.Predicate.{holds}
use Rattle.cel_terms.specs.Meaning.{Stream, IsTyped, Meaning, Valuation, Sequence, Repeated, OneOf, Nothing}
use Rattle.query_leaves.specs.LeafTree.{LeafTree, leaf, none, sequence, either, plus}
use Rattle.query_leaves.specs.Expand.{Occurrence}
use Rattle.query_leaves.specs.Leaves.{names_in}

abbrev pub AllTestsHold : Stream → List Pred → Event → Type 0
AllTestsHold stream [] event = Unit {0}
AllTestsHold stream (t ∷ ts) event = IsTrue (holds stream.schema t event) × AllTestsHold stream ts event

-- The leaf can read the event at the position.
pub record LeafReads (stream : Stream) (l : Occurrence) (position : ℕ) : Type 0 where
  pub typed : IsTyped stream l.type position
  pub tests : AllTestsHold stream l.tests typed.event

-- What a tree means, by the same operations as a formula.
pub record AtLeaf (stream : Stream) (l : Occurrence) (start end : ℕ) (v : Valuation) : Type 0 where
  pub reads : LeafReads stream l start
  pub ends : end ≡ start
  pub bound : v ≡ record { position = start; names = l.names } ∷ []

abbrev pub tree_meaning : Stream → LeafTree Occurrence → Meaning
tree_meaning stream (leaf l) = AtLeaf stream l
tree_meaning stream none = Nothing
tree_meaning stream (sequence tight a b) = Sequence stream tight (tree_meaning stream a) (tree_meaning stream b)
tree_meaning stream (either a b) = OneOf (tree_meaning stream a) (tree_meaning stream b)
tree_meaning stream (plus tight a) = Repeated stream tight (tree_meaning stream a)

-- A leaf has read the event at a position.
pub record Step : Type 0 where
  pub leaf : ℕ
  pub position : ℕ

-- What a tree's paths are read over: which leaf can read which position, and which positions the substream has.
pub record Reading : Type 1 where
  pub Has : ℕ → Type 0
  pub Reads : ℕ → ℕ → Type 0

-- What may come after what: anything later, or, where tight, the next of the substream.
pub record MayComeAfter (Has : ℕ → Type 0) (tight : Bool) (from to : ℕ) : Type 0 where
  pub later : from < to
  pub next : tight ≡ true → (p : ℕ) → Has p → from < p → p < to → ⊥

-- The path leads through the tree from the start to the end.
pub data Path (r : Reading) : LeafTree ℕ → ℕ → ℕ → List Step → Type 0 where
  at : {k p : ℕ} → r.Reads k p → Path r (leaf k) p p (record { leaf = k; position = p } ∷ [])
  then : {tight : Bool} {a b : LeafTree ℕ} {start middle next end : ℕ} {v w : List Step} → Path r a start middle v → MayComeAfter r.Has tight middle next → Path r b next end w → Path r (sequence tight a b) start end (v ++ w)
  left : {a b : LeafTree ℕ} {start end : ℕ} {v : List Step} → Path r a start end v → Path r (either a b) start end v
  right : {a b : LeafTree ℕ} {start end : ℕ} {v : List Step} → Path r b start end v → Path r (either a b) start end v
  once : {tight : Bool} {a : LeafTree ℕ} {start end : ℕ} {v : List Step} → Path r a start end v → Path r (plus tight a) start end v
  again : {tight : Bool} {a : LeafTree ℕ} {start middle next end : ℕ} {v w : List Step} → Path r a start middle v → MayComeAfter r.Has tight middle next → Path r (plus tight a) next end w → Path r (plus tight a) start end (v ++ w)

-- the leaf is in the tree
abbrev pub HasLeaf : LeafTree ℕ → ℕ → Type 0
HasLeaf (leaf n) k = k ≡ n
HasLeaf none k = ⊥
HasLeaf (sequence tight a b) k = HasLeaf a k ⊎ HasLeaf b k
HasLeaf (either a b) k = HasLeaf a k ⊎ HasLeaf b k
HasLeaf (plus tight a) k = HasLeaf a k

abbrev pub AreApart : LeafTree ℕ → LeafTree ℕ → Type 0
AreApart a b = (k : ℕ) → HasLeaf a k → HasLeaf b k → ⊥

-- no number names two leaves
abbrev pub IsLinear : LeafTree ℕ → Type 0
IsLinear (leaf n) = Unit {0}
IsLinear none = Unit {0}
IsLinear (sequence tight a b) = IsLinear a × IsLinear b × AreApart a b
IsLinear (either a b) = IsLinear a × IsLinear b × AreApart a b
IsLinear (plus tight a) = IsLinear a

-- which listed leaf can read which position
abbrev pub reading : Stream → List Occurrence → Reading
reading stream ls = record { Has = stream.Has; Reads = λ k p. (l : Occurrence) × (slice_get ls k ≡ Some l) × LeafReads stream l p }

-- what a path binds
abbrev pub valuation : List Occurrence → List Step → Valuation
valuation ls w = map (λ s. record { position = s.position; names = names_in (slice_get ls s.leaf) }) w
