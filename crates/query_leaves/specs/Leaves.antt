-- The leaves of a tree in order, the tree over their numbers, and which event a leaf can read.
use Rattle.std.specs.Prelude.{ℕ, ◌+◌, Bool, true, false, ◌&&◌, List, [], ◌∷◌, ◌++◌, length, Option, Some, None, slice_get, bytes_eq}
use Rattle.stream_schema.specs.Types.{Declared}
use Rattle.stream_schema.specs.declared.Event.{Event}
use Rattle.cel_terms.specs.declared.Pred.{Pred}
use Rattle.cel_terms.specs.Predicate.{holds}
use Rattle.cel_terms.specs.Meaning.{event_type_name}
use Rattle.cel_terms.specs.Answers.{is_bound}
use Rattle.query_leaves.specs.LeafTree.{LeafTree, leaf, none, sequence, either, plus}
use Rattle.query_leaves.specs.Expand.{Occurrence}

-- from left to right
abbrev pub occurrences : LeafTree Occurrence → List Occurrence
occurrences (leaf l) = l ∷ []
occurrences none = []
occurrences (sequence tight a b) = occurrences a ++ occurrences b
occurrences (either a b) = occurrences a ++ occurrences b
occurrences (plus tight a) = occurrences a

-- the tree with its leaves numbered from left to right
abbrev pub numbered : ℕ → LeafTree Occurrence → LeafTree ℕ
numbered base (leaf l) = leaf base
numbered base none = none
numbered base (sequence tight a b) = sequence tight (numbered base a) (numbered (base + length (occurrences a)) b)
numbered base (either a b) = either (numbered base a) (numbered (base + length (occurrences a)) b)
numbered base (plus tight a) = plus tight (numbered base a)

-- the names whose sets have the leaf's position
abbrev pub names_in : Option Occurrence → List (List ℕ)
names_in None = []
names_in (Some l) = l.names

-- A leaf is marked where its position stays in the set of some name.
abbrev pub leaf_is_marked : List Occurrence → ℕ → Bool
leaf_is_marked ls k = is_bound (names_in (slice_get ls k))

-- the event's type has this name
abbrev pub is_typed : Option (List ℕ) → List ℕ → Bool
is_typed None name = false
is_typed (Some n) name = bytes_eq n name

-- each of the tests holds of the event
abbrev pub all_hold : Declared → List Pred → Event → Bool
all_hold schema [] event = true
all_hold schema (t ∷ ts) event = holds schema t event && all_hold schema ts event

-- the leaf can read the event: its type is the event's, and its tests hold
abbrev pub occurrence_reads : Declared → Occurrence → Event → Bool
occurrence_reads schema o event = is_typed (event_type_name schema event) o.type && all_hold schema o.tests event
