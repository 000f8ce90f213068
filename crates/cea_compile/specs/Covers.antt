-- The entries of a determinised run tell the events of a substream, and its marks are those of an answer.
use Rattle.std.specs.Prelude.{◌≡◌, ℕ, ◌<◌, ◌≤◌, ◌⊎◌, ◌↔◌, true, List, [], ◌∷◌, Contains}
use Rattle.cel_terms.specs.Meaning.{Stream}
use Rattle.cel_terms.specs.Answers.{IsAscending}
use Rattle.cea_determinise.specs.Runs.{LeafSet, Entry}
use Rattle.cea_compile.specs.Paths.{Step, Reading, MayComeAfter}

-- The entry tells the substream's event at its position.
pub record IsEntry (r : Reading) (size : ℕ) (x : Entry) : Type 0 where
  pub within : r.Has x.position
  pub bits : (k : ℕ) → r.Reads k x.position ↔ ((k < size) × (x.bits k ≡ true))

-- The entries tell the substream's events after a position, each the next of the one before, up to the end.
abbrev pub CoverAfter : Reading → ℕ → ℕ → List Entry → ℕ → Type 0
CoverAfter r size p [] end = p ≡ end
CoverAfter r size p (x ∷ xs) end = MayComeAfter r.Has true p x.position × IsEntry r size x × CoverAfter r size x.position xs end

-- The entries tell the substream's events from a start to an end.
abbrev pub Cover : Reading → ℕ → ℕ → List Entry → ℕ → Type 0
Cover r size from [] end = ⊥
Cover r size from (x ∷ xs) end = (x.position ≡ from) × IsEntry r size x × CoverAfter r size x.position xs end

-- a step of the path reads the position with a marked leaf
abbrev pub MarkedAt : LeafSet → List Step → ℕ → Type 0
MarkedAt marked [] x = ⊥
MarkedAt marked (s ∷ w) x = ((s.position ≡ x) × (marked s.leaf ≡ true)) ⊎ MarkedAt marked w x

-- Marks that a valuation from the start to the end may have: ascending positions of the substream there.
pub record AreWithin (stream : Stream) (start end : ℕ) (marks : List ℕ) : Type 0 where
  pub ascending : IsAscending marks
  pub within : (p : ℕ) → Contains marks p → stream.Has p × (start ≤ p) × (p ≤ end)
