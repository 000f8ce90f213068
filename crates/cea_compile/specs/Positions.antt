-- The position automaton of a tree, and the walks through it.
use Rattle.std.specs.Prelude.{◌≡◌, ℕ, ◌⊎◌, Bool, List, [], ◌∷◌, Decides}
use Rattle.query_leaves.specs.LeafTree.{LeafTree, leaf, none, sequence, either, plus}
use Rattle.cea_determinise.specs.Runs.{Automaton, follow}
use Rattle.cea_compile.specs.Paths.{Step, Reading, MayComeAfter}

-- a path may begin with the leaf
abbrev pub First : LeafTree ℕ → ℕ → Type 0
First (leaf n) k = k ≡ n
First none k = ⊥
First (sequence tight a b) k = First a k
First (either a b) k = First a k ⊎ First b k
First (plus tight a) k = First a k

-- a path may end with the leaf
abbrev pub Last : LeafTree ℕ → ℕ → Type 0
Last (leaf n) k = k ≡ n
Last none k = ⊥
Last (sequence tight a b) k = Last b k
Last (either a b) k = Last a k ⊎ Last b k
Last (plus tight a) k = Last a k

-- The second leaf may come after the first: far, or near where tight.
abbrev pub HasFollower : LeafTree ℕ → Bool → ℕ → ℕ → Type 0
HasFollower (leaf n) tight j k = ⊥
HasFollower none tight j k = ⊥
HasFollower (sequence t a b) tight j k = HasFollower a tight j k ⊎ (HasFollower b tight j k ⊎ (tight ≡ t) × Last a j × First b k)
HasFollower (either a b) tight j k = HasFollower a tight j k ⊎ HasFollower b tight j k
HasFollower (plus t a) tight j k = HasFollower a tight j k ⊎ (tight ≡ t) × Last a j × First a k

-- The steps lead on from a leaf that has read a position, to a leaf that has read the end.
pub data Steps (r : Reading) (Follow : Bool → ℕ → ℕ → Type 0) : ℕ → ℕ → List Step → ℕ → ℕ → Type 0 where
  done : {j p : ℕ} → Steps r Follow j p [] j p
  step : {tight : Bool} {j p k q l e : ℕ} {w : List Step} → Follow tight j k → MayComeAfter r.Has tight p q → r.Reads k q → Steps r Follow k q w l e → Steps r Follow j p (record { leaf = k; position = q } ∷ w) l e

-- The walk takes the position automaton of the tree from a first leaf to a last one.
pub data Walk (r : Reading) (t : LeafTree ℕ) : ℕ → ℕ → List Step → Type 0 where
  walk : {j l start end : ℕ} {w : List Step} → First t j → r.Reads j start → Steps r (HasFollower t) j start w l end → Last t l → Walk r t start end (record { leaf = j; position = start } ∷ w)

-- It is the tree's.
pub record IsAutomatonOf (t : LeafTree ℕ) (a : Automaton) : Type 0 where
  pub first : (k : ℕ) → Decides (a.first k) (First t k)
  pub last : (k : ℕ) → Decides (a.last k) (Last t k)
  pub follow : (tight : Bool) (j k : ℕ) → Decides (follow a tight j k) (HasFollower t tight j k)
