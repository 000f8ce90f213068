-- What is found of a part of a shape: where it may begin and end, and which of its leaves follow which.
use Rattle.std.specs.Prelude.{◌≡◌, ℕ, Bool, ◌||◌}
use Rattle.cer_base.specs.Bits.{has}
use Rattle.query_leaves.specs.LeafTree.{LeafTree}
use Rattle.cea_compile.specs.declared.followers.Followers.{Followers}
use Rattle.cea_compile.specs.declared.ends.Ends.{Ends}
use Rattle.cea_compile.specs.Compiled.{first_set, last_set, follow_set}
use Rattle.cea_compile.specs.Found.{FollowersHaveRoom, pairs, EndsHaveRoom}

-- They are the ends of the tree, and the followers before and after differ by which of its leaves follow which.
pub record AreEndsOf (size : ℕ) (t : LeafTree ℕ) (before after : Followers) (e : Ends) : Type 0 where
  pub ends : EndsHaveRoom size e
  pub first : (k : ℕ) → has e.first k ≡ first_set t k
  pub last : (k : ℕ) → has e.last k ≡ last_set t k
  pub room : FollowersHaveRoom size after
  pub pairs : (tight : Bool) (j k : ℕ) → pairs after tight j k ≡ pairs before tight j k || follow_set t tight j k
