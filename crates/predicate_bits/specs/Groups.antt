-- Leaves by their types.
use Rattle.std.specs.Prelude.{◌≡◌, ◌≢◌, ℕ, List, [], ◌∷◌, ◌++◌, length, Option, Some, None, Vec, slice_get, Contains}
use Rattle.std.specs.declared.alloc.Global.{Global}
use Rattle.query_leaves.specs.declared.Leaf.{Leaf}

-- the numbers are those of the leaves of this type
pub record IsGroup (list : List Leaf) (ty : ℕ) (numbers : List ℕ) : Type 0 where
  pub sound : (k : ℕ) → Contains numbers k → (l : Leaf) × (slice_get list k ≡ Some l) × (l.ty ≡ ty)
  pub whole : (k : ℕ) (l : Leaf) → slice_get list k ≡ Some l → l.ty ≡ ty → Contains numbers k

-- the groups that are found by type are those of the leaves, and each leaf is in one
pub record AreGrouped (list : List Leaf) (find : ℕ → Option (Vec ℕ Global)) : Type 0 where
  pub groups : (ty : ℕ) (v : Vec ℕ Global) → find ty ≡ Some v → IsGroup list ty v.items
  pub whole : (k : ℕ) (l : Leaf) → slice_get list k ≡ Some l → find l.ty ≢ None

-- the list at the place has the number as its last, and the others are as before
pub record HasOneMore (old new : List (Vec ℕ Global)) (ty number : ℕ) : Type 0 where
  pub count : length new ≡ length old
  pub others : (t : ℕ) → t ≢ ty → slice_get new t ≡ slice_get old t
  pub more : (v : Vec ℕ Global) → slice_get new ty ≡ Some v → (w : Vec ℕ Global) × (slice_get old ty ≡ Some w) × (v.items ≡ w.items ++ number ∷ [])
