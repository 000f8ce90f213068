-- What the engine knows of the query states that an event need not go to.
use Rattle.std.specs.Prelude.{◌≡◌, ℕ, ◌<◌, List, Bool, true, false, ◌||◌, length, map, Some, slice_get}
use Rattle.stream_schema.specs.Types.{Declared}
use Rattle.cel_terms.specs.declared.Query.{Query}
use Rattle.cer_base.specs.Bits.{has, room_for}
use Rattle.query_leaves.specs.Expand.{tree_of}
use Rattle.query_leaves.specs.Leaves.{occurrences}
use Rattle.all_or_none.specs.Phases.{Phase, IsDormant, IsEmpty, AreLeft}
use Rattle.all_or_none.specs.Dormancy.{phase_at}
use Rattle.all_or_none.specs.declared.Activity.{Activity}
use Rattle.query_index.specs.Rows.{Table, AreExact, AreWaiting, IsLeafIndex}

-- the room that the leaves of the query take in a set
abbrev pub leaf_room : Query → ℕ
leaf_room q = room_for (length (occurrences (tree_of q)))

-- there is one set for each query, with room for its leaves
abbrev pub AreLeafSets : List Query → List (List Bool) → Type 0
AreLeafSets queries sets = map (λ (set : List Bool). length set) sets ≡ map leaf_room queries

-- each number of the first set is in one of the others
abbrev pub AreOfEither : List Bool → List Bool → List Bool → Type 0
AreOfEither marked active_queries read = (k : ℕ) → has marked k ≡ true → (has active_queries k || has read k) ≡ true

-- The first so many query states were looked at, and no others are noted.
pub record HaveLooked (query_states : List Phase) (activity : Activity) (k : ℕ) : Type 0 where
  pub rest : (j : ℕ) (p : Phase) → j < k → slice_get query_states j ≡ Some p → has activity.active_queries j ≡ false → IsDormant (λ n. phase_at n p)
  pub empty : (j : ℕ) (p : Phase) → j < k → slice_get query_states j ≡ Some p → has activity.open_queries j ≡ false → IsEmpty (λ n. phase_at n p)
  pub within : (j : ℕ) → has activity.active_queries j ≡ true → has activity.open_queries j ≡ true

-- The table is of the leaves of all queries, each of which has a set for its leaves, and what is noted of the query states is known of them.
pub record IsDispatch (schema : Declared) (queries : List Query) (count : ℕ) (query_states : List Phase) (table : Table) (activity : Activity) (marked read : List Bool) (leaf_sets : List (List Bool)) : Type 0 where
  pub leaf_index : IsLeafIndex schema queries table.rows table.leaves
  pub exact : AreExact schema queries table.rows table.leaves
  pub waiting : AreWaiting queries table.rows table.leaves
  pub queries_are : table.count ≡ length queries
  pub room : length activity.active_queries ≡ room_for (length queries)
  pub open_room : length activity.open_queries ≡ length activity.active_queries
  pub sets : length marked ≡ length activity.active_queries
  pub reads : length read ≡ length activity.active_queries
  pub leaves : AreLeafSets queries leaf_sets
  pub left : AreLeft phase_at count activity query_states
