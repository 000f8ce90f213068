-- The position automaton that the leaves of a query tell, and the leaves that can read an event.
use Rattle.std.specs.Prelude.{◌≡◌, ℕ, Bool, false, List, length, Option, Some, None, slice_get}
use Rattle.stream_schema.specs.Types.{Declared}
use Rattle.stream_schema.specs.declared.Event.{Event}
use Rattle.cel_terms.specs.declared.Query.{Query}
use Rattle.query_leaves.specs.declared.Leaf.{Leaf}
use Rattle.query_leaves.specs.declared.Leaves.{Leaves}
use Rattle.query_leaves.specs.Expand.{tree_of}
use Rattle.query_leaves.specs.Leaves.{occurrences, numbered}
use Rattle.query_leaves.specs.Shapes.{tree_of_shape, AreLeavesOf}
use Rattle.query_leaves.specs.Conditions.{leaf_conditions}
use Rattle.cea_determinise.specs.Runs.{Automaton}
use Rattle.cea_compile.specs.Compiled.{automaton_over, automaton_of}
use Rattle.cea_compile.specs.DeterminisedRuns.{entry_at}

abbrev pub is_marked_leaf : Option Leaf → Bool
is_marked_leaf None = false
is_marked_leaf (Some l) = l.marked

abbrev pub automaton_of_leaves : Leaves → Automaton
automaton_of_leaves l = automaton_over (tree_of_shape l.shape) (length l.list) (λ k. is_marked_leaf (slice_get l.list k))

-- The leaves of a query tell its automaton and, of each event, its entry in a determinised run.
pub record TellQuery (schema : Declared) (q : Query) (l : Leaves) : Type 0 where
  pub automaton : automaton_of_leaves l ≡ automaton_of (tree_of q)
  pub bits : (events : List Event) (p : ℕ) (event : Event) → slice_get events p ≡ Some event → leaf_conditions l.list event ≡ (entry_at schema q events p).bits

abbrev pub LeavesTellQuery : Type 0
LeavesTellQuery = (schema : Declared) (q : Query) (l : Leaves) →
    tree_of_shape l.shape ≡ numbered 0 (tree_of q) → AreLeavesOf schema (occurrences (tree_of q)) l.list → TellQuery schema q l
