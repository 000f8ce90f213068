-- Which of the listed leaves can read an event.
use Rattle.std.specs.Prelude.{ℕ, Bool, false, List, Option, Some, None, slice_get}
use Rattle.stream_schema.specs.declared.Event.{Event}
use Rattle.query_leaves.specs.declared.Leaf.{Leaf}
use Rattle.query_leaves.specs.Shapes.{leaf_reads}

abbrev pub can_read : Option Leaf → Event → Bool
can_read None event = false
can_read (Some l) event = leaf_reads l event

-- the numbers of the leaves that can read the event
abbrev pub leaf_conditions : List Leaf → Event → ℕ → Bool
leaf_conditions ls event k = can_read (slice_get ls k) event
