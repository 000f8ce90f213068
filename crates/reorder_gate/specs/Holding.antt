-- How a gate keeps its events.
-- Private clauses alone cite it; the public ones speak of the events in their order.
use Rattle.std.specs.Prelude.{◌≡◌, ℕ, ◌<◌, List, Option, map}
use Rattle.std.specs.List.{AllByRecursion}
use Rattle.stream_schema.specs.declared.Event.{Event}
use Rattle.reorder_gate.specs.declared.gate.ReleaseKey.{ReleaseKey}
use Rattle.reorder_gate.specs.Sorting.{Ascends}
use Rattle.reorder_gate.specs.Gates.{clock_at}

-- The turns have the clocks of their events and an arrival each, and the events ascend.
pub record IsKept (places : List (Option ℕ)) (arrivals : ℕ) (entries : List (ReleaseKey × (ℕ × Event))) : Type 0 where
  pub turns : AllByRecursion (λ e. (e.0.clock ≡ clock_at places e.1) × (e.0.arrival < arrivals)) entries
  pub ascends : Ascends (clock_at places) (map (λ e. e.1) entries)
