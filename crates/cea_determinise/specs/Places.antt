-- The slots of pairs of state and class, each with a place.
use Rattle.std.specs.Prelude.{ℕ, ◌+◌, ◌*◌, ◌&&◌, nat_lt, cond, List, get_or, Option, Some, None}
use Rattle.std.specs.Option.{option_map_or}
use Rattle.cea_determinise.specs.declared.table.TransitionKey.{TransitionKey}
use Rattle.cea_determinise.specs.declared.places.TheConstants.{SLOTTED_STATES, SLOTTED_EVENT_CLASSES}

-- the slot of a pair of the first states and classes, none for others
abbrev pub slot_of : TransitionKey → Option ℕ
slot_of p = cond (nat_lt p.state SLOTTED_STATES && nat_lt p.event_class SLOTTED_EVENT_CLASSES) (Some (p.state * SLOTTED_EVENT_CLASSES + p.event_class)) None

-- the place in the pair's slot, 0 where there is none
abbrev pub place_in : List ℕ → TransitionKey → ℕ
place_in places p = option_map_or (λ i. get_or places i 0) (slot_of p) 0
