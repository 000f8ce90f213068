-- What is known of an event before the lists of its key are worked out.
use Rattle.std.specs.Prelude.{◌≡◌, ℕ, ◌<◌, Bool, List, Option, Some, None, length, slice_index_or}
use Rattle.stream_schema.specs.declared.Event.{Event}
use Rattle.query_state.specs.KeyPlaces.{key_there}
use Rattle.query_state.specs.Matches.{OpenMatches, HasKeyThere, Stays}
use Rattle.query_state.specs.declared.own.Own.{Own}
use Rattle.query_state.specs.declared.own.Own.TheVariants.{NoOp, Passes, At, Unknown}

-- The number is that of the key that the event has by the table of places.
pub record HasOwnNumber (h : OpenMatches) (table : List (Option (List ℕ))) (event : Event) (number : ℕ) : Type 0 where
  pub places : List ℕ
  pub places_are : slice_index_or table event.ty None ≡ Some places
  pub there : HasKeyThere h places event.values number

-- where the event may pass, the number of its key is that of lists
abbrev pub HasNumberThere : Own → OpenMatches → Type 0
HasNumberThere NoOp h = Unit {0}
HasNumberThere (Passes number) h = number < length h.rows
HasNumberThere (At number) h = Unit {0}
HasNumberThere Unknown h = Unit {0}

-- The event leaves all lists as they are, or its key has the number, or both, or nothing is said.
abbrev pub IsOwn : Own → OpenMatches → List (Option (List ℕ)) → Event → List Bool → List Bool → Bool → Type 0
IsOwn NoOp h table event first bits skip_insensitive = Stays h (key_there table event) first bits skip_insensitive
IsOwn (Passes number) h table event first bits skip_insensitive = Stays h (key_there table event) first bits skip_insensitive × HasOwnNumber h table event number
IsOwn (At number) h table event first bits skip_insensitive = HasOwnNumber h table event number
IsOwn Unknown h table event first bits skip_insensitive = Unit {0}
