-- What contracts see of a gate, and what it stands for.
use Rattle.std.specs.Prelude.{◌≡◌, ℕ, ℤ, Bool, true, false, if◌then◌else◌, List, [], ◌∷◌, ◌++◌, Option, Some, None}
use Rattle.std.specs.List.{AllByRecursion}
use Rattle.stream_schema.specs.declared.Event.{Event}
use Rattle.reorder_gate.specs.declared.gate.TooLate.{TooLate}
use Rattle.reorder_gate.specs.AttributeClock.{clock_in}
use Rattle.reorder_gate.specs.Sorting.{placed, sorted}
use Rattle.reorder_gate.specs.Releasing.{raised, is_late, is_due, greatest, IsInTime, released}

-- A gate: where the clock is read, how late an event may come, the greatest clock that was put, and the events that are held, each with its line, in the order in which they go.
pub record GateState : Type 0 where
  pub places : List (Option ℕ)
  pub late : ℕ
  pub high : Option ℤ
  pub is_finished : Bool
  pub events : List (ℕ × Event)

-- the clock of an event with its line
abbrev pub clock_at : List (Option ℕ) → ℕ × Event → ℤ
clock_at places e = clock_in places e.1

-- how the event comes too late, where it does
abbrev pub lateness : Option ℤ → ℕ → ℤ → Option TooLate
lateness None late now = None
lateness (Some high) late now = if is_late late (Some high) now then Some (record { high = high; now = now }) else None

-- the gate with the event among those that it holds
abbrev pub with_event : GateState → ℕ × Event → GateState
with_event g e = record g { high = Some (raised g.high (clock_at g.places e)); events = placed (clock_at g.places) e g.events }

-- the event may go: all may at the end, before it those whose clock is at least `late` below the greatest
abbrev pub may_go : GateState → ℕ × Event → Bool
may_go g e = if g.is_finished then true else is_due g.late g.high (clock_at g.places e)

abbrev pub first_due : GateState → List (ℕ × Event) → Bool
first_due g [] = false
first_due g (e ∷ events) = may_go g e

-- the first of the held events may go
abbrev pub any_due : GateState → Bool
any_due g = first_due g g.events

-- The events of the first list were put, in this order and none too late, and those of the second have gone, in this order. These and then the held ones are the sorted events that were put; each that has gone is due.
pub record StandsFor (g : GateState) (put gone : List (ℕ × Event)) : Type 0 where
  pub in_time : IsInTime (clock_at g.places) g.late put
  pub high : g.high ≡ greatest (clock_at g.places) put
  pub order : gone ++ g.events ≡ sorted (clock_at g.places) put
  pub due : AllByRecursion (λ e. may_go g e ≡ true) gone

-- what has gone when no held event may go: at the end all, before it those that are released
abbrev pub all_due : GateState → List (ℕ × Event) → List (ℕ × Event)
all_due g put = if g.is_finished then sorted (clock_at g.places) put else released (clock_at g.places) g.late put
