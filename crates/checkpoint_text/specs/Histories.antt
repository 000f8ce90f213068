-- A stream of which some events are blank: the events that are not, each with its position.
use Rattle.std.specs.Prelude.{ℕ, ◌+◌, ◌<◌, ◌≤◌, List, [], ◌∷◌}
use Rattle.std.specs.List.{AllByRecursion}
use Rattle.checkpoint_text.specs.declared.history.EventAt.{EventAt}

-- each position is above the one before, and at least so much
abbrev pub AreAscendingFrom : ℕ → List EventAt → Type 0
AreAscendingFrom least [] = Unit {0}
AreAscendingFrom least (e ∷ events) = (least ≤ e.position) × AreAscendingFrom (e.position + 1) events

-- The positions of the events ascend, and all are below so many.
pub record ArePlaced (positions : ℕ) (events : List EventAt) : Type 0 where
  pub ascending : AreAscendingFrom 0 events
  pub below : AllByRecursion (λ e. e.position < positions) events
