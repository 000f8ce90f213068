-- The steps of a call for which memory ran out.
use Rattle.std.specs.Prelude.{◌≡◌, ℕ, ◌+◌, ◌≤◌, ◌⊎◌, List, [], ◌∷◌, ◌++◌, length, Result, Ok, Err}
use Rattle.cer_base.specs.declared.OrMemory.{OrMemory}
use Rattle.cer_base.specs.declared.OrMemory.TheVariants.{Fault, Memory}
use Rattle.stream_schema.specs.Types.{Declared}
use Rattle.stream_schema.specs.declared.Event.{Event}
use Rattle.cel_terms.specs.declared.Query.{Query}
use Rattle.query_engine.specs.Bounds.{update_bound, for_each_query}
use Rattle.query_engine.specs.Counts.{MeetMost}

-- the fact, where memory ran out
abbrev pub OnMemory : {T F : Type 0} → Result T (OrMemory F) → Type 0 → Type 0
OnMemory (Ok done) P = Unit {0}
OnMemory (Err (Fault fault)) P = Unit {0}
OnMemory (Err Memory) P = P

-- However many states the runs over these events meet, the steps that the last of them took are bounded by them.
abbrev pub AreWantingSteps : Declared → List Query → List Event → ℕ → ℕ → Type 0
AreWantingSteps schema queries events before now = (most : ℕ → ℕ) → MeetMost schema queries events most →
    now ≤ before + for_each_query (length queries) (λ k. update_bound (most k))

-- No step was taken; or memory ran out while an event was taken, which comes next after these.
abbrev pub WantsSteps : Declared → List Query → List Event → (Event → Type 0) → ℕ → ℕ → Type 0
WantsSteps schema queries events ComesNext before now = (now ≡ before) ⊎ ((next : Event) × ComesNext next × AreWantingSteps schema queries (events ++ next ∷ []) before now)
