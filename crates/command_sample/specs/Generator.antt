-- The generated events, which a seed determines.
use Rattle.std.specs.Prelude.{ℕ, zero, suc, ◌+◌, ◌*◌, ◌/◌, ◌%◌, ◌^◌, pos, List, [], ◌∷◌, ◌++◌}
use Rattle.stream_schema.specs.declared.Event.{Event}
use Rattle.stream_schema.specs.declared.Value.TheVariants.{Int}

-- the generator's value after this one
abbrev pub next_value : ℕ → ℕ
next_value x = (x * 6364136223846793005 + 1442695040888963407) % 2 ^ 64

-- the event that a value makes: type 0 or 1 by the first of its 64 bits, and a number of the seven bits after it
abbrev pub generated_event : ℕ → Event
generated_event x = record { ty = x / 2 ^ 63; values = Int (pos (x / 2 ^ 56 % 128)) ∷ [] }

-- the value after so many events
abbrev pub value_after : ℕ → ℕ → ℕ
value_after seed zero = seed
value_after seed (suc n) = next_value (value_after seed n)

-- the first so many events
abbrev pub generated : ℕ → ℕ → List Event
generated seed zero = []
generated seed (suc n) = generated seed n ++ generated_event (value_after seed (suc n)) ∷ []
