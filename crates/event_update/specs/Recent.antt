-- Lists that hold a match which may still be asked for.
use Rattle.std.specs.Prelude.{ℕ, ℤ, Bool, false, List, [], ◌∷◌, int_le}
use Rattle.std.specs.List.{filter}
use Rattle.cer_base.specs.declared.node.Root.{Root}
use Rattle.event_update.specs.declared.Staged.{Staged}
use Rattle.event_update.specs.declared.Staged.TheVariants.{Unchanged, Moved, Changed}

-- whether the list's greatest start is at the low clock or later
abbrev pub is_recent : ℤ → List Root → Bool
is_recent low [] = false
is_recent low (e ∷ es) = int_le low e.max.clock

-- the rows whose lists are, in order
abbrev pub recent_rows : ℤ → List (ℕ × List Root) → List (ℕ × List Root)
recent_rows low rows = filter (λ (r : ℕ × List Root). is_recent low r.1) rows

-- the rows that go on: where rows are made anew, those of recent lists, else all
abbrev pub going_on : ℤ → List (ℕ × List Root) → Staged → List (ℕ × List Root)
going_on low rows Unchanged = rows
going_on low rows (Moved states) = rows
going_on low rows (Changed new) = recent_rows low rows
