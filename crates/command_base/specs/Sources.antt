-- What the outside says of a source, as it was handed over and as it is given back.
use Rattle.std.specs.Prelude.{ℕ, List, Option, Some, None}

-- what the outside says of a source: its count of faults, and what it has left
pub record Sources (S : Type 0) : Type 0 where
  pub faults : S → ℕ
  pub left : S → Option (List ℕ)

-- what the source that failed has left
abbrev pub left_by : {S : Type 0} → Sources S → Option S → Option (List ℕ)
left_by sources None = None
left_by sources (Some source) = sources.left source
