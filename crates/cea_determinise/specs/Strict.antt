-- Determinised runs that also watch that the marks are contiguous.
use Rattle.std.specs.Prelude.{ℕ, Bool, true, false, List, [], ◌∷◌, Option, Some, None, option_and_then, option_map}
use Rattle.cea_determinise.specs.declared.cea.Phase.{Phase}
use Rattle.cea_determinise.specs.declared.cea.Phase.TheVariants.{Before, Within, After}
use Rattle.cea_determinise.specs.Runs.{LeafSet, Automaton, RunState, start, next, Entry, accepts}

-- Where marks need not be contiguous the phase stays.
abbrev pub phase_after : Bool → Phase → Bool → Option Phase
phase_after false p m = Some p
phase_after true Before true = Some Within
phase_after true Before false = Some Before
phase_after true Within true = Some Within
phase_after true Within false = Some After
phase_after true After true = None
phase_after true After false = Some After

pub record Standing : Type 0 where
  pub sets : RunState
  pub phase : Phase

abbrev pub begin : Standing
begin = record { sets = start; phase = Before }

abbrev pub next_standing : Automaton → Bool → Standing → LeafSet → Bool → Option Standing
next_standing a strict s bits mark = option_and_then (λ p. option_map (λ t. record { sets = t; phase = p }) (next a s.sets bits mark)) (phase_after strict s.phase mark)

abbrev pub run_standing : Automaton → Bool → (ℕ → Bool) → Standing → List Entry → Option Standing
run_standing a strict marks s [] = Some s
run_standing a strict marks s (x ∷ xs) = option_and_then (λ t. run_standing a strict marks t xs) (next_standing a strict s x.bits (marks x.position))

abbrev pub accepted_standing : Automaton → Option Standing → Bool
accepted_standing a None = false
accepted_standing a (Some s) = accepts a s.sets
