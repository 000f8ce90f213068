-- The search for a run of the leaves over the events of a span: what each step of it computes.
-- Nobody needs to believe these; the public contracts speak of the meaning alone.
use Rattle.std.specs.Prelude.{◌≡◌, ℕ, ◌<◌, Bool, true, false, not, ◌&&◌, ◌||◌, List, [], ◌∷◌, slice_get, map, Some, ⊤}
use Rattle.stream_schema.specs.Types.{Declared}
use Rattle.stream_schema.specs.declared.Event.{Event}
use Rattle.cel_terms.specs.declared.Query.{Query}
use Rattle.query_leaves.specs.Expand.{tree_of}
use Rattle.cea_compile.specs.Compiled.{automaton_of}
use Rattle.cea_compile.specs.DeterminisedRuns.{entry_at}
use Rattle.query_leaves.specs.declared.Leaf.{Leaf}
use Rattle.query_leaves.specs.Conditions.{leaf_conditions}
use Rattle.cer_base.specs.Bits.{has}
use Rattle.cea_determinise.specs.Runs.{LeafSet, Automaton, some_below, agrees, Entry, has_mark}
use Rattle.cea_determinise.specs.Cea.{IsSet}
use Rattle.cea_compile.specs.Paths.{Step}
use Rattle.match_explain.specs.declared.turns.Turn.{Turn}
use Rattle.match_explain.specs.declared.moves.Last.{Last}
use Rattle.match_explain.specs.declared.moves.Last.TheVariants.{Start, Leaf as At}
use Rattle.match_explain.specs.declared.moves.Age.{Age}
use Rattle.match_explain.specs.declared.moves.Age.TheVariants.{Just, Earlier}
use Rattle.match_explain.specs.declared.finishing.Ahead.{Ahead}

-- The turn is that of the event at the position: the leaves that can read it and are marked where it is.
pub record IsTurnAt (leaves : List Leaf) (marked_leaves : LeafSet) (size : ℕ) (events : List Event) (marks : List ℕ) (place : ℕ) (turn : Turn) : Type 0 where
  pub position : turn.position ≡ place
  pub marked : turn.marked ≡ has_mark marks place
  pub set : IsSet size turn.readers
  pub readers : (event : Event) → slice_get events place ≡ Some event → (k : ℕ) → has turn.readers k ≡ (leaf_conditions leaves event k && agrees turn.marked (marked_leaves k))

-- the leaf may read the next event after what read last
abbrev pub may_read : Automaton → Last → LeafSet
may_read a Start j = a.first j
may_read a (At Just k) j = a.near k j || a.far k j
may_read a (At Earlier k) j = a.far k j

-- the next event is passed over
abbrev pub passed : Last → Last
passed Start = Start
passed (At age k) = At Earlier k

-- only what has begun passes events over
abbrev pub has_begun : Last → Bool
has_begun Start = false
has_begun (At age k) = true

-- what read the last event may have read the end
abbrev pub has_ended : Automaton → Last → Bool
has_ended a Start = false
has_ended a (At Just k) = a.last k
has_ended a (At Earlier k) = false

-- the run can be finished over the turns
abbrev pub can_finish : Automaton → Last → List Turn → Bool
can_finish a last [] = has_ended a last
can_finish a last (t ∷ ts) =
    some_below a.size (λ j. may_read a last j && (has t.readers j && can_finish a (At Just j) ts))
    || (has_begun last && (not t.marked && can_finish a (passed last) ts))

-- the leaf goes on to one of the finishers of the turn, or, where the turn is not marked, past it
abbrev pub goes_on : Automaton → Age → Bool → List Bool → List Bool → LeafSet
goes_on a age marked finishers earlier k =
    some_below a.size (λ j. may_read a (At age k) j && has finishers j) || (not marked && has earlier k)

-- The steps finish the run over the turns.
pub data Goes (a : Automaton) : Last → List Turn → List Step → Type 0 where
  finished : {last : Last} → has_ended a last ≡ true → Goes a last [] []
  reading : {last : Last} {j : ℕ} {t : Turn} {ts : List Turn} {w : List Step} → j < a.size → may_read a last j ≡ true → has t.readers j ≡ true → Goes a (At Just j) ts w → Goes a last (t ∷ ts) (record { leaf = j; position = t.position } ∷ w)
  passing : {last : Last} {t : Turn} {ts : List Turn} {w : List Step} → has_begun last ≡ true → t.marked ≡ false → Goes a (passed last) ts w → Goes a last (t ∷ ts) w

-- each set has the leaves that can read the turn's event and finish after it
abbrev pub AreFinishers : Automaton → List Turn → List (List Bool) → Type 0
AreFinishers a [] [] = ⊤
AreFinishers a (t ∷ ts) (f ∷ fs) = ((k : ℕ) → k < a.size → has f k ≡ (has t.readers k && can_finish a (At Just k) ts)) × IsSet a.size f × AreFinishers a ts fs
AreFinishers a _ _ = ⊥

-- The leaves that can finish over the turns, where they have read the event just before, and where an earlier one.
pub record IsAhead (a : Automaton) (turns : List Turn) (ahead : Ahead) : Type 0 where
  pub just : (k : ℕ) → k < a.size → has ahead.just k ≡ can_finish a (At Just k) turns
  pub earlier : (k : ℕ) → k < a.size → has ahead.earlier k ≡ can_finish a (At Earlier k) turns
  pub just_set : IsSet a.size ahead.just
  pub earlier_set : IsSet a.size ahead.earlier

-- the leaf that read last is one of the automaton
abbrev pub IsLeafBelow : ℕ → Last → Type 0
IsLeafBelow size Start = ⊤
IsLeafBelow size (At age k) = k < size

-- The turn is the entry's.
pub record IsTurnOf (a : Automaton) (marks : ℕ → Bool) (x : Entry) (t : Turn) : Type 0 where
  pub position : t.position ≡ x.position
  pub marked : t.marked ≡ marks x.position
  pub readers : (k : ℕ) → has t.readers k ≡ (x.bits k && agrees t.marked (a.marked k))

abbrev pub AreTurnsOf : Automaton → (ℕ → Bool) → List Entry → List Turn → Type 0
AreTurnsOf a marks [] [] = Unit {0}
AreTurnsOf a marks [] (t ∷ ts) = ⊥
AreTurnsOf a marks (x ∷ xs) [] = ⊥
AreTurnsOf a marks (x ∷ xs) (t ∷ ts) = IsTurnOf a marks x t × AreTurnsOf a marks xs ts

-- The steps are those of a run over the events of the span.
pub record IsRun (schema : Declared) (q : Query) (events : List Event) (span marks : List ℕ) (steps : List Step) : Type 0 where
  pub turns : List Turn
  pub told : AreTurnsOf (automaton_of (tree_of q)) (has_mark marks) (map (entry_at schema q events) span) turns
  pub goes : Goes (automaton_of (tree_of q)) Start turns steps

-- There is no run over the events of the span.
pub record HasNoRun (schema : Declared) (q : Query) (events : List Event) (span marks : List ℕ) : Type 0 where
  pub turns : List Turn
  pub told : AreTurnsOf (automaton_of (tree_of q)) (has_mark marks) (map (entry_at schema q events) span) turns
  pub stuck : can_finish (automaton_of (tree_of q)) Start turns ≡ false
