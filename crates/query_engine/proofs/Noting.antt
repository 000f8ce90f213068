-- The clocks of an engine, before and after an event.
use Rattle.std.proofs.Common.{◌≡◌, sym, subst, ◌∙◌, ℕ, List, [], ◌∷◌, ◌++◌, length, map, Vec, Global}
use Rattle.stream_schema.specs.Types.{Declared}
use Rattle.stream_schema.specs.Events.{IsOfSchema}
use Rattle.stream_schema.specs.declared.Event.{Event}
use Rattle.cel_terms.specs.declared.Query.{Query}
use Rattle.query_standing.specs.Clocks.{NoneFallsBack, IsFirstToFall}
use Rattle.all_or_none.specs.Phases.{Phase, AreRising}
use Rattle.query_engine.specs.declared.falls.FallOf.{FallOf}
use Rattle.query_engine.specs.declared.times.Times.{Times}
use Rattle.query_engine.specs.Engine.{EngineState, StandsFor}
use Rattle.query_engine.specs.Times.{clocks_of, clocks_in, AreClocksOf, AreTimes, AreMoved, row_of, HaveClocksIn, IsFirstGroup, StayInTime, query_states_at}
use Rattle.query_engine.specs.Running.{IsKeeping}
use Rattle.query_engine.proofs.Standing.{state, length_map}
use Rattle.query_engine.proofs.Taking.{GoOn, falls_first, none_first}
use Rattle.query_engine.proofs.GroupClocks.{row_is, have_clocks_in, clocks_go_on, moved_times, none_falls_back, first_falls}

-- the queries of the query states
abbrev pub queries_of : List Phase → List Query
queries_of query_states = map (λ (p : Phase). p.query) query_states

-- the groups are those of the queries
abbrev pub AreTimesOf : Declared → List Query → Times → Type 0
AreTimesOf schema queries times = AreTimes schema queries times.groups.items times.numbers.items times.by_type.items

pub of_inside : (schema : Declared) (count : ℕ) (query_states : List Phase) (ps : List ℕ) (s : EngineState) (event : Event) → state schema count query_states ps ≡ s → IsOfSchema s.schema event → IsOfSchema schema event
of_inside schema count query_states ps s event is of = subst (λ (t : EngineState). IsOfSchema t.schema event) (sym is) of

module _ (schema : Declared) (queries : List Query) (times : Times) (t : AreTimesOf schema queries times) (event : Event) (of : IsOfSchema schema event) where
  pub can_note : (position : ℕ) → HaveClocksIn event position times.groups.items (row_of times.by_type.items event.ty)
  can_note position = have_clocks_in schema queries times.groups.items times.numbers.items times.by_type.items t event of position

  pub row_rises : AreRising (row_of times.by_type.items event.ty)
  row_rises = (row_is schema queries times.groups.items times.numbers.items times.by_type.items t event of).rising

  module _ (count : ℕ) (new : Times) (m : AreMoved event count (row_of times.by_type.items event.ty) times.groups.items new.groups.items) (same : (new.numbers ≡ times.numbers) × (new.by_type ≡ times.by_type)) where
    -- the clocks go on
    pub go_on : GoOn schema count queries event (clocks_in times) (clocks_in new)
    go_on events count_is are none =
        subst (λ (ns : Vec ℕ Global). AreClocksOf schema queries (events ++ event ∷ []) (clocks_of new.groups.items ns.items)) (sym same.0)
        (clocks_go_on schema queries times.groups.items new.groups.items times.numbers.items times.by_type.items event t of count m events count_is are none)

    -- and the groups stay
    pub times_on : AreTimesOf schema queries new
    times_on =
        subst (λ (ns : Vec ℕ Global). AreTimes schema queries new.groups.items ns.items new.by_type.items) (sym same.0)
        (subst (λ (rows : Vec (Vec ℕ Global) Global). AreTimes schema queries new.groups.items times.numbers.items rows.items) (sym same.1)
        (moved_times event count (row_of times.by_type.items event.ty) times.groups.items new.groups.items m schema queries times.numbers.items times.by_type.items t))

-- so do those of the same queries
pub times_same : (schema : Declared) (old new : List Query) (times : Times) → new ≡ old → AreTimesOf schema old times → AreTimesOf schema new times
times_same schema old new times is t = subst (λ qs. AreTimesOf schema qs times) (sym is) t

-- where a group is the first to fall, its least query is the first
pub engine_falls : (schema : Declared) (count : ℕ) (times : Times) (query_states : List Phase) (ps : List ℕ) (s : EngineState) (event : Event) (f : FallOf) → state schema count (query_states_at count query_states (clocks_in times)) ps ≡ s → IsKeeping schema count (clocks_in times) query_states ps → AreTimesOf schema (queries_of query_states) times → IsOfSchema schema event → IsFirstGroup event count times.groups.items (row_of times.by_type.items event.ty) f → (events : List Event) → StandsFor s events → IsFirstToFall s.schema s.queries events event f.query f.before f.now
engine_falls schema count times query_states ps s event f is keeps t of first =
    falls_first schema count (clocks_in times) query_states ps s event f is keeps (λ events count_is are.
    first_falls schema (queries_of query_states) times.groups.items times.numbers.items times.by_type.items t event of events are f
    (subst (λ n. IsFirstGroup event n times.groups.items (row_of times.by_type.items event.ty) f) (sym count_is) first))

-- and where none falls no query does
pub engine_in_time : (schema : Declared) (count : ℕ) (times : Times) (query_states : List Phase) (ps : List ℕ) (s : EngineState) (event : Event) → state schema count (query_states_at count query_states (clocks_in times)) ps ≡ s → IsKeeping schema count (clocks_in times) query_states ps → AreTimesOf schema (queries_of query_states) times → IsOfSchema schema event → StayInTime event count times.groups.items (row_of times.by_type.items event.ty) → (events : List Event) → StandsFor s events → NoneFallsBack s.schema s.queries events event
engine_in_time schema count times query_states ps s event is keeps t of stay =
    none_first schema count (clocks_in times) query_states ps s event is keeps (λ events count_is are.
    none_falls_back schema (queries_of query_states) times.groups.items times.numbers.items times.by_type.items t event of events are
    (subst (λ n. StayInTime event n times.groups.items (row_of times.by_type.items event.ty)) (sym count_is) stay))

-- as many numbers as there are query states
pub times_long : (schema : Declared) (query_states : List Phase) (times : Times) → AreTimesOf schema (queries_of query_states) times → length times.numbers.items ≡ length query_states
times_long schema query_states times t = t.groups_are.long ∙ length_map (λ (p : Phase). p.query) query_states
