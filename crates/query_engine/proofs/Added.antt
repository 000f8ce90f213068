-- What an event adds to an engine, and what a compaction leaves of the counts of nodes.
use Rattle.std.proofs.Common.{◌≡◌, ℕ, zero, suc, ◌+◌, ◌-◌, ◌≤◌, List, [], ◌∷◌, map, length, ap, subst, slice_get, arith, length-append}
use Rattle.std.specs.Option.{option_map_or}
use Rattle.std.specs.List.{AllZip}
use Rattle.stream_schema.specs.Types.{Declared}
use Rattle.stream_schema.specs.declared.Event.{Event}
use Rattle.tecs_enumerate.specs.Remaining.{CursorState}
use Rattle.arena_compact.specs.Moves.{later}
use Rattle.query_standing.specs.Kept.{QueryState}
use Rattle.all_or_none.specs.Phases.{Phase, HasGrown}
use Rattle.query_engine.specs.Engine.{EngineState, found_of, len_of}
use Rattle.query_engine.specs.Running.{IsRunning, raised}
use Rattle.query_engine.specs.Compacting.{IsCompacted}
use Rattle.query_engine.specs.Windows.{later_of, IsDense, HasAdded}
use Rattle.query_engine.proofs.Standing.{state}
use Rattle.query_engine.proofs.Growth.{nodes_there, states_there}
use Rattle.query_engine.proofs.Taking.{Took, took_growth, took_unread, took_peak}
use Rattle.query_engine.proofs.Settled.{settled_same, settled_found}
use Rattle.query_engine.proofs.Windows.{later_added, compaction_keeps_dense}

-- how many nodes of the query state at a place start at the position or later
abbrev later_there : List Phase → ℕ → ℕ → ℕ
later_there query_states k p = option_map_or (λ (x : QueryState). later p x.nodes) (slice_get (map (λ (x : Phase). x.kept) query_states) k) 0

-- AN EVENT

states_grow : (event : Event) (old new : List Phase) (k : ℕ) → AllZip (HasGrown event) old new → states_there old k ≤ states_there new k
states_grow event [] [] k z = omega arith
states_grow event [] (n ∷ new) k z = absurd z
states_grow event (o ∷ old) [] k z = absurd z
states_grow event (o ∷ old) (n ∷ new) zero z =
    let same = ap length z.0.grows.extends.states in
    let long = length-append o.kept.table.states z.0.grows.extends.more_states in
    omega arith
states_grow event (o ∷ old) (n ∷ new) (suc k) z = states_grow event old new k z.1

later_grows : (event : Event) (old new : List Phase) (k p : ℕ) → AllZip (HasGrown event) old new → later_there new k p + nodes_there old k ≤ later_there old k p + nodes_there new k
later_grows event [] [] k p z = omega arith
later_grows event [] (n ∷ new) k p z = absurd z
later_grows event (o ∷ old) [] k p z = absurd z
later_grows event (o ∷ old) (n ∷ new) zero p z =
    let more = z.0.grows.extends.more_nodes in
    let same = z.0.grows.extends.nodes in
    let many = ap length same in
    let long = length-append o.kept.nodes more in
    let is = ap (later p) same in
    let few = later_added p o.kept.nodes more in
    omega (arith, many, long, is, few)
later_grows event (o ∷ old) (n ∷ new) (suc k) p z = later_grows event old new k p z.1

module _ (schema : Declared) (count : ℕ) (old : List Phase) (ps : List ℕ) (event : Event) (new : List Phase) (t : Took schema count old ps event new) (s : EngineState) (is : state schema count old ps ≡ s) where
  found_on : (query : ℕ) → found_of s query ≤ found_of (state schema (count + 1) new ps) query
  unfolding found_of
  found_on query = subst (λ (z : EngineState). found_of z query ≤ found_of (state schema (count + 1) new ps) query) is (states_grow event old new (query - 1) t.grown)

  later_on : (query position : ℕ) → later_of (state schema (count + 1) new ps) query position + len_of s query ≤ later_of s query position + len_of (state schema (count + 1) new ps) query
  unfolding later_of len_of
  later_on query position =
      subst (λ (z : EngineState). later_of (state schema (count + 1) new ps) query position + len_of z query ≤ later_of z query position + len_of (state schema (count + 1) new ps) query) is (later_grows event old new (query - 1) position t.grown)

  pub took_added : HasAdded s (state schema (count + 1) new ps) event
  took_added = record {
    found = found_on;
    growth = took_growth schema count old ps event new t s is;
    unread = took_unread schema count old ps event new t s is;
    later = later_on;
    peak = took_peak schema count old ps event new t s is;
  }

-- A COMPACTION

zip_later : (old new : List Phase) (k p : ℕ) → AllZip IsCompacted old new → later_there new k p ≤ later_there old k p
zip_later [] [] k p z = omega arith
zip_later [] (n ∷ new) k p z = absurd z
zip_later (o ∷ old) [] k p z = absurd z
zip_later (o ∷ old) (n ∷ new) zero p z = z.0.fewer_later p
zip_later (o ∷ old) (n ∷ new) (suc k) p z = zip_later old new k p z.1

module _ (schema : Declared) (count : ℕ) (old new : List Phase) (ps qs : List ℕ) (ws vs : List CursorState) (running : IsRunning schema count old ps) (z : AllZip IsCompacted old new) (peaks : qs ≡ raised ps old) (s : EngineState) (is : state schema count old ps ≡ s) where
  settled_later : (query position : ℕ) → later_of (state schema count new qs) query position ≤ later_of s query position
  unfolding later_of
  settled_later query position = subst (λ (t : EngineState). later_of (state schema count new qs) query position ≤ later_of t query position) is (zip_later old new (query - 1) position z)

  pub settled_dense : (events : List Event) → IsDense s events → IsDense (state schema count new qs) events
  settled_dense events dense =
      compaction_keeps_dense s (state schema count new qs) events (settled_same schema count old new ps qs ws vs running z peaks s is) (settled_found schema count old new ps qs ws vs running z peaks s is) settled_later dense
