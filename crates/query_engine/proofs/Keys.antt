-- How many keys an event adds to an engine's queries, and how many a compaction leaves.
use Rattle.std.proofs.Common.{◌≡◌, ℕ, zero, suc, ◌+◌, ◌-◌, ◌≤◌, List, [], ◌∷◌, map, length, refl, sym, ap, subst, ◌∙◌, All, Option, Some, slice_get, arith}
use Rattle.std.specs.Option.{option_map_or}
use Rattle.std.specs.List.{AllZip}
use Rattle.std.proofs.lemmas.List.Elements.{All-head, All-tail, All-weaker}
use Rattle.stream_schema.specs.Types.{Declared}
use Rattle.stream_schema.specs.declared.Event.{Event}
use Rattle.cel_terms.specs.declared.Query.{Query}
use Rattle.query_standing.specs.Clocks.{Reads}
use Rattle.query_standing.specs.Kept.{QueryState, QueryStateStands, low_at}
use Rattle.all_or_none.specs.Phases.{Phase, HasGrown}
use Rattle.query_engine.specs.Engine.{EngineState, Open, StandsFor, kept_of, MayStartAt}
use Rattle.query_engine.specs.Compacting.{IsTrimmed, IsLeft}
use Rattle.query_engine.specs.Keys.{keys_of, IsWithin, IsReadSince, HasAddedKeys, KeysFollowWindow}
use Rattle.query_engine.proofs.Standing.{state}
use Rattle.query_engine.proofs.Taking.{Took}
use Rattle.query_engine.proofs.FewKeys.{keys_few}
use Rattle.query_engine.proofs.Windows.{own_low, query_state_of_query}

-- how many keys the query state at a place has
abbrev keys_there : List Phase → ℕ → ℕ
keys_there query_states k = option_map_or (λ (p : QueryState). length p.keys) (slice_get (map (λ (p : Phase). p.kept) query_states) k) 0

-- AN EVENT

few_there : (event : Event) (old new : List Phase) (k : ℕ) → AllZip (HasGrown event) old new → keys_there new k ≤ keys_there old k + 1
few_there event [] [] k z = omega arith
few_there event [] (n ∷ new) k z = absurd z
few_there event (o ∷ old) [] k z = absurd z
few_there event (o ∷ old) (n ∷ new) zero z = z.0.grows.key
few_there event (o ∷ old) (n ∷ new) (suc k) z = few_there event old new k z.1

none_there : (schema : Declared) (event : Event) (old new : List Phase) (k : ℕ) (q : Query) → AllZip (HasGrown event) old new → All (λ (p : Phase). p.schema ≡ schema) old → slice_get (map (λ (p : Phase). p.query) old) k ≡ Some q → (Reads schema q event → ⊥) → keys_there new k ≡ keys_there old k
none_there schema event [] [] k q z schemas at unread = refl
none_there schema event [] (n ∷ new) k q z schemas at unread = absurd z
none_there schema event (o ∷ old) [] k q z schemas at unread = absurd z
none_there schema event (o ∷ old) (n ∷ new) zero q z schemas at unread =
    let is : o.query ≡ q = cc in
    let schema_is = All-head (λ (p : Phase). p.schema ≡ schema) o old schemas in
    z.0.grows.no_key (λ r. unread (subst (λ y. Reads schema y event) is (subst (λ s. Reads s o.query event) schema_is r)))
none_there schema event (o ∷ old) (n ∷ new) (suc k) q z schemas at unread = none_there schema event old new k q z.1 (All-tail (λ (p : Phase). p.schema ≡ schema) o old schemas) at unread

module _ (schema : Declared) (count : ℕ) (old : List Phase) (ps : List ℕ) (event : Event) (new : List Phase) (t : Took schema count old ps event new) (s : EngineState) (is : state schema count old ps ≡ s) where
  few_on : (query : ℕ) → keys_of (state schema (count + 1) new ps) query ≤ keys_of s query + 1
  unfolding keys_of
  few_on query = subst (λ (z : EngineState). keys_of (state schema (count + 1) new ps) query ≤ keys_of z query + 1) is (few_there event old new (query - 1) t.grown)

  none_on : (k : ℕ) (q : Query) → slice_get s.queries k ≡ Some q → (Reads s.schema q event → ⊥) → keys_of (state schema (count + 1) new ps) (k + 1) ≡ keys_of s (k + 1)
  unfolding keys_of
  none_on = subst (λ (z : EngineState). (k : ℕ) (q : Query) → slice_get z.queries k ≡ Some q → (Reads z.schema q event → ⊥) → keys_of (state schema (count + 1) new ps) (k + 1) ≡ keys_of z (k + 1)) is (λ k q at unread.
      (let here : k ≡ k + 1 - 1 = omega arith in none_there schema event old new (k + 1 - 1) q t.grown t.running.schemas (subst (λ i. slice_get (map (λ (p : Phase). p.query) old) i ≡ Some q) here at) unread))

  pub took_keys : HasAddedKeys s (state schema (count + 1) new ps) event
  took_keys = record { few = few_on; unread = none_on }

-- A COMPACTION

module _ (engine : EngineState) (events : List Event) (held : List Open) (k : ℕ) (q : Query) (query_state : QueryState) (stands : QueryStateStands engine.schema q events query_state) (trimmed : IsTrimmed (k + 1) held q query_state) where
  may_start : (x : ℕ) → IsReadSince engine.schema q events (low_at q query_state.clock) x → MayStartAt engine events q x
  may_start x r = record { clock = r.clock; has = r.has; recent = own_low engine.schema q events query_state.clock x r.clock stands.clock stands.unread r.has r.since }

  keys_follow : IsWithin (MayStartAt engine events q) (length query_state.keys)
  keys_follow =
      let low = low_at q query_state.clock in
      let few = keys_few engine.schema q events query_state low stands trimmed.entries trimmed.keys in
      record {
        positions = few.positions;
        distinct = few.distinct;
        each = All-weaker (IsReadSince engine.schema q events low) (MayStartAt engine events q) may_start few.positions few.each;
        bounded = few.bounded;
      }

keys_are : (engine : EngineState) (k : ℕ) (query_state : QueryState) → slice_get engine.query_states k ≡ Some query_state → keys_of engine (k + 1) ≡ length query_state.keys
unfolding keys_of
keys_are engine k query_state at =
    let number : k + 1 - 1 ≡ k = omega arith in
    ap (λ (i : ℕ). option_map_or (λ (x : QueryState). length x.keys) (slice_get engine.query_states i) 0) number ∙ ap (λ (o : Option QueryState). option_map_or (λ (x : QueryState). length x.keys) o 0) at

pub query_keys_follow : (engine : EngineState) (events : List Event) (held : List Open) → StandsFor engine events → (k : ℕ) (q : Query) → slice_get engine.queries k ≡ Some q → ((query_state : QueryState) → slice_get engine.query_states k ≡ Some query_state → IsTrimmed (k + 1) held q query_state) → IsWithin (MayStartAt engine events q) (keys_of engine (k + 1))
unfolding StandsFor
query_keys_follow engine events held stands k q at left =
    let found = query_state_of_query (kept_of engine) events k q stands at in
    subst (IsWithin (MayStartAt engine events q)) (sym (keys_are engine k found.0 found.1))
    (keys_follow engine events held k q found.0 (stands.each k q found.0 at found.1) (left found.0 found.1))

pub left_keys : (engine : EngineState) (events : List Event) (held : List Open) → StandsFor engine events → IsLeft engine held → KeysFollowWindow engine events
left_keys engine events held stands left k q at = query_keys_follow engine events held stands k q at (λ query_state query_state_at. left k q query_state at query_state_at)
