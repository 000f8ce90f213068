-- What the query states stand for, and what the engine does.
use Rattle.std.proofs.Common.{◌≡◌, ℕ, ◌+◌, ◌<◌, List, [], ◌∷◌, map, take, length, refl, sym, ap, subst, ◌∙◌, All, Option, Some, None, slice_get, slice_index_or, arith}
use Rattle.std.specs.Prelude.{option_map}
use Rattle.std.proofs.lemmas.List.{take_more}
use Rattle.std.proofs.lemmas.List.Elements.{All-nil, All-cons, All-append}
use Rattle.std.proofs.lemmas.Option.{slice_get_within, slice_get-get_or, slice_get-map}
use Rattle.stream_schema.specs.Types.{Declared}
use Rattle.stream_schema.specs.Events.{IsOfSchema}
use Rattle.stream_schema.specs.declared.Event.{Event}
use Rattle.query_standing.specs.Clocks.{FallsBack, NoneFallsBack}
use Rattle.query_standing.specs.Kept.{QueryStateStands, KeptStands}
use Rattle.all_or_none.specs.Phases.{Phase, InTime, CanPrepare}
use Rattle.query_engine.specs.Engine.{EngineState, kept_of}
use Rattle.query_engine.specs.Times.{IsAfter}
use Rattle.query_engine.specs.Running.{HaveRun}

-- what an engine is, by its fields
abbrev pub state : Declared → ℕ → List Phase → List ℕ → EngineState
state schema count query_states peaks = record { schema = schema; queries = map (λ (p : Phase). p.query) query_states; count = count; query_states = map (λ (p : Phase). p.kept) query_states; peaks = peaks }

-- what stands at a place of a mapped list
pub mapped : {A B : Type 0} (f : A → B) (xs : List A) (k : ℕ) (y : B) → slice_get (map f xs) k ≡ Some y → (x : A) × (slice_get xs k ≡ Some x) × (f x ≡ y)
mapped {A} {B} f xs k y e = go (slice_get xs k) refl (sym (slice_get-map f xs k) ∙ e)
  where
    go : (o : Option A) → slice_get xs k ≡ o → option_map f o ≡ Some y → (x : A) × (slice_get xs k ≡ Some x) × (f x ≡ y)
    go None g h = absurd cc
    go (Some x) g h = (x, g, cc)

pub map_at : {A B : Type 0} (f : A → B) (xs : List A) (k : ℕ) (x : A) → slice_get xs k ≡ Some x → slice_get (map f xs) k ≡ Some (f x)
map_at f xs k x e = slice_get-map f xs k ∙ ap (option_map f) e

pub all_at : {A : Type 0} (P : A → Type 0) (xs : List A) (k : ℕ) (x : A) → All P xs → slice_get xs k ≡ Some x → P x
all_at P xs k x all e =
    let inside = slice_get_within xs k x e in
    let is : slice_index_or xs k x ≡ x = (let both = sym (slice_get-get_or xs k x inside) ∙ e in cc) in
    subst P is (all k x inside)

pub all_by : {A : Type 0} (P : A → Type 0) (xs : List A) → ((k : ℕ) (x : A) → slice_get xs k ≡ Some x → P x) → All P xs
all_by P xs f k d inside = f k (slice_index_or xs k d) (slice_get-get_or xs k d inside)

-- one more at hand
pub all_more : {A : Type 0} (P : A → Type 0) (xs : List A) (k : ℕ) (x : A) → k < length xs → x ≡ slice_index_or xs k x → P x → All P (take k xs) → All P (take (k + 1) xs)
all_more P xs k x less here is h =
    rw (take_more xs k x less) (All-append P (take k xs) (slice_index_or xs k x ∷ []) h (All-cons P (slice_index_or xs k x) [] (subst P here is) (All-nil P)))

pub length_map : {A B : Type 0} (f : A → B) (xs : List A) → length (map f xs) ≡ length xs
length_map f [] = refl
length_map f (x ∷ xs) = let rest = length_map f xs in omega arith

-- the engine stands for the events where its query states do
pub from_query_states : (schema : Declared) (count : ℕ) (query_states : List Phase) (peaks : List ℕ) (events : List Event) → All (λ (p : Phase). p.schema ≡ schema) query_states → length events ≡ count → All (IsAfter events) query_states → KeptStands (kept_of (state schema count query_states peaks)) events
from_query_states schema count query_states peaks events schemas same all = record {
  count = sym same;
  query_states = length_map (λ (p : Phase). p.kept) query_states ∙ sym (length_map (λ (p : Phase). p.query) query_states);
  each = λ k q query_state q_at query_state_at. (
      let one = mapped (λ (p : Phase). p.query) query_states k q q_at in
      let two = mapped (λ (p : Phase). p.kept) query_states k query_state query_state_at in
      let p : one.0 ≡ two.0 = (let both = sym one.1 ∙ two.1 in cc) in
      let stands = all_at (IsAfter events) query_states k one.0 all one.1 in
      let schema_is = all_at (λ (p : Phase). p.schema ≡ schema) query_states k one.0 schemas one.1 in
      let kept_is : one.0.kept ≡ query_state = ap (λ (x : Phase). x.kept) p ∙ two.2 in
      subst (λ x. QueryStateStands schema q events x) kept_is (subst (λ z. QueryStateStands schema z events one.0.kept) one.2 (subst (λ s. QueryStateStands s one.0.query events one.0.kept) schema_is stands))
      );
}

-- and back
pub to_query_states : (schema : Declared) (count : ℕ) (query_states : List Phase) (peaks : List ℕ) (events : List Event) → All (λ (p : Phase). p.schema ≡ schema) query_states → KeptStands (kept_of (state schema count query_states peaks)) events → All (IsAfter events) query_states
to_query_states schema count query_states peaks events schemas s = all_by (IsAfter events) query_states (λ k p at. (
    let schema_is = all_at (λ (p : Phase). p.schema ≡ schema) query_states k p schemas at in
    subst (λ z. QueryStateStands z p.query events p.kept) (sym schema_is) (s.each k p.query p.kept (map_at (λ (p : Phase). p.query) query_states k p at) (map_at (λ (p : Phase). p.kept) query_states k p at))
    ))

-- the event is of each query state's schema
pub of_schemas : (schema : Declared) (query_states : List Phase) (event : Event) → All (λ (p : Phase). p.schema ≡ schema) query_states → IsOfSchema schema event → All (λ (p : Phase). IsOfSchema p.schema event) query_states
of_schemas schema query_states event schemas of = all_by (λ (p : Phase). IsOfSchema p.schema event) query_states (λ k p at. subst (λ s. IsOfSchema s event) (sym (all_at (λ (p : Phase). p.schema ≡ schema) query_states k p schemas at)) of)

-- no clock falls of a query state where none does of a query
pub query_states_in_time : (schema : Declared) (count : ℕ) (query_states : List Phase) (peaks : List ℕ) (events : List Event) (event : Event) → All (λ (p : Phase). p.schema ≡ schema) query_states → NoneFallsBack schema (state schema count query_states peaks).queries events event → All (InTime events event) query_states
query_states_in_time schema count query_states peaks events event schemas none = all_by (InTime events event) query_states (λ k p at before now f. (
    let schema_is = all_at (λ (p : Phase). p.schema ≡ schema) query_states k p schemas at in
    none k p.query before now (map_at (λ (p : Phase). p.query) query_states k p at) (subst (λ s. FallsBack s p.query events event before now) schema_is f)
    ))

pub queries_in_time : (schema : Declared) (count : ℕ) (query_states : List Phase) (peaks : List ℕ) (events : List Event) (event : Event) → All (λ (p : Phase). p.schema ≡ schema) query_states → All (InTime events event) query_states → NoneFallsBack schema (state schema count query_states peaks).queries events event
queries_in_time schema count query_states peaks events event schemas all k q before now q_at f =
    let one = mapped (λ (p : Phase). p.query) query_states k q q_at in
    let schema_is = all_at (λ (p : Phase). p.schema ≡ schema) query_states k one.0 schemas one.1 in
    all_at (InTime events event) query_states k one.0 all one.1 before now (subst (λ s. FallsBack s one.0.query events event before now) (sym schema_is) (subst (λ z. FallsBack schema z events event before now) (sym one.2) f))

-- each query state can take in the event
pub can_all : (schema : Declared) (count : ℕ) (query_states : List Phase) (peaks : List ℕ) (event : Event) (r : HaveRun count query_states) → All (λ (p : Phase). p.schema ≡ schema) query_states → IsOfSchema schema event → ((events : List Event) → KeptStands (kept_of (state schema count query_states peaks)) events → NoneFallsBack schema (state schema count query_states peaks).queries events event) → All (CanPrepare event count) query_states
can_all schema count query_states peaks event r schemas of time =
    let stands = from_query_states schema count query_states peaks r.events schemas r.length_is r.stands in
    let inside = query_states_in_time schema count query_states peaks r.events event schemas (time r.events stands) in
    all_by (CanPrepare event count) query_states (λ k p at. record {
      events = r.events;
      count = r.length_is;
      of_schema = all_at (λ (p : Phase). IsOfSchema p.schema event) query_states k p (of_schemas schema query_states event schemas of) at;
      in_time = all_at (InTime r.events event) query_states k p inside at;
      stands = (p.kept.clock, all_at (IsAfter r.events) query_states k p r.stands at);
    })
