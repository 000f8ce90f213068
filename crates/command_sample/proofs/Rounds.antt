-- A round of the count: an event more is taken, and its answers are added.
use Rattle.std.proofs.Common.{◌≡◌, ℕ, zero, suc, ◌+◌, ◌-◌, ◌/◌, ◌%◌, ◌^◌, ◌<◌, List, [], ◌∷◌, ◌++◌, length, Some, slice_get, sym, ◌∙◌, ap, refl, subst, arith, add-one}
use Rattle.std.specs.Prelude.{pos}
use Rattle.std.proofs.lemmas.List.{length_push}
use Rattle.stream_schema.specs.Types.{Declared}
use Rattle.stream_schema.specs.declared.Event.{Event}
use Rattle.stream_schema.specs.declared.Value.TheVariants.{Int}
use Rattle.stream_schema.specs.Events.{IsOfSchema}
use Rattle.cel_terms.specs.declared.Query.{Query}
use Rattle.query_engine.specs.Engine.{EngineState, StandsFor, count_of}
use Rattle.command_sample.specs.Generator.{generated_event, next_value, value_after, generated}
use Rattle.command_sample.specs.Queries.{sample_schema, AreQueries}
use Rattle.command_sample.specs.Tallies.{IsTallyAt}
use Rattle.command_sample.specs.Summary.{IsToldOf, AreToldOf}
use Rattle.command_sample.specs.Progress.{IsAt}
use Rattle.command_sample.proofs.Sums.{added_mod}

of_type : (ty v : ℕ) → ty < 2 → IsOfSchema sample_schema (record { ty = ty; values = Int (pos v) ∷ [] })
of_type zero v below = (tt, tt)
of_type (suc zero) v below = (tt, tt)
of_type (suc (suc n)) v below = absurd (omega (arith, below))

pub made_of_schema : (x : ℕ) → IsOfSchema sample_schema (generated_event (next_value x))
made_of_schema x = of_type (next_value x / 2 ^ 63) (next_value x / 2 ^ 56 % 128) (omega arith)

pub length_generated : (seed n : ℕ) → length (generated seed n) ≡ n
length_generated seed zero = refl
length_generated seed (suc n) = length_push (generated seed n) (generated_event (value_after seed (suc n))) ∙ omega (arith, length_generated seed n)

-- what is told of a position
abbrev pub IsToldAt : Query → List Event → ℕ → ℕ → ℕ → Type 0
IsToldAt q events end a t = (k : ℕ) × (u : ℕ) × IsTallyAt sample_schema q events end k u × (a ≡ k % 2 ^ 64) × (t ≡ u % 2 ^ 64)

pub told_more : (seed n : ℕ) (q : Query) (a t b u now sum : ℕ) → IsToldOf seed n q a t → IsToldAt q (generated seed (suc n)) n b u →
    now ≡ (a + b) % 2 ^ 64 → sum ≡ (t + u) % 2 ^ 64 → IsToldOf seed (suc n) q now sum
told_more seed n q a t b u now sum h at is sums = record {
  answers = h.answers + at.0;
  weight = h.weight + at.1;
  tally = (h.answers, h.weight, at.0, at.1, h.tally, at.2, refl, refl);
  number_is = is ∙ added_mod (2 ^ 64) a b h.answers at.0 h.number_is at.3;
  total_is = sums ∙ added_mod (2 ^ 64) t u h.weight at.1 h.total_is at.4;
}

no_told : (seed : ℕ) (q : Query) (a t : ℕ) → a ≡ 0 → t ≡ 0 → IsToldOf seed 0 q a t
no_told seed q a t ha ht = record { answers = 0; weight = 0; tally = (refl, refl); number_is = ha; total_is = ht }

-- No event was taken.
pub at_start : (seed : ℕ) (engine : EngineState) (a t b u : ℕ) → engine.schema ≡ sample_schema → AreQueries engine.queries → StandsFor engine [] → count_of engine ≡ 0 →
    a ≡ 0 → t ≡ 0 → b ≡ 0 → u ≡ 0 → IsAt seed 0 engine seed a t b u
at_start seed engine a t b u schema queries stands count ha ht hb hu = record {
  first = queries.0;
  second = queries.1;
  first_is = queries.3;
  second_is = queries.4;
  schema = schema;
  queries = queries.2;
  stands = stands;
  count = count;
  value = refl;
  first_told = no_told seed queries.0 a t ha ht;
  second_told = no_told seed queries.1 b u hb hu;
}

-- What an engine with these events tells of a query.
pub record Tells (engine : EngineState) (number b u : ℕ) : Type 0 where
  pub tells : (events : List Event) (q : Query) → StandsFor engine events → slice_get engine.queries (number - 1) ≡ Some q → (k : ℕ) × (m : ℕ)
      × IsTallyAt engine.schema q events (length events - 1) k m × (b ≡ k % 2 ^ 64) × (u ≡ m % 2 ^ 64)

told_here : (seed n number : ℕ) (engine : EngineState) (q : Query) (b u : ℕ) → engine.schema ≡ sample_schema → StandsFor engine (generated seed (suc n)) → slice_get engine.queries (number - 1) ≡ Some q →
    Tells engine number b u → IsToldAt q (generated seed (suc n)) n b u
told_here seed n number engine q b u schema stands at h =
    let it = h.tells (generated seed (suc n)) q stands at in
    let end : length (generated seed (suc n)) - 1 ≡ n = omega (arith, length_generated seed (suc n)) in (
      it.0,
      it.1,
      subst (λ (s : Declared). IsTallyAt s q (generated seed (suc n)) n it.0 it.1) schema
          (subst (λ (e : ℕ). IsTallyAt engine.schema q (generated seed (suc n)) e it.0 it.1) end it.2),
      it.3,
      it.4,
    )

-- An event more was taken.
pub round : (seed n : ℕ) (old new : EngineState) (event : Event) (x next a t b u a' t' b' u' fa ft sa st : ℕ) → IsAt seed n old x a t b u →
    next ≡ next_value x → event ≡ generated_event (next_value x) → ((events : List Event) → StandsFor old events → StandsFor new (events ++ event ∷ [])) → count_of new ≡ count_of old + 1 →
    new.schema ≡ old.schema → new.queries ≡ old.queries → Tells new 1 a' t' → Tells new 2 b' u' →
    fa ≡ (a + a') % 2 ^ 64 → ft ≡ (t + t') % 2 ^ 64 → sa ≡ (b + b') % 2 ^ 64 → st ≡ (u + u') % 2 ^ 64 → IsAt seed (n + 1) new next fa ft sa st
round seed n old new event x next a t b u a' t' b' u' fa ft sa st h value made stands count schema queries one two ha ht hb hu =
    let value' : next ≡ value_after seed (suc n) = value ∙ ap next_value h.value in
    let event' : event ≡ generated_event (value_after seed (suc n)) = made ∙ ap (λ y. generated_event (next_value y)) h.value in
    let stands' : StandsFor new (generated seed (suc n)) = subst (λ (e : Event). StandsFor new (generated seed n ++ e ∷ [])) event' (stands (generated seed n) h.stands) in
    let all : new.queries ≡ h.first ∷ h.second ∷ [] = queries ∙ h.queries in
    let same : new.schema ≡ sample_schema = schema ∙ h.schema in
    subst (λ (m : ℕ). IsAt seed m new next fa ft sa st) (sym (add-one n)) (record {
      first = h.first;
      second = h.second;
      first_is = h.first_is;
      second_is = h.second_is;
      schema = same;
      queries = all;
      stands = stands';
      count = count ∙ (ap (λ m. m + 1) h.count ∙ add-one n);
      value = value';
      first_told = told_more seed n h.first a t a' t' fa ft h.first_told (told_here seed n 1 new h.first a' t' same stands' (ap (λ (l : List Query). slice_get l 0) all) one) ha ht;
      second_told = told_more seed n h.second b u b' u' sa st h.second_told (told_here seed n 2 new h.second b' u' same stands' (ap (λ (l : List Query). slice_get l 1) all) two) hb hu;
    })

-- All events were taken.
pub all_told : (seed n count : ℕ) (engine : EngineState) (x a t b u : ℕ) → n ≡ count → IsAt seed n engine x a t b u → AreToldOf seed count a t b u
all_told seed n count engine x a t b u all h = subst (λ (m : ℕ). AreToldOf seed m a t b u) all (record {
  first = h.first;
  second = h.second;
  first_is = h.first_is;
  second_is = h.second_is;
  first_told = h.first_told;
  second_told = h.second_told;
})
