-- Shards of a stream: some of its events, in their order; and what a query answers over one.
use Rattle.std.specs.Prelude.{◌≡◌, ℕ, List, map, Contains, Some, slice_get, slice_index_or, option_and_then}
use Rattle.stream_schema.specs.Types.{Declared}
use Rattle.stream_schema.specs.declared.Event.{Event}
use Rattle.stream_schema.specs.declared.Value.{Value}
use Rattle.cel_terms.specs.declared.Query.{Query}
use Rattle.cel_terms.specs.declared.Window.{Window}
use Rattle.cel_terms.specs.declared.Window.TheVariants.{Free, Events, Clock}
use Rattle.cel_terms.specs.Answers.{Answer, AreAnswersAt, HasKey, IsAscending}

-- The shard has the events of the whole stream at these places, in order.
pub record IsShard (whole : List Event) (places : List ℕ) (shard : List Event) : Type 0 where
  pub ascending : IsAscending places
  pub events : (p : ℕ) → slice_get shard p ≡ option_and_then (slice_get whole) (slice_get places p)

-- Each event of the whole stream that the query gives this key is in the shard.
abbrev pub HoldsKey : Declared → Query → List Event → List ℕ → List Value → Type 0
HoldsKey schema q whole places key = (place : ℕ) (event : Event) → slice_get whole place ≡ Some event → HasKey schema q event key → Contains places place

-- The window is free or on an attribute; one of so many events counts those of all keys.
abbrev pub CountsNoEvents : Window → Type 0
CountsNoEvents Free = Unit {0}
CountsNoEvents (Events n) = ⊥
CountsNoEvents (Clock name n) = Unit {0}

-- the place in the whole stream of a position of the shard
abbrev pub place_of : List ℕ → ℕ → ℕ
place_of places p = slice_index_or places p 0

-- the answer over the shard, with the places in the whole stream for its positions
abbrev pub placed : List ℕ → Answer → Answer
placed places answer = record { start = place_of places answer.start; marks = map (place_of places) answer.marks }

-- A shard that holds a key has the answers of the whole stream at each event of the key.
abbrev pub ShardsAnswerForTheirKeys : Type 0
ShardsAnswerForTheirKeys = (schema : Declared) (q : Query) (whole shard : List Event) (places : List ℕ) (key : List Value) →
    CountsNoEvents q.window → IsShard whole places shard → HoldsKey schema q whole places key →
    (end place : ℕ) (event : Event) → slice_get places end ≡ Some place → slice_get whole place ≡ Some event → HasKey schema q event key →
    (answers : List Answer) → AreAnswersAt schema q shard end answers → AreAnswersAt schema q whole place (map (placed places) answers)
