-- The complex events that a query has at a position: those of its valuations, within its partition and window.
use Rattle.std.specs.Prelude.{◌≡◌, ℕ, ◌<◌, ◌↔◌, ℤ, pos, ◌+ℤ◌, ◌≤ℤ◌, Bool, true, false, List, [], ◌∷◌, ◌++◌, Any, Contains, Option, Some, None, slice_get, option_map, option_and_then}
use Rattle.std.specs.Option.{option_map_or}
use Rattle.cer_base.specs.Repeats.{HasNoRepeats}
use Rattle.stream_schema.specs.Types.{Declared, DeclaredStream}
use Rattle.stream_schema.specs.Names.{stream_types}
use Rattle.stream_schema.specs.declared.Event.{Event}
use Rattle.stream_schema.specs.declared.Value.{Value}
use Rattle.stream_schema.specs.declared.Value.TheVariants.{Int}
use Rattle.cel_terms.specs.declared.Name.{Name}
use Rattle.cel_terms.specs.declared.Query.{Query}
use Rattle.cel_terms.specs.declared.Window.{Window}
use Rattle.cel_terms.specs.declared.Window.TheVariants.{Free, Events, Clock}
use Rattle.cel_terms.specs.Predicate.{attr_value}
use Rattle.cel_terms.specs.Meaning.{Stream, Valuation, Meaning, Kept, meaning}

-- the types of the stream that the query reads, none where no stream has the name
abbrev pub types_of_stream : List DeclaredStream → List ℕ → List ℕ
types_of_stream streams name = option_map_or (λ types. types) (stream_types streams name) []

-- the same of all its streams
abbrev pub query_types : Declared → List Name → List ℕ
query_types schema [] = []
query_types schema (n ∷ ns) = types_of_stream schema.streams n.text ++ query_types schema ns

-- the event's values at the listed attributes, where its type has them all
abbrev pub values_at : Declared → List Name → Event → Option (List Value)
values_at schema [] event = Some []
values_at schema (n ∷ ns) event = option_and_then (λ v. option_map (λ vs. v ∷ vs) (values_at schema ns event)) (attr_value schema event n.text)

-- Events with equal keys are one substream. An event of another type, or without one of the attributes, has none.
abbrev pub HasKey : Declared → Query → Event → List Value → Type 0
HasKey schema q event key = Contains (query_types schema q.streams) event.ty × (values_at schema q.partition event ≡ Some key)

-- the position is of the substream that the event at end is in
pub record IsOfSubstream (schema : Declared) (q : Query) (events : List Event) (end position : ℕ) : Type 0 where
  pub here : Event
  pub there : Event
  pub key : List Value
  pub here_is : slice_get events position ≡ Some here
  pub there_is : slice_get events end ≡ Some there
  pub here_has : HasKey schema q here key
  pub there_has : HasKey schema q there key

-- what the window measures: positions, or the value of an attribute
abbrev pub HasClock : Declared → Window → Event → ℕ → ℤ → Type 0
HasClock schema Free event position clock = clock ≡ pos position
HasClock schema (Events n) event position clock = clock ≡ pos position
HasClock schema (Clock name n) event position clock = attr_value schema event name.text ≡ Some (Int clock)

-- the second clock is at most the window's width above the first
abbrev pub WithinWidth : Window → ℤ → ℤ → Type 0
WithinWidth Free from to = Unit {0}
WithinWidth (Events n) from to = to ≤ℤ (from +ℤ pos n)
WithinWidth (Clock name n) from to = to ≤ℤ (from +ℤ n)

pub record IsInWindow (schema : Declared) (q : Query) (events : List Event) (start end : ℕ) : Type 0 where
  pub first : Event
  pub last : Event
  pub from : ℤ
  pub to : ℤ
  pub first_is : slice_get events start ≡ Some first
  pub last_is : slice_get events end ≡ Some last
  pub from_is : HasClock schema q.window first start from
  pub to_is : HasClock schema q.window last end to
  pub close : WithinWidth q.window from to

-- SELECT with a list keeps the sets of those names
abbrev pub selected : Option (List Name) → Meaning → Meaning
selected None part = part
selected (Some names) part = Kept names part

-- strictly ascending
abbrev pub IsAscending : List ℕ → Type 0
IsAscending xs = (i j x y : ℕ) → i < j → slice_get xs i ≡ Some x → slice_get xs j ≡ Some y → x < y

-- some name
abbrev pub is_bound : List (List ℕ) → Bool
is_bound [] = false
is_bound (n ∷ ns) = true

-- the position is in the set of some name
abbrev pub IsBoundAt : Valuation → ℕ → Type 0
IsBoundAt v p = Any (λ b. (b.position ≡ p) × (is_bound b.names ≡ true)) v

-- the positions that are in the set of some name, in order
pub record AreMarks (v : Valuation) (marks : List ℕ) : Type 0 where
  pub ascending : IsAscending marks
  pub bound : (p : ℕ) → Contains marks p ↔ IsBoundAt v p

-- Some valuation from the start to the end has exactly these marks.
pub record HasMarks (part : Meaning) (start end : ℕ) (marks : List ℕ) : Type 0 where
  pub valuation : Valuation
  pub means : part start end valuation
  pub are_marks : AreMarks valuation marks

-- Between the least and the greatest mark every position of the substream is marked.
abbrev pub AreContiguous : (ℕ → Type 0) → List ℕ → Type 0
AreContiguous Has marks = (low p high : ℕ) → Contains marks low → Contains marks high → low < p → p < high → Has p → Contains marks p

-- the fact is asked for where the query is strict
abbrev pub WhereStrict : Bool → Type 0 → Type 0
WhereStrict true P = P
WhereStrict false P = Unit {0}

-- an answer at a position: where the complex event starts, and its marked positions in order; it ends at the position
pub record Answer : Type 0 where
  pub start : ℕ
  pub marks : List ℕ

-- the substream that the event at end is in
abbrev pub substream : Declared → Query → List Event → ℕ → Stream
substream schema q events end =
    record { schema = schema; events = events; Has = IsOfSubstream schema q events end }

-- The complex event is one that the query has at the end.
pub record IsAnswer (schema : Declared) (q : Query) (events : List Event) (end : ℕ) (answer : Answer) : Type 0 where
  pub marks : HasMarks (selected q.select (meaning (substream schema q events end) q.formula)) answer.start end answer.marks
  pub strict : WhereStrict q.strict (AreContiguous (IsOfSubstream schema q events end) answer.marks)
  pub window : IsInWindow schema q events answer.start end

-- The list has exactly the answers of the query at the end, each once.
pub record AreAnswersAt (schema : Declared) (q : Query) (events : List Event) (end : ℕ) (answers : List Answer) : Type 0 where
  pub each : (a : Answer) → Contains answers a → IsAnswer schema q events end a
  pub all : (a : Answer) → IsAnswer schema q events end a → Contains answers a
  pub once : HasNoRepeats answers
