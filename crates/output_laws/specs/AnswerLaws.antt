-- Laws of the answers and of the output, which follow from their definitions.
use Rattle.std.specs.Prelude.{◌≡◌, ℕ, ◌<◌, ◌≤◌, ◌↔◌, ◌⊎◌, List, [], ◌∷◌, ◌++◌, length, map, All, Contains, Option, Some, None, slice_get}
use Rattle.stream_schema.specs.Types.{Declared}
use Rattle.stream_schema.specs.declared.Event.{Event}
use Rattle.cel_terms.specs.declared.Query.{Query}
use Rattle.cel_terms.specs.Answers.{Answer, IsAnswer, query_types}
use Rattle.ceql_parser.specs.QueryTrees.{query_tree}
use Rattle.answer_text.specs.declared.Order.{Order}
use Rattle.answer_text.specs.declared.Order.TheVariants.{Sorted}
use Rattle.answer_text.specs.Output.{IsBlock, AreBlocks, IsOutput, IsOutputOf}

-- The two streams have the same events up to this position.
abbrev pub AreSameUpTo : ℕ → List Event → List Event → Type 0
AreSameUpTo end events others = (p : ℕ) → p ≤ end → slice_get events p ≡ slice_get others p

-- An answer depends on the events up to its end alone.
abbrev pub AnswersLookBack : Type 0
AnswersLookBack = (schema : Declared) (q : Query) (events others : List Event) (end : ℕ) (answer : Answer) →
    AreSameUpTo end events others → IsAnswer schema q events end answer → IsAnswer schema q others end answer

-- the query reads no such event
abbrev pub IsUnread : Declared → Query → Option Event → Type 0
IsUnread schema q there = (event : Event) → there ≡ Some event → Contains (query_types schema q.streams) event.ty → ⊥

-- the same event, or neither is read by the query
abbrev pub IsSameFor : Declared → Query → Option Event → Option Event → Type 0
IsSameFor schema q a b = (a ≡ b) ⊎ (IsUnread schema q a × IsUnread schema q b)

-- From the start to the end the query sees the same events in both streams.
abbrev pub AreSameWithin : Declared → Query → ℕ → ℕ → List Event → List Event → Type 0
AreSameWithin schema q start end events others = (p : ℕ) → start ≤ p → p ≤ end → IsSameFor schema q (slice_get events p) (slice_get others p)

-- An answer depends on the events alone that the query reads from its start to its end.
abbrev pub AnswersLookWithin : Type 0
AnswersLookWithin = (schema : Declared) (q : Query) (events others : List Event) (end : ℕ) (answer : Answer) →
    AreSameWithin schema q answer.start end events others → IsAnswer schema q events end answer → IsAnswer schema q others end answer

-- Events that come later change no answer.
abbrev pub LaterEventsChangeNoAnswer : Type 0
LaterEventsChangeNoAnswer = (schema : Declared) (q : Query) (events more : List Event) (end : ℕ) (answer : Answer) →
    end < length events → (IsAnswer schema q events end answer) ↔ (IsAnswer schema q (events ++ more) end answer)

-- They change no block of a query either.
abbrev pub LaterEventsChangeNoBlock : Type 0
LaterEventsChangeNoBlock = (order : Order) (schema : Declared) (number : ℕ) (q : Query) (events more : List Event) (end : ℕ) (bytes : List ℕ) →
    end < length events →
    (IsBlock order schema number q events end bytes) ↔ (IsBlock order schema number q (events ++ more) end bytes)

-- Nor the blocks of all queries at a position.
abbrev pub LaterEventsChangeNoBlocks : Type 0
LaterEventsChangeNoBlocks = (order : Order) (schema : Declared) (number : ℕ) (queries : List Query) (events more : List Event) (end : ℕ) (bytes : List ℕ) →
    end < length events →
    (AreBlocks order schema number queries events end bytes) ↔ (AreBlocks order schema number queries (events ++ more) end bytes)

-- Nor what is written at the first n positions.
abbrev pub LaterEventsChangeNoOutput : Type 0
LaterEventsChangeNoOutput = (n : ℕ) (order : Order) (schema : Declared) (queries : List Query) (events more : List Event) (bytes : List ℕ) →
    n ≤ length events →
    (IsOutputOf n order schema queries events bytes) ↔ (IsOutputOf n order schema queries (events ++ more) bytes)

-- Before the first event nothing is written.
abbrev pub OutputStartsEmpty : Type 0
OutputStartsEmpty = (order : Order) (schema : Declared) (queries : List Query) (bytes : List ℕ) →
    (IsOutput order schema queries [] bytes) ↔ (bytes ≡ [])

-- Every query has its block at the position.
abbrev pub HasBlocks : Order → Declared → List Query → List Event → ℕ → Type 0
HasBlocks order schema queries events end = (bytes : List ℕ) × AreBlocks order schema 1 queries events end bytes

-- One more event puts its blocks after the output.
abbrev pub OneMoreEventAddsItsBlocks : Type 0
OneMoreEventAddsItsBlocks = (order : Order) (schema : Declared) (queries : List Query) (events : List Event) (event : Event) (bytes blocks : List ℕ) →
    IsOutput order schema queries events bytes →
    AreBlocks order schema 1 queries (events ++ event ∷ []) (length events) blocks →
    IsOutput order schema queries (events ++ event ∷ []) (bytes ++ blocks)

-- More events put more after the output, where each position has its blocks.
abbrev pub OutputGrowsAtItsEnd : Type 0
OutputGrowsAtItsEnd = (order : Order) (schema : Declared) (queries : List Query) (events more : List Event) (bytes : List ℕ) →
    ((end : ℕ) → HasBlocks order schema queries (events ++ more) end) →
    IsOutput order schema queries events bytes →
    (rest : List ℕ) × IsOutput order schema queries (events ++ more) (bytes ++ rest)

-- The output of more events begins with an output of the first.
abbrev pub OutputBeginsWithThatOfTheFirst : Type 0
OutputBeginsWithThatOfTheFirst = (order : Order) (schema : Declared) (queries : List Query) (events more : List Event) (bytes : List ℕ) →
    IsOutput order schema queries (events ++ more) bytes →
    (front : List ℕ) × (rest : List ℕ) × IsOutput order schema queries events front × (bytes ≡ front ++ rest)

-- In sorted order, and where no query has ANY, there is no second output.
abbrev pub SortedOutputIsUnique : Type 0
SortedOutputIsUnique = (schema : Declared) (queries : List Query) (events : List Event) (bytes others : List ℕ) →
    All (λ q. q.any ≡ None) queries →
    IsOutput Sorted schema queries events bytes → IsOutput Sorted schema queries events others →
    bytes ≡ others

-- The answers of a query depend on what it says, and not on where its parts lie in memory.
abbrev pub TreesTellTheAnswers : Type 0
TreesTellTheAnswers = (schema : Declared) (q r : Query) (events : List Event) (end : ℕ) (answer : Answer) →
    query_tree q ≡ query_tree r → IsAnswer schema q events end answer → IsAnswer schema r events end answer

-- And so does the output.
abbrev pub TreesTellTheOutput : Type 0
TreesTellTheOutput = (order : Order) (schema : Declared) (queries others : List Query) (events : List Event) (bytes : List ℕ) →
    map query_tree queries ≡ map query_tree others →
    IsOutput order schema queries events bytes → IsOutput order schema others events bytes
