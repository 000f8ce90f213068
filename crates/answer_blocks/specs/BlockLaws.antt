-- For every query and all events there are lines that may be written, whatever becomes of a run.
use Rattle.std.specs.Prelude.{ℕ, List}
use Rattle.stream_schema.specs.Types.{Declared}
use Rattle.stream_schema.specs.declared.Event.{Event}
use Rattle.cel_terms.specs.declared.Query.{Query}
use Rattle.answer_text.specs.declared.Order.{Order}
use Rattle.answer_text.specs.Output.{IsBlock, AreBlocks}

-- the lines of one query at one position
abbrev pub SomeBlockIs : Type 0
SomeBlockIs = (order : Order) (schema : Declared) (number : ℕ) (q : Query) (events : List Event) (end : ℕ) →
    (bytes : List ℕ) × IsBlock order schema number q events end bytes

-- the lines of the queries at one position, of which the first has this number
abbrev pub SomeBlocksAre : Type 0
SomeBlocksAre = (order : Order) (schema : Declared) (number : ℕ) (queries : List Query) (events : List Event) (end : ℕ) →
    (bytes : List ℕ) × AreBlocks order schema number queries events end bytes
