-- The blocks at an engine's last position, with what is said of their bytes.
use Rattle.std.specs.Prelude.{◌≡◌, ℕ, ◌-◌, List, ◌++◌, length, flat_map, Some, slice_get, Result, OnOk}
use Rattle.std.specs.List.Sorted.{IsPermutation}
use Rattle.stream_schema.specs.declared.Event.{Event}
use Rattle.cel_terms.specs.declared.Query.{Query}
use Rattle.cel_terms.specs.Answers.{Answer}
use Rattle.cer_base.specs.Repeats.{HasNoRepeats}
use Rattle.query_engine.specs.Engine.{EngineState, StandsFor}
use Rattle.answer_text.specs.declared.Order.{Order}
use Rattle.answer_text.specs.Output.{IsBlock, AreBlocks, line, EachBeforeNext}

-- of the query with the number
pub record HasBlock (order : Order) (engine : EngineState) (number : ℕ) (P : List ℕ → Type 0) : Type 0 where
  pub block : (events : List Event) (q : Query) → StandsFor engine events → slice_get engine.queries (number - 1) ≡ Some q →
      (bytes : List ℕ) × IsBlock order engine.schema number q events (length events - 1) bytes × P bytes

-- of the queries, the first of which has the number 1
pub record HasBlocks (order : Order) (engine : EngineState) (queries : List Query) (P : List ℕ → Type 0) : Type 0 where
  pub blocks : (events : List Event) → StandsFor engine events →
      (bytes : List ℕ) × AreBlocks order engine.schema 1 queries events (length events - 1) bytes × P bytes

-- The lines of the answers were put after the text, in order.
pub record HasPut {E : Type 0} (number end : ℕ) (given : List Answer) (old new : List ℕ) (result : Result (Unit {0}) E) : Type 0 where
  pub answers : List Answer
  pub moved : IsPermutation given answers
  pub ordered : HasNoRepeats given → EachBeforeNext answers
  pub lines : OnOk result (new ≡ old ++ flat_map (line number end) answers)
