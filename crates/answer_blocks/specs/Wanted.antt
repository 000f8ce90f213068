-- Which answers of a query are written: as many as ANY asks for of those that its cursor gives.
use Rattle.std.specs.Prelude.{◌≡◌, ℕ, zero, suc, ◌-◌, Bool, true, false, List, length, map, take, Option, Some, None, slice_get}
use Rattle.stream_schema.specs.declared.Event.{Event}
use Rattle.cel_terms.specs.declared.Query.{Query}
use Rattle.cel_terms.specs.Answers.{Answer, AreAnswersAt}
use Rattle.query_engine.specs.Engine.{EngineState, Open, StandsFor, rest}
use Rattle.query_engine.specs.Holding.{answer_of}

-- all that there are, or that many of them at most
abbrev pub wanted : Option ℕ → List Answer → List Answer
wanted None all = all
wanted (Some n) all = take n all

abbrev pub are_enough : Option ℕ → Bool
are_enough None = false
are_enough (Some zero) = true
are_enough (Some (suc n)) = false

abbrev pub one_fewer : Option ℕ → Option ℕ
one_fewer None = None
one_fewer (Some n) = Some (n - 1)

-- the answers that the cursor is still to give, as many as are still wanted
abbrev pub to_give : EngineState → Option ℕ → Open → List Answer
to_give engine left cursor = wanted left (map answer_of (rest engine cursor))

-- They are as many of the query's answers at the engine's last position as it wants.
pub record AreWanted (engine : EngineState) (number : ℕ) (answers : List Answer) : Type 0 where
  pub are : (events : List Event) (q : Query) → StandsFor engine events → slice_get engine.queries (number - 1) ≡ Some q →
      (all : List Answer) × AreAnswersAt engine.schema q events (length events - 1) all × (answers ≡ wanted q.any all)
