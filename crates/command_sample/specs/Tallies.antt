-- How many answers a query has over all positions, and what they add up to.
use Rattle.std.specs.Prelude.{◌≡◌, ℕ, zero, suc, ◌+◌, List, length, sum, sum_by}
use Rattle.stream_schema.specs.Types.{Declared}
use Rattle.stream_schema.specs.declared.Event.{Event}
use Rattle.cel_terms.specs.declared.Query.{Query}
use Rattle.cel_terms.specs.Answers.{Answer, AreAnswersAt}
use Rattle.command_sample.specs.Generator.{generated}
use Rattle.command_sample.specs.Queries.{sample_schema}

-- start and end of an answer with all its marked positions
abbrev pub weight_of : ℕ → Answer → ℕ
weight_of end answer = answer.start + end + sum answer.marks

-- so many answers there are at the end, with this sum
pub record IsTallyAt (schema : Declared) (q : Query) (events : List Event) (end number total : ℕ) : Type 0 where
  pub answers : List Answer
  pub are : AreAnswersAt schema q events end answers
  pub counted : number ≡ length answers
  pub added : total ≡ sum_by (weight_of end) answers

-- so many answers there are at the first n positions, with this sum
abbrev pub IsTally : ℕ → Query → ℕ → ℕ → ℕ → Type 0
IsTally seed q zero number total = (number ≡ 0) × (total ≡ 0)
IsTally seed q (suc n) number total = (m : ℕ) × (t : ℕ) × (k : ℕ) × (u : ℕ)
    × IsTally seed q n m t × IsTallyAt sample_schema q (generated seed (suc n)) n k u
    × (number ≡ m + k) × (total ≡ t + u)
