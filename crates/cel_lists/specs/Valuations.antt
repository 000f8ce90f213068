-- When a list has exactly the valuations of a formula; and that answers are finitely many.
use Rattle.std.specs.Prelude.{ℕ, List, Contains}
use Rattle.stream_schema.specs.Types.{Declared}
use Rattle.stream_schema.specs.declared.Event.{Event}
use Rattle.cel_terms.specs.declared.Query.{Query}
use Rattle.cel_terms.specs.Answers.{Answer, AreAnswersAt}
use Rattle.cel_terms.specs.Meaning.{Meaning, Valuation}
use Rattle.cel_lists.specs.declared.Match.{Match}

-- The list has exactly the valuations of the meaning, each with its interval.
pub record AreMatchesOf (part : Meaning) (found : List Match) : Type 0 where
  pub each : (m : Match) → Contains found m → part m.start m.end m.bounds
  pub all : (start end : ℕ) (v : Valuation) → part start end v → Contains found (record { start = start; end = end; bounds = v })

-- Each query has a list of exactly its answers at each position.
abbrev pub AnswersAreFinite : Type 0
AnswersAreFinite =
    (schema : Declared) (q : Query) (events : List Event) (end : ℕ) →
    (answers : List Answer) × AreAnswersAt schema q events end answers
