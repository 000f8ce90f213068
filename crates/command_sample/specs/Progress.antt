-- How far a count has come.
use Rattle.std.specs.Prelude.{◌≡◌, ℕ, [], ◌∷◌}
use Rattle.cel_terms.specs.declared.Query.{Query}
use Rattle.query_engine.specs.Engine.{EngineState, StandsFor, count_of}
use Rattle.command_sample.specs.Generator.{value_after, generated}
use Rattle.command_sample.specs.Queries.{sample_schema, IsFirstQuery, IsSecondQuery}
use Rattle.command_sample.specs.Summary.{IsToldOf}

-- So many events were taken, the last one made after this value, and all answers up to there are added.
pub record IsAt (seed taken : ℕ) (engine : EngineState) (made first_number first_total second_number second_total : ℕ) : Type 0 where
  pub first : Query
  pub second : Query
  pub first_is : IsFirstQuery first
  pub second_is : IsSecondQuery second
  pub schema : engine.schema ≡ sample_schema
  pub queries : engine.queries ≡ first ∷ second ∷ []
  pub stands : StandsFor engine (generated seed taken)
  pub count : count_of engine ≡ taken
  pub value : made ≡ value_after seed taken
  pub first_told : IsToldOf seed taken first first_number first_total
  pub second_told : IsToldOf seed taken second second_number second_total
