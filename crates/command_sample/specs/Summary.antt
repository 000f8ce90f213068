-- What the sample writes.
use Rattle.std.specs.Prelude.{◌≡◌, ℕ, ◌%◌, ◌^◌, ◌⊎◌, List, [], ◌∷◌, ◌++◌, Option, Result, Ok, Err, decimal, codes}
use Rattle.cer_base.specs.declared.OrMemory.{OrMemory}
use Rattle.cer_base.specs.declared.OrMemory.TheVariants.{Fault, Memory}
use Rattle.cer_base.specs.declared.bytes.TheConstants.{LINE_FEED}
use Rattle.cer_outside.specs.declared.WriteFault.{WriteFault}
use Rattle.cer_outside.specs.Bytes.{TookAll, TookPart}
use Rattle.cel_terms.specs.declared.Query.{Query}
use Rattle.answer_blocks.specs.SinkBytes.{TookPrefix}
use Rattle.command_sample.specs.Queries.{IsFirstQuery, IsSecondQuery}
use Rattle.command_sample.specs.Tallies.{IsTally}

-- events 3
abbrev pub head_line : ℕ → List ℕ
head_line count = codes "events " ++ decimal count ++ LINE_FEED ∷ []

-- 1 answers 2 sum 10
abbrev pub tally_line : ℕ → ℕ → ℕ → List ℕ
tally_line query number total =
    decimal query ++ codes " answers " ++ decimal number ++ codes " sum " ++ decimal total ++ LINE_FEED ∷ []

-- the numbers of a query's line are the tally of its answers over the generated events, modulo 2 to the power of 64
pub record IsToldOf (seed count : ℕ) (q : Query) (number total : ℕ) : Type 0 where
  pub answers : ℕ
  pub weight : ℕ
  pub tally : IsTally seed q count answers weight
  pub number_is : number ≡ answers % 2 ^ 64
  pub total_is : total ≡ weight % 2 ^ 64

-- The numbers and sums are those of both queries.
pub record AreToldOf (seed count first_number first_total second_number second_total : ℕ) : Type 0 where
  pub first : Query
  pub second : Query
  pub first_is : IsFirstQuery first
  pub second_is : IsSecondQuery second
  pub first_told : IsToldOf seed count first first_number first_total
  pub second_told : IsToldOf seed count second second_number second_total

-- the three lines for this seed and so many events
pub record IsSummary (seed count : ℕ) (bytes : List ℕ) : Type 0 where
  pub first_number : ℕ
  pub first_total : ℕ
  pub second_number : ℕ
  pub second_total : ℕ
  pub told : AreToldOf seed count first_number first_total second_number second_total
  pub written : bytes ≡ head_line count ++ tally_line 1 first_number first_total ++ tally_line 2 second_number second_total

-- What the sink has of the summary, by how the call ended.
abbrev pub WroteSummary : {T : Type 0} → ℕ → ℕ → Option (List ℕ) → Option (List ℕ) → Result T (OrMemory WriteFault) → Type 0
WroteSummary seed count before after (Ok done) = (bytes : List ℕ) × IsSummary seed count bytes × TookAll before after bytes
WroteSummary seed count before after (Err (Fault f)) = (bytes : List ℕ) × IsSummary seed count bytes × TookPart before after bytes
WroteSummary seed count before after (Err Memory) = (after ≡ before)
    ⊎ ((bytes : List ℕ) × IsSummary seed count bytes × TookPrefix before after bytes)
