use Rattle.cel_terms.specs.Meaning.{meaning}
use Rattle.cel_terms.specs.MeaningLaws.{stream_of}
use Rattle.cel_terms.proofs.Operations.{either_turned}
use Rattle.cel_terms.proofs.laws.choices_commute.Goals as goal

pub returns : goal.returns
returns c = λ schema events positions f g start end v.
    let stream = stream_of schema events positions in (
      either_turned (meaning stream f) (meaning stream g) start end v,
      either_turned (meaning stream g) (meaning stream f) start end v,
    )
