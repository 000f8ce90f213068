use Rattle.cel_terms.specs.Meaning.{meaning}
use Rattle.cel_terms.specs.MeaningLaws.{stream_of}
use Rattle.cel_terms.proofs.Operations.{unfolded, folded}
use Rattle.cel_terms.proofs.laws.repetition_unfolds.Goals as goal

pub returns : goal.returns
returns c = λ schema events positions tight f start end v.
    let stream = stream_of schema events positions in (
      unfolded stream tight (meaning stream f) start end v,
      folded stream tight (meaning stream f) start end v,
    )
