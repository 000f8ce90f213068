use Rattle.cel_terms.specs.Meaning.{meaning}
use Rattle.cel_terms.specs.MeaningLaws.{stream_of}
use Rattle.cel_terms.proofs.Operations.{bracketed_right, bracketed_left}
use Rattle.cel_terms.proofs.laws.chains_bracket_anywhere.Goals as goal

pub returns : goal.returns
returns c = λ schema events positions tight closer f g h start end v.
    let stream = stream_of schema events positions in (
      bracketed_right stream tight closer (meaning stream f) (meaning stream g) (meaning stream h) start end v,
      bracketed_left stream tight closer (meaning stream f) (meaning stream g) (meaning stream h) start end v,
    )
