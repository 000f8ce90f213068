use Rattle.cel_terms.specs.MeaningLaws.{stream_of}
use Rattle.cel_terms.proofs.Intervals.{lies}
use Rattle.cel_terms.proofs.laws.intervals_span.Goals as goal

pub returns : goal.returns
returns c = λ schema events positions f start end v means. (lies (stream_of schema events positions) f start end v means).span
