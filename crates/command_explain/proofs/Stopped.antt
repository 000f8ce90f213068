-- The events were not read to their end, so nothing was written.
use Rattle.std.proofs.Common.{◌≡◌, ℕ, List, Option, Some, Err, refl}
use Rattle.cer_base.specs.declared.OrMemory.{OrMemory}
use Rattle.cer_base.specs.declared.OrMemory.TheVariants.{Fault, Memory}
use Rattle.cer_base.specs.Answers.{OnFault}
use Rattle.event_run.specs.declared.RunFault.{RunFault}
use Rattle.event_run.specs.declared.RunFault.TheVariants as run
use Rattle.event_run.specs.Listing.{StopsBy}
use Rattle.cer_base.specs.declared.limits.TheConstants.{MOST_BYTES}
use Rattle.stream_answers.specs.Gathering.{stream_fault}
use Rattle.command_explain.specs.ExplanationOutput.{ExplainRequest, WroteExplanation}

pub wrote_none : (T U : Type 0) (a : ExplainRequest) (source left taken : Option (List ℕ)) (stop : OrMemory RunFault) →
    OnFault {T = T} (Err stop) (λ fault. (bytes : List ℕ) → source ≡ Some bytes → StopsBy a.schema a.queries MOST_BYTES bytes left fault) → WroteExplanation a source left taken taken {T = U} (Err (stream_fault stop))
wrote_none T U a source left taken Memory stops = refl
wrote_none T U a source left taken (Fault run.ReadFault) stops = (refl, stops)
wrote_none T U a source left taken (Fault (run.Event line refusal)) stops = (refl, stops)
wrote_none T U a source left taken (Fault (run.InputTooLong most)) stops = (refl, stops)
