-- How a sample ends. It opens no file.
use Rattle.std.specs.Prelude.{◌≡◌, ℕ, ◌⊎◌, List, Option, None}
use Rattle.cer_outside.specs.Causes.{Rose}
use Rattle.cer_outside.specs.Bytes.{TookAll, TookPart}
use Rattle.answer_blocks.specs.SinkBytes.{TookPrefix}
use Rattle.command_words.specs.declared.SampleWords.{SampleWords}
use Rattle.command_base.specs.declared.Cause.{Cause}
use Rattle.command_base.specs.declared.Cause.TheVariants as cause
use Rattle.command_base.specs.Causes.{CountsWrites}
use Rattle.command_sample.specs.Summary.{IsSummary}

-- What the output has taken after a sample, which ends by no other cause: its summary, a proper first part of it, or a first part or nothing.
abbrev pub WroteSample : Cause → SampleWords → Option (List ℕ) → Option (List ℕ) → Type 0
WroteSample cause.Fine sample before after = (bytes : List ℕ) × IsSummary sample.seed sample.count bytes × TookAll before after bytes
WroteSample (cause.WriteFault from to) sample before after = (bytes : List ℕ) × IsSummary sample.seed sample.count bytes × TookPart before after bytes
WroteSample cause.Memory sample before after = (after ≡ before) ⊎ ((bytes : List ℕ) × IsSummary sample.seed sample.count bytes × TookPrefix before after bytes)
WroteSample _ sample before after = ⊥

-- The sample ended by this cause: the output counted so many faults before and after, and had taken these bytes.
pub record SampleStop {S : Type 0} (sample : SampleWords) (out_old out_new : ℕ) (before after : Option (List ℕ)) (given : Cause) (failed : Option S) : Type 0 where
  pub wrote : WroteSample given sample before after
  pub fault : (from to : ℕ) → given ≡ cause.WriteFault from to → (from ≡ out_old) × (to ≡ out_new) × Rose from to
  pub none : failed ≡ None
  pub counts_writes : CountsWrites given out_old out_new
