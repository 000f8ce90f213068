-- How many steps a run takes that goes on from a checkpoint.
use Rattle.std.specs.Prelude.{◌≡◌, ℕ, List, Option}
use Rattle.cer_outside.specs.Content.{Content, Holds}
use Rattle.stream_schema.specs.Types.{Declared}
use Rattle.stream_schema.specs.declared.Event.{Event}
use Rattle.cel_terms.specs.declared.Query.{Query}
use Rattle.stream_answers.specs.Steps.{CountsAllAfter, CountsAtFaultAfter}
use Rattle.stream_answers.specs.Streams.{RunRequest}
use Rattle.command_words.specs.declared.ResumeWords.{ResumeWords}
use Rattle.command_base.specs.StepCounts.{Counts}
use Rattle.command_checkpoint.specs.Resumed.{timing_after}
use Rattle.command_checkpoint.specs.GoingOn.{resume_asked_of, SaysAfter}

-- The steps after these events: they are bounded by these and the events of a file of these bytes, by the answers after these, and by the compactions of all queries, which count the events of the file alone.
abbrev pub counts_after : Option ℕ → List Event → RunRequest → List ℕ → Counts
counts_after every earlier a lines = record {
  all = λ Stops Took old now. CountsAllAfter (timing_after every earlier) earlier a lines Stops Took old now;
  at_fault = λ before after old now. CountsAtFaultAfter (timing_after every earlier) earlier a.order a lines before after old now;
}

-- where the host tells all three files, this is said of every stream of the checkpoint's history and of the bytes of the event file
abbrev pub OverThreeFiles : (List ℕ → Content) → ResumeWords → (Declared → List Query → List Event → List ℕ → Type 0) → Type 0
OverThreeFiles content r Says = (text kept lines : List ℕ) → content r.queries ≡ Holds text → content r.checkpoint ≡ Holds kept → content r.events ≡ Holds lines →
    SaysAfter text kept (λ schema queries earlier. Says schema queries earlier lines)

-- the steps, over all three files
abbrev pub resume_steps : ResumeWords → (List ℕ → Content) → Counts
resume_steps r content = record {
  all = λ Stops Took old now. OverThreeFiles content r (λ schema queries earlier lines. (counts_after r.compact_every earlier (resume_asked_of r schema queries) lines).all Stops Took old now);
  at_fault = λ before after old now. OverThreeFiles content r (λ schema queries earlier lines. (counts_after r.compact_every earlier (resume_asked_of r schema queries) lines).at_fault before after old now);
}
