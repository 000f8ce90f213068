-- A note for which there was no memory: memory is the cause then.
use Rattle.std.proofs.Common.{◌≡◌, ℕ, inl, inr, List, Option, None, refl, sym, subst}
use Rattle.fault_notes.specs.declared.File.TheVariants as file
use Rattle.command_words.specs.declared.SampleWords.{SampleWords}
use Rattle.command_base.specs.declared.Cause.{Cause}
use Rattle.command_base.specs.declared.Cause.TheVariants as cause
use Rattle.command_base.specs.Tasks.{Task}
use Rattle.command_base.specs.Notes.{NeedsMemory, IsToldAs, TookNote}
use Rattle.command_base.specs.Sources.{Sources, left_by}
use Rattle.command_base.specs.Ending.{Outside, TaskEnded}
use Rattle.command_base.proofs.Lawful.{IsLawful, wrote_for_memory}
use Rattle.command_sample.specs.Ending.{WroteSample}
use Rattle.core_top.specs.Jobs.{task_of}
use Rattle.core_top.specs.Calls.{CallEnded, ran, sampled, refused, unread}
use Rattle.core_top.proofs.Words.{lawful}
use Rattle.core_top.proofs.Clauses.{at_cause}

-- the task whose note was not made
module _ {S H : Type 0} (sources : Sources S) (call : H → List ℕ → H → Type 0) (o : Outside) (t : Task) (law : IsLawful t) (first last : H) (failed : Option S) where
  ended_for_memory : (told : Cause) → NeedsMemory told → TaskEnded sources call o t first last told failed → TaskEnded sources call o t first last cause.Memory None
  ended_for_memory (cause.Queries fault place) needs ended = record {
    holds = (refl, inl ended.holds.1);
    wrote = wrote_for_memory t law (cause.Queries fault place) o.content (left_by sources failed) None o.before o.after needs ended.wrote;
    counts_opens = ended.counts_opens;
    counts_writes = ended.counts_writes;
    opens = record { files = ended.opens.files; told = inr (file.Queries, ended.opens.told); turn = ended.opens.turn; steps = ended.opens.steps };
  }
  ended_for_memory (cause.ClockKind name) needs ended = record {
    holds = (refl, inl ended.holds.1);
    wrote = wrote_for_memory t law (cause.ClockKind name) o.content (left_by sources failed) None o.before o.after needs ended.wrote;
    counts_opens = ended.counts_opens;
    counts_writes = ended.counts_writes;
    opens = record { files = ended.opens.files; told = inr (file.Queries, ended.opens.told); turn = ended.opens.turn; steps = ended.opens.steps };
  }
  ended_for_memory (cause.Checkpoint line fault) needs ended = record {
    holds = (refl, inl ended.holds.1);
    wrote = wrote_for_memory t law (cause.Checkpoint line fault) o.content (left_by sources failed) None o.before o.after needs ended.wrote;
    counts_opens = ended.counts_opens;
    counts_writes = ended.counts_writes;
    opens = record { files = ended.opens.files; told = inr (file.Checkpoint, ended.opens.told); turn = ended.opens.turn; steps = ended.opens.steps };
  }
  ended_for_memory (cause.Event line fault) needs ended = record {
    holds = (refl, inr ended.holds.files);
    wrote = wrote_for_memory t law (cause.Event line fault) o.content (left_by sources failed) None o.before o.after needs ended.wrote;
    counts_opens = ended.counts_opens;
    counts_writes = ended.counts_writes;
    opens = record { files = ended.opens.files; told = inr (file.Events, ended.opens.told); turn = ended.opens.turn; steps = ended.opens.steps };
  }
  ended_for_memory (cause.InputTooLong taken) needs ended = record {
    holds = (refl, inr ended.holds.files);
    wrote = wrote_for_memory t law (cause.InputTooLong taken) o.content (left_by sources failed) None o.before o.after needs ended.wrote;
    counts_opens = ended.counts_opens;
    counts_writes = ended.counts_writes;
    opens = record { files = ended.opens.files; told = inr (file.Events, ended.opens.told); turn = ended.opens.turn; steps = ended.opens.steps };
  }
  ended_for_memory cause.Fine needs ended = absurd needs
  ended_for_memory cause.Usage needs ended = absurd needs
  ended_for_memory (cause.OpenFault opened before after) needs ended = absurd needs
  ended_for_memory (cause.ReadFault read after) needs ended = absurd needs
  ended_for_memory (cause.WriteFault before after) needs ended = absurd needs
  ended_for_memory cause.Memory needs ended = absurd needs

-- no note of these ends takes memory
not_of_sample : (told : Cause) (sample : SampleWords) (before after : Option (List ℕ)) → NeedsMemory told → WroteSample told sample before after → ⊥
not_of_sample (cause.Queries fault place) sample before after needs wrote = wrote
not_of_sample (cause.ClockKind name) sample before after needs wrote = wrote
not_of_sample (cause.Event line fault) sample before after needs wrote = wrote
not_of_sample (cause.InputTooLong taken) sample before after needs wrote = wrote
not_of_sample (cause.Checkpoint line fault) sample before after needs wrote = wrote
not_of_sample cause.Fine sample before after needs wrote = needs
not_of_sample cause.Usage sample before after needs wrote = needs
not_of_sample (cause.OpenFault opened from to) sample before after needs wrote = needs
not_of_sample (cause.ReadFault read to) sample before after needs wrote = needs
not_of_sample (cause.WriteFault from to) sample before after needs wrote = needs
not_of_sample cause.Memory sample before after needs wrote = needs

module _ {S H : Type 0} (sources : Sources S) (call : H → List ℕ → H → Type 0) (words : List (List ℕ)) (o : Outside) (first last : H) where
  finished_for_memory : (told : Cause) (failed : Option S) → NeedsMemory told → CallEnded sources call words o first last told failed → CallEnded sources call words o first last cause.Memory None
  finished_for_memory told failed needs (ran job asked ended) = ran job asked (ended_for_memory sources call o (task_of job) (lawful job) first last failed told needs ended)
  finished_for_memory told failed needs (sampled sample asked ended) = absurd (not_of_sample told sample o.before o.after needs ended.stop.wrote)
  finished_for_memory told failed needs (refused ask usage ended) = absurd (at_cause NeedsMemory told cause.Usage usage needs)
  finished_for_memory told failed needs (unread memory ended) = absurd (at_cause NeedsMemory told cause.Memory memory needs)

  pub noted_finished : (told given : Cause) (failed kept : Option S) → IsToldAs told failed given kept → CallEnded sources call words o first last told failed → CallEnded sources call words o first last given kept
  noted_finished told given failed kept note finished =
      let P : Cause → Type 0 = λ k. CallEnded sources call words o first last k kept in
      elim note [
        | inl same ↦
            let Q : Option S → Type 0 = λ f. CallEnded sources call words o first last told f in
            subst P (sym same.0) (subst Q (sym same.1) finished)
        | inr none ↦
            let Q : Option S → Type 0 = λ f. CallEnded sources call words o first last cause.Memory f in
            subst P (sym none.1) (subst Q (sym none.2) (finished_for_memory told failed none.0 finished))
      ]

-- a note by another name
pub note_as : (before after : Option (List ℕ)) (old new : ℕ) (x y : List ℕ) → x ≡ y → TookNote before after old new x → TookNote before after old new y
note_as before after old new x y same took = let P : List ℕ → Type 0 = TookNote before after old new in subst P same took
