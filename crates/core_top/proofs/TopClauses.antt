-- Each clause of the top call, from how the call ended.
use Rattle.std.proofs.Common.{◌≡◌, ℕ, ◌⊎◌, List, [], Option, Some, None, refl, sym, ◌∙◌, subst, inl, inr, IsSome, IsSomeAnd, ◌↔◌}
use Rattle.cer_base.specs.declared.Location.{Location}
use Rattle.ceql_grammar.specs.declared.faults.QueryFault.{QueryFault}
use Rattle.event_reader.specs.declared.EventFault.{EventFault}
use Rattle.cer_outside.specs.Causes.{AllStay}
use Rattle.cer_outside.specs.Content.{Content, Missing, Holds}
use Rattle.checkpoint_text.specs.declared.CheckpointFault.{CheckpointFault}
use Rattle.event_run.specs.Runs.{RunStop, End, Event, InputTooLong}
use Rattle.query_engine.specs.Engine.{EngineState}
use Rattle.fault_notes.specs.declared.File.{File}
use Rattle.fault_notes.specs.declared.File.TheVariants as file
use Rattle.command_words.specs.CommandLine.{AskNothing}
use Rattle.command_words.specs.declared.SampleWords.{SampleWords}
use Rattle.command_base.specs.declared.Cause.{Cause}
use Rattle.command_base.specs.declared.Cause.TheVariants as cause
use Rattle.command_base.specs.Accepted.{IsRefusedText}
use Rattle.command_base.specs.Tasks.{ReadsFile, CheckpointHolds, LacksItsClock, RefusesCheckpoint, TaskStops, name_of}
use Rattle.command_base.specs.Causes.{Exactly, IsFromOutside, IsFineOrOutside, IsReading, CountsOpens, CountsWrites, EndsWithout}
use Rattle.command_base.specs.Opening.{OpensInTurn}
use Rattle.command_base.specs.Output.{WroteBy}
use Rattle.command_base.specs.Leaving.{IsLeftBy}
use Rattle.command_base.specs.StepCounts.{StepsBy, none_counted}
use Rattle.command_base.specs.Notes.{IsToldAs}
use Rattle.command_base.specs.Sources.{Sources, left_by}
use Rattle.command_base.specs.Ending.{Outside, CauseHolds, TaskEnded}
use Rattle.command_base.proofs.Told.{text_told}
use Rattle.command_base.proofs.Ends.{left_by_end}
use Rattle.command_base.proofs.StepClauses.{steps_for_memory}
use Rattle.command_sample.specs.Ending.{WroteSample}
use Rattle.core_top.specs.Jobs.{Job, task_of, AsksJob, AsksSample}
use Rattle.core_top.specs.StepCounts.{steps_of}
use Rattle.core_top.specs.LeftEngine.{leaves_of}
use Rattle.core_top.specs.Faults.{HasOpenFault, HasReadFault, HasWriteFault}
use Rattle.core_top.specs.Calls.{UnaskedEnded, CallEnded, ran, sampled, refused, unread}
use Rattle.core_top.proofs.Noted.{noted_finished}
use Rattle.core_top.proofs.Words.{one_job, one_sample, no_job_and_sample, asks_something, lawful, forgets}
use Rattle.core_top.proofs.Clauses.{at_cause, cause_of, queries_whenever, clock_whenever, checkpoint_whenever, stop_whenever, stops_of_cause, fine_or_outside, no_source, failed_reading, ends_without}

-- a cause that is another one
other_cause : (given one : Cause) → given ≡ one → (want : Cause) → given ≡ want → one ≡ want
other_cause given one same want is = sym same ∙ is

-- a source with a fact that follows
source_with : {S : Type 0} (failed : Option S) (P Q : S → Type 0) → ((source : S) → P source → Q source) → IsSomeAnd failed P → IsSomeAnd failed Q
source_with None P Q follows fact = fact
source_with (Some source) P Q follows fact = follows source fact

-- what is said of a source that failed in a job
job_read : {S : Type 0} (sources : Sources S) (words : List (List ℕ)) (o : Outside) (job : Job) (read : File) (after : ℕ) (failed : Option S) → AsksJob words job → CauseHolds sources o (task_of job) (cause.ReadFault read after) failed →
    IsSomeAnd failed (λ source. HasReadFault words o.content read after (sources.faults source) (sources.left source))
job_read sources words o job file.Queries after failed asked holds =
    source_with failed _ _ (λ source fault. let f = fault.failed in record { job = job; asked = asked; turn = tt; told = f.told; rose = f.rose; rest = f.rest; within = λ queries. fault.within }) holds.1
job_read sources words o job file.Checkpoint after failed asked holds =
    source_with failed _ _ (λ source fault. record { job = job; asked = asked; turn = holds.1; told = fault.told; rose = fault.rose; rest = fault.rest; within = λ (queries : file.Checkpoint ≡ file.Queries). absurd cc }) holds.2
job_read sources words o job file.Events after failed asked holds =
    source_with failed _ _ (λ source fault. record { job = job; asked = asked; turn = holds.0; told = fault.told; rose = fault.rose; rest = fault.rest; within = λ (queries : file.Events ≡ file.Queries). absurd cc }) holds.1

-- where no source failed the cause is no fault of reading
reading_none : {S : Type 0} (given : Cause) (failed : Option S) → failed ≡ None → (IsReading given → ⊥) → IsSome failed ↔ IsReading given
reading_none given failed none other = (λ h. absurd (no_source failed none h), λ h. absurd (other h))

reads_no_sample : (given : Cause) (sample : SampleWords) (before after : Option (List ℕ)) → WroteSample given sample before after → IsReading given → ⊥
reads_no_sample (cause.ReadFault read to) sample before after wrote reading = wrote
reads_no_sample cause.Fine sample before after wrote reading = reading
reads_no_sample cause.Usage sample before after wrote reading = reading
reads_no_sample (cause.Queries fault place) sample before after wrote reading = reading
reads_no_sample (cause.ClockKind name) sample before after wrote reading = reading
reads_no_sample (cause.Event line fault) sample before after wrote reading = reading
reads_no_sample (cause.OpenFault opened from to) sample before after wrote reading = reading
reads_no_sample (cause.WriteFault from to) sample before after wrote reading = reading
reads_no_sample cause.Memory sample before after wrote reading = reading
reads_no_sample (cause.InputTooLong taken) sample before after wrote reading = reading
reads_no_sample (cause.Checkpoint line fault) sample before after wrote reading = reading

-- memory ran out while the words were read, or they ask for nothing
early_cause : (P : Cause → Type 0) (given : Cause) → given ≡ cause.Memory → P cause.Memory → P given
early_cause P given same fact = at_cause P cause.Memory given (sym same) fact

-- How a job ended that the words ask for.
pub record EndedWell {S H : Type 0} (sources : Sources S) (call : H → List ℕ → H → Type 0) (o : Outside) (job : Job) (first last : H) (given : Cause) (failed : Option S) : Type 0 where
  pub way : TaskEnded sources call o (task_of job) first last given failed ⊎ ((given ≡ cause.Memory) × UnaskedEnded o first last failed)

module _ {S H : Type 0} {sources : Sources S} {call : H → List ℕ → H → Type 0} {words : List (List ℕ)} {o : Outside} {first last : H} {given : Cause} {failed : Option S} where
  -- Where the words ask for a job, it ended, or memory ran out while they were read.
  ended_well : CallEnded sources call words o first last given failed → (job : Job) → AsksJob words job → EndedWell sources call o job first last given failed
  ended_well (ran other asked ended) job is =
      let P : Job → Type 0 = λ w. TaskEnded sources call o (task_of w) first last given failed in
      record { way = inl (subst P (one_job words other job asked is) ended) }
  ended_well (sampled sample asked ended) job is = absurd (no_job_and_sample words job sample is asked)
  ended_well (refused ask usage ended) job is = absurd (asks_something words job ask is)
  ended_well (unread memory ended) job is = record { way = inr (memory, ended) }

  pub usage_clause : CallEnded sources call words o first last given failed → Exactly given cause.Usage (AskNothing words)
  usage_clause (ran job asked ended) = record {
    only = λ same. absurd (at_cause (λ k. CauseHolds sources o (task_of job) k failed) given cause.Usage same ended.holds);
    whenever = λ ask. absurd (asks_something words job ask asked);
  }
  usage_clause (sampled sample asked ended) = record {
    only = λ same. absurd (at_cause (λ k. WroteSample k sample o.before o.after) given cause.Usage same ended.stop.wrote);
    whenever = λ ask. absurd (ask _ asked);
  }
  usage_clause (refused ask usage ended) = record { only = λ same. ask; whenever = λ again. inl usage }
  usage_clause (unread memory ended) = record {
    only = λ same. let wrong : cause.Memory ≡ cause.Usage = sym memory ∙ same in absurd cc;
    whenever = λ ask. inr (at_cause IsFromOutside cause.Memory given (sym memory) tt);
  }

  pub queries_clause : CallEnded sources call words o first last given failed → (job : Job) (text : List ℕ) (fault : QueryFault) (place : Location) → AsksJob words job → o.content (task_of job).queries ≡ Holds text → Exactly given (cause.Queries fault place) (IsRefusedText text fault place)
  queries_clause finished job text fault place is first_told =
      elim (ended_well finished job is).way [
        | inl ended ↦ record {
          only = λ same. text_told _ text (λ w. IsRefusedText w fault place) first_told (at_cause (λ k. CauseHolds sources o (task_of job) k failed) given (cause.Queries fault place) same ended.holds).2;
          whenever = λ refused. queries_whenever sources o (task_of job) given failed text fault place first_told ended.holds refused;
        }
        | inr none ↦ record {
          only = λ same. let wrong : cause.Memory ≡ cause.Queries fault place = sym none.0 ∙ same in absurd cc;
          whenever = λ refused. inr (at_cause IsFromOutside cause.Memory given (sym none.0) tt);
        }
      ]

  pub clock_clause : CallEnded sources call words o first last given failed → (job : Job) (text name : List ℕ) → AsksJob words job → o.content (task_of job).queries ≡ Holds text → Exactly given (cause.ClockKind name) (LacksItsClock (task_of job) text name)
  clock_clause finished job text name is first_told =
      elim (ended_well finished job is).way [
        | inl ended ↦ record {
          only = λ same. text_told _ text (λ w. LacksItsClock (task_of job) w name) first_told (at_cause (λ k. CauseHolds sources o (task_of job) k failed) given (cause.ClockKind name) same ended.holds).2;
          whenever = λ lacks. clock_whenever sources o (task_of job) given failed text name first_told ended.holds lacks;
        }
        | inr none ↦ record {
          only = λ same. let wrong : cause.Memory ≡ cause.ClockKind name = sym none.0 ∙ same in absurd cc;
          whenever = λ lacks. inr (at_cause IsFromOutside cause.Memory given (sym none.0) tt);
        }
      ]

  pub checkpoint_clause : CallEnded sources call words o first last given failed → (job : Job) (text kept : List ℕ) (line : ℕ) (fault : CheckpointFault) → AsksJob words job → o.content (task_of job).queries ≡ Holds text → CheckpointHolds o.content (task_of job) kept →
      Exactly given (cause.Checkpoint line fault) (RefusesCheckpoint (task_of job) text kept line fault)
  checkpoint_clause finished job text kept line fault is first_told kept_told =
      elim (ended_well finished job is).way [
        | inl ended ↦ record {
          only = λ same. (at_cause (λ k. CauseHolds sources o (task_of job) k failed) given (cause.Checkpoint line fault) same ended.holds).3.refused text kept first_told kept_told;
          whenever = λ refused. checkpoint_whenever sources o (task_of job) given failed text kept line fault first_told kept_told ended.holds refused;
        }
        | inr none ↦ record {
          only = λ same. let wrong : cause.Memory ≡ cause.Checkpoint line fault = sym none.0 ∙ same in absurd cc;
          whenever = λ refused. inr (at_cause IsFromOutside cause.Memory given (sym none.0) tt);
        }
      ]

  -- a stop of the events, by its cause
  stop_clause : CallEnded sources call words o first last given failed → (job : Job) (text kept lines : List ℕ) (stop : RunStop) → (cause.Memory ≡ cause_of stop → ⊥) →
      AsksJob words job → o.content (task_of job).queries ≡ Holds text → CheckpointHolds o.content (task_of job) kept → o.content (task_of job).events ≡ Holds lines → Exactly given (cause_of stop) (TaskStops (task_of job) text kept lines stop)
  stop_clause finished job text kept lines stop other is first_told kept_told second_told =
      elim (ended_well finished job is).way [
        | inl ended ↦ record {
          only = λ same. stops_of_cause sources o (task_of job) failed text kept lines stop first_told kept_told second_told (at_cause (λ k. CauseHolds sources o (task_of job) k failed) given (cause_of stop) same ended.holds);
          whenever = λ fact. stop_whenever sources o (task_of job) (lawful job) given failed text kept lines stop first_told kept_told second_told ended.holds fact;
        }
        | inr none ↦ record {
          only = λ same. absurd (other (sym none.0 ∙ same));
          whenever = λ fact. inr (at_cause IsFromOutside cause.Memory given (sym none.0) tt);
        }
      ]

  pub event_clause : CallEnded sources call words o first last given failed → (job : Job) (text kept lines : List ℕ) (line : ℕ) (fault : EventFault) → AsksJob words job → o.content (task_of job).queries ≡ Holds text → CheckpointHolds o.content (task_of job) kept →
      o.content (task_of job).events ≡ Holds lines → Exactly given (cause.Event line fault) (TaskStops (task_of job) text kept lines (Event line fault))
  event_clause finished job text kept lines line fault is first_told kept_told second_told = stop_clause finished job text kept lines (Event line fault) (λ wrong. cc) is first_told kept_told second_told

  pub too_long_clause : CallEnded sources call words o first last given failed → (job : Job) (text kept lines : List ℕ) (taken : ℕ) → AsksJob words job → o.content (task_of job).queries ≡ Holds text → CheckpointHolds o.content (task_of job) kept →
      o.content (task_of job).events ≡ Holds lines → Exactly given (cause.InputTooLong taken) (TaskStops (task_of job) text kept lines (InputTooLong taken))
  too_long_clause finished job text kept lines taken is first_told kept_told second_told = stop_clause finished job text kept lines (InputTooLong taken) (λ wrong. cc) is first_told kept_told second_told

  pub complete_clause : CallEnded sources call words o first last given failed → (job : Job) (text kept lines : List ℕ) → AsksJob words job → o.content (task_of job).queries ≡ Holds text → CheckpointHolds o.content (task_of job) kept →
      o.content (task_of job).events ≡ Holds lines → TaskStops (task_of job) text kept lines End → IsFineOrOutside given
  complete_clause finished job text kept lines is first_told kept_told second_told stops =
      let exact = stop_clause finished job text kept lines End (λ wrong. cc) is first_told kept_told second_told in
      fine_or_outside given (exact.whenever stops)

  pub wrote_clause : CallEnded sources call words o first last given failed → (job : Job) → AsksJob words job → WroteBy given o.content (task_of job) (left_by sources failed) o.before o.after
  wrote_clause finished job is =
      elim (ended_well finished job is).way [
        | inl ended ↦ ended.wrote
        | inr none ↦ early_cause (λ k. WroteBy k o.content (task_of job) (left_by sources failed) o.before o.after) given none.0 ((lawful job).nothing o.content o.before o.after none.1.wrote)
      ]

  pub sampled_clause : CallEnded sources call words o first last given failed → (sample : SampleWords) → AsksSample words sample → WroteSample given sample o.before o.after
  sampled_clause (ran job asked ended) sample is = absurd (no_job_and_sample words job sample asked is)
  sampled_clause (sampled other asked ended) sample is =
      let P : SampleWords → Type 0 = λ s. WroteSample given s o.before o.after in
      subst P (one_sample words other sample asked is) ended.stop.wrote
  sampled_clause (refused ask usage ended) sample is = absurd (ask _ is)
  sampled_clause (unread memory ended) sample is = early_cause (λ k. WroteSample k sample o.before o.after) given memory (inl ended.wrote)

  pub silent_clause : CallEnded sources call words o first last given failed → AskNothing words → (o.after ≡ o.before) × (last ≡ first)
  silent_clause (ran job asked ended) ask = absurd (asks_something words job ask asked)
  silent_clause (sampled sample asked ended) ask = absurd (ask _ asked)
  silent_clause (refused again usage ended) ask = (ended.wrote, ended.unopened)
  silent_clause (unread memory ended) ask = (ended.wrote, ended.unopened)

  pub unopened_clause : CallEnded sources call words o first last given failed → (sample : SampleWords) → AsksSample words sample → last ≡ first
  unopened_clause (ran job asked ended) sample is = absurd (no_job_and_sample words job sample asked is)
  unopened_clause (sampled other asked ended) sample is = ended.unopened
  unopened_clause (refused ask usage ended) sample is = ended.unopened
  unopened_clause (unread memory ended) sample is = ended.unopened

  pub open_clause : CallEnded sources call words o first last given failed → (opened : File) (before after : ℕ) → given ≡ cause.OpenFault opened before after → HasOpenFault words o.content o.old o.new opened before after
  open_clause (ran job asked ended) opened before after same =
      let holds = at_cause (λ k. CauseHolds sources o (task_of job) k failed) given (cause.OpenFault opened before after) same ended.holds in
      record { job = job; asked = asked; turn = holds.2; from = holds.3; to = holds.4; rose = holds.5 }
  open_clause (sampled sample asked ended) opened before after same = absurd (at_cause (λ k. WroteSample k sample o.before o.after) given (cause.OpenFault opened before after) same ended.stop.wrote)
  open_clause (refused ask usage ended) opened before after same = let wrong : cause.Usage ≡ cause.OpenFault opened before after = sym usage ∙ same in absurd cc
  open_clause (unread memory ended) opened before after same = let wrong : cause.Memory ≡ cause.OpenFault opened before after = sym memory ∙ same in absurd cc

  pub read_clause : CallEnded sources call words o first last given failed → (read : File) (after : ℕ) → given ≡ cause.ReadFault read after → IsSomeAnd failed (λ source. HasReadFault words o.content read after (sources.faults source) (sources.left source))
  read_clause (ran job asked ended) read after same = job_read sources words o job read after failed asked (at_cause (λ k. CauseHolds sources o (task_of job) k failed) given (cause.ReadFault read after) same ended.holds)
  read_clause (sampled sample asked ended) read after same = absurd (at_cause (λ k. WroteSample k sample o.before o.after) given (cause.ReadFault read after) same ended.stop.wrote)
  read_clause (refused ask usage ended) read after same = let wrong : cause.Usage ≡ cause.ReadFault read after = sym usage ∙ same in absurd cc
  read_clause (unread memory ended) read after same = let wrong : cause.Memory ≡ cause.ReadFault read after = sym memory ∙ same in absurd cc

  pub write_clause : CallEnded sources call words o first last given failed → (before after : ℕ) → given ≡ cause.WriteFault before after → HasWriteFault o.out_old o.out_new before after
  write_clause (ran job asked ended) before after same =
      let holds = at_cause (λ k. CauseHolds sources o (task_of job) k failed) given (cause.WriteFault before after) same ended.holds in
      record { from = holds.2; to = holds.3; rose = holds.4 }
  write_clause (sampled sample asked ended) before after same = let from = ended.stop.fault before after same in record { from = from.0; to = from.1; rose = from.2 }
  write_clause (refused ask usage ended) before after same = let wrong : cause.Usage ≡ cause.WriteFault before after = sym usage ∙ same in absurd cc
  write_clause (unread memory ended) before after same = let wrong : cause.Memory ≡ cause.WriteFault before after = sym memory ∙ same in absurd cc

  pub failed_clause : CallEnded sources call words o first last given failed → IsSome failed ↔ IsReading given
  failed_clause (ran job asked ended) = failed_reading sources o (task_of job) given failed ended.holds
  failed_clause (sampled sample asked ended) = reading_none given failed ended.stop.none (reads_no_sample given sample o.before o.after ended.stop.wrote)
  failed_clause (refused ask usage ended) = reading_none given failed ended.none (at_cause (λ k. IsReading k → ⊥) cause.Usage given (sym usage) (λ h. h))
  failed_clause (unread memory ended) = reading_none given failed ended.none (early_cause (λ k. IsReading k → ⊥) given memory (λ h. h))

  pub missing_clause : CallEnded sources call words o first last given failed → (job : Job) (lost : File) → AsksJob words job → ReadsFile (task_of job) lost → o.content (name_of lost (task_of job)) ≡ Missing → EndsWithout lost given × (o.after ≡ o.before)
  missing_clause finished job lost is reads missing =
      elim (ended_well finished job is).way [
        | inl ended ↦ ends_without sources o (task_of job) given failed lost reads missing ended.holds
        | inr none ↦ (early_cause (EndsWithout lost) given none.0 tt, none.1.wrote)
      ]

  pub opens_clause : CallEnded sources call words o first last given failed → (job : Job) → AsksJob words job → OpensInTurn call o.content (task_of job) given first last
  opens_clause finished job is =
      elim (ended_well finished job is).way [
        | inl ended ↦ ended.opens
        | inr none ↦ early_cause (λ k. OpensInTurn call o.content (task_of job) k first last) given none.0 (record { files = []; told = inl refl; turn = tt; steps = none.1.unopened })
      ]

  pub counts_opens_clause : CallEnded sources call words o first last given failed → (last ≡ first → AllStay o.old o.new) → (job : Job) → AsksJob words job → CountsOpens given (task_of job) o.old o.new
  counts_opens_clause finished stay job is =
      elim (ended_well finished job is).way [
        | inl ended ↦ ended.counts_opens
        | inr none ↦ early_cause (λ k. CountsOpens k (task_of job) o.old o.new) given none.0 (stay none.1.unopened)
      ]

  pub counts_writes_clause : CallEnded sources call words o first last given failed → CountsWrites given o.out_old o.out_new
  counts_writes_clause (ran job asked ended) = ended.counts_writes
  counts_writes_clause (sampled sample asked ended) = ended.stop.counts_writes
  counts_writes_clause (refused ask usage ended) = at_cause (λ k. CountsWrites k o.out_old o.out_new) cause.Usage given (sym usage) ended.counts_writes
  counts_writes_clause (unread memory ended) = early_cause (λ k. CountsWrites k o.out_old o.out_new) given memory ended.counts_writes

-- how the call ended, by other names of the words, the cause and the source that failed, and after its note
pub finished_as : {S H : Type 0} (sources : Sources S) (call : H → List ℕ → H → Type 0) (words told : List (List ℕ)) (o : Outside) (first last : H) (stopped noted given : Cause) (failed left was : Option S) →
    told ≡ words → given ≡ noted → was ≡ left → IsToldAs stopped failed noted left → CallEnded sources call told o first last stopped failed → CallEnded sources call words o first last given was
finished_as {S} sources call words told o first last stopped noted given failed left was same cause_is failed_is note finished =
    let W : List (List ℕ) → Type 0 = λ w. CallEnded sources call w o first last given was in
    let P : Cause → Type 0 = λ k. CallEnded sources call told o first last k was in
    let Q : Option S → Type 0 = λ f. CallEnded sources call told o first last noted f in
    subst W same (subst P (sym cause_is) (subst Q (sym failed_is) (noted_finished sources call told o first last stopped noted failed left note finished)))

-- THE STEPS

-- after the note
pub noted_steps : {S : Type 0} (content : List ℕ → Content) (job : Job) (told given last : Cause) (failed left : Option S) (before after : Option (List ℕ)) (old now : ℕ) → last ≡ given → IsToldAs told failed given left →
    StepsBy told (steps_of job content) before after old now → StepsBy last (steps_of job content) before after old now
noted_steps content job told given last failed left before after old now same note h =
    let P : Cause → Type 0 = λ k. StepsBy k (steps_of job content) before after old now in
    subst P (sym same) (elim note [
      | inl is ↦ subst P (sym is.0) h
      | inr none ↦ subst P (sym none.1) (steps_for_memory (steps_of job content) (forgets job content) before after old now told none.0 h)
    ])

-- those of the job that the words ask for
pub job_steps : (words : List (List ℕ)) (content : List ℕ → Content) (job other : Job) (given : Cause) (before after : Option (List ℕ)) (old now : ℕ) → AsksJob words job → AsksJob words other →
    StepsBy given (steps_of job content) before after old now → StepsBy given (steps_of other content) before after old now
job_steps words content job other given before after old now one two h =
    let P : Job → Type 0 = λ w. StepsBy given (steps_of w content) before after old now in subst P (one_job words job other one two) h

-- those of a job that takes none
pub never_counted : (given : Cause) (before after : Option (List ℕ)) (now : ℕ) → StepsBy given none_counted before after now now
never_counted cause.Fine before after now = refl
never_counted cause.Usage before after now = refl
never_counted (cause.Queries fault place) before after now = refl
never_counted (cause.ClockKind name) before after now = refl
never_counted (cause.Event line fault) before after now = refl
never_counted (cause.InputTooLong taken) before after now = refl
never_counted (cause.Checkpoint line fault) before after now = refl
never_counted (cause.OpenFault opened from to) before after now = refl
never_counted (cause.ReadFault file.Queries to) before after now = refl
never_counted (cause.ReadFault file.Checkpoint to) before after now = refl
never_counted (cause.ReadFault file.Events to) before after now = refl
never_counted (cause.WriteFault from to) before after now = refl
never_counted cause.Memory before after now = inl refl

-- THE ENGINE THAT IS LEFT

-- none was left where memory ran out
memory_left : (Leaves : Option EngineState → Type 0) (given : Cause) (left : Option EngineState) → given ≡ cause.Memory → left ≡ None → IsLeftBy given Leaves left
memory_left Leaves given left same none = let P : Cause → Type 0 = λ k. IsLeftBy k Leaves left in subst P (sym same) none

-- nor where nothing was asked
pub early_left : (content : List ℕ → Content) (job : Job) (given : Cause) (left : Option EngineState) → (given ≡ cause.Memory) ⊎ (given ≡ cause.Usage) → left ≡ None → IsLeftBy given (leaves_of job content) left
early_left content job given left way none =
    let P : Cause → Type 0 = λ k. IsLeftBy k (leaves_of job content) left in
    elim way [ inl memory ↦ subst P (sym memory) none | inr usage ↦ subst P (sym usage) none ]

-- nor by a job that leaves none
pub never_left : (given : Cause) (left : Option EngineState) → left ≡ None → IsLeftBy given (λ engine. engine ≡ None) left
never_left given left none = left_by_end (λ engine. engine ≡ None) given left (λ fine. none) (λ ill. none)

-- the job that the words ask for
pub left_asked : (words : List (List ℕ)) (content : List ℕ → Content) (job other : Job) (given : Cause) (left : Option EngineState) → AsksJob words job → AsksJob words other → IsLeftBy given (leaves_of job content) left → IsLeftBy given (leaves_of other content) left
left_asked words content job other given left one two h =
    let P : Job → Type 0 = λ w. IsLeftBy given (leaves_of w content) left in subst P (one_job words job other one two) h

-- with the note, and by another name
pub left_noted : (content : List ℕ → Content) (job : Job) (told given last : Cause) (left noted held : Option EngineState) → last ≡ given → held ≡ noted →
    ((given ≡ told) × (noted ≡ left)) ⊎ ((given ≡ cause.Memory) × (noted ≡ None)) → IsLeftBy told (leaves_of job content) left → IsLeftBy last (leaves_of job content) held
left_noted content job told given last left noted held same is way h =
    let P : Cause → Type 0 = λ k. IsLeftBy k (leaves_of job content) held in
    let O : Option EngineState → Type 0 = λ o. IsLeftBy told (leaves_of job content) o in
    elim way [
      | inl kept ↦ subst P (sym (same ∙ kept.0)) (subst O (sym (is ∙ kept.1)) h)
      | inr forgot ↦ memory_left (leaves_of job content) last held (same ∙ forgot.0) (is ∙ forgot.1)
    ]

pub none_noted : (left noted held : Option EngineState) (given told : Cause) → held ≡ noted → ((given ≡ told) × (noted ≡ left)) ⊎ ((given ≡ cause.Memory) × (noted ≡ None)) → left ≡ None → held ≡ None
none_noted left noted held given told is way none = elim way [ inl kept ↦ is ∙ (kept.1 ∙ none) | inr forgot ↦ is ∙ forgot.1 ]
