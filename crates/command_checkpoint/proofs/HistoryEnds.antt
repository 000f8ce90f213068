-- How a run ends that finds no history to go on from.
use Rattle.std.proofs.Common.{◌≡◌, ℕ, inl, inr, List, Option, Some, None, refl, sym, ◌∙◌, subst, IsSomeAnd}
use Rattle.cer_outside.specs.Causes.{Rose, AllStay}
use Rattle.cer_outside.specs.Content.{Content, Untold, Missing, Holds, HasOpened, OfOpened}
use Rattle.stream_schema.specs.Types.{Declared}
use Rattle.cel_terms.specs.declared.Query.{Query}
use Rattle.query_engine.specs.Engine.{EngineState}
use Rattle.checkpoint_text.specs.ReaderAnswers.{AreGoodRead}
use Rattle.fault_notes.specs.declared.File.{File}
use Rattle.fault_notes.specs.declared.File.TheVariants as file
use Rattle.command_words.specs.declared.ResumeWords.{ResumeWords}
use Rattle.command_base.specs.declared.Cause.{Cause}
use Rattle.command_base.specs.declared.Cause.TheVariants as cause
use Rattle.command_base.specs.Accepted.{Accepts}
use Rattle.command_base.specs.Opening.{OpensInTurn, files_to, AreOpened}
use Rattle.command_base.specs.SourceBytes.{IsRestOf}
use Rattle.command_base.specs.Sources.{Sources, left_by}
use Rattle.command_base.specs.Ending.{Outside, ReadingStops, FailedWith, StopCounts, IsOpening, NotRead, TaskEnded}
use Rattle.command_base.proofs.Lawful.{takes_accepted}
use Rattle.command_base.proofs.StepClauses.{IsEarly, is_opening}
use Rattle.command_base.proofs.Told.{not_missing, source_told, text_told}
use Rattle.command_base.proofs.Ends.{opened_checkpoint, rose_later, rose_same, stay_on}
use Rattle.command_checkpoint.specs.GoingOn.{resume_task}
use Rattle.command_checkpoint.specs.Histories.{NoHistory, HistoryStop}

-- what a source of the checkpoint that failed has left is its last part
good_rest : (schema : Declared) (queries : List Query) (content : Content) (source left : Option (List ℕ)) → HasOpened content source → ((kept : List ℕ) → source ≡ Some kept → AreGoodRead schema queries kept left) → IsRestOf content left
good_rest schema queries Untold source left opened good = tt
good_rest schema queries Missing source left opened good = opened
good_rest schema queries (Holds kept) source None opened good = good kept opened
good_rest schema queries (Holds kept) source (Some rest) opened good = let g = good kept opened in (g.cut.taken, g.cut.whole)

failed_before : {S : Type 0} (sources : Sources S) (schema : Declared) (queries : List Query) (content : Content) (source : Option (List ℕ)) (to : ℕ) (failed : Option S) → HasOpened content source →
    IsSomeAnd failed (λ s. (sources.faults s ≡ to) × Rose 0 to) → ((kept : List ℕ) → source ≡ Some kept → AreGoodRead schema queries kept (left_by sources failed)) → IsSomeAnd failed (FailedWith sources content to)
failed_before sources schema queries content source to None opened told good = told
failed_before sources schema queries content source to (Some s) opened told good = record { told = told.0; rose = told.1; rest = good_rest schema queries content source (sources.left s) opened good }

-- Two files were opened, the text was accepted, and nothing was written.
module _ {S H : Type 0} (sources : Sources S) (call : H → List ℕ → H → Type 0) (o : Outside) (r : ResumeWords) (first middle last : H) (schema : Declared) (queries : List Query) (accepted : OfOpened (o.content r.queries) (λ text. Accepts text schema queries))
    (nothing : o.after ≡ o.before) (writes : o.out_new ≡ o.out_old) (one : call first r.queries middle) (two : call middle r.checkpoint last) where
  two_opened : (given : Cause) → AreOpened (resume_task r) given (files_to (resume_task r) file.Checkpoint) → OpensInTurn call o.content (resume_task r) given first last
  two_opened given are = opened_checkpoint call o.content (resume_task r) given first middle last tt are (takes_accepted (o.content r.queries) (resume_task r) schema queries refl accepted) one two

  -- there was no memory for an engine
  pub engine_ended : (given : Cause) (failed : Option S) → AllStay o.old o.new → given ≡ cause.Memory → failed ≡ None → TaskEnded sources call o (resume_task r) first last given failed
  engine_ended given failed stay memory none =
      let P : Cause → Type 0 = λ k. TaskEnded sources call o (resume_task r) first last k failed in
      subst P (sym memory) (record {
        holds = (none, inl nothing);
        wrote = inl nothing;
        counts_opens = stay;
        counts_writes = writes;
        opens = two_opened cause.Memory (inr (file.Checkpoint, refl));
      })

  -- the checkpoint was not opened
  not_opened : (held : List ℕ → ℕ) (whole : Content) (given : Cause) (failed : Option S) → AllStay o.old held →
      ReadingStops sources file.Checkpoint whole (held r.checkpoint) (o.new r.checkpoint) given failed → StopCounts given r.checkpoint held o.new → IsOpening given → TaskEnded sources call o (resume_task r) first last given failed
  not_opened held whole (cause.OpenFault opened before after) failed stay stops counts opening =
      let P : File → Type 0 = λ f. TaskEnded sources call o (resume_task r) first last (cause.OpenFault f before after) failed in
      let from : before ≡ o.old r.checkpoint = stops.1 ∙ stay r.checkpoint in
      subst P (sym stops.0) (record {
        holds = (stops.4, nothing, (tt, takes_accepted (o.content r.queries) (resume_task r) schema queries refl accepted), from, stops.2, rose_same (held r.checkpoint) (o.new r.checkpoint) before after stops.1 stops.2 stops.3);
        wrote = nothing;
        counts_opens = rose_later r.checkpoint o.old held o.new stay counts;
        counts_writes = writes;
        opens = two_opened (cause.OpenFault file.Checkpoint before after) refl;
      })
  not_opened held whole cause.Memory failed stay stops counts opening = engine_ended cause.Memory failed (stay_on o.old held o.new stay counts) refl stops
  not_opened held whole cause.Fine failed stay stops counts opening = absurd opening
  not_opened held whole cause.Usage failed stay stops counts opening = absurd opening
  not_opened held whole (cause.Queries fault place) failed stay stops counts opening = absurd opening
  not_opened held whole (cause.ClockKind name) failed stay stops counts opening = absurd opening
  not_opened held whole (cause.Event line fault) failed stay stops counts opening = absurd opening
  not_opened held whole (cause.InputTooLong taken) failed stay stops counts opening = absurd opening
  not_opened held whole (cause.Checkpoint line fault) failed stay stops counts opening = absurd opening
  not_opened held whole (cause.ReadFault read after) failed stay stops counts opening = absurd opening
  not_opened held whole (cause.WriteFault before after) failed stay stops counts opening = absurd opening

  -- it was opened, and has no history
  no_history : (held : List ℕ → ℕ) (source : Option (List ℕ)) (given : Cause) (failed : Option S) → AllStay o.old held → HasOpened (o.content r.checkpoint) source →
      NoHistory sources schema queries source given failed → StopCounts given r.checkpoint held o.new → TaskEnded sources call o (resume_task r) first last given failed
  no_history held source (cause.Checkpoint line fault) failed stay opened stops counts = record {
    holds = (
      stops.0,
      nothing,
      takes_accepted (o.content r.queries) (resume_task r) schema queries refl accepted,
      record {
        resumes = tt;
        has = not_missing (o.content r.checkpoint) source opened;
        refused = λ text kept told second. (
          tt,
          record {
            schema = schema;
            queries = queries;
            accepted = text_told (o.content r.queries) text (λ t. Accepts t schema queries) told accepted;
            says = (refl, stops.1 kept (source_told (o.content r.checkpoint) source kept opened (second tt)));
          },
        );
      },
    );
    wrote = (tt, nothing);
    counts_opens = stay_on o.old held o.new stay counts;
    counts_writes = writes;
    opens = two_opened (cause.Checkpoint line fault) refl;
  }
  no_history held source (cause.ReadFault read to) failed stay opened stops counts =
      let P : File → Type 0 = λ f. TaskEnded sources call o (resume_task r) first last (cause.ReadFault f to) failed in
      subst P (sym stops.0) (record {
        holds = (nothing, (tt, takes_accepted (o.content r.queries) (resume_task r) schema queries refl accepted), failed_before sources schema queries (o.content r.checkpoint) source to failed opened stops.1 stops.2);
        wrote = (
          tt,
          nothing,
          record {
            good = λ text kept told second. record {
              schema = schema;
              queries = queries;
              accepted = text_told (o.content r.queries) text (λ t. Accepts t schema queries) told accepted;
              says = stops.2 kept (source_told (o.content r.checkpoint) source kept opened second);
            };
          },
        );
        counts_opens = stay_on o.old held o.new stay counts;
        counts_writes = writes;
        opens = two_opened (cause.ReadFault file.Checkpoint to) refl;
      })
  no_history held source cause.Memory failed stay opened stops counts = engine_ended cause.Memory failed (stay_on o.old held o.new stay counts) refl stops
  no_history held source cause.Fine failed stay opened stops counts = absurd stops
  no_history held source cause.Usage failed stay opened stops counts = absurd stops
  no_history held source (cause.Queries fault place) failed stay opened stops counts = absurd stops
  no_history held source (cause.ClockKind name) failed stay opened stops counts = absurd stops
  no_history held source (cause.Event line fault) failed stay opened stops counts = absurd stops
  no_history held source (cause.InputTooLong taken) failed stay opened stops counts = absurd stops
  no_history held source (cause.OpenFault read before after) failed stay opened stops counts = absurd stops
  no_history held source (cause.WriteFault from to) failed stay opened stops counts = absurd stops

  -- either
  pub history_ended : (held : List ℕ → ℕ) (whole : Content) (given : Cause) (failed : Option S) (left : Option EngineState) → whole ≡ o.content r.checkpoint → AllStay o.old held →
      NotRead (HistoryStop sources schema queries whole (held r.checkpoint) (o.new r.checkpoint)) r.checkpoint held o.new given failed left → TaskEnded sources call o (resume_task r) first last given failed
  history_ended held whole given failed left kept stay stop =
      elim stop.stops.way [
        | inl not ↦ not_opened held whole given failed stay not.0 stop.counts not.1
        | inr was ↦ let P : Content → Type 0 = λ c. HasOpened c was.0 in no_history held was.0 given failed stay (subst P kept was.1) was.2 stop.counts
      ]

-- a run that ends so ends early,
source_early : {S : Type 0} (sources : Sources S) (schema : Declared) (queries : List Query) (source : Option (List ℕ)) (given : Cause) (failed : Option S) → NoHistory sources schema queries source given failed → IsEarly given
source_early sources schema queries source (cause.Checkpoint line fault) failed stops = tt
source_early sources schema queries source cause.Memory failed stops = tt
source_early sources schema queries source (cause.ReadFault file.Queries to) failed stops = tt
source_early sources schema queries source (cause.ReadFault file.Checkpoint to) failed stops = tt
source_early sources schema queries source (cause.ReadFault file.Events to) failed stops = absurd (let wrong = stops.0 in cc)
source_early sources schema queries source cause.Fine failed stops = absurd stops
source_early sources schema queries source cause.Usage failed stops = absurd stops
source_early sources schema queries source (cause.Queries fault place) failed stops = absurd stops
source_early sources schema queries source (cause.ClockKind name) failed stops = absurd stops
source_early sources schema queries source (cause.Event line fault) failed stops = absurd stops
source_early sources schema queries source (cause.InputTooLong taken) failed stops = absurd stops
source_early sources schema queries source (cause.OpenFault read before after) failed stops = absurd stops
source_early sources schema queries source (cause.WriteFault from to) failed stops = absurd stops

-- and takes no step
pub history_early : {S : Type 0} (sources : Sources S) (schema : Declared) (queries : List Query) (whole : Content) (from to : ℕ) (given : Cause) (failed : Option S) → HistoryStop sources schema queries whole from to given failed → IsEarly given
history_early sources schema queries whole from to given failed stop =
    elim stop.way [
      | inl not ↦ is_opening given not.1
      | inr was ↦ source_early sources schema queries was.0 given failed was.2
    ]
