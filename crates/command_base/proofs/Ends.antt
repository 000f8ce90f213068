-- How each exit of a command meets what is said of its end. For commands.
use Rattle.std.proofs.Common.{◌≡◌, ℕ, inl, inr, List, [], ◌∷◌, Option, Some, None, refl, sym, ◌∙◌, subst, IsSomeAnd}
use Rattle.ceql_grammar.specs.declared.faults.QueryFault.{QueryFault}
use Rattle.cer_base.specs.declared.Location.{Location}
use Rattle.cer_outside.specs.Causes.{Rose, AllStay, RoseAt}
use Rattle.cer_outside.specs.Content.{Content, Holds, HasOpened, OfOpened}
use Rattle.event_run.specs.Runs.{RunStop}
use Rattle.event_run.specs.Runs as stop
use Rattle.query_engine.specs.Engine.{EngineState}
use Rattle.stream_answers.specs.RunEnds.{EndClaims}
use Rattle.fault_notes.specs.declared.File.{File}
use Rattle.fault_notes.specs.declared.File.TheVariants as file
use Rattle.command_base.specs.declared.Cause.{Cause}
use Rattle.command_base.specs.declared.Cause.TheVariants as cause
use Rattle.command_base.specs.Accepted.{IsRefusedText}
use Rattle.command_base.specs.Tasks.{Task, IsGiven, HasCheckpoint, CheckpointHolds, TakesText, TaskStops, IsTakenUp, HasFiles, ComesInTurn, name_in}
use Rattle.command_base.specs.Causes.{CountsWrites}
use Rattle.command_base.specs.Opening.{files_with, files_to, AreOpened, OpensInTurn}
use Rattle.command_base.specs.Leaving.{IsLeftBy}
use Rattle.command_base.specs.Sources.{Sources, left_by}
use Rattle.command_base.specs.Ending.{Outside, ReadingStops, FailedWith, StopCounts, IsOpening, NotRead, QueriesStop, SourceStop, FileStop, TaskEnded}
use Rattle.command_base.specs.SourceBytes.{IsRestOf}

-- one file was opened,
pub opened_one : {H : Type 0} (call : H → List ℕ → H → Type 0) (content : List ℕ → Content) (t : Task) (given : Cause) (first last : H) →
    AreOpened t given (files_to t file.Queries) → call first t.queries last → OpensInTurn call content t given first last
opened_one call content t given first last are step = record { files = files_to t file.Queries; told = are; turn = (tt, tt); steps = (last, step, refl) }

-- a task without a checkpoint goes on without one;
pub none_taken_up : (content : List ℕ → Content) (t : Task) → (HasCheckpoint t → ⊥) → IsTakenUp content t
none_taken_up content t none = record { has = λ h. absurd (none h); taken = λ text kept first second. λ h. absurd (none h) }

-- it has two files,
two_files : (checkpoint : Option (List ℕ)) → (IsGiven checkpoint → ⊥) → files_with checkpoint ≡ file.Queries ∷ file.Events ∷ []
two_files None none = refl
two_files (Some name) none = absurd (none tt)

-- which it opened both;
pub opened_both : {H : Type 0} (call : H → List ℕ → H → Type 0) (content : List ℕ → Content) (t : Task) (given : Cause) (first middle last : H) → (HasCheckpoint t → ⊥) →
    AreOpened t given (files_to t file.Events) → OfOpened (content t.queries) (TakesText t) → call first t.queries middle → call middle t.events last → OpensInTurn call content t given first last
opened_both call content t given first middle last none are taken one other = let P : List File → Type 0 = AreOpened t given in
    record {
      files = file.Queries ∷ file.Events ∷ [];
      told = subst P (two_files t.checkpoint none) are;
      turn = (tt, ((taken, none_taken_up content t none), tt));
      steps = (middle, one, (last, other, refl));
    }

-- and one with a checkpoint the first two,
pub opened_checkpoint : {H : Type 0} (call : H → List ℕ → H → Type 0) (content : List ℕ → Content) (t : Task) (given : Cause) (first middle last : H) → HasCheckpoint t →
    AreOpened t given (files_to t file.Checkpoint) → OfOpened (content t.queries) (TakesText t) → call first t.queries middle → call middle (name_in t.checkpoint) last → OpensInTurn call content t given first last
opened_checkpoint call content t given first middle last has are taken one other = record {
  files = files_to t file.Checkpoint;
  told = are;
  turn = (tt, ((has, taken), tt));
  steps = (middle, one, (last, other, refl));
}

three_files : (checkpoint : Option (List ℕ)) → IsGiven checkpoint → files_with checkpoint ≡ file.Queries ∷ file.Checkpoint ∷ file.Events ∷ []
three_files None has = absurd has
three_files (Some name) has = refl

-- or all three.
pub opened_three : {H : Type 0} (call : H → List ℕ → H → Type 0) (content : List ℕ → Content) (t : Task) (given : Cause) (first second third last : H) → HasCheckpoint t →
    AreOpened t given (files_to t file.Events) → OfOpened (content t.queries) (TakesText t) → IsTakenUp content t →
    call first t.queries second → call second (name_in t.checkpoint) third → call third t.events last → OpensInTurn call content t given first last
opened_three call content t given first second third last has are taken resumed one two three = let P : List File → Type 0 = AreOpened t given in
    record {
      files = file.Queries ∷ file.Checkpoint ∷ file.Events ∷ [];
      told = subst P (three_files t.checkpoint has) are;
      turn = (tt, ((has, taken), ((taken, resumed), tt)));
      steps = (second, one, (third, two, (last, three, refl)));
    }

-- counts that stay in two calls stay
pub stay_on : (a b c : List ℕ → ℕ) → AllStay a b → AllStay b c → AllStay a c
stay_on a b c first second name = second name ∙ first name

pub rose_same : (a b c d : ℕ) → c ≡ a → d ≡ b → Rose a b → Rose c d
rose_same a b c d first second rose =
    let P : ℕ → Type 0 = λ x. Rose x b in
    let Q : ℕ → Type 0 = λ y. Rose c y in
    subst Q (sym second) (subst P (sym first) rose)

-- a count that rose after one that stayed
pub rose_later : (name : List ℕ) (old middle new : List ℕ → ℕ) → AllStay old middle → RoseAt name middle new → RoseAt name old new
rose_later name old middle new stay rose = record {
  here = rose_same (middle name) (new name) (old name) (new name) (sym (stay name)) refl rose.here;
  others = λ other. elim (rose.others other) [
    | inl same ↦ inl (same ∙ stay other)
    | inr more ↦ inr (rose_same (middle other) (new other) (old other) (new other) (sym (stay other)) refl more)
  ];
}

-- What is said of a task that ended before its last file was opened holds by these causes: nothing was written then, which the task's end where memory ran out allows.
module _ {S H : Type 0} (sources : Sources S) (call : H → List ℕ → H → Type 0) (o : Outside) (t : Task) (first last : H) (nothing : o.after ≡ o.before) (wants : (t.said o.content o.before o.after).wants) where
  -- there were no queries
  pub queries_ended : (given : Cause) (failed : Option S) (left : Option EngineState) → o.out_new ≡ o.out_old → call first t.queries last →
      NotRead (QueriesStop sources (o.content t.queries) (o.old t.queries) (o.new t.queries)) t.queries o.old o.new given failed left → TaskEnded sources call o t first last given failed
  queries_ended (cause.OpenFault opened before after) failed left writes step stop =
      let P : File → Type 0 = λ f. TaskEnded sources call o t first last (cause.OpenFault f before after) failed in
      let stops = stop.stops in
      subst P (sym stops.0) (record {
        holds = (stops.4, nothing, tt, stops.1, stops.2, rose_same (o.old t.queries) (o.new t.queries) before after stops.1 stops.2 stops.3);
        wrote = nothing;
        counts_opens = stop.counts;
        counts_writes = writes;
        opens = opened_one call _ t _ first last refl step;
      })
  queries_ended (cause.ReadFault read after) failed left writes step stop =
      let P : File → Type 0 = λ f. TaskEnded sources call o t first last (cause.ReadFault f after) failed in
      let stops = stop.stops in
      subst P (sym stops.0) (record {
        holds = (nothing, stops.1);
        wrote = nothing;
        counts_opens = stop.counts;
        counts_writes = writes;
        opens = opened_one call _ t _ first last refl step;
      })
  queries_ended (cause.Queries fault place) failed left writes step stop = record {
    holds = (stop.stops.0, nothing, stop.stops.1);
    wrote = nothing;
    counts_opens = stop.counts;
    counts_writes = writes;
    opens = opened_one call _ t _ first last refl step;
  }
  queries_ended cause.Memory failed left writes step stop = record {
    holds = (stop.stops, inl nothing);
    wrote = wants;
    counts_opens = stop.counts;
    counts_writes = writes;
    opens = opened_one call _ t _ first last (inr (file.Queries, refl)) step;
  }
  queries_ended cause.Fine failed left writes step stop = absurd stop.stops
  queries_ended cause.Usage failed left writes step stop = absurd stop.stops
  queries_ended (cause.ClockKind name) failed left writes step stop = absurd stop.stops
  queries_ended (cause.Event line fault) failed left writes step stop = absurd stop.stops
  queries_ended (cause.InputTooLong taken) failed left writes step stop = absurd stop.stops
  queries_ended (cause.WriteFault before after) failed left writes step stop = absurd stop.stops
  queries_ended (cause.Checkpoint line fault) failed left writes step stop = absurd stop.stops

  -- the last file was not opened, in its turn
  unopened_in_turn : (held : List ℕ → ℕ) (given : Cause) (failed : Option S) →
      AllStay o.old held → ComesInTurn t file.Events o.content → CountsWrites given o.out_old o.out_new → ((k : Cause) → AreOpened t k (files_to t file.Events) → OpensInTurn call o.content t k first last) →
      ReadingStops sources file.Events (o.content t.events) (held t.events) (o.new t.events) given failed → StopCounts given t.events held o.new → IsOpening given → TaskEnded sources call o t first last given failed
  unopened_in_turn held (cause.OpenFault opened before after) failed stay turn writes all stops counts opening =
      let P : File → Type 0 = λ f. TaskEnded sources call o t first last (cause.OpenFault f before after) failed in
      let from : before ≡ o.old t.events = stops.1 ∙ stay t.events in
      subst P (sym stops.0) (record {
        holds = (stops.4, nothing, turn, from, stops.2, rose_same (held t.events) (o.new t.events) before after stops.1 stops.2 stops.3);
        wrote = nothing;
        counts_opens = rose_later t.events o.old held o.new stay counts;
        counts_writes = writes;
        opens = all (cause.OpenFault file.Events before after) refl;
      })
  unopened_in_turn held cause.Memory failed stay turn writes all stops counts opening = record {
    holds = (stops, inl nothing);
    wrote = wants;
    counts_opens = stay_on o.old held o.new stay counts;
    counts_writes = writes;
    opens = all cause.Memory (inr (file.Events, refl));
  }
  unopened_in_turn held cause.Fine failed stay turn writes all stops counts opening = absurd opening
  unopened_in_turn held cause.Usage failed stay turn writes all stops counts opening = absurd opening
  unopened_in_turn held (cause.Queries fault place) failed stay turn writes all stops counts opening = absurd opening
  unopened_in_turn held (cause.ClockKind name) failed stay turn writes all stops counts opening = absurd opening
  unopened_in_turn held (cause.Event line fault) failed stay turn writes all stops counts opening = absurd opening
  unopened_in_turn held (cause.InputTooLong taken_all) failed stay turn writes all stops counts opening = absurd opening
  unopened_in_turn held (cause.ReadFault read after) failed stay turn writes all stops counts opening = absurd opening
  unopened_in_turn held (cause.WriteFault before after) failed stay turn writes all stops counts opening = absurd opening
  unopened_in_turn held (cause.Checkpoint line fault) failed stay turn writes all stops counts opening = absurd opening

-- What is said over a source is what a task makes of its files.
pub record Meets (o : Outside) (t : Task) (said : EndClaims) : Type 1 where
  pub files : HasFiles o.content t
  pub stops : (halt : RunStop) → said.stops halt → (text kept lines : List ℕ) → o.content t.queries ≡ Holds text → CheckpointHolds o.content t kept → o.content t.events ≡ Holds lines → TaskStops t text kept lines halt
  pub wrote : (halt : RunStop) → said.stops halt → (t.said o.content o.before o.after).stops halt
  pub rest : (left : Option (List ℕ)) → said.unread left → IsRestOf (o.content t.events) left
  pub read : (left : Option (List ℕ)) → said.unread left → (t.said o.content o.before o.after).unread left
  pub part : said.unwritten → (t.said o.content o.before o.after).unwritten
  pub some : said.wants → (t.said o.content o.before o.after).wants

-- the source that failed, with what it has left
failed_with : {S : Type 0} (sources : Sources S) (whole : Content) (Unread : Option (List ℕ) → Type 0) (to : ℕ) (failed : Option S) → ((left : Option (List ℕ)) → Unread left → IsRestOf whole left) →
    IsSomeAnd failed (λ s. (sources.faults s ≡ to) × Rose 0 to) → Unread (left_by sources failed) → IsSomeAnd failed (FailedWith sources whole to)
failed_with sources whole Unread to None rest told read = told
failed_with sources whole Unread to (Some s) rest told read = record { told = told.0; rose = told.1; rest = rest (sources.left s) read }

-- a task over its last file ended
module _ {S H : Type 0} (sources : Sources S) (call : H → List ℕ → H → Type 0) (o : Outside) (t : Task) (first last : H) (held : List ℕ → ℕ)
    (stay : AllStay o.old held) (taken : OfOpened (o.content t.queries) (TakesText t)) (resumed : IsTakenUp o.content t) (all : (k : Cause) → AreOpened t k (files_to t file.Events) → OpensInTurn call o.content t k first last) where
  -- over a source of it
  source_ended : (said : EndClaims) (given : Cause) (failed : Option S) → Meets o t said → CountsWrites given o.out_old o.out_new → SourceStop sources said o.out_old o.out_new given failed → StopCounts given t.events held o.new →
      TaskEnded sources call o t first last given failed
  source_ended said cause.Fine failed meets writes ends counts = record {
    holds = record { none = ends.0; taken = taken; resumed = resumed; files = meets.files; stops = meets.stops stop.End ends.1 };
    wrote = meets.wrote stop.End ends.1;
    counts_opens = stay_on o.old held o.new stay counts;
    counts_writes = writes;
    opens = all cause.Fine refl;
  }
  source_ended said (cause.Event line fault) failed meets writes ends counts = record {
    holds = record { none = ends.0; taken = taken; resumed = resumed; files = meets.files; stops = meets.stops (stop.Event line fault) ends.1 };
    wrote = meets.wrote (stop.Event line fault) ends.1;
    counts_opens = stay_on o.old held o.new stay counts;
    counts_writes = writes;
    opens = all (cause.Event line fault) refl;
  }
  source_ended said (cause.InputTooLong bytes) failed meets writes ends counts = record {
    holds = record { none = ends.0; taken = taken; resumed = resumed; files = meets.files; stops = meets.stops (stop.InputTooLong bytes) ends.1 };
    wrote = meets.wrote (stop.InputTooLong bytes) ends.1;
    counts_opens = stay_on o.old held o.new stay counts;
    counts_writes = writes;
    opens = all (cause.InputTooLong bytes) refl;
  }
  source_ended said (cause.ReadFault read to) failed meets writes ends counts =
      let P : File → Type 0 = λ f. TaskEnded sources call o t first last (cause.ReadFault f to) failed in
      subst P (sym ends.0) (record {
        holds = ((taken, resumed), failed_with sources (o.content t.events) said.unread to failed meets.rest ends.1 ends.2);
        wrote = meets.read (left_by sources failed) ends.2;
        counts_opens = stay_on o.old held o.new stay counts;
        counts_writes = writes;
        opens = all (cause.ReadFault file.Events to) refl;
      })
  source_ended said (cause.WriteFault from to) failed meets writes ends counts = record {
    holds = (ends.0, meets.files, ends.1, ends.2, ends.3);
    wrote = meets.part ends.4;
    counts_opens = stay_on o.old held o.new stay counts;
    counts_writes = writes;
    opens = all (cause.WriteFault from to) refl;
  }
  source_ended said cause.Memory failed meets writes ends counts = record {
    holds = (ends.0, inr meets.files);
    wrote = meets.some ends.1;
    counts_opens = stay_on o.old held o.new stay counts;
    counts_writes = writes;
    opens = all cause.Memory (inr (file.Events, refl));
  }
  source_ended said cause.Usage failed meets writes ends counts = absurd ends
  source_ended said (cause.Queries fault place) failed meets writes ends counts = absurd ends
  source_ended said (cause.ClockKind name) failed meets writes ends counts = absurd ends
  source_ended said (cause.OpenFault opened before after) failed meets writes ends counts = absurd ends
  source_ended said (cause.Checkpoint line fault) failed meets writes ends counts = absurd ends

  -- which was opened or not
  pub file_ended : (said : Option (List ℕ) → EndClaims) (whole : List ℕ → Content) (given : Cause) (failed : Option S) → ((name : List ℕ) → whole name ≡ o.content name) → ((source : Option (List ℕ)) → HasOpened (o.content t.events) source → Meets o t (said source)) →
      (o.after ≡ o.before → (t.said o.content o.before o.after).wants) →
      FileStop sources said t.events (record o { content = whole; old = held }) given failed → TaskEnded sources call o t first last given failed
  file_ended said whole given failed same meets wants ends =
      elim ends.way [
        | inl not ↦
            let P : Content → Type 0 = λ c. ReadingStops sources file.Events c (held t.events) (o.new t.events) given failed in
            unopened_in_turn sources call o t first last not.1 (wants not.1) held given failed stay (taken, resumed) ends.writes all (subst P (same t.events) not.0) ends.counts not.2
        | inr was ↦ source_ended (said was.0) given failed (meets was.0 (let P : Content → Type 0 = λ c. HasOpened c was.0 in subst P (same t.events) was.1)) ends.writes was.2 ends.counts
      ]

-- of a task without a checkpoint
pub two_files_ended : {S H : Type 0} (sources : Sources S) (call : H → List ℕ → H → Type 0) (o : Outside) (t : Task) (first middle last : H) (said : Option (List ℕ) → EndClaims) (whole : List ℕ → Content) (held : List ℕ → ℕ) (given : Cause) (failed : Option S) → (HasCheckpoint t → ⊥) →
    ((source : Option (List ℕ)) → HasOpened (o.content t.events) source → Meets o t (said source)) → (o.after ≡ o.before → (t.said o.content o.before o.after).wants) → ((name : List ℕ) → whole name ≡ o.content name) → AllStay o.old held → OfOpened (o.content t.queries) (TakesText t) →
    call first t.queries middle → call middle t.events last → FileStop sources said t.events (record o { content = whole; old = held }) given failed →
    TaskEnded sources call o t first last given failed
two_files_ended sources call o t first middle last said whole held given failed none meets wants same stay taken one other ends =
    file_ended sources call o t first last held stay taken (none_taken_up o.content t none) (λ k are. opened_both call o.content t k first middle last none are taken one other) said whole given failed same meets wants ends

-- a file that was not opened left the output as it was
opening_writes : (given : Cause) (old new : ℕ) → new ≡ old → IsOpening given → CountsWrites given old new
opening_writes (cause.OpenFault opened from to) old new same opening = same
opening_writes cause.Memory old new same opening = same
opening_writes cause.Fine old new same opening = same
opening_writes cause.Usage old new same opening = same
opening_writes (cause.Queries fault place) old new same opening = same
opening_writes (cause.ClockKind name) old new same opening = same
opening_writes (cause.Event line fault) old new same opening = same
opening_writes (cause.InputTooLong taken) old new same opening = same
opening_writes (cause.Checkpoint line fault) old new same opening = same
opening_writes (cause.ReadFault read to) old new same opening = same
opening_writes (cause.WriteFault from to) old new same opening = absurd opening

-- how a command ends over a file that was not opened
pub file_unopened : {S : Type 0} (sources : Sources S) (said : Option (List ℕ) → EndClaims) (name : List ℕ) (o : Outside) (given : Cause) (failed : Option S) (left : Option EngineState) → o.after ≡ o.before → o.out_new ≡ o.out_old →
    NotRead (ReadingStops sources file.Events (o.content name) (o.old name) (o.new name)) name o.old o.new given failed left → IsOpening given → FileStop sources said name o given failed
file_unopened sources said name o given failed left nothing same stop opening = record {
  way = inl (stop.stops, nothing, opening);
  counts = stop.counts;
  writes = opening_writes given o.out_old o.out_new same opening;
}

-- the host's counts stay where the file was opened
opened_counts : {S : Type 0} (sources : Sources S) (said : EndClaims) (out_old out_new : ℕ) (name : List ℕ) (old new : List ℕ → ℕ) (given : Cause) (failed : Option S) → AllStay old new → SourceStop sources said out_old out_new given failed → StopCounts given name old new
opened_counts sources said out_old out_new name old new cause.Fine failed stay stops = stay
opened_counts sources said out_old out_new name old new (cause.Event line fault) failed stay stops = stay
opened_counts sources said out_old out_new name old new (cause.InputTooLong taken) failed stay stops = stay
opened_counts sources said out_old out_new name old new (cause.ReadFault read to) failed stay stops = stay
opened_counts sources said out_old out_new name old new (cause.WriteFault from to) failed stay stops = stay
opened_counts sources said out_old out_new name old new cause.Memory failed stay stops = stay
opened_counts sources said out_old out_new name old new cause.Usage failed stay stops = absurd stops
opened_counts sources said out_old out_new name old new (cause.Queries fault place) failed stay stops = absurd stops
opened_counts sources said out_old out_new name old new (cause.ClockKind clock) failed stay stops = absurd stops
opened_counts sources said out_old out_new name old new (cause.OpenFault opened from to) failed stay stops = absurd stops
opened_counts sources said out_old out_new name old new (cause.Checkpoint line fault) failed stay stops = absurd stops

-- and over one that was opened
pub file_opened : {S : Type 0} (sources : Sources S) (said : Option (List ℕ) → EndClaims) (source : Option (List ℕ)) (name : List ℕ) (o : Outside) (given : Cause) (failed : Option S) → HasOpened (o.content name) source → AllStay o.old o.new →
    SourceStop sources (said source) o.out_old o.out_new given failed → CountsWrites given o.out_old o.out_new → FileStop sources said name o given failed
file_opened sources said source name o given failed opened stay stops writes = record {
  way = inr (source, opened, stops);
  counts = opened_counts sources (said source) o.out_old o.out_new name o.old o.new given failed stay stops;
  writes = writes;
}

-- the engine that is left, by whether all was well
pub left_by_end : (Leaves : Option EngineState → Type 0) (given : Cause) (left : Option EngineState) → (given ≡ cause.Fine → Leaves left) → ((given ≡ cause.Fine → ⊥) → left ≡ None) → IsLeftBy given Leaves left
left_by_end Leaves cause.Fine left fine other = fine refl
left_by_end Leaves cause.Usage left fine other = other (λ e. cc)
left_by_end Leaves (cause.Queries fault place) left fine other = other (λ e. cc)
left_by_end Leaves (cause.ClockKind name) left fine other = other (λ e. cc)
left_by_end Leaves (cause.Event line fault) left fine other = other (λ e. cc)
left_by_end Leaves (cause.InputTooLong taken) left fine other = other (λ e. cc)
left_by_end Leaves (cause.Checkpoint line fault) left fine other = other (λ e. cc)
left_by_end Leaves (cause.OpenFault opened from to) left fine other = other (λ e. cc)
left_by_end Leaves (cause.ReadFault read to) left fine other = other (λ e. cc)
left_by_end Leaves (cause.WriteFault from to) left fine other = other (λ e. cc)
left_by_end Leaves cause.Memory left fine other = other (λ e. cc)

-- a refused text stops a command
pub queries_fault : {S : Type 0} (sources : Sources S) (whole : Content) (name : List ℕ) (old new : List ℕ → ℕ) (given : Cause) (failed : Option S) (left : Option EngineState) (fault : QueryFault) (place : Location) → given ≡ cause.Queries fault place → failed ≡ None → left ≡ None → AllStay old new →
    OfOpened whole (λ text. IsRefusedText text fault place) → NotRead (QueriesStop sources whole (old name) (new name)) name old new given failed left
queries_fault sources whole name old new given failed left fault place same no_source no_engine stay refused =
    let P : Cause → Type 0 = λ k. NotRead (QueriesStop sources whole (old name) (new name)) name old new k failed left in
    subst P (sym same) (record { stops = (no_source, refused); counts = stay; none = no_engine })
