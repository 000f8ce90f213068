-- What the answers over a source after a history are of the host's three files, and how the run ends.
use Rattle.std.proofs.Common.{◌≡◌, ℕ, inl, inr, List, Option, Ok, refl, sym, subst}
use Rattle.cer_outside.specs.Causes.{AllStay}
use Rattle.cer_outside.specs.Content.{Content, Untold, Missing, Holds, HasOpened, OfOpened}
use Rattle.cer_outside.specs.Bytes.{TookPart}
use Rattle.answer_blocks.specs.SinkBytes.{TookPrefix}
use Rattle.stream_schema.specs.Types.{Declared}
use Rattle.stream_schema.specs.declared.Event.{Event}
use Rattle.cel_terms.specs.declared.Query.{Query}
use Rattle.event_run.specs.Runs.{RunStop}
use Rattle.event_run.specs.Taking.{AreEventsReadAfter}
use Rattle.checkpoint_text.specs.declared.history.History.{History}
use Rattle.checkpoint_text.specs.Checkpoints.{checkpoint_of}
use Rattle.checkpoint_text.specs.Spelling.{IsHistory}
use Rattle.stream_answers.specs.Streams.{WroteOverAfter, WroteAllAfter, WrotePartOfAfter}
use Rattle.command_words.specs.declared.ResumeWords.{ResumeWords}
use Rattle.command_base.specs.declared.Cause.{Cause}
use Rattle.command_base.specs.Accepted.{Accepts}
use Rattle.command_base.specs.SourceBytes.{told_of}
use Rattle.command_base.specs.Tasks.{IsTakenUp}
use Rattle.command_base.specs.Sources.{Sources}
use Rattle.command_base.specs.Ending.{Outside, FileStop, TaskEnded}
use Rattle.command_base.proofs.Told.{not_missing, text_not_missing, source_told, text_told, left_behind, rest_of}
use Rattle.command_base.proofs.Lawful.{takes_accepted}
use Rattle.command_base.proofs.Ends.{Meets, opened_three, file_ended}
use Rattle.command_checkpoint.specs.Resumed.{AfterEach, resumed_said}
use Rattle.command_checkpoint.specs.GoingOn.{resume_asked_of, OverHistory, resume_task}
use Rattle.command_checkpoint.proofs.OneStream.{stream_for, is_stream}

-- the text tells the history for these queries
abbrev pub Tells : Declared → List Query → History → List ℕ → Type 0
Tells schema queries history kept = checkpoint_of schema queries kept ≡ Ok history

-- The text is accepted with the schema and the queries, and the checkpoint tells this history for them.
pub record ForEngine (content : List ℕ → Content) (queries checkpoint : List ℕ) (history : History) (d : Declared) (qs : List Query) : Type 0 where
  pub accepted : OfOpened (content queries) (λ text. Accepts text d qs)
  pub told : OfOpened (content checkpoint) (Tells d qs history)
  pub is : IsHistory d qs history

-- by the names that the schema and the queries have in an engine
pub for_engine : (content later : List ℕ → Content) (queries checkpoint : List ℕ) (history : History) (s d : Declared) (p qs : List Query) → d ≡ s → qs ≡ p → later checkpoint ≡ content checkpoint →
    OfOpened (content queries) (λ text. Accepts text s p) → OfOpened (later checkpoint) (Tells s p history) → IsHistory s p history → ForEngine content queries checkpoint history d qs
for_engine content later queries checkpoint history s d p qs schemas lists kept accepted told is =
    let T : Content → Type 0 = λ w. OfOpened w (Tells s p history) in
    let P : Declared → Type 0 = λ x. ForEngine content queries checkpoint history x p in
    let Q : List Query → Type 0 = λ x. ForEngine content queries checkpoint history d x in
    subst Q (sym lists) (subst P (sym schemas) (record { accepted = accepted; told = subst T kept told; is = is }))

-- a source of the host's file has what the host tells of it
source_is : (content : Content) (source : Option (List ℕ)) → HasOpened content source → source ≡ told_of content
source_is Untold source opened = opened
source_is Missing source opened = absurd opened
source_is (Holds bytes) source opened = opened

-- the checkpoint was taken
taken_up : (content : List ℕ → Content) (r : ResumeWords) (schema : Declared) (queries : List Query) (history : History) → OfOpened (content r.queries) (λ text. Accepts text schema queries) → OfOpened (content r.checkpoint) (Tells schema queries history) →
    IsTakenUp content (resume_task r)
taken_up content r schema queries history accepted told = record {
  has = λ has. text_not_missing (content r.checkpoint) _ told;
  taken = λ text kept first second. λ has. record {
    schema = schema;
    queries = queries;
    accepted = text_told (content r.queries) text (λ t. Accepts t schema queries) first accepted;
    says = (history, text_told (content r.checkpoint) kept (Tells schema queries history) (second tt) told);
  };
}

-- what is said over a source is said over the three files
over_history : (content : List ℕ → Content) (r : ResumeWords) (schema : Declared) (queries : List Query) (history : History) (source : Option (List ℕ)) (Says : Declared → List Query → List Event → Option (List ℕ) → Type 0) →
    OfOpened (content r.queries) (λ text. Accepts text schema queries) → OfOpened (content r.checkpoint) (Tells schema queries history) → HasOpened (content r.events) source →
    AfterEach schema history (λ earlier. Says schema queries earlier source) → OverHistory content r (λ d qs earlier. Says d qs earlier (told_of (content r.events)))
over_history content r schema queries history source Says accepted told opened says = record {
  has_queries = text_not_missing (content r.queries) _ accepted;
  has_checkpoint = text_not_missing (content r.checkpoint) _ told;
  has_events = not_missing (content r.events) source opened;
  over = λ text kept first second. record {
    schema = schema;
    queries = queries;
    history = history;
    accepted = text_told (content r.queries) text (λ t. Accepts t schema queries) first accepted;
    told = text_told (content r.checkpoint) kept (Tells schema queries history) second told;
    says = λ earlier is. let P : Option (List ℕ) → Type 0 = λ s. Says schema queries earlier s in subst P (source_is (content r.events) source opened) (says earlier is);
  };
}

-- all answers, those over what was read, and a part of them
abbrev All : ResumeWords → RunStop → Option (List ℕ) → Option (List ℕ) → Declared → List Query → List Event → Option (List ℕ) → Type 0
All r was before after schema queries earlier source = WroteAllAfter earlier (resume_asked_of r schema queries) source was before after

abbrev Read : ResumeWords → Option (List ℕ) → Option (List ℕ) → Option (List ℕ) → Declared → List Query → List Event → Option (List ℕ) → Type 0
Read r left before after schema queries earlier source =
    WroteOverAfter earlier (resume_asked_of r schema queries) source (λ lines events. AreEventsReadAfter earlier schema queries r.most_bytes lines left events) before after

abbrev Part : ResumeWords → (List ℕ → Type 0) → Declared → List Query → List Event → Option (List ℕ) → Type 0
Part r Took schema queries earlier source = WrotePartOfAfter earlier (resume_asked_of r schema queries) source Took

-- what is said over its source is what the run makes of its files
resume_meets : (o : Outside) (r : ResumeWords) (schema : Declared) (queries : List Query) (history : History) (source : Option (List ℕ)) → OfOpened (o.content r.queries) (λ text. Accepts text schema queries) → OfOpened (o.content r.checkpoint) (Tells schema queries history) →
    IsHistory schema queries history → HasOpened (o.content r.events) source → Meets o (resume_task r) (resumed_said history (resume_asked_of r schema queries) source o.before o.after)
resume_meets o r schema queries history source accepted told is opened = record {
  files = record { queries = text_not_missing (o.content r.queries) _ accepted; checkpoint = λ has. text_not_missing (o.content r.checkpoint) _ told; events = not_missing (o.content r.events) source opened };
  stops = λ halt all text kept lines first second third.
      let tells = text_told (o.content r.checkpoint) kept (Tells schema queries history) (second tt) told in record {
        schema = schema;
        queries = queries;
        accepted = text_told (o.content r.queries) text (λ t. Accepts t schema queries) first accepted;
        fits = refl;
        history = λ has. (history, tells);
        stops = (history, tells, λ earlier at. let these = all earlier at in (these.events, these.are lines (source_told (o.content r.events) source lines opened third)));
      };
  wrote = λ halt all. over_history o.content r schema queries history source (All r halt o.before o.after) accepted told opened all;
  rest = λ left read. let over = read (stream_for schema history) (is_stream schema queries history is) in rest_of (o.content r.events) source left opened (λ lines at. left_behind (stream_for schema history) schema queries r.most_bytes left lines over.events (over.are lines at));
  read = λ left read. over_history o.content r schema queries history source (Read r left o.before o.after) accepted told opened read;
  part = λ part. over_history o.content r schema queries history source (Part r (TookPart o.before o.after)) accepted told opened part;
  some = λ some. inr (over_history o.content r schema queries history source (Part r (TookPrefix o.before o.after)) accepted told opened some);
}

-- its end
pub resume_ended : {S H : Type 0} (sources : Sources S) (call : H → List ℕ → H → Type 0) (o : Outside) (r : ResumeWords) (first second third last : H) (schema : Declared) (queries : List Query) (history : History) (whole : List ℕ → Content) (held : List ℕ → ℕ) (given : Cause) (failed : Option S) → ((name : List ℕ) → whole name ≡ o.content name) → AllStay o.old held →
    OfOpened (o.content r.queries) (λ text. Accepts text schema queries) → OfOpened (o.content r.checkpoint) (Tells schema queries history) → IsHistory schema queries history → call first r.queries second → call second r.checkpoint third → call third r.events last →
    FileStop sources (λ source. resumed_said history (resume_asked_of r schema queries) source o.before o.after) r.events (record o { content = whole; old = held }) given failed → TaskEnded sources call o (resume_task r) first last given failed
resume_ended sources call o r first second third last schema queries history whole held given failed same stay accepted told is one two three ends =
    let text = takes_accepted (o.content r.queries) (resume_task r) schema queries refl accepted in
    let taken = taken_up o.content r schema queries history accepted told in
    file_ended sources call o (resume_task r) first last held stay text taken (λ k are. opened_three call o.content (resume_task r) k first second third last tt are text taken one two three) (λ source. resumed_said history (resume_asked_of r schema queries) source o.before o.after) whole given failed same
    (λ source opened. resume_meets o r schema queries history source accepted told is opened) (λ same_bytes. inl same_bytes) ends
