-- What holds of a command that writes the answers over events. For such commands and `core_top`.
use Rattle.std.proofs.Common.{◌≡◌, ℕ, inl, inr, true, List, map, Option, Some, None, refl, sym, ◌∙◌, subst, IsSomeAnd}
use Rattle.std.proofs.Math.Path.{fun_ext}
use Rattle.cer_outside.specs.Causes.{AllStay}
use Rattle.cer_outside.specs.Content.{Content, Holds, HasOpened, OfOpened}
use Rattle.cer_outside.specs.Bytes.{TookAll, TookPart}
use Rattle.answer_blocks.specs.SinkBytes.{TookPrefix}
use Rattle.answer_text.specs.Output.{IsOutput}
use Rattle.stream_schema.specs.Types.{Declared}
use Rattle.stream_schema.specs.declared.Event.{Event}
use Rattle.cel_terms.specs.declared.Query.{Query}
use Rattle.ceql_parser.specs.QueryTrees.{query_tree}
use Rattle.query_engine.specs.Engine.{EngineState, SameQueries, peak_of}
use Rattle.event_run.specs.Runs.{RunStop}
use Rattle.event_run.specs.Runs as stop
use Rattle.stream_answers.specs.Streams.{WrotePartBy}
use Rattle.stream_answers.proofs.Portions.{prefix_of_all}
use Rattle.command_base.specs.declared.Cause.{Cause}
use Rattle.command_base.specs.declared.Cause.TheVariants as cause
use Rattle.command_base.specs.Accepted.{Accepts}
use Rattle.command_base.specs.Answering.{Answering, AreAnswers, AreFileAnswers, AreReadAnswers, StandsForFile, StandsForLines, answering_task, answering_steps, answering_leaves, asked_of, source_said}
use Rattle.command_base.specs.Ending.{Outside, FileStop, TaskEnded}
use Rattle.command_base.specs.Leaving.{IsLeftBy}
use Rattle.command_base.specs.SourceBytes.{IsRest}
use Rattle.command_base.specs.Sources.{Sources}
use Rattle.command_base.proofs.Told.{not_missing, text_not_missing, source_told, text_told, rest_of}
use Rattle.command_base.proofs.Lawful.{IsLawful, takes_accepted}
use Rattle.command_base.proofs.Ends.{Meets, two_files_ended, left_by_end}
use Rattle.command_base.proofs.StepClauses.{Forgets}

-- The events of a file stop in one way, for queries that say the same; and a source that failed has left the last part of its file.
pub record GivesEvents (w : Answering) : Type 1 where
  pub one : (schema : Declared) (p q : List Query) (lines : List ℕ) (events others : List Event) (halt other : RunStop) → map query_tree p ≡ map query_tree q → w.takes schema p lines events halt → w.takes schema q lines others other → halt ≡ other
  pub rest : (schema : Declared) (queries : List Query) (left : Option (List ℕ)) (lines : List ℕ) (events : List Event) → w.read schema queries left lines events → IsRest (Some lines) left

-- WHAT IT WROTE

module _ (content : List ℕ → Content) (w : Answering) (schema : Declared) (queries : List Query) (source before after : Option (List ℕ)) (fits : w.fits schema ≡ true)
    (accepted : OfOpened (content w.queries) (λ text. Accepts text schema queries)) (opened : HasOpened (content w.events) source) where
  -- the answers over these events
  are_answers : (text lines : List ℕ) (halt : RunStop) (events : List Event) (bytes : List ℕ) → content w.queries ≡ Holds text → w.takes schema queries lines events halt → IsOutput w.order schema queries events bytes → AreAnswers w text lines halt bytes
  are_answers text lines halt events bytes first runs output = record {
    schema = schema;
    queries = queries;
    events = events;
    accepted = text_told (content w.queries) text (λ t. Accepts t schema queries) first accepted;
    fits = fits;
    runs = runs;
    output = output;
  }

  -- all answers
  wrote_all : (halt : RunStop) → (source_said w schema queries source before after).stops halt → (bytes : List ℕ) × AreFileAnswers content w (λ s. s ≡ halt) bytes × TookAll before after bytes
  wrote_all halt wrote = (
    wrote.bytes,
    record {
      has_queries = text_not_missing (content w.queries) _ accepted;
      has_events = not_missing (content w.events) source opened;
      answers = λ text lines first second. (halt, refl, are_answers text lines halt wrote.events wrote.bytes first (wrote.are lines (source_told (content w.events) source lines opened second)) wrote.output);
    },
    wrote.took,
  )

  -- a part of them
  wrote_part : (Took : List ℕ → Type 0) → WrotePartBy (w.takes schema queries) 0 (asked_of w schema queries) source Took → (bytes : List ℕ) × AreFileAnswers content w (λ s. Unit {0}) bytes × Took bytes
  wrote_part Took wrote = (
    wrote.bytes,
    record {
      has_queries = text_not_missing (content w.queries) _ accepted;
      has_events = not_missing (content w.events) source opened;
      answers = λ text lines first second.
          let over = wrote.are lines (source_told (content w.events) source lines opened second) in (over.stop, tt, are_answers text lines over.stop over.events wrote.bytes first over.runs over.output);
    },
    wrote.took,
  )

  -- those over what was read
  wrote_read : (left : Option (List ℕ)) → (source_said w schema queries source before after).unread left → (bytes : List ℕ) × AreReadAnswers content w left bytes × TookAll before after bytes
  wrote_read left wrote = (
    wrote.bytes,
    record {
      has_queries = text_not_missing (content w.queries) _ accepted;
      has_events = not_missing (content w.events) source opened;
      answers = λ text lines rest first second same.
          let P : Option (List ℕ) → Type 0 = λ l. w.read schema queries l lines wrote.events in record {
            schema = schema;
            queries = queries;
            events = wrote.events;
            accepted = text_told (content w.queries) text (λ t. Accepts t schema queries) first accepted;
            fits = fits;
            read = subst P same (wrote.are lines (source_told (content w.events) source lines opened second));
            output = wrote.output;
          };
    },
    wrote.took,
  )

-- what is said over a source is what the command makes of its files
meets : (o : Outside) (w : Answering) (law : GivesEvents w) (schema : Declared) (queries : List Query) (source : Option (List ℕ)) → w.fits schema ≡ true → OfOpened (o.content w.queries) (λ text. Accepts text schema queries) → HasOpened (o.content w.events) source →
    Meets o (answering_task w) (source_said w schema queries source o.before o.after)
meets o w law schema queries source fits accepted opened = record {
  files = record { queries = text_not_missing (o.content w.queries) _ accepted; checkpoint = λ has. absurd has; events = not_missing (o.content w.events) source opened };
  stops = λ halt all text kept lines first none second. record {
    schema = schema;
    queries = queries;
    accepted = text_told (o.content w.queries) text (λ t. Accepts t schema queries) first accepted;
    fits = fits;
    history = λ has. absurd has;
    stops = (all.events, all.are lines (source_told (o.content w.events) source lines opened second));
  };
  wrote = λ halt all. wrote_all o.content w schema queries source o.before o.after fits accepted opened halt all;
  rest = λ left read. rest_of (o.content w.events) source left opened (λ lines told. law.rest schema queries left lines read.events (read.are lines told));
  read = λ left read. wrote_read o.content w schema queries source o.before o.after fits accepted opened left read;
  part = λ part. wrote_part o.content w schema queries source o.before o.after fits accepted opened (TookPart o.before o.after) part;
  some = λ some. inr (wrote_part o.content w schema queries source o.before o.after fits accepted opened (TookPrefix o.before o.after) some);
}

-- how it ends over its event file
pub answering_ended : {S H : Type 0} (sources : Sources S) (call : H → List ℕ → H → Type 0) (o : Outside) (w : Answering) (law : GivesEvents w) (first middle last : H) (schema : Declared) (queries : List Query) (whole : List ℕ → Content) (held : List ℕ → ℕ) (given : Cause) (failed : Option S) →
    w.fits schema ≡ true → ((name : List ℕ) → whole name ≡ o.content name) → AllStay o.old held → OfOpened (o.content w.queries) (λ text. Accepts text schema queries) → call first w.queries middle → call middle w.events last →
    FileStop sources (λ source. source_said w schema queries source o.before o.after) w.events (record o { content = whole; old = held }) given failed → TaskEnded sources call o (answering_task w) first last given failed
answering_ended sources call o w law first middle last schema queries whole held given failed fits same stay accepted one other ends =
    two_files_ended sources call o (answering_task w) first middle last (λ source. source_said w schema queries source o.before o.after) whole held given failed (λ has. has) (λ source opened. meets o w law schema queries source fits accepted opened)
    (λ was. inl was) same stay (takes_accepted (o.content w.queries) (answering_task w) schema queries fits accepted) one other ends

-- WHAT HOLDS OF IT AS A TASK

-- all answers are a first part of them
some_part : (content : List ℕ → Content) (w : Answering) (halt : RunStop) (before after : Option (List ℕ)) → ((bytes : List ℕ) × AreFileAnswers content w (λ s. s ≡ halt) bytes × TookAll before after bytes) →
    (bytes : List ℕ) × AreFileAnswers content w (λ s. Unit {0}) bytes × TookPrefix before after bytes
some_part content w halt before after wrote = (
  wrote.0,
  record {
    has_queries = wrote.1.has_queries;
    has_events = wrote.1.has_events;
    answers = λ text lines first second. let all = wrote.1.answers text lines first second in (all.0, tt, all.2);
  },
  prefix_of_all before after wrote.0 wrote.2,
)

pub answering_is_lawful : (w : Answering) → GivesEvents w → IsLawful (answering_task w)
answering_is_lawful w law = record {
  one = λ schema p q kept lines halt other same one two. law.one schema p q lines one.0 two.0 halt other same one.1 two.1;
  refused = λ content before after line fault wrote. inr (some_part content w (stop.Event line fault) before after wrote);
  too_long = λ content before after taken wrote. inr (some_part content w (stop.InputTooLong taken) before after wrote);
  nothing = λ content before after none. inl none;
}

pub answering_forgets : (w : Answering) (content : List ℕ → Content) → Forgets (answering_steps w content)
answering_forgets w content = record {
  all = λ Stops Took old now h text lines first second.
      let s = h text lines first second in
      let c = s.says in record {
        schema = s.schema;
        queries = s.queries;
        accepted = s.accepted;
        says = record { events = c.events; stop = c.stop; runs = c.runs; stops = tt; rows = c.rows; are_rows = c.are_rows; took = tt; bounded = c.bounded };
      };
}

-- THE ENGINE THAT IT LEAVES

-- over both files; an engine that is new had no peak
stands_for_file : (content : List ℕ → Content) (lines_of : Content) (w : Answering) (old engine : EngineState) → lines_of ≡ content w.events → OfOpened (content w.queries) (λ text. Accepts text old.schema old.queries) → SameQueries old engine → ((query : ℕ) → peak_of old query ≡ 0) →
    ((bytes : List ℕ) → lines_of ≡ Holds bytes → StandsForLines w old.schema old.queries (peak_of old) bytes engine) → StandsForFile content w engine
stands_for_file content lines_of w old engine same accepted kept new stands = record {
  told = λ text lines first second. (
      let here = subst (λ (peaks : ℕ → ℕ). StandsForLines w old.schema old.queries peaks lines engine) (fun_ext new) (stands lines (same ∙ second)) in
      let accepts = text_told (content w.queries) text (λ t. Accepts t old.schema old.queries) first accepted in
      let P : Declared → Type 0 = λ s. Accepts text s old.queries × StandsForLines w s old.queries (λ query. 0) lines engine in
      let Q : List Query → Type 0 = λ qs. Accepts text engine.schema qs × StandsForLines w engine.schema qs (λ query. 0) lines engine in
      subst Q (sym kept.1) (subst P (sym kept.0) (accepts, here))
      );
}

-- by how the answers over the file ended
pub answering_left : (content : List ℕ → Content) (lines_of : Content) (w : Answering) (old engine : EngineState) (given told : Cause) (left before : Option EngineState) → given ≡ told → lines_of ≡ content w.events → OfOpened (content w.queries) (λ text. Accepts text old.schema old.queries) →
    SameQueries old engine → ((query : ℕ) → peak_of old query ≡ 0) → (told ≡ cause.Fine → (bytes : List ℕ) → lines_of ≡ Holds bytes → StandsForLines w old.schema old.queries (peak_of old) bytes engine) → before ≡ None →
    (given ≡ cause.Fine → left ≡ Some engine) → ((given ≡ cause.Fine → ⊥) → before ≡ None → left ≡ None) → IsLeftBy given (answering_leaves w content) left
answering_left content lines_of w old engine given told left before is same accepted kept new stands none fine other =
    left_by_end (answering_leaves w content) given left
    (λ well. let P : Option EngineState → Type 0 = λ o. IsSomeAnd o (StandsForFile content w) in
    subst P (sym (fine well)) (stands_for_file content lines_of w old engine same accepted kept new (stands (sym is ∙ well))))
    (λ ill. other ill none)
