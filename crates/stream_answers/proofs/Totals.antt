-- The steps of a run, from event to event and at its end.
use Rattle.std.proofs.Common.{◌≡◌, ℕ, ◌+◌, ◌-◌, ◌*◌, ◌≤◌, ◌⊎◌, inl, inr, List, [], ◌∷◌, ◌++◌, length, Contains, Option, Some, None, Result, Ok, Err, refl, sym, ◌∙◌, ap, subst, append_assoc, length-append, arith}
use Rattle.std.proofs.lemmas.List.{append-nil}
use Rattle.std.proofs.lemmas.List.Elements.{Contains-append_right}
use Rattle.cer_base.specs.declared.OrMemory.{OrMemory}
use Rattle.cer_base.specs.declared.OrMemory.TheVariants.{Fault, Memory}
use Rattle.stream_schema.specs.Types.{Declared}
use Rattle.stream_schema.specs.declared.Event.{Event as StreamEvent}
use Rattle.cel_terms.specs.declared.Query.{Query}
use Rattle.cer_outside.specs.Bytes.{TookAll, TookPart}
use Rattle.answer_text.specs.declared.Order.{Order}
use Rattle.answer_text.specs.declared.Order.TheVariants.{Walk, Sorted}
use Rattle.answer_text.specs.OutputRows.{Row, row_line, lines_of, AreRowsAt}
use Rattle.output_laws.specs.After.{AreRowsAfter}
use Rattle.answer_text.proofs.RowLists.{lines_both, blocks_of_rows, rows_of_blocks, ends_at}
use Rattle.answer_blocks.specs.SinkBytes.{TookBy}
use Rattle.answer_blocks.specs.RowSteps.{row_delays, HasRowsAt, StopsAmong, WroteRows}
use Rattle.answer_blocks.proofs.Blocks.{some_blocks_are}
use Rattle.answer_blocks.proofs.Counting.{delays_both}
use Rattle.query_engine.specs.Engine.{EngineState, StandsFor, update_bounds}
use Rattle.query_engine.specs.Windows.{IsDense}
use Rattle.query_engine.specs.Counts.{MeetMost, HasFewNodes, event_bound, cursor_bounds}
use Rattle.query_engine.proofs.Counting.{first_meet_fewer, event_is_bounded, refused_is_bounded, one_query_more, fewer_queries}
use Rattle.query_engine.proofs.DenseNodes.{dense_has_few}
use Rattle.event_run.specs.declared.RunFault.{RunFault}
use Rattle.event_run.specs.declared.RunFault.TheVariants as run
use Rattle.event_run.specs.Runs.{RunStop, RunsAfter}
use Rattle.event_run.specs.Runs as stop
use Rattle.event_run.specs.Wanting.{OnMemory, AreWantingSteps, WantsSteps}
use Rattle.output_laws.proofs.After.{rows_after_none, rows_after_grow, rows_after_grow_at_last}
use Rattle.stream_answers.specs.declared.StreamFault.{StreamFault}
use Rattle.stream_answers.specs.declared.StreamFault.TheVariants as fault
use Rattle.stream_answers.specs.declared.events.Step.{Step}
use Rattle.stream_answers.specs.declared.events.Step.TheVariants as step
use Rattle.stream_answers.specs.Events.{Begins, Lasts, AfterStep, TakesSteps}
use Rattle.stream_answers.specs.Gathering.{OutputState, PassesOn, Passed, Finished, stream_fault}
use Rattle.stream_answers.specs.Streams.{RunRequest}
use Rattle.stream_answers.specs.Schedules.{Timing, due_by, pace, first_compaction}
use Rattle.stream_answers.specs.Steps.{compaction_by, compactions, AreBoundedBy, AreOfEvents, CountsTaken, CountsUpTo, CountsAtFaultBy, StepsTaken, CountsAllAfter}
use Rattle.stream_answers.specs.Counting.{Counted, IsCompacted, StepsAtFault, StepsPut}
use Rattle.stream_answers.proofs.Compacted.{met_here}
use Rattle.stream_answers.proofs.Growing.{pace_least, paced_first}
use Rattle.stream_answers.proofs.Portions.{took_none, took_both, took_then_part, part_of_more}
use Rattle.stream_answers.proofs.Putting.{passed_walk}
use Rattle.stream_answers.proofs.Wholes.{begins_at_first}
use Rattle.stream_answers.proofs.Running.{begins_first, starts, Owing, Came, owes_still, runs_on, passed_lines, waits_on}

-- PUTTING

-- what is said of rows, in the words of a call that had no part of them
put_steps : {T F : Type 0} (before after : Option (List ℕ)) (rows : List Row) (most now : ℕ) (result : Result T (OrMemory F)) → WroteRows before after rows most now result → StepsPut Walk before after rows most now result
put_steps before after rows most now (Ok done) w = w.1
put_steps before after rows most now (Err (Fault f)) w = w
put_steps before after rows most now (Err Memory) w = w.1

part_of_rows : (before after : Option (List ℕ)) (rows : List Row) (most now : ℕ) → StopsAmong before after rows most now → TookPart before after (lines_of rows)
part_of_rows before after rows most now s =
    let f : lines_of rows ≡ lines_of s.whole ++ (row_line s.one ++ lines_of s.later) = ap lines_of s.rows_are ∙ lines_both s.whole (s.one ∷ s.later) in
    let two = took_then_part before s.middle after (lines_of s.whole) (row_line s.one ++ lines_of s.later) s.took (part_of_more s.middle after (row_line s.one) (lines_of s.later) s.part) in
    subst (TookPart before after) (sym f) two

took_rows : {T F : Type 0} (before after : Option (List ℕ)) (rows : List Row) (most now : ℕ) (result : Result T (OrMemory F)) → WroteRows before after rows most now result → TookBy before after (lines_of rows) result
took_rows before after rows most now (Ok done) w = w.0
took_rows before after rows most now (Err (Fault f)) w = part_of_rows before after rows most now w
took_rows before after rows most now (Err Memory) w = w.0

-- lines that are written at once
pub walk_rows : {T F : Type 0} (engine : EngineState) (order : Order) (buffer : List ℕ) (s : OutputState) (before after : Option (List ℕ)) (most now : ℕ) (result : Result T (OrMemory F)) →
    record { order = order; buffer = buffer } ≡ s → order ≡ Walk → (order ≡ Walk → buffer ≡ []) →
    HasRowsAt Walk engine engine.queries (λ rows. WroteRows before after rows most now result) →
    HasRowsAt s.order engine engine.queries (λ rows. Passed before after s.buffer (lines_of rows) buffer result × StepsPut s.order before after rows most now result)
walk_rows engine order buffer s before after most now result view is empty put =
    let P : OutputState → Type 0 = λ g. HasRowsAt g.order engine engine.queries (λ rows. Passed before after g.buffer (lines_of rows) buffer result × StepsPut g.order before after rows most now result) in
    let O : Order → Type 0 = λ o. HasRowsAt o engine engine.queries (λ rows. Passed before after buffer (lines_of rows) buffer result × StepsPut o before after rows most now result) in
    let H : List ℕ → List Row → Type 0 = λ h rows. Passed before after h (lines_of rows) h result in
    subst P view (subst O (sym is) (record {
      rows_are = λ events stands.
          let r = put.rows_are events stands in
          (r.0, r.1, (subst (λ (h : List ℕ). H h r.0) (sym (empty is)) (passed_walk before after (lines_of r.0) result (took_rows before after r.0 most now result r.2)), put_steps before after r.0 most now result r.2));
    }))

-- memory ran out, and all that was held is
pub kept_rows : (engine : EngineState) (order : Order) (buffer now_held : List ℕ) (s : OutputState) (before : Option (List ℕ)) (most now : ℕ) →
    record { order = order; buffer = buffer } ≡ s → now_held ≡ buffer → order ≡ Sorted →
    HasRowsAt Sorted engine engine.queries (λ rows. Unit {0} × (now ≤ most + row_delays rows)) →
    HasRowsAt s.order engine engine.queries (λ rows. ((rest : List ℕ) × PassesOn before before s.buffer (lines_of rows) now_held rest) × (now ≤ most + row_delays rows))
kept_rows engine order buffer now_held s before most now view kept is put =
    let P : OutputState → Type 0 = λ g. HasRowsAt g.order engine engine.queries (λ rows. ((rest : List ℕ) × PassesOn before before g.buffer (lines_of rows) now_held rest) × (now ≤ most + row_delays rows)) in
    let O : Order → Type 0 = λ o. HasRowsAt o engine engine.queries (λ rows. ((rest : List ℕ) × PassesOn before before buffer (lines_of rows) now_held rest) × (now ≤ most + row_delays rows)) in
    subst P view (subst O (sym is) (record {
      rows_are = λ events stands.
          let r = put.rows_are events stands in
          (r.0, r.1, ((lines_of r.0, record { written = []; took = took_none before; whole = ap (λ h. h ++ lines_of r.0) (sym kept) }), r.2.1));
    }))

module _ (timing : Timing) where
  -- FROM EVENT TO EVENT

  -- one event more, with the rows at it, and the compaction after it: so much had been put by, and is after the event
  pub bounded_on : (a : RunRequest) (engine : EngineState) (events : List StreamEvent) (next : StreamEvent) (rows more : List Row) (first old had mid seen paused now : ℕ) → engine.schema ≡ a.schema → engine.queries ≡ a.queries →
      StandsFor engine (events ++ next ∷ []) → AreBoundedBy timing a.schema a.queries events rows first (old + had) → seen ≤ old + update_bounds engine → paused ≤ seen + cursor_bounds engine + row_delays more →
      ((most : ℕ → ℕ) → MeetMost a.schema a.queries (events ++ next ∷ []) most → event_bound (length a.queries) most + mid ≤ had + pace timing.every (length a.queries) most) →
      ((most : ℕ → ℕ) → MeetMost a.schema a.queries (events ++ next ∷ []) most → now ≤ paused + mid + compaction_by (due_by timing) (length a.queries) most (length (events ++ next ∷ []))) →
      AreBoundedBy timing a.schema a.queries (events ++ next ∷ []) (rows ++ more) first now
  bounded_on a engine events next rows more first old had mid seen paused now same alike stands bounded took put paid compacted = λ most meet.
      let all = events ++ next ∷ [] in
      let before = bounded most (first_meet_fewer a.schema a.queries events (next ∷ []) most meet) in
      let S : Declared → Type 0 = λ s. MeetMost s a.queries all most in
      let Q : List Query → Type 0 = λ qs. MeetMost engine.schema qs all most in
      let here = event_is_bounded engine all most stands (subst Q (sym alike) (subst S (sym same) meet)) in
      let e = pace timing.every (length a.queries) most in
      let costs : event_bound (length engine.queries) most ≡ event_bound (length a.queries) most = ap (λ (qs : List Query). event_bound (length qs) most) alike in
      let pays = paid most meet in
      let count : length all ≡ length events + 1 = length-append events (next ∷ []) in
      let product : length all * e ≡ length events * e + e = ap (λ (n : ℕ). n * e) count ∙ omega arith in
      let both = delays_both rows more in
      let last = compacted most meet in
      let f = compaction_by (due_by timing) (length a.queries) most in
      let sums : compactions (due_by timing) (length a.queries) most (length all) ≡ compactions (due_by timing) (length a.queries) most (length events) + f (length all) =
      ap (compactions (due_by timing) (length a.queries) most) count ∙ (one_query_more (length events) f ∙ ap (λ (n : ℕ). compactions (due_by timing) (length a.queries) most (length events) + f n) (sym count)) in
      omega (arith, before, here, costs, pays, product, both, took, put, last, sums)

  -- one event more, with the rows at it
  pub bounded_more : (a : RunRequest) (engine : EngineState) (events : List StreamEvent) (next : StreamEvent) (rows more : List Row) (first old had mid seen now : ℕ) → engine.schema ≡ a.schema → engine.queries ≡ a.queries →
      StandsFor engine (events ++ next ∷ []) → AreBoundedBy timing a.schema a.queries events rows first (old + had) → seen ≤ old + update_bounds engine → now ≤ seen + cursor_bounds engine + row_delays more →
      ((most : ℕ → ℕ) → MeetMost a.schema a.queries (events ++ next ∷ []) most → event_bound (length a.queries) most + mid ≤ had + pace timing.every (length a.queries) most) →
      AreBoundedBy timing a.schema a.queries (events ++ next ∷ []) (rows ++ more) first now
  bounded_more a engine events next rows more first old had mid seen now same alike stands bounded took put paid =
      bounded_on a engine events next rows more first old had mid seen now now same alike stands bounded took put paid (λ most meet. omega arith)

  -- the rows in the words of those who asked
  pub rows_as : (order asked_order : Order) (schema asked_schema : Declared) (queries asked_queries : List Query) (events : List StreamEvent) (rows : List Row) → order ≡ asked_order → schema ≡ asked_schema → queries ≡ asked_queries →
      AreRowsAt order schema 1 queries events (length events - 1) rows → AreRowsAt asked_order asked_schema 1 asked_queries events (length events - 1) rows
  rows_as order asked_order schema asked_schema queries asked_queries events rows o s q are =
      let O : Order → Type 0 = λ x. AreRowsAt x schema 1 queries events (length events - 1) rows in
      let S : Declared → Type 0 = λ x. AreRowsAt asked_order x 1 queries events (length events - 1) rows in
      let Q : List Query → Type 0 = λ x. AreRowsAt asked_order asked_schema 1 x events (length events - 1) rows in
      subst Q q (subst S s (subst O o are))

  -- at the beginning
  abbrev pub counts_start : (Takes : List ℕ → List StreamEvent → RunStop → Type 0) (Has : List ℕ → List StreamEvent → Type 0) (earlier : List StreamEvent) (a : RunRequest) (source before : Option (List ℕ)) (buffer : List ℕ) (engine : EngineState) (first now : ℕ) → engine.schema ≡ a.schema → engine.queries ≡ a.queries →
      StandsFor engine earlier → IsDense engine earlier → AreBoundedBy timing a.schema a.queries earlier [] first now →
      ((lines : List ℕ) → source ≡ Some lines → Has lines earlier) → ((lines : List ℕ) → Begins Takes lines earlier) → buffer ≡ [] → Counted Takes Has timing earlier a source before before buffer engine first now
  counts_start Takes Has earlier a source before buffer engine first now same alike stands dense bounded given begins empty = record {
    running = starts Takes Has earlier a source before buffer engine stands given begins empty;
    rows = [];
    are_rows = rows_after_none (length earlier) a.order a.schema a.queries earlier refl;
    lines = empty;
    bounded = bounded;
    few = λ most meet. dense_has_few engine earlier most stands dense (met_here a engine earlier most same alike meet);
  }

  -- lines that were written or held, with those that came
  pub lines_more : (rows : List Row) (written buffer came put now : List ℕ) → buffer ++ came ≡ put ++ (now ++ []) → written ++ buffer ≡ lines_of rows → (written ++ put) ++ now ≡ lines_of rows ++ came
  lines_more rows written buffer came put now whole so_far =
      append_assoc written put now ∙ (ap (λ (l : List ℕ). written ++ (put ++ l)) (sym (append-nil now)) ∙ (ap (λ (l : List ℕ). written ++ l) (sym whole)
      ∙ (sym (append_assoc written buffer came) ∙ ap (λ (l : List ℕ). l ++ came) so_far)))

  -- the answers were put, and the engine is compacted where that is due
  abbrev pub counts_on : (Takes : List ℕ → List StreamEvent → RunStop → Type 0) (Has : List ℕ → List StreamEvent → Type 0) (earlier : List StreamEvent) (a : RunRequest) (source before middle after : Option (List ℕ)) (buffer now_held : List ℕ) (engine compacted : EngineState) → (o : Owing Takes Has earlier a source before middle buffer engine) →
      (rows more : List Row) (first old had mid seen paused now : ℕ) → engine.schema ≡ a.schema → engine.queries ≡ a.queries → AreRowsAt a.order a.schema 1 a.queries (o.events ++ o.next ∷ []) (length (o.events ++ o.next ∷ []) - 1) more →
      PassesOn middle after buffer (lines_of more) now_held [] → AreRowsAfter (length earlier) a.order a.schema a.queries o.events rows → o.written ++ buffer ≡ lines_of rows →
      AreBoundedBy timing a.schema a.queries o.events rows first (old + had) → seen ≤ old + update_bounds engine → paused ≤ seen + cursor_bounds engine + row_delays more →
      ((most : ℕ → ℕ) → MeetMost a.schema a.queries (o.events ++ o.next ∷ []) most → event_bound (length a.queries) most + mid ≤ had + pace timing.every (length a.queries) most) →
      IsCompacted timing a (o.events ++ o.next ∷ []) compacted (paused + mid) now → Counted Takes Has timing earlier a source before after now_held compacted first now
  counts_on Takes Has earlier a source before middle after buffer now_held engine compacted o rows more first old had mid seen paused now same alike are_more passed are_rows lines bounded took put paid c =
      let came : Came a (o.events ++ o.next ∷ []) (lines_of more) =
      record { blocks_are = blocks_of_rows a.order a.schema 1 a.queries (o.events ++ o.next ∷ []) (length (o.events ++ o.next ∷ []) - 1) more are_more } in record {
        running = runs_on Takes Has earlier a source before middle after buffer (lines_of more) now_held compacted (owes_still Takes Has earlier a source before middle buffer engine compacted o c.stands) came passed;
        rows = rows ++ more;
        are_rows = rows_after_grow_at_last (length earlier) a.order a.schema a.queries o.events o.next rows more o.behind are_rows are_more;
        lines = lines_more rows o.written buffer (lines_of more) passed.written now_held passed.whole lines ∙ sym (lines_both rows more);
        bounded = bounded_on a engine o.events o.next rows more first old had mid seen paused now same alike o.stands bounded took put paid c.steps;
        few = c.few;
      }

  -- a step gave no event, and what was held was written, or waits on
  abbrev pub counts_waiting : (Takes : List ℕ → List StreamEvent → RunStop → Type 0) (Had Has : List ℕ → List StreamEvent → Type 0) (earlier : List StreamEvent) (a : RunRequest) (source before middle after : Option (List ℕ)) (buffer now_held : List ℕ) (engine last : EngineState) (first old now : ℕ) → last ≡ engine → now ≡ old →
      (c : Counted Takes Had timing earlier a source before middle buffer engine first old) → ((bytes : List ℕ) → Had bytes c.running.events → Has bytes c.running.events) → PassesOn middle after buffer [] now_held [] → Counted Takes Has timing earlier a source before after now_held last first now
  counts_waiting Takes Had Has earlier a source before middle after buffer now_held engine last first old now kept steps c gives passed = record {
    running = waits_on Takes Had Has earlier a source before middle after buffer now_held engine last kept c.running gives passed;
    rows = c.rows;
    are_rows = c.are_rows;
    lines = sym (passed_lines c.running.written buffer passed.written now_held passed.whole) ∙ c.lines;
    bounded = subst (λ (n : ℕ). AreBoundedBy timing a.schema a.queries c.running.events c.rows first n) (sym steps) c.bounded;
    few = subst (λ (e : EngineState). (most : ℕ → ℕ) → MeetMost a.schema a.queries c.running.events most → HasFewNodes e (length c.running.events) most) (sym kept) c.few;
  }

  -- OVER A WHOLE FILE

  -- What bounds the steps by the first events and their rows bounds them by all.
  pub bounded_all : (a : RunRequest) (events later : List StreamEvent) (rows more : List Row) (before now : ℕ) → AreBoundedBy timing a.schema a.queries events rows before now →
      AreBoundedBy timing a.schema a.queries (events ++ later) (rows ++ more) before now
  bounded_all a events later rows more before now bounded = λ most meet.
      let all = events ++ later in
      let few = bounded most (first_meet_fewer a.schema a.queries events later most meet) in
      let e = pace timing.every (length a.queries) most in
      let count : length all ≡ length events + length later = length-append events later in
      let product : length all * e ≡ length events * e + length later * e = ap (λ (n : ℕ). n * e) count ∙ omega arith in
      let both = delays_both rows more in
      let f = compaction_by (due_by timing) (length a.queries) most in
      let grown : compactions (due_by timing) (length a.queries) most (length events) ≤ compactions (due_by timing) (length a.queries) most (length all) =
      subst (λ (n : ℕ). compactions (due_by timing) (length a.queries) most (length events) ≤ compactions (due_by timing) (length a.queries) most n) (sym count) (fewer_queries (length events) (length later) f) in
      omega (arith, few, product, both, grown)

  -- the same over a whole file
  counts_over : (Takes : List ℕ → List StreamEvent → RunStop → Type 0) (from : ℕ) (a : RunRequest) (lines : List ℕ) (events more : List StreamEvent) (halt : RunStop) (rows : List Row) (before now : ℕ) → from ≤ length events → Takes lines (events ++ more) halt → AreRowsAfter from a.order a.schema a.queries events rows →
      AreBoundedBy timing a.schema a.queries events rows before now → CountsTaken Takes timing from a lines (λ h. Unit {0}) (λ bytes. Unit {0}) before now
  counts_over Takes from a lines events more halt rows before now behind runs are_rows bounded =
      let all = events ++ more in
      let grown = rows_after_grow from a.order a.schema a.queries events more rows behind (λ end. some_blocks_are a.order a.schema 1 a.queries all end) are_rows in record {
        events = all;
        stop = halt;
        runs = runs;
        stops = tt;
        rows = rows ++ grown.0;
        are_rows = grown.1;
        took = tt;
        bounded = bounded_all a events more rows grown.0 before now bounded;
      }

  counts_whole : (Takes : List ℕ → List StreamEvent → RunStop → Type 0) (from : ℕ) (a : RunRequest) (lines : List ℕ) (events : List StreamEvent) (rows : List Row) (before now : ℕ) → from ≤ length events → Begins Takes lines events → AreRowsAfter from a.order a.schema a.queries events rows →
      AreBoundedBy timing a.schema a.queries events rows before now → CountsTaken Takes timing from a lines (λ h. Unit {0}) (λ bytes. Unit {0}) before now
  counts_whole Takes from a lines events rows before now behind begun are_rows bounded =
      counts_over Takes from a lines events begun.0 begun.1 rows before now behind begun.2 are_rows bounded

  -- no event was taken after those before
  pub counts_none_of : (Takes : List ℕ → List StreamEvent → RunStop → Type 0) (earlier : List StreamEvent) (a : RunRequest) (lines : List ℕ) (first now : ℕ) → Begins Takes lines earlier → AreBoundedBy timing a.schema a.queries earlier [] first now → CountsTaken Takes timing (length earlier) a lines (λ h. Unit {0}) (λ bytes. Unit {0}) first now
  counts_none_of Takes earlier a lines first now begun bounded = counts_whole Takes (length earlier) a lines earlier [] first now (omega arith) begun (rows_after_none (length earlier) a.order a.schema a.queries earlier refl) bounded

  pub counts_none : (earlier : List StreamEvent) (a : RunRequest) (lines : List ℕ) (first now : ℕ) → AreBoundedBy timing a.schema a.queries earlier [] first now → CountsAllAfter timing earlier a lines (λ halt. Unit {0}) (λ bytes. Unit {0}) first now
  counts_none earlier a lines first now bounded = counts_none_of (RunsAfter earlier a.schema a.queries a.most_bytes) earlier a lines first now (begins_at_first earlier a lines) bounded

  -- nothing was paid yet
  pub bounded_none : (schema : Declared) (queries : List Query) (events : List StreamEvent) (rows : List Row) (now : ℕ) → AreBoundedBy timing schema queries events rows now now
  bounded_none schema queries events rows now = λ most meet. omega arith

  -- before the first of the events that count, with the first compaction, where one is made
  pub bounded_first : (engine : EngineState) (events : List StreamEvent) (first before now : ℕ) → StandsFor engine events → IsDense engine events → AreOfEvents engine.schema engine.queries events first before →
      ((most : ℕ → ℕ) → MeetMost engine.schema engine.queries events most → HasFewNodes engine (length events) most → now ≤ before + first_compaction timing.every (length engine.queries) most (length events)) →
      AreBoundedBy timing engine.schema engine.queries events [] first now
  bounded_first engine events first before now stands dense taken compacted = λ most meet.
      let of_events = taken most meet in
      let one = compacted most meet (dense_has_few engine events most stands dense meet) in
      let paced = paced_first timing.every (length engine.queries) (length events) most in
      omega (arith, of_events, one, paced)

  -- memory ran out while an event was taken
  bounded_wanting : (a : RunRequest) (events : List StreamEvent) (next : StreamEvent) (rows more : List Row) (first old had seen : ℕ) → AreBoundedBy timing a.schema a.queries events rows first (old + had) →
      AreWantingSteps a.schema a.queries (events ++ next ∷ []) old seen → AreBoundedBy timing a.schema a.queries (events ++ next ∷ []) (rows ++ more) first seen
  bounded_wanting a events next rows more first old had seen bounded wants = λ most meet.
      let all = events ++ next ∷ [] in
      let before = bounded most (first_meet_fewer a.schema a.queries events (next ∷ []) most meet) in
      let here = wants most meet in
      let within = refused_is_bounded (length a.queries) most in
      let e = pace timing.every (length a.queries) most in
      let paced = pace_least timing.every (length a.queries) most in
      let count : length all ≡ length events + 1 = length-append events (next ∷ []) in
      let product : length all * e ≡ length events * e + e = ap (λ (n : ℕ). n * e) count ∙ omega arith in
      let both = delays_both rows more in
      let f = compaction_by (due_by timing) (length a.queries) most in
      let later : compactions (due_by timing) (length a.queries) most (length events) ≤ compactions (due_by timing) (length a.queries) most (length all) =
      subst (λ (n : ℕ). compactions (due_by timing) (length a.queries) most (length events) ≤ compactions (due_by timing) (length a.queries) most n) (sym count) (fewer_queries (length events) 1 f) in
      omega (arith, before, here, within, paced, product, both, later)

  counts_wanting : (Takes : List ℕ → List StreamEvent → RunStop → Type 0) (from : ℕ) (a : RunRequest) (lines : List ℕ) (events : List StreamEvent) (next : StreamEvent) (rows : List Row) (first old had seen : ℕ) → from ≤ length events → Begins Takes lines (events ++ next ∷ []) →
      AreRowsAfter from a.order a.schema a.queries events rows → AreBoundedBy timing a.schema a.queries events rows first (old + had) → AreWantingSteps a.schema a.queries (events ++ next ∷ []) old seen → CountsTaken Takes timing from a lines (λ h. Unit {0}) (λ bytes. Unit {0}) first seen
  counts_wanting Takes from a lines events next rows first old had seen behind begun are_rows bounded wants =
      let all = events ++ next ∷ [] in
      let blocks = some_blocks_are a.order a.schema 1 a.queries all (length all - 1) in
      let more = rows_of_blocks a.order a.schema 1 a.queries all (length all - 1) blocks.0 blocks.1 in
      counts_whole Takes from a lines all (rows ++ more.0) first seen (let long = length-append events (next ∷ []) in omega (arith, long, behind)) begun (rows_after_grow_at_last from a.order a.schema a.queries events next rows more.0 behind are_rows more.1)
      (bounded_wanting a events next rows more.0 first old had seen bounded wants)

  -- HOW A RUN ENDS

  -- nothing was to be written, and so it was
  pub none_taken : (middle after : Option (List ℕ)) (buffer : List ℕ) → buffer ≡ [] → TookPart middle after buffer → TookAll middle after buffer
  none_taken None after buffer none part = part
  none_taken (Some m) None buffer none part = absurd part
  none_taken (Some m) (Some n) buffer none part = absurd (let within = part.within in let l = ap length none in omega arith)

  -- a write failed while what was held was written
  counts_held : (Takes : List ℕ → List StreamEvent → RunStop → Type 0) (from : ℕ) (a : RunRequest) (lines : List ℕ) (before after : Option (List ℕ)) (first now : ℕ) → a.order ≡ Sorted → CountsTaken Takes timing from a lines (λ h. Unit {0}) (λ bytes. Unit {0}) first now → CountsAtFaultBy Takes timing from a.order a lines before after first now
  counts_held Takes from a lines before after first now sorted counts = subst (λ (x : Order). CountsAtFaultBy Takes timing from x a lines before after first now) (sym sorted) counts

  walk_or_sorted : (o : Order) → (o ≡ Walk) ⊎ (o ≡ Sorted)
  walk_or_sorted Walk = inl refl
  walk_or_sorted Sorted = inr refl

  pub steps_end : {T : Type 0} (Takes : List ℕ → List StreamEvent → RunStop → Type 0) (from : ℕ) (a : RunRequest) (lines : List ℕ) (before middle after : Option (List ℕ)) (buffer : List ℕ) (old new : ℕ) (end result : Result T (OrMemory StreamFault)) (first now : ℕ) →
      Finished middle after old new buffer end result → (a.order ≡ Walk → (buffer ≡ []) × (result ≡ end)) → CountsTaken Takes timing from a lines (λ h. Unit {0}) (λ bytes. Unit {0}) first now → (TookAll middle after buffer → StepsTaken Takes timing from a lines before after first now end) → StepsTaken Takes timing from a lines before after first now result
  steps_end {T} Takes from a lines before middle after buffer old new end result first now finished walk counts well =
      let P : Result T (OrMemory StreamFault) → Type 0 = λ r. StepsTaken Takes timing from a lines before after first now r in
      elim finished.way [
        | inl fine ↦ subst P (sym fine.0) (well fine.1)
        | inr failed ↦ elim (walk_or_sorted a.order) [
          | inl is ↦ let w = walk is in subst P (sym w.1) (well (none_taken middle after buffer w.0 failed.1))
          | inr is ↦ subst P (sym failed.0) (counts_held Takes from a lines before after first now is counts)
        ]
      ]

  -- it ended by itself, and all was written
  pub counts_stopped : (Takes : List ℕ → List StreamEvent → RunStop → Type 0) (from : ℕ) (a : RunRequest) (lines : List ℕ) (before after : Option (List ℕ)) (bytes : List ℕ) (events : List StreamEvent) (halt : RunStop) (rows : List Row) (first now : ℕ) → Takes lines events halt → AreRowsAfter from a.order a.schema a.queries events rows →
      bytes ≡ lines_of rows → AreBoundedBy timing a.schema a.queries events rows first now → TookAll before after bytes → CountsTaken Takes timing from a lines (λ h. h ≡ halt) (TookAll before after) first now
  counts_stopped Takes from a lines before after bytes events halt rows first now runs are_rows same bounded took = record {
    events = events;
    stop = halt;
    runs = runs;
    stops = refl;
    rows = rows;
    are_rows = are_rows;
    took = subst (TookAll before after) same took;
    bounded = bounded;
  }

  bounded_same : (a : RunRequest) (events : List StreamEvent) (rows : List Row) (first old now : ℕ) → now ≤ old → AreBoundedBy timing a.schema a.queries events rows first old → AreBoundedBy timing a.schema a.queries events rows first now
  bounded_same a events rows first old now less bounded = λ most meet. let b = bounded most meet in omega (arith, less, b)

  halts : (Takes : List ℕ → List StreamEvent → RunStop → Type 0) (Has : List ℕ → List StreamEvent → Type 0) (earlier : List StreamEvent) {T : Type 0} (a : RunRequest) (source : Option (List ℕ)) (lines : List ℕ) (before middle after : Option (List ℕ)) (buffer : List ℕ) (old new : ℕ) (engine : EngineState) (halt : RunStop) (end result : Result T (OrMemory StreamFault)) (first all now : ℕ) → source ≡ Some lines → now ≤ all →
      (c : Counted Takes Has timing earlier a source before middle buffer engine first all) → Takes lines c.running.events halt → Finished middle after old new buffer end result → (a.order ≡ Walk → (buffer ≡ []) × (result ≡ end)) →
      (CountsTaken Takes timing (length earlier) a lines (λ h. h ≡ halt) (TookAll before after) first now → StepsTaken Takes timing (length earlier) a lines before after first now end) → StepsTaken Takes timing (length earlier) a lines before after first now result
  halts Takes Has earlier a source lines before middle after buffer old new engine halt end result first all now told less c runs finished walk well =
      let r = c.running in
      let bounded = bounded_same a r.events c.rows first all now less c.bounded in
      steps_end Takes (length earlier) a lines before middle after buffer old new end result first now finished walk (counts_whole Takes (length earlier) a lines r.events c.rows first now r.behind (r.begins lines told) c.are_rows bounded)
      (λ taken. well (counts_stopped Takes (length earlier) a lines before after (r.written ++ buffer) r.events halt c.rows first now runs c.are_rows c.lines bounded (took_both before middle after r.written buffer r.took taken)))

  -- whatever ended it, where less was written than there is
  breaks_off : (Takes : List ℕ → List StreamEvent → RunStop → Type 0) (Has : List ℕ → List StreamEvent → Type 0) (earlier : List StreamEvent) {T : Type 0} (a : RunRequest) (source : Option (List ℕ)) (lines : List ℕ) (before middle after : Option (List ℕ)) (buffer : List ℕ) (old new : ℕ) (engine : EngineState) (end result : Result T (OrMemory StreamFault)) (first all now : ℕ) → source ≡ Some lines → now ≤ all →
      (c : Counted Takes Has timing earlier a source before middle buffer engine first all) → Finished middle after old new buffer end result → (a.order ≡ Walk → (buffer ≡ []) × (result ≡ end)) →
      (CountsTaken Takes timing (length earlier) a lines (λ h. Unit {0}) (λ bytes. Unit {0}) first now → StepsTaken Takes timing (length earlier) a lines before after first now end) → StepsTaken Takes timing (length earlier) a lines before after first now result
  breaks_off Takes Has earlier a source lines before middle after buffer old new engine end result first all now told less c finished walk well =
      let counts = counts_whole Takes (length earlier) a lines c.running.events c.rows first now c.running.behind (c.running.begins lines told) c.are_rows (bounded_same a c.running.events c.rows first all now less c.bounded) in
      steps_end Takes (length earlier) a lines before middle after buffer old new end result first now finished walk counts (λ taken. well counts)

  pub steps_at_end : (First Takes : List ℕ → List StreamEvent → RunStop → Type 0) (Had Has Reads : List ℕ → List StreamEvent → Type 0) (earlier : List StreamEvent) {T : Type 0} (a : RunRequest) (source : Option (List ℕ)) (lines : List ℕ) (before middle after : Option (List ℕ)) (buffer : List ℕ) (old new : ℕ) (engine now_engine : EngineState) (done : T) (result : Result T (OrMemory StreamFault)) (first all now : ℕ) →
      source ≡ Some lines → Lasts First Takes → (c : Counted First Had timing earlier a source before middle buffer engine first all) → AfterStep Had Has Takes Reads engine now_engine c.running.events (Ok step.End) → now ≤ all →
      Finished middle after old new buffer (Ok done) result → (a.order ≡ Walk → (buffer ≡ []) × (result ≡ Ok done)) → StepsTaken First timing (length earlier) a lines before after first now result
  steps_at_end First Takes Had Has Reads earlier a source lines before middle after buffer old new engine now_engine done result first all now told lasts c took less finished walk =
      halts First Had earlier a source lines before middle after buffer old new engine stop.End (Ok done) result first all now told less c (lasts lines c.running.events stop.End (took lines (c.running.given lines told))) finished walk (λ taken. taken)

  pub steps_by : (First Takes : List ℕ → List StreamEvent → RunStop → Type 0) (Had Has Reads : List ℕ → List StreamEvent → Type 0) (earlier : List StreamEvent) {T : Type 0} (a : RunRequest) (source : Option (List ℕ)) (lines : List ℕ) (before middle after : Option (List ℕ)) (buffer : List ℕ) (old new : ℕ) (engine now_engine : EngineState) (why : OrMemory RunFault) (result : Result T (OrMemory StreamFault)) (first before_steps had_by now : ℕ) →
      source ≡ Some lines → Lasts First Takes → (c : Counted First Had timing earlier a source before middle buffer engine first (before_steps + had_by)) →
      AfterStep Had Has Takes Reads engine now_engine c.running.events (Err why) → TakesSteps (update_bounds now_engine) before_steps now (Err why) →
      OnMemory {T = Step} (Err why) (WantsSteps a.schema a.queries c.running.events (λ next. (bytes : List ℕ) → Had bytes c.running.events → Begins Takes bytes (c.running.events ++ next ∷ [])) before_steps now) →
      Finished middle after old new buffer (Err (stream_fault why)) result → (a.order ≡ Walk → (buffer ≡ []) × (result ≡ Err (stream_fault why))) → StepsTaken First timing (length earlier) a lines before after first now result
  steps_by First Takes Had Has Reads earlier a source lines before middle after buffer old new engine now_engine Memory result first before_steps had_by now told lasts c took steps wants finished walk =
      let counts : CountsTaken First timing (length earlier) a lines (λ h. Unit {0}) (λ bytes. Unit {0}) first now = elim wants [
        | inl none ↦ counts_whole First (length earlier) a lines c.running.events c.rows first now c.running.behind (c.running.begins lines told) c.are_rows (bounded_same a c.running.events c.rows first (before_steps + had_by) now (omega (arith, none)) c.bounded)
        | inr some ↦ counts_wanting First (length earlier) a lines c.running.events some.0 c.rows first before_steps had_by now c.running.behind
            (begins_first First Takes lines (c.running.events ++ some.0 ∷ []) lasts (some.1 lines (c.running.given lines told))) c.are_rows c.bounded some.2
      ] in
      steps_end First (length earlier) a lines before middle after buffer old new (Err Memory) result first now finished walk counts (λ taken. counts)
  steps_by First Takes Had Has Reads earlier a source lines before middle after buffer old new engine now_engine (Fault run.ReadFault) result first before_steps had_by now told lasts c took steps wants finished walk =
      breaks_off First Had earlier a source lines before middle after buffer old new engine (Err (Fault fault.ReadFault)) result first (before_steps + had_by) now told (omega (arith, steps)) c finished walk (λ counts. counts)
  steps_by First Takes Had Has Reads earlier a source lines before middle after buffer old new engine now_engine (Fault (run.Event line refusal)) result first before_steps had_by now told lasts c took steps wants finished walk =
      halts First Had earlier a source lines before middle after buffer old new engine (stop.Event line refusal) (Err (Fault (fault.Event line refusal))) result first (before_steps + had_by) now told (omega (arith, steps)) c
      (lasts lines c.running.events (stop.Event line refusal) (took lines (c.running.given lines told))) finished walk (λ taken. taken)
  steps_by First Takes Had Has Reads earlier a source lines before middle after buffer old new engine now_engine (Fault (run.InputTooLong most)) result first before_steps had_by now told lasts c took steps wants finished walk =
      halts First Had earlier a source lines before middle after buffer old new engine (stop.InputTooLong most) (Err (Fault (fault.InputTooLong most))) result first (before_steps + had_by) now told (omega (arith, steps)) c
      (lasts lines c.running.events (stop.InputTooLong most) (took lines (c.running.given lines told))) finished walk (λ taken. taken)

  -- memory ran out while the answers of an event were put
  pub steps_for_memory : (Takes : List ℕ → List StreamEvent → RunStop → Type 0) (Has : List ℕ → List StreamEvent → Type 0) (earlier : List StreamEvent) {T : Type 0} (a : RunRequest) (source : Option (List ℕ)) (lines : List ℕ) (before middle later after : Option (List ℕ)) (buffer now_held : List ℕ) (old new : ℕ) (engine : EngineState) → (o : Owing Takes Has earlier a source before middle buffer engine) →
      (rows more : List Row) (first before_steps had mid seen now : ℕ) (result : Result T (OrMemory StreamFault)) → source ≡ Some lines → engine.schema ≡ a.schema → engine.queries ≡ a.queries →
      AreRowsAt a.order a.schema 1 a.queries (o.events ++ o.next ∷ []) (length (o.events ++ o.next ∷ []) - 1) more → AreRowsAfter (length earlier) a.order a.schema a.queries o.events rows → o.written ++ buffer ≡ lines_of rows →
      AreBoundedBy timing a.schema a.queries o.events rows first (before_steps + had) → seen ≤ before_steps + update_bounds engine → now ≤ seen + cursor_bounds engine + row_delays more →
      ((most : ℕ → ℕ) → MeetMost a.schema a.queries (o.events ++ o.next ∷ []) most → event_bound (length a.queries) most + mid ≤ had + pace timing.every (length a.queries) most) →
      Finished later after old new now_held (Err Memory) result → (a.order ≡ Walk → (now_held ≡ []) × (result ≡ Err Memory)) → StepsTaken Takes timing (length earlier) a lines before after first now result
  steps_for_memory Takes Has earlier a source lines before middle later after buffer now_held old new engine o rows more first before_steps had mid seen now result told same alike are_more are_rows so_far bounded took put paid finished walk =
      let all = o.events ++ o.next ∷ [] in
      let counts = counts_whole Takes (length earlier) a lines all (rows ++ more) first now (let long = length-append o.events (o.next ∷ []) in let b = o.behind in omega (arith, long, b)) (o.begins lines told) (rows_after_grow_at_last (length earlier) a.order a.schema a.queries o.events o.next rows more o.behind are_rows are_more)
      (bounded_more a engine o.events o.next rows more first before_steps had mid seen now same alike o.stands bounded took put paid) in
      steps_end Takes (length earlier) a lines before later after now_held old new (Err Memory) result first now finished walk counts (λ taken. counts)

  -- memory ran out while the engine was compacted
  pub steps_for_compaction : (Takes : List ℕ → List StreamEvent → RunStop → Type 0) (Has : List ℕ → List StreamEvent → Type 0) (earlier : List StreamEvent) {T : Type 0} (a : RunRequest) (source : Option (List ℕ)) (lines : List ℕ) (before middle after : Option (List ℕ)) (buffer : List ℕ) (old new : ℕ) (engine : EngineState) (result : Result T (OrMemory StreamFault)) (first all now : ℕ) →
      source ≡ Some lines → now ≤ all → Counted Takes Has timing earlier a source before middle buffer engine first all → Finished middle after old new buffer (Err Memory) result →
      (a.order ≡ Walk → (buffer ≡ []) × (result ≡ Err Memory)) → StepsTaken Takes timing (length earlier) a lines before after first now result
  steps_for_compaction Takes Has earlier a source lines before middle after buffer old new engine result first all now told less c finished walk =
      breaks_off Takes Has earlier a source lines before middle after buffer old new engine (Err Memory) result first all now told less c finished walk (λ counts. counts)

  -- a write failed while what was held was written, which in walk order is nothing
  pub steps_held : (Takes : List ℕ → List StreamEvent → RunStop → Type 0) (Has : List ℕ → List StreamEvent → Type 0) (earlier : List StreamEvent) (a : RunRequest) (source : Option (List ℕ)) (lines : List ℕ) (before middle after : Option (List ℕ)) (buffer : List ℕ) (engine : EngineState) (first all now : ℕ) →
      source ≡ Some lines → now ≤ all → Counted Takes Has timing earlier a source before middle buffer engine first all → (a.order ≡ Walk → ⊥) → CountsAtFaultBy Takes timing (length earlier) a.order a lines before after first now
  steps_held Takes Has earlier a source lines before middle after buffer engine first all now told less c some =
      let counts = counts_whole Takes (length earlier) a lines c.running.events c.rows first now c.running.behind (c.running.begins lines told) c.are_rows (bounded_same a c.running.events c.rows first all now less c.bounded) in
      elim (walk_or_sorted a.order) [
        | inl walk ↦ absurd (some walk)
        | inr is ↦ counts_held Takes (length earlier) a lines before after first now is counts
      ]

  -- the answer whose line was not written is one of its position
  pub one_ends : (a : RunRequest) (events : List StreamEvent) (whole later : List Row) (one : Row) (rows : List Row) → rows ≡ whole ++ one ∷ later → AreRowsAt a.order a.schema 1 a.queries events (length events - 1) rows → one.end ≡ length events - 1
  one_ends a events whole later one rows is are =
      let has : Contains (whole ++ one ∷ later) one = Contains-append_right whole (one ∷ later) one (0, omega arith, refl) in
      ends_at a.order a.schema 1 a.queries events (length events - 1) rows are one (subst (λ (l : List Row). Contains l one) (sym is) has)

  -- a write failed while the answers of an event were put
  counts_up_to : (Takes : List ℕ → List StreamEvent → RunStop → Type 0) (from : ℕ) (a : RunRequest) (lines : List ℕ) (before middle after : Option (List ℕ)) (written buffer : List ℕ) (engine : EngineState) (events : List StreamEvent) (next : StreamEvent) (further : List StreamEvent) (halt : RunStop) (rows more : List Row) (first old had mid seen now : ℕ) →
      from ≤ length events → Takes lines ((events ++ next ∷ []) ++ further) halt → engine.schema ≡ a.schema → engine.queries ≡ a.queries → StandsFor engine (events ++ next ∷ []) → TookAll before middle written → buffer ≡ [] →
      AreRowsAt a.order a.schema 1 a.queries (events ++ next ∷ []) (length (events ++ next ∷ []) - 1) more → AreRowsAfter from a.order a.schema a.queries events rows → written ++ buffer ≡ lines_of rows →
      AreBoundedBy timing a.schema a.queries events rows first (old + had) → seen ≤ old + update_bounds engine →
      ((most : ℕ → ℕ) → MeetMost a.schema a.queries (events ++ next ∷ []) most → event_bound (length a.queries) most + mid ≤ had + pace timing.every (length a.queries) most) →
      StopsAmong middle after more (seen + cursor_bounds engine) now → CountsUpTo Takes timing from a lines before after first now
  counts_up_to Takes from a lines before middle after written buffer engine events next further halt rows more first old had mid seen now behind runs same alike stands took none are_more are_rows so_far bounded cost pays s =
      let all = events ++ next ∷ [] in
      let P : List Row → Type 0 = AreRowsAfter from a.order a.schema a.queries all in
      let split : rows ++ more ≡ (rows ++ s.whole) ++ s.one ∷ s.later = ap (λ (l : List Row). rows ++ l) s.rows_are ∙ sym (append_assoc rows s.whole (s.one ∷ s.later)) in
      let so_written : written ≡ lines_of rows = sym (append-nil written) ∙ (ap (λ (l : List ℕ). written ++ l) (sym none) ∙ so_far) in
      let count : length all ≡ length events + 1 = length-append events (next ∷ []) in
      let B : List Row → Type 0 = λ r. AreBoundedBy timing a.schema a.queries all r first now in record {
        events = all;
        more = further;
        stop = halt;
        runs = runs;
        whole = rows ++ s.whole;
        one = s.one;
        later = s.later;
        are_rows = subst P split (rows_after_grow_at_last from a.order a.schema a.queries events next rows more behind are_rows are_more);
        last = let at = one_ends a all s.whole s.later s.one more s.rows_are are_more in omega arith;
        middle = s.middle;
        took = subst (TookAll before s.middle) (sym (lines_both rows s.whole)) (took_both before middle s.middle (lines_of rows) (lines_of s.whole) (subst (TookAll before middle) so_written took) s.took);
        part = s.part;
        bounded = subst B (sym (append_assoc rows s.whole (s.one ∷ []))) (bounded_more a engine events next rows (s.whole ++ s.one ∷ []) first old had mid seen now same alike stands bounded cost s.steps pays);
      }

  counts_at_fault : (Takes : List ℕ → List StreamEvent → RunStop → Type 0) (from : ℕ) (a : RunRequest) (lines : List ℕ) (before middle after : Option (List ℕ)) (written buffer : List ℕ) (engine : EngineState) (events : List StreamEvent) (next : StreamEvent) (further : List StreamEvent) (halt : RunStop) (rows more : List Row) (first old had mid seen now : ℕ) →
      from ≤ length events → Takes lines ((events ++ next ∷ []) ++ further) halt → engine.schema ≡ a.schema → engine.queries ≡ a.queries → StandsFor engine (events ++ next ∷ []) → TookAll before middle written → (a.order ≡ Walk → buffer ≡ []) →
      AreRowsAt a.order a.schema 1 a.queries (events ++ next ∷ []) (length (events ++ next ∷ []) - 1) more → AreRowsAfter from a.order a.schema a.queries events rows → written ++ buffer ≡ lines_of rows →
      AreBoundedBy timing a.schema a.queries events rows first (old + had) → seen ≤ old + update_bounds engine →
      ((most : ℕ → ℕ) → MeetMost a.schema a.queries (events ++ next ∷ []) most → event_bound (length a.queries) most + mid ≤ had + pace timing.every (length a.queries) most) →
      StepsAtFault a.order middle after more (seen + cursor_bounds engine) now → CountsAtFaultBy Takes timing from a.order a lines before after first now
  counts_at_fault Takes from a lines before middle after written buffer engine events next further halt rows more first old had mid seen now behind runs same alike stands took none are_more are_rows so_far bounded cost pays put = over a.order refl put
    where
      over : (x : Order) → a.order ≡ x → StepsAtFault x middle after more (seen + cursor_bounds engine) now → CountsAtFaultBy Takes timing from x a lines before after first now
      over Walk walk steps = counts_up_to Takes from a lines before middle after written buffer engine events next further halt rows more first old had mid seen now behind runs same alike stands took (none walk) are_more are_rows so_far bounded cost pays steps
      over Sorted sorted steps =
          counts_over Takes from a lines (events ++ next ∷ []) further halt (rows ++ more) first now (let long = length-append events (next ∷ []) in omega (arith, long, behind)) runs (rows_after_grow_at_last from a.order a.schema a.queries events next rows more behind are_rows are_more)
          (bounded_more a engine events next rows more first old had mid seen now same alike stands bounded cost steps pays)

  pub steps_for_fault : (Takes : List ℕ → List StreamEvent → RunStop → Type 0) (Has : List ℕ → List StreamEvent → Type 0) (earlier : List StreamEvent) (a : RunRequest) (source : Option (List ℕ)) (lines : List ℕ) (before middle after : Option (List ℕ)) (buffer : List ℕ) (engine : EngineState) → (o : Owing Takes Has earlier a source before middle buffer engine) →
      (rows more : List Row) (first before_steps had mid seen now : ℕ) (order : Order) → source ≡ Some lines → engine.schema ≡ a.schema → engine.queries ≡ a.queries → order ≡ a.order →
      AreRowsAt a.order a.schema 1 a.queries (o.events ++ o.next ∷ []) (length (o.events ++ o.next ∷ []) - 1) more → AreRowsAfter (length earlier) a.order a.schema a.queries o.events rows → o.written ++ buffer ≡ lines_of rows →
      AreBoundedBy timing a.schema a.queries o.events rows first (before_steps + had) → seen ≤ before_steps + update_bounds engine →
      ((most : ℕ → ℕ) → MeetMost a.schema a.queries (o.events ++ o.next ∷ []) most → event_bound (length a.queries) most + mid ≤ had + pace timing.every (length a.queries) most) →
      StepsAtFault order middle after more (seen + cursor_bounds engine) now → (a.order ≡ Walk → buffer ≡ []) →
      CountsAtFaultBy Takes timing (length earlier) a.order a lines before after first now
  steps_for_fault Takes Has earlier a source lines before middle after buffer engine o rows more first before_steps had mid seen now order told same alike is are_more are_rows so_far bounded took paid put none =
      let begun = o.begins lines told in
      counts_at_fault Takes (length earlier) a lines before middle after o.written buffer engine o.events o.next begun.0 begun.1 rows more first before_steps had mid seen now o.behind begun.2 same alike o.stands o.took none
      are_more are_rows so_far bounded took paid (subst (λ (x : Order). StepsAtFault x middle after more (seen + cursor_bounds engine) now) is put)
