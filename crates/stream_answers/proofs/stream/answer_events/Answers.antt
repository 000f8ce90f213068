use Rattle.std.proofs.Common.{◌≡◌, ◌+◌, ◌++◌, ◌∷◌, ℕ, List, length, Option, [], inl, refl, sym, ap, subst, ◌∙◌, Result, Ok, Err, arith}
use Rattle.cer_base.specs.declared.OrMemory.{OrMemory}
use Rattle.stream_schema.specs.Types.{Declared}
use Rattle.stream_schema.specs.declared.Event.{Event}
use Rattle.cel_terms.specs.declared.Query.{Query}
use Rattle.cer_outside.specs.Causes.{Rose}
use Rattle.event_run.specs.Runs.{RunStop}
use Rattle.event_run.specs.Wanting.{OnMemory, WantsSteps}
use Rattle.event_run.specs.declared.RunFault.{RunFault}
use Rattle.query_engine.specs.Engine.{EngineState, StandsFor}
use Rattle.query_engine.proofs.Counting.{first_meet_fewer}
use Rattle.stream_answers.specs.declared.events.Step.{Step}
use Rattle.stream_answers.specs.declared.events.Step.TheVariants as step
use Rattle.stream_answers.specs.Events.{AfterStep, Begins, Lasts, LastsRead}
use Rattle.stream_answers.specs.Streams.{RunRequest}
use Rattle.stream_answers.specs.Schedules.{Timing, due_by, saved_by, WithNoNumber, IsOnTime}
use Rattle.stream_answers.specs.Windows.{last_of, FollowsWindowsBy}
use Rattle.stream_answers.proofs.Running.{in_words, owes, came_as, still_none}
use Rattle.stream_answers.proofs.Growing.{with_none, keeps_up}
use Rattle.stream_answers.proofs.Compacted.{compacted, pays_for, noted_all, paid_in_time, windows_in_time, on_in_time}
use Rattle.stream_answers.proofs.Windows.{windows_behind, windows_due}
use Rattle.stream_answers.proofs.Totals.{counts_start, counts_on, counts_waiting, rows_as, steps_at_end, steps_by, steps_for_memory, steps_for_fault, steps_for_compaction, steps_held}
use Rattle.stream_answers.proofs.RunEnds.{ends_at_end, ends_by, ends_wanting, ends_for_memory, ends_for_fault, ends_held, stands_at_end, ok_then, none_ok, read_cause}
use Rattle.stream_answers.proofs.stream.answer_events.Goals as goal

-- what a source of events takes of a file, and what it has given
abbrev Run : Type 1
Run = List ℕ → List Event → RunStop → Type 0

abbrev Given : Type 1
Given = List ℕ → List Event → Type 0

-- A step, in the words of the schema and the queries that the loop began with.
module _ (gives : Declared → List Query → List Event → Option (List ℕ) → List ℕ → List Event → Type 0) (given : Declared → List Query → List Event → Option (List ℕ) → List ℕ → List Event → Type 0) (takes : Declared → List Query → List Event → List ℕ → List Event → RunStop → Type 0) (reads : Declared → List Query → List Event → Option (List ℕ) → List ℕ → List Event → Type 0) (s t : Declared) (qs rs : List Query) (same : s ≡ t) (alike : qs ≡ rs) (earlier : List Event) (had left : Option (List ℕ)) where
  took_as : (before after : EngineState) (result : Result Step (OrMemory RunFault)) →
      ((events : List Event) → StandsFor before events → AfterStep (given s qs earlier had) (gives s qs earlier left) (takes s qs earlier) (reads s qs earlier left) before after events result) →
      (events : List Event) → StandsFor before events → AfterStep (given t rs earlier had) (gives t rs earlier left) (takes t rs earlier) (reads t rs earlier left) before after events result
  took_as before after result took = in_words (λ d l. (events : List Event) → StandsFor before events → AfterStep (given d l earlier had) (gives d l earlier left) (takes d l earlier) (reads d l earlier left) before after events result) s t qs rs same alike took

  wants_as : (why : OrMemory RunFault) (events : List Event) (before now : ℕ) →
      OnMemory {T = Step} (Err why) (WantsSteps s qs events (λ next. (bytes : List ℕ) → given s qs earlier had bytes events → Begins (takes s qs earlier) bytes (events ++ next ∷ [])) before now) →
      OnMemory {T = Step} (Err why) (WantsSteps t rs events (λ next. (bytes : List ℕ) → given t rs earlier had bytes events → Begins (takes t rs earlier) bytes (events ++ next ∷ [])) before now)
  wants_as why events before now wants = in_words (λ d l. OnMemory {T = Step} (Err why) (WantsSteps d l events (λ next. (bytes : List ℕ) → given d l earlier had bytes events → Begins (takes d l earlier) bytes (events ++ next ∷ [])) before now)) s t qs rs same alike wants

-- what lasts over this step lasts from the first on
lasting : (takes now : Declared → List Query → List Event → List ℕ → List Event → RunStop → Type 0) (First : List ℕ → List Event → RunStop → Type 0) (s t : Declared) (qs rs : List Query) (earlier : List Event) → s ≡ t → qs ≡ rs → Lasts First (takes t rs earlier) → Lasts (takes s qs earlier) (now s qs earlier) → Lasts First (now t rs earlier)
lasting takes now First s t qs rs earlier same alike first lasts =
    let here = in_words (λ d l. Lasts (takes d l earlier) (now d l earlier)) s t qs rs same alike lasts in
    λ bytes events halt runs. first bytes events halt (here bytes events halt runs)

lasting_read : (reads now : Declared → List Query → List Event → Option (List ℕ) → List ℕ → List Event → Type 0) (First : List ℕ → List Event → Type 0) (s t : Declared) (qs rs : List Query) (earlier : List Event) (left : Option (List ℕ)) → s ≡ t → qs ≡ rs → LastsRead First (reads t rs earlier left) → LastsRead (reads s qs earlier left) (now s qs earlier left) → LastsRead First (now t rs earlier left)
lasting_read reads now First s t qs rs earlier left same alike first lasts =
    let here = in_words (λ d l. LastsRead (reads d l earlier left) (now d l earlier left)) s t qs rs same alike lasts in
    λ bytes events read. first bytes events (here bytes events read)

pub loop-output-init : goal.loop-output-init
loop-output-init g c = record {
  lasts = λ earlier bytes events halt runs. runs;
  reads_on = λ earlier left bytes events read. read;
  following = λ peaks earlier begun most_bytes f paid. record {
    counting = counts_start c.args.schedule.now.timing _ _ earlier _ _ _ _ _ begun _ refl refl f.follows.stands f.follows.dense paid
        (λ lines told. subst (λ (o : Option (List ℕ)). g.E.Events.gives c.args.events.now c.args.engine.now.schema c.args.engine.now.queries earlier o lines earlier) (sym told) (c.requires.given earlier lines)) (c.requires.begins earlier) c.requires.empty;
    windows = windows_behind c.args.schedule.now.timing.every c.args.schedule.now.timing.first peaks c.args.engine.now earlier f.first f.follows;
    on_time = f.on_time;
  };
  timing = refl;
  noted = c.requires.bases;
  none_waits = λ walk. c.requires.empty;
  goes_on = c.requires.goes_on;
  counted = c.requires.room;
  same = (refl, refl);
  order = refl;
  read_faults = refl;
  write_faults = refl;
}

pub loop-output-preserved : goal.loop-output-preserved
loop-output-preserved g c =
    let inv = c.loop-output.invariant in
    let same = c.step.ensures.same in
    rw c.put.ensures.events (record {
      lasts = λ earlier. lasting (g.E.Events.takes c.loop-output.events) (g.E.Events.takes c.step.new.self) _ _ _ _ _ earlier inv.same.0 inv.same.1 (inv.lasts earlier) ((rw c.in-Ok-Event.field-0-is at c.in-Ok-Event.ensures.lasts) earlier);
      reads_on = λ earlier left. lasting_read (g.E.Events.reads c.loop-output.events) (g.E.Events.reads c.step.new.self) _ _ _ _ _ earlier left inv.same.0 inv.same.1 (inv.reads_on earlier left) ((rw c.in-Ok-Event.field-0-is at c.in-Ok-Event.ensures.reads_on) earlier left);
      following = λ peaks earlier begun most_bytes f paid.
          let inv = c.loop-output.invariant in
          let t : Timing = c.args.schedule.now.timing in
          let a : RunRequest = record { order = c.args.output.now.order; schema = c.args.engine.now.schema; queries = c.args.engine.now.queries; most_bytes = most_bytes } in
          let so_far = inv.following peaks earlier begun most_bytes f paid in
          let First : Run = g.E.Events.takes c.args.events.now a.schema a.queries earlier in
          let Takes : Run = g.E.Events.takes c.loop-output.events a.schema a.queries earlier in
          let Had : Given = g.E.Events.gives c.loop-output.events a.schema a.queries earlier (g.Q.Source.left c.loop-output.source) in
          let Has : Given = g.E.Events.gives c.step.new.self a.schema a.queries earlier (g.Q.Source.left c.step.new.source) in
          let Reads : Given = g.E.Events.reads c.loop-output.events a.schema a.queries earlier (g.Q.Source.left c.step.new.source) in
          let Read : Option (List ℕ) → Given = g.E.Events.reads c.args.events.now a.schema a.queries earlier in
          let took = took_as (g.E.Events.gives c.step.new.self) (g.E.Events.gives c.loop-output.events) (g.E.Events.takes c.loop-output.events) (g.E.Events.reads c.loop-output.events) _ a.schema _ a.queries inv.same.0 inv.same.1 earlier (g.Q.Source.left c.loop-output.source) (g.Q.Source.left c.step.new.source) c.loop-output.engine c.step.new.engine (Ok step.Event) ((rw c.in-Ok-Event.field-0-is at c.in-Ok-Event.ensures.took) earlier) so_far.counting.running.events so_far.counting.running.stands in
          let same = c.step.ensures.same in
          let owing = owes First Takes Had Has Reads earlier a (g.Q.Source.left c.args.source.now) (g.K.Sink.taken c.args.out.now) (g.K.Sink.taken c.loop-output.out) c.loop-output.output.buffer c.loop-output.engine c.step.new.engine (inv.lasts earlier) so_far.counting.running took in
          let had : ℕ = saved_by t.every c.loop-output.engine c.loop-output.schedule.bases in
          let mid : ℕ = saved_by t.every c.step.new.engine c.loop-output.schedule.bases in
          let pays = pays_for t.every a c.loop-output.engine c.step.new.engine owing.events owing.next c.loop-output.schedule.bases (same.0 ∙ inv.same.0) (same.1 ∙ inv.same.1) same owing.stands took.3 took.4 in
          let put = c.in-Ok-put.ensures.rows.rows_are _ owing.stands in
          let now : ℕ = c.keep_up.new.steps + saved_by t.every c.keep_up.new.engine c.keep_up.new.self.bases in
          let compacted_is = compacted t a c.loop-output.engine c.step.new.engine c.keep_up.new.engine owing.events owing.next (c.put.new.steps + mid) now (same.0 ∙ inv.same.0) (same.1 ∙ inv.same.1) same c.keep_up.ensures.same
          owing.stands (c.keep_up.ensures.stands _ owing.stands) so_far.counting.few (c.in-Ok-Event.ensures.growth (ap Ok c.in-Ok-Event.field-0-is)) c.keep_up.ensures.fewer (paid_in_time c.loop-output.schedule c.keep_up.new.self t c.step.new.engine c.keep_up.new.engine inv.timing c.put.new.steps c.keep_up.new.steps c.keep_up.ensures.timing c.keep_up.ensures.steps (owing.events ++ owing.next ∷ []) owing.stands)
          (λ most meet. first_meet_fewer _ _ _ _ most meet) in
          let counting = counts_on t First Has earlier a (g.Q.Source.left c.args.source.now) (g.K.Sink.taken c.args.out.now) (g.K.Sink.taken c.loop-output.out) (g.K.Sink.taken c.put.new.out) c.loop-output.output.buffer c.put.new.self.buffer c.step.new.engine c.keep_up.new.engine owing
          so_far.counting.rows put.0 begun c.loop-output.steps had mid c.step.new.steps c.put.new.steps now (same.0 ∙ inv.same.0) (same.1 ∙ inv.same.1)
          (rows_as t _ _ _ _ _ _ _ put.0 inv.order (same.0 ∙ inv.same.0) (same.1 ∙ inv.same.1) put.1) put.2.0 so_far.counting.are_rows so_far.counting.lines so_far.counting.bounded (rw c.in-Ok-Event.field-0-is at c.in-Ok-Event.ensures.steps) put.2.1 pays compacted_is in
          let due_here = windows_due (due_by t) peaks c.loop-output.engine c.step.new.engine owing.events owing.next same owing.stands took.3 took.4 so_far.windows in
          record {
            counting = counting;
            windows = windows_in_time c.loop-output.schedule c.keep_up.new.self t c.step.new.engine c.keep_up.new.engine inv.timing c.in-Ok-keep_up.ensures.windows peaks _ owing.stands due_here;
            on_time = on_in_time c.loop-output.schedule c.keep_up.new.self t c.step.new.engine c.keep_up.new.engine inv.timing c.loop-output.engine owing.events owing.next same took.3 took.4 (c.in-Ok-keep_up.ensures.on_time _ owing.stands due_here.dense) so_far.on_time;
          };
      timing = c.keep_up.ensures.timing ∙ inv.timing;
      noted = c.keep_up.ensures.bases ∙ inv.noted;
      none_waits = λ walk. c.put.ensures.walk (inv.order ∙ walk);
      goes_on = subst (g.E.Events.goes_on c.step.new.self) (sym c.keep_up.ensures.same.0) (rw c.in-Ok-Event.field-0-is at c.in-Ok-Event.ensures.goes_on);
      counted = (let kept = c.keep_up.ensures.count in let le = rw c.in-Ok-Event.field-0-is at c.in-Ok-Event.ensures.room in omega (arith, kept, le));
      same = (c.keep_up.ensures.same.0 ∙ (same.0 ∙ inv.same.0), c.keep_up.ensures.same.1 ∙ (same.1 ∙ inv.same.1));
      order = c.put.ensures.order ∙ inv.order;
      read_faults = c.in-Ok-Event.ensures.cause ∙ inv.read_faults;
      write_faults = c.in-Ok-put.ensures.cause ∙ inv.write_faults;
    })

pub loop-output-preserved-in-Ok : goal.loop-output-preserved-in-Ok
loop-output-preserved-in-Ok g c =
    let inv = c.loop-output.invariant in
    let same = c.step.ensures.same in
    let kept = rw c.in-Ok-Line.field-0-is at c.in-Ok-Line.ensures.kept in
    rw c.settle.ensures.events (record {
      lasts = λ earlier. lasting (g.E.Events.takes c.loop-output.events) (g.E.Events.takes c.step.new.self) _ _ _ _ _ earlier inv.same.0 inv.same.1 (inv.lasts earlier) ((rw c.in-Ok-Line.field-0-is at c.in-Ok-Line.ensures.lasts) earlier);
      reads_on = λ earlier left. lasting_read (g.E.Events.reads c.loop-output.events) (g.E.Events.reads c.step.new.self) _ _ _ _ _ earlier left inv.same.0 inv.same.1 (inv.reads_on earlier left) ((rw c.in-Ok-Line.field-0-is at c.in-Ok-Line.ensures.reads_on) earlier left);
      following = λ peaks earlier begun most_bytes f paid.
          let inv = c.loop-output.invariant in
          let t : Timing = c.args.schedule.now.timing in
          let a : RunRequest = record { order = c.args.output.now.order; schema = c.args.engine.now.schema; queries = c.args.engine.now.queries; most_bytes = most_bytes } in
          let so_far = inv.following peaks earlier begun most_bytes f paid in
          let First : Run = g.E.Events.takes c.args.events.now a.schema a.queries earlier in
          let Takes : Run = g.E.Events.takes c.loop-output.events a.schema a.queries earlier in
          let Had : Given = g.E.Events.gives c.loop-output.events a.schema a.queries earlier (g.Q.Source.left c.loop-output.source) in
          let Has : Given = g.E.Events.gives c.step.new.self a.schema a.queries earlier (g.Q.Source.left c.step.new.source) in
          let Reads : Given = g.E.Events.reads c.loop-output.events a.schema a.queries earlier (g.Q.Source.left c.step.new.source) in
          let Read : Option (List ℕ) → Given = g.E.Events.reads c.args.events.now a.schema a.queries earlier in
          let took = took_as (g.E.Events.gives c.step.new.self) (g.E.Events.gives c.loop-output.events) (g.E.Events.takes c.loop-output.events) (g.E.Events.reads c.loop-output.events) _ a.schema _ a.queries inv.same.0 inv.same.1 earlier (g.Q.Source.left c.loop-output.source) (g.Q.Source.left c.step.new.source) c.loop-output.engine c.step.new.engine (Ok step.Line) ((rw c.in-Ok-Line.field-0-is at c.in-Ok-Line.ensures.took) earlier) so_far.counting.running.events so_far.counting.running.stands in
          let had : ℕ = saved_by t.every c.loop-output.engine c.loop-output.schedule.bases in
          let none = rw c.in-Ok-Line.field-0-is at c.in-Ok-Line.ensures.steps in
          record {
            counting = counts_waiting t First Had Has earlier a (g.Q.Source.left c.args.source.now) (g.K.Sink.taken c.args.out.now) (g.K.Sink.taken c.loop-output.out) (g.K.Sink.taken c.settle.new.out) c.loop-output.output.buffer c.settle.new.self.buffer c.loop-output.engine c.step.new.engine begun (c.loop-output.steps + had) (c.step.new.steps + saved_by t.every c.step.new.engine c.loop-output.schedule.bases) kept
                (ap (λ (n : ℕ). n + saved_by t.every c.step.new.engine c.loop-output.schedule.bases) none ∙ ap (λ (e : EngineState). c.loop-output.steps + saved_by t.every e c.loop-output.schedule.bases) kept) so_far.counting took c.in-Ok.ensures.kept;
            windows = subst (λ (e : EngineState). FollowsWindowsBy (due_by t) peaks (last_of (due_by t) (length so_far.counting.running.events)) so_far.counting.running.events e) (sym kept) so_far.windows;
            on_time = subst (λ (e : EngineState). WithNoNumber t.every (IsOnTime c.loop-output.schedule e so_far.counting.running.events)) (sym kept) so_far.on_time;
          };
      timing = inv.timing;
      noted = inv.noted;
      none_waits = λ walk. still_none (g.K.Sink.taken c.loop-output.out) (g.K.Sink.taken c.settle.new.out) c.loop-output.output.buffer c.settle.new.self.buffer c.in-Ok.ensures.kept (inv.none_waits walk);
      goes_on = rw c.in-Ok-Line.field-0-is at c.in-Ok-Line.ensures.goes_on;
      counted = rw c.in-Ok-Line.field-0-is at c.in-Ok-Line.ensures.room;
      same = (same.0 ∙ inv.same.0, same.1 ∙ inv.same.1);
      order = c.settle.ensures.order ∙ inv.order;
      read_faults = c.in-Ok-Line.ensures.cause ∙ inv.read_faults;
      write_faults = c.in-Ok.ensures.cause.well ∙ inv.write_faults;
    })

pub returns-in-Ok-End-clause-ended : goal.returns-in-Ok-End-clause-ended
returns-in-Ok-End-clause-ended g c = λ peaks earlier begun most_bytes f paid.
    let inv = c.loop-output.invariant in
    let t : Timing = c.args.schedule.now.timing in
    let a : RunRequest = record { order = c.args.output.now.order; schema = c.args.engine.now.schema; queries = c.args.engine.now.queries; most_bytes = most_bytes } in
    let so_far = inv.following peaks earlier begun most_bytes f paid in
    let First : Run = g.E.Events.takes c.args.events.now a.schema a.queries earlier in
    let Takes : Run = g.E.Events.takes c.loop-output.events a.schema a.queries earlier in
    let Had : Given = g.E.Events.gives c.loop-output.events a.schema a.queries earlier (g.Q.Source.left c.loop-output.source) in
    let Has : Given = g.E.Events.gives c.step.new.self a.schema a.queries earlier (g.Q.Source.left c.step.new.source) in
    let Reads : Given = g.E.Events.reads c.loop-output.events a.schema a.queries earlier (g.Q.Source.left c.step.new.source) in
    let Read : Option (List ℕ) → Given = g.E.Events.reads c.args.events.now a.schema a.queries earlier in
    let took = took_as (g.E.Events.gives c.step.new.self) (g.E.Events.gives c.loop-output.events) (g.E.Events.takes c.loop-output.events) (g.E.Events.reads c.loop-output.events) _ a.schema _ a.queries inv.same.0 inv.same.1 earlier (g.Q.Source.left c.loop-output.source) (g.Q.Source.left c.step.new.source) c.loop-output.engine c.step.new.engine (Ok step.End) ((rw c.in-Ok-End.field-0-is at c.in-Ok-End.ensures.took) earlier) so_far.counting.running.events so_far.counting.running.stands in record {
      wrote =
          ends_at_end First Takes Read Had Has Reads earlier a _ (g.Q.Source.left c.step.new.source) _ _ _ _ _ _ c.loop-output.engine c.step.new.engine _ c.finish.result (inv.lasts earlier) so_far.counting.running took c.finish.ensures.finished;
      steps = λ bytes told.
          steps_at_end t First Takes Had Has Reads earlier a _ bytes _ _ _ _ _ _ c.loop-output.engine c.step.new.engine _ c.finish.result begun (c.loop-output.steps + saved_by t.every c.loop-output.engine c.loop-output.schedule.bases) c.step.new.steps told (inv.lasts earlier) so_far.counting took
          (let none = rw c.in-Ok-End.field-0-is at c.in-Ok-End.ensures.steps in omega (arith, none)) c.finish.ensures.finished (λ walk. let none = inv.none_waits walk in (none, c.finish.ensures.none none));
      stands = ok_then c.finish.result _ (
          stands_at_end First Takes Had Has Reads earlier t peaks a _ _ _ _ c.loop-output.engine c.step.new.engine (inv.lasts earlier) so_far.counting.running so_far.windows (with_none t.every _ _ (λ on_time. keeps_up c.loop-output.schedule c.loop-output.engine so_far.counting.running.events on_time) so_far.on_time)
          (rw c.in-Ok-End.field-0-is at c.in-Ok-End.ensures.kept) took);
    }

pub returns-in-Err-clause-ended : goal.returns-in-Err-clause-ended
returns-in-Err-clause-ended g c = λ peaks earlier begun most_bytes f paid.
    let inv = c.loop-output.invariant in
    let t : Timing = c.args.schedule.now.timing in
    let a : RunRequest = record { order = c.args.output.now.order; schema = c.args.engine.now.schema; queries = c.args.engine.now.queries; most_bytes = most_bytes } in
    let so_far = inv.following peaks earlier begun most_bytes f paid in
    let First : Run = g.E.Events.takes c.args.events.now a.schema a.queries earlier in
    let Takes : Run = g.E.Events.takes c.loop-output.events a.schema a.queries earlier in
    let Had : Given = g.E.Events.gives c.loop-output.events a.schema a.queries earlier (g.Q.Source.left c.loop-output.source) in
    let Has : Given = g.E.Events.gives c.step.new.self a.schema a.queries earlier (g.Q.Source.left c.step.new.source) in
    let Reads : Given = g.E.Events.reads c.loop-output.events a.schema a.queries earlier (g.Q.Source.left c.step.new.source) in
    let Read : Option (List ℕ) → Given = g.E.Events.reads c.args.events.now a.schema a.queries earlier in
    let took = took_as (g.E.Events.gives c.step.new.self) (g.E.Events.gives c.loop-output.events) (g.E.Events.takes c.loop-output.events) (g.E.Events.reads c.loop-output.events) _ a.schema _ a.queries inv.same.0 inv.same.1 earlier (g.Q.Source.left c.loop-output.source) (g.Q.Source.left c.step.new.source) c.loop-output.engine c.step.new.engine (Err c.in-Err.stop) (c.in-Err.ensures.took earlier) so_far.counting.running.events so_far.counting.running.stands in record {
      wrote =
          ends_by First Takes Read Had Has Reads earlier a _ (g.Q.Source.left c.step.new.source) _ _ _ _ _ _ c.loop-output.engine c.step.new.engine c.in-Err.stop c.finish-in-Err.result (inv.lasts earlier) (inv.reads_on earlier (g.Q.Source.left c.step.new.source)) so_far.counting.running took (rw c.stream_fault.ensures at c.finish-in-Err.ensures.finished);
      steps = λ bytes told.
          steps_by t First Takes Had Has Reads earlier a _ bytes _ _ _ _ _ _ c.loop-output.engine c.step.new.engine c.in-Err.stop c.finish-in-Err.result begun c.loop-output.steps (saved_by t.every c.loop-output.engine c.loop-output.schedule.bases) c.step.new.steps told (inv.lasts earlier) so_far.counting took c.in-Err.ensures.steps
          (wants_as (g.E.Events.gives c.step.new.self) (g.E.Events.gives c.loop-output.events) (g.E.Events.takes c.loop-output.events) (g.E.Events.reads c.loop-output.events) _ a.schema _ a.queries inv.same.0 inv.same.1 earlier (g.Q.Source.left c.loop-output.source) (g.Q.Source.left c.step.new.source) c.in-Err.stop so_far.counting.running.events c.loop-output.steps c.step.new.steps
          (c.in-Err.ensures.wanting_steps earlier so_far.counting.running.events so_far.counting.running.stands))
          (rw c.stream_fault.ensures at c.finish-in-Err.ensures.finished) (λ walk. let none = inv.none_waits walk in (none, rw c.stream_fault.ensures at (c.finish-in-Err.ensures.none none)));
      stands = none_ok _ _ _ _ _ _ c.finish-in-Err.result _ c.finish-in-Err.ensures.finished;
    }

pub returns-in-Err-Memory-clause-ended : goal.returns-in-Err-Memory-clause-ended
returns-in-Err-Memory-clause-ended g c = λ peaks earlier begun most_bytes f paid.
    let inv = c.loop-output.invariant in
    let t : Timing = c.args.schedule.now.timing in
    let a : RunRequest = record { order = c.args.output.now.order; schema = c.args.engine.now.schema; queries = c.args.engine.now.queries; most_bytes = most_bytes } in
    let so_far = inv.following peaks earlier begun most_bytes f paid in
    let First : Run = g.E.Events.takes c.args.events.now a.schema a.queries earlier in
    let Takes : Run = g.E.Events.takes c.loop-output.events a.schema a.queries earlier in
    let Had : Given = g.E.Events.gives c.loop-output.events a.schema a.queries earlier (g.Q.Source.left c.loop-output.source) in
    let Has : Given = g.E.Events.gives c.step.new.self a.schema a.queries earlier (g.Q.Source.left c.step.new.source) in
    let Reads : Given = g.E.Events.reads c.loop-output.events a.schema a.queries earlier (g.Q.Source.left c.step.new.source) in
    let Read : Option (List ℕ) → Given = g.E.Events.reads c.args.events.now a.schema a.queries earlier in
    let took = took_as (g.E.Events.gives c.step.new.self) (g.E.Events.gives c.loop-output.events) (g.E.Events.takes c.loop-output.events) (g.E.Events.reads c.loop-output.events) _ a.schema _ a.queries inv.same.0 inv.same.1 earlier (g.Q.Source.left c.loop-output.source) (g.Q.Source.left c.step.new.source) c.loop-output.engine c.step.new.engine (Ok step.Event) ((rw c.in-Ok-Event.field-0-is at c.in-Ok-Event.ensures.took) earlier) so_far.counting.running.events so_far.counting.running.stands in
    let same = c.step.ensures.same in
    let owing = owes First Takes Had Has Reads earlier a (g.Q.Source.left c.args.source.now) (g.K.Sink.taken c.args.out.now) (g.K.Sink.taken c.loop-output.out) c.loop-output.output.buffer c.loop-output.engine c.step.new.engine (inv.lasts earlier) so_far.counting.running took in
    let had : ℕ = saved_by t.every c.loop-output.engine c.loop-output.schedule.bases in
    let mid : ℕ = saved_by t.every c.step.new.engine c.loop-output.schedule.bases in
    let pays = pays_for t.every a c.loop-output.engine c.step.new.engine owing.events owing.next c.loop-output.schedule.bases (same.0 ∙ inv.same.0) (same.1 ∙ inv.same.1) same owing.stands took.3 took.4 in
    let put = (rw c.in-Err-Memory.field-0-is at c.in-Err-Memory.ensures.rows).rows_are _ owing.stands in
    let blocks = (rw c.in-Err-Memory.field-0-is at c.in-Err-Memory.ensures.passed) _ owing.stands in record {
      wrote =
          ends_for_memory First Read Has earlier a _ (g.Q.Source.left c.step.new.source) (g.K.Sink.taken c.args.out.now) (g.K.Sink.taken c.loop-output.out) (g.K.Sink.taken c.put.new.out) (g.K.Sink.taken c.finish-in-Err-Memory.new.out) c.loop-output.output.buffer blocks.0 c.put.new.self.buffer _ _ c.step.new.engine c.finish-in-Err-Memory.result owing
          (came_as _ _ _ _ _ blocks.0 inv.order (same.0 ∙ inv.same.0) (same.1 ∙ inv.same.1) blocks.1) blocks.2 c.finish-in-Err-Memory.ensures.finished;
      steps = λ bytes told.
          steps_for_memory t First Has earlier a _ bytes (g.K.Sink.taken c.args.out.now) (g.K.Sink.taken c.loop-output.out) (g.K.Sink.taken c.put.new.out) (g.K.Sink.taken c.finish-in-Err-Memory.new.out) c.loop-output.output.buffer c.put.new.self.buffer _ _ c.step.new.engine owing
          so_far.counting.rows put.0 begun c.loop-output.steps had mid c.step.new.steps c.put.new.steps c.finish-in-Err-Memory.result told (same.0 ∙ inv.same.0) (same.1 ∙ inv.same.1)
          (rows_as t _ _ _ _ _ _ _ put.0 inv.order (same.0 ∙ inv.same.0) (same.1 ∙ inv.same.1) put.1) so_far.counting.are_rows so_far.counting.lines so_far.counting.bounded (rw c.in-Ok-Event.field-0-is at c.in-Ok-Event.ensures.steps) put.2.1 pays c.finish-in-Err-Memory.ensures.finished
          (λ walk. let none = c.put.ensures.walk (inv.order ∙ walk) in (none, c.finish-in-Err-Memory.ensures.none none));
      stands = none_ok _ _ _ _ _ _ c.finish-in-Err-Memory.result _ c.finish-in-Err-Memory.ensures.finished;
    }

pub returns-in-Err-Fault-clause-ended : goal.returns-in-Err-Fault-clause-ended
returns-in-Err-Fault-clause-ended g c = λ peaks earlier begun most_bytes f paid.
    let inv = c.loop-output.invariant in
    let t : Timing = c.args.schedule.now.timing in
    let a : RunRequest = record { order = c.args.output.now.order; schema = c.args.engine.now.schema; queries = c.args.engine.now.queries; most_bytes = most_bytes } in
    let so_far = inv.following peaks earlier begun most_bytes f paid in
    let First : Run = g.E.Events.takes c.args.events.now a.schema a.queries earlier in
    let Takes : Run = g.E.Events.takes c.loop-output.events a.schema a.queries earlier in
    let Had : Given = g.E.Events.gives c.loop-output.events a.schema a.queries earlier (g.Q.Source.left c.loop-output.source) in
    let Has : Given = g.E.Events.gives c.step.new.self a.schema a.queries earlier (g.Q.Source.left c.step.new.source) in
    let Reads : Given = g.E.Events.reads c.loop-output.events a.schema a.queries earlier (g.Q.Source.left c.step.new.source) in
    let Read : Option (List ℕ) → Given = g.E.Events.reads c.args.events.now a.schema a.queries earlier in
    let took = took_as (g.E.Events.gives c.step.new.self) (g.E.Events.gives c.loop-output.events) (g.E.Events.takes c.loop-output.events) (g.E.Events.reads c.loop-output.events) _ a.schema _ a.queries inv.same.0 inv.same.1 earlier (g.Q.Source.left c.loop-output.source) (g.Q.Source.left c.step.new.source) c.loop-output.engine c.step.new.engine (Ok step.Event) ((rw c.in-Ok-Event.field-0-is at c.in-Ok-Event.ensures.took) earlier) so_far.counting.running.events so_far.counting.running.stands in
    let same = c.step.ensures.same in
    let owing = owes First Takes Had Has Reads earlier a (g.Q.Source.left c.args.source.now) (g.K.Sink.taken c.args.out.now) (g.K.Sink.taken c.loop-output.out) c.loop-output.output.buffer c.loop-output.engine c.step.new.engine (inv.lasts earlier) so_far.counting.running took in
    let had : ℕ = saved_by t.every c.loop-output.engine c.loop-output.schedule.bases in
    let mid : ℕ = saved_by t.every c.step.new.engine c.loop-output.schedule.bases in
    let pays = pays_for t.every a c.loop-output.engine c.step.new.engine owing.events owing.next c.loop-output.schedule.bases (same.0 ∙ inv.same.0) (same.1 ∙ inv.same.1) same owing.stands took.3 took.4 in
    let put = (rw c.in-Err-Fault.field-0-is at c.in-Err-Fault.ensures.rows).rows_are _ owing.stands in
    let blocks = (rw c.in-Err-Fault.field-0-is at c.in-Err-Fault.ensures.passed) _ owing.stands in record {
      wrote =
          ends_for_fault First Has earlier a _ (g.K.Sink.taken c.args.out.now) (g.K.Sink.taken c.loop-output.out) (g.K.Sink.taken c.put.new.out) c.loop-output.output.buffer blocks.0 c.step.new.engine owing
          (came_as _ _ _ _ _ blocks.0 inv.order (same.0 ∙ inv.same.0) (same.1 ∙ inv.same.1) blocks.1) blocks.2;
      steps = λ bytes told.
          steps_for_fault t First Has earlier a _ bytes (g.K.Sink.taken c.args.out.now) (g.K.Sink.taken c.loop-output.out) (g.K.Sink.taken c.put.new.out) c.loop-output.output.buffer c.step.new.engine owing
          so_far.counting.rows put.0 begun c.loop-output.steps had mid c.step.new.steps c.put.new.steps _ told (same.0 ∙ inv.same.0) (same.1 ∙ inv.same.1) inv.order
          (rows_as t _ _ _ _ _ _ _ put.0 inv.order (same.0 ∙ inv.same.0) (same.1 ∙ inv.same.1) put.1) so_far.counting.are_rows so_far.counting.lines so_far.counting.bounded (rw c.in-Ok-Event.field-0-is at c.in-Ok-Event.ensures.steps) pays put.2.1 inv.none_waits;
      stands = tt;
    }

pub returns-in-Err-keep_up-clause-ended : goal.returns-in-Err-keep_up-clause-ended
returns-in-Err-keep_up-clause-ended g c = λ peaks earlier begun most_bytes f paid.
    let inv = c.loop-output.invariant in
    let t : Timing = c.args.schedule.now.timing in
    let a : RunRequest = record { order = c.args.output.now.order; schema = c.args.engine.now.schema; queries = c.args.engine.now.queries; most_bytes = most_bytes } in
    let so_far = inv.following peaks earlier begun most_bytes f paid in
    let First : Run = g.E.Events.takes c.args.events.now a.schema a.queries earlier in
    let Takes : Run = g.E.Events.takes c.loop-output.events a.schema a.queries earlier in
    let Had : Given = g.E.Events.gives c.loop-output.events a.schema a.queries earlier (g.Q.Source.left c.loop-output.source) in
    let Has : Given = g.E.Events.gives c.step.new.self a.schema a.queries earlier (g.Q.Source.left c.step.new.source) in
    let Reads : Given = g.E.Events.reads c.loop-output.events a.schema a.queries earlier (g.Q.Source.left c.step.new.source) in
    let Read : Option (List ℕ) → Given = g.E.Events.reads c.args.events.now a.schema a.queries earlier in
    let took = took_as (g.E.Events.gives c.step.new.self) (g.E.Events.gives c.loop-output.events) (g.E.Events.takes c.loop-output.events) (g.E.Events.reads c.loop-output.events) _ a.schema _ a.queries inv.same.0 inv.same.1 earlier (g.Q.Source.left c.loop-output.source) (g.Q.Source.left c.step.new.source) c.loop-output.engine c.step.new.engine (Ok step.Event) ((rw c.in-Ok-Event.field-0-is at c.in-Ok-Event.ensures.took) earlier) so_far.counting.running.events so_far.counting.running.stands in
    let same = c.step.ensures.same in
    let owing = owes First Takes Had Has Reads earlier a (g.Q.Source.left c.args.source.now) (g.K.Sink.taken c.args.out.now) (g.K.Sink.taken c.loop-output.out) c.loop-output.output.buffer c.loop-output.engine c.step.new.engine (inv.lasts earlier) so_far.counting.running took in
    let had : ℕ = saved_by t.every c.loop-output.engine c.loop-output.schedule.bases in
    let mid : ℕ = saved_by t.every c.step.new.engine c.loop-output.schedule.bases in
    let pays = pays_for t.every a c.loop-output.engine c.step.new.engine owing.events owing.next c.loop-output.schedule.bases (same.0 ∙ inv.same.0) (same.1 ∙ inv.same.1) same owing.stands took.3 took.4 in
    let put = c.in-Ok-put.ensures.rows.rows_are _ owing.stands in
    let now : ℕ = c.keep_up.new.steps + saved_by t.every c.keep_up.new.engine c.keep_up.new.self.bases in
    let compacted_is = compacted t a c.loop-output.engine c.step.new.engine c.keep_up.new.engine owing.events owing.next (c.put.new.steps + mid) now (same.0 ∙ inv.same.0) (same.1 ∙ inv.same.1) same c.keep_up.ensures.same
    owing.stands (c.keep_up.ensures.stands _ owing.stands) so_far.counting.few (c.in-Ok-Event.ensures.growth (ap Ok c.in-Ok-Event.field-0-is)) c.keep_up.ensures.fewer (paid_in_time c.loop-output.schedule c.keep_up.new.self t c.step.new.engine c.keep_up.new.engine inv.timing c.put.new.steps c.keep_up.new.steps c.keep_up.ensures.timing c.keep_up.ensures.steps (owing.events ++ owing.next ∷ []) owing.stands)
    (λ most meet. first_meet_fewer _ _ _ _ most meet) in
    let counting = counts_on t First Has earlier a (g.Q.Source.left c.args.source.now) (g.K.Sink.taken c.args.out.now) (g.K.Sink.taken c.loop-output.out) (g.K.Sink.taken c.put.new.out) c.loop-output.output.buffer c.put.new.self.buffer c.step.new.engine c.keep_up.new.engine owing
    so_far.counting.rows put.0 begun c.loop-output.steps had mid c.step.new.steps c.put.new.steps now (same.0 ∙ inv.same.0) (same.1 ∙ inv.same.1)
    (rows_as t _ _ _ _ _ _ _ put.0 inv.order (same.0 ∙ inv.same.0) (same.1 ∙ inv.same.1) put.1) put.2.0 so_far.counting.are_rows so_far.counting.lines so_far.counting.bounded (rw c.in-Ok-Event.field-0-is at c.in-Ok-Event.ensures.steps) put.2.1 pays compacted_is in record {
      wrote =
          ends_wanting First Read Has earlier a (g.Q.Source.left c.args.source.now) (g.Q.Source.left c.step.new.source) (g.K.Sink.taken c.args.out.now) (g.K.Sink.taken c.put.new.out) (g.K.Sink.taken c.finish-in-Err-keep_up.new.out) c.put.new.self.buffer _ _ c.keep_up.new.engine c.finish-in-Err-keep_up.result counting.running c.finish-in-Err-keep_up.ensures.finished;
      steps = λ bytes told.
          steps_for_compaction t First Has earlier a (g.Q.Source.left c.args.source.now) bytes (g.K.Sink.taken c.args.out.now) (g.K.Sink.taken c.put.new.out) (g.K.Sink.taken c.finish-in-Err-keep_up.new.out) c.put.new.self.buffer _ _ c.keep_up.new.engine c.finish-in-Err-keep_up.result begun now c.keep_up.new.steps
          told (omega arith) counting c.finish-in-Err-keep_up.ensures.finished (λ walk. let none = c.put.ensures.walk (inv.order ∙ walk) in (none, c.finish-in-Err-keep_up.ensures.none none));
      stands = none_ok _ _ _ _ _ _ c.finish-in-Err-keep_up.result _ c.finish-in-Err-keep_up.ensures.finished;
    }

-- A write that fails after a line

pub returns-in-Err-settle-clause-ended : goal.returns-in-Err-settle-clause-ended
returns-in-Err-settle-clause-ended g c = λ peaks earlier begun most_bytes f paid.
    let inv = c.loop-output.invariant in
    let t : Timing = c.args.schedule.now.timing in
    let a : RunRequest = record { order = c.args.output.now.order; schema = c.args.engine.now.schema; queries = c.args.engine.now.queries; most_bytes = most_bytes } in
    let so_far = inv.following peaks earlier begun most_bytes f paid in
    let First : Run = g.E.Events.takes c.args.events.now a.schema a.queries earlier in
    let Takes : Run = g.E.Events.takes c.loop-output.events a.schema a.queries earlier in
    let Had : Given = g.E.Events.gives c.loop-output.events a.schema a.queries earlier (g.Q.Source.left c.loop-output.source) in
    let Has : Given = g.E.Events.gives c.step.new.self a.schema a.queries earlier (g.Q.Source.left c.step.new.source) in
    let Reads : Given = g.E.Events.reads c.loop-output.events a.schema a.queries earlier (g.Q.Source.left c.step.new.source) in
    let Read : Option (List ℕ) → Given = g.E.Events.reads c.args.events.now a.schema a.queries earlier in
    let none = rw c.in-Ok-Line.field-0-is at c.in-Ok-Line.ensures.steps in record {
      wrote = ends_held First Had earlier a _ _ _ _ _ c.loop-output.engine so_far.counting.running c.in-Err-settle.ensures.part;
      steps = λ bytes told.
          steps_held t First Had earlier a _ bytes _ _ _ _ c.loop-output.engine begun (c.loop-output.steps + saved_by t.every c.loop-output.engine c.loop-output.schedule.bases) _ told (omega (arith, none)) so_far.counting (λ walk. let ok = c.in-Err-settle.ensures.none (inv.none_waits walk) in cc);
      stands = tt;
    }

pub returns-in-Err-settle-clause-read_cause : goal.returns-in-Err-settle-clause-read_cause
returns-in-Err-settle-clause-read_cause g c = inl (c.in-Ok-Line.ensures.cause ∙ c.loop-output.invariant.read_faults)

pub returns-in-Err-settle-clause-write_cause : goal.returns-in-Err-settle-clause-write_cause
returns-in-Err-settle-clause-write_cause g c =
    let N : ℕ → Type 0 = λ n. Rose n (g.K.Sink.faults c.settle.new.out) in
    subst N c.loop-output.invariant.write_faults c.in-Err-settle.ensures.cause.failed

pub returns-in-Err-clause-read_cause : goal.returns-in-Err-clause-read_cause
returns-in-Err-clause-read_cause g c =
    rw (sym c.loop-output.invariant.read_faults) (read_cause _ _ _ _ _ _ _ c.in-Err.stop c.finish-in-Err.result c.in-Err.ensures.cause (rw c.stream_fault.ensures at c.finish-in-Err.ensures.finished))

pub keep_up-requires : goal.keep_up-requires
keep_up-requires g c =
    let inv = c.loop-output.invariant in
    record { bases = noted_all c.loop-output.schedule.bases c.args.engine.now.queries c.step.new.engine.queries (c.step.ensures.same.1 ∙ inv.same.1) inv.noted }
