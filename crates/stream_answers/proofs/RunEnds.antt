-- How a run ends.
use Rattle.std.proofs.Common.{◌≡◌, ℕ, ◌≤◌, ◌⊎◌, List, [], ◌∷◌, ◌++◌, length, Option, Some, Result, Ok, Err, inl, inr, sym, subst, length-append, arith}
use Rattle.std.specs.Prelude.{OnOk}
use Rattle.cer_base.specs.declared.OrMemory.{OrMemory}
use Rattle.cer_base.specs.declared.OrMemory.TheVariants.{Fault, Memory}
use Rattle.stream_schema.specs.declared.Event.{Event as StreamEvent}
use Rattle.cer_outside.specs.Causes.{Rose}
use Rattle.cer_outside.specs.Bytes.{TookAll, TookPart}
use Rattle.output_laws.specs.After.{IsOutputAfter}
use Rattle.answer_blocks.specs.SinkBytes.{TookPrefix}
use Rattle.query_engine.specs.Engine.{EngineState, StandsFor}
use Rattle.event_run.specs.declared.RunFault.{RunFault}
use Rattle.event_run.specs.declared.RunFault.TheVariants as run
use Rattle.event_run.specs.Runs.{RunStop}
use Rattle.event_run.specs.Runs as stop
use Rattle.event_run.specs.Taking.{HasSourceCause}
use Rattle.stream_answers.specs.declared.StreamFault.{StreamFault}
use Rattle.stream_answers.specs.declared.StreamFault.TheVariants as fault
use Rattle.stream_answers.specs.Windows.{last_of, FollowsWindowsBy}
use Rattle.stream_answers.specs.Schedules.{Timing, due_by, WithNoNumber, KeepsUp}
use Rattle.stream_answers.specs.Gathering.{PassesOn, Running, Finished, stream_fault}
use Rattle.stream_answers.specs.declared.events.Step.{Step}
use Rattle.stream_answers.specs.declared.events.Step.TheVariants as step
use Rattle.stream_answers.specs.Events.{Begins, Lasts, LastsRead, AfterStep}
use Rattle.stream_answers.specs.RunEnds.{ByEnd, HasReadCause}
use Rattle.stream_answers.specs.Streams.{RunRequest, WroteOverFrom, WrotePartBy, StandsForTaken, said_by}
use Rattle.stream_answers.proofs.Portions.{took_both, took_then_part, part_of_more, prefix_of_more, prefix_of_all}
use Rattle.stream_answers.proofs.Wholes.{part_over}
use Rattle.stream_answers.proofs.Running.{Owing, Came, output_with, in_turn}

-- What was held is written, or a write failed: then a part of the answers over the whole file was.
closes : {T : Type 0} (Takes : List ℕ → List StreamEvent → RunStop → Type 0) (Read : Option (List ℕ) → List ℕ → List StreamEvent → Type 0) (from : ℕ) (a : RunRequest) (source left before middle after : Option (List ℕ)) (buffer written : List ℕ) (old new : ℕ) (events : List StreamEvent) (end result : Result T (OrMemory StreamFault)) →
    TookAll before middle written → from ≤ length events → IsOutputAfter from a.order a.schema a.queries events (written ++ buffer) → ((lines : List ℕ) → source ≡ Some lines → Begins Takes lines events) →
    Finished middle after old new buffer end result → (TookAll before after (written ++ buffer) → ByEnd (said_by Takes Read from a source before after) left end) → ByEnd (said_by Takes Read from a source before after) left result
closes {T} Takes Read from a source left before middle after buffer written old new events end result took behind output begins finished well =
    let P : Result T (OrMemory StreamFault) → Type 0 = λ r. ByEnd (said_by Takes Read from a source before after) left r in
    elim finished.way [
      | inl fine ↦ subst P (sym fine.0) (well (took_both before middle after written buffer took fine.1))
      | inr failed ↦
          let part = took_then_part before middle after written buffer took failed.1 in
          subst P (sym failed.0) (part_over Takes from a source events (written ++ buffer) (TookPart before after) behind output begins (λ rest p. part_of_more before after (written ++ buffer) rest p) part)
    ]

-- and where memory ran out, after some of the answers
closes_short : {T : Type 0} (Takes : List ℕ → List StreamEvent → RunStop → Type 0) (Read : Option (List ℕ) → List ℕ → List StreamEvent → Type 0) (from : ℕ) (a : RunRequest) (source left before middle after : Option (List ℕ)) (buffer rest written : List ℕ) (old new : ℕ) (events : List StreamEvent) (result : Result T (OrMemory StreamFault)) →
    TookAll before middle written → from ≤ length events → IsOutputAfter from a.order a.schema a.queries events ((written ++ buffer) ++ rest) → ((lines : List ℕ) → source ≡ Some lines → Begins Takes lines events) →
    Finished middle after old new buffer (Err Memory) result → ByEnd (said_by Takes Read from a source before after) left result
closes_short {T} Takes Read from a source left before middle after buffer rest written old new events result took behind output begins finished =
    let P : Result T (OrMemory StreamFault) → Type 0 = λ r. ByEnd (said_by Takes Read from a source before after) left r in
    elim finished.way [
      | inl fine ↦
          let all = prefix_of_all before after (written ++ buffer) (took_both before middle after written buffer took fine.1) in
          subst P (sym fine.0) (part_over Takes from a source events ((written ++ buffer) ++ rest) (TookPrefix before after) behind output begins (λ more p. prefix_of_more before after ((written ++ buffer) ++ rest) more p) (prefix_of_more before after (written ++ buffer) rest all))
      | inr failed ↦
          let part = took_then_part before middle after written buffer took failed.1 in
          subst P (sym failed.0) (part_over Takes from a source events ((written ++ buffer) ++ rest) (TookPart before after) behind output begins (λ more p. part_of_more before after ((written ++ buffer) ++ rest) more p) (part_of_more before after (written ++ buffer) rest part))
    ]

-- OVER A SOURCE OF EVENTS, which takes of a file what it took at first

-- the run stops
stops : {T : Type 0} (Takes : List ℕ → List StreamEvent → RunStop → Type 0) (Read : Option (List ℕ) → List ℕ → List StreamEvent → Type 0) (Has : List ℕ → List StreamEvent → Type 0) (earlier : List StreamEvent) (a : RunRequest) (source left before middle after : Option (List ℕ)) (buffer : List ℕ) (old new : ℕ) (engine : EngineState) (halt : RunStop) (end result : Result T (OrMemory StreamFault)) →
    (r : Running Takes Has earlier a source before middle buffer engine) → ((lines : List ℕ) → source ≡ Some lines → Takes lines r.events halt) → Finished middle after old new buffer end result →
    (WroteOverFrom (length earlier) a source (λ lines events. Takes lines events halt) before after → ByEnd (said_by Takes Read (length earlier) a source before after) left end) → ByEnd (said_by Takes Read (length earlier) a source before after) left result
stops Takes Read Has earlier a source left before middle after buffer old new engine halt end result r runs finished well =
    closes Takes Read (length earlier) a source left before middle after buffer r.written old new r.events end result r.took r.behind r.output r.begins finished
    (λ all. well (record { events = r.events; bytes = r.written ++ buffer; output = r.output; took = all; are = runs }))

-- memory ran out, and of the answers a first part was written
pub ends_wanting : {T : Type 0} (Takes : List ℕ → List StreamEvent → RunStop → Type 0) (Read : Option (List ℕ) → List ℕ → List StreamEvent → Type 0) (Has : List ℕ → List StreamEvent → Type 0) (earlier : List StreamEvent) (a : RunRequest) (source left before middle after : Option (List ℕ)) (buffer : List ℕ) (old new : ℕ) (engine : EngineState) (result : Result T (OrMemory StreamFault)) →
    (r : Running Takes Has earlier a source before middle buffer engine) → Finished middle after old new buffer (Err Memory) result → ByEnd (said_by Takes Read (length earlier) a source before after) left result
ends_wanting Takes Read Has earlier a source left before middle after buffer old new engine result r finished =
    closes Takes Read (length earlier) a source left before middle after buffer r.written old new r.events (Err Memory) result r.took r.behind r.output r.begins finished
    (λ all. part_over Takes (length earlier) a source r.events (r.written ++ buffer) (TookPrefix before after) r.behind r.output r.begins (λ rest p. prefix_of_more before after (r.written ++ buffer) rest p) (prefix_of_all before after (r.written ++ buffer) all))

pub ends_at_end : {T : Type 0} (First Takes : List ℕ → List StreamEvent → RunStop → Type 0) (Read : Option (List ℕ) → List ℕ → List StreamEvent → Type 0) (Had Has Reads : List ℕ → List StreamEvent → Type 0) (earlier : List StreamEvent) (a : RunRequest) (source left before middle after : Option (List ℕ)) (buffer : List ℕ) (old new : ℕ) (engine now : EngineState) (done : T) (result : Result T (OrMemory StreamFault)) →
    Lasts First Takes → (r : Running First Had earlier a source before middle buffer engine) → AfterStep Had Has Takes Reads engine now r.events (Ok step.End) →
    Finished middle after old new buffer (Ok done) result → ByEnd (said_by First Read (length earlier) a source before after) left result
ends_at_end First Takes Read Had Has Reads earlier a source left before middle after buffer old new engine now done result lasts r took finished =
    stops First Read Had earlier a source left before middle after buffer old new engine stop.End (Ok done) result r (λ lines same. lasts lines r.events stop.End (took lines (r.given lines same))) finished (λ all. all)

pub ends_by : {T : Type 0} (First Takes : List ℕ → List StreamEvent → RunStop → Type 0) (Read : Option (List ℕ) → List ℕ → List StreamEvent → Type 0) (Had Has Reads : List ℕ → List StreamEvent → Type 0) (earlier : List StreamEvent) (a : RunRequest) (source left before middle after : Option (List ℕ)) (buffer : List ℕ) (old new : ℕ) (engine now : EngineState) (why : OrMemory RunFault) (result : Result T (OrMemory StreamFault)) →
    Lasts First Takes → LastsRead (Read left) Reads → (r : Running First Had earlier a source before middle buffer engine) → AfterStep Had Has Takes Reads engine now r.events (Err why) →
    Finished middle after old new buffer (Err (stream_fault why)) result → ByEnd (said_by First Read (length earlier) a source before after) left result
ends_by First Takes Read Had Has Reads earlier a source left before middle after buffer old new engine now Memory result lasts reads r took finished =
    ends_wanting First Read Had earlier a source left before middle after buffer old new engine result r finished
ends_by First Takes Read Had Has Reads earlier a source left before middle after buffer old new engine now (Fault (run.Event line refusal)) result lasts reads r took finished =
    stops First Read Had earlier a source left before middle after buffer old new engine (stop.Event line refusal) (Err (Fault (fault.Event line refusal))) result r (λ lines same. lasts lines r.events (stop.Event line refusal) (took lines (r.given lines same))) finished (λ all. all)
ends_by First Takes Read Had Has Reads earlier a source left before middle after buffer old new engine now (Fault (run.InputTooLong most)) result lasts reads r took finished =
    stops First Read Had earlier a source left before middle after buffer old new engine (stop.InputTooLong most) (Err (Fault (fault.InputTooLong most))) result r (λ lines same. lasts lines r.events (stop.InputTooLong most) (took lines (r.given lines same))) finished (λ all. all)
ends_by First Takes Read Had Has Reads earlier a source left before middle after buffer old new engine now (Fault run.ReadFault) result lasts reads r took finished =
    closes First Read (length earlier) a source left before middle after buffer r.written old new r.events (Err (Fault fault.ReadFault)) result r.took r.behind r.output r.begins finished
    (λ all. record { events = r.events; bytes = r.written ++ buffer; output = r.output; took = all; are = λ lines same. reads lines r.events (took lines (r.given lines same)) })

-- memory ran out while the answers of an event were put
pub ends_for_memory : {T : Type 0} (Takes : List ℕ → List StreamEvent → RunStop → Type 0) (Read : Option (List ℕ) → List ℕ → List StreamEvent → Type 0) (Has : List ℕ → List StreamEvent → Type 0) (earlier : List StreamEvent) (a : RunRequest) (source left before middle later after : Option (List ℕ)) (buffer blocks now : List ℕ) (old new : ℕ) (engine : EngineState) (result : Result T (OrMemory StreamFault)) →
    (o : Owing Takes Has earlier a source before middle buffer engine) → Came a (o.events ++ o.next ∷ []) blocks → (rest : List ℕ) × PassesOn middle later buffer blocks now rest →
    Finished later after old new now (Err Memory) result → ByEnd (said_by Takes Read (length earlier) a source before after) left result
ends_for_memory Takes Read Has earlier a source left before middle later after buffer blocks now old new engine result o came put finished =
    let passed = put.1 in
    let events = o.events ++ o.next ∷ [] in
    let written = o.written ++ passed.written in
    let O : List ℕ → Type 0 = IsOutputAfter (length earlier) a.order a.schema a.queries events in
    let output : O (written ++ now ++ put.0) = subst O (in_turn o.written buffer blocks passed.written now put.0 passed.whole) (output_with earlier a o.events o.next o.written buffer blocks o.behind o.output came) in
    closes_short Takes Read (length earlier) a source left before later after now put.0 written old new events result
    (took_both before middle later o.written passed.written o.took passed.took) (let long = length-append o.events (o.next ∷ []) in let b = o.behind in omega (arith, long, b)) output o.begins finished

-- a write failed while the answers of an event were put
pub ends_for_fault : (Takes : List ℕ → List StreamEvent → RunStop → Type 0) (Has : List ℕ → List StreamEvent → Type 0) (earlier : List StreamEvent) (a : RunRequest) (source before middle after : Option (List ℕ)) (buffer blocks : List ℕ) (engine : EngineState) →
    (o : Owing Takes Has earlier a source before middle buffer engine) → Came a (o.events ++ o.next ∷ []) blocks → TookPart middle after (buffer ++ blocks) → WrotePartBy Takes (length earlier) a source (TookPart before after)
ends_for_fault Takes Has earlier a source before middle after buffer blocks engine o came part =
    part_over Takes (length earlier) a source (o.events ++ o.next ∷ []) (o.written ++ (buffer ++ blocks)) (TookPart before after) (let long = length-append o.events (o.next ∷ []) in let b = o.behind in omega (arith, long, b)) (output_with earlier a o.events o.next o.written buffer blocks o.behind o.output came)
    o.begins (λ rest p. part_of_more before after (o.written ++ (buffer ++ blocks)) rest p) (took_then_part before middle after o.written (buffer ++ blocks) o.took part)

-- a write failed while what was held was written
pub ends_held : (Takes : List ℕ → List StreamEvent → RunStop → Type 0) (Has : List ℕ → List StreamEvent → Type 0) (earlier : List StreamEvent) (a : RunRequest) (source before middle after : Option (List ℕ)) (buffer : List ℕ) (engine : EngineState) →
    (r : Running Takes Has earlier a source before middle buffer engine) → TookPart middle after buffer → WrotePartBy Takes (length earlier) a source (TookPart before after)
ends_held Takes Has earlier a source before middle after buffer engine r part =
    part_over Takes (length earlier) a source r.events (r.written ++ buffer) (TookPart before after) r.behind r.output r.begins (λ rest p. part_of_more before after (r.written ++ buffer) rest p) (took_then_part before middle after r.written buffer r.took part)

-- the engine, where the source has ended
pub stands_at_end : (First Takes : List ℕ → List StreamEvent → RunStop → Type 0) (Had Has Reads : List ℕ → List StreamEvent → Type 0) (earlier : List StreamEvent) (timing : Timing) (peaks : ℕ → ℕ) (a : RunRequest) (source before middle : Option (List ℕ)) (buffer : List ℕ) (engine now : EngineState) →
    Lasts First Takes → (r : Running First Had earlier a source before middle buffer engine) → FollowsWindowsBy (due_by timing) peaks (last_of (due_by timing) (length r.events)) r.events engine → WithNoNumber timing.every (KeepsUp engine r.events) → now ≡ engine →
    AfterStep Had Has Takes Reads engine now r.events (Ok step.End) → (bytes : List ℕ) → source ≡ Some bytes → StandsForTaken First timing peaks bytes now
stands_at_end First Takes Had Has Reads earlier timing peaks a source before middle buffer engine now lasts r windows small kept took bytes told = record {
  events = r.events;
  runs = lasts bytes r.events stop.End (took bytes (r.given bytes told));
  stands = subst (λ (e : EngineState). StandsFor e r.events) (sym kept) r.stands;
  windows = subst (FollowsWindowsBy (due_by timing) peaks (last_of (due_by timing) (length r.events)) r.events) (sym kept) windows;
  keeps_up = subst (λ (e : EngineState). WithNoNumber timing.every (KeepsUp e r.events)) (sym kept) small;
}

-- a fact, where all was well
pub ok_then : {T E : Type 0} (r : Result T E) (P : Type 0) → P → OnOk r P
ok_then (Ok done) P p = p
ok_then (Err why) P p = tt

-- what follows where all was well, from each fact of that case
pub on_end : {T E : Type 0} (r : Result T E) (P : Type 0) → (((Q : Type 0) → OnOk r Q → Q) → P) → OnOk r P
on_end (Ok done) P from = from (λ Q q. q)
on_end (Err why) P from = tt

-- nothing of what was to come after a fault
pub none_ok : {T : Type 0} (middle after : Option (List ℕ)) (old new : ℕ) (buffer : List ℕ) (why : OrMemory StreamFault) (result : Result T (OrMemory StreamFault)) (P : Type 0) → Finished middle after old new buffer (Err why) result → OnOk result P
none_ok {T} middle after old new buffer why result P finished =
    let Q : Result T (OrMemory StreamFault) → Type 0 = λ r. OnOk r P in
    elim finished.way [ inl fine ↦ subst Q (sym fine.0) tt | inr failed ↦ subst Q (sym failed.0) tt ]

-- the source's count, where no further event was taken
pub read_cause : {T : Type 0} (before now : ℕ) (middle after : Option (List ℕ)) (old new : ℕ) (buffer : List ℕ) (why : OrMemory RunFault) (result : Result T (OrMemory StreamFault)) →
    HasSourceCause {T = Step} before now (Err why) → Finished middle after old new buffer (Err (stream_fault why)) result → HasReadCause before now result
read_cause {T} before now middle after old new buffer why result cause finished =
    let P : Result T (OrMemory StreamFault) → Type 0 = λ r. HasReadCause before now r in
    elim finished.way [ inl fine ↦ subst P (sym fine.0) (kept why cause) | inr failed ↦ subst P (sym failed.0) (either why cause) ]
  where
    kept : (w : OrMemory RunFault) → HasSourceCause {T = Step} before now (Err w) → HasReadCause {T = T} before now (Err (stream_fault w))
    kept Memory c = c
    kept (Fault run.ReadFault) c = c
    kept (Fault (run.Event line refusal)) c = c
    kept (Fault (run.InputTooLong most)) c = c

    either : (w : OrMemory RunFault) → HasSourceCause {T = Step} before now (Err w) → (now ≡ before) ⊎ Rose before now
    either Memory c = inl c
    either (Fault run.ReadFault) c = inr c
    either (Fault (run.Event line refusal)) c = inl c
    either (Fault (run.InputTooLong most)) c = inl c
