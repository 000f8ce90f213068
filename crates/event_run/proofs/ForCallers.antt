-- For callers: a run is one thing, every file has one, and the events that were taken so far are those with which it begins.
use Rattle.std.proofs.Common.{◌≡◌, ℕ, ◌+◌, inl, inr, List, [], ◌∷◌, ◌++◌, length, map, Option, Some, None, Result, Ok, Err, refl, sym, ◌∙◌, ap, subst, append_assoc, arith}
use Rattle.std.proofs.lemmas.List.{append-nil}
use Rattle.stream_schema.specs.Types.{Declared}
use Rattle.stream_schema.specs.declared.Event.{Event}
use Rattle.cel_terms.specs.declared.Query.{Query}
use Rattle.ceql_parser.specs.QueryTrees.{query_tree}
use Rattle.event_reader.specs.declared.EventFault.{EventFault}
use Rattle.event_reader.specs.declared.EventFault.TheVariants as event
use Rattle.event_reader.specs.declared.LineFault.{LineFault}
use Rattle.event_reader.specs.Events.{event_of_line}
use Rattle.event_reader.specs.Lines.{file_lines}
use Rattle.query_engine.specs.Clocks.{NoneFallsBack}
use Rattle.event_run.specs.Runs.{RunStop, stop_of, StopsInTime, AfterLine, RunsOn, RunsAfter, RunsTo, AfterGood, AreEventsAfter}
use Rattle.event_run.specs.Runs as runs
use Rattle.event_run.proofs.Alike.{none_as, first_as}
use Rattle.event_run.proofs.FirstFalls.{falls_or_none, not_both, one_first}

-- a run over a line that is this event, none or refused, and those after it
abbrev RunsOver : Declared → List Query → ℕ → List Event → List (List ℕ) → Option LineFault → List Event → RunStop → Result (Option Event) EventFault → Type 0
RunsOver schema queries number before texts fault events stop line =
    AfterLine schema queries number before events stop (RunsOn schema queries (number + 1) before texts fault events stop) (λ next. RunsOn schema queries (number + 1) (before ++ next ∷ []) texts fault events stop) line

abbrev AreEventsOver : Declared → List Query → List Event → List (List ℕ) → List Event → Result (Option Event) EventFault → Type 0
AreEventsOver schema queries before texts events line =
    AfterGood schema queries before (AreEventsAfter schema queries before texts events) (λ next. AreEventsAfter schema queries (before ++ next ∷ []) texts events) line

-- the same stop in time
pub one_time : (schema : Declared) (queries : List Query) (before : List Event) (next : Event) (number : ℕ) (stop halt : RunStop) → StopsInTime schema queries before next number stop → StopsInTime schema queries before next number halt → stop ≡ halt
one_time schema queries before next number stop halt one other =
    let same = one_first schema queries before next one.query other.query one.from other.from one.now other.now one.falls other.falls in
    let q = ap (λ k. runs.Event number (event.TimeBack k one.from one.now)) same.query_is in
    let b = ap (λ k. runs.Event number (event.TimeBack other.query k one.now)) same.before_is in
    let n = ap (λ k. runs.Event number (event.TimeBack other.query other.from k)) same.now_is in
    one.stops ∙ q ∙ b ∙ n ∙ sym other.stops

-- none falls, or one does
pub not_in_time : (schema : Declared) (queries : List Query) (before : List Event) (next : Event) (number : ℕ) (stop : RunStop) → NoneFallsBack schema queries before next → StopsInTime schema queries before next number stop → ⊥
not_in_time schema queries before next number stop none stops = not_both schema queries before next stops.query stops.from stops.now none stops.falls

-- a run is one
pub one_run : (schema : Declared) (queries : List Query) (number : ℕ) (before : List Event) (texts : List (List ℕ)) (fault : Option LineFault) (events again : List Event) (stop halt : RunStop) →
    RunsOn schema queries number before texts fault events stop → RunsOn schema queries number before texts fault again halt → (events ≡ again) × (stop ≡ halt)
one_run schema queries number before [] fault events again stop halt one other = (one.0 ∙ sym other.0, one.1 ∙ sym other.1)
one_run schema queries number before (text ∷ texts) fault events again stop halt one other =
    over (event_of_line schema text) one other (one_run schema queries (number + 1) before texts fault events again stop halt) (λ e. one_run schema queries (number + 1) (before ++ e ∷ []) texts fault events again stop halt)
  where
    over : (line : Result (Option Event) EventFault) → RunsOver schema queries number before texts fault events stop line → RunsOver schema queries number before texts fault again halt line →
        (RunsOn schema queries (number + 1) before texts fault events stop → RunsOn schema queries (number + 1) before texts fault again halt → (events ≡ again) × (stop ≡ halt)) →
        ((e : Event) → RunsOn schema queries (number + 1) (before ++ e ∷ []) texts fault events stop → RunsOn schema queries (number + 1) (before ++ e ∷ []) texts fault again halt → (events ≡ again) × (stop ≡ halt)) →
        (events ≡ again) × (stop ≡ halt)
    over (Ok None) one other skip go = skip one other
    over (Ok (Some next)) (inl a) (inl b) skip go = go next a.1 b.1
    over (Ok (Some next)) (inl a) (inr b) skip go = absurd (not_in_time schema queries before next number halt a.0 b.1)
    over (Ok (Some next)) (inr a) (inl b) skip go = absurd (not_in_time schema queries before next number stop b.0 a.1)
    over (Ok (Some next)) (inr a) (inr b) skip go = (a.0 ∙ sym b.0, one_time schema queries before next number stop halt a.1 b.1)
    over (Err refusal) one other skip go = (one.0 ∙ sym other.0, one.1 ∙ sym other.1)

-- a run of queries is one of others that say the same
same_run : (schema : Declared) (ps qs : List Query) → map query_tree ps ≡ map query_tree qs → (number : ℕ) (before : List Event) (texts : List (List ℕ)) (fault : Option LineFault) (events : List Event) (stop : RunStop) →
    RunsOn schema ps number before texts fault events stop → RunsOn schema qs number before texts fault events stop
same_run schema ps qs same number before [] fault events stop run = run
same_run schema ps qs same number before (text ∷ texts) fault events stop run =
    over (event_of_line schema text) run (same_run schema ps qs same (number + 1) before texts fault events stop) (λ e. same_run schema ps qs same (number + 1) (before ++ e ∷ []) texts fault events stop)
  where
    over : (line : Result (Option Event) EventFault) → RunsOver schema ps number before texts fault events stop line →
        (RunsOn schema ps (number + 1) before texts fault events stop → RunsOn schema qs (number + 1) before texts fault events stop) →
        ((e : Event) → RunsOn schema ps (number + 1) (before ++ e ∷ []) texts fault events stop → RunsOn schema qs (number + 1) (before ++ e ∷ []) texts fault events stop) →
        RunsOver schema qs number before texts fault events stop line
    over (Ok None) run skip go = skip run
    over (Ok (Some next)) (inl a) skip go = inl (none_as schema ps qs before next same a.0, go next a.1)
    over (Ok (Some next)) (inr a) skip go =
        inr (a.0, record { query = a.1.query; from = a.1.from; now = a.1.now; falls = first_as schema ps qs before next a.1.query a.1.from a.1.now same a.1.falls; stops = a.1.stops })
    over (Err refusal) run skip go = run

pub one_run_of_trees : (schema : Declared) (ps qs : List Query) (most_bytes : ℕ) (bytes : List ℕ) (events again : List Event) (stop halt : RunStop) →
    map query_tree ps ≡ map query_tree qs → RunsTo schema ps most_bytes bytes events stop → RunsTo schema qs most_bytes bytes again halt → (events ≡ again) × (stop ≡ halt)
one_run_of_trees schema ps qs most_bytes bytes events again stop halt same one other =
    one_run schema qs 1 [] (file_lines most_bytes bytes).texts (file_lines most_bytes bytes).fault events again stop halt
    (same_run schema ps qs same 1 [] (file_lines most_bytes bytes).texts (file_lines most_bytes bytes).fault events stop one) other

-- and so after other events
pub one_run_after_of_trees : (before : List Event) (schema : Declared) (ps qs : List Query) (most_bytes : ℕ) (bytes : List ℕ) (events again : List Event) (stop halt : RunStop) →
    map query_tree ps ≡ map query_tree qs → RunsAfter before schema ps most_bytes bytes events stop → RunsAfter before schema qs most_bytes bytes again halt → (events ≡ again) × (stop ≡ halt)
one_run_after_of_trees before schema ps qs most_bytes bytes events again stop halt same one other =
    one_run schema qs 1 before (file_lines most_bytes bytes).texts (file_lines most_bytes bytes).fault events again stop halt
    (same_run schema ps qs same 1 before (file_lines most_bytes bytes).texts (file_lines most_bytes bytes).fault events stop one) other

-- Some events and a stop are those of a run, which goes on after the events before.
pub record HasRun (schema : Declared) (queries : List Query) (number : ℕ) (before : List Event) (texts : List (List ℕ)) (fault : Option LineFault) : Type 0 where
  pub more : List Event
  pub stop : RunStop
  pub runs : RunsOn schema queries number before texts fault (before ++ more) stop

-- every file has a run
pub some_run : (schema : Declared) (queries : List Query) (number : ℕ) (before : List Event) (texts : List (List ℕ)) (fault : Option LineFault) → HasRun schema queries number before texts fault
some_run schema queries number before [] fault = record { more = []; stop = stop_of fault; runs = (append-nil before, refl) }
some_run schema queries number before (text ∷ texts) fault =
    over (event_of_line schema text) refl (some_run schema queries (number + 1) before texts fault) (λ e. some_run schema queries (number + 1) (before ++ e ∷ []) texts fault)
  where
    along : (line : Result (Option Event) EventFault) → event_of_line schema text ≡ line → (events : List Event) (stop : RunStop) → RunsOver schema queries number before texts fault events stop line → RunsOver schema queries number before texts fault events stop (event_of_line schema text)
    along line is events stop run = let P : Result (Option Event) EventFault → Type 0 = λ l. RunsOver schema queries number before texts fault events stop l in subst P (sym is) run

    over : (line : Result (Option Event) EventFault) → event_of_line schema text ≡ line → HasRun schema queries (number + 1) before texts fault → ((e : Event) → HasRun schema queries (number + 1) (before ++ e ∷ []) texts fault) →
        HasRun schema queries number before (text ∷ texts) fault
    over (Ok None) is skip go = record { more = skip.more; stop = skip.stop; runs = along (Ok None) is (before ++ skip.more) skip.stop skip.runs }
    over (Err refusal) is skip go = record { more = []; stop = runs.Event number refusal; runs = along (Err refusal) is (before ++ []) (runs.Event number refusal) (append-nil before, refl) }
    over (Ok (Some next)) is skip go =
        elim (falls_or_none schema queries before next) [
          | inl none ↦
              let rest = go next in
              let P : List Event → Type 0 = λ events. RunsOn schema queries (number + 1) (before ++ next ∷ []) texts fault events rest.stop in
              record {
                more = next ∷ rest.more;
                stop = rest.stop;
                runs = along (Ok (Some next)) is (before ++ next ∷ rest.more) rest.stop (inl (none, subst P (append_assoc before (next ∷ []) rest.more) rest.runs));
              }
          | inr some ↦
              let stop = runs.Event number (event.TimeBack some.0.query some.0.before some.0.now) in
              record {
                more = [];
                stop = stop;
                runs = along (Ok (Some next)) is (before ++ []) stop (inr (append-nil before, record { query = some.0.query; from = some.0.before; now = some.0.now; falls = some.1; stops = refl }));
              }
        ]

-- good lines, and then the run over those after them
pub goes_on : (schema : Declared) (queries : List Query) (number : ℕ) (before : List Event) (done texts : List (List ℕ)) (fault : Option LineFault) (events all : List Event) (stop : RunStop) →
    AreEventsAfter schema queries before done events → RunsOn schema queries (number + length done) events texts fault all stop →
    RunsOn schema queries number before (done ++ texts) fault all stop
goes_on schema queries number before [] texts fault events all stop good run =
    let P : List Event → Type 0 = λ e. RunsOn schema queries number e texts fault all stop in
    let N : ℕ → Type 0 = λ n. RunsOn schema queries n events texts fault all stop in
    let none : number + 0 ≡ number = omega arith in
    subst P good (subst N none run)
goes_on schema queries number before (text ∷ done) texts fault events all stop good run =
    over (event_of_line schema text) good (λ w. goes_on schema queries (number + 1) before done texts fault events all stop w moved) (λ e w. goes_on schema queries (number + 1) (before ++ e ∷ []) done texts fault events all stop w moved)
  where
    moved : RunsOn schema queries (number + 1 + length done) events texts fault all stop
    moved = let Q : ℕ → Type 0 = λ n. RunsOn schema queries n events texts fault all stop in
        let at : number + length (text ∷ done) ≡ number + 1 + length done = omega arith in subst Q at run

    over : (line : Result (Option Event) EventFault) → AreEventsOver schema queries before done events line →
        (AreEventsAfter schema queries before done events → RunsOn schema queries (number + 1) before (done ++ texts) fault all stop) →
        ((e : Event) → AreEventsAfter schema queries (before ++ e ∷ []) done events → RunsOn schema queries (number + 1) (before ++ e ∷ []) (done ++ texts) fault all stop) →
        RunsOver schema queries number before (done ++ texts) fault all stop line
    over (Ok None) good skip go = skip good
    over (Ok (Some next)) good skip go = inl (good.0, go next good.1)
    over (Err refusal) good skip go = absurd good

-- one line more that is no event
pub one_empty : (schema : Declared) (queries : List Query) (before : List Event) (done : List (List ℕ)) (events : List Event) (text : List ℕ) → event_of_line schema text ≡ Ok None →
    AreEventsAfter schema queries before done events → AreEventsAfter schema queries before (done ++ text ∷ []) events
one_empty schema queries before [] events text is good =
    let P : Result (Option Event) EventFault → Type 0 = AreEventsOver schema queries before [] events in subst P (sym is) good
one_empty schema queries before (first ∷ done) events text is good =
    over (event_of_line schema first) good (one_empty schema queries before done events text is) (λ e. one_empty schema queries (before ++ e ∷ []) done events text is)
  where
    over : (line : Result (Option Event) EventFault) → AreEventsOver schema queries before done events line →
        (AreEventsAfter schema queries before done events → AreEventsAfter schema queries before (done ++ text ∷ []) events) →
        ((e : Event) → AreEventsAfter schema queries (before ++ e ∷ []) done events → AreEventsAfter schema queries (before ++ e ∷ []) (done ++ text ∷ []) events) →
        AreEventsOver schema queries before (done ++ text ∷ []) events line
    over (Ok None) good skip go = skip good
    over (Ok (Some next)) good skip go = (good.0, go next good.1)
    over (Err refusal) good skip go = good

-- one line more that is an event with which no clock falls
pub one_event : (schema : Declared) (queries : List Query) (before : List Event) (done : List (List ℕ)) (events : List Event) (text : List ℕ) (next : Event) → event_of_line schema text ≡ Ok (Some next) →
    NoneFallsBack schema queries events next → AreEventsAfter schema queries before done events → AreEventsAfter schema queries before (done ++ text ∷ []) (events ++ next ∷ [])
one_event schema queries before [] events text next is none good =
    let P : Result (Option Event) EventFault → Type 0 = AreEventsOver schema queries before [] (events ++ next ∷ []) in
    let N : List Event → Type 0 = λ e. NoneFallsBack schema queries e next in
    subst P (sym is) (subst N good none, ap (λ e. e ++ next ∷ []) good)
one_event schema queries before (first ∷ done) events text next is none good =
    over (event_of_line schema first) good (one_event schema queries before done events text next is none) (λ e. one_event schema queries (before ++ e ∷ []) done events text next is none)
  where
    over : (line : Result (Option Event) EventFault) → AreEventsOver schema queries before done events line →
        (AreEventsAfter schema queries before done events → AreEventsAfter schema queries before (done ++ text ∷ []) (events ++ next ∷ [])) →
        ((e : Event) → AreEventsAfter schema queries (before ++ e ∷ []) done events → AreEventsAfter schema queries (before ++ e ∷ []) (done ++ text ∷ []) (events ++ next ∷ [])) →
        AreEventsOver schema queries before (done ++ text ∷ []) (events ++ next ∷ []) line
    over (Ok None) good skip go = skip good
    over (Ok (Some other)) good skip go = (good.0, go other good.1)
    over (Err refusal) good skip go = good
