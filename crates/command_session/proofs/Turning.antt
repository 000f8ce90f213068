-- How the turns of a script and their cost go on from line to line.
use Rattle.std.proofs.Common.{◌≡◌, ℕ, ◌+◌, ◌≤◌, inl, inr, List, [], ◌∷◌, ◌++◌, length, map, slice_get, Option, Some, None, Result, Ok, Err, refl, sym, ◌∙◌, ap, subst, append_assoc, arith}
use Rattle.std.specs.Prelude.{sum}
use Rattle.std.proofs.lemmas.List.{append-nil}
use Rattle.std.proofs.lemmas.List.Sums.{sum_by-cons}
use Rattle.cer_base.specs.declared.OrMemory.{OrMemory}
use Rattle.cer_base.specs.declared.OrMemory.TheVariants.{Fault, Memory}
use Rattle.cer_outside.specs.Bytes.{TookAll}
use Rattle.stream_schema.specs.Types.{Declared}
use Rattle.stream_schema.specs.declared.Event.{Event}
use Rattle.cel_terms.specs.declared.Query.{Query}
use Rattle.event_reader.specs.declared.EventFault.{EventFault}
use Rattle.event_reader.specs.declared.LineFault.{LineFault}
use Rattle.event_reader.specs.declared.LineFault.TheVariants as unread
use Rattle.event_reader.specs.Lines.{file_lines}
use Rattle.event_reader.specs.LineReaders.{LineReader, HasGiven}
use Rattle.event_run.proofs.Given.{first_given}
use Rattle.query_engine.specs.Counts.{MeetMost, HasFewNodes}
use Rattle.query_engine.specs.Bounds.{update_bound}
use Rattle.query_engine.specs.Engine.{EngineState, StandsFor, SameQueries, found_of, len_of}
use Rattle.query_engine.proofs.Counting.{first_meet_fewer}
use Rattle.query_engine.proofs.FewNodes.{first_has_no_node, event_adds_few}
use Rattle.stream_answers.proofs.Portions.{took_none}
use Rattle.stream_answers.specs.declared.StreamFault.{StreamFault}
use Rattle.stream_answers.specs.declared.StreamFault.TheVariants as fault
use Rattle.stream_answers.specs.Streams.{EventsRequest}
use Rattle.command_session.specs.declared.command.ScriptCommand.{ScriptCommand}
use Rattle.command_session.specs.declared.command.ScriptCommand.TheVariants as command
use Rattle.command_session.specs.SessionModel.{SessionModel, at_first, IsStep}
use Rattle.command_session.specs.Sessions.{Session, Stands, EngineEnded, put_by_in}
use Rattle.command_session.specs.CommandSteps.{events_with, command_cost}
use Rattle.command_session.specs.Scripts.{asked_by}
use Rattle.command_session.specs.Turns.{Turn, turns_cost, line_events, line_cost, AfterTurn, AreTurns, CountsTurns, CountsBegun, TookFirst, StepsOverPlay}
use Rattle.command_session.proofs.ScriptEnds.{begun, goes_further}
use Rattle.command_session.specs.Playing.{IsGood, WentOn, LineEnded, LineMade, LineCosts, NoStepIfRefused, HasTurns, Counting, turns_with, line_stop}

-- THE TURNS

-- good lines, the first of which has this command or none
abbrev AreTurnsOver : Declared → List Query → SessionModel → List ℕ → List (List ℕ) → List Turn → SessionModel → List ℕ → Result (Option ScriptCommand) EventFault → Type 0
AreTurnsOver schema queries old before texts turns new bytes line =
    AfterTurn schema queries old turns (AreTurns schema queries old before texts turns new bytes) (λ later next own. AreTurns schema queries next (before ++ own) texts later new bytes) line

-- one good line alone
one_turn : (schema : Declared) (queries : List Query) (old new : SessionModel) (before written text : List ℕ) (next : SessionModel) (own : List ℕ) → new ≡ old → written ≡ before →
    IsGood schema queries text new next own → AreTurns schema queries old before (text ∷ []) (turns_with [] new (asked_by schema text)) next (written ++ own)
one_turn schema queries old new before written text next own same bytes (inl none) =
    let P : Result (Option ScriptCommand) EventFault → Type 0 = λ line. AreTurnsOver schema queries old before [] (turns_with [] new line) next (written ++ own) line in
    subst P (sym none.0) (refl, none.1 ∙ same, ap (λ o. written ++ o) none.2 ∙ append-nil written ∙ bytes)
one_turn schema queries old new before written text next own same bytes (inr some) =
    let P : Result (Option ScriptCommand) EventFault → Type 0 = λ line. AreTurnsOver schema queries old before [] (turns_with [] new line) next (written ++ own) line in
    let S : SessionModel → Type 0 = λ m. IsStep schema queries some.0 m next own in
    let T : SessionModel → List Turn = λ m. record { asked = some.0; found = m } ∷ [] in
    subst P (sym some.1) (record {
      later = [];
      first = ap T same;
      follows = record { next = next; own = own; step = subst S same some.2; follows = (refl, refl, ap (λ w. w ++ own) bytes) };
    })

-- the turn of a line after others
with_first : (turns later : List Turn) (one : Turn) (machine : SessionModel) (line : Result (Option ScriptCommand) EventFault) → turns ≡ one ∷ later → turns_with turns machine line ≡ one ∷ turns_with later machine line
with_first turns later one machine (Ok (Some asked)) is = ap (λ (ts : List Turn). ts ++ record { asked = asked; found = machine } ∷ []) is
with_first turns later one machine (Ok None) is = is
with_first turns later one machine (Err refused) is = is

-- one good line more
turn_more : (schema : Declared) (queries : List Query) (old : SessionModel) (before : List ℕ) (done : List (List ℕ)) (turns : List Turn) (new : SessionModel) (written text : List ℕ) (next : SessionModel) (own : List ℕ) →
    IsGood schema queries text new next own → AreTurns schema queries old before done turns new written → AreTurns schema queries old before (done ++ text ∷ []) (turns_with turns new (asked_by schema text)) next (written ++ own)
turn_more schema queries old before [] turns new written text next own good are =
    let P : List Turn → Type 0 = λ ts. AreTurns schema queries old before (text ∷ []) (turns_with ts new (asked_by schema text)) next (written ++ own) in
    subst P (sym are.0) (one_turn schema queries old new before written text next own are.1 are.2 good)
turn_more schema queries old before (first ∷ done) turns new written text next own good are =
    over (asked_by schema first) are (turn_more schema queries old before done turns new written text next own good)
    (λ later m o. turn_more schema queries m (before ++ o) done later new written text next own good)
  where
    over : (line : Result (Option ScriptCommand) EventFault) → AreTurnsOver schema queries old before done turns new written line →
        (AreTurns schema queries old before done turns new written → AreTurns schema queries old before (done ++ text ∷ []) (turns_with turns new (asked_by schema text)) next (written ++ own)) →
        ((later : List Turn) (m : SessionModel) (o : List ℕ) → AreTurns schema queries m (before ++ o) done later new written →
        AreTurns schema queries m (before ++ o) (done ++ text ∷ []) (turns_with later new (asked_by schema text)) next (written ++ own)) →
        AreTurnsOver schema queries old before (done ++ text ∷ []) (turns_with turns new (asked_by schema text)) next (written ++ own) line
    over (Ok None) are skip go = skip are
    over (Ok (Some asked)) are skip go = record {
      later = turns_with are.later new (asked_by schema text);
      first = with_first turns are.later (record { asked = asked; found = old }) new (asked_by schema text) are.first;
      follows = record { next = are.follows.next; own = are.follows.own; step = are.follows.step; follows = go are.later are.follows.next are.follows.own are.follows.follows };
    }
    over (Err refused) are skip go = are

-- THEIR COST

abbrev cost : ℕ → (ℕ → ℕ) → Turn → ℕ
cost queries most turn = command_cost queries most turn.asked turn.found

sum_cons : (n : ℕ) (ns : List ℕ) → sum (n ∷ ns) ≡ n + sum ns
sum_cons n ns = sum_by-cons (λ (n : ℕ). n) n ns

cost_more : (queries : ℕ) (most : ℕ → ℕ) (turns : List Turn) (one : Turn) → turns_cost queries most (turns ++ one ∷ []) ≡ turns_cost queries most turns + cost queries most one
cost_more queries most [] one = omega (arith, sum_cons (cost queries most one) [])
cost_more queries most (t ∷ turns) one =
    let rest = cost_more queries most turns one in
    omega (arith, rest, sum_cons (cost queries most t) (map (cost queries most) turns), sum_cons (cost queries most t) (map (cost queries most) (turns ++ one ∷ [])))

cost_with : (queries : ℕ) (most : ℕ → ℕ) (turns : List Turn) (machine : SessionModel) (line : Result (Option ScriptCommand) EventFault) →
    turns_cost queries most (turns_with turns machine line) ≡ turns_cost queries most turns + line_cost queries most machine line
cost_with queries most turns machine (Ok (Some asked)) = cost_more queries most turns (record { asked = asked; found = machine })
cost_with queries most turns machine (Ok None) = omega arith
cost_with queries most turns machine (Err refused) = omega arith

-- THE EVENTS AND THE NODES

step_events : (schema : Declared) (queries : List Query) (asked : ScriptCommand) (old next : SessionModel) (own : List ℕ) → IsStep schema queries asked old next own → next.events ≡ events_with asked old
step_events schema queries (command.Event event) old next own step = ap (λ (m : SessionModel). m.events) step.after
step_events schema queries (command.OpenAt query cursor) old next own step = ap (λ (m : SessionModel). m.events) step.after
step_events schema queries (command.Pull cursor n) old next own step = ap (λ (m : SessionModel). m.events) step.after
step_events schema queries (command.Drop cursor) old next own step = ap (λ (m : SessionModel). m.events) step.after
step_events schema queries command.Compact old next own step = ap (λ (m : SessionModel). m.events) step.0

next_events : (schema : Declared) (queries : List Query) (text : List ℕ) (old next : SessionModel) (own : List ℕ) → IsGood schema queries text old next own → next.events ≡ line_events old (asked_by schema text)
next_events schema queries text old next own (inl none) =
    let P : Result (Option ScriptCommand) EventFault → Type 0 = λ line. next.events ≡ line_events old line in
    subst P (sym none.0) (ap (λ (m : SessionModel). m.events) none.1)
next_events schema queries text old next own (inr some) =
    let P : Result (Option ScriptCommand) EventFault → Type 0 = λ line. next.events ≡ line_events old line in
    subst P (sym some.1) (step_events schema queries some.0 old next own some.2)

-- the runs over the events so far meet no more
meet_so_far : (schema : Declared) (queries : List Query) (asked : ScriptCommand) (old : SessionModel) (most : ℕ → ℕ) → MeetMost schema queries (events_with asked old) most → MeetMost schema queries old.events most
meet_so_far schema queries (command.Event event) old most meet = first_meet_fewer schema queries old.events (event ∷ []) most meet
meet_so_far schema queries (command.OpenAt query cursor) old most meet = meet
meet_so_far schema queries (command.Pull cursor n) old most meet = meet
meet_so_far schema queries (command.Drop cursor) old most meet = meet
meet_so_far schema queries command.Compact old most meet = meet

pub meet_before : (schema : Declared) (queries : List Query) (line : Result (Option ScriptCommand) EventFault) (old : SessionModel) (most : ℕ → ℕ) → MeetMost schema queries (line_events old line) most → MeetMost schema queries old.events most
meet_before schema queries (Ok (Some asked)) old most meet = meet_so_far schema queries asked old most meet
meet_before schema queries (Ok None) old most meet = meet
meet_before schema queries (Err refused) old most meet = meet

-- an engine that is as it was, and one that has no more nodes
few_same : (e f : EngineState) (n : ℕ) (most : ℕ → ℕ) → f ≡ e → HasFewNodes e n most → HasFewNodes f n most
few_same e f n most same few = let P : EngineState → Type 0 = λ s. HasFewNodes s n most in subst P (sym same) few

few_fewer : (e f : EngineState) (n : ℕ) (most : ℕ → ℕ) → SameQueries e f → ((query : ℕ) → len_of f query ≤ len_of e query) → HasFewNodes e n most → HasFewNodes f n most
few_fewer e f n most same fewer few k q at =
    let before = few k q (subst (λ (qs : List Query). slice_get qs k ≡ Some q) same.1 at) in
    omega (arith, before, fewer (k + 1))

few_after : (asked : ScriptCommand) (old : SessionModel) (e : EngineState) (new : Session) (most : ℕ → ℕ) → SameQueries e new.engine → StandsFor new.engine (events_with asked old) → MeetMost e.schema e.queries (events_with asked old) most →
    EngineEnded asked e new (Ok tt) → HasFewNodes e (length old.events) most → HasFewNodes new.engine (length (events_with asked old)) most
few_after (command.Event event) old e new most same stands meet made few =
    let all = old.events ++ event ∷ [] in
    let D : Declared → Type 0 = λ x. MeetMost x e.queries all most in
    let Q : List Query → Type 0 = λ qs. MeetMost new.engine.schema qs all most in
    let met : MeetMost new.engine.schema new.engine.queries all most = subst Q (sym same.1) (subst D (sym same.0) meet) in
    let grown : (query : ℕ) → len_of new.engine query ≤ len_of e query + update_bound (found_of new.engine query) = λ query. (
    let added = made.taken.added.growth query in
    let states = ap update_bound (made.tended.found query) in
    omega (arith, added, states, made.tended.fewer query)
    ) in
    event_adds_few e new.engine old.events event most same stands met grown few
few_after (command.OpenAt query cursor) old e new most same stands meet made few = few_same e new.engine (length old.events) most made few
few_after (command.Pull cursor n) old e new most same stands meet made few = few_same e new.engine (length old.events) most made few
few_after (command.Drop cursor) old e new most same stands meet made few = few_same e new.engine (length old.events) most made few
few_after command.Compact old e new most same stands meet made few = few_fewer e new.engine (length old.events) most same made.fewer few

-- after a line
few_line : (line : Result (Option ScriptCommand) EventFault) (old : SessionModel) (e : EngineState) (new : Session) (most : ℕ → ℕ) → SameQueries e new.engine → StandsFor new.engine (line_events old line) → MeetMost e.schema e.queries (line_events old line) most →
    LineMade e new line → HasFewNodes e (length old.events) most → HasFewNodes new.engine (length (line_events old line)) most
few_line (Ok (Some asked)) old e new most same stands meet made few = few_after asked old e new most same stands meet made few
few_line (Ok None) old e new most same stands meet made few = few_same e new.engine (length old.events) most made few
few_line (Err refused) old e new most same stands meet made few = absurd made

-- FROM LINE TO LINE

pub counting_begun : (schema : Declared) (queries : List Query) (reader : LineReader) (source taken : Option (List ℕ)) (session : Session) (steps : ℕ) → Stands session at_first → put_by_in session ≡ 0 →
    ((script : List ℕ) → HasGiven reader script (Some script) []) → Counting schema queries source reader source taken taken session steps steps
counting_begun schema queries reader source taken session steps stands nothing given = record {
  goes = begun schema queries reader source taken session stands given;
  turns = [];
  are = λ script same. let P : Option (List ℕ) → Type 0 = λ l. HasTurns schema queries reader script l [] at_first [] in
      subst P (sym same) (record { texts = []; given = given script; are = (refl, refl, refl) });
  bounded = λ most meet. omega (arith, nothing);
  few = λ most meet. first_has_no_node session.engine most stands.events;
}

pub counting_further : (schema : Declared) (queries : List Query) (source : Option (List ℕ)) (old new : LineReader) (had left before middle after : Option (List ℕ)) (session now : Session) (text : List ℕ) (first here later : ℕ) → text ≡ new.text →
    session.engine.schema ≡ schema → session.engine.queries ≡ queries → SameQueries session.engine now.engine →
    ((script : List ℕ) (texts : List (List ℕ)) → HasGiven old script had texts → HasGiven new script left (texts ++ new.text ∷ [])) → (c : Counting schema queries source old had before middle session first here) →
    WentOn schema queries text c.goes.machine now middle after → LineMade session.engine now (asked_by schema text) → LineCosts schema queries session.engine c.goes.machine (here + put_by_in session) (later + put_by_in now) (asked_by schema text) →
    Counting schema queries source new left before after now first later
counting_further schema queries source old new had left before middle after session now text first here later read one other same gives c went made costs =
    let m = c.goes.machine in
    let line = asked_by schema text in
    let events : went.next.events ≡ line_events m line = next_events schema queries text m went.next went.own went.good in
    let Meet : (ℕ → ℕ) → List Event → Type 0 = λ most es. MeetMost schema queries es most in
    let Own : Declared → List Query → (ℕ → ℕ) → Type 0 = λ d qs most. MeetMost d qs (line_events m line) most in
    record {
      goes = goes_further schema queries source old new had left before middle after session now text read gives c.goes went;
      turns = turns_with c.turns m line;
      are = λ script told.
          let t = c.are script told in
          record {
            texts = t.texts ++ new.text ∷ [];
            given = gives script t.texts t.given;
            are =
                let G : List ℕ → Type 0 = λ x. AreTurns schema queries at_first [] (t.texts ++ x ∷ []) (turns_with c.turns m line) went.next (c.goes.bytes ++ went.own) in
                subst G read (turn_more schema queries at_first [] t.texts c.turns m c.goes.bytes text went.next went.own went.good t.are);
          };
      bounded = λ most meet.
          let met : MeetMost schema queries (line_events m line) most = subst (Meet most) events meet in
          let so_far = meet_before schema queries line m most met in
          let whole = c.bounded most so_far in
          let mine = costs most met (c.few most so_far) in
          let sum_is = cost_with (length queries) most c.turns m line in
          omega (arith, whole, mine, sum_is);
      few = λ most meet.
          let met : MeetMost schema queries (line_events m line) most = subst (Meet most) events meet in
          let D : Declared → Type 0 = λ d. Own d queries most in
          let Q : List Query → Type 0 = λ qs. Own session.engine.schema qs most in
          let engine_met : Own session.engine.schema session.engine.queries most = subst Q (sym other) (subst D (sym one) met) in
          let S : List Event → Type 0 = λ es. StandsFor now.engine es in
          let N : List Event → Type 0 = λ es. HasFewNodes now.engine (length es) most in
          subst N (sym events) (few_line line m session.engine now most same (subst S events went.stands.events) engine_met made (c.few most (meet_before schema queries line m most met)));
    }

-- THE SCRIPT ENDS

-- with no line begun
pub counted : (a : EventsRequest) (source : Option (List ℕ)) (reader : LineReader) (left before after : Option (List ℕ)) (session : Session) (first now : ℕ) → reader.budget ≡ a.most_bytes →
    Counting a.schema a.queries source reader left before after session first now → (script : List ℕ) → source ≡ Some script → CountsTurns a script (TookAll before after) first now
counted a source reader left before after session first now budget c script told =
    let t = c.are script told in
    let f = first_given reader script left t.texts t.given in
    record {
      texts = t.texts;
      later = f.later;
      first = subst (λ n. (file_lines n script).texts ≡ t.texts ++ f.later) budget f.whole;
      turns = c.turns;
      machine = c.goes.machine;
      bytes = c.goes.bytes;
      are = t.are;
      took = c.goes.took;
      bounded = λ most meet. (let whole = c.bounded most meet in omega (arith, whole));
    }

-- in the line that was given last
pub counted_begun : (a : EventsRequest) (source : Option (List ℕ)) (old new : LineReader) (had left before middle : Option (List ℕ)) (session : Session) (text : List ℕ) (first here now kept : ℕ) → new.budget ≡ a.most_bytes → text ≡ new.text →
    ((script : List ℕ) (texts : List (List ℕ)) → HasGiven old script had texts → HasGiven new script left (texts ++ new.text ∷ [])) → (c : Counting a.schema a.queries source old had before middle session first here) →
    LineCosts a.schema a.queries session.engine c.goes.machine (here + put_by_in session) (now + kept) (asked_by a.schema text) → (script : List ℕ) → source ≡ Some script → CountsBegun a script (TookFirst before) first now
counted_begun a source old new had left before middle session text first here now kept budget read gives c costs script told =
    let t = c.are script told in
    let f = first_given new script left (t.texts ++ new.text ∷ []) (gives script t.texts t.given) in
    let m = c.goes.machine in
    let whole : (file_lines new.budget script).texts ≡ t.texts ++ new.text ∷ f.later = f.whole ∙ append_assoc t.texts (new.text ∷ []) f.later in
    let W : List ℕ → Type 0 = λ x. (file_lines a.most_bytes script).texts ≡ t.texts ++ x ∷ f.later in
    record {
      texts = t.texts;
      text = text;
      later = f.later;
      first = subst W (sym read) (subst (λ n. (file_lines n script).texts ≡ t.texts ++ new.text ∷ f.later) budget whole);
      turns = c.turns;
      machine = m;
      bytes = c.goes.bytes;
      are = t.are;
      took = (middle, c.goes.took);
      bounded = λ most meet.
          let so_far = meet_before a.schema a.queries (asked_by a.schema text) m most meet in
          let done = c.bounded most so_far in
          let mine = costs most meet (c.few most so_far) in
          omega (arith, done, mine);
    }

-- nothing was begun, and memory ran out
pub counted_none : (a : EventsRequest) (source taken : Option (List ℕ)) (steps : ℕ) (script : List ℕ) → source ≡ Some script → StepsOverPlay a script taken taken steps steps {T = Unit {0}} (Err Memory)
counted_none a source taken steps script told = inl (record {
  texts = [];
  later = (file_lines a.most_bytes script).texts;
  first = refl;
  turns = [];
  machine = at_first;
  bytes = [];
  are = (refl, refl, refl);
  took = took_none taken;
  bounded = λ most meet. omega arith;
})

-- there is no further line
pub stop_counts : (a : EventsRequest) (source : Option (List ℕ)) (reader : LineReader) (left before after : Option (List ℕ)) (session : Session) (first now : ℕ) (why : LineFault) → reader.budget ≡ a.most_bytes →
    Counting a.schema a.queries source reader left before after session first now → (script : List ℕ) → source ≡ Some script → StepsOverPlay a script before after first now {T = Unit {0}} (Err (Fault (line_stop why)))
stop_counts a source reader left before after session first now unread.ReadFault budget c = counted a source reader left before after session first now budget c
stop_counts a source reader left before after session first now (unread.LineTooLong number) budget c = counted a source reader left before after session first now budget c
stop_counts a source reader left before after session first now (unread.InputTooLong taken) budget c = counted a source reader left before after session first now budget c

-- the line that was given last ended the script
pub line_counts : (a : EventsRequest) (source : Option (List ℕ)) (old new : LineReader) (had left before middle after : Option (List ℕ)) (session ended : Session) (why : OrMemory StreamFault) (number : ℕ) (text : List ℕ) (first here now : ℕ) →
    new.budget ≡ a.most_bytes → old.budget ≡ a.most_bytes → text ≡ new.text →
    ((script : List ℕ) (texts : List (List ℕ)) → HasGiven old script had texts → HasGiven new script left (texts ++ new.text ∷ [])) → (c : Counting a.schema a.queries source old had before middle session first here) →
    LineEnded a.schema a.queries number text c.goes.machine ended middle after (Err why) → NoStepIfRefused here now (Err why) → LineCosts a.schema a.queries session.engine c.goes.machine (here + put_by_in session) (now + put_by_in ended) (asked_by a.schema text) →
    (script : List ℕ) → source ≡ Some script → StepsOverPlay a script before after first now {T = Unit {0}} (Err why)
line_counts a source old new had left before middle after session ended (Fault (fault.Event at refused)) number text first here now budget same read gives c end none costs =
    let all : (script : List ℕ) → source ≡ Some script → CountsTurns a script (TookAll before middle) first here = counted a source old had before middle session first here same c in
    let S : ℕ → Type 0 = λ n. (script : List ℕ) → source ≡ Some script → CountsTurns a script (TookAll before after) first n in
    let W : Option (List ℕ) → Type 0 = λ w. (script : List ℕ) → source ≡ Some script → CountsTurns a script (TookAll before w) first here in
    subst S (sym none) (subst W (sym end.1) all)
line_counts a source old new had left before middle after session ended (Fault fault.WriteFault) number text first here now budget same read gives c end none costs =
    counted_begun a source old new had left before middle session text first here now (put_by_in ended) budget read gives c costs
line_counts a source old new had left before middle after session ended (Fault (fault.InputTooLong taken)) number text first here now budget same read gives c end none costs = absurd end
line_counts a source old new had left before middle after session ended (Fault fault.ReadFault) number text first here now budget same read gives c end none costs = absurd end
line_counts a source old new had left before middle after session ended Memory number text first here now budget same read gives c end none costs =
    λ script told. inr (counted_begun a source old new had left before middle session text first here now (put_by_in ended) budget read gives c costs script told)

-- OVER THE SESSION'S OWN SCHEMA AND QUERIES

pub made_as : (schema has : Declared) (text : List ℕ) (engine : EngineState) (new : Session) → has ≡ schema → LineMade engine new (asked_by has text) → LineMade engine new (asked_by schema text)
made_as schema has text engine new same made = let P : Declared → Type 0 = λ d. LineMade engine new (asked_by d text) in subst P same made

pub costs_as : (schema has : Declared) (queries own : List Query) (text : List ℕ) (engine : EngineState) (machine : SessionModel) (before after : ℕ) → has ≡ schema → own ≡ queries →
    LineCosts has own engine machine before after (asked_by has text) → LineCosts schema queries engine machine before after (asked_by schema text)
costs_as schema has queries own text engine machine before after one other costs =
    let D : Declared → Type 0 = λ d. LineCosts d own engine machine before after (asked_by d text) in
    let Q : List Query → Type 0 = λ qs. LineCosts schema qs engine machine before after (asked_by schema text) in
    subst Q other (subst D one costs)
