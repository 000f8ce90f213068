-- What each command makes of a session that is a model.
use Rattle.std.proofs.Common.{◌≡◌, ℕ, ◌+◌, ◌-◌, ◌==◌, ◌<◌, ◌≤◌, ◌⊎◌, inl, inr, ℤ, Bool, true, false, List, [], ◌∷◌, ◌++◌, length, map, take, drop, position, remove, get_or, slice_get, slice_set, Option, Some, None, Ok, Err, refl, sym, ◌∙◌, ap, ap₂, subst, arith}
use Rattle.std.specs.Prelude.{is_some}
use Rattle.std.proofs.lemmas.List.{length-set, length-append}
use Rattle.std.proofs.lemmas.List.Elements.{All-append, All-nil, All-cons, All-set}
use Rattle.std.proofs.lemmas.List.Quantifiers.{position-Some}
use Rattle.std.proofs.lemmas.Option.{slice_get_cases}
use Rattle.cer_base.specs.declared.OrMemory.{OrMemory}
use Rattle.cer_base.specs.declared.OrMemory.TheVariants as or
use Rattle.cer_outside.specs.Bytes.{TookAll}
use Rattle.cer_outside.specs.declared.WriteFault.{WriteFault as Failure}
use Rattle.stream_schema.specs.declared.Event.{Event}
use Rattle.cel_terms.specs.declared.Query.{Query}
use Rattle.cel_terms.specs.Answers.{Answer, AreAnswersAt}
use Rattle.query_engine.specs.Clocks.{NoneFallsBack, IsFirstToFall}
use Rattle.query_engine.specs.declared.sizes.Size.{Size}
use Rattle.query_engine.specs.Engine.{EngineState, Open, StandsFor, Fits, rest, count_of, KeepsCursors, update_bounds}
use Rattle.query_engine.specs.Windows.{HasAdded}
use Rattle.query_engine.specs.Keys.{HasAddedKeys}
use Rattle.query_engine.specs.Engine as engines
use Rattle.query_engine.specs.Sizes.{put_by}
use Rattle.query_engine.specs.Holding.{answer_of}
use Rattle.answer_blocks.specs.RowSteps.{delays}
use Rattle.answer_blocks.specs.SinkBytes.{TookPrefix, TookBy}
use Rattle.answer_blocks.proofs.Writing.{took_none}
use Rattle.command_session.specs.declared.command.ScriptCommand.{ScriptCommand}
use Rattle.command_session.specs.declared.command.ScriptCommand.TheVariants as command
use Rattle.command_session.specs.declared.session.RunFault.{RunFault}
use Rattle.command_session.specs.declared.session.RunFault.TheVariants.{Memory}
use Rattle.command_session.specs.declared.opened.CursorNumber.{CursorNumber}
use Rattle.command_session.specs.SessionModel.{SessionModel, OpenCursor, IsStep, cursor_place, position_line, has_number, pull_text, EventStep, PullStep}
use Rattle.command_session.specs.Sessions.{Session, Stands, Ended, Broke, Writes, IsUnchanged, IsKept, HasTaken, IsTended, HasCompacted, IsAddedTo, TakingIsWithin, put_by_in, UnlessRefused, as_run_fault, pull_bound, cursor_seen, cursors_seen, left_of}
use Rattle.command_session.proofs.Seen.{fits_kept, seen_kept, fits_held, seen_held, place_seen, seen_at, seen_set, seen_more, seen_fewer}

-- a session, by its parts
abbrev pub session : EngineState → List CursorNumber → List Open → Bool → List Size → Session
session engine opened cursors closed bases = record { engine = engine; opened = opened; cursors = cursors; closed = closed; bases = bases }

pub stands_count : (e : EngineState) (events : List Event) → StandsFor e events → count_of e ≡ length events
unfolding StandsFor count_of
stands_count e events stands = stands.count

-- HOW A COMMAND ENDS

-- The bytes of a step were not written whole.
pub broke : (command : ScriptCommand) (s : Session) (machine next : SessionModel) (new : Session) (before after : Option (List ℕ)) (bytes : List ℕ) (stop : OrMemory Failure) (fault : RunFault) →
    Writes command → (Broke s.engine.schema s.engine.queries command machine new (TookPrefix before after) → Ended command s machine new before after (Err Memory)) →
    fault ≡ as_run_fault stop → IsStep s.engine.schema s.engine.queries command machine next bytes → new.closed ≡ true → TookBy {T = Unit {0}} before after bytes (Err stop) →
    Ended command s machine new before after (Err fault)
broke command s machine next new before after bytes (or.Fault f) fault writes wanting is step closed took =
    subst (λ (x : RunFault). Ended command s machine new before after (Err x)) (sym is) (writes, record { next = next; bytes = bytes; step = step; closed = closed; took = took })
broke command s machine next new before after bytes or.Memory fault writes wanting is step closed took =
    subst (λ (x : RunFault). Ended command s machine new before after (Err x)) (sym is) (wanting (record { next = next; bytes = bytes; step = step; closed = closed; took = took }))

-- Nothing has changed.
pub unchanged : (s new : Session) (taken : Option (List ℕ)) → new ≡ s → IsUnchanged s new taken taken
unchanged s new taken same = record { session = same; written = refl }

-- The parts stay.
pub same_parts : (e f : EngineState) (os : List CursorNumber) (cs cs2 : List Open) (d : Bool) (bs : List Size) (s : Session) → session e os cs d bs ≡ s → f ≡ e → cs2 ≡ cs → session f os cs2 d bs ≡ s
same_parts e f os cs cs2 d bs s view engine cursors = ap₂ (λ (x : EngineState) (y : List Open). session x os y d bs) engine cursors ∙ view

-- EVENTS

pub fell : (e f : EngineState) (os : List CursorNumber) (cs : List Open) (d : Bool) (bs : List Size) (s : Session) (machine : SessionModel) (event : Event) (number : ℕ) (before now : ℤ) (taken : Option (List ℕ)) →
    session e os cs d bs ≡ s → f ≡ e → ((events : List Event) → StandsFor e events → IsFirstToFall e.schema e.queries events event number before now) → Stands s machine →
    IsFirstToFall s.engine.schema s.engine.queries machine.events event number before now × IsUnchanged s (session f os cs d bs) taken taken
fell e f os cs d bs s machine event number before now taken view engine falls stands =
    let P : Session → Type 0 = λ t. Stands t machine → IsFirstToFall t.engine.schema t.engine.queries machine.events event number before now in
    (subst P view (λ stands. falls machine.events stands.events) stands, unchanged s (session f os cs d bs) taken (same_parts e f os cs cs d bs s view engine refl))

pub event_step : (s : Session) (machine : SessionModel) (event : Event) (place : ℕ) → Stands s machine → place ≡ count_of s.engine →
    ((events : List Event) → StandsFor s.engine events → NoneFallsBack s.engine.schema s.engine.queries events event) →
    EventStep s.engine.schema s.engine.queries event machine (record machine { events = machine.events ++ event ∷ [] }) (position_line place)
event_step s machine event place stands is in_time = record {
  in_time = in_time machine.events stands.events;
  after = refl;
  written = ap position_line (is ∙ stands_count s.engine machine.events stands.events);
}

pub went_event : (e f : EngineState) (os : List CursorNumber) (cs : List Open) (d : Bool) (bs : List Size) (s : Session) (machine : SessionModel) (event : Event) (place : ℕ) (before after : Option (List ℕ)) →
    session e os cs d bs ≡ s → IsKept e os cs → s.closed ≡ false → place ≡ count_of e →
    ((events : List Event) → StandsFor e events → StandsFor f (events ++ event ∷ [])) → KeepsCursors e f →
    ((events : List Event) → StandsFor e events → NoneFallsBack e.schema e.queries events event) → TookAll before after (position_line place) →
    Stands s machine → Ended (command.Event event) s machine (session f os cs d bs) before after (Ok tt)
went_event e f os cs d bs s machine event place before after view kept going is stood keeps in_time took stands =
    let P : Session → Type 0 = λ t. t.closed ≡ false → Stands t machine → Ended (command.Event event) t machine (session f os cs d bs) before after (Ok tt) in
    subst P view (λ going stands. record {
      next = record machine { events = machine.events ++ event ∷ [] };
      bytes = position_line place;
      step = event_step (session e os cs d bs) machine event place stands is in_time;
      stands = record {
        events = stood machine.events stands.events;
        cursors = stands.cursors ∙ sym (seen_kept e f os cs keeps kept.fit);
      };
      going = going;
      took = took;
    }) going stands

pub broke_event : (e : EngineState) (os : List CursorNumber) (cs : List Open) (d : Bool) (bs : List Size) (s new : Session) (machine : SessionModel) (event : Event) (place : ℕ) (before after : Option (List ℕ)) (stop : OrMemory Failure) (fault : RunFault) →
    session e os cs d bs ≡ s → new.closed ≡ true → place ≡ count_of e → fault ≡ as_run_fault stop →
    ((events : List Event) → StandsFor e events → NoneFallsBack e.schema e.queries events event) → TookBy {T = Unit {0}} before after (position_line place) (Err stop) →
    Stands s machine → Ended (command.Event event) s machine new before after (Err fault)
broke_event e os cs d bs s new machine event place before after stop fault view closed is fault_is in_time took stands =
    let P : Session → Type 0 = λ t. Stands t machine → Ended (command.Event event) t machine new before after (Err fault) in
    subst P view (λ stands.
    broke (command.Event event) (session e os cs d bs) machine (record machine { events = machine.events ++ event ∷ [] }) new before after (position_line place) stop fault tt inr fault_is
    (event_step (session e os cs d bs) machine event place stands is in_time) closed took) stands

-- the cursors after an event
pub kept_event : (e f : EngineState) (os : List CursorNumber) (cs : List Open) → KeepsCursors e f → IsKept e os cs → IsKept f os cs
kept_event e f os cs keeps kept = record { count = kept.count; fit = fits_kept e f cs keeps kept.fit }

-- what it added
pub adds : (e f : EngineState) (os : List CursorNumber) (cs : List Open) (d : Bool) (bs : List Size) (s : Session) (event : Event) → session e os cs d bs ≡ s → HasAdded e f event → HasAddedKeys e f event → HasTaken event s.engine f
adds e f os cs d bs s event view added keys = let P : Session → Type 0 = λ t. HasTaken event t.engine f in subst P view (record { added = added; keys = keys })

pub adds_untold : (e f : EngineState) (event : Event) (stop : OrMemory Failure) (fault : RunFault) → fault ≡ as_run_fault stop → HasTaken event e f → IsAddedTo event e f (Err fault)
adds_untold e f event (or.Fault x) fault is has = subst (λ (y : RunFault). IsAddedTo event e f (Err y)) (sym is) has
adds_untold e f event or.Memory fault is has = subst (λ (y : RunFault). IsAddedTo event e f (Err y)) (sym is) (inr has)

pub within_untold : (new : Session) (before after : ℕ) (stop : OrMemory Failure) (fault : RunFault) → fault ≡ as_run_fault stop → after ≤ before + update_bounds new.engine → TakingIsWithin new before after (Err fault)
within_untold new before after (or.Fault x) fault is within = subst (λ (y : RunFault). TakingIsWithin new before after (Err y)) (sym is) within
within_untold new before after or.Memory fault is within = subst (λ (y : RunFault). TakingIsWithin new before after (Err y)) (sym is) tt

-- the position was written, and the session goes on as the same model
pub goes_on : (event : Event) (s : Session) (machine : SessionModel) (middle new : Session) (before after : Option (List ℕ)) → Ended (command.Event event) s machine middle before after (Ok tt) →
    ((machine : SessionModel) → Stands middle machine → Stands new machine) → new.closed ≡ middle.closed → Ended (command.Event event) s machine new before after (Ok tt)
goes_on event s machine middle new before after went still closed = record {
  next = went.next;
  bytes = went.bytes;
  step = went.step;
  stands = still went.next went.stands;
  going = closed ∙ went.going;
  took = went.took;
}

-- what a look at the queries leaves of the engine
pub tended : (e f : EngineState) (os : List CursorNumber) (cs : List Open) (d : Bool) (bs : List Size) (s : Session) → session e os cs d bs ≡ s → IsTended e f → IsTended s.engine f
tended e f os cs d bs s view has = let P : Session → Type 0 = λ t. IsTended t.engine f in subst P view has

-- what was put by pays for it
pub paid : (e f : EngineState) (os : List CursorNumber) (cs : List Open) (d : Bool) (bs bs2 : List Size) (s : Session) (machine : SessionModel) (before after : ℕ) → session e os cs d bs ≡ s →
    ((events : List Event) → StandsFor e events → after + put_by f bs2 ≤ before + put_by e bs) → Stands s machine → after + put_by f bs2 ≤ before + put_by_in s
paid e f os cs d bs bs2 s machine before after view pays stands =
    let P : Session → Type 0 = λ t. Stands t machine → after + put_by f bs2 ≤ before + put_by_in t in
    subst P view (λ stands. pays machine.events stands.events) stands

-- CURSORS

-- the number of a query has one
query_at : (queries : List Query) (number : ℕ) → 1 ≤ number → number ≤ length queries → (q : Query) × (slice_get queries (number - 1) ≡ Some q)
query_at queries number one most = pick (slice_get_cases queries (number - 1)).1
  where
    pick : ((x : Query) × (number - 1 < length queries) × (slice_get queries (number - 1) ≡ Some x) × (get_or queries (number - 1) x ≡ x)) ⊎ ((length queries ≤ number - 1) × (slice_get queries (number - 1) ≡ None)) →
        (q : Query) × (slice_get queries (number - 1) ≡ Some q)
    pick (inl found) = (found.0, found.2)
    pick (inr past) = absurd (omega (arith, past.0, one, most))

pub went_open : (e : EngineState) (os os2 : List CursorNumber) (cs cs2 : List Open) (d : Bool) (bs : List Size) (s : Session) (machine : SessionModel) (query number place : ℕ) (c : Open) (taken : Option (List ℕ)) →
    session e os cs d bs ≡ s → IsKept e os cs → s.closed ≡ false → 1 ≤ query → query ≤ length e.queries → 0 < count_of e → position (λ (o : CursorNumber). o.number == number) os ≡ None →
    c.query ≡ query → place ≡ count_of e - 1 →
    ((events : List Event) (q : Query) → StandsFor e events → slice_get e.queries (query - 1) ≡ Some q → AreAnswersAt e.schema q events (length events - 1) (map answer_of (rest e c))) →
    os2 ≡ os ++ record { number = number; position = place } ∷ [] → cs2 ≡ cs ++ c ∷ [] →
    Stands s machine → Ended (command.OpenAt query number) s machine (session e os2 cs2 d bs) taken taken (Ok tt)
went_open e os os2 cs cs2 d bs s machine query number place c taken view kept going one most some free of_query at answers opened cursors stands =
    let P : Session → Type 0 = λ t. t.closed ≡ false → Stands t machine → Ended (command.OpenAt query number) t machine (session e os2 cs2 d bs) taken taken (Ok tt) in
    subst P view (λ going stands.
    let q = query_at e.queries query one most in
    let last : place ≡ length machine.events - 1 = at ∙ ap (λ (n : ℕ). n - 1) (stands_count e machine.events stands.events) in
    let comes : OpenCursor = record { number = number; query = query; position = length machine.events - 1; left = left_of e c } in
    let seen : cursor_seen e (record { number = number; position = place }) c ≡ comes =
    ap₂ (λ (x y : ℕ). record { number = number; query = x; position = y; left = left_of e c }) of_query last in
    record {
      next = record machine { cursors = machine.cursors ++ comes ∷ [] };
      bytes = [];
      step = record {
        one = one;
        q = q.0;
        numbered = q.1;
        seen = omega (arith, some, stands_count e machine.events stands.events);
        free = ap (position (has_number number)) stands.cursors ∙ (place_seen e number os cs kept.count ∙ free);
        answers = left_of e c;
        are = answers machine.events q.0 stands.events q.1;
        after = refl;
        written = refl;
      };
      stands = record {
        events = stands.events;
        cursors =
            ap₂ (λ (l : List OpenCursor) (x : OpenCursor). l ++ x ∷ []) stands.cursors (sym seen)
            ∙ (sym (seen_more e os cs (record { number = number; position = place }) c kept.count)
            ∙ sym (ap₂ (cursors_seen e) opened cursors));
      };
      going = going;
      took = took_none taken;
    }) going stands

pub kept_open : (e : EngineState) (os os2 : List CursorNumber) (cs cs2 : List Open) (o : CursorNumber) (c : Open) → IsKept e os cs → Fits e c → os2 ≡ os ++ o ∷ [] → cs2 ≡ cs ++ c ∷ [] → IsKept e os2 cs2
kept_open e os os2 cs cs2 o c kept fits opened cursors =
    let both : IsKept e (os ++ o ∷ []) (cs ++ c ∷ []) = record {
      count = omega (arith, length-append os (o ∷ []), length-append cs (c ∷ []), kept.count);
      fit = All-append (Fits e) cs (c ∷ []) kept.fit (All-cons (Fits e) c [] fits (All-nil (Fits e)));
    } in
    subst (λ (x : List CursorNumber). IsKept e x cs2) (sym opened) (subst (λ (y : List Open). IsKept e (os ++ o ∷ []) y) (sym cursors) both)

-- the place of a number among the cursors of the model
pub place_is : (e : EngineState) (os : List CursorNumber) (cs : List Open) (machine : SessionModel) (number : ℕ) (place : Option ℕ) → machine.cursors ≡ cursors_seen e os cs → length os ≡ length cs →
    place ≡ position (λ (o : CursorNumber). o.number == number) os → cursor_place number machine ≡ place
place_is e os cs machine number place seen long found = ap (position (has_number number)) seen ∙ (place_seen e number os cs long ∙ sym found)

pub went_drop : (e : EngineState) (os os2 : List CursorNumber) (cs cs2 : List Open) (d : Bool) (bs : List Size) (s : Session) (machine : SessionModel) (number k : ℕ) (taken : Option (List ℕ)) →
    session e os cs d bs ≡ s → IsKept e os cs → s.closed ≡ false → Some k ≡ position (λ (o : CursorNumber). o.number == number) os → k < length os →
    os2 ≡ remove os k → cs2 ≡ remove cs k →
    Stands s machine → Ended (command.Drop number) s machine (session e os2 cs2 d bs) taken taken (Ok tt)
went_drop e os os2 cs cs2 d bs s machine number k taken view kept going found inside opened cursors stands =
    let P : Session → Type 0 = λ t. t.closed ≡ false → Stands t machine → Ended (command.Drop number) t machine (session e os2 cs2 d bs) taken taken (Ok tt) in
    subst P view (λ going stands. record {
      next = record machine { cursors = remove machine.cursors k };
      bytes = [];
      step = record { place = k; here = place_is e os cs machine number (Some k) stands.cursors kept.count found; after = refl; written = refl };
      stands = record {
        events = stands.events;
        cursors = ap (λ (l : List OpenCursor). remove l k) stands.cursors ∙ (sym (seen_fewer e os cs k kept.count inside) ∙ sym (ap₂ (cursors_seen e) opened cursors));
      };
      going = going;
      took = took_none taken;
    }) going stands

pub not_open : (e : EngineState) (os : List CursorNumber) (cs : List Open) (d : Bool) (bs : List Size) (s : Session) (machine : SessionModel) (number : ℕ) →
    session e os cs d bs ≡ s → IsKept e os cs → None ≡ position (λ (o : CursorNumber). o.number == number) os → Stands s machine → cursor_place number machine ≡ None
not_open e os cs d bs s machine number view kept found stands =
    let P : Session → Type 0 = λ t. Stands t machine → cursor_place number machine ≡ None in
    subst P view (λ stands. place_is e os cs machine number None stands.cursors kept.count found) stands

-- PULLS

-- where the cursor of a number is, and what it has left
pub at_place : (e : EngineState) (os : List CursorNumber) (cs : List Open) (machine : SessionModel) (k : ℕ) (o : CursorNumber) (c : Open) → machine.cursors ≡ cursors_seen e os cs → slice_get os k ≡ Some o → slice_get cs k ≡ Some c →
    slice_get machine.cursors k ≡ Some (cursor_seen e o c)
at_place e os cs machine k o c seen here there = ap (λ (l : List OpenCursor). slice_get l k) seen ∙ seen_at e os cs k o c here there

pub pull_step : (e : EngineState) (os : List CursorNumber) (cs : List Open) (machine : SessionModel) (number n k : ℕ) (o : CursorNumber) (c : Open) →
    machine.cursors ≡ cursors_seen e os cs → length os ≡ length cs → Some k ≡ position (λ (x : CursorNumber). x.number == number) os → slice_get os k ≡ Some o → slice_get cs k ≡ Some c →
    PullStep number n machine (record machine { cursors = slice_set machine.cursors k (record { number = o.number; query = c.query; position = o.position; left = drop n (left_of e c) }) }) (pull_text c.query o.position n (left_of e c))
pull_step e os cs machine number n k o c seen long found here there = record {
  place = k;
  here = place_is e os cs machine number (Some k) seen long found;
  cursor = cursor_seen e o c;
  at = at_place e os cs machine k o c seen here there;
  after = refl;
  written = refl;
}

pub went_pull : (e : EngineState) (os : List CursorNumber) (cs cs2 : List Open) (d : Bool) (bs : List Size) (s : Session) (machine : SessionModel) (number n k : ℕ) (o : CursorNumber) (c c2 : Open) (before after : Option (List ℕ)) →
    session e os cs d bs ≡ s → IsKept e os cs → s.closed ≡ false → Some k ≡ position (λ (x : CursorNumber). x.number == number) os → slice_get os k ≡ Some o → slice_get cs k ≡ Some c →
    cs2 ≡ slice_set cs k c2 → left_of e c2 ≡ drop n (left_of e c) → c2.query ≡ c.query → TookAll before after (pull_text c.query o.position n (left_of e c)) →
    Stands s machine → Ended (command.Pull number n) s machine (session e os cs2 d bs) before after (Ok tt)
went_pull e os cs cs2 d bs s machine number n k o c c2 before after view kept going found here there set left query took stands =
    let P : Session → Type 0 = λ t. t.closed ≡ false → Stands t machine → Ended (command.Pull number n) t machine (session e os cs2 d bs) before after (Ok tt) in
    subst P view (λ going stands.
    let now : OpenCursor = record { number = o.number; query = c.query; position = o.position; left = drop n (left_of e c) } in
    let same : cursor_seen e o c2 ≡ now = ap₂ (λ (q : ℕ) (l : List Answer). record { number = o.number; query = q; position = o.position; left = l }) query left in
    record {
      next = record machine { cursors = slice_set machine.cursors k now };
      bytes = pull_text c.query o.position n (left_of e c);
      step = pull_step e os cs machine number n k o c stands.cursors kept.count found here there;
      stands = record {
        events = stands.events;
        cursors =
            ap₂ (λ (l : List OpenCursor) (x : OpenCursor). slice_set l k x) stands.cursors (sym same)
            ∙ (sym (seen_set e os cs k o c2 here) ∙ sym (ap (cursors_seen e os) set));
      };
      going = going;
      took = took;
    }) going stands

pub broke_pull : (e : EngineState) (os : List CursorNumber) (cs : List Open) (d : Bool) (bs : List Size) (s new : Session) (machine : SessionModel) (number n k : ℕ) (o : CursorNumber) (c : Open) (before after : Option (List ℕ)) (stop : OrMemory Failure) (fault : RunFault) →
    session e os cs d bs ≡ s → IsKept e os cs → new.closed ≡ true → Some k ≡ position (λ (x : CursorNumber). x.number == number) os → slice_get os k ≡ Some o → slice_get cs k ≡ Some c →
    fault ≡ as_run_fault stop → TookBy {T = Unit {0}} before after (pull_text c.query o.position n (left_of e c)) (Err stop) →
    Stands s machine → Ended (command.Pull number n) s machine new before after (Err fault)
broke_pull e os cs d bs s new machine number n k o c before after stop fault view kept closed found here there fault_is took stands =
    let P : Session → Type 0 = λ t. Stands t machine → Ended (command.Pull number n) t machine new before after (Err fault) in
    subst P view (λ stands.
    broke (command.Pull number n) (session e os cs d bs) machine (record machine { cursors = slice_set machine.cursors k (record { number = o.number; query = c.query; position = o.position; left = drop n (left_of e c) }) })
    new before after (pull_text c.query o.position n (left_of e c)) stop fault tt (λ b. b) fault_is
    (pull_step e os cs machine number n k o c stands.cursors kept.count found here there) closed took) stands

-- the steps of a pull, by what the cursor of the model has left
pub within_pull : (e : EngineState) (os : List CursorNumber) (cs : List Open) (d : Bool) (bs : List Size) (s : Session) (machine : SessionModel) (number n k before after : ℕ) (o : CursorNumber) (c : Open) →
    session e os cs d bs ≡ s → IsKept e os cs → Some k ≡ position (λ (x : CursorNumber). x.number == number) os → slice_get os k ≡ Some o → slice_get cs k ≡ Some c →
    after ≤ before + (delays (take n (left_of e c)) + 1) → Stands s machine →
    (place : ℕ) (one : OpenCursor) → cursor_place number machine ≡ Some place → slice_get machine.cursors place ≡ Some one → after ≤ before + pull_bound n one
within_pull e os cs d bs s machine number n k before after o c view kept found here there within stands place one at is =
    let P : Session → Type 0 = λ t. Stands t machine → after ≤ before + pull_bound n one in
    subst P view (λ stands.
    let first : Some place ≡ Some k = sym at ∙ place_is e os cs machine number (Some k) stands.cursors kept.count found in
    let same : place ≡ k = cc in
    let two : Some one ≡ Some (cursor_seen e o c) = sym is ∙ (ap (slice_get machine.cursors) same ∙ at_place e os cs machine k o c stands.cursors here there) in
    let cursor : one ≡ cursor_seen e o c = cc in
    omega (arith, within, ap (pull_bound n) cursor)) stands

-- where writing stopped, it was not refused
pub unrefused : (before after : ℕ) (Bounded : Type 0) (stop : OrMemory Failure) (fault : RunFault) → fault ≡ as_run_fault stop → Bounded → UnlessRefused before after Bounded (Err fault)
unrefused before after Bounded (or.Fault x) fault is within = subst (λ (y : RunFault). UnlessRefused before after Bounded (Err y)) (sym is) within
unrefused before after Bounded or.Memory fault is within = subst (λ (y : RunFault). UnlessRefused before after Bounded (Err y)) (sym is) within

pub kept_pull : (e : EngineState) (os : List CursorNumber) (cs cs2 : List Open) (k : ℕ) (c2 : Open) → IsKept e os cs → Fits e c2 → cs2 ≡ slice_set cs k c2 → IsKept e os cs2
kept_pull e os cs cs2 k c2 kept fits set =
    let there : IsKept e os (slice_set cs k c2) = record {
      count = kept.count ∙ sym (length-set cs k c2);
      fit = All-set (Fits e) cs k c2 fits kept.fit;
    } in
    subst (λ (l : List Open). IsKept e os l) (sym set) there

-- COMPACTION

-- the session over the engine after it, with the cursors that were held, is the same model
pub still_stands : (e f : EngineState) (os : List CursorNumber) (cs cs2 : List Open) (d : Bool) (bs bs2 : List Size) (s : Session) (machine : SessionModel) →
    session e os cs d bs ≡ s → ((events : List Event) → StandsFor e events → StandsFor f events) → length cs2 ≡ length cs →
    ((k : ℕ) → (x : Open) → k < length cs → engines.IsKept e f (get_or cs k x) (get_or cs2 k x)) → Stands s machine → Stands (session f os cs2 d bs2) machine
still_stands e f os cs cs2 d bs bs2 s machine view stood long kept stands =
    let P : Session → Type 0 = λ t. Stands t machine → Stands (session f os cs2 d bs2) machine in
    subst P view (λ stands. record { events = stood machine.events stands.events; cursors = stands.cursors ∙ sym (seen_held e f os cs cs2 long kept) }) stands

pub went_compact : (e f : EngineState) (os : List CursorNumber) (cs cs2 : List Open) (d : Bool) (bs bs2 : List Size) (s : Session) (machine : SessionModel) (taken : Option (List ℕ)) →
    session e os cs d bs ≡ s → s.closed ≡ false → ((events : List Event) → StandsFor e events → StandsFor f events) → length cs2 ≡ length cs →
    ((k : ℕ) → (x : Open) → k < length cs → engines.IsKept e f (get_or cs k x) (get_or cs2 k x)) →
    Stands s machine → Ended command.Compact s machine (session f os cs2 d bs2) taken taken (Ok tt)
went_compact e f os cs cs2 d bs bs2 s machine taken view going stood long kept stands =
    let closed : d ≡ false = ap (λ (t : Session). t.closed) view ∙ going in
    record {
      next = machine;
      bytes = [];
      step = (refl, refl);
      stands = still_stands e f os cs cs2 d bs bs2 s machine view stood long kept stands;
      going = closed;
      took = took_none taken;
    }

pub compacted : (e f : EngineState) (os : List CursorNumber) (cs hs cs2 : List Open) (d : Bool) (bs : List Size) (s : Session) → session e os cs d bs ≡ s → cs2 ≡ hs → HasCompacted e f hs → HasCompacted s.engine f cs2
compacted e f os cs hs cs2 d bs s view same has =
    let P : Session → Type 0 = λ t. HasCompacted t.engine f cs2 in
    subst P view (subst (λ (l : List Open). HasCompacted e f l) (sym same) has)

pub kept_compact : (e f : EngineState) (os : List CursorNumber) (cs cs2 : List Open) → IsKept e os cs → length cs2 ≡ length cs →
    ((k : ℕ) → (x : Open) → k < length cs → engines.IsKept e f (get_or cs k x) (get_or cs2 k x)) → IsKept f os cs2
kept_compact e f os cs cs2 before long kept = record { count = before.count ∙ sym long; fit = fits_held e f cs cs2 long kept }

-- As many cursors, each carried over.
abbrev pub AreCarried : EngineState → EngineState → List Open → List Open → Type 0
AreCarried e f before after = (length after ≡ length before) × ((k : ℕ) → (x : Open) → k < length before → engines.IsKept e f (get_or before k x) (get_or after k x))

-- the same of the lists as the compaction saw them
pub carried : (e f : EngineState) (cs hs hs2 cs2 : List Open) → hs ≡ cs → cs2 ≡ hs2 → AreCarried e f hs hs2 → AreCarried e f cs cs2
carried e f cs hs hs2 cs2 old new are = subst (λ (l : List Open). AreCarried e f l cs2) old (subst (λ (l : List Open). AreCarried e f hs l) (sym new) are)

-- the place that is found is among the cursors
pub place_within : (os : List CursorNumber) (number k : ℕ) → Some k ≡ position (λ (o : CursorNumber). o.number == number) os → k < length os
place_within os number k found = (position-Some (λ (o : CursorNumber). o.number == number) os k (record { number = 0; position = 0 }) (sym found)).0

-- WHY A CURSOR IS NOT OPENED

pub is_open : (e : EngineState) (os : List CursorNumber) (cs : List Open) (d : Bool) (bs : List Size) (s : Session) (machine : SessionModel) (query number : ℕ) (found : Option ℕ) (taken : Option (List ℕ)) →
    session e os cs d bs ≡ s → IsKept e os cs → 1 ≤ query → query ≤ length e.queries → 0 < count_of e → found ≡ position (λ (o : CursorNumber). o.number == number) os → true ≡ is_some found → Stands s machine →
    ((number ≡ number) × (1 ≤ query) × (query ≤ length s.engine.queries) × (0 < length machine.events) × ((cursor_place number machine ≡ None) → ⊥)) × IsUnchanged s s taken taken
is_open e os cs d bs s machine query number found taken view kept one most some at here stands =
    let P : Session → Type 0 = λ t. Stands t machine → (query ≤ length t.engine.queries) × (0 < length machine.events) × ((cursor_place number machine ≡ None) → ⊥) in
    let p = subst P view (λ stands. (
      most,
      omega (arith, some, stands_count e machine.events stands.events),
      λ none. (let gone : found ≡ None = sym (place_is e os cs machine number found stands.cursors kept.count at) ∙ none in
          let clash : true ≡ false = here ∙ ap (is_some) gone in cc),
    )) stands in
    ((refl, one, p.0, p.1, p.2), unchanged s s taken refl)

pub none_found : (found : Option ℕ) → is_some found ≡ false → found ≡ None
none_found None none = refl
none_found (Some k) none = absurd (let clash : true ≡ false = none in cc)

-- The lists stay.
pub same_lists : (e : EngineState) (os os2 : List CursorNumber) (cs cs2 : List Open) (d : Bool) (bs : List Size) (s : Session) → session e os cs d bs ≡ s → os2 ≡ os → cs2 ≡ cs → session e os2 cs2 d bs ≡ s
same_lists e os os2 cs cs2 d bs s view opened cursors = ap₂ (λ (x : List CursorNumber) (y : List Open). session e x y d bs) opened cursors ∙ view

pub kept_same : (e : EngineState) (os os2 : List CursorNumber) (cs cs2 : List Open) → IsKept e os cs → os2 ≡ os → cs2 ≡ cs → IsKept e os2 cs2
kept_same e os os2 cs cs2 kept opened cursors =
    subst (λ (x : List CursorNumber). IsKept e x cs2) (sym opened) (subst (λ (y : List Open). IsKept e os y) (sym cursors) kept)
