-- What one step of gated events comes to.
use Rattle.std.proofs.Common.{◌≡◌, ℕ, ◌+◌, ◌^◌, ◌<◌, ◌≤◌, ℤ, Bool, true, false, cond, inl, inr, List, [], ◌∷◌, ◌++◌, length, Option, Some, None, Ok, Err, refl, sym, ◌∙◌, ap, subst, append_assoc, arith}
use Rattle.std.specs.List.{AllByRecursion}
use Rattle.cer_base.specs.declared.OrMemory.{OrMemory}
use Rattle.cer_base.specs.declared.OrMemory.TheVariants.{Fault, Memory}
use Rattle.stream_schema.specs.Types.{Declared}
use Rattle.stream_schema.specs.Events.{IsOfSchema}
use Rattle.stream_schema.specs.declared.Event.{Event as StreamEvent}
use Rattle.cel_terms.specs.declared.Query.{Query}
use Rattle.event_reader.specs.declared.EventFault.{EventFault}
use Rattle.event_reader.specs.LineReaders.{LineReader, HasGiven}
use Rattle.query_engine.specs.Engine.{EngineState, StandsFor}
use Rattle.query_engine.specs.Clocks.{NoneFallsBack}
use Rattle.query_engine.specs.Keys.{HasAddedKeys}
use Rattle.query_engine.specs.Windows.{HasAdded}
use Rattle.event_run.specs.declared.RunFault.{RunFault}
use Rattle.event_run.specs.declared.RunFault.TheVariants as fault
use Rattle.event_run.specs.Runs.{RunStop, StopsInTime}
use Rattle.event_run.specs.Runs as stop
use Rattle.event_run.specs.Taking.{AfterEvent}
use Rattle.event_run.specs.Wanting.{AreWantingSteps, WantsSteps}
use Rattle.reorder_gate.specs.Sorting.{sorted}
use Rattle.reorder_gate.specs.Releasing.{released}
use Rattle.reorder_gate.specs.Gates as gates
use Rattle.reorder_gate.specs.Gates.{GateState, clock_at, all_due}
use Rattle.stream_answers.specs.declared.events.Step.TheVariants as step
use Rattle.stream_answers.specs.Events.{Begins, AfterStep}
use Rattle.command_reorder.specs.declared.gated.GatedEvents.{GatedEvents}
use Rattle.command_reorder.specs.Late.{NumberedEvent, Feed, LateEvents, fed, let_go, TakesOn, TakesFed}
use Rattle.command_reorder.specs.LateOutput.{ReadsFed}
use Rattle.command_reorder.specs.Gated.{feed_through, feed_at, IsGateOf, AreOfSchema, HasFed, AreFedRead, Feeds, HasPut, HasLetGo, MayGoOn, room_of, last_turn, turns_of, AfterPut}
use Rattle.command_reorder.proofs.FedLines.{goes_first}
use Rattle.command_reorder.proofs.Takings.{takes_then, takes_end, some_takes}

-- WHAT A FEED IS

-- gated events feed as they did, where the gate's clock and bound and the reader's budget stay
pub same_feed : (f : Feed) (lines : LineReader) (gate : GateState) → IsGateOf f gate → lines.budget ≡ f.most_bytes → feed_through lines gate f.schema ≡ f
same_feed f lines gate is budget =
    ap (λ (k : NumberedEvent → ℤ). (let g : Feed = record { schema = f.schema; clock = k; late = gate.late; most_bytes = lines.budget } in g)) is.clock
    ∙ (ap (λ (n : ℕ). (let g : Feed = record { schema = f.schema; clock = f.clock; late = n; most_bytes = lines.budget } in g)) is.late
    ∙ ap (λ (n : ℕ). (let g : Feed = record { schema = f.schema; clock = f.clock; late = f.late; most_bytes = n } in g)) budget)

-- a gate from which an event was taken has the clock and the bound that it had
pub still_of : (f : Feed) (g now : GateState) (e : NumberedEvent) → g ≡ record now { events = e ∷ now.events } → IsGateOf f g → IsGateOf f now
still_of f g now e is sits = record {
  clock = ap (λ (h : GateState). clock_at h.places) (sym is) ∙ sits.clock;
  late = ap (λ (h : GateState). h.late) (sym is) ∙ sits.late;
}

-- and one that was finished
pub finished_of : (f : Feed) (g now : GateState) → now ≡ record g { is_finished = true } → IsGateOf f g → IsGateOf f now
finished_of f g now is sits = record {
  clock = ap (λ (h : GateState). clock_at h.places) is ∙ sits.clock;
  late = ap (λ (h : GateState). h.late) is ∙ sits.late;
}

-- WHERE A RUN BEGINS

-- by what goes first of it
begins_at : (f : Feed) (queries : List Query) (earlier : List StreamEvent) (bytes : List ℕ) (gone rest : List NumberedEvent) (events : List StreamEvent) → let_go f (fed f bytes).put (fed f bytes).stop ≡ gone ++ rest → TakesOn f.schema queries earlier gone stop.End events stop.End →
    Begins (TakesFed f queries earlier) bytes events
begins_at f queries earlier bytes gone rest events is taken =
    let some = some_takes f.schema queries events rest (fed f bytes).stop in
    let P : List NumberedEvent → Type 0 = λ l. TakesOn f.schema queries earlier l (fed f bytes).stop (events ++ some.more) some.halt in
    (some.more, some.halt, subst P (sym is) (takes_then f.schema queries earlier gone rest (fed f bytes).stop events (events ++ some.more) some.halt taken some.takes))

-- with no event of its own
pub begins_none : (f : Feed) (queries : List Query) (earlier : List StreamEvent) (bytes : List ℕ) → Begins (TakesFed f queries earlier) bytes earlier
begins_none f queries earlier bytes = begins_at f queries earlier bytes [] (let_go f (fed f bytes).put (fed f bytes).stop) earlier refl (refl, refl)

-- AT THE BEGINNING

pub may_begin : (schema : Declared) (e : GatedEvents) → e.lines.closed ≡ false → e.gate.events ≡ [] → MayGoOn schema e
may_begin schema e is_open none = record { is_open = λ going. is_open; of_schema = subst (λ (l : List NumberedEvent). AllByRecursion (λ x. IsOfSchema schema x.1) l) (sym none) tt }

-- none was put, and none has gone
pub lets_none_go : (schema : Declared) (queries : List Query) (earlier : List StreamEvent) (e : GatedEvents) (bytes : List ℕ) → e.gate.is_finished ≡ false → gates.StandsFor e.gate [] [] → HasGiven e.lines bytes (Some bytes) [] → HasLetGo (feed_at e schema) queries earlier e (Some bytes) bytes earlier
lets_none_go schema queries earlier e bytes going stands given = record {
  put = [];
  gone = [];
  stands = stands;
  read = subst (λ (b : Bool). HasPut b (feed_at e schema) e.lines (Some bytes) bytes []) (sym going) (record { texts = []; given = given; good = refl });
  taken = (refl, refl);
}

-- WHAT MAY GO HAS GONE

-- while the file goes on
due_open : (f : Feed) (g : GateState) (put gone : List NumberedEvent) → IsGateOf f g → g.is_finished ≡ false → gone ≡ all_due g put → gone ≡ released f.clock f.late put
due_open f g put gone sits going is =
    let k = clock_at g.places in
    is ∙ ap (λ t. cond t (sorted k put) (released k g.late put)) going ∙ ap (λ c. released c g.late put) sits.clock ∙ ap (λ n. released f.clock n put) sits.late

-- and at its end
due_closed : (f : Feed) (g : GateState) (put gone : List NumberedEvent) → IsGateOf f g → g.is_finished ≡ true → gone ≡ all_due g put → gone ≡ sorted f.clock put
due_closed f g put gone sits finished is =
    let k = clock_at g.places in
    is ∙ ap (λ t. cond t (sorted k put) (released k g.late put)) finished ∙ ap (λ c. sorted c put) sits.clock

-- the run stops where the feed does
halts : (f : Feed) (queries : List Query) (earlier : List StreamEvent) (bytes : List ℕ) (put gone : List NumberedEvent) (events : List StreamEvent) (halt : RunStop) → gone ≡ let_go f put halt → Feeds f bytes put halt → TakesOn f.schema queries earlier gone stop.End events stop.End →
    TakesFed f queries earlier bytes events halt
halts f queries earlier bytes put gone events halt due feeds taken =
    let F : LateEvents → Type 0 = λ x. TakesOn f.schema queries earlier (let_go f x.put x.stop) x.stop events halt in
    let L : List NumberedEvent → Type 0 = λ l. TakesOn f.schema queries earlier l halt events halt in
    subst F (sym feeds) (subst L due (takes_end f.schema queries earlier gone halt events taken))

-- what is known where the source failed
reads : (f : Feed) (queries : List Query) (earlier : List StreamEvent) (left : Option (List ℕ)) (bytes : List ℕ) (put gone : List NumberedEvent) (events : List StreamEvent) → gone ≡ released f.clock f.late put → TakesOn f.schema queries earlier gone stop.End events stop.End → AreFedRead f left bytes put →
    ReadsFed f queries earlier left bytes events
reads f queries earlier None bytes put gone events due taken read = read
reads f queries earlier (Some rest) bytes put gone events due taken read =
    let L : List NumberedEvent → Type 0 = λ l. TakesOn f.schema queries earlier l stop.End events stop.End in
    record { texts = read.texts; cut = read.cut; put = put; good = read.good; taken = subst L due taken }

-- AN EVENT GOES

-- what goes first with it
goes : (f : Feed) (queries : List Query) (earlier : List StreamEvent) (old now : GatedEvents) (e : NumberedEvent) (left : Option (List ℕ)) (bytes : List ℕ) (events : List StreamEvent) → old.lines ≡ now.lines → old.gate ≡ record now.gate { events = e ∷ now.gate.events } → IsGateOf f old.gate → old.lines.budget ≡ f.most_bytes →
    (h : HasLetGo f queries earlier old left bytes events) → gates.StandsFor now.gate h.put (h.gone ++ e ∷ []) → (rest : List NumberedEvent) × (let_go f (fed f bytes).put (fed f bytes).stop ≡ h.gone ++ e ∷ rest)
goes f queries earlier old now e left bytes events lines is sits budget h stands =
    let finished : now.gate.is_finished ≡ old.gate.is_finished = ap (λ (g : GateState). g.is_finished) (sym is) in
    let first = goes_first f old.gate.is_finished old.lines left bytes h.put (h.gone ++ e ∷ []) now.gate budget (still_of f old.gate now.gate e is sits) finished stands h.read in
    (first.0, first.1 ∙ append_assoc h.gone (e ∷ []) first.0)

-- the engine took it
let_it_go : (f : Feed) (queries : List Query) (earlier : List StreamEvent) (old now : GatedEvents) (e : NumberedEvent) (left : Option (List ℕ)) (bytes : List ℕ) (events : List StreamEvent) → old.lines ≡ now.lines → old.gate ≡ record now.gate { events = e ∷ now.gate.events } →
    (h : HasLetGo f queries earlier old left bytes events) → gates.StandsFor now.gate h.put (h.gone ++ e ∷ []) → NoneFallsBack f.schema queries events e.1 → HasLetGo f queries earlier now left bytes (events ++ e.1 ∷ [])
let_it_go f queries earlier old now e left bytes events lines is h stands none = record {
  put = h.put;
  gone = h.gone ++ e ∷ [];
  stands = stands;
  read = subst (λ (b : Bool). HasPut b f now.lines left bytes h.put) (ap (λ (g : GateState). g.is_finished) is) (subst (λ (r : LineReader). HasPut old.gate.is_finished f r left bytes h.put) lines h.read);
  taken = takes_then f.schema queries earlier h.gone (e ∷ []) stop.End events (events ++ e.1 ∷ []) stop.End h.taken (inl (none, (refl, refl)));
}

-- the run begins with it
begins_with : (f : Feed) (queries : List Query) (earlier : List StreamEvent) (old now : GatedEvents) (e : NumberedEvent) (left : Option (List ℕ)) (bytes : List ℕ) (events : List StreamEvent) → old.lines ≡ now.lines → old.gate ≡ record now.gate { events = e ∷ now.gate.events } → IsGateOf f old.gate → old.lines.budget ≡ f.most_bytes →
    (h : HasLetGo f queries earlier old left bytes events) → gates.StandsFor now.gate h.put (h.gone ++ e ∷ []) → NoneFallsBack f.schema queries events e.1 → Begins (TakesFed f queries earlier) bytes (events ++ e.1 ∷ [])
begins_with f queries earlier old now e left bytes events lines is sits budget h stands none =
    let first = goes f queries earlier old now e left bytes events lines is sits budget h stands in
    begins_at f queries earlier bytes (h.gone ++ e ∷ []) first.0 (events ++ e.1 ∷ []) (first.1 ∙ sym (append_assoc h.gone (e ∷ []) first.0))
    (takes_then f.schema queries earlier h.gone (e ∷ []) stop.End events (events ++ e.1 ∷ []) stop.End h.taken (inl (none, (refl, refl))))

-- With it a clock falls, which stops the run.
falls_with : (f : Feed) (queries : List Query) (earlier : List StreamEvent) (old now : GatedEvents) (e : NumberedEvent) (left : Option (List ℕ)) (bytes : List ℕ) (events : List StreamEvent) (halt : RunStop) → old.lines ≡ now.lines → old.gate ≡ record now.gate { events = e ∷ now.gate.events } → IsGateOf f old.gate → old.lines.budget ≡ f.most_bytes →
    (h : HasLetGo f queries earlier old left bytes events) → gates.StandsFor now.gate h.put (h.gone ++ e ∷ []) → StopsInTime f.schema queries events e.1 e.0 halt → TakesFed f queries earlier bytes events halt
falls_with f queries earlier old now e left bytes events halt lines is sits budget h stands falls =
    let first = goes f queries earlier old now e left bytes events lines is sits budget h stands in
    let end = (fed f bytes).stop in
    let P : List NumberedEvent → Type 0 = λ l. TakesOn f.schema queries earlier l end events halt in
    subst P (sym first.1) (takes_then f.schema queries earlier h.gone (e ∷ first.0) end events events halt h.taken (inr (refl, falls)))

-- IN THE WORDS OF A STEP
-- `schema` and `queries` are those of the engine.

module _ (schema : Declared) (queries : List Query) (earlier : List StreamEvent) (old now : GatedEvents) where
  -- the same feed of the gate that is left
  pub feeds_same : IsGateOf (feed_at old schema) now.gate → now.lines.budget ≡ old.lines.budget → feed_at now schema ≡ feed_at old schema
  feeds_same is budget = same_feed (feed_at old schema) now.lines now.gate is budget

  pub takes_same : feed_at now schema ≡ feed_at old schema → (bytes : List ℕ) (events : List StreamEvent) (halt : RunStop) → TakesFed (feed_at now schema) queries earlier bytes events halt → TakesFed (feed_at old schema) queries earlier bytes events halt
  takes_same same bytes events halt runs = subst (λ (f : Feed). TakesFed f queries earlier bytes events halt) same runs

  pub reads_same : feed_at now schema ≡ feed_at old schema → (left : Option (List ℕ)) (bytes : List ℕ) (events : List StreamEvent) → ReadsFed (feed_at now schema) queries earlier left bytes events → ReadsFed (feed_at old schema) queries earlier left bytes events
  reads_same same left bytes events read = subst (λ (f : Feed). ReadsFed f queries earlier left bytes events) same read

  abbrev Old : Feed
  Old = feed_at old schema

  -- the gate let an event go
  module _ (e : NumberedEvent) (lines : old.lines ≡ now.lines) (is : old.gate ≡ record now.gate { events = e ∷ now.gate.events }) (stands : (put gone : List NumberedEvent) → gates.StandsFor old.gate put gone → gates.StandsFor now.gate put (gone ++ e ∷ [])) where
    sits : IsGateOf Old old.gate
    sits = record { clock = refl; late = refl }

    pub feed_stays : feed_at now schema ≡ feed_at old schema
    feed_stays = feeds_same (still_of Old old.gate now.gate e is sits) (ap (λ (r : LineReader). r.budget) (sym lines))

    -- and the engine took it
    pub goes_to : (had left : Option (List ℕ)) (engine last : EngineState) (events : List StreamEvent) → had ≡ left → AfterEvent schema queries e.0 last e.1 events {T = Unit {0}} (Ok tt) → HasAdded engine last e.1 → HasAddedKeys engine last e.1 →
        AfterStep (HasLetGo Old queries earlier old had) (HasLetGo (feed_at now schema) queries earlier now left) (TakesFed Old queries earlier) (ReadsFed Old queries earlier left) engine last events (Ok step.Event)
    goes_to had left engine last events same after added keys = (
      e.1,
      after.0,
      λ bytes h. (
        subst (λ (f : Feed). HasLetGo f queries earlier now left bytes (events ++ e.1 ∷ [])) (sym feed_stays) (subst (λ (o : Option (List ℕ)). HasLetGo Old queries earlier now o bytes (events ++ e.1 ∷ [])) same (let_it_go Old queries earlier old now e had bytes events lines is h (stands h.put h.gone h.stands) after.1)),
        begins_with Old queries earlier old now e had bytes events lines is sits refl h (stands h.put h.gone h.stands) after.1,
      ),
      added,
      keys,
    )

    -- a clock would fall with it
    pub goes_falling : (had : Option (List ℕ)) (last : EngineState) (events : List StreamEvent) (refusal : EventFault) → AfterEvent schema queries e.0 last e.1 events {T = Unit {0}} (Err (Fault refusal)) → (bytes : List ℕ) → HasLetGo Old queries earlier old had bytes events → TakesFed Old queries earlier bytes events (stop.Event e.0 refusal)
    goes_falling had last events refusal after bytes h = falls_with Old queries earlier old now e had bytes events (stop.Event e.0 refusal) lines is sits refl h (stands h.put h.gone h.stands) after.1

    -- memory ran out for it
    pub goes_wanting : (had : Option (List ℕ)) (events : List StreamEvent) (before after : ℕ) → NoneFallsBack schema queries events e.1 × AreWantingSteps schema queries (events ++ e.1 ∷ []) before after →
        WantsSteps schema queries events (λ next. (bytes : List ℕ) → HasLetGo Old queries earlier old had bytes events → Begins (TakesFed Old queries earlier) bytes (events ++ next ∷ [])) before after
    goes_wanting had events before after wants = inr (e.1, (λ bytes h. begins_with Old queries earlier old now e had bytes events lines is sits refl h (stands h.put h.gone h.stands) wants.0), wants.1)

  -- no event may go
  module _ (all : (put gone : List NumberedEvent) → gates.StandsFor old.gate put gone → gone ≡ all_due old.gate put) where
    -- the gate is finished, so this is the end
    pub ends_here : old.gate.is_finished ≡ true → (had : Option (List ℕ)) (events : List StreamEvent) (bytes : List ℕ) → HasLetGo Old queries earlier old had bytes events → TakesFed Old queries earlier bytes events stop.End
    ends_here finished had events bytes h =
        halts Old queries earlier bytes h.put h.gone events stop.End (due_closed Old old.gate h.put h.gone (record { clock = refl; late = refl }) finished (all h.put h.gone h.stands))
        (subst (λ (b : Bool). HasPut b Old old.lines had bytes h.put) finished h.read) h.taken

    -- a line was put
    pub reads_line : old.gate.is_finished ≡ false → now.gate.is_finished ≡ false → feed_at now schema ≡ Old → (had left : Option (List ℕ)) (events : List StreamEvent) (bytes : List ℕ) →
        ((put gone : List NumberedEvent) → gates.StandsFor old.gate put gone → HasFed Old old.lines bytes had put → AfterPut Old now.lines left now.gate bytes put gone (Ok true)) →
        HasLetGo Old queries earlier old had bytes events → HasLetGo (feed_at now schema) queries earlier now left bytes events
    reads_line going still same had left events bytes put h =
        let read = subst (λ (b : Bool). HasPut b Old old.lines had bytes h.put) going h.read in
        let one = put h.put h.gone h.stands read in
        subst (λ (f : Feed). HasLetGo f queries earlier now left bytes events) (sym same) (record {
          put = one.0;
          gone = h.gone;
          stands = one.1;
          read = subst (λ (b : Bool). HasPut b Old now.lines left bytes one.0) (sym still) one.2;
          taken = h.taken;
        })

    -- there was none, and the gate was finished
    pub reads_end : old.gate.is_finished ≡ false → now.gate.is_finished ≡ true → feed_at now schema ≡ Old → (had left : Option (List ℕ)) (events : List StreamEvent) (bytes : List ℕ) →
        ((put gone : List NumberedEvent) → gates.StandsFor old.gate put gone → HasFed Old old.lines bytes had put → Feeds Old bytes put stop.End) → ((put gone : List NumberedEvent) → gates.StandsFor old.gate put gone → gates.StandsFor now.gate put gone) →
        HasLetGo Old queries earlier old had bytes events → HasLetGo (feed_at now schema) queries earlier now left bytes events
    reads_end going finished same had left events bytes feeds stands h =
        let read = subst (λ (b : Bool). HasPut b Old old.lines had bytes h.put) going h.read in
        subst (λ (f : Feed). HasLetGo f queries earlier now left bytes events) (sym same) (record {
          put = h.put;
          gone = h.gone;
          stands = stands h.put h.gone h.stands;
          read = subst (λ (b : Bool). HasPut b Old now.lines left bytes h.put) (sym finished) (feeds h.put h.gone h.stands read);
          taken = h.taken;
        })

    -- a line stopped the feed, or the source did
    pub stops_at_line : old.gate.is_finished ≡ false → (had left : Option (List ℕ)) (engine last : EngineState) (events : List StreamEvent) (why : OrMemory RunFault) →
        ((bytes : List ℕ) (put gone : List NumberedEvent) → gates.StandsFor old.gate put gone → HasFed Old old.lines bytes had put → AfterPut Old now.lines left now.gate bytes put gone (Err why)) →
        AfterStep (HasLetGo Old queries earlier old had) (HasLetGo (feed_at now schema) queries earlier now left) (TakesFed Old queries earlier) (ReadsFed Old queries earlier left) engine last events (Err why)
    stops_at_line going had left engine last events Memory put = tt
    stops_at_line going had left engine last events (Fault (fault.Event line refusal)) put = λ bytes h.
        let read = subst (λ (b : Bool). HasPut b Old old.lines had bytes h.put) going h.read in
        halts Old queries earlier bytes h.put h.gone events (stop.Event line refusal) (due_open Old old.gate h.put h.gone (record { clock = refl; late = refl }) going (all h.put h.gone h.stands)) (put bytes h.put h.gone h.stands read) h.taken
    stops_at_line going had left engine last events (Fault (fault.InputTooLong most)) put = λ bytes h.
        let read = subst (λ (b : Bool). HasPut b Old old.lines had bytes h.put) going h.read in
        halts Old queries earlier bytes h.put h.gone events (stop.InputTooLong most) (due_open Old old.gate h.put h.gone (record { clock = refl; late = refl }) going (all h.put h.gone h.stands)) (put bytes h.put h.gone h.stands read) h.taken
    stops_at_line going had left engine last events (Fault fault.ReadFault) put = λ bytes h.
        let read = subst (λ (b : Bool). HasPut b Old old.lines had bytes h.put) going h.read in
        reads Old queries earlier left bytes h.put h.gone events (due_open Old old.gate h.put h.gone (record { clock = refl; late = refl }) going (all h.put h.gone h.stands)) h.taken (put bytes h.put h.gone h.stands read)

-- WHAT MAY STILL COME

-- an event went
module _ (old now : GatedEvents) (e : NumberedEvent) (lines : old.lines ≡ now.lines) (is : old.gate ≡ record now.gate { events = e ∷ now.gate.events }) where
  one_less : length old.gate.events ≡ length now.gate.events + 1
  one_less = let l = ap (λ (g : GateState). length g.events) is in omega (arith, l)

  same_room : old.lines.room ≡ now.lines.room
  same_room = ap (λ (r : LineReader). r.room) lines

  pub room_after_event : (count after : ℕ) → count + room_of old < 2 ^ 64 → after ≡ count + 1 → after + room_of now < 2 ^ 64
  room_after_event count after room counted = let l = one_less in let r = same_room in omega (arith, l, r, room, counted)

  pub room_for_event : (count : ℕ) → count + room_of old < 2 ^ 64 → count + 1 < 2 ^ 64
  room_for_event count room = let l = one_less in omega (arith, l, room)

  pub turns_after_event : turns_of now < turns_of old
  turns_after_event =
      let l = one_less in let r = same_room in
      let f : last_turn old.gate.is_finished ≡ last_turn now.gate.is_finished = ap (λ (g : GateState). last_turn g.is_finished) is in
      omega (arith, l, r, f)

  pub goes_on_after_event : (schema last : Declared) → last ≡ schema → MayGoOn schema old → MayGoOn last now
  goes_on_after_event schema last same may = record {
    is_open = λ going. subst (λ (r : LineReader). r.closed ≡ false) lines (may.is_open (ap (λ (g : GateState). g.is_finished) is ∙ going));
    of_schema = subst (λ (s : Declared). AreOfSchema s now.gate) (sym same) (subst (AreOfSchema schema) is may.of_schema).1;
  }

-- a line was put
pub room_after_line : (old now : GatedEvents) (count : ℕ) → count + room_of old < 2 ^ 64 → now.lines.room < old.lines.room → length now.gate.events ≤ length old.gate.events + 1 → count + room_of now < 2 ^ 64
room_after_line old now count room less more = omega (arith, room, less, more)

pub turns_after_line : (old now : GatedEvents) → now.lines.room < old.lines.room → length now.gate.events ≤ length old.gate.events + 1 → old.gate.is_finished ≡ false → now.gate.is_finished ≡ false → turns_of now < turns_of old
turns_after_line old now less more going still =
    let f : last_turn old.gate.is_finished ≡ last_turn now.gate.is_finished = ap last_turn (going ∙ sym still) in
    omega (arith, less, more, f)

-- the gate was finished
pub room_after_end : (old now : GatedEvents) (count : ℕ) → count + room_of old < 2 ^ 64 → now.lines.room ≤ old.lines.room → now.gate ≡ record old.gate { is_finished = true } → count + room_of now < 2 ^ 64
room_after_end old now count room less is = let l = ap (λ (g : GateState). length g.events) is in omega (arith, room, less, l)

pub turns_after_end : (old now : GatedEvents) → now.lines.room ≤ old.lines.room → now.gate ≡ record old.gate { is_finished = true } → old.gate.is_finished ≡ false → turns_of now < turns_of old
turns_after_end old now less is going =
    let l = ap (λ (g : GateState). length g.events) is in
    let f : last_turn old.gate.is_finished ≡ 1 = ap last_turn going in
    let n : last_turn now.gate.is_finished ≡ 0 = ap (λ (g : GateState). last_turn g.is_finished) is in
    omega (arith, less, l, f, n)
