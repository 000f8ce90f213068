-- What the lines of a file feed, from line to line, and that what a gate lets go of them goes first of all.
use Rattle.std.proofs.Common.{◌≡◌, ℕ, ◌+◌, ℤ, Bool, true, false, List, [], ◌∷◌, ◌++◌, length, Option, Some, None, Result, Ok, Err, refl, sym, ◌∙◌, ap, subst, append_assoc, append-nil, length-append, arith}
use Rattle.std.specs.Prelude.{IfSome}
use Rattle.cer_base.specs.declared.OrMemory.{OrMemory}
use Rattle.cer_base.specs.declared.OrMemory.TheVariants.{Fault}
use Rattle.stream_schema.specs.Types.{Declared}
use Rattle.stream_schema.specs.Events.{IsOfSchema}
use Rattle.stream_schema.specs.declared.Event.{Event as StreamEvent}
use Rattle.event_reader.specs.declared.EventFault.{EventFault}
use Rattle.event_reader.specs.declared.EventFault.TheVariants as event
use Rattle.event_reader.specs.declared.LineFault.{LineFault}
use Rattle.event_reader.specs.declared.LineFault.TheVariants as line
use Rattle.event_reader.specs.Events.{event_of_line}
use Rattle.event_reader.specs.Lines.{FileLines, file_lines}
use Rattle.event_reader.specs.LineReaders.{LineReader, HasGiven, HasTold, IsCutAt}
use Rattle.event_run.specs.Runs.{RunStop, stop_of}
use Rattle.event_run.specs.Runs as stop
use Rattle.event_run.proofs.Given.{first_given, numbered}
use Rattle.event_run.specs.Taking.{run_fault}
use Rattle.reorder_gate.specs.declared.gate.TooLate.{TooLate}
use Rattle.reorder_gate.specs.Sorting.{sorted}
use Rattle.reorder_gate.specs.Releasing.{greatest, IsInTime, released, BeginsWith}
use Rattle.reorder_gate.specs.Gates.{GateState, clock_at, lateness, with_event, StandsFor}
use Rattle.reorder_gate.proofs.ForCallers.{gone_goes_first, one_more, placed_length, all_with}
use Rattle.command_reorder.specs.Late.{NumberedEvent, Feed, LateEvents, unless_late, fed_after_line, fed_from, fed, let_go, AreFed}
use Rattle.command_reorder.specs.Gated.{IsGateOf, AreOfSchema, HasFed, AreFedRead, Feeds, HasPut, AfterPut, AfterText}

not_end : (put before : List NumberedEvent) (number : ℕ) (refusal : EventFault) → ◌≡◌ {A = LateEvents} (record { put = before; stop = stop.Event number refusal }) (record { put = put; stop = stop.End }) → ⊥
not_end put before number refusal same = let clash : stop.Event number refusal ≡ stop.End = ap (λ (f : LateEvents). f.stop) same in absurd cc

-- good lines, and then those after them
fed_then : (d : Feed) (number : ℕ) (before : List NumberedEvent) (done later : List (List ℕ)) (why : Option LineFault) (put : List NumberedEvent) (all : LateEvents) →
    fed_from d number before done None ≡ record { put = put; stop = stop.End } → fed_from d (number + length done) put later why ≡ all → fed_from d number before (done ++ later) why ≡ all
fed_then d number before [] later why put all good rest =
    let is : before ≡ put = ap (λ (f : LateEvents). f.put) good in
    let none : number + 0 ≡ number = omega arith in
    let P : List NumberedEvent → Type 0 = λ p. fed_from d number p later why ≡ all in
    let N : ℕ → Type 0 = λ n. fed_from d n put later why ≡ all in
    subst P (sym is) (subst N none rest)
fed_then d number before (text ∷ done) later why put all good rest =
    over (event_of_line d.schema text) good (λ g. fed_then d (number + 1) before done later why put all g moved) (λ e g. fed_then d (number + 1) (before ++ e ∷ []) done later why put all g moved)
  where
    moved : fed_from d (number + 1 + length done) put later why ≡ all
    moved = let N : ℕ → Type 0 = λ n. fed_from d n put later why ≡ all in
        let at : number + length (text ∷ done) ≡ number + 1 + length done = omega arith in subst N at rest

    late : (l : Option TooLate) (e : NumberedEvent) → unless_late number before (fed_from d (number + 1) (before ++ e ∷ []) done None) l ≡ record { put = put; stop = stop.End } →
        (fed_from d (number + 1) (before ++ e ∷ []) done None ≡ record { put = put; stop = stop.End } → fed_from d (number + 1) (before ++ e ∷ []) (done ++ later) why ≡ all) →
        unless_late number before (fed_from d (number + 1) (before ++ e ∷ []) (done ++ later) why) l ≡ all
    late None e good go = go good
    late (Some f) e good go = absurd (not_end put before number (event.TooLate f.high f.now) good)

    over : (line : Result (Option StreamEvent) EventFault) →
        fed_after_line d number before (fed_from d (number + 1) before done None) (λ e. fed_from d (number + 1) (before ++ e ∷ []) done None) line ≡ record { put = put; stop = stop.End } →
        (fed_from d (number + 1) before done None ≡ record { put = put; stop = stop.End } → fed_from d (number + 1) before (done ++ later) why ≡ all) →
        ((e : NumberedEvent) → fed_from d (number + 1) (before ++ e ∷ []) done None ≡ record { put = put; stop = stop.End } → fed_from d (number + 1) (before ++ e ∷ []) (done ++ later) why ≡ all) →
        fed_after_line d number before (fed_from d (number + 1) before (done ++ later) why) (λ e. fed_from d (number + 1) (before ++ e ∷ []) (done ++ later) why) line ≡ all
    over (Ok None) good skip go = skip good
    over (Ok (Some next)) good skip go = late (lateness (greatest d.clock before) d.late (d.clock (number, next))) (number, next) good (go (number, next))
    over (Err refusal) good skip go = absurd (not_end put before number refusal good)

-- What is fed begins with these events, and none of it comes too late.
record GrowsTo (d : Feed) (before : List NumberedEvent) (f : LateEvents) : Type 0 where
  pub more : List NumberedEvent
  pub put_is : f.put ≡ before ++ more
  pub in_time : IsInTime d.clock d.late f.put

grows : (d : Feed) (number : ℕ) (before : List NumberedEvent) (texts : List (List ℕ)) (why : Option LineFault) → IsInTime d.clock d.late before → GrowsTo d before (fed_from d number before texts why)
grows d number before [] why in_time = record { more = []; put_is = sym (append-nil before); in_time = in_time }
grows d number before (text ∷ texts) why in_time =
    over (event_of_line d.schema text) (grows d (number + 1) before texts why in_time) (λ e t. grows d (number + 1) (before ++ e ∷ []) texts why t)
  where
    late : (e : NumberedEvent) (l : Option TooLate) → lateness (greatest d.clock before) d.late (d.clock e) ≡ l →
        (IsInTime d.clock d.late (before ++ e ∷ []) → GrowsTo d (before ++ e ∷ []) (fed_from d (number + 1) (before ++ e ∷ []) texts why)) →
        GrowsTo d before (unless_late number before (fed_from d (number + 1) (before ++ e ∷ []) texts why) l)
    late e None is go =
        let g = go (one_more d.clock d.late before e in_time is) in
        record { more = e ∷ g.more; put_is = g.put_is ∙ append_assoc before (e ∷ []) g.more; in_time = g.in_time }
    late e (Some f) is go = record { more = []; put_is = sym (append-nil before); in_time = in_time }

    over : (line : Result (Option StreamEvent) EventFault) → GrowsTo d before (fed_from d (number + 1) before texts why) →
        ((e : NumberedEvent) → IsInTime d.clock d.late (before ++ e ∷ []) → GrowsTo d (before ++ e ∷ []) (fed_from d (number + 1) (before ++ e ∷ []) texts why)) →
        GrowsTo d before (fed_after_line d number before (fed_from d (number + 1) before texts why) (λ e. fed_from d (number + 1) (before ++ e ∷ []) texts why) line)
    over (Ok None) skip go = skip
    over (Ok (Some next)) skip go = late (number, next) (lateness (greatest d.clock before) d.late (d.clock (number, next))) refl (go (number, next))
    over (Err refusal) skip go = record { more = []; put_is = sym (append-nil before); in_time = in_time }

-- a file feeds what its first lines do, and then what those after them do
feeds_from : (d : Feed) (bytes : List ℕ) (texts later : List (List ℕ)) (put : List NumberedEvent) (all : LateEvents) → (file_lines d.most_bytes bytes).texts ≡ texts ++ later → AreFed d texts put →
    fed_from d (1 + length texts) put later (file_lines d.most_bytes bytes).fault ≡ all → fed d bytes ≡ all
feeds_from d bytes texts later put all whole good rest =
    let P : List (List ℕ) → Type 0 = λ t. fed_from d 1 [] t (file_lines d.most_bytes bytes).fault ≡ all in
    subst P (sym whole) (fed_then d 1 [] texts later (file_lines d.most_bytes bytes).fault put all good rest)

-- the file has no further line
feeds_all : (d : Feed) (bytes : List ℕ) (texts : List (List ℕ)) (why : Option LineFault) (put : List NumberedEvent) → file_lines d.most_bytes bytes ≡ record { texts = texts; fault = why } → AreFed d texts put →
    fed d bytes ≡ record { put = put; stop = stop_of why }
feeds_all d bytes texts why put is good =
    let P : FileLines → Type 0 = λ f. fed_from d 1 [] f.texts f.fault ≡ record { put = put; stop = stop_of why } in
    let T : List (List ℕ) → Type 0 = λ t. fed_from d 1 [] t why ≡ record { put = put; stop = stop_of why } in
    subst P (sym is) (subst T (append-nil texts) (fed_then d 1 [] texts [] why put (record { put = put; stop = stop_of why }) good refl))

-- the events of good lines come in time
fed_in_time : (d : Feed) (texts : List (List ℕ)) (put : List NumberedEvent) → AreFed d texts put → IsInTime d.clock d.late put
fed_in_time d texts put good =
    let P : LateEvents → Type 0 = λ f. IsInTime d.clock d.late f.put in subst P good (grows d 1 [] texts None tt).in_time

-- what was fed is where the file begins
fed_begins : (d : Feed) (reader : LineReader) (bytes : List ℕ) (left : Option (List ℕ)) (put : List NumberedEvent) → reader.budget ≡ d.most_bytes → HasFed d reader bytes left put → GrowsTo d put (fed d bytes)
fed_begins d reader bytes left put most had =
    let first = first_given reader bytes left had.texts had.given in
    let N : ℕ → Type 0 = λ n. (file_lines n bytes).texts ≡ had.texts ++ first.later in
    let rest = fed_from d (1 + length had.texts) put first.later (file_lines d.most_bytes bytes).fault in
    let is : fed d bytes ≡ rest = feeds_from d bytes had.texts first.later put rest (subst N most first.whole) had.good refl in
    let P : LateEvents → Type 0 = λ f. GrowsTo d put f in
    subst P (sym is) (grows d (1 + length had.texts) put first.later (file_lines d.most_bytes bytes).fault (fed_in_time d had.texts put had.good))

-- by why the feed stops
by_stop : (d : Feed) (gone list : List NumberedEvent) (halt : RunStop) → BeginsWith gone (released d.clock d.late list) → BeginsWith gone (sorted d.clock list) → BeginsWith gone (let_go d list halt)
by_stop d gone list stop.End before after = after
by_stop d gone list (stop.Event line refusal) before after = before
by_stop d gone list (stop.InputTooLong taken) before after = before

-- what a gate has let go, in the feed's words
as_asked : (d : Feed) (g : GateState) (gone list : List NumberedEvent) → IsGateOf d g → BeginsWith gone (released (clock_at g.places) g.late list) → BeginsWith gone (released d.clock d.late list)
as_asked d g gone list sits begins =
    let C : (NumberedEvent → ℤ) → Type 0 = λ k. BeginsWith gone (released k g.late list) in
    let L : ℕ → Type 0 = λ n. BeginsWith gone (released d.clock n list) in
    subst L sits.late (subst C sits.clock begins)

-- events that have gone before the end of the file
goes_open : (d : Feed) (g : GateState) (put gone : List NumberedEvent) (f : LateEvents) → GrowsTo d put f → IsGateOf d g → g.is_finished ≡ false → StandsFor g put gone → BeginsWith gone (let_go d f.put f.stop)
goes_open d g put gone f grown sits going stands =
    let F : List NumberedEvent → Type 0 = λ l. IsInTime d.clock d.late l in
    let K : (NumberedEvent → ℤ) → Type 0 = λ k. IsInTime k d.late (put ++ grown.more) in
    let L : ℕ → Type 0 = λ n. IsInTime (clock_at g.places) n (put ++ grown.more) in
    let both = gone_goes_first g put gone grown.more going stands (subst L (sym sits.late) (subst K (sym sits.clock) (subst F grown.put_is grown.in_time))) in
    let S : (NumberedEvent → ℤ) → Type 0 = λ k. BeginsWith gone (sorted k (put ++ grown.more)) in
    let P : List NumberedEvent → Type 0 = λ l. BeginsWith gone (let_go d l f.stop) in
    subst P (sym grown.put_is) (by_stop d gone (put ++ grown.more) f.stop (as_asked d g gone (put ++ grown.more) sits both.0) (subst S sits.clock both.1))

-- whatever a gate has let go is what it lets go first of the whole file
pub goes_first : (d : Feed) (finished : Bool) (reader : LineReader) (left : Option (List ℕ)) (bytes : List ℕ) (put gone : List NumberedEvent) (g : GateState) → reader.budget ≡ d.most_bytes → IsGateOf d g → g.is_finished ≡ finished → StandsFor g put gone → HasPut finished d reader left bytes put →
    BeginsWith gone (let_go d (fed d bytes).put (fed d bytes).stop)
goes_first d false reader left bytes put gone g most sits going stands read = goes_open d g put gone (fed d bytes) (fed_begins d reader bytes left put most read) sits going stands
goes_first d true reader left bytes put gone g most sits finished stands read =
    let P : LateEvents → Type 0 = λ f. BeginsWith gone (let_go d f.put f.stop) in
    let S : (NumberedEvent → ℤ) → Type 0 = λ k. sorted k put ≡ gone ++ g.events in
    subst P (sym read) (g.events, subst S sits.clock (sym stands.order))

-- ONE LINE

-- how the event comes too late, by the gate and by the feed
lateness_is : (d : Feed) (g : GateState) (put gone : List NumberedEvent) (e : NumberedEvent) → IsGateOf d g → StandsFor g put gone → lateness (greatest d.clock put) d.late (d.clock e) ≡ lateness g.high g.late (clock_at g.places e)
lateness_is d g put gone e sits stands =
    sym (ap (λ h. lateness h g.late (clock_at g.places e)) stands.high ∙ ap (λ k. lateness (greatest k put) g.late (k e)) sits.clock ∙ ap (λ n. lateness (greatest d.clock put) n (d.clock e)) sits.late)

-- a line that is an event feeds it, unless it comes too late
line_feeds : (d : Feed) (g : GateState) (number : ℕ) (next : StreamEvent) (text : List ℕ) (put gone : List NumberedEvent) (later : List (List ℕ)) (why : Option LineFault) (l : Option TooLate) → IsGateOf d g → StandsFor g put gone →
    event_of_line d.schema text ≡ Ok (Some next) → lateness g.high g.late (clock_at g.places (number, next)) ≡ l →
    fed_from d number put (text ∷ later) why ≡ unless_late number put (fed_from d (number + 1) (put ++ (number, next) ∷ []) later why) l
line_feeds d g number next text put gone later why l sits stands is late =
    let more = fed_from d (number + 1) (put ++ (number, next) ∷ []) later why in
    ap (λ line. fed_after_line d number put (fed_from d (number + 1) put later why) (λ e. fed_from d (number + 1) (put ++ e ∷ []) later why) line) is
    ∙ ap (λ o. unless_late number put more o) (lateness_is d g put gone (number, next) sits stands ∙ late)

none_late : {T : Type 0} (o : Option TooLate) (done : T) → IfSome o (λ late. ◌≡◌ {A = Result T (OrMemory TooLate)} (Ok done) (Err (Fault late))) → o ≡ None
none_late None done h = refl
none_late (Some late) done h = absurd cc

-- the gate took the event
pub event_put : {T : Type 0} (d : Feed) (g now : GateState) (number : ℕ) (next : StreamEvent) (text : List ℕ) (put gone : List NumberedEvent) (done : T) → IsGateOf d g → StandsFor g put gone → event_of_line d.schema text ≡ Ok (Some next) →
    IfSome (lateness g.high g.late (clock_at g.places (number, next))) (λ late. ◌≡◌ {A = Result T (OrMemory TooLate)} (Ok done) (Err (Fault late))) → StandsFor now (put ++ (number, next) ∷ []) gone →
    AfterText d number text now put gone {T = T} (Ok done)
event_put d g now number next text put gone done sits stands is in_time after =
    (put ++ (number, next) ∷ [], after, line_feeds d g number next text put gone [] None None sits stands is (none_late (lateness g.high g.late (clock_at g.places (number, next))) done in_time))

-- it came too late
pub event_late : (T : Type 0) (d : Feed) (g now : GateState) (number : ℕ) (next : StreamEvent) (text : List ℕ) (put gone : List NumberedEvent) (late : TooLate) → IsGateOf d g → StandsFor g put gone → event_of_line d.schema text ≡ Ok (Some next) →
    lateness g.high g.late (clock_at g.places (number, next)) ≡ Some late → AfterText d number text now put gone {T = T} (Err (Fault (event.TooLate late.high late.now)))
event_late T d g now number next text put gone late sits stands is told = λ later why. line_feeds d g number next text put gone later why (Some late) sits stands is told

-- what the gate holds is of the schema, and one more at most
pub held_with : (schema : Declared) (g now : GateState) (e : NumberedEvent) → now ≡ with_event g e → IsOfSchema schema e.1 → AreOfSchema schema g → AreOfSchema schema now
held_with schema g now e is one all =
    let P : GateState → Type 0 = λ h. AreOfSchema schema h in subst P (sym is) (all_with (λ (x : NumberedEvent). IsOfSchema schema x.1) (clock_at g.places) e g.events one all)

pub held_length : (g now : GateState) (e : NumberedEvent) → now ≡ with_event g e → length now.events ≡ length g.events + 1
held_length g now e is = let added = placed_length (clock_at g.places) e g.events in ap (λ (h : GateState). length h.events) is ∙ omega (arith, added)

-- WHAT IS READ

-- the reader gave one line more, and it is good
pub line_fed : (d : Feed) (bytes : List ℕ) (old new : LineReader) (before left : Option (List ℕ)) (number : ℕ) (put now : List NumberedEvent) → number ≡ new.number → HasFed d old bytes before put →
    ((bytes : List ℕ) (texts : List (List ℕ)) → HasGiven old bytes before texts → HasGiven new bytes left (texts ++ new.text ∷ [])) →
    fed_from d number put (new.text ∷ []) None ≡ record { put = now; stop = stop.End } → HasFed d new bytes left now
line_fed d bytes old new before left number put now numbered_is had gives one =
    let given = gives bytes had.texts had.given in
    let at = length-append had.texts (new.text ∷ []) in
    let is : number ≡ 1 + length had.texts = numbered_is ∙ numbered new bytes left (had.texts ++ new.text ∷ []) given ∙ omega (arith, at) in
    let N : ℕ → Type 0 = λ n. fed_from d n put (new.text ∷ []) None ≡ record { put = now; stop = stop.End } in
    record { texts = had.texts ++ new.text ∷ []; given = given; good = fed_then d 1 [] had.texts (new.text ∷ []) None put (record { put = now; stop = stop.End }) had.good (subst N is one) }

-- it stops the feed
pub line_stops : (d : Feed) (bytes : List ℕ) (old new : LineReader) (before left : Option (List ℕ)) (number : ℕ) (put : List NumberedEvent) (halt : RunStop) → number ≡ new.number → new.budget ≡ d.most_bytes → HasFed d old bytes before put →
    ((bytes : List ℕ) (texts : List (List ℕ)) → HasGiven old bytes before texts → HasGiven new bytes left (texts ++ new.text ∷ [])) →
    ((later : List (List ℕ)) (why : Option LineFault) → fed_from d number put (new.text ∷ later) why ≡ record { put = put; stop = halt }) → Feeds d bytes put halt
line_stops d bytes old new before left number put halt numbered_is most had gives stops =
    let given = gives bytes had.texts had.given in
    let at = length-append had.texts (new.text ∷ []) in
    let is : number ≡ 1 + length had.texts = numbered_is ∙ numbered new bytes left (had.texts ++ new.text ∷ []) given ∙ omega (arith, at) in
    let first = first_given new bytes left (had.texts ++ new.text ∷ []) given in
    let M : ℕ → Type 0 = λ n. (file_lines n bytes).texts ≡ (had.texts ++ new.text ∷ []) ++ first.later in
    let whole = subst M most first.whole ∙ append_assoc had.texts (new.text ∷ []) first.later in
    let why = (file_lines d.most_bytes bytes).fault in
    let N : ℕ → Type 0 = λ n. fed_from d n put (new.text ∷ first.later) why ≡ record { put = put; stop = halt } in
    feeds_from d bytes had.texts (new.text ∷ first.later) put (record { put = put; stop = halt }) whole had.good (subst N is (stops first.later why))

-- there is no further line
pub no_line : (d : Feed) (bytes : List ℕ) (old new : LineReader) (before left : Option (List ℕ)) (g : GateState) (put gone : List NumberedEvent) (why : LineFault) → new.budget ≡ d.most_bytes → HasFed d old bytes before put →
    ((bytes : List ℕ) (texts : List (List ℕ)) → HasGiven old bytes before texts → HasTold new.budget bytes left texts (Some why)) → AfterPut d new left g bytes put gone (Err (Fault (run_fault why)))
no_line d bytes old new before left g put gone line.ReadFault most had follows =
    let C : ℕ → Type 0 = λ n. IsCutAt n bytes left had.texts in
    read_to d left bytes put had.texts had.good (subst C most (follows bytes had.texts had.given))
  where
    read_to : (d : Feed) (left : Option (List ℕ)) (bytes : List ℕ) (put : List NumberedEvent) (texts : List (List ℕ)) → AreFed d texts put → IsCutAt d.most_bytes bytes left texts → AreFedRead d left bytes put
    read_to d None bytes put texts good cut = cut
    read_to d (Some rest) bytes put texts good cut = record { texts = texts; cut = cut; good = good }
no_line d bytes old new before left g put gone (line.LineTooLong number) most had follows =
    let M : ℕ → Type 0 = λ n. file_lines n bytes ≡ record { texts = had.texts; fault = Some (line.LineTooLong number) } in
    feeds_all d bytes had.texts (Some (line.LineTooLong number)) put (subst M most (follows bytes had.texts had.given)) had.good
no_line d bytes old new before left g put gone (line.InputTooLong taken) most had follows =
    let M : ℕ → Type 0 = λ n. file_lines n bytes ≡ record { texts = had.texts; fault = Some (line.InputTooLong taken) } in
    feeds_all d bytes had.texts (Some (line.InputTooLong taken)) put (subst M most (follows bytes had.texts had.given)) had.good

-- and the file has ended
pub no_more : (d : Feed) (bytes : List ℕ) (old new : LineReader) (before left : Option (List ℕ)) (put : List NumberedEvent) → new.budget ≡ d.most_bytes → HasFed d old bytes before put →
    ((bytes : List ℕ) (texts : List (List ℕ)) → HasGiven old bytes before texts → HasTold new.budget bytes left texts None) → Feeds d bytes put stop.End
no_more d bytes old new before left put most had follows =
    let M : ℕ → Type 0 = λ n. file_lines n bytes ≡ record { texts = had.texts; fault = None } in
    feeds_all d bytes had.texts None put (subst M most (follows bytes had.texts had.given)) had.good
