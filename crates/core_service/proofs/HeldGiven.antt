-- What a held cursor gives over many calls.
use Rattle.std.proofs.Common.{◌≡◌, ℕ, ◌-◌, inl, inr, Bool, true, false, List, [], ◌∷◌, ◌++◌, drop, Option, Some, None, Result, Ok, Err, sym, ◌∙◌, ap, subst, append_assoc, arith}
use Rattle.std.proofs.lemmas.Bool.Decides.{eqb_tells}
use Rattle.std.proofs.lemmas.List.{append-nil}
use Rattle.cer_base.specs.declared.OrMemory.{OrMemory}
use Rattle.cer_base.specs.declared.OrMemory.TheVariants.{Fault, Memory}
use Rattle.answer_text.specs.OutputRows.{Row}
use Rattle.query_engine.specs.Engine.{EngineState}
use Rattle.core_service.specs.declared.AnswerNumbers.{AnswerNumbers}
use Rattle.core_service.specs.declared.Fed.{Fed}
use Rattle.core_service.specs.declared.Fed.TheVariants as feds
use Rattle.core_service.specs.declared.HeldFault.{HeldFault}
use Rattle.core_service.specs.declared.HeldFault.TheVariants as fault
use Rattle.core_service.specs.declared.HoldFault.{HoldFault}
use Rattle.core_service.specs.declared.Refused.{Refused}
use Rattle.core_service.specs.declared.SomeStop.{SomeStop}
use Rattle.core_service.specs.declared.SomeStop.TheVariants as stop
use Rattle.core_service.specs.Holding.{HeldRows, rows_left, held_rows, SameHeld}
use Rattle.core_service.specs.Services.{ServiceState, IsFed, Gives}
use Rattle.core_service.specs.ManyLines.{IsQuiet, AreQuiet, HasStopped}
use Rattle.core_service.specs.HeldCalls.{LeavesAnswers, IsHeld, IsPeeked, IsPulled, IsAdvanced, IsLetGo, GoesOn, StaysHeld}
use Rattle.core_service.specs.HoldingLaws.{row_pulled, IsCall, pulled, advanced, peeked, pulled_other, advanced_other, dropped_other, held, fed, fed_some, looked, answered, gave_drawn, compacted, unchanged, AreCalls, none, one, HeldCursorsKeepAllRows, HeldCursorsGiveAllRows}
use Rattle.core_service.proofs.Changing.{item}

-- what the service's held cursor of this number has left
abbrev left_in : ServiceState → ℕ → Option HeldRows
left_in service number = held_rows service.engine service.held number

-- NOTHING IS TAKEN FROM THE CURSOR

stays_as : (old new : ServiceState) (number : ℕ) → new ≡ old → left_in new number ≡ left_in old number
stays_as old new number same = ap (λ (s : ServiceState). left_in s number) same

stays_by : (old new : ServiceState) (number : ℕ) → SameHeld old.engine new.engine old.held new.held → left_in new number ≡ left_in old number
stays_by old new number same = same.rows number

-- the engine and the held cursors stay
stays_both : (old new : ServiceState) (number : ℕ) → new.engine ≡ old.engine → new.held ≡ old.held → left_in new number ≡ left_in old number
stays_both old new number engine same = ap (λ (e : EngineState). held_rows e new.held number) engine ∙ ap (λ h. held_rows old.engine h number) same

-- the engine stays, and so does what the cursor has left
stays_engine : (old new : ServiceState) (number : ℕ) → LeavesAnswers old new → held_rows old.engine new.held number ≡ left_in old number → left_in new number ≡ left_in old number
stays_engine old new number leaves same = ap (λ (e : EngineState). held_rows e new.held number) leaves.engine ∙ same

fed_stays : (line : List ℕ) (old new : ServiceState) (number : ℕ) (result : Result Fed (OrMemory Refused)) → IsFed line old new result → left_in new number ≡ left_in old number
fed_stays line old new number (Ok feds.Event) h = stays_by old new number h.held
fed_stays line old new number (Ok feds.Nothing) h = ap (λ (s : ServiceState). left_in s number) h.stays
fed_stays line old new number (Err (Fault refused)) h = stays_as old new number h.stays
fed_stays line old new number (Err Memory) h = stays_as old new number h

quiet_stays : (line : List ℕ) (old new : ServiceState) (number : ℕ) → IsQuiet line old new → left_in new number ≡ left_in old number
quiet_stays line old new number (inl h) = stays_by old new number h.0.held
quiet_stays line old new number (inr h) = ap (λ (s : ServiceState). left_in s number) h.stays

quiets_stay : (lines : List (List ℕ)) (old new : ServiceState) (number : ℕ) → AreQuiet lines old new → left_in new number ≡ left_in old number
quiets_stay [] old new number same = stays_as old new number same
quiets_stay (line ∷ lines) old new number made = quiets_stay lines made.0 new number made.2 ∙ quiet_stays line old made.0 number made.1

stop_stays : (rest : List ℕ) (last : List (List ℕ)) (old new : ServiceState) (number : ℕ) (why : SomeStop) → HasStopped rest last old new why → left_in new number ≡ left_in old number
stop_stays rest last old new number stop.MayAnswer h = stays_by old new number h.2.held
stop_stays rest last old new number stop.End h = stays_as old new number h.1
stop_stays rest last old new number (stop.Refused refused) h = stays_as old new number h.1.refuses.stays
stop_stays rest last old new number stop.Memory h = stays_as old new number h.1

answered_stays : (old new : ServiceState) (number : ℕ) (given : List Row) → Gives old new given → left_in new number ≡ left_in old number
answered_stays old new number given h = stays_both old new number h.engine h.held

-- another cursor was asked
goes_stays : (old new : ServiceState) (number other : ℕ) (before now : HeldRows) → (other ≡ number → ⊥) → GoesOn other old new before now → left_in new number ≡ left_in old number
goes_stays old new number other before now differ h = stays_engine old new number h.leaves (h.changes.others number (λ same. differ (sym same)))

pulled_stays : (old new : ServiceState) (number other : ℕ) (result : Result (Option AnswerNumbers) HeldFault) → (other ≡ number → ⊥) → IsPulled other old new result → left_in new number ≡ left_in old number
pulled_stays old new number other (Ok (Some numbers)) differ h = goes_stays old new number other h.before h.now differ h.goes
pulled_stays old new number other (Ok None) differ h = goes_stays old new number other h.stays.before h.stays.now differ h.stays.goes
pulled_stays old new number other (Err fault.NotHeld) differ h = stays_as old new number h.stays
pulled_stays old new number other (Err fault.Memory) differ h = goes_stays old new number other h.before h.now differ h.goes

advanced_stays : (old new : ServiceState) (number other : ℕ) (found : Bool) → (other ≡ number → ⊥) → IsAdvanced other old new found → left_in new number ≡ left_in old number
advanced_stays old new number other true differ h = stays_engine old new number h.leaves (h.given.changes.others number (λ same. differ (sym same)))
advanced_stays old new number other false differ h = stays_as old new number h.stays

dropped_stays : (old new : ServiceState) (number other : ℕ) (found : Bool) → (other ≡ number → ⊥) → IsLetGo other old new found → left_in new number ≡ left_in old number
dropped_stays old new number other true differ h = stays_engine old new number h.leaves (h.drops.others number (λ same. differ (sym same)))
dropped_stays old new number other false differ h = stays_as old new number h.stays

-- WHAT THE CURSOR GIVES

-- It had rows left, gave these, and has the rows behind them left.
record Gave (number : ℕ) (before : HeldRows) (given : List Row) (new : ServiceState) : Type 0 where
  now : HeldRows
  here : left_in new number ≡ Some now
  split : rows_left before ≡ given ++ rows_left now

gave_none : (number : ℕ) (before : HeldRows) (given : List Row) (old new : ServiceState) → left_in old number ≡ Some before → given ≡ [] → left_in new number ≡ left_in old number → Gave number before given new
gave_none number before given old new was nothing same = record { now = before; here = same ∙ was; split = sym (ap (λ (l : List Row). l ++ rows_left before) nothing) }

-- the cursor was asked itself
gave_goes : (number : ℕ) (before first now : HeldRows) (given : List Row) (old new : ServiceState) → left_in old number ≡ Some before → GoesOn number old new first now → rows_left first ≡ given ++ rows_left now → Gave number before given new
gave_goes number before first now given old new was goes split =
    let met : Some before ≡ Some first = sym was ∙ goes.changes.was in
    let same : before ≡ first = cc in record {
      now = now;
      here = ap (λ (e : EngineState). held_rows e new.held number) goes.leaves.engine ∙ goes.changes.is;
      split = ap rows_left same ∙ split;
    }

gave_stays : (number : ℕ) (before : HeldRows) (given : List Row) (old new : ServiceState) → left_in old number ≡ Some before → given ≡ [] → StaysHeld number old new → Gave number before given new
gave_stays number before given old new was nothing h =
    gave_goes number before h.before h.now given old new was h.goes (sym h.left ∙ sym (ap (λ (l : List Row). l ++ rows_left h.now) nothing))

gave_pulled : (number : ℕ) (before : HeldRows) (given : List Row) (old new : ServiceState) (result : Result (Option AnswerNumbers) HeldFault) → left_in old number ≡ Some before → given ≡ row_pulled new.answers.positions result → IsPulled number old new result →
    Gave number before given new
gave_pulled number before given old new (Ok (Some numbers)) was is h =
    gave_goes number before h.before h.now given old new was h.goes (h.gives ∙ sym (ap (λ (l : List Row). l ++ rows_left h.now) is))
gave_pulled number before given old new (Ok None) was is h = gave_stays number before given old new was is h.stays
gave_pulled number before given old new (Err fault.NotHeld) was is h = gave_none number before given old new was is (stays_as old new number h.stays)
gave_pulled number before given old new (Err fault.Memory) was is h = gave_stays number before given old new was is h

peeked_same : (number : ℕ) (before : HeldRows) (given : List Row) (old new : ServiceState) (result : Result (Option AnswerNumbers) HeldFault) → left_in old number ≡ Some before → given ≡ [] → IsPeeked number old new result → Gave number before given new
peeked_same number before given old new (Ok (Some numbers)) was nothing h = gave_stays number before given old new was nothing h.stays
peeked_same number before given old new (Ok None) was nothing h = gave_stays number before given old new was nothing h.stays
peeked_same number before given old new (Err fault.NotHeld) was nothing h = gave_none number before given old new was nothing (stays_as old new number h.stays)
peeked_same number before given old new (Err fault.Memory) was nothing h = gave_stays number before given old new was nothing h

peeked_stays : (old new : ServiceState) (number other : ℕ) (result : Result (Option AnswerNumbers) HeldFault) → (other ≡ number → ⊥) → IsPeeked other old new result → left_in new number ≡ left_in old number
peeked_stays old new number other (Ok (Some numbers)) differ h = goes_stays old new number other h.stays.before h.stays.now differ h.stays.goes
peeked_stays old new number other (Ok None) differ h = goes_stays old new number other h.stays.before h.stays.now differ h.stays.goes
peeked_stays old new number other (Err fault.NotHeld) differ h = stays_as old new number h.stays
peeked_stays old new number other (Err fault.Memory) differ h = goes_stays old new number other h.before h.now differ h.goes

gave_peeked : (number cursor : ℕ) (before : HeldRows) (given : List Row) (old new : ServiceState) (result : Result (Option AnswerNumbers) HeldFault) → left_in old number ≡ Some before → given ≡ [] → IsPeeked cursor old new result → Gave number before given new
gave_peeked number cursor before given old new result was nothing h = elim (eqb_tells cursor number) [
  | inl same ↦ peeked_same number before given old new result was nothing (subst (λ (n : ℕ). IsPeeked n old new result) same.1 h)
  | inr other ↦ gave_none number before given old new was nothing (peeked_stays old new number cursor result other.1 h)
]

-- a new cursor has another number
held_stays : (number query : ℕ) (before : HeldRows) (old new : ServiceState) (result : Result ℕ HoldFault) → left_in old number ≡ Some before → IsHeld query old new result → left_in new number ≡ left_in old number
held_stays number query before old new (Ok fresh) was h = stays_engine old new number h.leaves (h.adds.others number (λ same.
    let free = subst (λ (n : ℕ). left_in old n ≡ None) (sym same) h.adds.free in
    let clash : Some before ≡ None = sym was ∙ free in
    cc))
held_stays number query before old new (Err why) was h = stays_as old new number h.0

gave : (number : ℕ) (before : HeldRows) (given : List Row) (old new : ServiceState) → left_in old number ≡ Some before → IsCall number old given new → Gave number before given new
gave number before given old new was (pulled result is h) = gave_pulled number before given old new result was is h
gave number before given old new was (advanced h is) =
    let goes : GoesOn number old new h.given.before (record h.given.before { drawn = [] }) = record { leaves = h.leaves; changes = h.given.changes } in
    gave_goes number before h.given.before (record h.given.before { drawn = [] }) given old new was goes (ap (λ (l : List Row). l ++ h.given.before.later) (sym is))
gave number before given old new was (peeked cursor result nothing h) = gave_peeked number cursor before given old new result was nothing h
gave number before given old new was (pulled_other other result nothing differ h) = gave_none number before given old new was nothing (pulled_stays old new number other result differ h)
gave number before given old new was (advanced_other other found nothing differ h) = gave_none number before given old new was nothing (advanced_stays old new number other found differ h)
gave number before given old new was (dropped_other other found nothing differ h) = gave_none number before given old new was nothing (dropped_stays old new number other found differ h)
gave number before given old new was (held query result nothing h) = gave_none number before given old new was nothing (held_stays number query before old new result was h)
gave number before given old new was (fed line result nothing h) = gave_none number before given old new was nothing (fed_stays line old new number result h)
gave number before given old new was (fed_some bytes result nothing h) =
    gave_none number before given old new was nothing (stop_stays (drop result.used bytes) h.last h.middle new number result.stop h.stopped ∙ quiets_stay h.quiet old h.middle number h.taken)
gave number before given old new was (looked result nothing h) = gave_none number before given old new was nothing (answered_stays old new number [] h.gives)
gave number before given old new was (answered (Ok (Some numbers)) nothing h) = gave_none number before given old new was nothing (answered_stays old new number _ h.0)
gave number before given old new was (answered (Ok None) nothing h) = gave_none number before given old new was nothing (answered_stays old new number [] h.0)
gave number before given old new was (answered (Err why) nothing h) = gave_none number before given old new was nothing (answered_stays old new number [] h)
gave number before given old new was (gave_drawn nothing h) = gave_none number before given old new was nothing (stays_both old new number h.engine h.held)
gave number before given old new was (compacted nothing h) = gave_none number before given old new was nothing (stays_by old new number h.held)
gave number before given old new was (unchanged nothing same) = gave_none number before given old new was nothing (stays_as old new number same)

-- so all calls give
gave_all : (number : ℕ) (before : HeldRows) (given : List Row) (old new : ServiceState) → left_in old number ≡ Some before → AreCalls number old given new → Gave number before given new
gave_all number before given old new was (none nothing same) = gave_none number before given old new was nothing (stays_as old new number same)
gave_all number before given old new was (one middle front later is call calls) =
    let first = gave number before front old middle was call in
    let rest = gave_all number first.now later middle new first.here calls in record {
      now = rest.now;
      here = rest.here;
      split = first.split ∙ (ap (λ (l : List Row). front ++ l) rest.split ∙ (sym (append_assoc front later (rows_left rest.now)) ∙ ap (λ (l : List Row). l ++ rows_left rest.now) (sym is)));
    }

-- THE LAWS

pub keep_all_rows : HeldCursorsKeepAllRows
keep_all_rows text lines rows given service opened last query number served opens calls =
    let can = opens.can.numbered in
    let low = can.0 in
    let most = can.1 in
    let q = item service.engine.queries (query - 1) (omega arith) in
    let a = opens.are.are served.events q.0 served.stands q.1 in
    let was : left_in opened number ≡ Some opens.rows = ap (λ (e : EngineState). held_rows e opened.held number) opens.leaves.engine ∙ opens.adds.here in
    let all = gave_all number opens.rows given opened last was calls in
    let first : rows_left opens.rows ≡ opens.rows.later = ap (λ (l : List Row). l ++ opens.rows.later) opens.none_drawn in record {
      left = all.now;
      here = all.here;
      rows = record {
        q = q.0;
        numbered = q.1;
        answers = a.0;
        are_answers = a.1;
        are = sym all.split ∙ (first ∙ a.2);
      };
    }

pub give_all_rows : HeldCursorsGiveAllRows
give_all_rows text lines rows given service opened last end query number served opens calls over =
    let kept = keep_all_rows text lines rows given service opened last query number served opens calls in
    let stays = over.stays in
    let met : Some kept.left ≡ Some stays.before = sym kept.here ∙ stays.goes.changes.was in
    let same : kept.left ≡ stays.before = cc in
    let nothing : rows_left kept.left ≡ [] = ap rows_left same ∙ (sym stays.left ∙ over.over) in
    let r = kept.rows in record {
      q = r.q;
      numbered = r.numbered;
      answers = r.answers;
      are_answers = r.are_answers;
      are = sym (append-nil given) ∙ (ap (λ (l : List Row). given ++ l) (sym nothing) ∙ r.are);
    }
