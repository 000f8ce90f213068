-- How one line of a script ends, from how its command does.
use Rattle.std.proofs.Common.{◌≡◌, ℕ, ◌+◌, inl, inr, false, List, [], Option, Some, None, Result, Ok, Err, refl, sym, subst, arith}
use Rattle.std.specs.Prelude.{OnOk}
use Rattle.cer_base.specs.declared.OrMemory.{OrMemory}
use Rattle.cer_base.specs.declared.OrMemory.TheVariants.{Fault, Memory}
use Rattle.cer_base.specs.Answers.{Gives}
use Rattle.stream_schema.specs.Types.{Declared}
use Rattle.cel_terms.specs.declared.Query.{Query}
use Rattle.stream_answers.proofs.Portions.{took_none}
use Rattle.query_engine.specs.Engine.{EngineState}
use Rattle.event_reader.specs.declared.EventFault.{EventFault}
use Rattle.command_session.specs.declared.command.ScriptCommand.{ScriptCommand}
use Rattle.command_session.specs.declared.command.ScriptCommand.TheVariants as command
use Rattle.command_session.specs.declared.session.RunFault.{RunFault}
use Rattle.command_session.specs.declared.session.RunFault.TheVariants as run
use Rattle.command_session.specs.declared.session.Refusal.{Refusal}
use Rattle.command_session.specs.SessionModel.{SessionModel, IsRefused}
use Rattle.command_session.specs.Sessions.{Session, Stands, Ended, Wanted, HasRunCause, EngineEnded, StepsAreWithin, put_by_in}
use Rattle.command_session.specs.CommandSteps.{CostsAtMost}
use Rattle.command_session.specs.Scripts.{asked_by}
use Rattle.command_session.specs.Playing.{LineEnded, LineMade, LineCosts, NoStepIfRefused, HasLineCause, line_end, line_fault}

-- what a line asks for, by another name of the schema
pub asked_as : (schema now : Declared) (text : List ℕ) (found : Result (Option ScriptCommand) EventFault) → now ≡ schema → asked_by now text ≡ found → asked_by schema text ≡ found
asked_as schema now text found same is = subst (λ (s : Declared). asked_by s text ≡ found) same is

-- where memory ran out, nothing has changed or bytes were cut off
wanted : (asked : ScriptCommand) (U B X : Type 0) → Wanted asked U B → (U → X) → (B → X) → X
wanted (command.Event event) U B X w unchanged broke = elim w [ inl u ↦ unchanged u | inr b ↦ broke b ]
wanted (command.Pull cursor n) U B X w unchanged broke = broke w
wanted (command.OpenAt query cursor) U B X w unchanged broke = unchanged w
wanted (command.Drop cursor) U B X w unchanged broke = unchanged w
wanted command.Compact U B X w unchanged broke = unchanged w

-- what its command made of the engine
pub command_made : (number : ℕ) (asked : ScriptCommand) (old : EngineState) (new : Session) (line : Result (Option ScriptCommand) EventFault) (ended : Result (Unit {0}) RunFault) → line ≡ Ok (Some asked) → EngineEnded asked old new ended →
    OnOk (line_end number ended) (LineMade old new line)
command_made number asked old new line (Ok done) is made = subst (λ (l : Result (Option ScriptCommand) EventFault). LineMade old new l) (sym is) made
command_made number asked old new line (Err (run.Refused why)) is made = tt
command_made number asked old new line (Err run.WriteFault) is made = tt
command_made number asked old new line (Err run.Memory) is made = tt

-- it has none
pub none_made : (old : EngineState) (new : Session) (line : Result (Option ScriptCommand) EventFault) → line ≡ Ok None → new.engine ≡ old → LineMade old new line
none_made old new line is same = subst (λ (l : Result (Option ScriptCommand) EventFault). LineMade old new l) (sym is) same

-- the command of the line ended
pub command_ended : (number : ℕ) (text : List ℕ) (asked : ScriptCommand) (old : Session) (machine : SessionModel) (new : Session) (before after : Option (List ℕ)) (ended : Result (Unit {0}) RunFault) →
    asked_by old.engine.schema text ≡ Ok (Some asked) → Ended asked old machine new before after ended →
    LineEnded old.engine.schema old.engine.queries number text machine new before after (line_end number ended)
command_ended number text asked old machine new before after (Ok done) is went =
    record { next = went.next; own = went.bytes; good = inr (asked, is, went.step); stands = went.stands; going = went.going; took = went.took }
command_ended number text asked old machine new before after (Err (run.Refused why)) is refused = (refl, refused.1.written, inr (asked, why, is, refused.0, refl))
command_ended number text asked old machine new before after (Err run.WriteFault) is broke =
    record { next = broke.1.next; own = broke.1.bytes; good = inr (asked, is, broke.1.step); took = broke.1.took }
command_ended number text asked old machine new before after (Err run.Memory) is want =
    wanted asked _ _ _ want (λ unchanged. inl unchanged.written) (λ broke. inr (record { next = broke.next; own = broke.bytes; good = inr (asked, is, broke.step); took = broke.took }))

pub command_cause : (number before now : ℕ) (ended : Result (Unit {0}) RunFault) → HasRunCause before now ended → HasLineCause before now (line_end number ended)
command_cause number before now (Ok done) cause = cause
command_cause number before now (Err (run.Refused why)) cause = cause
command_cause number before now (Err run.WriteFault) cause = cause
command_cause number before now (Err run.Memory) cause = cause

-- the line has no command
pub passed_over : (schema : Declared) (queries : List Query) (number : ℕ) (text : List ℕ) (machine : SessionModel) (session : Session) (taken : Option (List ℕ)) (done : Unit {0}) → asked_by schema text ≡ Ok None → Stands session machine → session.closed ≡ false →
    LineEnded schema queries number text machine session taken taken (Ok done)
passed_over schema queries number text machine session taken done is stands going =
    record { next = machine; own = []; good = inl (is, refl, refl); stands = stands; going = going; took = took_none taken }

-- the line was not read
pub unread : (schema now : Declared) (queries : List Query) (number : ℕ) (text : List ℕ) (machine : SessionModel) (session : Session) (taken : Option (List ℕ)) (stop : OrMemory EventFault) → now ≡ schema →
    Gives {X = Option ScriptCommand} (λ found. found) (Err stop) (asked_by now text) → LineEnded schema queries number text machine session taken taken (Err (line_fault number stop))
unread schema now queries number text machine session taken (Fault refused) same is = (refl, refl, inl (asked_as schema now text (Err refused) same is))
unread schema now queries number text machine session taken Memory same is = inl refl

pub unread_cause : (number count : ℕ) (stop : OrMemory EventFault) → HasLineCause count count (Err (line_fault number stop))
unread_cause number count (Fault refused) = refl
unread_cause number count Memory = refl

-- THE STEPS OF A LINE

-- those of its command
pub command_costs : (asked : ScriptCommand) (old : Session) (machine : SessionModel) (new : Session) (before after : ℕ) (line : Result (Option ScriptCommand) EventFault) → line ≡ Ok (Some asked) → CostsAtMost asked old machine new before after →
    LineCosts old.engine.schema old.engine.queries old.engine machine (before + put_by_in old) (after + put_by_in new) line
command_costs asked old machine new before after line is costs =
    let P : Result (Option ScriptCommand) EventFault → Type 0 = λ l. LineCosts old.engine.schema old.engine.queries old.engine machine (before + put_by_in old) (after + put_by_in new) l in
    subst P (sym is) costs

pub no_costs : (old : Session) (machine : SessionModel) (before after : ℕ) (line : Result (Option ScriptCommand) EventFault) → after ≡ before → LineCosts old.engine.schema old.engine.queries old.engine machine (before + put_by_in old) (after + put_by_in old) line
no_costs old machine before after line same most meet few = omega (arith, same)

-- a command that is refused
refused_takes_none : (asked : ScriptCommand) (old : Session) (machine : SessionModel) (new : Session) (before after : ℕ) (why : Refusal) → IsRefused old.engine.schema old.engine.queries asked machine why →
    StepsAreWithin asked old machine new before after (Err (run.Refused why)) → after ≡ before
refused_takes_none (command.Event event) old machine new before after why refused within = within
refused_takes_none (command.OpenAt query cursor) old machine new before after why refused within = within
refused_takes_none (command.Pull cursor n) old machine new before after why refused within = within
refused_takes_none (command.Drop cursor) old machine new before after why refused within = within
refused_takes_none command.Compact old machine new before after why refused within = absurd refused

pub command_refused : (number : ℕ) (asked : ScriptCommand) (old : Session) (machine : SessionModel) (new : Session) (first last : Option (List ℕ)) (before after : ℕ) (ended : Result (Unit {0}) RunFault) →
    Ended asked old machine new first last ended → StepsAreWithin asked old machine new before after ended → NoStepIfRefused before after (line_end number ended)
command_refused number asked old machine new first last before after (Ok done) is within = tt
command_refused number asked old machine new first last before after (Err (run.Refused why)) is within = refused_takes_none asked old machine new before after why is.0 within
command_refused number asked old machine new first last before after (Err run.WriteFault) is within = tt
command_refused number asked old machine new first last before after (Err run.Memory) is within = tt

pub unread_none : (number before : ℕ) (stop : OrMemory EventFault) → NoStepIfRefused before before (Err (line_fault number stop))
unread_none number before (Fault refused) = refl
unread_none number before Memory = tt
