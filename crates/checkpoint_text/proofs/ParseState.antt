-- The histories that lines tell are spelled by them, and their events are of the schema.
use Rattle.std.proofs.Common.{◌≡◌, ℕ, ◌+◌, Bool, true, false, cond, List, [], ◌∷◌, ◌++◌, length, Some, None, Result, Ok, Err, ap, ◌∙◌}
use Rattle.std.specs.Prelude.{IfOk}
use Rattle.std.specs.List.{AllByRecursion}
use Rattle.cer_base.specs.declared.OrMemory.{OrMemory}
use Rattle.stream_schema.specs.Types.{Declared}
use Rattle.stream_schema.specs.Events.{IsOfSchema}
use Rattle.stream_schema.specs.declared.Event.{Event}
use Rattle.cel_terms.specs.declared.Query.{Query}
use Rattle.event_reader.specs.Events.{event_of_line, and_then}
use Rattle.event_reader.proofs.OfSchema.{read_is}
use Rattle.checkpoint_text.specs.declared.CheckpointFault.TheVariants as fault
use Rattle.checkpoint_text.specs.declared.HistoryFault.{HistoryFault}
use Rattle.checkpoint_text.specs.declared.history.EventAt.{EventAt}
use Rattle.checkpoint_text.specs.declared.history.History.{History}
use Rattle.checkpoint_text.specs.Checkpoints.{ParseState, Refusal, after_line, is_all_told, history_of, at_stop, history_in}
use Rattle.checkpoint_text.specs.Spelling.{AreEventLines, IsHistory}
use Rattle.checkpoint_text.specs.ReaderAnswers.{EndsAs, SomeTold, IsSpelled}
use Rattle.checkpoint_text.proofs.Lines.{told_more}
use Rattle.checkpoint_text.proofs.Histories.{spelled}

-- one line more
pub some_more : (schema : Declared) (queries : List Query) (told next : ParseState) (text : List ℕ) → after_line schema queries told text ≡ Ok next → SomeTold schema queries told → SomeTold schema queries next
some_more schema queries told next text step had = record {
  texts = had.texts ++ text ∷ [];
  told_is = told_more schema queries told next had.texts text had.told_is step;
}

-- a history that is told at the end is so whatever the number of the last line
at_any_number : (n m : ℕ) (told : ParseState) (history : History) → at_stop n told None ≡ Ok history → at_stop m told None ≡ Ok history
at_any_number n m told history e = by_test (is_all_told told told.stand.awaited) e
  where
    by_test : (w : Bool) → cond {A = Result History Refusal} w (Ok (history_of told)) (Err (record { line = n + 1; fault = fault.Short })) ≡ Ok history → cond {A = Result History Refusal} w (Ok (history_of told)) (Err (record { line = m + 1; fault = fault.Short })) ≡ Ok history
    by_test true f = f
    by_test false f = absurd cc

-- the lines of a text that ended spell its history
pub spelled_at_end : (schema : Declared) (queries : List Query) (number : ℕ) (told : ParseState) (result : Result ℕ (OrMemory HistoryFault)) → SomeTold schema queries told → EndsAs (at_stop number told None) told.events result →
    IfOk result (λ positions. IsSpelled schema queries (record { positions = positions; events = told.events }))
spelled_at_end schema queries number told (Err stop) had ends = tt
spelled_at_end schema queries number told (Ok positions) had ends =
    let history : History = record { positions = positions; events = told.events } in
    let read : history_in schema queries (record { texts = had.texts; fault = None }) ≡ Ok history =
    ap (λ r. and_then r (λ t. at_stop (length had.texts) t None)) had.told_is ∙ at_any_number number (length had.texts) told history ends in
    record { texts = had.texts; spells = (spelled schema queries (record { texts = had.texts; fault = None }) history read).1 }

-- the event of a line is of the schema
pub event_is : (schema : Declared) (text : List ℕ) (event : Event) → event_of_line schema text ≡ Ok (Some event) → IsOfSchema schema event
event_is schema text event e = read_is schema text (Ok (Some event)) e

lines_are : (schema : Declared) (events : List EventAt) (lines : List (List ℕ)) → AreEventLines schema events lines → AllByRecursion (λ e. IsOfSchema schema e.event) events
lines_are schema [] lines are = tt
lines_are schema (e ∷ events) lines (text, rest, is, gives, others) = (event_is schema text e.event gives, lines_are schema events rest others)

pub spelled_is_history : (schema : Declared) (queries : List Query) (history : History) → IsSpelled schema queries history → IsHistory schema queries history
spelled_is_history schema queries history s = s.spells.is

pub spelled_is_of_schema : (schema : Declared) (queries : List Query) (history : History) → IsSpelled schema queries history → AllByRecursion (λ e. IsOfSchema schema e.event) history.events
spelled_is_of_schema schema queries history s = lines_are schema history.events s.spells.later s.spells.events
