-- What a call of the reader answers.
use Rattle.std.specs.Prelude.{◌≡◌, ℕ, ◌+◌, List, Option, Some, None, Result, Ok, Err}
use Rattle.cer_base.specs.declared.OrMemory.{OrMemory}
use Rattle.cer_base.specs.declared.OrMemory.TheVariants.{Fault, Memory}
use Rattle.cer_outside.specs.Causes.{Rose}
use Rattle.stream_schema.specs.Types.{Declared}
use Rattle.cel_terms.specs.declared.Query.{Query}
use Rattle.event_reader.specs.declared.LineFault.{LineFault}
use Rattle.event_reader.specs.declared.LineFault.TheVariants as line
use Rattle.event_reader.specs.LineReaders.{LineReader, HasGiven, IsCutOff}
use Rattle.checkpoint_text.specs.declared.CheckpointFault.TheVariants as fault
use Rattle.checkpoint_text.specs.declared.HistoryFault.{HistoryFault}
use Rattle.checkpoint_text.specs.declared.HistoryFault.TheVariants.{Bad, ReadFault}
use Rattle.cer_base.specs.declared.limits.TheConstants.{MOST_BYTES}
use Rattle.checkpoint_text.specs.declared.history.EventAt.{EventAt}
use Rattle.checkpoint_text.specs.declared.history.History.{History}
use Rattle.checkpoint_text.specs.Checkpoints.{ParseState, Refusal, told_by, checkpoint_of}
use Rattle.checkpoint_text.specs.Spelling.{Spells}

-- The first lines of a text of these bytes are not refused: all that end among the bytes that are no longer left.
pub record AreGoodBefore (schema : Declared) (queries : List Query) (bytes rest : List ℕ) : Type 0 where
  pub texts : List (List ℕ)
  pub cut : IsCutOff MOST_BYTES bytes rest texts
  pub told : ParseState
  pub good : told_by schema queries texts ≡ Ok told

-- the first lines of a text, which a source that tells what it has left no longer has, are not refused
abbrev pub AreGoodRead : Declared → List Query → List ℕ → Option (List ℕ) → Type 0
AreGoodRead schema queries bytes None = ⊥
AreGoodRead schema queries bytes (Some rest) = AreGoodBefore schema queries bytes rest

-- The answer is the text's history or its refusal. After a fault of reading no line that was read is refused, and
-- after want of memory nothing is said.
abbrev pub IsOfText : Declared → List Query → List ℕ → Option (List ℕ) → Result History (OrMemory HistoryFault) → Type 0
IsOfText schema queries bytes left (Ok history) = checkpoint_of schema queries bytes ≡ Ok history
IsOfText schema queries bytes left (Err (Fault (Bad line fault))) =
    checkpoint_of schema queries bytes ≡ Err (record { line = line; fault = fault })
IsOfText schema queries bytes left (Err (Fault ReadFault)) = AreGoodRead schema queries bytes left
IsOfText schema queries bytes left (Err Memory) = Unit {0}

-- the source's count of faults rose where it failed, and else stays
abbrev pub HasReadCause : {T : Type 0} → ℕ → ℕ → Result T (OrMemory HistoryFault) → Type 0
HasReadCause before now (Err (Fault ReadFault)) = Rose before now
HasReadCause before now _ = now ≡ before

-- The reader has given lines of a file of these bytes, none of which is refused, and they told this.
pub record HasTold (schema : Declared) (queries : List Query) (reader : LineReader) (bytes : List ℕ) (left : Option (List ℕ)) (told : ParseState) : Type 0 where
  pub texts : List (List ℕ)
  pub given : HasGiven reader bytes left texts
  pub told_is : told_by schema queries texts ≡ Ok told

-- Some lines told this.
pub record SomeTold (schema : Declared) (queries : List Query) (told : ParseState) : Type 0 where
  pub texts : List (List ℕ)
  pub told_is : told_by schema queries texts ≡ Ok told

-- Some lines spell the history.
pub record IsSpelled (schema : Declared) (queries : List Query) (history : History) : Type 0 where
  pub texts : List (List ℕ)
  pub spells : Spells schema queries texts history

-- what is told of a file of these bytes, where reading it ended
abbrev pub IsEnd : Declared → List Query → List ℕ → Option (List ℕ) → List EventAt → Result ℕ (OrMemory HistoryFault) → Type 0
IsEnd schema queries bytes left events (Ok positions) =
    checkpoint_of schema queries bytes ≡ Ok (record { positions = positions; events = events })
IsEnd schema queries bytes left events (Err stop) = IsOfText schema queries bytes left (Err stop)

-- the answer is this: so many positions, the events being at hand, or a refusal
abbrev pub EndsAs : Result History Refusal → List EventAt → Result ℕ (OrMemory HistoryFault) → Type 0
EndsAs wanted events (Ok positions) = wanted ≡ Ok (record { positions = positions; events = events })
EndsAs wanted events (Err (Fault (Bad line fault))) = wanted ≡ Err (record { line = line; fault = fault })
EndsAs wanted events (Err (Fault ReadFault)) = ⊥
EndsAs wanted events (Err Memory) = ⊥

-- why there is no history, where there is no further line after so many
abbrev pub fault_of : ℕ → LineFault → HistoryFault
fault_of lines line.ReadFault = ReadFault
fault_of lines (line.LineTooLong number) = Bad number fault.LongLine
fault_of lines (line.InputTooLong taken) = Bad (lines + 1) fault.TooLong
