-- What became of many lines that were given at once.
use Rattle.std.specs.Prelude.{◌≡◌, ℕ, ◌≤◌, ◌⊎◌, Bool, true, false, List, [], ◌∷◌, ◌++◌, length, take, drop, flat_map, Result, Ok, Err}
use Rattle.cer_base.specs.declared.OrMemory.{OrMemory}
use Rattle.cer_base.specs.declared.OrMemory.TheVariants.{Fault, Memory}
use Rattle.cer_base.specs.declared.bytes.TheConstants.{LINE_FEED}
use Rattle.event_reader.specs.Lines.{has_line_feed}
use Rattle.core_service.specs.declared.FedSome.{FedSome}
use Rattle.core_service.specs.declared.Refused.{Refused}
use Rattle.core_service.specs.declared.SomeStop.{SomeStop}
use Rattle.core_service.specs.declared.SomeStop.TheVariants as stop
use Rattle.core_service.specs.Answering.{NoneIsLeft}
use Rattle.core_service.specs.Services.{ServiceState, TakesEvent, PassesLine, RefusesLine}

-- the line's event was taken, and no answer is left at it; or the line gives none
abbrev pub IsQuiet : List ℕ → ServiceState → ServiceState → Type 0
IsQuiet line old new = (TakesEvent line old new × NoneIsLeft new.engine new.answers) ⊎ PassesLine line old new

-- these lines were taken so, one after the other
abbrev pub AreQuiet : List (List ℕ) → ServiceState → ServiceState → Type 0
AreQuiet [] old new = new ≡ old
AreQuiet (line ∷ lines) old new = (middle : ServiceState) × IsQuiet line old middle × AreQuiet lines middle new

-- the line with its line feed
abbrev pub with_feed : List ℕ → List ℕ
with_feed line = line ++ LINE_FEED ∷ []

-- What became of the next line: it was quiet; its event may have an answer; it was refused; or memory ran out. Private clauses alone cite it.
abbrev pub IsNext : List ℕ → ServiceState → ServiceState → Result Bool (OrMemory Refused) → Type 0
IsNext line old new (Ok false) = IsQuiet line old new
IsNext line old new (Ok true) = TakesEvent line old new
IsNext line old new (Err (Fault refused)) = RefusesLine line old new refused
IsNext line old new (Err Memory) = new ≡ old

-- the stop of lines of which the next one was not taken
abbrev pub some_stop : OrMemory Refused → SomeStop
some_stop (Fault refused) = stop.Refused refused
some_stop Memory = stop.Memory

-- The next of the bytes are a line, which is refused; nothing has changed.
pub record RefusesNext (rest : List ℕ) (old new : ServiceState) (refused : Refused) : Type 0 where
  pub line : List ℕ
  pub later : List ℕ
  pub next : rest ≡ with_feed line ++ later
  pub refuses : RefusesLine line old new refused

-- Why no further line was taken, where these bytes are left: the last line gives an event, which may have an answer; there is no whole line left; the next one is refused; or memory ran out.
abbrev pub HasStopped : List ℕ → List (List ℕ) → ServiceState → ServiceState → SomeStop → Type 0
HasStopped rest last old new stop.MayAnswer = (line : List ℕ) × (last ≡ line ∷ []) × TakesEvent line old new
HasStopped rest last old new stop.End = (last ≡ []) × (new ≡ old) × (has_line_feed rest ≡ false)
HasStopped rest last old new (stop.Refused refused) = (last ≡ []) × RefusesNext rest old new refused
HasStopped rest last old new stop.Memory = (last ≡ []) × (new ≡ old)

-- The first bytes, so many, are the lines that were taken: quiet ones, and a last one whose event may have an answer, where one was met.
pub record HasFedSome (bytes : List ℕ) (old new : ServiceState) (fed : FedSome) : Type 0 where
  pub quiet : List (List ℕ)
  pub last : List (List ℕ)
  pub middle : ServiceState
  pub within : fed.used ≤ length bytes
  pub used : take fed.used bytes ≡ flat_map with_feed (quiet ++ last)
  pub taken : AreQuiet quiet old middle
  pub stopped : HasStopped (drop fed.used bytes) last middle new fed.stop
