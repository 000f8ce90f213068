-- What a caller is told of a query text or of a line that is refused.
use Rattle.std.specs.Prelude.{◌≡◌, ℕ, List, ◌++◌, length, take, drop, min, decimal, codes, Option, Some, None}
use Rattle.ceql_grammar.specs.declared.faults.QueryError.{QueryError}
use Rattle.fault_notes.specs.Notes.{note, query_note, event_note}
use Rattle.core_service.specs.declared.Refused.{Refused}
use Rattle.core_service.specs.declared.LineRefusal.{LineRefusal}
use Rattle.core_service.specs.declared.LineRefusal.TheVariants as refusal
use Rattle.core_c.specs.declared.notes.CoreFault.{CoreFault}

-- A place, and the note on what is wrong there.
pub record Told : Type 0 where
  pub line : ℕ
  pub column : ℕ
  pub note : List ℕ

-- the room after the first of the values were put into it, as many as it takes; what is behind them stays
abbrev pub put_first : {A : Type 0} → List A → List A → List A
put_first from room = take (min (length from) (length room)) from ++ drop (min (length from) (length room)) room

-- The fault has the place and the length of the note, and the buffer begins with the first bytes of it.
pub record IsTold (told : Told) (fault : CoreFault) (room words : List ℕ) : Type 0 where
  pub line : fault.line ≡ told.line
  pub column : fault.column ≡ told.column
  pub bytes : fault.words ≡ length told.note
  pub begins : words ≡ put_first told.note room

-- this was told, or nothing was, and then nothing is written
abbrev pub HasTold : Option Told → CoreFault → CoreFault → List ℕ → List ℕ → Type 0
HasTold None old new room words = (new ≡ old) × (words ≡ room)
HasTold (Some told) old new room words = IsTold told new room words

-- core: events line 3: line feed in the line
abbrev pub line_feed_note : ℕ → List ℕ
line_feed_note line = note (codes "events line " ++ decimal line ++ codes ": line feed in the line")

-- why the line of this number is refused
abbrev pub note_on_line : ℕ → LineRefusal → List ℕ
note_on_line line refusal.LineFeed = line_feed_note line
note_on_line line (refusal.Event fault) = event_note line fault

abbrev pub refusal_note : Refused → List ℕ
refusal_note refused = note_on_line refused.line refused.refusal

-- what is told of a query text
abbrev pub query_told : QueryError → Told
query_told error = record { line = error.place.line; column = error.place.col; note = query_note error.fault error.place }

-- what is told of a line
abbrev pub refusal_told : Refused → Told
refusal_told refused = record { line = refused.line; column = 0; note = refusal_note refused }
