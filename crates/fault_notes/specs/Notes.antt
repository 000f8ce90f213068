-- The notes that the program leaves on standard error, each a line.
use Rattle.std.specs.Prelude.{ℕ, List, [], ◌∷◌, ◌++◌, decimal, codes}
use Rattle.cer_base.specs.declared.Location.{Location}
use Rattle.cer_base.specs.declared.bytes.TheConstants.{LINE_FEED}
use Rattle.ceql_grammar.specs.declared.faults.QueryFault.{QueryFault}
use Rattle.ceql_grammar.specs.FaultWords.{query_words}
use Rattle.event_reader.specs.declared.EventFault.{EventFault}
use Rattle.event_reader.specs.FaultWords.{event_words}
use Rattle.fault_notes.specs.declared.File.{File}
use Rattle.fault_notes.specs.declared.File.TheVariants as file

-- a line that begins with the program's short name
abbrev pub note : List ℕ → List ℕ
note words = codes "core: " ++ words ++ LINE_FEED ∷ []

-- core: queries 4:25: unexpected token
abbrev pub query_note : QueryFault → Location → List ℕ
query_note fault place =
    note (codes "queries " ++ decimal place.line ++ codes ":" ++ decimal place.col ++ codes ": " ++ query_words fault)

-- core: queries 1:1: clock attribute t is not INT in every type
abbrev pub clock_note : List ℕ → List ℕ
clock_note name = note (codes "queries 1:1: clock attribute " ++ name ++ codes " is not INT in every type")

-- core: events line 3: open quote
abbrev pub event_note : ℕ → EventFault → List ℕ
event_note line fault = note (codes "events line " ++ decimal line ++ codes ": " ++ event_words fault)

-- core: events longer than 1099511627776 bytes
abbrev pub too_long_note : ℕ → List ℕ
too_long_note bytes = note (codes "events longer than " ++ decimal bytes ++ codes " bytes")

-- core: checkpoint line 2: bad count
abbrev pub checkpoint_note : ℕ → List ℕ → List ℕ
checkpoint_note line words = note (codes "checkpoint line " ++ decimal line ++ codes ": " ++ words)

-- the word for a file
abbrev pub file_word : File → List ℕ
file_word file.Queries = codes "queries"
file_word file.Checkpoint = codes "checkpoint"
file_word file.Events = codes "events"

-- core: cannot open events
abbrev pub open_note : File → List ℕ
open_note named = note (codes "cannot open " ++ file_word named)

-- core: cannot read queries
abbrev pub read_note : File → List ℕ
read_note named = note (codes "cannot read " ++ file_word named)

abbrev pub write_note : List ℕ
write_note = note (codes "cannot write")

abbrev pub memory_note : List ℕ
memory_note = note (codes "out of memory")

-- each command with its options
abbrev pub usage_note : List ℕ
usage_note =
    note (codes "usage: core_cli run QUERIES EVENTS [--order walk|sorted] [--compact-every N] [--max-bytes N], core_cli sample SEED COUNT, core_cli session QUERIES SCRIPT, core_cli reorder QUERIES EVENTS CLOCK LATE [--order walk|sorted] [--compact-every N] [--max-bytes N], core_cli explain QUERIES EVENTS QUERY START END [POSITION]..., core_cli save QUERIES EVENTS, core_cli resume QUERIES CHECKPOINT EVENTS [--order walk|sorted] [--compact-every N] [--max-bytes N]")
