-- How many steps a session takes.
use Rattle.std.specs.Prelude.{ℕ, ◌⊎◌, List}
use Rattle.cer_outside.specs.Content.{Content}
use Rattle.stream_schema.specs.Types.{Declared}
use Rattle.cel_terms.specs.declared.Query.{Query}
use Rattle.stream_answers.specs.Streams.{EventsRequest}
use Rattle.command_words.specs.declared.SessionWords.{SessionWords}
use Rattle.command_base.specs.StepCounts.{Counts, counts_of_files}
use Rattle.cer_base.specs.declared.limits.TheConstants.{MOST_BYTES}
use Rattle.command_session.specs.Turns.{CountsTurns, CountsBegun, TookFirst}

-- what is asked of a script
abbrev pub script_asked : Declared → List Query → EventsRequest
script_asked schema queries = record { schema = schema; queries = queries; most_bytes = MOST_BYTES }

-- The steps of a script: those of the commands that were carried out, and perhaps those of the command in whose line it ended.
abbrev pub script_counts : Declared → List Query → List ℕ → Counts
script_counts schema queries script = record {
  all = λ Stops Took old now. CountsTurns (script_asked schema queries) script Took old now ⊎ CountsBegun (script_asked schema queries) script Took old now;
  at_fault = λ before after old now. CountsBegun (script_asked schema queries) script (TookFirst before) old now;
}

-- those over the bytes of the two files
abbrev pub session_steps : SessionWords → (List ℕ → Content) → Counts
session_steps s content = counts_of_files content s.queries s.script script_counts
