-- What the words after the program's name ask for: the command that clap reads in them.
use Rattle.std.specs.Prelude.{◌≡◌, ℕ, Bool, true, false, List, [], ◌∷◌, Option, Some, None, codes}
use Rattle.std.specs.Prelude.{if◌then◌else◌, option_map, option_and_then, unwrap_or, min}
use Rattle.std.specs.List.{filter_map}
use Rattle.std.specs.Option.{option_map_or}
use Rattle.std.specs.Str.{bytes_eq}
use Rattle.std.specs.Str.Parse.{digits_value, without_leading_plus}
use Rattle.clap.specs.ValueTests.{is_unsigned_in}
use Rattle.clap.specs.Words.{Kinds, Row, Text, all_of, fault_of, first_of, one_of, subcommand_of}
use Rattle.cer_base.specs.declared.limits.TheConstants.{MOST_BYTES}
use Rattle.answer_text.specs.declared.Order.{Order}
use Rattle.answer_text.specs.declared.Order.TheVariants.{Walk, Sorted}
use Rattle.command_words.specs.declared.Command.{Command}
use Rattle.command_words.specs.declared.Command.TheVariants.{Run, Sample, Session, Reorder, Explain, Save, Resume}
use Rattle.command_words.specs.Program.{program}

-- the name under an id
abbrev pub text_in : Text → List Row → Text
text_in id rows = unwrap_or (first_of id rows) []

-- the whole number below 2 ^ 64 that the text has in decimal digits, after a plus or not
abbrev pub parsed_number : Text → Option ℕ
parsed_number text = if is_unsigned_in 0 18446744073709551615 text
    then Some (digits_value 10 (without_leading_plus text)) else None

-- the number under an id, where one is given
abbrev pub number_under : Text → List Row → Option ℕ
number_under id rows = option_and_then parsed_number (one_of id rows)

-- the number under an id, or the one that holds where none is given
abbrev pub number_in : ℕ → Text → List Row → ℕ
number_in default id rows = unwrap_or (number_under id rows) default

-- the numbers under an id, as they come
abbrev pub numbers_in : Text → List Row → List ℕ
numbers_in id rows = filter_map parsed_number (unwrap_or (all_of id rows) [])

abbrev pub order_of : Text → Option Order
order_of text = if bytes_eq text (codes "walk") then Some Walk
    else (if bytes_eq text (codes "sorted") then Some Sorted else None)

-- the order that is asked for, sorted where none is given
abbrev pub order_in : List Row → Option Order
order_in rows = option_map_or order_of (first_of (codes "order") rows) (Some Sorted)

abbrev pub run_with : List Row → Order → Command
run_with rows order = Run (record {
  queries = text_in (codes "queries") rows;
  events = text_in (codes "events") rows;
  order = order;
  compact_every = number_under (codes "compact-every") rows;
  most_bytes = number_in MOST_BYTES (codes "max-bytes") rows;
})

-- what was found after `run`, as a run; none where the order is of neither name
abbrev pub run_in : List Row → Option Command
run_in rows = option_map (run_with rows) (order_in rows)

-- what was found after `sample`, as a sample
abbrev pub sample_in : List Row → Command
sample_in rows = Sample (record { seed = number_in 0 (codes "seed") rows; count = number_in 0 (codes "count") rows })

-- what was found behind `session`, as a session
abbrev pub session_in : List Row → Command
session_in rows = Session (record { queries = text_in (codes "queries") rows; script = text_in (codes "script") rows })

abbrev pub reorder_with : List Row → Order → Command
reorder_with rows order = Reorder (record {
  queries = text_in (codes "queries") rows;
  events = text_in (codes "events") rows;
  clock = text_in (codes "clock") rows;
  late = number_in 0 (codes "late") rows;
  order = order;
  compact_every = number_under (codes "compact-every") rows;
  most_bytes = number_in MOST_BYTES (codes "max-bytes") rows;
})

-- what was found after `reorder`; none where the order is of neither name
abbrev pub reorder_in : List Row → Option Command
reorder_in rows = option_map (reorder_with rows) (order_in rows)

-- what was found after `explain`, as a question
abbrev pub explain_in : List Row → Command
explain_in rows = Explain (record {
  queries = text_in (codes "queries") rows;
  events = text_in (codes "events") rows;
  question = record {
    query = number_in 0 (codes "query") rows;
    start = number_in 0 (codes "start") rows;
    end = number_in 0 (codes "end") rows;
    positions = numbers_in (codes "positions") rows;
  };
})

-- what was found after `save`, as a checkpoint that is asked for
abbrev pub save_in : List Row → Command
save_in rows = Save (record { queries = text_in (codes "queries") rows; events = text_in (codes "events") rows })

-- how many bytes are too many; clap takes no number above this bound
abbrev pub bytes_in : List Row → ℕ
bytes_in rows = min (number_in MOST_BYTES (codes "max-bytes") rows) 4611686018427387904

abbrev pub resume_with : List Row → Order → Command
resume_with rows order = Resume (record {
  queries = text_in (codes "queries") rows;
  checkpoint = text_in (codes "checkpoint") rows;
  events = text_in (codes "events") rows;
  order = order;
  compact_every = number_under (codes "compact-every") rows;
  most_bytes = bytes_in rows;
})

-- what was found after `resume`; none where the order is of neither name
abbrev pub resume_in : List Row → Option Command
resume_in rows = option_map (resume_with rows) (order_in rows)

-- the command of one of the last three names, with what was found after it
abbrev pub other_named : Text → List Row → Option Command
other_named name rows = if bytes_eq name (codes "explain") then Some (explain_in rows)
    else (if bytes_eq name (codes "save") then Some (save_in rows)
    else (if bytes_eq name (codes "resume") then resume_in rows else None))

-- the command of a name, with what was found after it
abbrev pub command_named : Text → List Row → Option Command
command_named name rows = if bytes_eq name (codes "run") then run_in rows
    else (if bytes_eq name (codes "sample") then Some (sample_in rows)
    else (if bytes_eq name (codes "session") then Some (session_in rows)
    else (if bytes_eq name (codes "reorder") then reorder_in rows else other_named name rows)))

-- the command of a subcommand and what was found after it
abbrev pub command_at : Option (Text × List Row) → Option Command
command_at = option_and_then (λ found. command_named found.0 found.1)

abbrev pub has_no_kind : Kinds → Bool
has_no_kind [] = true
has_no_kind (kind ∷ rest) = false

-- clap takes the words: there is no kind of error that a parse of them may have but for memory
abbrev pub clap_takes : List Text → Bool
clap_takes words = has_no_kind (fault_of program words)

-- the command that the words ask for, where clap takes them
abbrev pub command_asked : List Text → Option Command
command_asked words = if clap_takes words then command_at (subcommand_of program words) else None

-- the words ask for this command
abbrev pub AsksFor : List (List ℕ) → Command → Type 0
AsksFor words command = command_asked words ≡ Some command

-- the words ask for no command
abbrev pub AskNothing : List (List ℕ) → Type 0
AskNothing words = (asked : Command) → AsksFor words asked → ⊥
