-- The program's command, in the terms of clap: its commands, their names, options and numbers.
use Rattle.std.specs.Prelude.{[], ℕ, Some, codes, true}
use Rattle.clap.specs.Words.{App, Rule, Shape, Text, new_app, new_rule, with_rule, with_subcommand}
use Rattle.clap.specs.declared.builder.action.ArgAction.TheVariants.{Append}
use Rattle.clap.specs.declared.builder.value_parser.ValueParser.TheVariants.{Unsigned}

-- a word that has to be there
abbrev pub name : Text → Rule
name id = record (new_rule id) { required = true }

-- a word that may be there any number of times
abbrev pub repeated : Text → Rule
repeated id = record (new_rule id) { action = Some Append }

-- an option of one value
abbrev pub option : Text → Rule
option id = record (new_rule id) { long = Some id }

-- the argument, where its value is a whole number from the least to the most
abbrev pub numbered : ℕ → ℕ → Rule → Rule
numbered least most rule = record rule { parser = Some (Unsigned least most) }

-- the argument, where its value is a whole number of 64 bits
abbrev pub whole : Rule → Rule
whole rule = numbered 0 18446744073709551615 rule

-- --compact-every N
abbrev pub compact_every : Rule
compact_every = numbered 1 4294967295 (option (codes "compact-every"))

-- --max-bytes N
abbrev pub most_bytes : Rule
most_bytes = numbered 1 4611686018427387904 (option (codes "max-bytes"))

-- how much an event may come late
abbrev pub late : Rule
late = numbered 0 9223372036854775807 (name (codes "late"))

-- the name of a command, after which stand those of a query file and an event file
abbrev pub over_files : Text → App
over_files id = with_rule (with_rule (new_app id) (name (codes "queries"))) (name (codes "events"))

-- [--order walk|sorted] [--compact-every N] [--max-bytes N]
abbrev pub with_run_options : App → App
with_run_options app = with_rule (with_rule (with_rule app (option (codes "order"))) compact_every)
    most_bytes

-- run QUERIES EVENTS, with these options
abbrev pub run : App
run = with_run_options (over_files (codes "run"))

-- reorder QUERIES EVENTS CLOCK LATE, with these options
abbrev pub reorder : App
reorder = with_run_options (with_rule (with_rule (over_files (codes "reorder"))
    (name (codes "clock"))) late)

-- how many events a sample has
abbrev pub count : Rule
count = numbered 0 10000000 (name (codes "count"))

-- sample SEED COUNT
abbrev pub sample : App
sample = with_rule (with_rule (new_app (codes "sample")) (whole (name (codes "seed")))) count

-- session QUERIES SCRIPT
abbrev pub session : App
session = with_rule (with_rule (new_app (codes "session")) (name (codes "queries")))
    (name (codes "script"))

-- explain QUERIES EVENTS QUERY START END [POSITION]...
abbrev pub explain : App
explain = with_rule (with_rule (with_rule (with_rule (over_files (codes "explain"))
    (whole (name (codes "query")))) (whole (name (codes "start")))) (whole (name (codes "end"))))
    (whole (repeated (codes "positions")))

-- save QUERIES EVENTS
abbrev pub save : App
save = over_files (codes "save")

-- resume QUERIES CHECKPOINT EVENTS, with the options of a run
abbrev pub resume : App
resume = with_run_options (with_rule (with_rule (with_rule (new_app (codes "resume"))
    (name (codes "queries"))) (name (codes "checkpoint"))) (name (codes "events")))

-- the words are those after the program's name; there is no help and no version, and one of the
-- commands has to be there
abbrev pub bare : Shape → Shape
bare top = record top {
  no_binary_name = true;
  disable_help_flag = true;
  disable_help_subcommand = true;
  disable_version_flag = true;
  subcommand_required = true;
}

-- the program with no command yet
abbrev pub no_commands : App
no_commands = record { top = bare (new_app (codes "core_cli")).top; subs = [] }

-- the program with its commands: a large term, so that a proof unfolds it only where it has to
unfoldable pub program : App
program = with_subcommand (with_subcommand (with_subcommand (with_subcommand (with_subcommand
    (with_subcommand (with_subcommand no_commands run.top) sample.top) session.top) reorder.top)
    explain.top) save.top) resume.top
