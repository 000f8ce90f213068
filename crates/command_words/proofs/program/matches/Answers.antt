use Rattle.std.proofs.Common.{ap, map, string_bytes, subst, sym, ◌≡◌, ◌∙◌}
use Rattle.clap.specs.Words.{App, HasKind, Kinds, app_of, fault_of, is_simple, is_simple_and_free, subcommand_of}
use Rattle.clap.specs.declared.ArgMatches.{ArgMatches}
use Rattle.command_words.specs.CommandLine.{has_no_kind}
use Rattle.command_words.specs.Program.{program}
use Rattle.command_words.proofs.Building.{program_is_free, program_is_simple}
use Rattle.command_words.proofs.Refusals.{refused_for_cause}
use Rattle.command_words.proofs.program.matches.Goals as goal

pub returns-in-Ok-clause-taken : goal.returns-in-Ok-clause-taken
returns-in-Ok-clause-taken c =
    let words = map string_bytes c.args.words.now in
    let is_program : app_of c.in_ok-program.program ≡ program = c.in_ok-program.ensures in
    let none = c.in-Ok.ensures.kinds (ap is_simple_and_free is_program ∙ program_is_free) in
    ap has_no_kind (sym (ap (λ (a : App). fault_of a words) is_program) ∙ none)

pub returns-in-Ok-clause-found : goal.returns-in-Ok-clause-found
returns-in-Ok-clause-found c =
    let words = map string_bytes c.args.words.now in
    let is_program : app_of c.in_ok-program.program ≡ program = c.in_ok-program.ensures in
    (c.in-Ok.ensures.matches (ap is_simple is_program ∙ program_is_simple)).1 ∙ ap (λ (a : App). subcommand_of a words) is_program

pub returns-in-Err-clause-refused : goal.returns-in-Err-clause-refused
returns-in-Err-clause-refused c =
    let words = map string_bytes c.args.words.now in
    let is_program : app_of c.in_ok-program.program ≡ program = c.in_ok-program.ensures in
    let has = c.in-Err.ensures.kinds (ap is_simple_and_free is_program ∙ program_is_free) in
    let kinds_are = ap (λ (a : App). fault_of a words) is_program in
    let has_one = subst (λ (kinds : Kinds). HasKind kinds c.in-Err.error) kinds_are has in
    refused_for_cause ArgMatches (fault_of program words) c.in-Err.error c.refusal.result has_one c.refusal.ensures.1
