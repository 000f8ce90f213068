use Rattle.std.proofs.Common.{ap, sym, [], ◌∙◌}
use Rattle.std.specs.Prelude.{unwrap_or}
use Rattle.std.specs.List.{filter_map}
use Rattle.clap.specs.Words.{found_of}
use Rattle.clap.proofs.WalkLemmas.{raw_values-rows}
use Rattle.command_words.specs.CommandLine.{parsed_number}
use Rattle.command_words.proofs.MatchesRead.{read_of_each}
use Rattle.command_words.proofs.reading.numbers_in.Goals as goal

pub returns-in_ok-numbers_of-in-Some : goal.returns-in_ok-numbers_of-in-Some
returns-in_ok-numbers_of-in-Some c =
    c.of.ensures ∙ c.in_ok-numbers_of-in-Some.ensures ∙ sym (read_of_each c.in-Some.texts.now)
    ∙ ap (λ texts. filter_map parsed_number (unwrap_or texts [])) (c.in-Some.ensures ∙ raw_values-rows (found_of c.args.matches.now) c.args.id.now)

pub returns-in-None : goal.returns-in-None
returns-in-None c =
    c.of-in-None.ensures ∙ c.new.ensures.items
    ∙ ap (λ texts. filter_map parsed_number (unwrap_or texts [])) (c.in-None.ensures ∙ raw_values-rows (found_of c.args.matches.now) c.args.id.now)
