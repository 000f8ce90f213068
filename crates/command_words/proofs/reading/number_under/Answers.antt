use Rattle.std.proofs.Common.{ap, ◌∙◌}
use Rattle.std.specs.Prelude.{option_and_then}
use Rattle.std.specs.Str.Parse.{ExplainsUnsignedError, HasUnsignedDigitsIfOk, ParsesUnsigned}
use Rattle.clap.specs.Words.{found_of, one_text}
use Rattle.clap.proofs.WalkLemmas.{one_text-rows}
use Rattle.command_words.specs.CommandLine.{parsed_number}
use Rattle.command_words.proofs.MatchesRead.{number_found, number_read}
use Rattle.command_words.proofs.reading.number_under.Goals as goal

pub returns : goal.returns
returns c =
    let text = one_text (found_of c.args.matches.now) c.args.id.now in
    let one = number_found text c.get_one.result c.get_one.ensures.none
    (λ t e. number_read (λ bs r. ParsesUnsigned 64 10 bs r × ExplainsUnsignedError 10 bs r × HasUnsignedDigitsIfOk bs r) (λ u x g. g.0) t c.get_one.result (c.get_one.ensures.value t e)) in
    one ∙ ap (option_and_then parsed_number) (one_text-rows (found_of c.args.matches.now) c.args.id.now)
