use Rattle.std.proofs.Common.{ap, codes, Some, ◌∙◌}
use Rattle.std.specs.Option.{option_map_or}
use Rattle.answer_text.specs.declared.Order.TheVariants.{Sorted}
use Rattle.clap.specs.Words.{found_of}
use Rattle.clap.proofs.WalkLemmas.{first_value-rows}
use Rattle.command_words.specs.CommandLine.{order_of}
use Rattle.command_words.proofs.reading.order_in.Goals as goal

pub returns-in-Some : goal.returns-in-Some
returns-in-Some c = c.order_of.ensures
    ∙ ap (λ name. option_map_or order_of name (Some Sorted)) (c.in-Some.ensures ∙ first_value-rows (found_of c.args.matches.now) (codes "order"))

pub returns-in-None : goal.returns-in-None
returns-in-None c = ap (λ name. option_map_or order_of name (Some Sorted)) (c.in-None.ensures ∙ first_value-rows (found_of c.args.matches.now) (codes "order"))
