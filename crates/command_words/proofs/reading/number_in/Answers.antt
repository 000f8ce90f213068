use Rattle.std.proofs.Common.{ap, ◌∙◌}
use Rattle.std.specs.Prelude.{unwrap_or}
use Rattle.command_words.proofs.reading.number_in.Goals as goal

pub returns : goal.returns
returns c = c.unwrap_or.ensures ∙ ap (λ n. unwrap_or n c.args.default) c.number_under.ensures
