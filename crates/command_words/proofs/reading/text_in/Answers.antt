use Rattle.std.proofs.Common.{ap, [], ◌∙◌}
use Rattle.std.specs.Prelude.{unwrap_or}
use Rattle.std.proofs.lemmas.Result.{IfOk-weaker}
use Rattle.clap.specs.Words.{found_of}
use Rattle.clap.proofs.WalkLemmas.{first_value-rows}
use Rattle.command_words.proofs.MatchesRead.{text_or}
use Rattle.command_words.proofs.reading.text_in.Goals as goal

pub returns : goal.returns
returns c =
    let read = ap (λ s. s.now) c.unwrap_or.ensures ∙ text_or c.get_str.result _
    ∙ ap (λ found. unwrap_or found []) (c.get_str.ensures ∙ first_value-rows (found_of c.args.matches.now) c.args.id.now) in
    IfOk-weaker c.copy_of.result _ _ (λ text copied. copied ∙ read) c.copy_of.ensures
