use Rattle.std.proofs.Common.{◌≡◌, take}
use Rattle.std.specs.List.{filter_map}
use Rattle.command_words.specs.CommandLine.{parsed_number}
use Rattle.command_words.proofs.reading.numbers_of.Given as goal

-- the numbers of the texts so far
abbrev pub invariant-loop-text : goal.invariant-loop-text
invariant-loop-text l = l.numbers.items ≡ filter_map (λ text. parsed_number text.now) (take l.text-index l.texts)
