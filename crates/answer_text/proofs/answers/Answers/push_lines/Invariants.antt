-- The lines of the answers so far are there.
use Rattle.std.proofs.Common.{◌≡◌, ◌++◌, take, flat_map, map}
use Rattle.answer_text.specs.Output.{line}
use Rattle.answer_text.specs.AnswerSpans.{answer_in}
use Rattle.answer_text.proofs.answers.Answers.push_lines.Given as goal

abbrev pub invariant-loop-k : goal.invariant-loop-k
invariant-loop-k l = l.text.items ≡ l.fn.text.items ++ flat_map (line l.query l.end) (map (answer_in l.positions) (take l.k l.self-inside.spans.items))
