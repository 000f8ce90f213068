-- What the reader has given so far is what was seen.
use Rattle.std.proofs.Common.{◌≡◌, ℕ, List, map, Some, false}
use Rattle.event_reader.specs.LineReaders.{HasGiven}
use Rattle.language_tests.proofs.tests.input.lines.read_lines.Given as goal

abbrev pub invariant-loop-lines : goal.invariant-loop-lines
invariant-loop-lines g l = record {
  given : (bytes : List ℕ) → g.Q.Source.left l.fn.source ≡ Some bytes → HasGiven l.lines bytes (g.Q.Source.left l.source) (map (λ text. text.items) l.texts.items);
  budget : l.lines.budget ≡ l.budget;
  open_ : l.lines.closed ≡ false;
}

abbrev pub decreases-loop-lines : goal.decreases-loop-lines
decreases-loop-lines g l = l.lines.room
