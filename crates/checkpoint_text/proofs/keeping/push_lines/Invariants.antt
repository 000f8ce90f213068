use Rattle.std.proofs.Common.{◌≡◌, ◌++◌, map, drop}
use Rattle.std.specs.Prelude.{flat_map}
use Rattle.checkpoint_text.specs.Keeping.{line_text}
use Rattle.checkpoint_text.proofs.keeping.push_lines.Given as goal

-- the lines so far
abbrev pub invariant-loop-k : goal.invariant-loop-k
invariant-loop-k l = l.text.items ++ flat_map line_text (map (λ line. line.now) (drop l.k l.lines)) ≡ l.fn.text.items ++ flat_map line_text (map (λ line. line.now) l.lines)
