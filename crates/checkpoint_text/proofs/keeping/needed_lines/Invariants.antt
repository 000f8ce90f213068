use Rattle.std.proofs.Common.{◌≡◌, ◌++◌, map, drop}
use Rattle.checkpoint_text.specs.Keeping.{needed}
use Rattle.checkpoint_text.proofs.keeping.needed_lines.Given as goal

-- of the lines so far those that are needed
abbrev pub invariant-loop-k : goal.invariant-loop-k
invariant-loop-k l = map (λ line. line.now) l.found.items ++ needed l.schema l.queries l.lasts (drop l.k l.lines) ≡ needed l.schema l.queries l.lasts l.lines
