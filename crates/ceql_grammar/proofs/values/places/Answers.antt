use Rattle.std.proofs.Common.{arith, drop, length-drop, not, ◌==◌}
use Rattle.std.specs.List.{prefix_len}
use Rattle.ceql_grammar.proofs.values.places.Goals as goal

pub returns : goal.returns
returns c = omega (arith, c.whole_len.ensures.value, length-drop 1 (drop (prefix_len (λ byte. not (byte == 46)) c.args.text.now) c.args.text.now), length-drop (prefix_len (λ byte. not (byte == 46)) c.args.text.now) c.args.text.now)
