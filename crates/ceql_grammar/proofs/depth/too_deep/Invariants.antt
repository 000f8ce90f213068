use Rattle.std.proofs.Common.{◌≡◌, ◌≤◌, List, length, take}
use Rattle.ceql_lexer.specs.declared.Token.{Token}
use Rattle.ceql_grammar.specs.Texts.{IsTooDeepAt, open_after}
use Rattle.ceql_grammar.proofs.depth.too_deep.Given as goal
use Rattle.cer_base.specs.declared.limits.TheConstants.{DEEPEST_NESTING}

abbrev pub invariant-loop-token : goal.invariant-loop-token
invariant-loop-token l = (l.depth ≡ open_after 0 (take l.token-index l.tokens)) × ((l.depth ≤ DEEPEST_NESTING) × ((before : List Token) (t : Token) → IsTooDeepAt l.tokens before t → l.token-index ≤ length before))
