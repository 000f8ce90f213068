-- What functions that read conditions in place rest on.
use Rattle.std.specs.Prelude.{◌≡◌, List, [], ◌∷◌, codes}
use Rattle.ceql_lexer.specs.declared.Token.{Token}
use Rattle.ceql_grammar.specs.WordsAndSigns.{is}
use Rattle.ceql_grammar.specs.RuleForms.{TokenReader, Test, many, many_step}
use Rattle.ceql_grammar.specs.RuleReaders.{Parts, led, unit, conjunction, disjunction_step, disjunction}

-- a loop is one step and then the loop again
pub record Again {X : Type 0} (p : Test) (r : TokenReader X) : Type 0 where
  pub step : (ts : List Token) → many p r ts ≡ many_step p r (many p r) ts

-- a condition is one step with conditions in its parentheses, each loop of it is one step and then the
-- loop again, and a member alone is itself
pub record AreLawful {X : Type 0} (parts : Parts X) : Type 0 where
  pub step : (ts : List Token) → disjunction parts ts ≡ disjunction_step parts (disjunction parts) ts
  pub units : Again (is (codes "AND")) (led (codes "AND") (unit parts (disjunction parts)))
  pub conjunctions : Again (is (codes "OR")) (led (codes "OR") (conjunction parts (disjunction parts)))
  pub alone : (x : X) → parts.all_of (x ∷ []) ≡ x
