-- A list that was read in part.
use Rattle.std.specs.Prelude.{List, ◌++◌, Ok}
use Rattle.ceql_grammar.specs.RuleForms.{Out, ◌>>=◌}

-- what was read before and what is read now, in one list
abbrev pub with_front : {X : Type 0} → List X → Out (List X) → Out (List X)
with_front made out = out >>= λ p. Ok (made ++ p.0, p.1)
