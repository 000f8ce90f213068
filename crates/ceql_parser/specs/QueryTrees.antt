-- What queries say, as plain data.
use Rattle.std.specs.Prelude.{ℕ, Bool, List, Option}
use Rattle.cer_base.specs.declared.Location.{Location}
use Rattle.cel_terms.specs.declared.Name.{Name}
use Rattle.cel_terms.specs.declared.Query.{Query}
use Rattle.cel_terms.specs.declared.Window.{Window}
use Rattle.ceql_grammar.specs.Trees.{FormulaTree, formula_tree}

-- What a query says. `any` is the number after ANY.
pub record QueryTree : Type 0 where
  pub strict : Bool
  pub any : Option ℕ
  pub select : Option (List Name)
  pub streams : List Name
  pub formula : FormulaTree
  pub partition : List Name
  pub window : Window
  pub place : Location

-- what a query says
abbrev pub query_tree : Query → QueryTree
query_tree q = record {
  strict = q.strict;
  any = q.any;
  select = q.select;
  streams = q.streams;
  formula = formula_tree q.formula;
  partition = q.partition;
  window = q.window;
  place = q.place;
}
