-- What holds of terms in which no fault is found.
use Rattle.std.specs.Prelude.{◌≡◌, List, All, None, map}
use Rattle.cer_base.specs.declared.Location.{Location}
use Rattle.stream_schema.specs.Types.{DeclaredType}
use Rattle.cel_terms.specs.declared.Formula.{Formula}
use Rattle.cel_terms.specs.Checked.{IsCheckedFormula, IsChecked}
use Rattle.ceql_grammar.specs.declared.terms.Statement.{Statement}
use Rattle.ceql_parser.specs.FormulaFaults.{formula_fault}
use Rattle.ceql_parser.specs.ScriptFaults.{script_fault, declared_schema, queries_of}
use Rattle.ceql_grammar.specs.Trees.{formula_tree}
use Rattle.ceql_grammar.specs.Statements.{statement_tree}
use Rattle.ceql_grammar.specs.LawfulTexts.{IsLawfulFormula, IsLawfulStatement}

-- a lawful formula without a fault is checked for the types
abbrev pub LawfulFormulasAreChecked : Type 0
LawfulFormulasAreChecked = (types : List DeclaredType) (formula : Formula) → IsLawfulFormula (formula_tree formula) → formula_fault types formula ≡ None → IsCheckedFormula types formula

-- the queries of lawful statements without a fault are checked for what all the statements declare
abbrev pub LawfulQueriesAreChecked : Type 0
LawfulQueriesAreChecked = (statements : List Statement) (end : Location) → All IsLawfulStatement (map statement_tree statements) → script_fault statements end ≡ None → All (IsChecked (declared_schema statements)) (queries_of statements)
