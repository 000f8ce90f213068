-- What links say.
use Rattle.std.specs.Prelude.{Bool}
use Rattle.cel_terms.specs.declared.Link.{Link}
use Rattle.cel_terms.specs.declared.Formula.{Formula}
use Rattle.ceql_grammar.specs.Trees.{FormulaTree, formula_tree}

abbrev pub tight_of : Link → Bool
tight_of l = l.tight

abbrev pub next_of : Link → Formula
next_of l = l.next

abbrev pub link_view : Link → Bool × FormulaTree
link_view l = (l.tight, formula_tree l.next)
