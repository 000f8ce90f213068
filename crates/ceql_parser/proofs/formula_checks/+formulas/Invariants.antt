use Rattle.std.proofs.Common.{◌≡◌, None, take, ◌++◌}
use Rattle.std.specs.Prelude.{flat_map}
use Rattle.cel_terms.specs.Checked.{names_of}
use Rattle.ceql_parser.specs.FirstFaults.{first_in}
use Rattle.ceql_parser.specs.FormulaFaults.{formula_fault}
use Rattle.ceql_parser.specs.LinksAndCounts.{link_fault}
use Rattle.ceql_parser.specs.NameSets.{HaveSameNames, names_of_link}
use Rattle.ceql_parser.proofs.formula_checks.+formulas.Given as goal

abbrev pub invariant-check_formulas-loop-formula : goal.invariant-check_formulas-loop-formula
invariant-check_formulas-loop-formula l = (first_in (formula_fault l.types) (take l.formula-index l.formulas) ≡ None) × HaveSameNames l.names (flat_map names_of (take l.formula-index l.formulas))

abbrev pub invariant-check_links-loop-link : goal.invariant-check_links-loop-link
invariant-check_links-loop-link l = (first_in (link_fault l.types) (take l.link-index l.links) ≡ None) × HaveSameNames l.names (l.initial.names ++ flat_map names_of_link (take l.link-index l.links))
