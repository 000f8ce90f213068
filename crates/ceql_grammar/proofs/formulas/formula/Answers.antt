use Rattle.std.proofs.Common.{sym, ap, ◌∙◌, rules}
use Rattle.std.specs.Prelude.{Ok}
use Rattle.std.proofs.lemmas.Result.{err_from_is_err_and}
use Rattle.ceql_grammar.specs.MemberLists.{any_formula_of}
use Rattle.ceql_grammar.specs.RuleReaders.{formula, parts_tree}
use Rattle.ceql_grammar.specs.RuleForms.{map_read}
use Rattle.ceql_grammar.specs.Trees.{formula_tree}
use Rattle.ceql_grammar.proofs.LoopExits.{exit}
use Rattle.ceql_grammar.proofs.InPlaceReading.{only_behind}
use Rattle.ceql_grammar.proofs.formulas.formula.Goals as goal

pub returns-in_err-rest : goal.returns-in_err-rest
returns-in_err-rest c =
    let p = err_from_is_err_and c.from_residual.result c.from_residual.ensures.1 in
    record { value = exit formula_tree c.from_residual.result p.0 c.in_err-rest.field-0.0 p.1 p.2 (map_read parts_tree formula c.args.tokens.now) c.in_err-rest.ensures.value; shorter = search rules }

pub returns : goal.returns
returns c =
    let read = c.in_ok-rest.ensures.value in
    record { value = read.1.1 ∙ ap (λ y. Ok (y, c.in_ok-rest.rest.now)) (sym (c.any_formula_of.ensures ∙ ap any_formula_of (only_behind formula_tree c.new-formulas.result.items c.add_formula.new.formulas.items read.0 c.new-formulas.ensures.items read.1.0))); shorter = search rules }
