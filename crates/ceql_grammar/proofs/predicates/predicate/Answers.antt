use Rattle.std.proofs.Common.{sym, ap, ◌∙◌, rules}
use Rattle.std.specs.Prelude.{Ok}
use Rattle.std.proofs.lemmas.Result.{err_from_is_err_and}
use Rattle.ceql_grammar.specs.MemberLists.{all_preds_of}
use Rattle.ceql_grammar.specs.RuleReaders.{pred}
use Rattle.ceql_grammar.specs.Trees.{pred_tree}
use Rattle.ceql_grammar.proofs.LoopExits.{exit}
use Rattle.ceql_grammar.proofs.InPlaceReading.{only_behind}
use Rattle.ceql_grammar.proofs.LoopRules.{preds_are_lawful}
use Rattle.ceql_grammar.proofs.predicates.predicate.Goals as goal

pub returns-in_err-rest : goal.returns-in_err-rest
returns-in_err-rest c =
    let p = err_from_is_err_and c.from_residual.result c.from_residual.ensures.1 in
    record { value = exit pred_tree c.from_residual.result p.0 c.in_err-rest.field-0.0 p.1 p.2 (pred c.args.tokens.now) c.in_err-rest.ensures.value; shorter = search rules }

pub returns : goal.returns
returns c =
    let read = c.in_ok-rest.ensures.value in
    record { value = read.1.1 ∙ ap (λ y. Ok (y, c.in_ok-rest.rest.now)) (sym (c.all_of.ensures.value ∙ ap all_preds_of (only_behind pred_tree c.new-preds.result.items c.disjunction.new.conditions.items read.0 c.new-preds.ensures.items read.1.0))); shorter = search rules }

pub disjunction-requires : goal.disjunction-requires
disjunction-requires c = record { lawful = preds_are_lawful }
