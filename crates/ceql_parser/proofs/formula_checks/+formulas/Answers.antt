use Rattle.std.proofs.Common.{◌≡◌, ap, ap₂, sym, subst, ◌∙◌, Option, None, ℕ, List, [], ◌++◌}
use Rattle.std.specs.Prelude.{flat_map, IfOk}
use Rattle.std.specs.Option.{option_or}
use Rattle.cel_terms.specs.Checked.{names_of, names_after}
use Rattle.ceql_grammar.specs.declared.faults.QueryError.{QueryError}
use Rattle.ceql_parser.specs.FirstFaults.{first_in, FindsFault}
use Rattle.ceql_parser.specs.NameSets.{HaveSameNames, names_of_link}
use Rattle.ceql_parser.proofs.FirstFound.{told_at, kept_at}
use Rattle.ceql_parser.specs.FormulaFaults.{formula_fault, filter_fault, postfixes_fault}
use Rattle.ceql_parser.specs.LinksAndCounts.{link_fault}
use Rattle.ceql_parser.proofs.NamesListed.{chain_names, choice_names, linked_names}
use Rattle.ceql_parser.proofs.NameSetLemmas.{same_self, same_then, same_both, same_more, same_all, ok_same, after_same, postfixes_same, all_filters_same}
use Rattle.ceql_parser.proofs.RowFaults.{chain_faults, choice_faults, linked_faults}
use Rattle.ceql_parser.proofs.formula_checks.+formulas.Goals as goal

pub add_formula-returns-in-Ok-join-clause-names : goal.add_formula-returns-in-Ok-join-clause-names
add_formula-returns-in-Ok-join-clause-names t c =
    same_then c.join.new.self (c.args.names.now ++ c.in-Ok.more) (c.args.names.now ++ names_of c.args.formula.now) c.in-Ok-join.ensures
    (same_both c.args.names.now c.args.names.now c.in-Ok.more (names_of c.args.formula.now) (same_self c.args.names.now) c.in-Ok.ensures.names)

pub check_formulas-returns-in-Err-clause-told : goal.check_formulas-returns-in-Err-clause-told
check_formulas-returns-in-Err-clause-told t c = told_at (formula_fault c.args.types.now) c.args.formulas.now c.loop-formula.formula-index c.formula-item.result c.in-Err.stop c.loop-formula-test.true c.formula-item.is c.loop-formula.invariant.0 c.in-Err.ensures.told

pub check_formulas-loop-formula-preserved : goal.check_formulas-loop-formula-preserved
check_formulas-loop-formula-preserved t c = (
  kept_at (formula_fault c.args.types.now) c.args.formulas.now c.loop-formula.formula-index c.formula-item.result c.loop-formula-test.true c.formula-item.is c.loop-formula.invariant.0 c.in-Ok.ensures.told,
  same_more names_of c.args.formulas.now c.loop-formula.formula-index c.formula-item.result [] c.loop-formula.names _ c.loop-formula-test.true c.formula-item.is c.loop-formula.invariant.1 c.in-Ok.ensures.names,
)

pub check_formulas-returns-clause-names : goal.check_formulas-returns-clause-names
check_formulas-returns-clause-names t c = same_all names_of c.args.formulas.now c.loop-formula.formula-index [] c.loop-formula.names c.loop-formula-test.false c.loop-formula.invariant.1

pub check_links-returns-in-Err-clause-told : goal.check_links-returns-in-Err-clause-told
check_links-returns-in-Err-clause-told t c = told_at (link_fault c.args.types.now) c.args.links.now c.loop-link.link-index c.link-item.result c.in-Err.stop c.loop-link-test.true c.link-item.is c.loop-link.invariant.0 c.in-Err.ensures.told

pub check_links-loop-link-preserved : goal.check_links-loop-link-preserved
check_links-loop-link-preserved t c = (
  kept_at (link_fault c.args.types.now) c.args.links.now c.loop-link.link-index c.link-item.result c.loop-link-test.true c.link-item.is c.loop-link.invariant.0 c.in-Ok.ensures.told,
  same_more names_of_link c.args.links.now c.loop-link.link-index c.link-item.result c.args.before c.loop-link.names _ c.loop-link-test.true c.link-item.is c.loop-link.invariant.1 c.in-Ok.ensures.names,
)

pub check_links-returns-clause-names : goal.check_links-returns-clause-names
check_links-returns-clause-names t c = same_all names_of_link c.args.links.now c.loop-link.link-index c.args.before c.loop-link.names c.loop-link-test.false c.loop-link.invariant.1

pub check_formula-returns-in-Chain : goal.check_formula-returns-in-Chain
check_formula-returns-in-Chain t c =
    let types = c.args.types.now in
    record {
      told = subst (λ (o : Option QueryError). FindsFault c.check_formulas.result o)
          (ap (first_in (formula_fault types)) c.deref.ensures.value ∙ sym (chain_faults types c.in-Chain.parts) ∙ sym (ap (formula_fault types) c.in-Chain.is))
          c.check_formulas.ensures.told;
      names = subst (λ (l : List (List ℕ)). IfOk c.check_formulas.result (λ names. HaveSameNames names l))
          (ap (flat_map names_of) c.deref.ensures.value ∙ sym (chain_names c.in-Chain.parts) ∙ sym (ap names_of c.in-Chain.is))
          c.check_formulas.ensures.names;
    }

pub check_formula-returns-in-Either : goal.check_formula-returns-in-Either
check_formula-returns-in-Either t c =
    let types = c.args.types.now in
    record {
      told = subst (λ (o : Option QueryError). FindsFault c.check_formulas-in-Either.result o)
          (ap (first_in (formula_fault types)) c.deref-in-Either.ensures.value ∙ sym (choice_faults types c.in-Either.choices) ∙ sym (ap (formula_fault types) c.in-Either.is))
          c.check_formulas-in-Either.ensures.told;
      names = subst (λ (l : List (List ℕ)). IfOk c.check_formulas-in-Either.result (λ names. HaveSameNames names l))
          (ap (flat_map names_of) c.deref-in-Either.ensures.value ∙ sym (choice_names c.in-Either.choices) ∙ sym (ap names_of c.in-Either.is))
          c.check_formulas-in-Either.ensures.names;
    }

pub check_changed-returns-in-Ok-clause-told : goal.check_changed-returns-in-Ok-clause-told
check_changed-returns-in-Ok-clause-told t c =
    let types = c.args.types.now in
    let after = postfixes_fault types (names_of c.args.base.now) c.args.postfixes.now in
    subst (λ (o : Option QueryError). FindsFault c.check_postfixes.result o)
    (postfixes_same types c.in-Ok.names (names_of c.args.base.now) c.in-Ok.ensures.names c.args.postfixes.now ∙ ap (λ (o : Option QueryError). option_or o after) (sym c.in-Ok.ensures.told))
    c.check_postfixes.ensures.told

pub check_changed-returns-in-Ok-clause-names : goal.check_changed-returns-in-Ok-clause-names
check_changed-returns-in-Ok-clause-names t c =
    ok_same c.check_postfixes.result (names_after c.in-Ok.names c.args.postfixes.now) (names_after (names_of c.args.base.now) c.args.postfixes.now)
    (after_same c.in-Ok.names (names_of c.args.base.now) c.in-Ok.ensures.names c.args.postfixes.now)
    c.check_postfixes.ensures.names

pub check_under-returns-in-Ok-clause-told : goal.check_under-returns-in-Ok-clause-told
check_under-returns-in-Ok-clause-told t c =
    let types = c.args.types.now in
    let after = first_in (filter_fault types (names_of c.args.base.now)) c.args.filters.now in
    subst (λ (o : Option QueryError). FindsFault c.check_filtered.result o)
    (all_filters_same types c.in-Ok.names (names_of c.args.base.now) c.in-Ok.ensures.names c.args.filters.now ∙ ap (λ (o : Option QueryError). option_or o after) (sym c.in-Ok.ensures.told))
    c.check_filtered.ensures.told

pub check_linked-returns-in-Ok-clause-told : goal.check_linked-returns-in-Ok-clause-told
check_linked-returns-in-Ok-clause-told t c = λ fault e.
    let after = first_in (link_fault c.args.types.now) c.args.links.now in
    let none : fault ≡ None = rw c.in-Ok.is at e in
    subst (λ (o : Option QueryError). FindsFault c.check_links.result (option_or o after)) (sym none) c.check_links.ensures.told

pub check_linked-returns-in-Ok-clause-names : goal.check_linked-returns-in-Ok-clause-names
check_linked-returns-in-Ok-clause-names t c = λ before e.
    let later = flat_map names_of_link c.args.links.now in
    ok_same c.check_links.result (c.in-Ok.names ++ later) (before ++ later)
    (same_both c.in-Ok.names before later later (rw c.in-Ok.is at e) (same_self later))
    c.check_links.ensures.names

pub check_formula-returns-in-Linked : goal.check_formula-returns-in-Linked
check_formula-returns-in-Linked t c =
    let types = c.args.types.now in
    let first = c.deref-in-Linked.result.now in
    record {
      told = subst (λ (o : Option QueryError). FindsFault c.check_linked.result o)
          (ap₂ (λ f ls. option_or (formula_fault types f) (first_in (link_fault types) ls)) c.deref-in-Linked.ensures c.deref-in-Linked-2.ensures.value
          ∙ sym (linked_faults types c.in-Linked.first c.in-Linked.links) ∙ sym (ap (formula_fault types) c.in-Linked.is))
          (c.check_linked.ensures.told (formula_fault types first) c.check_formula-first.ensures.told);
      names = subst (λ (l : List (List ℕ)). IfOk c.check_linked.result (λ names. HaveSameNames names l))
          (ap₂ (λ f ls. names_of f ++ flat_map names_of_link ls) c.deref-in-Linked.ensures c.deref-in-Linked-2.ensures.value
          ∙ sym (linked_names c.in-Linked.first c.in-Linked.links) ∙ sym (ap names_of c.in-Linked.is))
          (c.check_linked.ensures.names (names_of first) c.check_formula-first.ensures.names);
    }

pub check_formula-returns-in-Post : goal.check_formula-returns-in-Post
check_formula-returns-in-Post t c =
    let types = c.args.types.now in
    record {
      told = subst (λ (o : Option QueryError). FindsFault c.check_changed.result o)
          (ap₂ (λ f ps. option_or (formula_fault types f) (postfixes_fault types (names_of f) ps)) c.deref-in-Post.ensures c.deref-in-Post-2.ensures.value
          ∙ sym (ap (formula_fault types) c.in-Post.is))
          c.check_changed.ensures.told;
      names = subst (λ (l : List (List ℕ)). IfOk c.check_changed.result (λ names. HaveSameNames names l))
          (ap₂ (λ f ps. names_after (names_of f) ps) c.deref-in-Post.ensures c.deref-in-Post-2.ensures.value ∙ sym (ap names_of c.in-Post.is))
          c.check_changed.ensures.names;
    }

pub check_formula-returns-in-Under : goal.check_formula-returns-in-Under
check_formula-returns-in-Under t c =
    let types = c.args.types.now in
    record {
      told = subst (λ (o : Option QueryError). FindsFault c.check_under.result o)
          (ap₂ (λ f cs. option_or (formula_fault types f) (first_in (filter_fault types (names_of f)) cs)) c.deref-in-Under.ensures c.deref-in-Under-2.ensures.value
          ∙ sym (ap (formula_fault types) c.in-Under.is))
          c.check_under.ensures.told;
      names = subst (λ (l : List (List ℕ)). IfOk c.check_under.result (λ names. HaveSameNames names l))
          (ap names_of c.deref-in-Under.ensures ∙ sym (ap names_of c.in-Under.is))
          c.check_under.ensures.names;
    }
