use Rattle.std.proofs.Common.{Bool, sym, ap, subst, ◌∙◌, ◌∷◌, ◌++◌, [], refl, arith, map}
use Rattle.std.specs.Prelude.{codes, Ok}
use Rattle.std.proofs.lemmas.Result.{err_from_is_err_and}
use Rattle.ceql_grammar.specs.ReadResults.{ReadsBehind}
use Rattle.ceql_grammar.specs.Formulas.{chain_tree, either_of, is_link, post_of, under_of}
use Rattle.ceql_grammar.specs.MemberLists.{any_formula_of}
use Rattle.ceql_grammar.specs.PartlyRead.{with_front}
use Rattle.ceql_grammar.specs.WordsAndSigns.{is}
use Rattle.ceql_grammar.specs.RuleForms.{◌>>=◌, map_read}
use Rattle.ceql_grammar.specs.RuleReaders.{base, chain_step, closed, either_step, formula, formula_step, is_tight, more_chains, more_filters, more_links, name, no_value, parts_tree, post_step, postfixes}
use Rattle.ceql_grammar.specs.Trees.{FormulaTree, formula_tree, of_type}
use Rattle.ceql_grammar.specs.LinkViews.{link_view}
use Rattle.ceql_grammar.proofs.LoopExits.{fails_as, bind_fails, change_fails, second_fails, front_none, turn_fails, turn_goes_plain, turn_ends}
use Rattle.ceql_grammar.proofs.InPlaceReading.{behind_exit, onto_exit, only_behind, one_longer, without_mark, parens_fail, parens_end, changed_inside, changed_pair, joint_fails, joint_goes, pair_goes, tail_goes}
use Rattle.ceql_grammar.proofs.FormulaRules.{formula_is}
use Rattle.ceql_grammar.proofs.LoopRules.{links_again, chains_again}
use Rattle.ceql_grammar.proofs.formulas.+formula.Goals as goal

pub base-returns-in_err-behind_inside-in-Some-clause-value : goal.base-returns-in_err-behind_inside-in-Some-clause-value
unfolding base
base-returns-in_err-behind_inside-in-Some-clause-value t c =
    let p = err_from_is_err_and c.from_residual.result c.from_residual.ensures.1 in
    behind_exit formula_tree c.args.formulas.now.items c.add_formula.new.formulas.items c.from_residual.result p.0 c.in_err-behind_inside-in-Some.field-0.0 p.1 p.2 (base formula c.args.tokens.now)
    (fails_as c.in_err-behind_inside-in-Some.field-0.0 _ (base formula c.args.tokens.now) (sym (changed_inside parts_tree formula (map_read of_type name) (codes "(") (codes ")") c.args.tokens.now))
    (parens_fail formula_tree c.args.formulas.now.items c.add_formula.new.formulas.items (codes "(") (codes ")") (map_read parts_tree formula) (map_read of_type name) c.args.tokens.now c.in-Some.inside.now c.in-Some.ensures.value c.in_err-behind_inside-in-Some.field-0.0 c.in_err-behind_inside-in-Some.ensures.value))

pub base-returns-in_ok-behind_inside-in-Some-clause-value : goal.base-returns-in_ok-behind_inside-in-Some-clause-value
unfolding base
base-returns-in_ok-behind_inside-in-Some-clause-value t c =
    let read = c.in_ok-behind_inside-in-Some.ensures.value in
    subst (ReadsBehind formula_tree c.args.formulas.now.items c.add_formula.new.formulas.items c.expect.result) (sym (changed_inside parts_tree formula (map_read of_type name) (codes "(") (codes ")") c.args.tokens.now))
    (parens_end formula_tree c.args.formulas.now.items c.add_formula.new.formulas.items (codes "(") (codes ")") (map_read parts_tree formula) (map_read of_type name) c.args.tokens.now c.in-Some.inside.now c.in-Some.ensures.value c.in_ok-behind_inside-in-Some.behind_inside.now read.0 read.1.0 read.1.1 c.expect.result c.expect.ensures.value)

pub base-returns-in-None-clause-value : goal.base-returns-in-None-clause-value
unfolding base
base-returns-in-None-clause-value t c =
    subst (ReadsBehind formula_tree c.args.formulas.now.items c.add_type.new.formulas.items c.add_type.result) (sym (changed_inside parts_tree formula (map_read of_type name) (codes "(") (codes ")") c.args.tokens.now))
    (without_mark formula_tree c.args.formulas.now.items c.add_type.new.formulas.items (codes "(") (closed (codes ")") (map_read parts_tree formula)) (map_read of_type name) c.args.tokens.now c.in-None.ensures.value c.add_type.result c.add_type.ensures.value)

pub post-returns-in_err-behind_base-clause-value : goal.post-returns-in_err-behind_base-clause-value
unfolding post_step
post-returns-in_err-behind_base-clause-value t c =
    let p = err_from_is_err_and c.from_residual.result c.from_residual.ensures.1 in
    behind_exit formula_tree c.args.formulas.now.items c.args.formulas.now.items c.from_residual.result p.0 c.in_err-behind_base.field-0.0 p.1 p.2 (post_step formula c.args.tokens.now)
    (bind_fails (base formula) (λ f. map_read (post_of f) postfixes) c.args.tokens.now c.in_err-behind_base.field-0.0 c.in_err-behind_base.ensures.value)

pub post-returns-clause-value : goal.post-returns-clause-value
unfolding post_step
post-returns-clause-value t c =
    let read = c.in_ok-behind_base.ensures.value in
    (tail_goes formula_tree c.args.formulas.now.items c.add_post.new.formulas.items c.add_post.result (base formula) postfixes post_of any_formula_of (λ f. refl) read.0 (map formula_tree c.base.new.formulas.items) c.args.tokens.now c.in_ok-behind_base.behind_base.now read.1.1 (only_behind formula_tree c.new-bases.result.items c.base.new.formulas.items read.0 c.new-bases.ensures.items read.1.0) c.add_post.ensures.value)

pub more_links-returns-in_err-behind_next-clause-value : goal.more_links-returns-in_err-behind_next-clause-value
unfolding more_links
more_links-returns-in_err-behind_next-clause-value t c =
    let p = err_from_is_err_and c.from_residual.result c.from_residual.ensures.1 in
    onto_exit link_view c.loop-tight.links.items c.from_residual.result p.0 c.in_err-behind_next.field-0.0 p.1 p.2 (with_front (map link_view c.args.links.now.items) (more_links formula c.args.tokens.now))
    (turn_fails is_link is_tight (λ tight. map_read {X = FormulaTree} {Y = Bool × FormulaTree} (λ f. (tight, f)) (post_step formula)) links_again (map link_view c.loop-tight.links.items) c.loop-tight.rest.now (with_front (map link_view c.args.links.now.items) (more_links formula c.args.tokens.now)) c.in-Some.tight c.in-Some.later.now c.in_err-behind_next.field-0.0 c.loop-tight.invariant.0 c.in-Some.ensures.value
    (change_fails (λ f. (c.in-Some.tight, f)) (post_step formula) c.in-Some.later.now c.in_err-behind_next.field-0.0 c.in_err-behind_next.ensures.value))

pub more_links-loop-tight-preserved : goal.more_links-loop-tight-preserved
unfolding more_links
more_links-loop-tight-preserved t c =
    let read = c.in_ok-behind_next.ensures.value in (
      turn_goes_plain is_link is_tight (λ tight. map_read {X = FormulaTree} {Y = Bool × FormulaTree} (λ f. (tight, f)) (post_step formula)) links_again (map link_view c.loop-tight.links.items) (map link_view c.add_link.new.links.items) c.loop-tight.rest.now (with_front (map link_view c.args.links.now.items) (more_links formula c.args.tokens.now)) c.in-Some.tight c.in-Some.later.now (c.in-Some.tight, read.0) c.in_ok-behind_next.behind_next.now c.loop-tight.invariant.0 c.in-Some.ensures.value
          (ap (λ o. o >>= λ x. Ok ((c.in-Some.tight, x.0), x.1)) read.1.1)
          (c.in_ok-add_link.ensures ∙ ap (λ l. map link_view c.loop-tight.links.items ++ (c.in-Some.tight, any_formula_of l) ∷ []) (only_behind formula_tree c.new-nexts.result.items c.post.new.formulas.items read.0 c.new-nexts.ensures.items read.1.0)),
      omega (arith, c.loop-tight.invariant.1, c.in-Some.ensures.shorter, c.in_ok-behind_next.ensures.shorter),
    )

pub more_links-returns-clause-value : goal.more_links-returns-clause-value
unfolding more_links
more_links-returns-clause-value t c = turn_ends is_link is_tight (λ tight. map_read {X = FormulaTree} {Y = Bool × FormulaTree} (λ f. (tight, f)) (post_step formula)) links_again (map link_view c.loop-tight.links.items) c.loop-tight.rest.now (with_front (map link_view c.args.links.now.items) (more_links formula c.args.tokens.now)) c.loop-tight.invariant.0 c.in_default.ensures.value

pub chain-returns-in_err-behind_first-clause-value : goal.chain-returns-in_err-behind_first-clause-value
unfolding chain_step
chain-returns-in_err-behind_first-clause-value t c =
    let p = err_from_is_err_and c.from_residual.result c.from_residual.ensures.1 in
    behind_exit formula_tree c.args.formulas.now.items c.args.formulas.now.items c.from_residual.result p.0 c.in_err-behind_first.field-0.0 p.1 p.2 (chain_step formula c.args.tokens.now)
    (bind_fails (post_step formula) (λ f. map_read (chain_tree f) (more_links formula)) c.args.tokens.now c.in_err-behind_first.field-0.0 c.in_err-behind_first.ensures.value)

pub chain-returns-in_err-rest-clause-value : goal.chain-returns-in_err-rest-clause-value
unfolding chain_step
chain-returns-in_err-rest-clause-value t c =
    let p = err_from_is_err_and c.from_residual-in_err-rest.result c.from_residual-in_err-rest.ensures.1 in
    let read = c.in_ok-behind_first.ensures.value in
    behind_exit formula_tree c.args.formulas.now.items c.args.formulas.now.items c.from_residual-in_err-rest.result p.0 c.in_err-rest.field-0.0 p.1 p.2 (chain_step formula c.args.tokens.now)
    (second_fails (post_step formula) (λ f. map_read (chain_tree f) (more_links formula)) c.args.tokens.now c.in_ok-behind_first.behind_first.now read.0 c.in_err-rest.field-0.0 read.1.1
    (change_fails (chain_tree read.0) (more_links formula) c.in_ok-behind_first.behind_first.now c.in_err-rest.field-0.0
    (fails_as c.in_err-rest.field-0.0 _ (more_links formula c.in_ok-behind_first.behind_first.now) (front_none (map link_view c.new-links.result.items) (more_links formula c.in_ok-behind_first.behind_first.now) (ap (map link_view) c.new-links.ensures.items)) c.in_err-rest.ensures.value)))

pub chain-returns-clause-value : goal.chain-returns-clause-value
unfolding chain_step
chain-returns-clause-value t c =
    let read = c.in_ok-behind_first.ensures.value in
    (_, (c.in_ok-add_chain.ensures, pair_goes (post_step formula) (more_links formula) chain_tree any_formula_of (λ f. refl) read.0 (map formula_tree c.post.new.formulas.items) c.args.tokens.now c.in_ok-behind_first.behind_first.now read.1.1 (only_behind formula_tree c.new-firsts.result.items c.post.new.formulas.items read.0 c.new-firsts.ensures.items read.1.0) (map link_view c.more_links.new.links.items) c.in_ok-rest.rest.now (sym (front_none (map link_view c.new-links.result.items) (more_links formula c.in_ok-behind_first.behind_first.now) (ap (map link_view) c.new-links.ensures.items)) ∙ c.in_ok-rest.ensures.value)))

pub more_chains-returns-in_err-behind_next-clause-value : goal.more_chains-returns-in_err-behind_next-clause-value
unfolding more_chains
more_chains-returns-in_err-behind_next-clause-value t c =
    let p = err_from_is_err_and c.from_residual.result c.from_residual.ensures.1 in
    onto_exit formula_tree c.chain.new.formulas.items c.from_residual.result p.0 c.in_err-behind_next.field-0.0 p.1 p.2 (with_front (map formula_tree c.args.members.now.items) (more_chains formula c.args.tokens.now))
    (turn_fails (is (codes "OR")) no_value (λ _. chain_step formula) chains_again (map formula_tree c.loop-later.members.items) c.loop-later.rest.now (with_front (map formula_tree c.args.members.now.items) (more_chains formula c.args.tokens.now)) tt c.in-Some.later.now c.in_err-behind_next.field-0.0 c.loop-later.invariant.0 c.in-Some.ensures.value c.in_err-behind_next.ensures.value)

pub more_chains-loop-later-preserved : goal.more_chains-loop-later-preserved
unfolding more_chains
more_chains-loop-later-preserved t c =
    let read = c.in_ok-behind_next.ensures.value in (
      turn_goes_plain (is (codes "OR")) no_value (λ _. chain_step formula) chains_again (map formula_tree c.loop-later.members.items) (map formula_tree c.chain.new.formulas.items) c.loop-later.rest.now (with_front (map formula_tree c.args.members.now.items) (more_chains formula c.args.tokens.now)) tt c.in-Some.later.now read.0 c.in_ok-behind_next.behind_next.now c.loop-later.invariant.0 c.in-Some.ensures.value read.1.1 read.1.0,
      (omega (arith, c.loop-later.invariant.1.0, c.in-Some.ensures.shorter, c.in_ok-behind_next.ensures.shorter), one_longer formula_tree c.args.members.now.items c.loop-later.members.items c.chain.new.formulas.items read.0 c.loop-later.invariant.1.1 read.1.0),
    )

pub more_chains-returns-clause-value : goal.more_chains-returns-clause-value
unfolding more_chains
more_chains-returns-clause-value t c = turn_ends (is (codes "OR")) no_value (λ _. chain_step formula) chains_again (map formula_tree c.loop-later.members.items) c.loop-later.rest.now (with_front (map formula_tree c.args.members.now.items) (more_chains formula c.args.tokens.now)) c.loop-later.invariant.0 c.in_default.ensures.value

pub either-returns-in_err-behind_first-clause-value : goal.either-returns-in_err-behind_first-clause-value
unfolding either_step
either-returns-in_err-behind_first-clause-value t c =
    let p = err_from_is_err_and c.from_residual.result c.from_residual.ensures.1 in
    behind_exit formula_tree c.args.formulas.now.items c.args.formulas.now.items c.from_residual.result p.0 c.in_err-behind_first.field-0.0 p.1 p.2 (either_step formula c.args.tokens.now)
    (bind_fails (chain_step formula) (λ x. map_read (either_of x) (more_chains formula)) c.args.tokens.now c.in_err-behind_first.field-0.0 c.in_err-behind_first.ensures.value)

pub either-returns-in_err-rest-clause-value : goal.either-returns-in_err-rest-clause-value
unfolding either_step
either-returns-in_err-rest-clause-value t c =
    let p = err_from_is_err_and c.from_residual-in_err-rest.result c.from_residual-in_err-rest.ensures.1 in
    let read = c.in_ok-behind_first.ensures.value in
    behind_exit formula_tree c.args.formulas.now.items c.args.formulas.now.items c.from_residual-in_err-rest.result p.0 c.in_err-rest.field-0.0 p.1 p.2 (either_step formula c.args.tokens.now)
    (joint_fails (chain_step formula) (more_chains formula) either_of read.0 (map formula_tree c.chain.new.formulas.items) c.args.tokens.now c.in_ok-behind_first.behind_first.now read.1.1 (only_behind formula_tree c.new-members.result.items c.chain.new.formulas.items read.0 c.new-members.ensures.items read.1.0) c.in_err-rest.field-0.0 c.in_err-rest.ensures.value)

pub either-returns-clause-value : goal.either-returns-clause-value
unfolding either_step
either-returns-clause-value t c =
    let read = c.in_ok-behind_first.ensures.value in
    (_, (c.in_ok-add_any.ensures, joint_goes (chain_step formula) (more_chains formula) either_of read.0 (map formula_tree c.chain.new.formulas.items) c.args.tokens.now c.in_ok-behind_first.behind_first.now read.1.1 (only_behind formula_tree c.new-members.result.items c.chain.new.formulas.items read.0 c.new-members.ensures.items read.1.0) (map formula_tree c.more_chains.new.members.items) c.in_ok-rest.rest.now any_formula_of (λ x xs. refl) c.in_ok-rest.ensures.value))

pub add_formula-returns-in_err-behind_base-clause-value : goal.add_formula-returns-in_err-behind_base-clause-value
unfolding formula_step
add_formula-returns-in_err-behind_base-clause-value t c =
    let p = err_from_is_err_and c.from_residual.result c.from_residual.ensures.1 in
    behind_exit formula_tree c.args.formulas.now.items c.args.formulas.now.items c.from_residual.result p.0 c.in_err-behind_base.field-0.0 p.1 p.2 (map_read parts_tree formula c.args.tokens.now)
    (fails_as c.in_err-behind_base.field-0.0 _ (map_read parts_tree formula c.args.tokens.now) (sym (ap (λ o. o >>= λ p. Ok (parts_tree p.0, p.1)) (formula_is c.args.tokens.now) ∙ changed_pair parts_tree (either_step formula) more_filters c.args.tokens.now)) (bind_fails (either_step formula) (λ f. map_read (under_of f) more_filters) c.args.tokens.now c.in_err-behind_base.field-0.0 c.in_err-behind_base.ensures.value))

pub add_formula-returns-clause-value : goal.add_formula-returns-clause-value
unfolding formula_step
add_formula-returns-clause-value t c =
    let read = c.in_ok-behind_base.ensures.value in
    subst (ReadsBehind formula_tree c.args.formulas.now.items c.add_under.new.formulas.items c.add_under.result) (sym (ap (λ o. o >>= λ p. Ok (parts_tree p.0, p.1)) (formula_is c.args.tokens.now) ∙ changed_pair parts_tree (either_step formula) more_filters c.args.tokens.now)) (tail_goes formula_tree c.args.formulas.now.items c.add_under.new.formulas.items c.add_under.result (either_step formula) more_filters under_of any_formula_of (λ f. refl) read.0 (map formula_tree c.either.new.formulas.items) c.args.tokens.now c.in_ok-behind_base.behind_base.now read.1.1 (only_behind formula_tree c.new-bases.result.items c.either.new.formulas.items read.0 c.new-bases.ensures.items read.1.0) c.add_under.ensures.value)
