-- Each loop of the reading functions is one step and then the loop again.
use Rattle.std.proofs.Common.{◌≡◌, refl, ℕ, suc, Bool, true, List, [], ◌∷◌, arith}
use Rattle.std.specs.Prelude.{codes}
use Rattle.ceql_lexer.specs.declared.Token.{Token}
use Rattle.ceql_grammar.specs.WordsAndSigns.{among, is}
use Rattle.ceql_grammar.specs.Conditions.{IsConjunction, IsUnit, IsFilter, IsFilterConjunction, IsFilterUnit}
use Rattle.ceql_grammar.specs.Formulas.{IsPostfix, IsChain, sequence, links_end, is_link}
use Rattle.ceql_grammar.specs.Statements.{IsAttrDecl, IsStatement}
use Rattle.ceql_grammar.specs.Trees.{FormulaTree}
use Rattle.ceql_grammar.specs.RuleForms.{Rule, TokenReader, bind, map_read, one_token}
use Rattle.ceql_grammar.specs.RuleReaders as reading
use Rattle.ceql_grammar.specs.RuleReaders.{any_token, continues_statement, is_tight, is_postfix, led, many_after, no_value}
use Rattle.ceql_grammar.proofs.RuleReaders.{Reads, Filled}
use Rattle.ceql_grammar.proofs.Fixpoints.{reads_fewer}
use Rattle.ceql_grammar.proofs.ExclusiveTests.{disjoint, covered, a_sign, a_word}
use Rattle.ceql_grammar.proofs.ReaderForms.{none as no_mark, led_rule, loops, reads_led}
use Rattle.ceql_grammar.proofs.PredicateRules as predicates
use Rattle.ceql_grammar.proofs.PredicateRules.{name_rule, reads_name, and_marks, or_marks, reads_pred}
use Rattle.ceql_grammar.proofs.FilterRules as filters
use Rattle.ceql_grammar.proofs.FilterRules.{a_filter, reads_filter}
use Rattle.ceql_grammar.proofs.NameRules.{a_name_rule, postfix_loops, postfix_marks, reads_postfix}
use Rattle.ceql_grammar.proofs.SequenceRules.{chain_marks, a_post}
use Rattle.ceql_grammar.proofs.FormulaRules.{link_rule, link_loops, reads_link, reads_chain, reads_formula}
use Rattle.ceql_grammar.proofs.DeclarationRules.{begin_marks, an_attr, reads_attr}
use Rattle.ceql_grammar.proofs.StatementRules.{reads_statement}
use Rattle.ceql_grammar.proofs.TextRules.{text_loops}
use Rattle.ceql_grammar.specs.ConditionLaws.{Again, AreLawful}
use Rattle.ceql_grammar.proofs.RepeatedReading.{again}

led_again : {X : Type 0} (mark : List ℕ) (marks : List (List ℕ)) (R : Rule X) (r : TokenReader X) (s : Token) → is mark s ≡ true → disjoint (mark ∷ []) marks ≡ true → covered marks (mark ∷ marks) [] ≡ true → covered (mark ∷ []) (mark ∷ marks) [] ≡ true → covered (mark ∷ marks) (mark ∷ []) marks ≡ true → Filled R → ((n : ℕ) → Reads no_mark n R (λ _. among marks) r) → Again (is mark) (led mark r)
led_again mark marks R r s e d f g h filled reads = again (among marks) (led_rule mark R) (λ _. among marks) (is mark) (is mark) (among (mark ∷ marks)) (loops mark marks R d f g h) (led mark r)
    (λ n. reads_fewer no_mark (led_rule mark R) (λ _. among marks) n (suc n) (led mark r) (omega arith) (reads_led no_mark (is mark) no_value (λ _. R) (λ _. among marks) n (λ _. r) s e (λ _. filled) (λ _. reads n)))

pub names_again : Again (is (codes ",")) (led (codes ",") reading.name)
names_again = led_again (codes ",") [] name_rule reading.name (a_sign (codes ",")) refl refl refl refl refl a_name_rule (reads_name no_mark)

pub preds_are_lawful : AreLawful reading.pred_parts
preds_are_lawful = record {
  step = predicates.pred_is;
  units = led_again (codes "AND") [] IsUnit (reading.unit reading.pred_parts reading.pred) (a_word (codes "AND")) refl refl refl refl refl predicates.a_unit (λ n. reads_fewer no_mark IsUnit (λ _. no_mark) n (suc n) (reading.unit reading.pred_parts reading.pred) (omega arith) (predicates.reads_unit n reading.pred (reads_pred n)));
  conjunctions = led_again (codes "OR") and_marks IsConjunction (reading.conjunction reading.pred_parts reading.pred) (a_word (codes "OR")) refl refl refl refl refl predicates.a_conjunction (λ n. reads_fewer no_mark IsConjunction (λ _. among and_marks) n (suc n) (reading.conjunction reading.pred_parts reading.pred) (omega arith) (predicates.reads_conjunction n reading.pred (reads_pred n)));
  alone = λ p. refl;
}

pub filters_are_lawful : AreLawful reading.filter_parts
filters_are_lawful = record {
  step = filters.filter_is;
  units = led_again (codes "AND") [] IsFilterUnit (reading.unit reading.filter_parts reading.filter) (a_word (codes "AND")) refl refl refl refl refl filters.a_unit (λ n. reads_fewer no_mark IsFilterUnit (λ _. no_mark) n (suc n) (reading.unit reading.filter_parts reading.filter) (omega arith) (filters.reads_unit n reading.filter (reads_filter n)));
  conjunctions = led_again (codes "OR") and_marks IsFilterConjunction (reading.conjunction reading.filter_parts reading.filter) (a_word (codes "OR")) refl refl refl refl refl filters.a_conjunction (λ n. reads_fewer no_mark IsFilterConjunction (λ _. among and_marks) n (suc n) (reading.conjunction reading.filter_parts reading.filter) (omega arith) (filters.reads_conjunction n reading.filter (reads_filter n)));
  alone = λ c. refl;
}

pub filters_again : Again (is (codes "FILTER")) (led (codes "FILTER") reading.filter)
filters_again = led_again (codes "FILTER") or_marks IsFilter reading.filter (a_word (codes "FILTER")) refl refl refl refl refl a_filter reads_filter

pub chains_again : Again (is (codes "OR")) (led (codes "OR") (reading.chain_step reading.formula))
chains_again = led_again (codes "OR") chain_marks IsChain (reading.chain_step reading.formula) (a_word (codes "OR")) refl refl refl refl refl (record { tokens = _; value = _; derived = sequence a_post links_end }) (λ n. reads_fewer no_mark IsChain (λ _. among chain_marks) n (suc n) (reading.chain_step reading.formula) (omega arith) (reads_chain n reading.formula (reads_formula n)))

pub attrs_again : Again (is (codes ",")) (led (codes ",") reading.attr)
attrs_again = led_again (codes ",") [] IsAttrDecl reading.attr (a_sign (codes ",")) refl refl refl refl refl an_attr (λ n. reads_fewer no_mark IsAttrDecl (λ _. no_mark) n (suc n) reading.attr (omega arith) (reads_attr n))

pub postfixes_again : Again is_postfix reading.postfix
postfixes_again = again no_mark IsPostfix (λ _. no_mark) (among postfix_marks) (among postfix_marks) (among postfix_marks) postfix_loops reading.postfix (λ n. reads_fewer no_mark IsPostfix (λ _. no_mark) n (suc n) reading.postfix (omega arith) (reads_postfix n))

pub links_again : Again {X = Bool × FormulaTree} is_link (bind (one_token is_link is_tight) (λ tight. map_read (λ f. (tight, f)) (reading.post_step reading.formula)))
links_again = again (among postfix_marks) link_rule (λ _. among postfix_marks) is_link is_link (among chain_marks) link_loops _ (λ n. reads_fewer no_mark link_rule (λ _. among postfix_marks) n (suc n) _ (omega arith) (reads_link n reading.formula (reads_formula n) no_mark))

pub statements_again : Again any_token reading.one_statement
statements_again = again no_mark IsStatement (λ _. continues_statement) any_token (among begin_marks) any_token text_loops reading.one_statement reads_statement
