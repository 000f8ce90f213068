-- Formulas are read exactly.
use Rattle.std.proofs.Common.{◌≡◌, refl, ℕ, suc, true, false, List, [], ◌∷◌, ◌++◌, arith}
use Rattle.std.specs.Prelude.{codes}
use Rattle.ceql_lexer.specs.declared.Token.{Token}
use Rattle.ceql_grammar.specs.WordsAndSigns.{Is, among, is, is_name_token, token_name}
use Rattle.ceql_grammar.specs.Trees.{FilterTree, FormulaTree, of_type}
use Rattle.ceql_grammar.specs.Conditions.{IsFilter}
use Rattle.ceql_grammar.specs.Formulas.{AreFilters, filters_end, filter_next, post_of, IsFormula, formula, IsEither, alternatives, others_end, sequence, links_end, IsPost, with_postfixes, IsPostfix, postfixes_end, IsBase, type_name, in_parens}
use Rattle.ceql_grammar.specs.RuleForms.{Rule, TokenReader, Test, Bind, bound, Mapped, mapped, one, Either, left, right, bind, map_read, Many, none, more}
use Rattle.ceql_grammar.specs.RuleReaders as reading
use Rattle.ceql_grammar.specs.RuleReaders.{FormulaParts, parts_tree, is_tight}
use Rattle.ceql_grammar.proofs.RuleReaders.{Goes, Reads, Filled, reads_bind, reads_mapped, begins_one, shuns_ends}
use Rattle.ceql_grammar.proofs.Fixpoints.{reads_other, reads_fewer, begins_mapped, shuns_apart, shuns_mapped, Loops, reads_many_first}
use Rattle.ceql_grammar.proofs.ExclusiveTests.{apart, name_apart, stops_both, stops_some, a_name, a_sign, a_word}
use Rattle.ceql_grammar.proofs.ReaderForms.{none as no_mark, word_rule, led_rule, repeated_rule, reads_word, reads_led, reads_branch, loops}
use Rattle.ceql_grammar.proofs.PredicateRules.{name_rule, reads_name, or_marks}
use Rattle.ceql_grammar.proofs.FilterRules.{a_filter, reads_filter}
use Rattle.ceql_grammar.proofs.NameRules.{postfix_marks, reads_postfixes, to_postfixes, from_postfixes}

-- the words and signs that go on with a chain, with alternatives, and with a formula that has no filter
-- or one
abbrev pub link_marks : List (List ℕ)
link_marks = codes ";" ∷ codes ":" ∷ []

abbrev pub chain_marks : List (List ℕ)
chain_marks = codes ";" ∷ codes ":" ∷ postfix_marks

abbrev pub either_marks : List (List ℕ)
either_marks = codes "OR" ∷ chain_marks

abbrev pub bare_marks : List (List ℕ)
bare_marks = codes "FILTER" ∷ either_marks

abbrev pub filtered_marks : List (List ℕ)
filtered_marks = codes "FILTER" ∷ or_marks

abbrev pub goes_filters : Goes (List FilterTree)
goes_filters [] = among bare_marks
goes_filters (c ∷ cs) = among filtered_marks

abbrev pub goes_filtered : Goes FormulaParts
goes_filtered f = goes_filters f.1

-- FILTERS

abbrev pub filters_rule : Rule (List FilterTree)
filters_rule = repeated_rule (codes "FILTER") IsFilter

pub to_filters : (xs : List Token) (cs : List FilterTree) → filters_rule xs cs → AreFilters xs cs
to_filters _ _ none = filters_end
to_filters _ _ (more (bound (one e) h) m) = filter_next e h (to_filters _ _ m)

pub from_filters : (xs : List Token) (cs : List FilterTree) → AreFilters xs cs → filters_rule xs cs
from_filters _ _ filters_end = none
from_filters _ _ (filter_next e h m) = more (bound (one e) h) (from_filters _ _ m)

pub filter_loops : Loops (among or_marks) (led_rule (codes "FILTER") IsFilter) (λ _. among or_marks) (is (codes "FILTER")) (is (codes "FILTER")) (among filtered_marks)
filter_loops = loops (codes "FILTER") or_marks IsFilter refl refl refl refl

reads_one_filter : (a : Test) (n : ℕ) → Reads a n (led_rule (codes "FILTER") IsFilter) (λ _. among or_marks) (reading.led (codes "FILTER") reading.filter)
reads_one_filter a n = reads_fewer a (led_rule (codes "FILTER") IsFilter) (λ _. among or_marks) n (suc n) (reading.led (codes "FILTER") reading.filter) (omega arith)
    (reads_led a (is (codes "FILTER")) reading.no_value (λ _. IsFilter) (λ _. among or_marks) n (λ _. reading.filter) (a_word (codes "FILTER")) refl (λ _. a_filter) (λ _. reads_filter n))

pub reads_filters : (n : ℕ) → Reads (among either_marks) n filters_rule goes_filters reading.more_filters
unfolding reading.more_filters
reads_filters n = reads_many_first (among either_marks) (among or_marks) (led_rule (codes "FILTER") IsFilter) (λ _. among or_marks) (is (codes "FILTER")) (is (codes "FILTER")) (among filtered_marks) goes_filters n (reading.led (codes "FILTER") reading.filter)
    filter_loops (λ x l. refl) (stops_both bare_marks (codes "FILTER" ∷ []) either_marks refl) (stops_some (codes "FILTER" ∷ []) bare_marks refl) (reads_one_filter (among either_marks) n) (reads_one_filter (among or_marks) n)

-- A FORMULA AND ITS FILTERS AS A PAIR

abbrev pub paired_rule : FormulaTree → Rule FormulaParts
paired_rule f = Mapped (λ cs. (f, cs)) filters_rule

abbrev pub pair_rule : Rule FormulaParts
pair_rule = Bind IsEither paired_rule

to_paired : (f : FormulaTree) (xs ys : List Token) (p : FormulaParts) → IsEither xs f → paired_rule f ys p → IsFormula (xs ++ ys) (parts_tree p)
to_paired f _ _ _ h (mapped m) = formula h (to_filters _ _ m)

pub to_formula : (xs : List Token) (p : FormulaParts) → pair_rule xs p → IsFormula xs (parts_tree p)
to_formula _ _ (bound {xs} {ys} {x} {y = p} h m) = to_paired x xs ys p h m

pub from_formula : (xs : List Token) (f : FormulaTree) → IsFormula xs f → Mapped parts_tree pair_rule xs f
from_formula _ _ (formula {f} {cs} h m) = mapped {x = (f, cs)} (bound h (mapped (from_filters _ _ m)))

-- BASES

abbrev closing_rule : FormulaParts → Rule FormulaTree
closing_rule f = Mapped (λ _. parts_tree f) (word_rule (codes ")"))

abbrev base_rule : Rule FormulaTree
base_rule = Either (led_rule (codes "(") (Bind pair_rule closing_rule)) (Mapped of_type name_rule)

close : (c : Token) (xs : List Token) (f : FormulaTree) → Mapped parts_tree pair_rule xs f → Is (codes ")") c → Bind pair_rule closing_rule (xs ++ (c ∷ [])) f
close c _ _ (mapped h) e = bound h (mapped (one e))

to_base : (xs : List Token) (f : FormulaTree) → base_rule xs f → IsBase xs f
to_base _ _ (left (bound (one o) (bound h (mapped (one {t} c))))) = in_parens t o (to_formula _ _ h) c
to_base _ _ (right (mapped (one a))) = type_name a

from_base : (xs : List Token) (f : FormulaTree) → IsBase xs f → base_rule xs f
from_base _ _ (type_name a) = right (mapped (one a))
from_base _ _ (in_parens t o h c) = left (bound (one o) (close t _ _ (from_formula _ _ h) c))

pub a_post : IsPost (a_name ∷ []) (of_type (token_name a_name))
a_post = with_postfixes (type_name {a = a_name} refl) postfixes_end

pub an_either : IsEither (a_name ∷ []) (of_type (token_name a_name))
an_either = alternatives (sequence a_post links_end) others_end

pub a_pair : Filled pair_rule
a_pair = record { tokens = a_name ∷ []; value = (of_type (token_name a_name), []); derived = bound an_either (mapped none) }

closes : (p : FormulaParts) (cs : List FilterTree) (t : Token) → is (codes ")") t ≡ true → goes_filters cs t ≡ false
closes p [] = apart (codes ")" ∷ []) bare_marks refl
closes p (c ∷ cs) = apart (codes ")" ∷ []) filtered_marks refl

to_post : (xs : List Token) (f : FormulaTree) → Bind IsBase (λ f. Mapped (post_of f) (Many IsPostfix)) xs f → IsPost xs f
to_post _ _ (bound h (mapped m)) = with_postfixes h (to_postfixes _ _ m)

from_post : (xs : List Token) (f : FormulaTree) → IsPost xs f → Bind IsBase (λ f. Mapped (post_of f) (Many IsPostfix)) xs f
from_post _ _ (with_postfixes h m) = bound h (mapped (from_postfixes _ _ m))

module _ (n : ℕ) (inner : TokenReader FormulaParts) (h : Reads no_mark n pair_rule goes_filtered inner) where
  reads_closing : Reads no_mark n (Bind pair_rule closing_rule) (λ _. no_mark) (bind inner (λ f. map_read (λ _. parts_tree f) (reading.mark_token (codes ")"))))
  reads_closing = reads_bind no_mark pair_rule closing_rule goes_filtered (λ _. no_mark) n inner _
      (λ f. shuns_mapped (λ _. parts_tree f) (word_rule (codes ")")) (λ _. no_mark) (goes_filtered f) (shuns_apart (word_rule (codes ")")) (λ _. no_mark) (is (codes ")")) (goes_filtered f) (closes f f.1) (begins_one (is (codes ")")) reading.no_value)))
      (λ f. record { tokens = a_sign (codes ")") ∷ []; value = parts_tree f; derived = mapped (one refl) })
      h
      (λ f. reads_mapped (goes_filtered f) (λ _. parts_tree f) (word_rule (codes ")")) (λ _. no_mark) n (reading.mark_token (codes ")")) (reads_word (goes_filtered f) (codes ")") n (a_sign (codes ")")) refl))

  reads_base : Reads no_mark (suc n) IsBase (λ _. no_mark) (reading.base inner)
  unfolding reading.base
  reads_base = reads_other no_mark base_rule IsBase (λ _. no_mark) (suc n) (reading.base inner) to_base from_base
      (reads_branch no_mark (is (codes "(")) reading.no_value (λ _. Bind pair_rule closing_rule) (Mapped of_type name_rule) (λ _. no_mark) n _ (map_read of_type reading.name) (a_sign (codes "(")) refl
      (shuns_apart (Mapped of_type name_rule) (λ _. no_mark) is_name_token (is (codes "(")) (name_apart (codes "(" ∷ []) refl) (begins_mapped of_type name_rule is_name_token (begins_one is_name_token token_name)))
      (λ _. record { tokens = _; value = _; derived = close (a_sign (codes ")")) _ _ (mapped a_pair.derived) refl })
      (λ _. reads_closing)
      (reads_mapped no_mark of_type name_rule (λ _. no_mark) (suc n) reading.name (reads_name no_mark (suc n))))

  -- POSTFIXES

  pub reads_post : Reads no_mark (suc n) IsPost (λ _. among postfix_marks) (reading.post_step inner)
  unfolding reading.post_step
  reads_post = reads_other no_mark (Bind IsBase (λ f. Mapped (post_of f) (Many IsPostfix))) IsPost (λ _. among postfix_marks) (suc n) (reading.post_step inner) to_post from_post
      (reads_bind no_mark IsBase (λ f. Mapped (post_of f) (Many IsPostfix)) (λ _. no_mark) (λ _. among postfix_marks) (suc n) (reading.base inner) _
      (λ f. shuns_ends (Mapped (post_of f) (Many IsPostfix)) (λ _. among postfix_marks))
      (λ f. record { tokens = []; value = f; derived = mapped none })
      reads_base
      (λ f. reads_mapped no_mark (post_of f) (Many IsPostfix) (λ _. among postfix_marks) (suc n) reading.postfixes (reads_postfixes (suc n))))
