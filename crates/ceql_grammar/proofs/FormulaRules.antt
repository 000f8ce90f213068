-- Sequences, alternatives and whole formulas are read exactly.
use Rattle.std.proofs.Common.{◌≡◌, refl, ℕ, suc, Bool, List, [], ◌∷◌, arith}
use Rattle.std.specs.Prelude.{codes}
use Rattle.ceql_lexer.specs.declared.Token.{Token}
use Rattle.ceql_grammar.specs.WordsAndSigns.{among, is}
use Rattle.ceql_grammar.specs.Trees.{FormulaTree}
use Rattle.ceql_grammar.specs.Conditions.{IsFilter}
use Rattle.ceql_grammar.specs.Formulas.{chain_tree, either_of, is_link, IsEither, alternatives, AreOthers, others_end, other_next, IsChain, sequence, AreLinks, links_end, link_next, IsPost}
use Rattle.ceql_grammar.specs.RuleForms.{Rule, TokenReader, Test, Bind, bound, Mapped, mapped, One, one, bind, map_read, one_token, Many, none, more}
use Rattle.ceql_grammar.specs.RuleReaders as reading
use Rattle.ceql_grammar.specs.RuleReaders.{FormulaParts, parts_tree, is_tight}
use Rattle.ceql_grammar.proofs.RuleReaders.{Reads, Begins, reads_bind, reads_mapped, begins_one, stops_ends}
use Rattle.ceql_grammar.proofs.Fixpoints.{reads_other, reads_fewer, begins_bind, shuns_mapped, Loops, shuns_many, shuns_many_first, reads_many, fixpoint_reads, fixpoint_is}
use Rattle.ceql_grammar.proofs.ExclusiveTests.{apart, stops_both, stops_some, a_sign, a_word}
use Rattle.ceql_grammar.proofs.ReaderForms.{none as no_mark, led_rule, repeated_rule, list_rule, reads_led, reads_list}
use Rattle.ceql_grammar.proofs.NameRules.{postfix_marks}
use Rattle.ceql_grammar.proofs.SequenceRules.{link_marks, chain_marks, either_marks, bare_marks, goes_filters, goes_filtered, filters_rule, paired_rule, pair_rule, reads_filters, filter_loops, a_post, reads_post}

-- LINKS

abbrev tied_rule : Bool → Rule (Bool × FormulaTree)
tied_rule tight = Mapped (λ f. (tight, f)) IsPost

abbrev pub link_rule : Rule (Bool × FormulaTree)
link_rule = Bind (One is_link is_tight) tied_rule

to_links : (xs : List Token) (ls : List (Bool × FormulaTree)) → Many link_rule xs ls → AreLinks xs ls
to_links _ _ none = links_end
to_links _ _ (more (bound (one e) (mapped h)) m) = link_next e h (to_links _ _ m)

from_links : (xs : List Token) (ls : List (Bool × FormulaTree)) → AreLinks xs ls → Many link_rule xs ls
from_links _ _ links_end = none
from_links _ _ (link_next e h m) = more (bound (one e) (mapped h)) (from_links _ _ m)

begins_link : Begins link_rule is_link
begins_link = begins_bind (One is_link is_tight) tied_rule is_link (begins_one is_link is_tight)

pub link_loops : Loops (among postfix_marks) link_rule (λ _. among postfix_marks) is_link is_link (among chain_marks)
link_loops = record {
  begins = begins_link;
  tested = λ t h. h;
  apart = λ x. apart link_marks postfix_marks refl;
  stops_item = λ x. stops_some postfix_marks chain_marks refl;
  stops_test = stops_some link_marks chain_marks refl;
  stops_both = stops_both chain_marks link_marks postfix_marks refl;
  stops_before = λ x ts s. s;
}

abbrev chained_rule : FormulaTree → Rule FormulaTree
chained_rule f = Mapped (chain_tree f) (Many link_rule)

to_chain : (xs : List Token) (f : FormulaTree) → Bind IsPost chained_rule xs f → IsChain xs f
to_chain _ _ (bound h (mapped m)) = sequence h (to_links _ _ m)

from_chain : (xs : List Token) (f : FormulaTree) → IsChain xs f → Bind IsPost chained_rule xs f
from_chain _ _ (sequence h m) = bound h (mapped (from_links _ _ m))

to_others : (xs : List Token) (fs : List FormulaTree) → repeated_rule (codes "OR") IsChain xs fs → AreOthers xs fs
to_others _ _ none = others_end
to_others _ _ (more (bound (one e) h) m) = other_next e h (to_others _ _ m)

from_others : (xs : List Token) (fs : List FormulaTree) → AreOthers xs fs → repeated_rule (codes "OR") IsChain xs fs
from_others _ _ others_end = none
from_others _ _ (other_next e h m) = more (bound (one e) h) (from_others _ _ m)

to_either : (xs : List Token) (f : FormulaTree) → list_rule (codes "OR") either_of IsChain xs f → IsEither xs f
to_either _ _ (bound h (mapped m)) = alternatives h (to_others _ _ m)

from_either : (xs : List Token) (f : FormulaTree) → IsEither xs f → list_rule (codes "OR") either_of IsChain xs f
from_either _ _ (alternatives h m) = bound h (mapped (from_others _ _ m))

module _ (n : ℕ) (inner : TokenReader FormulaParts) (h : Reads no_mark n pair_rule goes_filtered inner) where
  pub reads_link : (a : Test) → Reads a (suc n) link_rule (λ _. among postfix_marks) (bind (one_token is_link is_tight) (λ tight. map_read (λ f. (tight, f)) (reading.post_step inner)))
  reads_link a = reads_led a is_link is_tight tied_rule (λ _. among postfix_marks) n _ (a_sign (codes ";")) refl
      (λ tight. record { tokens = _; value = _; derived = mapped a_post })
      (λ tight. reads_mapped no_mark (λ f. (tight, f)) IsPost (λ _. among postfix_marks) n (reading.post_step inner) (reads_fewer no_mark IsPost (λ _. among postfix_marks) n (suc n) (reading.post_step inner) (omega arith) (reads_post n inner h)))

  reads_links : Reads (among postfix_marks) (suc n) (Many link_rule) (λ _. among chain_marks) (reading.more_links inner)
  unfolding reading.more_links
  reads_links = reads_many (among postfix_marks) link_rule (λ _. among postfix_marks) is_link is_link (among chain_marks) link_loops _ (suc n) (reads_link (among postfix_marks))

  pub reads_chain : Reads no_mark (suc n) IsChain (λ _. among chain_marks) (reading.chain_step inner)
  unfolding reading.chain_step
  reads_chain = reads_other no_mark (Bind IsPost chained_rule) IsChain (λ _. among chain_marks) (suc n) (reading.chain_step inner) to_chain from_chain
      (reads_bind no_mark IsPost chained_rule (λ _. among postfix_marks) (λ _. among chain_marks) (suc n) (reading.post_step inner) _
      (λ f. shuns_mapped (chain_tree f) (Many link_rule) (λ _. among chain_marks) (among postfix_marks) (shuns_many link_rule is_link (among chain_marks) (among postfix_marks) begins_link (apart link_marks postfix_marks refl) (stops_some postfix_marks chain_marks refl)))
      (λ f. record { tokens = []; value = chain_tree f []; derived = mapped none })
      (reads_post n inner h)
      (λ f. reads_mapped (among postfix_marks) (chain_tree f) (Many link_rule) (λ _. among chain_marks) (suc n) (reading.more_links inner) reads_links))

  reads_either : Reads no_mark (suc n) IsEither (λ _. among either_marks) (reading.either_step inner)
  unfolding reading.either_step reading.more_chains
  reads_either = reads_other no_mark (list_rule (codes "OR") either_of IsChain) IsEither (λ _. among either_marks) (suc n) (reading.either_step inner) to_either from_either
      (reads_list no_mark (codes "OR") chain_marks either_of IsChain (suc n) (reading.chain_step inner) (a_word (codes "OR")) refl refl refl refl refl (record { tokens = _; value = _; derived = sequence a_post links_end }) reads_chain reads_chain)

  reads_step : Reads no_mark (suc n) pair_rule goes_filtered (reading.formula_step inner)
  unfolding reading.formula_step
  reads_step = reads_bind no_mark IsEither paired_rule (λ _. among either_marks) goes_filtered (suc n) (reading.either_step inner) _
      (λ f. shuns_mapped (λ cs. (f, cs)) filters_rule goes_filtered (among either_marks) (shuns_many_first (led_rule (codes "FILTER") IsFilter) (is (codes "FILTER")) (among either_marks) goes_filters filter_loops.begins (apart (codes "FILTER" ∷ []) either_marks refl) (stops_some either_marks bare_marks refl)))
      (λ f. record { tokens = []; value = (f, []); derived = mapped none })
      reads_either
      (λ f. reads_mapped (among either_marks) (λ cs. (f, cs)) filters_rule goes_filtered (suc n) reading.more_filters (reads_filters (suc n)))

-- a formula with its filters is read exactly
pub reads_formula : (n : ℕ) → Reads no_mark n pair_rule goes_filtered reading.formula
unfolding reading.formula
reads_formula n = fixpoint_reads no_mark pair_rule goes_filtered reading.formula_step n (λ k r _. reads_step k r)

pub formula_is : (ts : List Token) → reading.formula ts ≡ reading.formula_step reading.formula ts
unfolding reading.formula
formula_is ts = fixpoint_is no_mark pair_rule goes_filtered reading.formula_step reads_step ts (stops_ends {X = ℕ} 0 ts)
