-- Filters are read exactly.
use Rattle.std.proofs.Common.{◌≡◌, refl, ℕ, suc, List, [], ◌∷◌, arith}
use Rattle.std.specs.Prelude.{codes}
use Rattle.ceql_lexer.specs.declared.Token.{Token}
use Rattle.cel_terms.specs.declared.Name.{Name}
use Rattle.ceql_grammar.specs.WordsAndSigns.{among, is, token_name}
use Rattle.ceql_grammar.specs.Trees.{FilterTree, on}
use Rattle.ceql_grammar.specs.Conditions.{all_filters, any_filter, IsPred, IsFilter, filter, AreOrFilters, or_filters_end, or_filter, IsFilterConjunction, filter_conjunction, AreAndFilters, and_filters_end, and_filter, IsFilterUnit, on_name, filter_in_parens}
use Rattle.ceql_grammar.specs.RuleForms.{Rule, TokenReader, Bind, bound, Mapped, mapped, one, Either, left, right, none, more}
use Rattle.ceql_grammar.specs.RuleReaders as reading
use Rattle.ceql_grammar.proofs.RuleReaders.{Reads, Filled, reads_bind, reads_mapped, shuns_ends, stops_ends}
use Rattle.ceql_grammar.proofs.Fixpoints.{reads_other, reads_fewer, fixpoint_reads, fixpoint_is}
use Rattle.ceql_grammar.proofs.ExclusiveTests.{apart, name_apart, a_name, a_sign, a_word}
use Rattle.ceql_grammar.proofs.ReaderForms.{none as no_mark, led_rule, closed_rule, repeated_rule, list_rule, reads_led, reads_branch, reads_closed, reads_list}
use Rattle.ceql_grammar.proofs.PredicateRules.{name_rule, reads_name, shuns_name, or_marks, and_marks, a_pred, reads_pred}

-- UNITS

abbrev bracket_rule : Name → Rule FilterTree
bracket_rule x = Mapped (on x) (led_rule (codes "[") (closed_rule (codes "]") IsPred))

abbrev unit_rule : Rule FilterTree
unit_rule = Either (led_rule (codes "(") (closed_rule (codes ")") IsFilter)) (Bind name_rule bracket_rule)

to_unit : (xs : List Token) (c : FilterTree) → unit_rule xs c → IsFilterUnit xs c
to_unit _ _ (left (bound (one o) (bound f (mapped (one {t} c))))) = filter_in_parens t o f c
to_unit _ _ (right (bound (one a) (mapped (bound (one o) (bound p (mapped (one {t} c))))))) = on_name t a o p c

from_unit : (xs : List Token) (c : FilterTree) → IsFilterUnit xs c → unit_rule xs c
from_unit _ _ (filter_in_parens t o f c) = left (bound (one o) (bound f (mapped (one c))))
from_unit _ _ (on_name t a o p c) = right (bound (one a) (mapped (bound (one o) (bound p (mapped (one c))))))

closed_pred : Filled (closed_rule (codes "]") IsPred)
closed_pred = record { tokens = _; value = _; derived = bound a_pred.derived (mapped (one {t = a_sign (codes "]")} refl)) }

a_bracket : (x : Name) → Filled (bracket_rule x)
a_bracket x = record { tokens = _; value = _; derived = mapped (bound (one {t = a_sign (codes "[")} refl) closed_pred.derived) }

reads_on_name : (n : ℕ) → Reads no_mark n (Bind name_rule bracket_rule) (λ _. no_mark) reading.on_name
unfolding reading.on_name
reads_on_name n = reads_bind no_mark name_rule bracket_rule (λ _. no_mark) (λ _. no_mark) n reading.name _ (λ x. shuns_ends (bracket_rule x) (λ _. no_mark)) a_bracket (reads_name no_mark n)
    (λ x. reads_mapped no_mark (on x) (led_rule (codes "[") (closed_rule (codes "]") IsPred)) (λ _. no_mark) n _
    (reads_fewer no_mark (led_rule (codes "[") (closed_rule (codes "]") IsPred)) (λ _. no_mark) n (suc n) _ (omega arith)
    (reads_led no_mark (is (codes "[")) reading.no_value (λ _. closed_rule (codes "]") IsPred) (λ _. no_mark) n (λ _. reading.closed (codes "]") reading.pred) (a_sign (codes "[")) refl (λ _. closed_pred)
    (λ _. reads_closed no_mark (codes "]") IsPred (λ _. among or_marks) n reading.pred (a_sign (codes "]")) refl (λ _. apart (codes "]" ∷ []) or_marks refl) (reads_pred n)))))

pub a_unit : Filled IsFilterUnit
a_unit = record { tokens = _; value = _; derived = to_unit _ _ (right (bound (one {t = a_name} refl) (a_bracket (token_name a_name)).derived)) }

pub reads_unit : (n : ℕ) (inner : TokenReader FilterTree) → Reads no_mark n IsFilter (λ _. among or_marks) inner → Reads no_mark (suc n) IsFilterUnit (λ _. no_mark) (reading.unit reading.filter_parts inner)
unfolding reading.unit reading.atom
reads_unit n inner h = reads_other no_mark unit_rule IsFilterUnit (λ _. no_mark) (suc n) (reading.unit reading.filter_parts inner) to_unit from_unit
    (reads_branch no_mark (is (codes "(")) reading.no_value (λ _. closed_rule (codes ")") IsFilter) (Bind name_rule bracket_rule) (λ _. no_mark) n (λ _. reading.closed (codes ")") inner) reading.on_name (a_sign (codes "(")) refl
    (shuns_name bracket_rule (λ _. no_mark) (codes "(") (name_apart (codes "(" ∷ []) refl))
    (λ _. record { tokens = _; value = _; derived = bound (filter (filter_conjunction a_unit.derived and_filters_end) or_filters_end) (mapped (one {t = a_sign (codes ")")} refl)) })
    (λ _. reads_closed no_mark (codes ")") IsFilter (λ _. among or_marks) n inner (a_sign (codes ")")) refl (λ _. apart (codes ")" ∷ []) or_marks refl) h)
    (reads_on_name (suc n)))

-- CONJUNCTIONS

to_ands : (xs : List Token) (ps : List FilterTree) → repeated_rule (codes "AND") IsFilterUnit xs ps → AreAndFilters xs ps
to_ands _ _ none = and_filters_end
to_ands _ _ (more (bound (one e) h) m) = and_filter e h (to_ands _ _ m)

from_ands : (xs : List Token) (ps : List FilterTree) → AreAndFilters xs ps → repeated_rule (codes "AND") IsFilterUnit xs ps
from_ands _ _ and_filters_end = none
from_ands _ _ (and_filter e h m) = more (bound (one e) h) (from_ands _ _ m)

to_conjunction : (xs : List Token) (c : FilterTree) → list_rule (codes "AND") all_filters IsFilterUnit xs c → IsFilterConjunction xs c
to_conjunction _ _ (bound h (mapped m)) = filter_conjunction h (to_ands _ _ m)

from_conjunction : (xs : List Token) (c : FilterTree) → IsFilterConjunction xs c → list_rule (codes "AND") all_filters IsFilterUnit xs c
from_conjunction _ _ (filter_conjunction h m) = bound h (mapped (from_ands _ _ m))

pub a_conjunction : Filled IsFilterConjunction
a_conjunction = record { tokens = _; value = _; derived = filter_conjunction a_unit.derived and_filters_end }

pub reads_conjunction : (n : ℕ) (inner : TokenReader FilterTree) → Reads no_mark n IsFilter (λ _. among or_marks) inner → Reads no_mark (suc n) IsFilterConjunction (λ _. among and_marks) (reading.conjunction reading.filter_parts inner)
unfolding reading.conjunction reading.more_units
reads_conjunction n inner h = reads_other no_mark (list_rule (codes "AND") all_filters IsFilterUnit) IsFilterConjunction (λ _. among and_marks) (suc n) (reading.conjunction reading.filter_parts inner) to_conjunction from_conjunction
    (reads_list no_mark (codes "AND") [] all_filters IsFilterUnit (suc n) (reading.unit reading.filter_parts inner) (a_word (codes "AND")) refl refl refl refl refl a_unit (reads_unit n inner h) (reads_unit n inner h))

-- FILTERS

to_ors : (xs : List Token) (ps : List FilterTree) → repeated_rule (codes "OR") IsFilterConjunction xs ps → AreOrFilters xs ps
to_ors _ _ none = or_filters_end
to_ors _ _ (more (bound (one e) h) m) = or_filter e h (to_ors _ _ m)

from_ors : (xs : List Token) (ps : List FilterTree) → AreOrFilters xs ps → repeated_rule (codes "OR") IsFilterConjunction xs ps
from_ors _ _ or_filters_end = none
from_ors _ _ (or_filter e h m) = more (bound (one e) h) (from_ors _ _ m)

to_filter : (xs : List Token) (c : FilterTree) → list_rule (codes "OR") any_filter IsFilterConjunction xs c → IsFilter xs c
to_filter _ _ (bound h (mapped m)) = filter h (to_ors _ _ m)

from_filter : (xs : List Token) (c : FilterTree) → IsFilter xs c → list_rule (codes "OR") any_filter IsFilterConjunction xs c
from_filter _ _ (filter h m) = bound h (mapped (from_ors _ _ m))

pub a_filter : Filled IsFilter
a_filter = record { tokens = _; value = _; derived = filter a_conjunction.derived or_filters_end }

reads_step : (n : ℕ) (inner : TokenReader FilterTree) → Reads no_mark n IsFilter (λ _. among or_marks) inner → Reads no_mark (suc n) IsFilter (λ _. among or_marks) (reading.disjunction_step reading.filter_parts inner)
unfolding reading.disjunction_step reading.more_conjunctions
reads_step n inner h = reads_other no_mark (list_rule (codes "OR") any_filter IsFilterConjunction) IsFilter (λ _. among or_marks) (suc n) (reading.disjunction_step reading.filter_parts inner) to_filter from_filter
    (reads_list no_mark (codes "OR") and_marks any_filter IsFilterConjunction (suc n) (reading.conjunction reading.filter_parts inner) (a_word (codes "OR")) refl refl refl refl refl a_conjunction (reads_conjunction n inner h) (reads_conjunction n inner h))

-- a filter is read exactly
pub reads_filter : (n : ℕ) → Reads no_mark n IsFilter (λ _. among or_marks) reading.filter
unfolding reading.disjunction
reads_filter n = fixpoint_reads no_mark IsFilter (λ _. among or_marks) (reading.disjunction_step reading.filter_parts) n (λ k r _. reads_step k r)

pub filter_is : (ts : List Token) → reading.filter ts ≡ reading.disjunction_step reading.filter_parts reading.filter ts
unfolding reading.disjunction
filter_is ts = fixpoint_is no_mark IsFilter (λ _. among or_marks) (reading.disjunction_step reading.filter_parts) reads_step ts (stops_ends {X = ℕ} 0 ts)
