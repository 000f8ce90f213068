-- Predicates are read exactly.
use Rattle.std.proofs.Common.{◌≡◌, refl, ℕ, suc, true, false, List, [], ◌∷◌, arith}
use Rattle.std.specs.Prelude.{codes}
use Rattle.ceql_lexer.specs.declared.Token.{Token}
use Rattle.cel_terms.specs.declared.Name.{Name}
use Rattle.stream_schema.specs.declared.Op.{Op}
use Rattle.ceql_grammar.specs.WordsAndSigns.{among, is, is_name_token, token_name}
use Rattle.ceql_grammar.specs.Values.{is_op, op_of, is_literal, literal_of}
use Rattle.ceql_grammar.specs.Trees.{PredTree, compares, negates}
use Rattle.ceql_grammar.specs.Conditions.{all_preds, any_pred, IsPred, pred, AreOrPreds, or_end, or_next, IsConjunction, conjunction, AreAndPreds, and_end, and_next, IsUnit, affirmed, negated, IsAtom, comparison, in_parens}
use Rattle.ceql_grammar.specs.RuleForms.{Rule, TokenReader, Test, Bind, bound, Mapped, mapped, One, one, Either, left, right, map_read, none, more}
use Rattle.ceql_grammar.specs.RuleReaders as reading
use Rattle.ceql_grammar.proofs.RuleReaders.{Goes, Reads, Filled, Shuns, reads_bind, reads_mapped, reads_one, begins_one, shuns_ends, stops_ends}
use Rattle.ceql_grammar.proofs.Fixpoints.{reads_other, reads_fewer, begins_bind, shuns_apart, fixpoint_reads, fixpoint_is}
use Rattle.ceql_grammar.proofs.ExclusiveTests.{apart, name_apart, a_name, a_number, a_sign, a_word}
use Rattle.ceql_grammar.proofs.ReaderForms.{none as no_mark, word_rule, led_rule, closed_rule, repeated_rule, list_rule, reads_branch, reads_closed, reads_list, shuns_either, shuns_other}

abbrev pub name_rule : Rule Name
name_rule = One is_name_token token_name

pub reads_name : (a : Test) (n : ℕ) → Reads a n name_rule (λ _. no_mark) reading.name
reads_name a n = reads_one a is_name_token token_name n a_name refl

-- COMPARISONS

abbrev sided_rule : Name → Op → Rule PredTree
sided_rule a o = Mapped (compares a o) (One is_literal literal_of)

abbrev compared_rule : Name → Rule PredTree
compared_rule a = Bind (One is_op op_of) (sided_rule a)

abbrev comparison_rule : Rule PredTree
comparison_rule = Bind name_rule compared_rule

filled_sided : (a : Name) (o : Op) → Filled (sided_rule a o)
filled_sided a o = record { tokens = a_number ∷ []; value = compares a o (literal_of a_number); derived = mapped (one refl) }

filled_compared : (a : Name) → Filled (compared_rule a)
filled_compared a = record { tokens = a_sign (codes "=") ∷ a_number ∷ []; value = compares a (op_of (a_sign (codes "="))) (literal_of a_number); derived = bound (one refl) (mapped (one refl)) }

reads_comparison : (a : Test) (n : ℕ) → Reads a n comparison_rule (λ _. no_mark) reading.comparison
unfolding reading.comparison
reads_comparison a n = reads_bind a name_rule compared_rule (λ _. no_mark) (λ _. no_mark) n reading.name _ (λ x. shuns_ends (compared_rule x) (λ _. no_mark)) filled_compared (reads_name a n)
    (λ x. reads_bind no_mark (One is_op op_of) (sided_rule x) (λ _. no_mark) (λ _. no_mark) n reading.op _ (λ o. shuns_ends (sided_rule x o) (λ _. no_mark)) (filled_sided x) (reads_one no_mark is_op op_of n (a_sign (codes "=")) refl)
    (λ o. reads_mapped no_mark (compares x o) (One is_literal literal_of) (λ _. no_mark) n reading.literal (reads_one no_mark is_literal literal_of n a_number refl)))

-- ATOMS

abbrev atom_rule : Rule PredTree
atom_rule = Either (led_rule (codes "(") (closed_rule (codes ")") IsPred)) comparison_rule

to_atom : (xs : List Token) (p : PredTree) → atom_rule xs p → IsAtom xs p
to_atom _ _ (left (bound (one o) (bound p (mapped (one {t} c))))) = in_parens t o p c
to_atom _ _ (right (bound (one a) (bound (one o) (mapped (one v))))) = comparison a o v

from_atom : (xs : List Token) (p : PredTree) → IsAtom xs p → atom_rule xs p
from_atom _ _ (comparison a o v) = right (bound (one a) (bound (one o) (mapped (one v))))
from_atom _ _ (in_parens t o p c) = left (bound (one o) (bound p (mapped (one c))))

-- the words that go on with a conjunction, and with a predicate
abbrev pub and_marks : List (List ℕ)
and_marks = codes "AND" ∷ []

abbrev pub or_marks : List (List ℕ)
or_marks = codes "OR" ∷ and_marks

an_atom : IsAtom (a_name ∷ a_sign (codes "=") ∷ a_number ∷ []) (compares (token_name a_name) (op_of (a_sign (codes "="))) (literal_of a_number))
an_atom = comparison refl refl refl

pub shuns_name : {X : Type 0} (S : Name → Rule X) (d : Goes X) (c : List ℕ) → ((t : Token) → is_name_token t ≡ true → is c t ≡ false) → Shuns (Bind name_rule S) d (is c)
shuns_name S d c free = shuns_apart (Bind name_rule S) d is_name_token (is c) free (begins_bind name_rule S is_name_token (begins_one is_name_token token_name))

module _ (n : ℕ) (inner : TokenReader PredTree) (h : Reads no_mark n IsPred (λ _. among or_marks) inner) where
  reads_atom : Reads no_mark (suc n) IsAtom (λ _. no_mark) (reading.atom reading.pred_parts inner)
  unfolding reading.atom
  reads_atom = reads_other no_mark atom_rule IsAtom (λ _. no_mark) (suc n) (reading.atom reading.pred_parts inner) to_atom from_atom
      (reads_branch no_mark (is (codes "(")) reading.no_value (λ _. closed_rule (codes ")") IsPred) comparison_rule (λ _. no_mark) n (λ _. reading.closed (codes ")") inner) reading.comparison (a_sign (codes "(")) refl
      (shuns_name compared_rule (λ _. no_mark) (codes "(") (name_apart (codes "(" ∷ []) refl))
      (λ _. record { tokens = _; value = _; derived = bound (pred (conjunction (affirmed an_atom) and_end) or_end) (mapped (one {t = a_sign (codes ")")} refl)) })
      (λ _. reads_closed no_mark (codes ")") IsPred (λ _. among or_marks) n inner (a_sign (codes ")")) refl (λ _. apart (codes ")" ∷ []) or_marks refl) h)
      (reads_comparison no_mark (suc n)))

shuns_atom : (mark : List ℕ) → ((t : Token) → is (codes "(") t ≡ true → is mark t ≡ false) → ((t : Token) → is_name_token t ≡ true → is mark t ≡ false) → Shuns IsAtom (λ _. no_mark) (is mark)
shuns_atom mark e free = shuns_other atom_rule IsAtom (λ _. no_mark) (is mark) from_atom
    (shuns_either (led_rule (codes "(") (closed_rule (codes ")") IsPred)) comparison_rule (λ _. no_mark) (is mark)
    (shuns_apart (led_rule (codes "(") (closed_rule (codes ")") IsPred)) (λ _. no_mark) (is (codes "(")) (is mark) e (begins_bind (word_rule (codes "(")) _ (is (codes "(")) (begins_one (is (codes "(")) reading.no_value)))
    (shuns_name compared_rule (λ _. no_mark) mark free))

-- UNITS

abbrev unit_rule : Rule PredTree
unit_rule = Either (led_rule (codes "NOT") (Mapped negates IsAtom)) IsAtom

to_unit : (xs : List Token) (p : PredTree) → unit_rule xs p → IsUnit xs p
to_unit _ _ (left (bound (one e) (mapped h))) = negated e h
to_unit _ _ (right h) = affirmed h

from_unit : (xs : List Token) (p : PredTree) → IsUnit xs p → unit_rule xs p
from_unit _ _ (negated e h) = left (bound (one e) (mapped h))
from_unit _ _ (affirmed h) = right h

pub a_unit : Filled IsUnit
a_unit = record { tokens = _; value = _; derived = affirmed an_atom }

pub reads_unit : (n : ℕ) (inner : TokenReader PredTree) → Reads no_mark n IsPred (λ _. among or_marks) inner → Reads no_mark (suc n) IsUnit (λ _. no_mark) (reading.unit reading.pred_parts inner)
unfolding reading.unit
reads_unit n inner h = reads_other no_mark unit_rule IsUnit (λ _. no_mark) (suc n) (reading.unit reading.pred_parts inner) to_unit from_unit
    (reads_branch no_mark (is (codes "NOT")) reading.no_value (λ _. Mapped negates IsAtom) IsAtom (λ _. no_mark) n (λ _. map_read negates (reading.atom reading.pred_parts inner)) (reading.atom reading.pred_parts inner) (a_word (codes "NOT")) refl
    (shuns_atom (codes "NOT") (apart (codes "(" ∷ []) (codes "NOT" ∷ []) refl) (name_apart (codes "NOT" ∷ []) refl))
    (λ _. record { tokens = _; value = _; derived = mapped an_atom })
    (λ _. reads_mapped no_mark negates IsAtom (λ _. no_mark) n (reading.atom reading.pred_parts inner) (reads_fewer no_mark IsAtom (λ _. no_mark) n (suc n) (reading.atom reading.pred_parts inner) (omega arith) (reads_atom n inner h)))
    (reads_atom n inner h))

-- CONJUNCTIONS

to_ands : (xs : List Token) (ps : List PredTree) → repeated_rule (codes "AND") IsUnit xs ps → AreAndPreds xs ps
to_ands _ _ none = and_end
to_ands _ _ (more (bound (one e) h) m) = and_next e h (to_ands _ _ m)

from_ands : (xs : List Token) (ps : List PredTree) → AreAndPreds xs ps → repeated_rule (codes "AND") IsUnit xs ps
from_ands _ _ and_end = none
from_ands _ _ (and_next e h m) = more (bound (one e) h) (from_ands _ _ m)

to_conjunction : (xs : List Token) (p : PredTree) → list_rule (codes "AND") all_preds IsUnit xs p → IsConjunction xs p
to_conjunction _ _ (bound h (mapped m)) = conjunction h (to_ands _ _ m)

from_conjunction : (xs : List Token) (p : PredTree) → IsConjunction xs p → list_rule (codes "AND") all_preds IsUnit xs p
from_conjunction _ _ (conjunction h m) = bound h (mapped (from_ands _ _ m))

pub a_conjunction : Filled IsConjunction
a_conjunction = record { tokens = _; value = _; derived = conjunction (affirmed an_atom) and_end }

pub reads_conjunction : (n : ℕ) (inner : TokenReader PredTree) → Reads no_mark n IsPred (λ _. among or_marks) inner → Reads no_mark (suc n) IsConjunction (λ _. among and_marks) (reading.conjunction reading.pred_parts inner)
unfolding reading.conjunction reading.more_units
reads_conjunction n inner h = reads_other no_mark (list_rule (codes "AND") all_preds IsUnit) IsConjunction (λ _. among and_marks) (suc n) (reading.conjunction reading.pred_parts inner) to_conjunction from_conjunction
    (reads_list no_mark (codes "AND") [] all_preds IsUnit (suc n) (reading.unit reading.pred_parts inner) (a_word (codes "AND")) refl refl refl refl refl a_unit (reads_unit n inner h) (reads_unit n inner h))

-- PREDICATES

to_ors : (xs : List Token) (ps : List PredTree) → repeated_rule (codes "OR") IsConjunction xs ps → AreOrPreds xs ps
to_ors _ _ none = or_end
to_ors _ _ (more (bound (one e) h) m) = or_next e h (to_ors _ _ m)

from_ors : (xs : List Token) (ps : List PredTree) → AreOrPreds xs ps → repeated_rule (codes "OR") IsConjunction xs ps
from_ors _ _ or_end = none
from_ors _ _ (or_next e h m) = more (bound (one e) h) (from_ors _ _ m)

to_pred : (xs : List Token) (p : PredTree) → list_rule (codes "OR") any_pred IsConjunction xs p → IsPred xs p
to_pred _ _ (bound h (mapped m)) = pred h (to_ors _ _ m)

from_pred : (xs : List Token) (p : PredTree) → IsPred xs p → list_rule (codes "OR") any_pred IsConjunction xs p
from_pred _ _ (pred h m) = bound h (mapped (from_ors _ _ m))

pub a_pred : Filled IsPred
a_pred = record { tokens = _; value = _; derived = pred (conjunction (affirmed an_atom) and_end) or_end }

reads_step : (n : ℕ) (inner : TokenReader PredTree) → Reads no_mark n IsPred (λ _. among or_marks) inner → Reads no_mark (suc n) IsPred (λ _. among or_marks) (reading.disjunction_step reading.pred_parts inner)
unfolding reading.disjunction_step reading.more_conjunctions
reads_step n inner h = reads_other no_mark (list_rule (codes "OR") any_pred IsConjunction) IsPred (λ _. among or_marks) (suc n) (reading.disjunction_step reading.pred_parts inner) to_pred from_pred
    (reads_list no_mark (codes "OR") and_marks any_pred IsConjunction (suc n) (reading.conjunction reading.pred_parts inner) (a_word (codes "OR")) refl refl refl refl refl a_conjunction (reads_conjunction n inner h) (reads_conjunction n inner h))

-- a predicate is read exactly
pub reads_pred : (n : ℕ) → Reads no_mark n IsPred (λ _. among or_marks) reading.pred
unfolding reading.disjunction
reads_pred n = fixpoint_reads no_mark IsPred (λ _. among or_marks) (reading.disjunction_step reading.pred_parts) n (λ k r _. reads_step k r)

pub pred_is : (ts : List Token) → reading.pred ts ≡ reading.disjunction_step reading.pred_parts reading.pred ts
unfolding reading.disjunction
pred_is ts = fixpoint_is no_mark IsPred (λ _. among or_marks) (reading.disjunction_step reading.pred_parts) reads_step ts (stops_ends {X = ℕ} 0 ts)
