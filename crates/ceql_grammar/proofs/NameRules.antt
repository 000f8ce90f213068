-- Names and postfixes are read exactly.
use Rattle.std.proofs.Common.{◌≡◌, refl, ℕ, suc, true, false, List, [], ◌∷◌, arith}
use Rattle.std.specs.Prelude.{codes}
use Rattle.ceql_lexer.specs.declared.Token.{Token}
use Rattle.cel_terms.specs.declared.Name.{Name}
use Rattle.cel_terms.specs.declared.Postfix.{Postfix}
use Rattle.cel_terms.specs.declared.Postfix.TheVariants.{Plus, NextPlus, Named, Keep}
use Rattle.ceql_grammar.specs.WordsAndSigns.{among, is, token_name}
use Rattle.ceql_grammar.specs.Formulas.{AreMoreNames, no_more_names, comma_name, AreNames, names, AreBracketedNames, bracketed, IsPostfix, plus, next_plus, named, keep, ArePostfixes, postfixes_end, postfix_next}
use Rattle.ceql_grammar.specs.RuleForms.{Rule, Test, bound, NoTokens, no_tokens, Mapped, mapped, one, Either, left, right, map_read, give, Many, none, more}
use Rattle.ceql_grammar.specs.RuleReaders as reading
use Rattle.ceql_grammar.proofs.RuleReaders.{Reads, Filled, Shuns, Begins, reads_mapped, reads_give, stops_ends}
use Rattle.ceql_grammar.proofs.Fixpoints.{reads_other, reads_fewer, Loops, reads_many}
use Rattle.ceql_grammar.proofs.ExclusiveTests.{apart, a_name, a_sign, a_word}
use Rattle.ceql_grammar.proofs.ReaderForms.{none as no_mark, led_rule, closed_rule, repeated_rule, list_rule, reads_led, reads_branch, reads_closed, reads_list, shuns_either, shuns_led, begins_either, begins_other, begins_led}
use Rattle.ceql_grammar.proofs.PredicateRules.{name_rule, reads_name}

-- NAMES

abbrev pub comma_marks : List (List ℕ)
comma_marks = codes "," ∷ []

abbrev put : Name → List Name → List Name
put a ns = a ∷ ns

to_more_names : (xs : List Token) (ns : List Name) → repeated_rule (codes ",") name_rule xs ns → AreMoreNames xs ns
to_more_names _ _ none = no_more_names
to_more_names _ _ (more (bound (one e) (one a)) m) = comma_name e a (to_more_names _ _ m)

from_more_names : (xs : List Token) (ns : List Name) → AreMoreNames xs ns → repeated_rule (codes ",") name_rule xs ns
from_more_names _ _ no_more_names = none
from_more_names _ _ (comma_name e a m) = more (bound (one e) (one a)) (from_more_names _ _ m)

to_names : (xs : List Token) (ns : List Name) → list_rule (codes ",") put name_rule xs ns → AreNames xs ns
to_names _ _ (bound (one a) (mapped m)) = names a (to_more_names _ _ m)

from_names : (xs : List Token) (ns : List Name) → AreNames xs ns → list_rule (codes ",") put name_rule xs ns
from_names _ _ (names a m) = bound (one a) (mapped (from_more_names _ _ m))

pub a_name_rule : Filled name_rule
a_name_rule = record { tokens = a_name ∷ []; value = token_name a_name; derived = one refl }

pub some_names : Filled AreNames
some_names = record { tokens = _; value = _; derived = names {a = a_name} refl no_more_names }

pub reads_names : (a : Test) (n : ℕ) → Reads a n AreNames (λ _. among comma_marks) reading.names
unfolding reading.names reading.more_names
reads_names a n = reads_other a (list_rule (codes ",") put name_rule) AreNames (λ _. among comma_marks) n reading.names to_names from_names
    (reads_list a (codes ",") [] put name_rule n reading.name (a_sign (codes ",")) refl refl refl refl refl a_name_rule (reads_name a n) (reads_name no_mark n))

abbrev brackets_rule : Rule (List Name)
brackets_rule = led_rule (codes "[") (closed_rule (codes "]") AreNames)

to_brackets : (xs : List Token) (ns : List Name) → brackets_rule xs ns → AreBracketedNames xs ns
to_brackets _ _ (bound (one o) (bound m (mapped (one {t} c)))) = bracketed t o m c

from_brackets : (xs : List Token) (ns : List Name) → AreBracketedNames xs ns → brackets_rule xs ns
from_brackets _ _ (bracketed t o m c) = bound (one o) (bound m (mapped (one c)))

pub closed_names : (mark : List ℕ) → is mark (a_sign mark) ≡ true → Filled (closed_rule mark AreNames)
closed_names mark e = record { tokens = _; value = _; derived = bound some_names.derived (mapped (one {t = a_sign mark} e)) }

pub some_brackets : Filled AreBracketedNames
some_brackets = record { tokens = _; value = _; derived = bracketed {o = a_sign (codes "[")} (a_sign (codes "]")) refl some_names.derived refl }

pub reads_brackets : (a : Test) (n : ℕ) → Reads a n AreBracketedNames (λ _. no_mark) reading.bracketed_names
unfolding reading.bracketed_names
reads_brackets a n = reads_other a brackets_rule AreBracketedNames (λ _. no_mark) n reading.bracketed_names to_brackets from_brackets
    (reads_fewer a brackets_rule (λ _. no_mark) n (suc n) reading.bracketed_names (omega arith)
    (reads_led a (is (codes "[")) reading.no_value (λ _. closed_rule (codes "]") AreNames) (λ _. no_mark) n (λ _. reading.closed (codes "]") reading.names) (a_sign (codes "[")) refl (λ _. closed_names (codes "]") refl)
    (λ _. reads_closed no_mark (codes "]") AreNames (λ _. among comma_marks) n reading.names (a_sign (codes "]")) refl (λ _. apart (codes "]" ∷ []) comma_marks refl) (reads_names no_mark n))))

-- POSTFIXES

abbrev pub postfix_marks : List (List ℕ)
postfix_marks = codes "+" ∷ codes ":+" ∷ codes "AS" ∷ codes "KEEP" ∷ []

abbrev word_rules : Rule Postfix
word_rules = Either (led_rule (codes "AS") (Mapped Named name_rule)) (led_rule (codes "KEEP") (Mapped Keep AreBracketedNames))

abbrev next_rules : Rule Postfix
next_rules = Either (led_rule (codes ":+") (NoTokens NextPlus)) word_rules

abbrev postfix_rule : Rule Postfix
postfix_rule = Either (led_rule (codes "+") (NoTokens Plus)) next_rules

to_postfix : (xs : List Token) (p : Postfix) → postfix_rule xs p → IsPostfix xs p
to_postfix _ _ (left (bound (one e) no_tokens)) = plus e
to_postfix _ _ (right (left (bound (one e) no_tokens))) = next_plus e
to_postfix _ _ (right (right (left (bound (one e) (mapped (one a)))))) = named e a
to_postfix _ _ (right (right (right (bound (one e) (mapped h))))) = keep e h

from_postfix : (xs : List Token) (p : Postfix) → IsPostfix xs p → postfix_rule xs p
from_postfix _ _ (plus e) = left (bound (one e) no_tokens)
from_postfix _ _ (next_plus e) = right (left (bound (one e) no_tokens))
from_postfix _ _ (named e a) = right (right (left (bound (one e) (mapped (one a)))))
from_postfix _ _ (keep e h) = right (right (right (bound (one e) (mapped h))))

a_named : Filled (Mapped Named name_rule)
a_named = record { tokens = a_name ∷ []; value = Named (token_name a_name); derived = mapped (one refl) }

a_kept : Filled (Mapped Keep AreBracketedNames)
a_kept = record { tokens = _; value = _; derived = mapped some_brackets.derived }

reads_word_postfix : (n : ℕ) → Reads no_mark (suc n) word_rules (λ _. no_mark) reading.word_postfix
unfolding reading.word_postfix
reads_word_postfix n = reads_branch no_mark (is (codes "AS")) reading.no_value (λ _. Mapped Named name_rule) (led_rule (codes "KEEP") (Mapped Keep AreBracketedNames)) (λ _. no_mark) n (λ _. map_read Named reading.name) _ (a_word (codes "AS")) refl
    (shuns_led (codes "KEEP") (codes "AS" ∷ []) (Mapped Keep AreBracketedNames) (λ _. no_mark) refl)
    (λ _. a_named)
    (λ _. reads_mapped no_mark Named name_rule (λ _. no_mark) n reading.name (reads_name no_mark n))
    (reads_led no_mark (is (codes "KEEP")) reading.no_value (λ _. Mapped Keep AreBracketedNames) (λ _. no_mark) n (λ _. map_read Keep reading.bracketed_names) (a_word (codes "KEEP")) refl (λ _. a_kept)
    (λ _. reads_mapped no_mark Keep AreBracketedNames (λ _. no_mark) n reading.bracketed_names (reads_brackets no_mark n)))

shuns_words : (mark : List ℕ) → is mark (a_word (codes "AS")) ≡ false → (s : Shuns (led_rule (codes "AS") (Mapped Named name_rule)) (λ _. no_mark) (is mark)) → Shuns (led_rule (codes "KEEP") (Mapped Keep AreBracketedNames)) (λ _. no_mark) (is mark) → Shuns word_rules (λ _. no_mark) (is mark)
shuns_words mark e s t = shuns_either (led_rule (codes "AS") (Mapped Named name_rule)) (led_rule (codes "KEEP") (Mapped Keep AreBracketedNames)) (λ _. no_mark) (is mark) s t

pub reads_postfix : (n : ℕ) → Reads no_mark (suc n) IsPostfix (λ _. no_mark) reading.postfix
unfolding reading.postfix
reads_postfix n = reads_other no_mark postfix_rule IsPostfix (λ _. no_mark) (suc n) reading.postfix to_postfix from_postfix
    (reads_branch no_mark (is (codes "+")) reading.no_value (λ _. NoTokens Plus) next_rules (λ _. no_mark) n (λ _. give Plus) _ (a_sign (codes "+")) refl
    (shuns_either (led_rule (codes ":+") (NoTokens NextPlus)) word_rules (λ _. no_mark) (is (codes "+"))
    (shuns_led (codes ":+") (codes "+" ∷ []) (NoTokens NextPlus) (λ _. no_mark) refl)
    (shuns_words (codes "+") refl (shuns_led (codes "AS") (codes "+" ∷ []) (Mapped Named name_rule) (λ _. no_mark) refl) (shuns_led (codes "KEEP") (codes "+" ∷ []) (Mapped Keep AreBracketedNames) (λ _. no_mark) refl)))
    (λ _. record { tokens = []; value = Plus; derived = no_tokens })
    (λ _. reads_give no_mark Plus n)
    (reads_branch no_mark (is (codes ":+")) reading.no_value (λ _. NoTokens NextPlus) word_rules (λ _. no_mark) n (λ _. give NextPlus) reading.word_postfix (a_sign (codes ":+")) refl
    (shuns_words (codes ":+") refl (shuns_led (codes "AS") (codes ":+" ∷ []) (Mapped Named name_rule) (λ _. no_mark) refl) (shuns_led (codes "KEEP") (codes ":+" ∷ []) (Mapped Keep AreBracketedNames) (λ _. no_mark) refl))
    (λ _. record { tokens = []; value = NextPlus; derived = no_tokens })
    (λ _. reads_give no_mark NextPlus n)
    (reads_word_postfix n)))

pub begins_postfix : Begins IsPostfix (among postfix_marks)
begins_postfix = begins_other postfix_rule IsPostfix (among postfix_marks) from_postfix
    (begins_either (led_rule (codes "+") (NoTokens Plus)) next_rules (among postfix_marks) (begins_led (codes "+") postfix_marks (NoTokens Plus) refl)
    (begins_either (led_rule (codes ":+") (NoTokens NextPlus)) word_rules (among postfix_marks) (begins_led (codes ":+") postfix_marks (NoTokens NextPlus) refl)
    (begins_either (led_rule (codes "AS") (Mapped Named name_rule)) (led_rule (codes "KEEP") (Mapped Keep AreBracketedNames)) (among postfix_marks) (begins_led (codes "AS") postfix_marks (Mapped Named name_rule) refl) (begins_led (codes "KEEP") postfix_marks (Mapped Keep AreBracketedNames) refl))))

pub postfix_loops : Loops no_mark IsPostfix (λ _. no_mark) (among postfix_marks) (among postfix_marks) (among postfix_marks)
postfix_loops = record {
  begins = begins_postfix;
  tested = λ t h. h;
  apart = λ x t h. refl;
  stops_item = λ x ts s. stops_ends x ts;
  stops_test = λ ts s. s;
  stops_both = λ ts s u. s;
  stops_before = λ x ts s. s;
}

pub reads_postfixes : (n : ℕ) → Reads no_mark n (Many IsPostfix) (λ _. among postfix_marks) reading.postfixes
unfolding reading.postfixes
reads_postfixes n = reads_many no_mark IsPostfix (λ _. no_mark) (among postfix_marks) (among postfix_marks) (among postfix_marks) postfix_loops reading.postfix n (reads_fewer no_mark IsPostfix (λ _. no_mark) n (suc n) reading.postfix (omega arith) (reads_postfix n))

pub to_postfixes : (xs : List Token) (ps : List Postfix) → Many IsPostfix xs ps → ArePostfixes xs ps
to_postfixes _ _ none = postfixes_end
to_postfixes _ _ (more h m) = postfix_next h (to_postfixes _ _ m)

pub from_postfixes : (xs : List Token) (ps : List Postfix) → ArePostfixes xs ps → Many IsPostfix xs ps
from_postfixes _ _ postfixes_end = none
from_postfixes _ _ (postfix_next h m) = more h (from_postfixes _ _ m)
