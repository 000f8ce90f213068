-- The parts of SELECT statements are read exactly.
use Rattle.std.proofs.Common.{◌≡◌, refl, ℕ, suc, ◌*◌, Bool, true, false, List, [], ◌∷◌, ◌++◌, arith}
use Rattle.std.specs.Prelude.{codes, pos, Option, Some, None}
use Rattle.ceql_lexer.specs.declared.Token.{Token}
use Rattle.cel_terms.specs.declared.Name.{Name}
use Rattle.cel_terms.specs.declared.Window.{Window}
use Rattle.cel_terms.specs.declared.Window.TheVariants.{Free, Events, Clock}
use Rattle.ceql_grammar.specs.declared.terms.NumberAt.{NumberAt}
use Rattle.ceql_grammar.specs.WordsAndSigns.{Is, among, is, is_name_token, token_name}
use Rattle.ceql_grammar.specs.Values.{is_count, unsigned_number, is_unit, seconds_in}
use Rattle.ceql_grammar.specs.Formulas.{AreNames, names, AreBracketedNames, bracketed}
use Rattle.ceql_grammar.specs.Statements.{IsMode, not_strict, strict, IsAny, not_any, any, IsSelectList, star, listed, IsUnitOrNone, no_unit, unit, is_events, IsWindowSize, events, clock, IsPartitionClause, no_partition, partition, IsWithinClause, free, within}
use Rattle.ceql_grammar.specs.RuleForms.{Rule, TokenReader, ◌>>=◌, Test, Bind, bound, NoTokens, no_tokens, Mapped, mapped, One, one, Either, left, right, map_read, give, starts, first_token, when, branch}
use Rattle.ceql_grammar.specs.RuleReaders as reading
use Rattle.ceql_grammar.proofs.RuleReaders.{Goes, Reads, Filled, Shuns, Begins, reads_bind, reads_mapped, reads_one, reads_give, reads_give_at, begins_one, shuns_ends}
use Rattle.ceql_grammar.proofs.Fixpoints.{reads_same, reads_other, reads_fewer, begins_bind, begins_mapped, shuns_apart, shuns_mapped}
use Rattle.ceql_grammar.proofs.ExclusiveTests.{disjoint, apart, name_apart, a_name, a_number, a_sign, a_word}
use Rattle.ceql_grammar.proofs.ReaderForms.{none as no_mark, word_rule, led_rule, closed_rule, reads_led, reads_branch, reads_optional, reads_closed, shuns_either, shuns_other, shuns_led}
use Rattle.ceql_grammar.proofs.PredicateRules.{name_rule, reads_name}
use Rattle.ceql_grammar.proofs.NameRules.{comma_marks, some_brackets, reads_names, reads_brackets}
use Rattle.ceql_grammar.proofs.DeclarationRules.{number_rule, reads_number, nothing_filled}

-- STRICT

abbrev pub goes_mode : Goes Bool
goes_mode true = no_mark
goes_mode false = is (codes "STRICT")

abbrev mode_rule : Rule Bool
mode_rule = Either (led_rule (codes "STRICT") (NoTokens true)) (NoTokens false)

to_mode : (xs : List Token) (b : Bool) → mode_rule xs b → IsMode xs b
to_mode _ _ (left (bound (one e) no_tokens)) = strict e
to_mode _ _ (right no_tokens) = not_strict

from_mode : (xs : List Token) (b : Bool) → IsMode xs b → mode_rule xs b
from_mode _ _ not_strict = right no_tokens
from_mode _ _ (strict e) = left (bound (one e) no_tokens)

goes_strict : (xs : List Token) (b : Bool) → led_rule (codes "STRICT") (NoTokens true) xs b → no_mark ≡ goes_mode b
goes_strict _ _ (bound e no_tokens) = refl

pub reads_mode : (a : Test) (n : ℕ) → Reads a n IsMode goes_mode reading.mode
reads_mode a n = reads_fewer a IsMode goes_mode n (suc n) reading.mode (omega arith) (reads_other a mode_rule IsMode goes_mode (suc n) reading.mode to_mode from_mode
    (reads_optional a (is (codes "STRICT")) reading.no_value (λ _. NoTokens true) (λ _. no_mark) false goes_mode n (λ _. give true) (a_word (codes "STRICT")) refl goes_strict (λ ts s t. s) (λ ts s. s) (λ _. nothing_filled true) (λ _. reads_give no_mark true n)))

-- ANY

abbrev pub goes_any : Goes (Option NumberAt)
goes_any None = is (codes "ANY")
goes_any (Some n) = no_mark

abbrev some : NumberAt → Option NumberAt
some n = Some n

abbrev any_rule : Rule (Option NumberAt)
any_rule = Either (led_rule (codes "ANY") (Mapped some number_rule)) (NoTokens None)

to_any : (xs : List Token) (n : Option NumberAt) → any_rule xs n → IsAny xs n
to_any _ _ (left (bound (one e) (mapped (one i)))) = any e i
to_any _ _ (right no_tokens) = not_any

from_any : (xs : List Token) (n : Option NumberAt) → IsAny xs n → any_rule xs n
from_any _ _ not_any = right no_tokens
from_any _ _ (any e i) = left (bound (one e) (mapped (one i)))

goes_number : (xs : List Token) (n : Option NumberAt) → led_rule (codes "ANY") (Mapped some number_rule) xs n → no_mark ≡ goes_any n
goes_number _ _ (bound e (mapped i)) = refl

pub reads_any : (a : Test) (n : ℕ) → Reads a n IsAny goes_any reading.any_number
unfolding reading.any_number
reads_any a n = reads_fewer a IsAny goes_any n (suc n) reading.any_number (omega arith) (reads_other a any_rule IsAny goes_any (suc n) reading.any_number to_any from_any
    (reads_optional a (is (codes "ANY")) reading.no_value (λ _. Mapped some number_rule) (λ _. no_mark) None goes_any n (λ _. map_read some reading.whole_number) (a_word (codes "ANY")) refl goes_number (λ ts s t. s) (λ ts s. s)
    (λ _. record { tokens = a_number ∷ []; value = _; derived = mapped (one refl) })
    (λ _. reads_mapped no_mark some number_rule (λ _. no_mark) n reading.whole_number (reads_number no_mark n))))

-- THE SELECT LIST

abbrev pub goes_selection : Goes (Option (List Name))
goes_selection None = no_mark
goes_selection (Some ns) = among comma_marks

abbrev listed_as : List Name → Option (List Name)
listed_as ns = Some ns

abbrev selection_rule : Rule (Option (List Name))
selection_rule = Either (led_rule (codes "*") (NoTokens None)) (Mapped listed_as AreNames)

to_selection : (xs : List Token) (l : Option (List Name)) → selection_rule xs l → IsSelectList xs l
to_selection _ _ (left (bound (one e) no_tokens)) = star e
to_selection _ _ (right (mapped h)) = listed h

pub from_selection : (xs : List Token) (l : Option (List Name)) → IsSelectList xs l → selection_rule xs l
from_selection _ _ (star e) = left (bound (one e) no_tokens)
from_selection _ _ (listed h) = right (mapped h)

begins_names_at : (xs : List Token) (ns : List Name) → AreNames xs ns → starts is_name_token xs ≡ true
begins_names_at _ _ (names a m) = a

pub begins_names : Begins AreNames is_name_token
begins_names = record { begins = begins_names_at }

pub shuns_selection : (mark : List ℕ) (d : Goes (Option (List Name))) → ((t : Token) → is (codes "*") t ≡ true → is mark t ≡ false) → ((t : Token) → is_name_token t ≡ true → is mark t ≡ false) → Shuns IsSelectList d (is mark)
shuns_selection mark d e f = shuns_other selection_rule IsSelectList d (is mark) from_selection
    (shuns_either (led_rule (codes "*") (NoTokens None)) (Mapped listed_as AreNames) d (is mark)
    (shuns_apart (led_rule (codes "*") (NoTokens None)) d (is (codes "*")) (is mark) e (begins_bind (word_rule (codes "*")) _ (is (codes "*")) (begins_one (is (codes "*")) reading.no_value)))
    (shuns_apart (Mapped listed_as AreNames) d is_name_token (is mark) f (begins_mapped listed_as AreNames is_name_token begins_names)))

pub reads_selection : (a : Test) (n : ℕ) → Reads a n IsSelectList goes_selection reading.select_list
unfolding reading.select_list
reads_selection a n = reads_fewer a IsSelectList goes_selection n (suc n) reading.select_list (omega arith) (reads_other a selection_rule IsSelectList goes_selection (suc n) reading.select_list to_selection from_selection
    (reads_branch a (is (codes "*")) reading.no_value (λ _. NoTokens None) (Mapped listed_as AreNames) goes_selection n (λ _. give None) (map_read listed_as reading.names) (a_sign (codes "*")) refl
    (shuns_apart (Mapped listed_as AreNames) goes_selection is_name_token (is (codes "*")) (name_apart (codes "*" ∷ []) refl) (begins_mapped listed_as AreNames is_name_token begins_names))
    (λ _. nothing_filled None) (λ _. reads_give_at no_mark None goes_selection n (λ ts s. s))
    (reads_mapped a listed_as AreNames goes_selection (suc n) reading.names (reads_names a (suc n)))))

-- PARTITION BY

abbrev pub goes_partition : Goes (List Name)
goes_partition [] = is (codes "PARTITION")
goes_partition (n ∷ ns) = no_mark

abbrev pub partition_rule : Rule (List Name)
partition_rule = Either (led_rule (codes "PARTITION") (led_rule (codes "BY") AreBracketedNames)) (NoTokens [])

to_partition : (xs : List Token) (l : List Name) → partition_rule xs l → IsPartitionClause xs l
to_partition _ _ (left (bound (one e) (bound (one b) h))) = partition e b h
to_partition _ _ (right no_tokens) = no_partition

pub from_partition : (xs : List Token) (l : List Name) → IsPartitionClause xs l → partition_rule xs l
from_partition _ _ no_partition = right no_tokens
from_partition _ _ (partition e b h) = left (bound (one e) (bound (one b) h))

goes_names : (xs : List Token) (l : List Name) → AreNames xs l → no_mark ≡ goes_partition l
goes_names _ _ (names a m) = refl

goes_brackets : (xs : List Token) (l : List Name) → AreBracketedNames xs l → no_mark ≡ goes_partition l
goes_brackets _ _ (bracketed c o h e) = goes_names _ _ h

goes_parted : (xs : List Token) (l : List Name) → led_rule (codes "PARTITION") (led_rule (codes "BY") AreBracketedNames) xs l → no_mark ≡ goes_partition l
goes_parted _ _ (bound e (bound b h)) = goes_brackets _ _ h

pub reads_partition : (a : Test) (n : ℕ) → Reads a n IsPartitionClause goes_partition reading.partition
unfolding reading.partition
reads_partition a n = reads_fewer a IsPartitionClause goes_partition n (suc n) reading.partition (omega arith) (reads_other a partition_rule IsPartitionClause goes_partition (suc n) reading.partition to_partition from_partition
    (reads_optional a (is (codes "PARTITION")) reading.no_value (λ _. led_rule (codes "BY") AreBracketedNames) (λ _. no_mark) [] goes_partition n (λ _. reading.led (codes "BY") reading.bracketed_names) (a_word (codes "PARTITION")) refl goes_parted (λ ts s t. s) (λ ts s. s)
    (λ _. record { tokens = _; value = _; derived = bound (one {t = a_word (codes "BY")} refl) some_brackets.derived })
    (λ _. reads_fewer no_mark (led_rule (codes "BY") AreBracketedNames) (λ _. no_mark) n (suc n) _ (omega arith)
    (reads_led no_mark (is (codes "BY")) reading.no_value (λ _. AreBracketedNames) (λ _. no_mark) n (λ _. reading.bracketed_names) (a_word (codes "BY")) refl (λ _. some_brackets) (λ _. reads_brackets no_mark n)))))

-- WITHIN

abbrev bracket_rule : ℕ → ℕ → Rule Window
bracket_rule n s = Mapped (λ a. Clock a (pos (n * s))) (led_rule (codes "[") (closed_rule (codes "]") name_rule))

abbrev clock_rule : ℕ → Rule Window
clock_rule n = Either (Bind (One is_unit seconds_in) (bracket_rule n)) (bracket_rule n 1)

abbrev kind_rule : ℕ → Rule Window
kind_rule n = Either (Bind (One is_events reading.no_value) (λ _. NoTokens (Events n))) (clock_rule n)

abbrev count_of : Token → ℕ
count_of t = unsigned_number t.text

abbrev window_rule : Rule Window
window_rule = Bind (One is_count count_of) kind_rule

to_window : (xs : List Token) (w : Window) → window_rule xs w → IsWindowSize xs w
to_window _ _ (bound (one i) (left (bound (one e) no_tokens))) = events i e
to_window _ _ (bound (one i) (right (left (bound (one u) (mapped (bound (one {t} o) (bound (one {t = a} h) (mapped (one {t = c} e))))))))) = clock t a c i (unit u) o h e
to_window _ _ (bound (one i) (right (right (mapped (bound (one {t} o) (bound (one {t = a} h) (mapped (one {t = c} e)))))))) = clock t a c i no_unit o h e

from_clock : {n : Token} (o a c : Token) (us : List Token) (s : ℕ) → is_count n ≡ true → IsUnitOrNone us s → Is (codes "[") o → is_name_token a ≡ true → Is (codes "]") c → window_rule (n ∷ us ++ (o ∷ a ∷ c ∷ [])) (Clock (token_name a) (pos (unsigned_number n.text * s)))
from_clock o a c _ _ i no_unit e h g = bound (one i) (right (right (mapped (bound (one e) (bound (one h) (mapped (one g)))))))
from_clock o a c _ _ i (unit u) e h g = bound (one i) (right (left (bound (one u) (mapped (bound (one e) (bound (one h) (mapped (one g))))))))

from_window : (xs : List Token) (w : Window) → IsWindowSize xs w → window_rule xs w
from_window _ _ (events i e) = bound (one i) (left (bound (one e) no_tokens))
from_window _ _ (clock o a c {us} {seconds} i u e h g) = from_clock o a c us seconds i u e h g

a_bracket : (n s : ℕ) → Filled (bracket_rule n s)
a_bracket n s = record { tokens = _; value = _; derived = mapped (bound (one {t = a_sign (codes "[")} refl) (bound (one {t = a_name} refl) (mapped (one {t = a_sign (codes "]")} refl)))) }

abbrev bracket : ℕ → ℕ → TokenReader Window
bracket n s = map_read (λ a. Clock a (pos (n * s))) (reading.led (codes "[") (reading.closed (codes "]") reading.name))

reads_bracket : (a : Test) (n s m : ℕ) → Reads a (suc m) (bracket_rule n s) (λ _. no_mark) (bracket n s)
reads_bracket a n s m = reads_mapped a (λ a. Clock a (pos (n * s))) (led_rule (codes "[") (closed_rule (codes "]") name_rule)) (λ _. no_mark) (suc m) _
    (reads_led a (is (codes "[")) reading.no_value (λ _. closed_rule (codes "]") name_rule) (λ _. no_mark) m (λ _. reading.closed (codes "]") reading.name) (a_sign (codes "[")) refl
    (λ _. record { tokens = _; value = _; derived = bound (one {t = a_name} refl) (mapped (one {t = a_sign (codes "]")} refl)) })
    (λ _. reads_closed no_mark (codes "]") name_rule (λ _. no_mark) m reading.name (a_sign (codes "]")) refl (λ x t e. refl) (reads_name no_mark m)))

clock_at : (n : ℕ) (o : Option (ℕ × List Token)) (ts : List Token) → when o (bracket n) (bracket n 1 ts) ≡ (when o (λ s. give s) (give 1 ts) >>= λ p. bracket n p.0 p.1)
clock_at n (Some q) ts = refl
clock_at n None ts = refl

abbrev unit_marks : List (List ℕ)
unit_marks = codes "SECOND" ∷ codes "SECONDS" ∷ codes "MINUTE" ∷ codes "MINUTES" ∷ codes "HOUR" ∷ codes "HOURS" ∷ []

abbrev event_marks : List (List ℕ)
event_marks = codes "EVENT" ∷ codes "EVENTS" ∷ []

-- what begins with a bracket is no other word
bracket_shuns : (n s : ℕ) (marks : List (List ℕ)) (d : Goes Window) → disjoint (codes "[" ∷ []) marks ≡ true → Shuns (bracket_rule n s) d (among marks)
bracket_shuns n s marks d e = shuns_mapped (λ a. Clock a (pos (n * s))) (led_rule (codes "[") (closed_rule (codes "]") name_rule)) d (among marks) (shuns_led (codes "[") marks (closed_rule (codes "]") name_rule) (λ a. d (Clock a (pos (n * s)))) e)

reads_clock : (n m : ℕ) → Reads no_mark (suc m) (clock_rule n) (λ _. no_mark) (reading.clock n)
unfolding reading.clock reading.unit_or_none
reads_clock n m = reads_same no_mark (clock_rule n) (λ _. no_mark) (suc m) (branch is_unit seconds_in (bracket n) (bracket n 1)) (reading.clock n) (λ ts. clock_at n (first_token is_unit seconds_in ts) ts)
    (reads_branch no_mark is_unit seconds_in (bracket_rule n) (bracket_rule n 1) (λ _. no_mark) m (bracket n) (bracket n 1) (a_word (codes "HOUR")) refl
    (bracket_shuns n 1 unit_marks (λ _. no_mark) refl) (a_bracket n)
    (λ s. reads_fewer no_mark (bracket_rule n s) (λ _. no_mark) m (suc m) (bracket n s) (omega arith) (reads_bracket no_mark n s m))
    (reads_bracket no_mark n 1 m))

clock_shuns : (n : ℕ) → Shuns (clock_rule n) (λ _. no_mark) is_events
clock_shuns n = shuns_either (Bind (One is_unit seconds_in) (bracket_rule n)) (bracket_rule n 1) (λ _. no_mark) is_events
    (shuns_apart (Bind (One is_unit seconds_in) (bracket_rule n)) (λ _. no_mark) is_unit is_events (apart unit_marks event_marks refl) (begins_bind (One is_unit seconds_in) (bracket_rule n) is_unit (begins_one is_unit seconds_in)))
    (bracket_shuns n 1 event_marks (λ _. no_mark) refl)

reads_window : (m : ℕ) → Reads no_mark (suc m) IsWindowSize (λ _. no_mark) reading.window
unfolding reading.window
reads_window m = reads_other no_mark window_rule IsWindowSize (λ _. no_mark) (suc m) reading.window to_window from_window
    (reads_bind no_mark (One is_count count_of) kind_rule (λ _. no_mark) (λ _. no_mark) (suc m) reading.count _ (λ n. shuns_ends (kind_rule n) (λ _. no_mark))
    (λ n. record { tokens = _; value = _; derived = right (right (a_bracket n 1).derived) })
    (reads_one no_mark is_count count_of (suc m) a_number refl)
    (λ n. reads_branch no_mark is_events reading.no_value (λ _. NoTokens (Events n)) (clock_rule n) (λ _. no_mark) m (λ _. give (Events n)) (reading.clock n) (a_word (codes "EVENT")) refl (clock_shuns n) (λ _. nothing_filled (Events n)) (λ _. reads_give no_mark (Events n) m) (reads_clock n m)))

abbrev pub goes_within : Goes Window
goes_within Free = is (codes "WITHIN")
goes_within (Events n) = no_mark
goes_within (Clock a n) = no_mark

abbrev within_rule : Rule Window
within_rule = Either (led_rule (codes "WITHIN") IsWindowSize) (NoTokens Free)

to_within : (xs : List Token) (w : Window) → within_rule xs w → IsWithinClause xs w
to_within _ _ (left (bound (one e) h)) = within e h
to_within _ _ (right no_tokens) = free

pub from_within : (xs : List Token) (w : Window) → IsWithinClause xs w → within_rule xs w
from_within _ _ free = right no_tokens
from_within _ _ (within e h) = left (bound (one e) h)

goes_window : (xs : List Token) (w : Window) → IsWindowSize xs w → no_mark ≡ goes_within w
goes_window _ _ (events i e) = refl
goes_window _ _ (clock o a c i u e h g) = refl

goes_held : (xs : List Token) (w : Window) → led_rule (codes "WITHIN") IsWindowSize xs w → no_mark ≡ goes_within w
goes_held _ _ (bound e h) = goes_window _ _ h

pub reads_within : (a : Test) (n : ℕ) → Reads a n IsWithinClause goes_within reading.within
unfolding reading.within
reads_within a n = reads_fewer a IsWithinClause goes_within n (suc n) reading.within (omega arith) (reads_other a within_rule IsWithinClause goes_within (suc n) reading.within to_within from_within
    (reads_optional a (is (codes "WITHIN")) reading.no_value (λ _. IsWindowSize) (λ _. no_mark) Free goes_within n (λ _. reading.window) (a_word (codes "WITHIN")) refl goes_held (λ ts s t. s) (λ ts s. s)
    (λ _. record { tokens = _; value = _; derived = events {n = a_number} {e = a_word (codes "EVENT")} refl refl })
    (λ _. reads_fewer no_mark IsWindowSize (λ _. no_mark) n (suc n) reading.window (omega arith) (reads_window n))))
