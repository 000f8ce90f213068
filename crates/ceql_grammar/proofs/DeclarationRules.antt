-- Declarations are read exactly.
use Rattle.std.proofs.Common.{◌≡◌, refl, sym, subst, ℕ, suc, Bool, true, false, List, [], ◌∷◌, ◌++◌, arith, append-nil}
use Rattle.std.specs.Prelude.{codes, Ok, Err, if◌then◌else◌}
use Rattle.ceql_lexer.specs.declared.Token.{Token}
use Rattle.cel_terms.specs.declared.Name.{Name}
use Rattle.ceql_grammar.specs.declared.terms.NumberAt.{NumberAt}
use Rattle.ceql_grammar.specs.declared.terms.KindDecl.{KindDecl}
use Rattle.ceql_grammar.specs.declared.terms.KindDecl.TheVariants as kind
use Rattle.ceql_grammar.specs.declared.terms.AttrDecl.{AttrDecl}
use Rattle.ceql_grammar.specs.WordsAndSigns.{Is, among, is, is_name_token, token_name}
use Rattle.ceql_grammar.specs.Values.{is_number}
use Rattle.ceql_grammar.specs.Formulas.{AreNames}
use Rattle.ceql_grammar.specs.Statements.{StatementTree, event, stream, placed_number, IsKind, int_kind, text_kind, flag_kind, decimal_kind, IsAttrDecl, attr, AreMoreAttrs, no_more_attrs, comma_attr, AreAttrs, no_attrs, attrs, IsStatement, declares_event, declares_stream}
use Rattle.ceql_grammar.specs.RuleForms.{Rule, TokenReader, Test, Stops, Bind, bound, NoTokens, no_tokens, Mapped, mapped, One, one, Either, left, right, bind, map_read, give, starts, none, more}
use Rattle.ceql_grammar.specs.RuleReaders as reading
use Rattle.ceql_grammar.specs.RuleReaders.{continues_statement}
use Rattle.ceql_grammar.proofs.RuleReaders.{Goes, NoFront, Outcome, Reads, Filled, Shuns, reads_bind, reads_mapped, reads_one, reads_give, begins_one, shuns_ends, stops_ends, nothing_out, starts_stops, stops_starts, starts_front, shuns_nothing}
use Rattle.ceql_grammar.proofs.Fixpoints.{reads_other, reads_fewer, begins_bind, shuns_apart, shuns_mapped}
use Rattle.ceql_grammar.proofs.ExclusiveTests.{disjoint, apart, name_apart, a_name, a_number, a_sign, a_word}
use Rattle.ceql_grammar.proofs.ReaderForms.{none as no_mark, led_rule, closed_rule, repeated_rule, list_rule, reads_led, reads_branch, reads_closed, reads_list, shuns_either, shuns_led, begins_other}
use Rattle.ceql_grammar.proofs.PredicateRules.{name_rule, reads_name}
use Rattle.ceql_grammar.proofs.NameRules.{comma_marks, closed_names, reads_names}

-- WHERE A STATEMENT ENDS

abbrev pub begin_marks : List (List ℕ)
begin_marks = codes "DECLARE" ∷ codes "SELECT" ∷ []

goes_at : (b : Bool) → (if b then false else true) ≡ false → b ≡ true
goes_at true e = refl
goes_at false e = cc

begin_goes : (t : Token) (b : Bool) → among begin_marks t ≡ b → b ≡ true → (if b then false else true) ≡ false
begin_goes t true e f = refl
begin_goes t false e f = cc

pub begins_ends : (t : Token) → among begin_marks t ≡ true → continues_statement t ≡ false
begins_ends t e = begin_goes t (among begin_marks t) refl e

-- where a statement may end, no other word or sign stands
pub stops_end : (marks : List (List ℕ)) → disjoint begin_marks marks ≡ true → (ts : List Token) → Stops continues_statement ts → Stops (among marks) ts
stops_end marks d [] s = tt
stops_end marks d (t ∷ ts) s = apart begin_marks marks d t (goes_at (among begin_marks t) s)

at_nothing : (part : List Token) (x : Unit {0}) → NoTokens {X = Unit {0}} tt part x → (ts ys : List Token) → ts ≡ part ++ ys → ts ≡ ys
at_nothing _ _ no_tokens ts ys e = e

ended_only : (us : List Token) → starts continues_statement us ≡ true → NoFront (NoTokens {X = Unit {0}} tt) (λ _. continues_statement) us
ended_only us e = record { none = λ x ys h. starts_stops continues_statement us e (subst (Stops continues_statement) (sym (at_nothing h.part x h.derived us ys h.split)) h.stops) }

ended_out : (ts : List Token) (b : Bool) → starts continues_statement ts ≡ b → Outcome (NoTokens {X = Unit {0}} tt) (λ _. continues_statement) ts (if b then Err ts else Ok (tt, ts))
ended_out ts true e = record { part = []; split = refl; more = []; value = tt; viable = no_tokens; stuck = λ us a. ended_only us (starts_front continues_statement true [] ts us a e) }
ended_out ts false e = nothing_out {X = Unit {0}} tt (λ _. continues_statement) ts (stops_starts continues_statement ts e)

reads_ended_alone : (a : Test) (n : ℕ) → Reads a n (NoTokens {X = Unit {0}} tt) (λ _. continues_statement) reading.ended
unfolding reading.ended
reads_ended_alone a n = record { reads = λ ts l s. ended_out ts (starts continues_statement ts) refl }

to_given : {X Y : Type 0} (f : X → Y) (R : Rule X) (x : X) (xs ys : List Token) (y : Y) → R xs x → Mapped (λ _. f x) (NoTokens {X = Unit {0}} tt) ys y → Mapped f R (xs ++ ys) y
to_given f R x xs _ _ r (mapped no_tokens) = subst (λ zs. Mapped f R zs (f x)) (sym (append-nil xs)) (mapped r)

to_ended : {X Y : Type 0} (f : X → Y) (R : Rule X) (xs : List Token) (y : Y) → Bind R (λ x. Mapped (λ _. f x) (NoTokens {X = Unit {0}} tt)) xs y → Mapped f R xs y
to_ended f R _ _ (bound {xs} {ys} {x} {y} r m) = to_given f R x xs ys y r m

from_ended : {X Y : Type 0} (f : X → Y) (R : Rule X) (xs : List Token) (y : Y) → Mapped f R xs y → Bind R (λ x. Mapped (λ _. f x) (NoTokens {X = Unit {0}} tt)) xs y
from_ended f R _ _ (mapped {xs} {x} r) = subst (λ zs. Bind R (λ x. Mapped (λ _. f x) (NoTokens {X = Unit {0}} tt)) zs (f x)) (append-nil xs) (bound r (mapped no_tokens))

-- the last part of a statement, after which it has to end
pub reads_ended : {X Y : Type 0} (a : Test) (f : X → Y) (R : Rule X) (c : Goes X) (n : ℕ) (r : TokenReader X) → ((x : X) (ts : List Token) → Stops continues_statement ts → Stops (c x) ts) → Reads a n R c r → Reads a n (Mapped f R) (λ _. continues_statement) (bind r (λ x. map_read (λ _. f x) reading.ended))
reads_ended a f R c n r to h = reads_other a (Bind R (λ x. Mapped (λ _. f x) (NoTokens {X = Unit {0}} tt))) (Mapped f R) (λ _. continues_statement) n _ (to_ended f R) (from_ended f R)
    (reads_bind a R (λ x. Mapped (λ _. f x) (NoTokens {X = Unit {0}} tt)) c (λ _. continues_statement) n r _
    (λ x. shuns_mapped (λ _. f x) (NoTokens {X = Unit {0}} tt) (λ _. continues_statement) (c x) (shuns_nothing {X = Unit {0}} tt (λ _. continues_statement) (c x) (to x)))
    (λ x. record { tokens = []; value = f x; derived = mapped no_tokens })
    h
    (λ x. reads_mapped (c x) (λ _. f x) (NoTokens {X = Unit {0}} tt) (λ _. continues_statement) n reading.ended (reads_ended_alone (c x) n)))

-- KINDS

abbrev pub number_rule : Rule NumberAt
number_rule = One is_number placed_number

pub reads_number : (a : Test) (n : ℕ) → Reads a n number_rule (λ _. no_mark) reading.whole_number
reads_number a n = reads_one a is_number placed_number n a_number refl

abbrev decimal_rule : Rule KindDecl
decimal_rule = led_rule (codes "(") (closed_rule (codes ")") (Mapped kind.Dec number_rule))

abbrev flag_rule : Rule KindDecl
flag_rule = Either (led_rule (codes "BOOL") (NoTokens kind.Flag)) (led_rule (codes "DECIMAL") decimal_rule)

abbrev text_rule : Rule KindDecl
text_rule = Either (led_rule (codes "STRING") (NoTokens kind.Text)) flag_rule

abbrev kind_rule : Rule KindDecl
kind_rule = Either (led_rule (codes "INT") (NoTokens kind.Int)) text_rule

to_kind : (xs : List Token) (k : KindDecl) → kind_rule xs k → IsKind xs k
to_kind _ _ (left (bound (one e) no_tokens)) = int_kind e
to_kind _ _ (right (left (bound (one e) no_tokens))) = text_kind e
to_kind _ _ (right (right (left (bound (one e) no_tokens)))) = flag_kind e
to_kind _ _ (right (right (right (bound (one e) (bound (one o) (bound (mapped (one i)) (mapped (one c)))))))) = decimal_kind e o i c

from_kind : (xs : List Token) (k : KindDecl) → IsKind xs k → kind_rule xs k
from_kind _ _ (int_kind e) = left (bound (one e) no_tokens)
from_kind _ _ (text_kind e) = right (left (bound (one e) no_tokens))
from_kind _ _ (flag_kind e) = right (right (left (bound (one e) no_tokens)))
from_kind _ _ (decimal_kind e o i c) = right (right (right (bound (one e) (bound (one o) (bound (mapped (one i)) (mapped (one c)))))))

a_closed : Filled (closed_rule (codes ")") (Mapped kind.Dec number_rule))
a_closed = record { tokens = _; value = _; derived = bound (mapped (one {t = a_number} refl)) (mapped (one {t = a_sign (codes ")")} refl)) }

a_decimal : Filled decimal_rule
a_decimal = record { tokens = _; value = _; derived = bound (one {t = a_sign (codes "(")} refl) a_closed.derived }

reads_decimal : (n : ℕ) → Reads no_mark n decimal_rule (λ _. no_mark) reading.decimal_kind
unfolding reading.decimal_kind
reads_decimal n = reads_fewer no_mark decimal_rule (λ _. no_mark) n (suc n) _ (omega arith)
    (reads_led no_mark (is (codes "(")) reading.no_value (λ _. closed_rule (codes ")") (Mapped kind.Dec number_rule)) (λ _. no_mark) n (λ _. reading.closed (codes ")") (map_read kind.Dec reading.whole_number)) (a_sign (codes "(")) refl (λ _. a_closed)
    (λ _. reads_closed no_mark (codes ")") (Mapped kind.Dec number_rule) (λ _. no_mark) n (map_read kind.Dec reading.whole_number) (a_sign (codes ")")) refl (λ x t e. refl) (reads_mapped no_mark kind.Dec number_rule (λ _. no_mark) n reading.whole_number (reads_number no_mark n))))

pub nothing_filled : {X : Type 0} (v : X) → Filled (NoTokens v)
nothing_filled v = record { tokens = []; value = v; derived = no_tokens }

reads_kind : (n : ℕ) → Reads no_mark (suc n) IsKind (λ _. no_mark) reading.attr_kind
unfolding reading.attr_kind
reads_kind n = reads_other no_mark kind_rule IsKind (λ _. no_mark) (suc n) reading.attr_kind to_kind from_kind
    (reads_branch no_mark (is (codes "INT")) reading.no_value (λ _. NoTokens kind.Int) text_rule (λ _. no_mark) n (λ _. give kind.Int) _ (a_word (codes "INT")) refl
    (shuns_either (led_rule (codes "STRING") (NoTokens kind.Text)) flag_rule (λ _. no_mark) (is (codes "INT")) (shuns_led (codes "STRING") (codes "INT" ∷ []) (NoTokens kind.Text) (λ _. no_mark) refl)
    (shuns_either (led_rule (codes "BOOL") (NoTokens kind.Flag)) (led_rule (codes "DECIMAL") decimal_rule) (λ _. no_mark) (is (codes "INT")) (shuns_led (codes "BOOL") (codes "INT" ∷ []) (NoTokens kind.Flag) (λ _. no_mark) refl) (shuns_led (codes "DECIMAL") (codes "INT" ∷ []) decimal_rule (λ _. no_mark) refl)))
    (λ _. nothing_filled kind.Int) (λ _. reads_give no_mark kind.Int n)
    (reads_branch no_mark (is (codes "STRING")) reading.no_value (λ _. NoTokens kind.Text) flag_rule (λ _. no_mark) n (λ _. give kind.Text) _ (a_word (codes "STRING")) refl
    (shuns_either (led_rule (codes "BOOL") (NoTokens kind.Flag)) (led_rule (codes "DECIMAL") decimal_rule) (λ _. no_mark) (is (codes "STRING")) (shuns_led (codes "BOOL") (codes "STRING" ∷ []) (NoTokens kind.Flag) (λ _. no_mark) refl) (shuns_led (codes "DECIMAL") (codes "STRING" ∷ []) decimal_rule (λ _. no_mark) refl))
    (λ _. nothing_filled kind.Text) (λ _. reads_give no_mark kind.Text n)
    (reads_branch no_mark (is (codes "BOOL")) reading.no_value (λ _. NoTokens kind.Flag) (led_rule (codes "DECIMAL") decimal_rule) (λ _. no_mark) n (λ _. give kind.Flag) _ (a_word (codes "BOOL")) refl
    (shuns_led (codes "DECIMAL") (codes "BOOL" ∷ []) decimal_rule (λ _. no_mark) refl)
    (λ _. nothing_filled kind.Flag) (λ _. reads_give no_mark kind.Flag n)
    (reads_led no_mark (is (codes "DECIMAL")) reading.no_value (λ _. decimal_rule) (λ _. no_mark) n (λ _. reading.decimal_kind) (a_word (codes "DECIMAL")) refl (λ _. a_decimal) (λ _. reads_decimal n)))))

-- ATTRIBUTES

abbrev attr_of : Name → KindDecl → AttrDecl
attr_of a k = record { name = a; kind = k }

abbrev kind_of_rule : Name → Rule AttrDecl
kind_of_rule a = Mapped (attr_of a) IsKind

to_attr : (xs : List Token) (d : AttrDecl) → Bind name_rule kind_of_rule xs d → IsAttrDecl xs d
to_attr _ _ (bound (one a) (mapped k)) = attr a k

from_attr : (xs : List Token) (d : AttrDecl) → IsAttrDecl xs d → Bind name_rule kind_of_rule xs d
from_attr _ _ (attr a k) = bound (one a) (mapped k)

a_kind : (a : Name) → Filled (kind_of_rule a)
a_kind a = record { tokens = _; value = _; derived = mapped (int_kind {t = a_word (codes "INT")} refl) }

pub an_attr : Filled IsAttrDecl
an_attr = record { tokens = _; value = _; derived = attr {a = a_name} refl (int_kind {t = a_word (codes "INT")} refl) }

pub reads_attr : (n : ℕ) → Reads no_mark (suc n) IsAttrDecl (λ _. no_mark) reading.attr
unfolding reading.attr
reads_attr n = reads_other no_mark (Bind name_rule kind_of_rule) IsAttrDecl (λ _. no_mark) (suc n) reading.attr to_attr from_attr
    (reads_bind no_mark name_rule kind_of_rule (λ _. no_mark) (λ _. no_mark) (suc n) reading.name _ (λ a. shuns_ends (kind_of_rule a) (λ _. no_mark)) a_kind (reads_name no_mark (suc n))
    (λ a. reads_mapped no_mark (attr_of a) IsKind (λ _. no_mark) (suc n) reading.attr_kind (reads_kind n)))

abbrev put : AttrDecl → List AttrDecl → List AttrDecl
put a l = a ∷ l

abbrev pub attrs_rule : Rule (List AttrDecl)
attrs_rule = list_rule (codes ",") put IsAttrDecl

pub to_more_attrs : (xs : List Token) (l : List AttrDecl) → repeated_rule (codes ",") IsAttrDecl xs l → AreMoreAttrs xs l
to_more_attrs _ _ none = no_more_attrs
to_more_attrs _ _ (more (bound (one e) a) m) = comma_attr e a (to_more_attrs _ _ m)

pub from_more_attrs : (xs : List Token) (l : List AttrDecl) → AreMoreAttrs xs l → repeated_rule (codes ",") IsAttrDecl xs l
from_more_attrs _ _ no_more_attrs = none
from_more_attrs _ _ (comma_attr e a m) = more (bound (one e) a) (from_more_attrs _ _ m)

reads_attrs : (n : ℕ) → Reads no_mark (suc n) attrs_rule (λ _. among comma_marks) reading.some_attrs
unfolding reading.some_attrs reading.more_attrs
reads_attrs n = reads_list no_mark (codes ",") [] put IsAttrDecl (suc n) reading.attr (a_sign (codes ",")) refl refl refl refl refl an_attr (reads_attr n) (reads_attr n)

-- attributes and the parenthesis after them
abbrev pub closed_attrs_rule : Rule (List AttrDecl)
closed_attrs_rule = Either (led_rule (codes ")") (NoTokens [])) (closed_rule (codes ")") attrs_rule)

shuns_attrs : Shuns (closed_rule (codes ")") attrs_rule) (λ _. no_mark) (is (codes ")"))
shuns_attrs = shuns_apart (closed_rule (codes ")") attrs_rule) (λ _. no_mark) is_name_token (is (codes ")")) (name_apart (codes ")" ∷ []) refl)
    (begins_bind attrs_rule _ is_name_token (begins_bind IsAttrDecl _ is_name_token (begins_other (Bind name_rule kind_of_rule) IsAttrDecl is_name_token from_attr (begins_bind name_rule kind_of_rule is_name_token (begins_one is_name_token token_name)))))

reads_closed_attrs : (n : ℕ) → Reads no_mark (suc n) closed_attrs_rule (λ _. no_mark) reading.attrs_closed
unfolding reading.attrs_closed
reads_closed_attrs n = reads_branch no_mark (is (codes ")")) reading.no_value (λ _. NoTokens []) (closed_rule (codes ")") attrs_rule) (λ _. no_mark) n (λ _. give []) _ (a_sign (codes ")")) refl
    shuns_attrs (λ _. nothing_filled []) (λ _. reads_give no_mark [] n)
    (reads_closed no_mark (codes ")") attrs_rule (λ _. among comma_marks) (suc n) reading.some_attrs (a_sign (codes ")")) refl (λ _. apart (codes ")" ∷ []) comma_marks refl) (reads_attrs n))

-- TYPES AND STREAMS

abbrev pub event_rule : Name → Rule StatementTree
event_rule n = Mapped (event n) (led_rule (codes "(") closed_attrs_rule)

abbrev pub stream_rule : Name → Rule StatementTree
stream_rule n = Mapped (stream n) (led_rule (codes "(") (closed_rule (codes ")") AreNames))

abbrev pub declaration_rule : Rule StatementTree
declaration_rule = Either (led_rule (codes "EVENT") (Bind name_rule event_rule)) (led_rule (codes "STREAM") (Bind name_rule stream_rule))

an_event : (n : Name) → Filled (event_rule n)
an_event n = record { tokens = _; value = _; derived = mapped (bound (one {t = a_sign (codes "(")} refl) (left (bound (one {t = a_sign (codes ")")} refl) no_tokens))) }

a_stream : (n : Name) → Filled (stream_rule n)
a_stream n = record { tokens = _; value = _; derived = mapped (bound (one {t = a_sign (codes "(")} refl) (closed_names (codes ")") refl).derived) }

reads_event : (m : ℕ) → Reads no_mark m (Bind name_rule event_rule) (λ _. continues_statement) reading.event_declared
unfolding reading.event_declared
reads_event m = reads_bind no_mark name_rule event_rule (λ _. no_mark) (λ _. continues_statement) m reading.name _ (λ n. shuns_ends (event_rule n) (λ _. continues_statement)) an_event (reads_name no_mark m)
    (λ n. reads_ended no_mark (event n) (led_rule (codes "(") closed_attrs_rule) (λ _. no_mark) m _ (λ x ts s. stops_ends x ts)
    (reads_fewer no_mark (led_rule (codes "(") closed_attrs_rule) (λ _. no_mark) m (suc m) _ (omega arith)
    (reads_led no_mark (is (codes "(")) reading.no_value (λ _. closed_attrs_rule) (λ _. no_mark) m (λ _. reading.attrs_closed) (a_sign (codes "(")) refl (λ _. record { tokens = _; value = _; derived = left (bound (one {t = a_sign (codes ")")} refl) no_tokens) })
    (λ _. reads_fewer no_mark closed_attrs_rule (λ _. no_mark) m (suc m) reading.attrs_closed (omega arith) (reads_closed_attrs m)))))

reads_stream : (m : ℕ) → Reads no_mark m (Bind name_rule stream_rule) (λ _. continues_statement) reading.stream_declared
unfolding reading.stream_declared
reads_stream m = reads_bind no_mark name_rule stream_rule (λ _. no_mark) (λ _. continues_statement) m reading.name _ (λ n. shuns_ends (stream_rule n) (λ _. continues_statement)) a_stream (reads_name no_mark m)
    (λ n. reads_ended no_mark (stream n) (led_rule (codes "(") (closed_rule (codes ")") AreNames)) (λ _. no_mark) m _ (λ x ts s. stops_ends x ts)
    (reads_fewer no_mark (led_rule (codes "(") (closed_rule (codes ")") AreNames)) (λ _. no_mark) m (suc m) _ (omega arith)
    (reads_led no_mark (is (codes "(")) reading.no_value (λ _. closed_rule (codes ")") AreNames) (λ _. no_mark) m (λ _. reading.closed (codes ")") reading.names) (a_sign (codes "(")) refl (λ _. closed_names (codes ")") refl)
    (λ _. reads_closed no_mark (codes ")") AreNames (λ _. among comma_marks) m reading.names (a_sign (codes ")")) refl (λ _. apart (codes ")" ∷ []) comma_marks refl) (reads_names no_mark m)))))

pub a_declaration : Filled declaration_rule
a_declaration = record { tokens = _; value = _; derived = left (bound (one {t = a_word (codes "EVENT")} refl) (bound (one {t = a_name} refl) (an_event (token_name a_name)).derived)) }

pub reads_declaration : (m : ℕ) → Reads no_mark m declaration_rule (λ _. continues_statement) reading.declaration
unfolding reading.declaration
reads_declaration m = reads_fewer no_mark declaration_rule (λ _. continues_statement) m (suc m) reading.declaration (omega arith)
    (reads_branch no_mark (is (codes "EVENT")) reading.no_value (λ _. Bind name_rule event_rule) (led_rule (codes "STREAM") (Bind name_rule stream_rule)) (λ _. continues_statement) m (λ _. reading.event_declared) _ (a_word (codes "EVENT")) refl
    (shuns_led (codes "STREAM") (codes "EVENT" ∷ []) (Bind name_rule stream_rule) (λ _. continues_statement) refl)
    (λ _. record { tokens = _; value = _; derived = bound (one {t = a_name} refl) (an_event (token_name a_name)).derived })
    (λ _. reads_event m)
    (reads_led no_mark (is (codes "STREAM")) reading.no_value (λ _. Bind name_rule stream_rule) (λ _. continues_statement) m (λ _. reading.stream_declared) (a_word (codes "STREAM")) refl
    (λ _. record { tokens = _; value = _; derived = bound (one {t = a_name} refl) (a_stream (token_name a_name)).derived })
    (λ _. reads_stream m)))

-- what a declaration is, after its DECLARE
pub to_declared : (d : Token) (xs : List Token) (s : StatementTree) → Is (codes "DECLARE") d → declaration_rule xs s → IsStatement (d ∷ xs) s
to_declared d _ _ e (left (bound (one v) (bound (one n) (mapped (bound (one o) (left (bound (one {t} c) no_tokens))))))) = declares_event t e v n o no_attrs c
to_declared d _ _ e (left (bound (one v) (bound (one n) (mapped (bound (one o) (right (bound (bound a (mapped m)) (mapped (one {t} c))))))))) = declares_event t e v n o (attrs a (to_more_attrs _ _ m)) c
to_declared d _ _ e (right (bound (one v) (bound (one n) (mapped (bound (one o) (bound m (mapped (one {t} c)))))))) = declares_stream t e v n o m c

pub from_attrs : (c : Token) (xs : List Token) (l : List AttrDecl) → AreAttrs xs l → Is (codes ")") c → closed_attrs_rule (xs ++ (c ∷ [])) l
from_attrs c _ _ no_attrs e = left (bound (one e) no_tokens)
from_attrs c _ _ (attrs a m) e = right (bound (bound a (mapped (from_more_attrs _ _ m))) (mapped (one e)))
