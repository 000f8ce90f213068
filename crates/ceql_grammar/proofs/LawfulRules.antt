-- The statements of a text are lawful.
use Rattle.std.proofs.Common.{◌≡◌, ◌≢◌, refl, ℕ, ◌*◌, ◌≤◌, Bool, true, false, not, List, [], ◌∷◌, arith}
use Rattle.std.specs.Prelude.{All, map, IfSome, Option, ⊤, pos, ◌≤ℤ◌, ◌&&◌, nat_le, codes, if◌then◌else◌}
use Rattle.std.specs.List.{list_any}
use Rattle.std.proofs.Math.Dec.{le→leb}
use Rattle.std.proofs.Math.Nat.{mul-le-mul}
use Rattle.std.proofs.lemmas.Bool.{leb-true}
use Rattle.std.proofs.lemmas.List.Elements.{All-nil, All-cons}
use Rattle.cer_base.specs.Digits.{farthest}
use Rattle.ceql_lexer.specs.declared.Token.{Token}
use Rattle.ceql_lexer.specs.declared.TokenKind.{TokenKind}
use Rattle.ceql_lexer.specs.declared.TokenKind.TheVariants as kind
use Rattle.cel_terms.specs.Checked.{widest}
use Rattle.stream_schema.specs.Comparing.{HasFewPlaces}
use Rattle.cel_terms.specs.declared.Name.{Name}
use Rattle.cel_terms.specs.declared.Postfix.{Postfix}
use Rattle.cel_terms.specs.declared.Window.{Window}
use Rattle.ceql_grammar.specs.WordsAndSigns.{among}
use Rattle.ceql_grammar.specs.Values.{is_literal_of, literal_as, is_number, is_number_kind, is_count, is_in_range, has_minus, unsigned_number, places}
use Rattle.ceql_grammar.specs.Trees.{PredTree, preds, FilterTree, filters, FormulaTree, chain, linked, formulas, links}
use Rattle.ceql_grammar.specs.Conditions as cond
use Rattle.ceql_grammar.specs.Conditions.{all_preds, any_pred, all_filters, any_filter, IsPred, pred, AreOrPreds, or_end, or_next, IsConjunction, conjunction, AreAndPreds, and_end, and_next, IsUnit, affirmed, negated, IsAtom, comparison, IsFilter, filter, AreOrFilters, or_filters_end, or_filter, IsFilterConjunction, filter_conjunction, AreAndFilters, and_filters_end, and_filter, IsFilterUnit, on_name, filter_in_parens}
use Rattle.ceql_grammar.specs.Formulas as form
use Rattle.ceql_grammar.specs.Formulas.{post_of, chain_tree, either_of, under_of, AreMoreNames, AreNames, names, AreBracketedNames, bracketed, IsPostfix, plus, next_plus, named, keep, ArePostfixes, postfixes_end, postfix_next, AreFilters, filters_end, filter_next, IsFormula, formula, IsEither, alternatives, AreOthers, others_end, other_next, IsChain, sequence, AreLinks, links_end, link_next, IsPost, with_postfixes, IsBase, type_name}
use Rattle.ceql_grammar.specs.Statements.{StatementTree, IsSelectList, star, listed, IsUnitOrNone, no_unit, unit, IsWindowSize, events, clock, IsWithinClause, free, within, IsStatement, declares_event, declares_stream, selects, AreStatements, text_end, statement}
use Rattle.ceql_grammar.specs.LawfulTexts.{IsLawfulPred, MorePredsLawful, IsLawfulFilter, MoreFiltersLawful, KeepsSome, IsLawfulFormula, MoreFormulasLawful, MoreLinksLawful, IsLawfulWindow, IsLawfulStatement}

-- LITERALS

and_second : (a b : Bool) → (a && b) ≡ true → b ≡ true
and_second true b e = e
and_second false b e = cc

and_first : (a b : Bool) → (a && b) ≡ true → a ≡ true
and_first true b e = refl
and_first false b e = cc

few_places : (k : TokenKind) (t : Token) → is_literal_of k t ≡ true → HasFewPlaces (literal_as k t)
few_places kind.Number t e = tt
few_places kind.Decimal t e = leb-true (places t.text) 9 (and_second (is_in_range t.text) (nat_le (places t.text) 9) e)
few_places kind.Quoted t e = tt
few_places kind.Keyword t e = tt
few_places kind.Name t e = tt
few_places kind.Sign t e = tt
few_places kind.End t e = tt

-- PREDICATES

abbrev Preds : List PredTree → Type 0
Preds [] = ⊤
Preds (p ∷ ps) = IsLawfulPred p × Preds ps

more_preds : (ps : List PredTree) → Preds ps → MorePredsLawful (preds ps)
more_preds [] h = tt
more_preds (p ∷ ps) h = (h.0, more_preds ps h.1)

all_lawful : (p : PredTree) (ps : List PredTree) → IsLawfulPred p → Preds ps → IsLawfulPred (all_preds p ps)
all_lawful p [] h k = h
all_lawful p (q ∷ qs) h k = (h, more_preds (q ∷ qs) k)

any_lawful : (p : PredTree) (ps : List PredTree) → IsLawfulPred p → Preds ps → IsLawfulPred (any_pred p ps)
any_lawful p [] h k = h
any_lawful p (q ∷ qs) h k = (h, more_preds (q ∷ qs) k)

mutual
  pred_lawful : (ts : List Token) (p : PredTree) → IsPred ts p → IsLawfulPred p
  pred_lawful _ _ (pred {ts} {us} {p} {ps} h k) = any_lawful p ps (conjunction_lawful ts p h) (or_lawful us ps k)

  or_lawful : (ts : List Token) (ps : List PredTree) → AreOrPreds ts ps → Preds ps
  or_lawful _ _ or_end = tt
  or_lawful _ _ (or_next {t} {ts} {us} {p} {ps} e h k) = (conjunction_lawful ts p h, or_lawful us ps k)

  conjunction_lawful : (ts : List Token) (p : PredTree) → IsConjunction ts p → IsLawfulPred p
  conjunction_lawful _ _ (conjunction {ts} {us} {p} {ps} h k) = all_lawful p ps (unit_lawful ts p h) (and_lawful us ps k)

  and_lawful : (ts : List Token) (ps : List PredTree) → AreAndPreds ts ps → Preds ps
  and_lawful _ _ and_end = tt
  and_lawful _ _ (and_next {t} {ts} {us} {p} {ps} e h k) = (unit_lawful ts p h, and_lawful us ps k)

  unit_lawful : (ts : List Token) (p : PredTree) → IsUnit ts p → IsLawfulPred p
  unit_lawful _ _ (affirmed {ts} {p} h) = atom_lawful ts p h
  unit_lawful _ _ (negated {t} {ts} {p} e h) = atom_lawful ts p h

  atom_lawful : (ts : List Token) (p : PredTree) → IsAtom ts p → IsLawfulPred p
  atom_lawful _ _ (comparison {a} {o} {v} e f g) = few_places v.kind v g
  atom_lawful _ _ (cond.in_parens c {ts} {p} e h f) = pred_lawful ts p h

-- FILTERS

abbrev Filters : List FilterTree → Type 0
Filters [] = ⊤
Filters (c ∷ cs) = IsLawfulFilter c × Filters cs

more_filters : (cs : List FilterTree) → Filters cs → MoreFiltersLawful (filters cs)
more_filters [] h = tt
more_filters (c ∷ cs) h = (h.0, more_filters cs h.1)

all_filters_lawful : (c : FilterTree) (cs : List FilterTree) → IsLawfulFilter c → Filters cs → IsLawfulFilter (all_filters c cs)
all_filters_lawful c [] h k = h
all_filters_lawful c (d ∷ ds) h k = (h, more_filters (d ∷ ds) k)

any_filter_lawful : (c : FilterTree) (cs : List FilterTree) → IsLawfulFilter c → Filters cs → IsLawfulFilter (any_filter c cs)
any_filter_lawful c [] h k = h
any_filter_lawful c (d ∷ ds) h k = (h, more_filters (d ∷ ds) k)

mutual
  filter_lawful : (ts : List Token) (c : FilterTree) → IsFilter ts c → IsLawfulFilter c
  filter_lawful _ _ (filter {ts} {us} {c} {cs} h k) = any_filter_lawful c cs (filters_joined ts c h) (or_filters us cs k)

  or_filters : (ts : List Token) (cs : List FilterTree) → AreOrFilters ts cs → Filters cs
  or_filters _ _ or_filters_end = tt
  or_filters _ _ (or_filter {t} {ts} {us} {c} {cs} e h k) = (filters_joined ts c h, or_filters us cs k)

  filters_joined : (ts : List Token) (c : FilterTree) → IsFilterConjunction ts c → IsLawfulFilter c
  filters_joined _ _ (filter_conjunction {ts} {us} {c} {cs} h k) = all_filters_lawful c cs (filter_unit_lawful ts c h) (and_filters us cs k)

  and_filters : (ts : List Token) (cs : List FilterTree) → AreAndFilters ts cs → Filters cs
  and_filters _ _ and_filters_end = tt
  and_filters _ _ (and_filter {t} {ts} {us} {c} {cs} e h k) = (filter_unit_lawful ts c h, and_filters us cs k)

  filter_unit_lawful : (ts : List Token) (c : FilterTree) → IsFilterUnit ts c → IsLawfulFilter c
  filter_unit_lawful _ _ (on_name c {ts} {p} e f h g) = pred_lawful ts p h
  filter_unit_lawful _ _ (filter_in_parens c {ts} {f} e h g) = filter_lawful ts f h

under_filters : (ts : List Token) (cs : List FilterTree) → AreFilters ts cs → Filters cs
under_filters _ _ filters_end = tt
under_filters _ _ (filter_next {t} {ts} {us} {c} {cs} e h k) = (filter_lawful ts c h, under_filters us cs k)

-- NAMES AND POSTFIXES

filled : (x : Name) (xs : List Name) → (x ∷ xs) ≢ []
filled x xs e = cc

some_names : (ts : List Token) (ns : List Name) → AreNames ts ns → ns ≢ []
some_names _ _ (names {a} {us} {ns} e h) = filled _ ns

some_bracketed : (ts : List Token) (ns : List Name) → AreBracketedNames ts ns → ns ≢ []
some_bracketed _ _ (bracketed c {ts} {ns} e h f) = some_names ts ns h

postfix_lawful : (ts : List Token) (p : Postfix) → IsPostfix ts p → KeepsSome p
postfix_lawful _ _ (plus e) = tt
postfix_lawful _ _ (next_plus e) = tt
postfix_lawful _ _ (named e a) = tt
postfix_lawful _ _ (keep {t} {ts} {ns} e h) = some_bracketed ts ns h

postfixes_lawful : (ts : List Token) (ps : List Postfix) → ArePostfixes ts ps → All KeepsSome ps
postfixes_lawful _ _ postfixes_end = All-nil KeepsSome
postfixes_lawful _ _ (postfix_next {ts} {us} {p} {ps} h k) = All-cons KeepsSome p ps (postfix_lawful ts p h) (postfixes_lawful us ps k)

-- FORMULAS

abbrev Formulas : List FormulaTree → Type 0
Formulas [] = ⊤
Formulas (f ∷ fs) = IsLawfulFormula f × Formulas fs

abbrev Links : List (Bool × FormulaTree) → Type 0
Links [] = ⊤
Links (l ∷ ls) = IsLawfulFormula l.1 × Links ls

more_formulas : (fs : List FormulaTree) → Formulas fs → MoreFormulasLawful (formulas fs)
more_formulas [] h = tt
more_formulas (f ∷ fs) h = (h.0, more_formulas fs h.1)

more_links : (ls : List (Bool × FormulaTree)) → Links ls → MoreLinksLawful (links ls)
more_links [] h = tt
more_links (l ∷ ls) h = (h.0, more_links ls h.1)

untied : (ls : List (Bool × FormulaTree)) → Links ls → MoreFormulasLawful (formulas (map (λ l. l.1) ls))
untied [] h = tt
untied (l ∷ ls) h = (h.0, untied ls h.1)

either_lawful : (f : FormulaTree) (fs : List FormulaTree) → IsLawfulFormula f → Formulas fs → IsLawfulFormula (either_of f fs)
either_lawful f [] h k = h
either_lawful f (g ∷ gs) h k = (h, more_formulas (g ∷ gs) k)

tied_or_not : (f : FormulaTree) (l : Bool × FormulaTree) (ls : List (Bool × FormulaTree)) (b : Bool) → IsLawfulFormula f → Links (l ∷ ls) → IsLawfulFormula (if b then linked f (links (l ∷ ls)) else chain (formulas (f ∷ map (λ l. l.1) (l ∷ ls))))
tied_or_not f l ls true h k = (h, (k.0, more_links ls k.1))
tied_or_not f l ls false h k = (h, untied (l ∷ ls) k)

chain_lawful : (f : FormulaTree) (ls : List (Bool × FormulaTree)) → IsLawfulFormula f → Links ls → IsLawfulFormula (chain_tree f ls)
chain_lawful f [] h k = h
chain_lawful f (l ∷ ls) h k = tied_or_not f l ls (list_any (λ l. l.0) (l ∷ ls)) h k

some_postfixes : (p : Postfix) (ps : List Postfix) → (p ∷ ps) ≢ []
some_postfixes p ps e = cc

post_lawful : (f : FormulaTree) (ps : List Postfix) → IsLawfulFormula f → All KeepsSome ps → IsLawfulFormula (post_of f ps)
post_lawful f [] h k = h
post_lawful f (p ∷ ps) h k = (h, (some_postfixes p ps, k))

under_lawful : (f : FormulaTree) (cs : List FilterTree) → IsLawfulFormula f → Filters cs → IsLawfulFormula (under_of f cs)
under_lawful f [] h k = h
under_lawful f (c ∷ cs) h k = (h, (k.0, more_filters cs k.1))

mutual
  formula_lawful : (ts : List Token) (f : FormulaTree) → IsFormula ts f → IsLawfulFormula f
  formula_lawful _ _ (formula {ts} {us} {f} {cs} h k) = under_lawful f cs (alternatives_lawful ts f h) (under_filters us cs k)

  alternatives_lawful : (ts : List Token) (f : FormulaTree) → IsEither ts f → IsLawfulFormula f
  alternatives_lawful _ _ (alternatives {ts} {us} {f} {fs} h k) = either_lawful f fs (sequence_lawful ts f h) (others_lawful us fs k)

  others_lawful : (ts : List Token) (fs : List FormulaTree) → AreOthers ts fs → Formulas fs
  others_lawful _ _ others_end = tt
  others_lawful _ _ (other_next {t} {ts} {us} {f} {fs} e h k) = (sequence_lawful ts f h, others_lawful us fs k)

  sequence_lawful : (ts : List Token) (f : FormulaTree) → IsChain ts f → IsLawfulFormula f
  sequence_lawful _ _ (sequence {ts} {us} {f} {ls} h k) = chain_lawful f ls (part_lawful ts f h) (links_lawful us ls k)

  links_lawful : (ts : List Token) (ls : List (Bool × FormulaTree)) → AreLinks ts ls → Links ls
  links_lawful _ _ links_end = tt
  links_lawful _ _ (link_next {t} {ts} {us} {f} {ls} e h k) = (part_lawful ts f h, links_lawful us ls k)

  part_lawful : (ts : List Token) (f : FormulaTree) → IsPost ts f → IsLawfulFormula f
  part_lawful _ _ (with_postfixes {ts} {us} {f} {ps} h k) = post_lawful f ps (base_lawful ts f h) (postfixes_lawful us ps k)

  base_lawful : (ts : List Token) (f : FormulaTree) → IsBase ts f → IsLawfulFormula f
  base_lawful _ _ (type_name e) = tt
  base_lawful _ _ (form.in_parens c {ts} {f} e h g) = formula_lawful ts f h

-- STATEMENTS

range_at : (m : ℕ) (b : Bool) → not b ≡ true → nat_le m (farthest b) ≡ true → m ≤ 9223372036854775807
range_at m true e k = cc
range_at m false e k = leb-true m 9223372036854775807 k

small : (n : Token) → is_count n ≡ true → unsigned_number n.text ≤ 9223372036854775807
small n e =
    range_at (unsigned_number n.text) (has_minus n.text) (and_second (is_number n) (not (has_minus n.text)) e)
    (and_second (is_number_kind n.kind) (is_in_range n.text) (and_first (is_number n) (not (has_minus n.text)) e))

few_seconds : (a b : Bool) → (if a then 1 else (if b then 60 else 3600)) ≤ 3600
few_seconds true b = omega arith
few_seconds false true = omega arith
few_seconds false false = omega arith

unit_lawful_at : (ts : List Token) (s : ℕ) → IsUnitOrNone ts s → s ≤ 3600
unit_lawful_at _ _ no_unit = omega arith
unit_lawful_at _ _ (unit {t} e) = few_seconds (among (codes "SECOND" ∷ codes "SECONDS" ∷ []) t) (among (codes "MINUTE" ∷ codes "MINUTES" ∷ []) t)

clock_lawful : (n s : ℕ) → n ≤ 9223372036854775807 → s ≤ 3600 → (pos 0 ≤ℤ pos (n * s)) × (pos (n * s) ≤ℤ pos widest)
clock_lawful n s h k = let m : n * s ≤ 9223372036854775807 * 3600 = mul-le-mul h k in (record { le = le→leb 0 (n * s) (omega arith) }, record { le = le→leb (n * s) widest (omega (arith, m)) })

window_lawful : (ts : List Token) (w : Window) → IsWindowSize ts w → IsLawfulWindow w
window_lawful _ _ (events {n} {e} c f) = let k = small n c in omega (arith, k)
window_lawful _ _ (clock {n} o a c {us} {seconds} e u f g i) = clock_lawful (unsigned_number n.text) seconds (small n e) (unit_lawful_at us seconds u)

within_lawful : (ts : List Token) (w : Window) → IsWithinClause ts w → IsLawfulWindow w
within_lawful _ _ free = tt
within_lawful _ _ (within {t} {ts} {w} e h) = window_lawful ts w h

selection_lawful : (ts : List Token) (s : Option (List Name)) → IsSelectList ts s → IfSome s (λ names. names ≢ [])
selection_lawful _ _ (star e) = tt
selection_lawful _ _ (listed {ts} {ns} h) = some_names ts ns h

statement_lawful : (ts : List Token) (s : StatementTree) → IsStatement ts s → IsLawfulStatement s
statement_lawful _ _ (declares_event c d e n o h f) = tt
statement_lawful _ _ (declares_stream c {ts} {ns} d e n o h f) = some_names ts ns h
statement_lawful _ _ (selects f w {modes} {anys} {lists} {streams} {formulas} {partitions} {windows} {mode} {number} {list} {ns} {ps} {g} {window} a b c d e h i j k l) =
    record { select = selection_lawful lists list d; streams = some_names streams ns h; formula = formula_lawful formulas g j; window = within_lawful windows window l }

-- the statements of a text are lawful
pub text_lawful : (ts : List Token) (ss : List StatementTree) → AreStatements ts ss → All IsLawfulStatement ss
text_lawful _ _ text_end = All-nil IsLawfulStatement
text_lawful _ _ (statement {ts} {us} {s} {ss} h k) = All-cons IsLawfulStatement s ss (statement_lawful ts s h) (text_lawful us ss k)
