-- The grammar of formulas: which tokens stand for which term. The tightest are the postfixes, then `;`
-- and `:`, then OR, then FILTER. A list with one member is that member; parentheses leave no node.
use Rattle.std.specs.Prelude.{◌≡◌, Bool, true, List, [], ◌∷◌, ◌++◌, codes, map, if◌then◌else◌}
use Rattle.std.specs.List.{list_any}
use Rattle.ceql_lexer.specs.declared.Token.{Token}
use Rattle.cel_terms.specs.declared.Name.{Name}
use Rattle.cel_terms.specs.declared.Postfix.{Postfix}
use Rattle.cel_terms.specs.declared.Postfix.TheVariants.{Plus, NextPlus, Named, Keep}
use Rattle.ceql_grammar.specs.WordsAndSigns.{Is, is, among, is_name_token, token_name}
use Rattle.ceql_grammar.specs.Trees.{FilterTree, filters, FormulaTree, of_type, chain, linked, either, post, under, formulas, links}
use Rattle.ceql_grammar.specs.Conditions.{IsFilter}

-- further names, a comma before each
pub data AreMoreNames : List Token → List Name → Type 0 where
  no_more_names : AreMoreNames [] []
  comma_name : {t a : Token} {us : List Token} {names : List Name} → Is (codes ",") t → is_name_token a ≡ true → AreMoreNames us names → AreMoreNames (t ∷ a ∷ us) (token_name a ∷ names)

-- names with commas between them
pub data AreNames : List Token → List Name → Type 0 where
  names : {a : Token} {us : List Token} {ns : List Name} → is_name_token a ≡ true → AreMoreNames us ns → AreNames (a ∷ us) (token_name a ∷ ns)

-- names in brackets
pub data AreBracketedNames : List Token → List Name → Type 0 where
  bracketed : {o : Token} (c : Token) {ts : List Token} {ns : List Name} → Is (codes "[") o → AreNames ts ns → Is (codes "]") c → AreBracketedNames (o ∷ ts ++ c ∷ []) ns

pub data IsPostfix : List Token → Postfix → Type 0 where
  plus : {t : Token} → Is (codes "+") t → IsPostfix (t ∷ []) Plus
  next_plus : {t : Token} → Is (codes ":+") t → IsPostfix (t ∷ []) NextPlus
  named : {t a : Token} → Is (codes "AS") t → is_name_token a ≡ true → IsPostfix (t ∷ a ∷ []) (Named (token_name a))
  keep : {t : Token} {ts : List Token} {ns : List Name} → Is (codes "KEEP") t → AreBracketedNames ts ns → IsPostfix (t ∷ ts) (Keep ns)

-- postfixes, one after the other
pub data ArePostfixes : List Token → List Postfix → Type 0 where
  postfixes_end : ArePostfixes [] []
  postfix_next : {ts us : List Token} {p : Postfix} {ps : List Postfix} → IsPostfix ts p → ArePostfixes us ps → ArePostfixes (ts ++ us) (p ∷ ps)

-- filters, a FILTER before each
pub data AreFilters : List Token → List FilterTree → Type 0 where
  filters_end : AreFilters [] []
  filter_next : {t : Token} {ts us : List Token} {c : FilterTree} {cs : List FilterTree} → Is (codes "FILTER") t → IsFilter ts c → AreFilters us cs → AreFilters (t ∷ ts ++ us) (c ∷ cs)

-- a base with its postfixes
abbrev pub post_of : FormulaTree → List Postfix → FormulaTree
post_of f [] = f
post_of f (p ∷ ps) = post f (p ∷ ps)

-- a formula and those after it, each after a `:` where it is tight: one list where none is
abbrev pub chain_tree : FormulaTree → List (Bool × FormulaTree) → FormulaTree
chain_tree f [] = f
chain_tree f (l ∷ ls) =
    if list_any (λ l. l.0) (l ∷ ls) then linked f (links (l ∷ ls)) else chain (formulas (f ∷ map (λ l. l.1) (l ∷ ls)))

-- members that are joined by OR
abbrev pub either_of : FormulaTree → List FormulaTree → FormulaTree
either_of f [] = f
either_of f (g ∷ gs) = either (formulas (f ∷ g ∷ gs))

-- all filters of a formula, in one list
abbrev pub under_of : FormulaTree → List FilterTree → FormulaTree
under_of f [] = f
under_of f (c ∷ cs) = under f (filters (c ∷ cs))

-- `;` or `:`
abbrev pub is_link : Token → Bool
is_link = among (codes ";" ∷ codes ":" ∷ [])

mutual
  -- alternatives, and then their filters
  pub data IsFormula : List Token → FormulaTree → Type 0 where
    formula : {ts us : List Token} {f : FormulaTree} {cs : List FilterTree} → IsEither ts f → AreFilters us cs → IsFormula (ts ++ us) (under_of f cs)

  -- chains joined by OR
  pub data IsEither : List Token → FormulaTree → Type 0 where
    alternatives : {ts us : List Token} {f : FormulaTree} {fs : List FormulaTree} → IsChain ts f → AreOthers us fs → IsEither (ts ++ us) (either_of f fs)

  -- further chains, an OR before each
  pub data AreOthers : List Token → List FormulaTree → Type 0 where
    others_end : AreOthers [] []
    other_next : {t : Token} {ts us : List Token} {f : FormulaTree} {fs : List FormulaTree} → Is (codes "OR") t → IsChain ts f → AreOthers us fs → AreOthers (t ∷ ts ++ us) (f ∷ fs)

  -- formulas with postfixes, joined by `;` and `:`
  pub data IsChain : List Token → FormulaTree → Type 0 where
    sequence : {ts us : List Token} {f : FormulaTree} {ls : List (Bool × FormulaTree)} → IsPost ts f → AreLinks us ls → IsChain (ts ++ us) (chain_tree f ls)

  -- further ones, a `;` or a `:` before each
  pub data AreLinks : List Token → List (Bool × FormulaTree) → Type 0 where
    links_end : AreLinks [] []
    link_next : {t : Token} {ts us : List Token} {f : FormulaTree} {ls : List (Bool × FormulaTree)} → is_link t ≡ true → IsPost ts f → AreLinks us ls → AreLinks (t ∷ ts ++ us) ((is (codes ":") t, f) ∷ ls)

  -- a base and then its postfixes
  pub data IsPost : List Token → FormulaTree → Type 0 where
    with_postfixes : {ts us : List Token} {f : FormulaTree} {ps : List Postfix} → IsBase ts f → ArePostfixes us ps → IsPost (ts ++ us) (post_of f ps)

  -- the name of a type, or one parenthesis
  pub data IsBase : List Token → FormulaTree → Type 0 where
    type_name : {a : Token} → is_name_token a ≡ true → IsBase (a ∷ []) (of_type (token_name a))
    in_parens : {o : Token} (c : Token) {ts : List Token} {f : FormulaTree} → Is (codes "(") o → IsFormula ts f → Is (codes ")") c → IsBase (o ∷ ts ++ c ∷ []) f
