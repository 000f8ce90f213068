-- The grammar of predicates and filters: which tokens stand for which term. AND is tighter than OR, NOT
-- stands before one comparison or one parenthesis, and a list with one member is that member.
use Rattle.std.specs.Prelude.{◌≡◌, true, List, [], ◌∷◌, ◌++◌, codes}
use Rattle.ceql_lexer.specs.declared.Token.{Token}
use Rattle.ceql_grammar.specs.WordsAndSigns.{Is, is_name_token, token_name}
use Rattle.ceql_grammar.specs.Values.{is_op, op_of, is_literal, literal_of}
use Rattle.ceql_grammar.specs.Trees.{PredTree, compares, negates, every_pred, some_pred, preds, FilterTree, on, every_filter, some_filter, filters}

-- members that are joined by AND, and by OR
abbrev pub all_preds : PredTree → List PredTree → PredTree
all_preds p [] = p
all_preds p (q ∷ qs) = every_pred (preds (p ∷ q ∷ qs))

abbrev pub any_pred : PredTree → List PredTree → PredTree
any_pred p [] = p
any_pred p (q ∷ qs) = some_pred (preds (p ∷ q ∷ qs))

abbrev pub all_filters : FilterTree → List FilterTree → FilterTree
all_filters c [] = c
all_filters c (d ∷ ds) = every_filter (filters (c ∷ d ∷ ds))

abbrev pub any_filter : FilterTree → List FilterTree → FilterTree
any_filter c [] = c
any_filter c (d ∷ ds) = some_filter (filters (c ∷ d ∷ ds))

mutual
  -- conjunctions joined by OR
  pub data IsPred : List Token → PredTree → Type 0 where
    pred : {ts us : List Token} {p : PredTree} {ps : List PredTree} → IsConjunction ts p → AreOrPreds us ps → IsPred (ts ++ us) (any_pred p ps)

  -- further conjunctions, an OR before each
  pub data AreOrPreds : List Token → List PredTree → Type 0 where
    or_end : AreOrPreds [] []
    or_next : {t : Token} {ts us : List Token} {p : PredTree} {ps : List PredTree} → Is (codes "OR") t → IsConjunction ts p → AreOrPreds us ps → AreOrPreds (t ∷ ts ++ us) (p ∷ ps)

  -- units joined by AND
  pub data IsConjunction : List Token → PredTree → Type 0 where
    conjunction : {ts us : List Token} {p : PredTree} {ps : List PredTree} → IsUnit ts p → AreAndPreds us ps → IsConjunction (ts ++ us) (all_preds p ps)

  -- further units, an AND before each
  pub data AreAndPreds : List Token → List PredTree → Type 0 where
    and_end : AreAndPreds [] []
    and_next : {t : Token} {ts us : List Token} {p : PredTree} {ps : List PredTree} → Is (codes "AND") t → IsUnit ts p → AreAndPreds us ps → AreAndPreds (t ∷ ts ++ us) (p ∷ ps)

  -- one comparison or one parenthesis, with at most one NOT before it
  pub data IsUnit : List Token → PredTree → Type 0 where
    affirmed : {ts : List Token} {p : PredTree} → IsAtom ts p → IsUnit ts p
    negated : {t : Token} {ts : List Token} {p : PredTree} → Is (codes "NOT") t → IsAtom ts p → IsUnit (t ∷ ts) (negates p)

  pub data IsAtom : List Token → PredTree → Type 0 where
    comparison : {a o v : Token} → is_name_token a ≡ true → is_op o ≡ true → is_literal v ≡ true → IsAtom (a ∷ o ∷ v ∷ []) (compares (token_name a) (op_of o) (literal_of v))
    in_parens : {o : Token} (c : Token) {ts : List Token} {p : PredTree} → Is (codes "(") o → IsPred ts p → Is (codes ")") c → IsAtom (o ∷ ts ++ c ∷ []) p

mutual
  -- conjunctions joined by OR
  pub data IsFilter : List Token → FilterTree → Type 0 where
    filter : {ts us : List Token} {c : FilterTree} {cs : List FilterTree} → IsFilterConjunction ts c → AreOrFilters us cs → IsFilter (ts ++ us) (any_filter c cs)

  -- further conjunctions, an OR before each
  pub data AreOrFilters : List Token → List FilterTree → Type 0 where
    or_filters_end : AreOrFilters [] []
    or_filter : {t : Token} {ts us : List Token} {c : FilterTree} {cs : List FilterTree} → Is (codes "OR") t → IsFilterConjunction ts c → AreOrFilters us cs → AreOrFilters (t ∷ ts ++ us) (c ∷ cs)

  -- units joined by AND
  pub data IsFilterConjunction : List Token → FilterTree → Type 0 where
    filter_conjunction : {ts us : List Token} {c : FilterTree} {cs : List FilterTree} → IsFilterUnit ts c → AreAndFilters us cs → IsFilterConjunction (ts ++ us) (all_filters c cs)

  -- further units, an AND before each
  pub data AreAndFilters : List Token → List FilterTree → Type 0 where
    and_filters_end : AreAndFilters [] []
    and_filter : {t : Token} {ts us : List Token} {c : FilterTree} {cs : List FilterTree} → Is (codes "AND") t → IsFilterUnit ts c → AreAndFilters us cs → AreAndFilters (t ∷ ts ++ us) (c ∷ cs)

  -- a name with a predicate in brackets, or one parenthesis
  pub data IsFilterUnit : List Token → FilterTree → Type 0 where
    on_name : {x o : Token} (c : Token) {ts : List Token} {p : PredTree} → is_name_token x ≡ true → Is (codes "[") o → IsPred ts p → Is (codes "]") c → IsFilterUnit (x ∷ o ∷ ts ++ c ∷ []) (on (token_name x) p)
    filter_in_parens : {o : Token} (c : Token) {ts : List Token} {f : FilterTree} → Is (codes "(") o → IsFilter ts f → Is (codes ")") c → IsFilterUnit (o ∷ ts ++ c ∷ []) f
