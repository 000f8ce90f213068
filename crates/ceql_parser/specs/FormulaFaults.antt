-- The first fault of a formula in the order of its tokens, read with the types of its query.
use Rattle.std.specs.Prelude.{ℕ, not, ◌&&◌, List, [], ◌∷◌, Option, None}
use Rattle.std.specs.Option.{option_or}
use Rattle.stream_schema.specs.Types.{DeclaredType}
use Rattle.stream_schema.specs.declared.Value.{Value}
use Rattle.cel_terms.specs.declared.Name.{Name}
use Rattle.stream_schema.specs.declared.Op.{Op}
use Rattle.cel_terms.specs.declared.Pred.{Pred, Cmp, Not', All', Any', Row_of-Pred, end_of-Pred, more_of-Pred}
use Rattle.cel_terms.specs.declared.Filter.{Filter, On, Row_of-Filter, end_of-Filter, more_of-Filter}
use Rattle.cel_terms.specs.declared.Filter as filter
use Rattle.cel_terms.specs.declared.Postfix.{Postfix}
use Rattle.cel_terms.specs.declared.Postfix.TheVariants.{Plus, NextPlus, Named, Keep}
use Rattle.cel_terms.specs.declared.Formula.{Formula, Of, Chain', Linked', Either', Post', Under', Row_of-Formula, end_of-Formula, more_of-Formula, Row_of-Link, end_of-Link, more_of-Link}
use Rattle.cel_terms.specs.Meaning.{lists_name}
use Rattle.cel_terms.specs.Checked.{names_of, names_after}
use Rattle.ceql_grammar.specs.declared.faults.QueryFault.TheVariants.{NameTaken, UnknownType, UnknownName, UnknownAttribute, NeverKind, NoOrder}
use Rattle.ceql_grammar.specs.declared.faults.QueryError.{QueryError}
use Rattle.ceql_parser.specs.FirstFaults.{first_in, first_fault, unless, unless_named}
use Rattle.stream_schema.specs.Comparing.{are_alike, kind_of}
use Rattle.ceql_parser.specs.TypesAsked.{is_type_name, some_has_attr, any_kind, is_order, is_flag}

-- the attribute is unknown, or never of a kind like the literal's, or has no order
abbrev pub comparison_fault : List DeclaredType → Name → Op → Value → Option QueryError
comparison_fault types name op literal = first_fault (
    unless_named (some_has_attr types name.text any_kind) UnknownAttribute name
    ∷ unless_named (some_has_attr types name.text (are_alike (kind_of literal))) (λ text. NeverKind text (kind_of literal)) name
    ∷ unless (not (is_order op && is_flag literal)) NoOrder name.place
    ∷ [])

abbrev mutual
  pub pred_fault : List DeclaredType → Pred → Option QueryError
  pred_fault types (Cmp name op literal) = comparison_fault types name op literal
  pred_fault types (Not' p pred) = pred_fault types pred
  pred_fault types (All' s preds) = preds_fault types preds
  pred_fault types (Any' s preds) = preds_fault types preds

  pub preds_fault : List DeclaredType → {m : _} → Row_of-Pred m → Option QueryError
  preds_fault types end_of-Pred = None
  preds_fault types (more_of-Pred pred rest) = option_or (pred_fault types pred) (preds_fault types rest)

-- the name is none of these
abbrev pub name_fault : List (List ℕ) → Name → Option QueryError
name_fault names name = unless_named (lists_name names name.text) UnknownName name

-- a name before a predicate is one of the formula's that is filtered
abbrev mutual
  pub filter_fault : List DeclaredType → List (List ℕ) → Filter → Option QueryError
  filter_fault types names (On name pred) = option_or (name_fault names name) (pred_fault types pred)
  filter_fault types names (filter.All' s filters) = filters_fault types names filters
  filter_fault types names (filter.Any' s filters) = filters_fault types names filters

  pub filters_fault : List DeclaredType → List (List ℕ) → {m : _} → Row_of-Filter m → Option QueryError
  filters_fault types names end_of-Filter = None
  filters_fault types names (more_of-Filter f rest) = option_or (filter_fault types names f) (filters_fault types names rest)

-- a name after AS is no type's; a name in KEEP is one of the formula before it
abbrev pub postfix_fault : List DeclaredType → List (List ℕ) → Postfix → Option QueryError
postfix_fault types names Plus = None
postfix_fault types names NextPlus = None
postfix_fault types names (Named name) = unless_named (not (is_type_name types name.text)) NameTaken name
postfix_fault types names (Keep listed) = first_in (name_fault names) listed

abbrev pub postfixes_fault : List DeclaredType → List (List ℕ) → List Postfix → Option QueryError
postfixes_fault types names [] = None
postfixes_fault types names (p ∷ ps) = option_or (postfix_fault types names p) (postfixes_fault types (names_after names (p ∷ [])) ps)

abbrev mutual
  pub formula_fault : List DeclaredType → Formula → Option QueryError
  formula_fault types (Of name) = unless_named (is_type_name types name.text) UnknownType name
  formula_fault types (Chain' s parts) = formulas_fault types parts
  formula_fault types (Linked' p first s links) = option_or (formula_fault types first) (links_fault types links)
  formula_fault types (Either' s choices) = formulas_fault types choices
  formula_fault types (Post' p base postfixes) = option_or (formula_fault types base) (postfixes_fault types (names_of base) postfixes.items)
  formula_fault types (Under' p base filters) = option_or (formula_fault types base) (first_in (filter_fault types (names_of base)) filters.items)

  pub formulas_fault : List DeclaredType → {m : _} → Row_of-Formula m → Option QueryError
  formulas_fault types end_of-Formula = None
  formulas_fault types (more_of-Formula f rest) = option_or (formula_fault types f) (formulas_fault types rest)

  pub links_fault : List DeclaredType → {m : _} → Row_of-Link m → Option QueryError
  links_fault types end_of-Link = None
  links_fault types (more_of-Link tight next rest) = option_or (formula_fault types next) (links_fault types rest)
