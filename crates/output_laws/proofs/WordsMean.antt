-- What a formula means is told by its words. For callers of the crate too.
use Rattle.std.proofs.Common.{◌≡◌, ℕ, refl, sym, ap, ap₂, ◌∙◌, Bool, true, false, List, [], ◌∷◌, map}
use Rattle.std.proofs.Math.Path.{fun_ext}
use Rattle.std.specs.Prelude.{filter as list_filter, not, ◌&&◌, ◌||◌, ◌⊎◌}
use Rattle.stream_schema.specs.Types.{Declared}
use Rattle.stream_schema.specs.declared.Event.{Event}
use Rattle.cel_terms.specs.declared.Pred.{Pred, Cmp, Not', All', Any', Row_of-Pred, end_of-Pred, more_of-Pred}
use Rattle.cel_terms.specs.declared.Filter.{Filter, On, Row_of-Filter, end_of-Filter, more_of-Filter}
use Rattle.cel_terms.specs.declared.Filter as filter
use Rattle.cel_terms.specs.declared.Name.{Name}
use Rattle.cel_terms.specs.declared.Postfix.{Postfix}
use Rattle.cel_terms.specs.declared.Postfix.TheVariants.{Plus, NextPlus, Named, Keep}
use Rattle.cel_terms.specs.declared.Formula.{Formula, Of, Chain', Linked', Either', Post', Under', Row_of-Formula, end_of-Formula, more_of-Formula, Row_of-Link, end_of-Link, more_of-Link}
use Rattle.cel_terms.specs.Predicate.{attr_value, some_meets, holds, all_hold, any_holds}
use Rattle.cel_terms.specs.Meaning.{Repeated, Renamed, As, Kept, lists_name, with_postfix, Stream, Meaning, Valuation, Single, Sequence, OneOf, Nothing, AllHold, Meets, MeetsAll, MeetsAny, Filtered, under, with_postfixes, meaning, first_of_chain, chained, linked, one_of}
use Rattle.ceql_grammar.specs.Trees as tree
use Rattle.output_laws.specs.QueryWords.{words, pred_words, preds_words, filter_words, filters_words, postfix_words, formula_words, formulas_words, links_words}
use Rattle.ceql_grammar.specs.Trees.{PredTree, PredTrees, FilterTree, FilterTrees, FormulaTree, FormulaTrees, LinkTrees, filters, pred_tree, pred_trees, filter_tree, filter_trees, formula_tree, formula_trees, link_trees}

-- PREDICATES

abbrev mutual
  holds_told : Declared → PredTree → Event → Bool
  holds_told schema (tree.compares name op literal) event = some_meets op (attr_value schema event name.text) literal
  holds_told schema (tree.negates p) event = not (holds_told schema p event)
  holds_told schema (tree.every_pred ps) event = all_told schema ps event
  holds_told schema (tree.some_pred ps) event = any_told schema ps event

  all_told : Declared → PredTrees → Event → Bool
  all_told schema tree.no_preds event = true
  all_told schema (tree.pred_then p ps) event = holds_told schema p event && all_told schema ps event

  any_told : Declared → PredTrees → Event → Bool
  any_told schema tree.no_preds event = false
  any_told schema (tree.pred_then p ps) event = holds_told schema p event || any_told schema ps event

mutual
  holds_as : (schema : Declared) (p : Pred) (event : Event) → holds schema p event ≡ holds_told schema (pred_words (pred_tree p)) event
  holds_as schema (Cmp name op literal) event = refl
  holds_as schema (Not' s p) event = ap not (holds_as schema p event)
  holds_as schema (All' s row) event = all_as schema row event
  holds_as schema (Any' s row) event = any_as schema row event

  all_as : (schema : Declared) {m : _} → (row : Row_of-Pred m) (event : Event) → all_hold schema row event ≡ all_told schema (preds_words (pred_trees row)) event
  all_as schema end_of-Pred event = refl
  all_as schema (more_of-Pred p rest) event = ap₂ (λ a b. a && b) (holds_as schema p event) (all_as schema rest event)

  any_as : (schema : Declared) {m : _} → (row : Row_of-Pred m) (event : Event) → any_holds schema row event ≡ any_told schema (preds_words (pred_trees row)) event
  any_as schema end_of-Pred event = refl
  any_as schema (more_of-Pred p rest) event = ap₂ (λ a b. a || b) (holds_as schema p event) (any_as schema rest event)

-- FILTERS

abbrev mutual
  MeetsTold : Stream → FilterTree → Valuation → Type 0
  MeetsTold stream (tree.on name p) v = AllHold stream name.text (holds_told stream.schema p) v
  MeetsTold stream (tree.every_filter cs) v = AllTold stream cs v
  MeetsTold stream (tree.some_filter cs) v = AnyTold stream cs v

  AllTold : Stream → FilterTrees → Valuation → Type 0
  AllTold stream tree.no_filters v = Unit {0}
  AllTold stream (tree.filter_then c cs) v = MeetsTold stream c v × AllTold stream cs v

  AnyTold : Stream → FilterTrees → Valuation → Type 0
  AnyTold stream tree.no_filters v = ⊥
  AnyTold stream (tree.filter_then c cs) v = MeetsTold stream c v ⊎ AnyTold stream cs v

mutual
  meets_as : (stream : Stream) (c : Filter) (v : Valuation) → Meets stream c v ≡ MeetsTold stream (filter_words (filter_tree c)) v
  meets_as stream (On name p) v = ap (λ (test : Event → Bool). AllHold stream name.text test v) (fun_ext (holds_as stream.schema p))
  meets_as stream (filter.All' s row) v = all_meet_as stream row v
  meets_as stream (filter.Any' s row) v = any_meets_as stream row v

  all_meet_as : (stream : Stream) {m : _} → (row : Row_of-Filter m) (v : Valuation) → MeetsAll stream row v ≡ AllTold stream (filters_words (filter_trees row)) v
  all_meet_as stream end_of-Filter v = refl
  all_meet_as stream (more_of-Filter c rest) v = ap₂ (λ (P Q : Type 0). P × Q) (meets_as stream c v) (all_meet_as stream rest v)

  any_meets_as : (stream : Stream) {m : _} → (row : Row_of-Filter m) (v : Valuation) → MeetsAny stream row v ≡ AnyTold stream (filters_words (filter_trees row)) v
  any_meets_as stream end_of-Filter v = refl
  any_meets_as stream (more_of-Filter c rest) v = ap₂ (λ (P Q : Type 0). P ⊎ Q) (meets_as stream c v) (any_meets_as stream rest v)

abbrev FilteredTold : Stream → FilterTree → Meaning → Meaning
FilteredTold stream c part s e v = part s e v × MeetsTold stream c v

abbrev under_told : Stream → FilterTrees → Meaning → Meaning
under_told stream tree.no_filters part = part
under_told stream (tree.filter_then c cs) part = under_told stream cs (FilteredTold stream c part)

filtered_as : (stream : Stream) (c : Filter) (part told : Meaning) → part ≡ told → Filtered stream c part ≡ FilteredTold stream (filter_words (filter_tree c)) told
filtered_as stream c part told same = fun_ext (λ s. fun_ext (λ e. fun_ext (λ v. ap₂ (λ (P Q : Type 0). P × Q) (ap (λ (m : Meaning). m s e v) same) (meets_as stream c v))))

under_as : (stream : Stream) (cs : List Filter) (part told : Meaning) → part ≡ told → under stream cs part ≡ under_told stream (filters_words (filters (map filter_tree cs))) told
under_as stream [] part told same = same
under_as stream (c ∷ cs) part told same = under_as stream cs (Filtered stream c part) (FilteredTold stream (filter_words (filter_tree c)) told) (filtered_as stream c part told same)

-- NAMES AND POSTFIXES

-- the texts of names are those of their words
pub texts_as : (names : List Name) → map (λ n. n.text) names ≡ map (λ n. n.text) (words names)
texts_as [] = refl
texts_as (n ∷ ns) = ap (λ (texts : List (List ℕ)). n.text ∷ texts) (texts_as ns)

pub kept_as : (names : List Name) (part told : Meaning) → part ≡ told → Kept names part ≡ Kept (words names) told
kept_as names part told same = ap (λ (m : Meaning). Kept names m) same ∙ ap (λ (texts : List (List ℕ)). Renamed (list_filter (lists_name texts)) told) (texts_as names)

postfix_as : (stream : Stream) (p : Postfix) (part told : Meaning) → part ≡ told → with_postfix stream p part ≡ with_postfix stream (postfix_words p) told
postfix_as stream Plus part told same = ap (λ (m : Meaning). Repeated stream false m) same
postfix_as stream NextPlus part told same = ap (λ (m : Meaning). Repeated stream true m) same
postfix_as stream (Named name) part told same = ap (λ (m : Meaning). As name.text m) same
postfix_as stream (Keep names) part told same = kept_as names part told same

postfixes_as : (stream : Stream) (ps : List Postfix) (part told : Meaning) → part ≡ told → with_postfixes stream ps part ≡ with_postfixes stream (map postfix_words ps) told
postfixes_as stream [] part told same = same
postfixes_as stream (p ∷ ps) part told same = postfixes_as stream ps (with_postfix stream p part) (with_postfix stream (postfix_words p) told) (postfix_as stream p part told same)

-- FORMULAS

abbrev mutual
  meaning_told : Stream → FormulaTree → Meaning
  meaning_told stream (tree.of_type name) = Single stream name.text
  meaning_told stream (tree.chain fs) = first_told stream fs
  meaning_told stream (tree.linked f ls) = linked_told stream (meaning_told stream f) ls
  meaning_told stream (tree.either fs) = one_told stream fs
  meaning_told stream (tree.post f ps) = with_postfixes stream ps (meaning_told stream f)
  meaning_told stream (tree.under f cs) = under_told stream cs (meaning_told stream f)

  first_told : Stream → FormulaTrees → Meaning
  first_told stream tree.no_formulas = Nothing
  first_told stream (tree.formula_then f fs) = chain_told stream (meaning_told stream f) fs

  chain_told : Stream → Meaning → FormulaTrees → Meaning
  chain_told stream before tree.no_formulas = before
  chain_told stream before (tree.formula_then f fs) = chain_told stream (Sequence stream false before (meaning_told stream f)) fs

  linked_told : Stream → Meaning → LinkTrees → Meaning
  linked_told stream before tree.no_links = before
  linked_told stream before (tree.link_then tight f ls) = linked_told stream (Sequence stream tight before (meaning_told stream f)) ls

  one_told : Stream → FormulaTrees → Meaning
  one_told stream tree.no_formulas = Nothing
  one_told stream (tree.formula_then f fs) = OneOf (meaning_told stream f) (one_told stream fs)

mutual
  meaning_as : (stream : Stream) (f : Formula) → meaning stream f ≡ meaning_told stream (formula_words (formula_tree f))
  meaning_as stream (Of name) = refl
  meaning_as stream (Chain' s row) = first_as stream row
  meaning_as stream (Linked' p first s row) = linked_as stream (meaning stream first) (meaning_told stream (formula_words (formula_tree first))) row (meaning_as stream first)
  meaning_as stream (Either' s row) = one_as stream row
  meaning_as stream (Post' p base postfixes) = postfixes_as stream postfixes.items (meaning stream base) (meaning_told stream (formula_words (formula_tree base))) (meaning_as stream base)
  meaning_as stream (Under' p base cs) = under_as stream cs.items (meaning stream base) (meaning_told stream (formula_words (formula_tree base))) (meaning_as stream base)

  first_as : (stream : Stream) {m : _} → (row : Row_of-Formula m) → first_of_chain stream row ≡ first_told stream (formulas_words (formula_trees row))
  first_as stream end_of-Formula = refl
  first_as stream (more_of-Formula f rest) = chain_as stream (meaning stream f) (meaning_told stream (formula_words (formula_tree f))) rest (meaning_as stream f)

  chain_as : (stream : Stream) {m : _} → (part told : Meaning) (row : Row_of-Formula m) → part ≡ told → chained stream part row ≡ chain_told stream told (formulas_words (formula_trees row))
  chain_as stream part told end_of-Formula same = same
  chain_as stream part told (more_of-Formula f rest) same =
      chain_as stream (Sequence stream false part (meaning stream f)) (Sequence stream false told (meaning_told stream (formula_words (formula_tree f)))) rest
      (ap₂ (λ (a b : Meaning). Sequence stream false a b) same (meaning_as stream f))

  linked_as : (stream : Stream) {m : _} → (part told : Meaning) (row : Row_of-Link m) → part ≡ told → linked stream part row ≡ linked_told stream told (links_words (link_trees row))
  linked_as stream part told end_of-Link same = same
  linked_as stream part told (more_of-Link tight f rest) same =
      linked_as stream (Sequence stream tight part (meaning stream f)) (Sequence stream tight told (meaning_told stream (formula_words (formula_tree f)))) rest
      (ap₂ (λ (a b : Meaning). Sequence stream tight a b) same (meaning_as stream f))

  one_as : (stream : Stream) {m : _} → (row : Row_of-Formula m) → one_of stream row ≡ one_told stream (formulas_words (formula_trees row))
  one_as stream end_of-Formula = refl
  one_as stream (more_of-Formula f rest) = ap₂ (λ (a b : Meaning). OneOf a b) (meaning_as stream f) (one_as stream rest)

-- Formulas of the same words mean the same.
pub same_meaning : (stream : Stream) (f g : Formula) → formula_words (formula_tree f) ≡ formula_words (formula_tree g) → meaning stream f ≡ meaning stream g
same_meaning stream f g same = meaning_as stream f ∙ ap (λ (t : FormulaTree). meaning_told stream t) same ∙ sym (meaning_as stream g)
