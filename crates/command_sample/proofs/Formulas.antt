-- What is built is the formula that is told.
use Rattle.std.proofs.Common.{◌≡◌, ℕ, List, [], ◌∷◌, sym, ◌∙◌, subst}
use Rattle.std.specs.Prelude.{Vec}
use Rattle.std.specs.declared.alloc.Global.{Global}
use Rattle.cel_terms.specs.declared.Formula.{Formula, Of, Chain, Chain', Row_of-Formula, end_of-Formula, more_of-Formula, items-the_row-Formula, items_hidden-the_row-Formula-0}
use Rattle.cel_terms.specs.declared.Filter.{Filter, Row_of-Filter, end_of-Filter, more_of-Filter, items-the_row-Filter, items_hidden-the_row-Filter-0}
use Rattle.cel_terms.specs.declared.Filter as filter
use Rattle.cel_terms.specs.declared.Name.{Name}
use Rattle.cel_terms.specs.declared.Postfix.TheVariants.{Named}
use Rattle.cel_terms.specs.declared.Query.{Query}
use Rattle.command_sample.specs.Queries.{AreFormulas, AreFilters, IsChainOf, IsPostOf, AreAllOf, IsOfStream}

two_formulas : (P Q : Formula → Type 0) (n : _) (row : Row_of-Formula n) (f g : Formula) → items-the_row-Formula n row ≡ f ∷ g ∷ [] → P f → Q g → AreFormulas (P ∷ Q ∷ []) row
two_formulas P Q n end_of-Formula f g e p q = cc
two_formulas P Q n (more_of-Formula a end_of-Formula) f g e p q = cc
two_formulas P Q n (more_of-Formula a (more_of-Formula b end_of-Formula)) f g e p q =
    let first : f ≡ a = cc in let second : g ≡ b = cc in (subst P first p, (subst Q second q, tt))
two_formulas P Q n (more_of-Formula a (more_of-Formula b (more_of-Formula d rest))) f g e p q = cc

abbrev row_of : Formula → (n : _) × Row_of-Formula n
row_of (Chain' _ row) = (_, row)
row_of _ = (_, end_of-Formula)

pub chain_of_two : (P Q : Formula → Type 0) (parts : Vec Formula Global) (f g : Formula) → parts.items ≡ f ∷ g ∷ [] → P f → Q g → IsChainOf (P ∷ Q ∷ []) (Chain parts)
chain_of_two P Q parts f g e p q =
    let row = row_of (Chain parts) in
    two_formulas P Q row.0 row.1 f g (items_hidden-the_row-Formula-0 parts ∙ e) p q

two_filters : (n : _) (row : Row_of-Filter n) (c d : Filter) → items-the_row-Filter n row ≡ c ∷ d ∷ [] → AreFilters (c ∷ d ∷ []) row
two_filters n end_of-Filter c d e = cc
two_filters n (more_of-Filter a end_of-Filter) c d e = cc
two_filters n (more_of-Filter a (more_of-Filter b end_of-Filter)) c d e = (cc, (cc, tt))
two_filters n (more_of-Filter a (more_of-Filter b (more_of-Filter x rest))) c d e = cc

abbrev filters_of : Filter → (n : _) × Row_of-Filter n
filters_of (filter.All' _ row) = (_, row)
filters_of _ = (_, end_of-Filter)

pub all_of_two : (parts : Vec Filter Global) (c d : Filter) (list : List Filter) → parts.items ≡ c ∷ d ∷ [] → list ≡ filter.All parts ∷ [] → AreAllOf (c ∷ d ∷ []) list
all_of_two parts c d list e is =
    let row = filters_of (filter.All parts) in
    let here : AreAllOf (c ∷ d ∷ []) (filter.All parts ∷ []) = two_filters row.0 row.1 c d (items_hidden-the_row-Filter-0 parts ∙ e) in
    subst (AreAllOf (c ∷ d ∷ [])) (sym is) here

pub named_post : (n m a b : Name) (f : Formula) → n ≡ m → a ≡ b → IsPostOf (Of n) (Named a ∷ []) f → IsPostOf (Of m) (Named b ∷ []) f
named_post n m a b f e h is =
    subst (λ (x : Name). IsPostOf (Of x) (Named b ∷ []) f) e (subst (λ (y : Name). IsPostOf (Of n) (Named y ∷ []) f) h is)

-- Of a stream, with a formula that is so.
pub with_formula : (Is : Formula → Type 0) (line width : ℕ) (f : Formula) (q : Query) → IsOfStream line width (λ g. g ≡ f) q → Is f → IsOfStream line width Is q
with_formula Is line width f q of is = record {
  select = of.select;
  strict = of.strict;
  any = of.any;
  streams = of.streams;
  formula = subst Is (sym of.formula) is;
  partition = of.partition;
  window = of.window;
  place = of.place;
}
