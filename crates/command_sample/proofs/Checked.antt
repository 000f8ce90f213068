-- The two queries are checked for the schema.
use Rattle.std.proofs.Common.{◌≡◌, ℕ, zero, suc, ◌+◌, ◌*◌, ◌<◌, ◌≤◌, List, [], ◌∷◌, ◌++◌, sym, ◌∙◌, ap, ap₂, refl, subst, arith, codes, pos}
use Rattle.std.specs.Prelude.{◌≢◌, slice_index_or, All, Contains, IfSome, slice_get}
use Rattle.std.specs.List.{filter_map}
use Rattle.std.proofs.lemmas.List.Elements.{All-nil, All-cons}
use Rattle.cer_base.specs.declared.limits.TheConstants.{MOST_LEAVES}
use Rattle.stream_schema.specs.Types.{Declared, DeclaredType}
use Rattle.cel_terms.specs.declared.Name.{Name}
use Rattle.stream_schema.specs.declared.Attr.{Attr}
use Rattle.stream_schema.specs.declared.Kind.TheVariants as kind
use Rattle.stream_schema.specs.declared.Op.TheVariants.{Lt}
use Rattle.stream_schema.specs.declared.Value.TheVariants.{Int}
use Rattle.stream_schema.specs.Comparing.{AreComparable, KindHasFewPlaces}
use Rattle.cel_terms.specs.declared.Pred.{Cmp}
use Rattle.cel_terms.specs.declared.Filter.{Filter, On, Row_of-Filter, end_of-Filter, more_of-Filter}
use Rattle.cel_terms.specs.declared.Filter as filter
use Rattle.cel_terms.specs.declared.Postfix.{Postfix}
use Rattle.cel_terms.specs.declared.Postfix.TheVariants.{Plus, Named}
use Rattle.cel_terms.specs.declared.Formula.{Formula, Of, Chain', Linked', Either', Post', Under', Row_of-Formula, end_of-Formula, more_of-Formula}
use Rattle.cel_terms.specs.declared.Query.{Query}
use Rattle.cel_terms.specs.Answers.{query_types}
use Rattle.cel_terms.specs.Checked.{IsTypeName, names_after, names_of, ArePostfixesChecked, IsCheckedFormula, IsChecked, leaf_count, types_read, IsStreamName, HaveFewPlaces, SomeHasAttr, AnyKind, IsCheckedWindow, AreNamesOf, widest, IsCheckedFilter, weight, times_weights, AreCheckedFormulas, leaf_count_of_all, names_of_all, AreCheckedFilters, product_of_weights}
use Rattle.command_sample.specs.Queries.{AreFormulas, AreFilters, sample_schema, sample_attrs, name_at, IsPostOf, IsChainOf, AreAllOf, IsFirstFormula, IsSecondFormula, IsOfStream, AreQueries}

abbrev types : List DeclaredType
types = sample_schema.types

type_a : IsTypeName types (codes "A")
type_a = (0, record { name = codes "A"; attrs = sample_attrs }, omega arith, refl, refl)

type_b : IsTypeName types (codes "B")
type_b = (1, record { name = codes "B"; attrs = sample_attrs }, omega arith, refl, refl)

post_checked : (ty : Name) (ps : List Postfix) (f : Formula) → IsPostOf (Of ty) ps f → IsTypeName types ty.text → ps ≢ [] → ArePostfixesChecked types (ty.text ∷ []) ps → IsCheckedFormula types f
post_checked ty ps (Of n) h t some checked = absurd h
post_checked ty ps (Chain' s row) h t some checked = absurd h
post_checked ty ps (Linked' p f s row) h t some checked = absurd h
post_checked ty ps (Either' s row) h t some checked = absurd h
post_checked ty ps (Post' p base items) h t some checked = (
  subst (λ (f : Formula). IsCheckedFormula types f) (sym h.0) t,
  (λ none. some (sym h.1 ∙ none)),
  subst (λ (l : List Postfix). ArePostfixesChecked types (names_of base) l) (sym h.1) (subst (λ (f : Formula). ArePostfixesChecked types (names_of f) ps) (sym h.0) checked),
)
post_checked ty ps (Under' p f cs) h t some checked = absurd h

post_leaves : (ty : Name) (ps : List Postfix) (f : Formula) → IsPostOf (Of ty) ps f → leaf_count f ≡ 1
post_leaves ty ps (Of n) h = absurd h
post_leaves ty ps (Chain' s row) h = absurd h
post_leaves ty ps (Linked' p f s row) h = absurd h
post_leaves ty ps (Either' s row) h = absurd h
post_leaves ty ps (Post' p base items) h = ap (λ (f : Formula). leaf_count f) h.0
post_leaves ty ps (Under' p f cs) h = absurd h

second_row : (n : _) (row : Row_of-Formula n) → AreFormulas (IsPostOf (Of (name_at (codes "A") 5 23)) (Plus ∷ []) ∷ (λ g. g ≡ Of (name_at (codes "B") 5 28)) ∷ []) row →
    AreCheckedFormulas types row × (leaf_count_of_all row ≤ MOST_LEAVES)
second_row n end_of-Formula h = absurd h
second_row n (more_of-Formula a end_of-Formula) h = absurd h.1
second_row n (more_of-Formula a (more_of-Formula b end_of-Formula)) h = (
  (
    post_checked (name_at (codes "A") 5 23) (Plus ∷ []) a h.0 type_a (λ e. cc) tt,
    (subst (λ (f : Formula). IsCheckedFormula types f) (sym h.1.0) type_b, tt),
  ),
  omega (arith, post_leaves (name_at (codes "A") 5 23) (Plus ∷ []) a h.0, ap (λ (f : Formula). leaf_count f) h.1.0),
)
second_row n (more_of-Formula a (more_of-Formula b (more_of-Formula d rest))) h = absurd h.1.1

second_checked : (f : Formula) → IsSecondFormula f → IsCheckedFormula types f × (leaf_count f ≤ MOST_LEAVES)
second_checked (Of n) h = absurd h
second_checked (Chain' s row) h = second_row _ row h
second_checked (Linked' p f s row) h = absurd h
second_checked (Either' s row) h = absurd h
second_checked (Post' p f ps) h = absurd h
second_checked (Under' p f cs) h = absurd h

types_are : (q : Query) (line : ℕ) → q.streams ≡ name_at (codes "S") line 15 ∷ [] → types_read sample_schema q ≡ types
types_are q line e = ap (λ (l : List Name). filter_map (slice_get sample_schema.types) (query_types sample_schema l)) e

abbrev HasFew : DeclaredType → Type 0
HasFew t = All (λ (a : Attr). KindHasFewPlaces a.kind) t.attrs

few_attrs : All (λ (a : Attr). KindHasFewPlaces a.kind) sample_attrs
few_attrs = All-cons (λ (a : Attr). KindHasFewPlaces a.kind) (record { name = codes "v"; kind = kind.Int }) [] tt (All-nil (λ (a : Attr). KindHasFewPlaces a.kind))

few_places : HaveFewPlaces types
few_places =
    All-cons HasFew (record { name = codes "A"; attrs = sample_attrs }) (record { name = codes "B"; attrs = sample_attrs } ∷ []) few_attrs
    (All-cons HasFew (record { name = codes "B"; attrs = sample_attrs }) [] few_attrs (All-nil HasFew))

pub checked_of : (Is : Formula → Type 0) (line width : ℕ) (q : Query) → width ≤ widest → IsOfStream line width Is q → ((f : Formula) → Is f → IsCheckedFormula types f × (leaf_count f ≤ MOST_LEAVES)) → IsChecked sample_schema q
checked_of Is line width q small of h =
    let it = h q.formula of.formula in
    let read = types_are q line of.streams in record {
      count = subst (λ o. IfSome o (λ n. (1 ≤ n) × (n ≤ 4294967295))) (sym of.any) tt;
      some_stream = λ none. cc;
      streams = subst (λ (l : List Name). All (λ n. IsStreamName sample_schema.streams n.text) l) (sym of.streams)
          (All-cons (λ (n : Name). IsStreamName sample_schema.streams n.text) (name_at (codes "S") line 15) [] (0, record { name = codes "S"; types = 0 ∷ 1 ∷ [] }, omega arith, refl, refl) (All-nil (λ (n : Name). IsStreamName sample_schema.streams n.text)));
      formula = subst (λ (t : List DeclaredType). IsCheckedFormula t q.formula) (sym read) it.0;
      select = subst (λ o. IfSome o (AreNamesOf (names_of q.formula))) (sym of.select) tt;
      leaves = it.1;
      partition = subst (λ (l : List Name). All (λ n. SomeHasAttr (types_read sample_schema q) n.text AnyKind) l) (sym of.partition) (All-nil (λ (n : Name). SomeHasAttr (types_read sample_schema q) n.text AnyKind));
      window = subst (λ w. IsCheckedWindow (types_read sample_schema q) w) (sym of.window) small;
      places = few_places;
    }

not_named : (name : List ℕ) → (codes "A" ≡ name → ⊥) → (codes "B" ≡ name → ⊥) → (k : ℕ) (t : DeclaredType) → k < 2 → slice_index_or types k t ≡ t → t.name ≡ name → ⊥
not_named name a b zero t below is same = a (ap (λ (x : DeclaredType). x.name) is ∙ same)
not_named name a b (suc zero) t below is same = b (ap (λ (x : DeclaredType). x.name) is ∙ same)
not_named name a b (suc (suc n)) t below is same = omega (arith, below)

post_names : (ty : Name) (ps : List Postfix) (f : Formula) → IsPostOf (Of ty) ps f → names_of f ≡ names_after (ty.text ∷ []) ps
post_names ty ps (Of n) h = absurd h
post_names ty ps (Chain' s row) h = absurd h
post_names ty ps (Linked' p f s row) h = absurd h
post_names ty ps (Either' s row) h = absurd h
post_names ty ps (Post' p base items) h = ap₂ (λ (f : Formula) (l : List Postfix). names_after (names_of f) l) h.0 h.1
post_names ty ps (Under' p f cs) h = absurd h

abbrev known : List (List ℕ)
known = codes "A" ∷ codes "a" ∷ codes "B" ∷ codes "b" ∷ []

abbrev IsA : Formula → Type 0
IsA = IsPostOf (Of (name_at (codes "A") 4 23)) (Named (name_at (codes "a") 4 28) ∷ [])

abbrev IsB : Formula → Type 0
IsB = IsPostOf (Of (name_at (codes "B") 4 32)) (Named (name_at (codes "b") 4 37) ∷ [])

a_checked : (f : Formula) → IsA f → IsCheckedFormula types f
a_checked f h = post_checked (name_at (codes "A") 4 23) (Named (name_at (codes "a") 4 28) ∷ []) f h type_a (λ e. cc)
    ((λ t. not_named (codes "a") (λ e. cc) (λ e. cc) t.0 t.1 t.2 t.3 t.4), tt)

b_checked : (f : Formula) → IsB f → IsCheckedFormula types f
b_checked f h = post_checked (name_at (codes "B") 4 32) (Named (name_at (codes "b") 4 37) ∷ []) f h type_b (λ e. cc)
    ((λ t. not_named (codes "b") (λ e. cc) (λ e. cc) t.0 t.1 t.2 t.3 t.4), tt)

chain_row : (n : _) (row : Row_of-Formula n) → AreFormulas (IsA ∷ IsB ∷ []) row → AreCheckedFormulas types row × (leaf_count_of_all row ≡ 2) × (names_of_all row ≡ known)
chain_row n end_of-Formula h = absurd h
chain_row n (more_of-Formula a end_of-Formula) h = absurd h.1
chain_row n (more_of-Formula a (more_of-Formula b end_of-Formula)) h = (
  (a_checked a h.0, (b_checked b h.1.0, tt)),
  omega (arith, post_leaves (name_at (codes "A") 4 23) (Named (name_at (codes "a") 4 28) ∷ []) a h.0, post_leaves (name_at (codes "B") 4 32) (Named (name_at (codes "b") 4 37) ∷ []) b h.1.0),
  ap₂ (λ (x y : List (List ℕ)). x ++ (y ++ [])) (post_names (name_at (codes "A") 4 23) (Named (name_at (codes "a") 4 28) ∷ []) a h.0) (post_names (name_at (codes "B") 4 32) (Named (name_at (codes "b") 4 37) ∷ []) b h.1.0),
)
chain_row n (more_of-Formula a (more_of-Formula b (more_of-Formula d rest))) h = absurd h.1.1

chain_checked : (f : Formula) → IsChainOf (IsA ∷ IsB ∷ []) f → IsCheckedFormula types f × (leaf_count f ≡ 2) × (names_of f ≡ known)
chain_checked (Of n) h = absurd h
chain_checked (Chain' s row) h = chain_row _ row h
chain_checked (Linked' p f s row) h = absurd h
chain_checked (Either' s row) h = absurd h
chain_checked (Post' p f ps) h = absurd h
chain_checked (Under' p f cs) h = absurd h

abbrev small : List ℕ → ℕ → Filter
small name col = On (name_at name 4 col) (Cmp (name_at (codes "v") 4 (col + 2)) Lt (Int (pos 64)))

v_attr : SomeHasAttr types (codes "v") (AreComparable (Int (pos 64)))
v_attr = (0, record { name = codes "A"; attrs = sample_attrs }, omega arith, refl, (0, record { name = codes "v"; kind = kind.Int }, omega arith, refl, (refl, refl)))

small_checked : (name : List ℕ) (col : ℕ) (f : Filter) → f ≡ small name col → Contains known name → IsCheckedFilter types known f × (weight f ≡ 1)
small_checked name col f e has = subst (λ (d : Filter). IsCheckedFilter types known d × (weight d ≡ 1)) (sym e)
    ((has, record { comparable = v_attr; operator = tt; places = tt }), refl)

filters_row : (n : _) (row : Row_of-Filter n) → AreFilters (small (codes "a") 46 ∷ small (codes "b") 60 ∷ []) row → AreCheckedFilters types known row × (product_of_weights row ≡ 1)
filters_row n end_of-Filter h = absurd h
filters_row n (more_of-Filter a end_of-Filter) h = absurd h.1
filters_row n (more_of-Filter a (more_of-Filter b end_of-Filter)) h =
    let one = small_checked (codes "a") 46 a h.0 (1, omega arith, refl) in
    let two = small_checked (codes "b") 60 b h.1.0 (3, omega arith, refl) in
    ((one.0, (two.0, tt)), ap₂ (λ (x y : ℕ). x * (y * 1)) one.1 two.1)
filters_row n (more_of-Filter a (more_of-Filter b (more_of-Filter d rest))) h = absurd h.1.1

filters_checked : (cs : List Filter) → AreAllOf (small (codes "a") 46 ∷ small (codes "b") 60 ∷ []) cs → (cs ≢ []) × All (IsCheckedFilter types known) cs × (times_weights 2 cs ≡ 2)
filters_checked [] h = absurd h
filters_checked (On n p ∷ cs) h = absurd h
filters_checked (filter.Any' s row ∷ cs) h = absurd h
filters_checked (filter.All' s row ∷ c ∷ cs) h = absurd h
filters_checked (filter.All' s row ∷ []) h =
    let it = filters_row _ row h in (
      (λ e. cc),
      All-cons (IsCheckedFilter types known) (filter.All' s row) [] it.0 (All-nil (IsCheckedFilter types known)),
      ap (λ (x : ℕ). 2 * x) it.1,
    )

first_checked : (f : Formula) → IsFirstFormula f → IsCheckedFormula types f × (leaf_count f ≤ MOST_LEAVES)
first_checked (Of n) h = absurd h
first_checked (Chain' s row) h = absurd h
first_checked (Linked' p f s row) h = absurd h
first_checked (Either' s row) h = absurd h
first_checked (Post' p f ps) h = absurd h
first_checked (Under' p f cs) h =
    let chain = chain_checked f h.0 in
    let under = filters_checked cs.items h.1 in (
      (chain.0, under.0, subst (λ (names : List (List ℕ)). All (IsCheckedFilter types names) cs.items) (sym chain.2) under.1),
      subst (λ (n : ℕ). times_weights n cs.items ≤ MOST_LEAVES) (sym chain.1) (omega (arith, under.2)),
    )

pub all_checked : (schema : Declared) (queries : List Query) → schema ≡ sample_schema → AreQueries queries → All (IsChecked schema) queries
all_checked schema queries e h =
    let first = checked_of IsFirstFormula 4 8 h.0 (omega arith) h.3 first_checked in
    let second = checked_of IsSecondFormula 5 6 h.1 (omega arith) h.4 second_checked in
    subst (λ (s : Declared). All (IsChecked s) queries) (sym e) (subst (λ (l : List Query). All (IsChecked sample_schema) l) (sym h.2)
    (All-cons (IsChecked sample_schema) h.0 (h.1 ∷ []) first (All-cons (IsChecked sample_schema) h.1 [] second (All-nil (IsChecked sample_schema)))))
