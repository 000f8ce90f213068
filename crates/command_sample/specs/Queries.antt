-- The schema and the two queries of the sample, as the terms of their text.
use Rattle.std.specs.Prelude.{◌≡◌, ℕ, pos, false, List, [], ◌∷◌, None, codes}
use Rattle.stream_schema.specs.Types.{Declared}
use Rattle.stream_schema.specs.declared.Attr.{Attr}
use Rattle.stream_schema.specs.declared.Kind.TheVariants as kind
use Rattle.stream_schema.specs.declared.Value.TheVariants.{Int}
use Rattle.stream_schema.specs.declared.Op.TheVariants.{Lt}
use Rattle.cel_terms.specs.declared.Name.{Name}
use Rattle.cel_terms.specs.declared.Pred.{Cmp}
use Rattle.cel_terms.specs.declared.Filter.{Filter, On, Row_of-Filter, end_of-Filter, more_of-Filter}
use Rattle.cel_terms.specs.declared.Filter as filter
use Rattle.cel_terms.specs.declared.Postfix.{Postfix}
use Rattle.cel_terms.specs.declared.Postfix.TheVariants.{Plus, Named}
use Rattle.cel_terms.specs.declared.Formula.{Formula, Of, Chain', Post', Under', Row_of-Formula, end_of-Formula, more_of-Formula}
use Rattle.cel_terms.specs.declared.Window.TheVariants.{Events}
use Rattle.cel_terms.specs.declared.Query.{Query}

-- v INT
abbrev pub sample_attrs : List Attr
sample_attrs = record { name = codes "v"; kind = kind.Int } ∷ []

-- DECLARE EVENT A(v INT), DECLARE EVENT B(v INT), DECLARE STREAM S(A, B)
abbrev pub sample_schema : Declared
sample_schema = record {
  types = record { name = codes "A"; attrs = sample_attrs } ∷ record { name = codes "B"; attrs = sample_attrs } ∷ [];
  streams = record { name = codes "S"; types = 0 ∷ 1 ∷ [] } ∷ [];
}

-- the name that stands at this line and column of the text
abbrev pub name_at : List ℕ → ℕ → ℕ → Name
name_at text line col = record { text = text; place = record { line = line; col = col } }

-- the formulas of the row are these, one by one
abbrev pub AreFormulas : List (Formula → Type 0) → {m : _} → Row_of-Formula m → Type 0
AreFormulas [] end_of-Formula = Unit {0}
AreFormulas (Is ∷ more) (more_of-Formula f rest) = Is f × AreFormulas more rest
AreFormulas _ _ = ⊥

-- the filters of the row are these, one by one
abbrev pub AreFilters : List Filter → {m : _} → Row_of-Filter m → Type 0
AreFilters [] end_of-Filter = Unit {0}
AreFilters (c ∷ more) (more_of-Filter d rest) = (d ≡ c) × AreFilters more rest
AreFilters _ _ = ⊥

-- f ; g
abbrev pub IsChainOf : List (Formula → Type 0) → Formula → Type 0
IsChainOf parts (Chain' s row) = AreFormulas parts row
IsChainOf parts _ = ⊥

-- the formula with the postfixes after it
abbrev pub IsPostOf : Formula → List Postfix → Formula → Type 0
IsPostOf base postfixes (Post' p f ps) = (f ≡ base) × (ps.items ≡ postfixes)
IsPostOf base postfixes _ = ⊥

-- one filter: all of these
abbrev pub AreAllOf : List Filter → List Filter → Type 0
AreAllOf parts (filter.All' s row ∷ []) = AreFilters parts row
AreAllOf parts _ = ⊥

-- A AS a, B AS b
abbrev pub first_parts : List (Formula → Type 0)
first_parts =
    IsPostOf (Of (name_at (codes "A") 4 23)) (Named (name_at (codes "a") 4 28) ∷ [])
    ∷ IsPostOf (Of (name_at (codes "B") 4 32)) (Named (name_at (codes "b") 4 37) ∷ []) ∷ []

-- a[v < 64], b[v < 64]
abbrev pub first_filters : List Filter
first_filters =
    On (name_at (codes "a") 4 46) (Cmp (name_at (codes "v") 4 48) Lt (Int (pos 64)))
    ∷ On (name_at (codes "b") 4 60) (Cmp (name_at (codes "v") 4 62) Lt (Int (pos 64))) ∷ []

-- A AS a ; B AS b FILTER a[v < 64] AND b[v < 64]
abbrev pub IsFirstFormula : Formula → Type 0
IsFirstFormula (Under' p f filters) =
    IsChainOf first_parts f × AreAllOf first_filters filters.items
IsFirstFormula _ = ⊥

-- A+ ; B
abbrev pub IsSecondFormula : Formula → Type 0
IsSecondFormula f =
    IsChainOf (IsPostOf (Of (name_at (codes "A") 5 23)) (Plus ∷ []) ∷ (λ g. g ≡ Of (name_at (codes "B") 5 28)) ∷ []) f

-- Of the stream S, at this line of the text, with a formula that is so and a window of so many events.
pub record IsOfStream (line width : ℕ) (Is : Formula → Type 0) (q : Query) : Type 0 where
  pub select : q.select ≡ None
  pub strict : q.strict ≡ false
  pub any : q.any ≡ None
  pub streams : q.streams ≡ name_at (codes "S") line 15 ∷ []
  pub formula : Is q.formula
  pub partition : q.partition ≡ []
  pub window : q.window ≡ Events width
  pub place : q.place ≡ record { line = line; col = 1 }

-- SELECT * FROM S WHERE A AS a ; B AS b FILTER a[v < 64] AND b[v < 64] WITHIN 8 EVENTS
abbrev pub IsFirstQuery : Query → Type 0
IsFirstQuery = IsOfStream 4 8 IsFirstFormula

-- SELECT * FROM S WHERE A+ ; B WITHIN 6 EVENTS
abbrev pub IsSecondQuery : Query → Type 0
IsSecondQuery = IsOfStream 5 6 IsSecondFormula

-- the two, in order
abbrev pub AreQueries : List Query → Type 0
AreQueries queries = (first : Query) × (second : Query) × (queries ≡ first ∷ second ∷ []) × IsFirstQuery first × IsSecondQuery second
