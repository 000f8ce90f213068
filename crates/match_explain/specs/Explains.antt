-- Why a complex event is one: by which events, under which names, it came about.
-- A complex event is what a valuation of the formula leaves.
use Rattle.std.specs.Prelude.{◌≡◌, ◌≢◌, ℕ, ◌↔◌, List, [], map, Any, All, Contains, Option, Some, None, ⊤}
use Rattle.std.specs.List.Sorted.{IsStrictlySortedBy}
use Rattle.std.specs.Ordering.{nat_cmp}
use Rattle.std.specs.Cmp.Lexicographic.{slice_cmp}
use Rattle.stream_schema.specs.Types.{Declared}
use Rattle.stream_schema.specs.declared.Event.{Event}
use Rattle.cel_terms.specs.declared.Name.{Name}
use Rattle.cel_terms.specs.declared.Query.{Query}
use Rattle.cel_terms.specs.Meaning.{Valuation, meaning}
use Rattle.cel_terms.specs.Answers.{IsAscending, IsInWindow, IsOfSubstream, AreContiguous, WhereStrict, substream}
use Rattle.match_explain.specs.declared.Binding.{Binding}

-- the bindings put the position into the set of the name
abbrev pub Binds : List Binding → List ℕ → ℕ → Type 0
Binds bindings name position = Any (λ b. (b.name ≡ name) × Contains b.positions position) bindings

-- the valuation puts the position into the set of the name
abbrev pub IsInSetOf : Valuation → List ℕ → ℕ → Type 0
IsInSetOf v name position = Any (λ b. (b.position ≡ position) × Contains b.names name) v

-- The valuation as it is listed: for each name whose set is not empty its positions, the names ascending by their bytes, the positions ascending.
pub record AreBindingsOf (v : Valuation) (bindings : List Binding) : Type 0 where
  pub ordered : IsStrictlySortedBy (slice_cmp nat_cmp) (map (λ b. b.name) bindings)
  pub ascending : All (λ b. IsAscending b.positions) bindings
  pub some : All (λ b. b.positions ≢ []) bindings
  pub exact : (name : List ℕ) (position : ℕ) → Binds bindings name position ↔ IsInSetOf v name position

-- SELECT leaves the name, as it leaves each where it has no list
abbrev pub IsSelected : Option (List Name) → List ℕ → Type 0
IsSelected None name = ⊤
IsSelected (Some names) name = Any (λ n. n.text ≡ name) names

-- the position is in the set of a name that SELECT leaves
abbrev pub IsMarkedBy : Option (List Name) → List Binding → ℕ → Type 0
IsMarkedBy select bindings position = Any (λ b. IsSelected select b.name × Contains b.positions position) bindings

-- The bindings are those of a valuation of the query's formula, without its SELECT, from the start to the end; what SELECT leaves of them is marked; and the complex event is in the window and, where the query is strict, contiguous.
pub record Explains (schema : Declared) (q : Query) (events : List Event) (start end : ℕ) (marks : List ℕ) (bindings : List Binding) : Type 0 where
  pub valuation : Valuation
  pub means : meaning (substream schema q events end) q.formula start end valuation
  pub listed : AreBindingsOf valuation bindings
  pub marked : (position : ℕ) → Contains marks position ↔ IsMarkedBy q.select bindings position
  pub strict : WhereStrict q.strict (AreContiguous (IsOfSubstream schema q events end) marks)
  pub window : IsInWindow schema q events start end
