-- Each event that a checked query reads has a clock.
use Rattle.std.proofs.Common.{◌≡◌, ◌≢◌, ℕ, zero, suc, ℤ, List, [], ◌∷◌, map, refl, sym, ap, subst, ◌∙◌, Contains, Option, Some, None, slice_get, inl, inr}
use Rattle.std.specs.Prelude.{Any, IsSomeAnd, option_and_then}
use Rattle.std.specs.List.{filter_map, cons_option}
use Rattle.std.proofs.lemmas.Option.{slice_get-get_or}
use Rattle.std.proofs.lemmas.List.Elements.{All-contains}
use Rattle.cer_base.specs.Repeats.{HasNoRepeats}
use Rattle.stream_schema.specs.Types.{Declared, DeclaredType, IsWellDeclared}
use Rattle.stream_schema.specs.Names.{attr_index}
use Rattle.stream_schema.specs.Events.{IsOfKind, AreOfAttrs, IsOfSchema}
use Rattle.stream_schema.specs.declared.Attr.{Attr}
use Rattle.stream_schema.specs.declared.Event.{Event}
use Rattle.stream_schema.specs.declared.Kind.TheVariants as kind
use Rattle.stream_schema.specs.declared.Value.{Value}
use Rattle.stream_schema.specs.declared.Value.TheVariants as value
use Rattle.stream_schema.proofs.Distinct.{one_found}
use Rattle.cel_terms.specs.declared.Query.{Query}
use Rattle.cel_terms.specs.declared.Window.{Window}
use Rattle.cel_terms.specs.declared.Window.TheVariants.{Free, Events, Clock}
use Rattle.cel_terms.specs.Answers.{query_types}
use Rattle.cel_terms.specs.Checked.{types_read, IsAttr, EachHasAttr, IsCheckedWindow, IsChecked}
use Rattle.window_clock.specs.declared.Source.{Source}
use Rattle.window_clock.specs.Clocks.{int_of, clock_of}
use Rattle.window_clock.specs.Places.{IsOf, HasWidth}
use Rattle.query_standing.specs.Clocks.{Reads}
use Rattle.query_standing.proofs.Lists.{here, there, cons_cases, none_in_nil, got}
use Rattle.query_state.specs.QueryStates.{HaveClocks}

-- the width of a checked window
pub checked_width : (schema : Declared) (q : Query) → IsChecked schema q → HasWidth q.window
checked_width schema q checked = go q.window checked.window
  where
    go : (w : Window) → IsCheckedWindow (types_read schema q) w → HasWidth w
    go Free h = tt
    go (Events n) h = tt
    go (Clock name n) h = (h.1, h.2)

kept_type : (f : ℕ → Option DeclaredType) (xs : List ℕ) (x : ℕ) (t : DeclaredType) → Contains xs x → f x ≡ Some t → Contains (filter_map f xs) t
kept_type f [] x t c e = absurd (none_in_nil x c)
kept_type f (y ∷ ys) x t c e = elim (cons_cases y x ys c) [
  | inl same ↦ go (f y) (ap f same ∙ e)
  | inr later ↦ step (f y) (kept_type f ys x t later e)
] where
  go : (o : Option DeclaredType) → o ≡ Some t → Contains (cons_option o (filter_map f ys)) t
  go (Some u) s = let is : u ≡ t = cc in subst (λ z. Contains (z ∷ filter_map f ys) t) (sym is) (here t (filter_map f ys))
  go None s = absurd cc

  step : (o : Option DeclaredType) → Contains (filter_map f ys) t → Contains (cons_option o (filter_map f ys)) t
  step (Some u) h = there u t (filter_map f ys) h
  step None h = h

-- the value that stands where the attribute does is of its kind
value_of_kind : (attrs : List Attr) (values : List Value) (k : ℕ) (a : Attr) → AreOfAttrs attrs values → slice_get attrs k ≡ Some a → (v : Value) × (slice_get values k ≡ Some v) × IsOfKind a.kind v
value_of_kind [] values k a h e = absurd cc
value_of_kind (b ∷ attrs) [] k a h e = absurd h
value_of_kind (b ∷ attrs) (v ∷ values) zero a h e = let same : b ≡ a = cc in (v, refl, subst (λ (c : Attr). IsOfKind c.kind v) same h.0)
value_of_kind (b ∷ attrs) (v ∷ values) (suc k) a h e = value_of_kind attrs values k a h.1 e

whole_number : (v : Value) → IsOfKind kind.Int v → (n : ℤ) × (v ≡ value.Int n)
whole_number (value.Int n) h = (n, refl)
whole_number (value.Text t) h = absurd h
whole_number (value.Flag b) h = absurd h
whole_number (value.Dec n p) h = absurd h

-- the value of the attribute that is a whole number in each type
clock_in_type : (name : List ℕ) (t : DeclaredType) (values : List Value) → HasNoRepeats (map (λ a. a.name) t.attrs) → Any (IsAttr name (λ k. k ≡ kind.Int)) t.attrs → AreOfAttrs t.attrs values → (n : ℤ) × (option_and_then (λ i. slice_get values i) (attr_index name t.attrs) ≡ Some (value.Int n))
clock_in_type name t values distinct some of =
    let k = some.0 in
    let a = some.1 in
    let at : slice_get t.attrs k ≡ Some a = slice_get-get_or t.attrs k a some.2 ∙ ap Some some.3 in
    let is = some.4 in
    let place : attr_index name t.attrs ≡ Some k = one_found (λ (b : Attr). b.name) t.attrs name distinct k a at is.0 in
    let v = value_of_kind t.attrs values k a of at in
    let n = whole_number v.0 (subst (λ z. IsOfKind z v.0) is.1 v.2) in
    (n.0, ap (option_and_then (λ i. slice_get values i)) place ∙ (v.1 ∙ ap Some n.1))

is_there : {X : Type 0} (o : Option X) (x : X) → o ≡ Some x → o ≢ None
is_there o x e none = let both = sym e ∙ none in absurd cc

pub each_has_clock : (schema : Declared) (q : Query) → IsWellDeclared schema → IsChecked schema q → (event : Event) (p : ℕ) → IsOfSchema schema event → Reads schema q event → clock_of schema q.window event p ≢ None
each_has_clock schema q well checked event p of reads = go q.window checked.window
  where
    typed : (name : List ℕ) → EachHasAttr (types_read schema q) name (λ k. k ≡ kind.Int) → (o : Option DeclaredType) → slice_get schema.types event.ty ≡ o → IsSomeAnd o (λ t. AreOfAttrs t.attrs event.values) → int_of (option_and_then (λ (t : DeclaredType). option_and_then (λ i. slice_get event.values i) (attr_index name t.attrs)) o) ≢ None
    typed name each None at h = absurd h
    typed name each (Some t) at h =
        let in_types = got schema.types event.ty t at in
        let distinct = All-contains (λ (t : DeclaredType). HasNoRepeats (map (λ a. a.name) t.attrs)) schema.types t well.attrs in_types in
        let some = All-contains (λ (t : DeclaredType). Any (IsAttr name (λ k. k ≡ kind.Int)) t.attrs) (types_read schema q) t each (kept_type (slice_get schema.types) (query_types schema q.streams) event.ty t reads at) in
        let value = clock_in_type name t event.values distinct some h in
        is_there _ value.0 (ap int_of value.1)

    go : (w : Window) → IsCheckedWindow (types_read schema q) w → clock_of schema w event p ≢ None
    go Free h = is_there _ _ refl
    go (Events n) h = is_there _ _ refl
    go (Clock name n) h = subst (λ o. int_of (option_and_then (λ (t : DeclaredType). option_and_then (λ i. slice_get event.values i) (attr_index name.text t.attrs)) o) ≢ None) refl (typed name.text h.0 (slice_get schema.types event.ty) refl of)

-- The clock that is read where the window says is there for each event that a checked query reads.
pub have_clocks : (schema : Declared) (q : Query) (source : Source) → IsWellDeclared schema → IsChecked schema q → IsOf schema q.window source → HaveClocks schema q source
have_clocks schema q source well checked is event p of reads = subst (λ o. o ≢ None) (sym (is.clock event p)) (each_has_clock schema q well checked event p of reads)
