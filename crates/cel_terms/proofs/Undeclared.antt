-- Events whose type number is not declared.
use Rattle.std.proofs.Common.{◌≡◌, ap, ◌∙◌, subst, sym, ℕ, ◌<◌, ◌≤◌, ◌++◌, Bool, true, false, List, [], ◌∷◌, length, Some, None, All, Contains, slice_get, option_and_then, bytes_eq, if◌then◌else◌, inl, inr, arith}
use Rattle.std.specs.Option.{option_map_or}
use Rattle.std.proofs.lemmas.List.Elements.{All-head, All-tail, All-contains, Contains-append_cases}
use Rattle.std.proofs.lemmas.Option.{slice_get_past}
use Rattle.stream_schema.specs.Types.{Declared, DeclaredType, DeclaredStream, IsWellDeclared}
use Rattle.stream_schema.specs.Names.{attr_index, stream_types}
use Rattle.stream_schema.specs.declared.Event.{Event}
use Rattle.cel_terms.specs.declared.Name.{Name}
use Rattle.cel_terms.specs.declared.Query.{Query}
use Rattle.cel_terms.specs.Predicate.{attr_value}
use Rattle.cel_terms.specs.Answers.{types_of_stream, query_types, IsOfSubstream}

nothing_in : (ty : ℕ) → Contains [] ty → ⊥
nothing_in ty c = absurd (let less = c.1 in omega arith)

-- the types of a stream are declared
stream_declared : (n : ℕ) (streams : List DeclaredStream) (name : List ℕ) (ty : ℕ) → All (λ s. All (λ t. t < n) s.types) streams → Contains (types_of_stream streams name) ty → ty < n
stream_declared n [] name ty h c = absurd (nothing_in ty c)
stream_declared n (s ∷ ss) name ty h c = pick (bytes_eq s.name name) (λ d. stream_declared n ss name ty (All-tail (λ (u : DeclaredStream). All (λ t. t < n) u.types) s ss h) d) c
  where
    pick : (b : Bool) → (Contains (types_of_stream ss name) ty → ty < n) → Contains (option_map_or (λ types. types) (if b then Some s.types else stream_types ss name) []) ty → ty < n
    pick true later d = All-contains (λ t. t < n) s.types ty (All-head (λ (u : DeclaredStream). All (λ t. t < n) u.types) s ss h) d
    pick false later d = later d

-- and so are those of a query
query_declared : (schema : Declared) → IsWellDeclared schema → (names : List Name) (ty : ℕ) → Contains (query_types schema names) ty → ty < length schema.types
query_declared schema h [] ty c = absurd (nothing_in ty c)
query_declared schema h (n ∷ ns) ty c = elim (Contains-append_cases (types_of_stream schema.streams n.text) (query_types schema ns) ty c) [
  | inl d ↦ stream_declared (length schema.types) schema.streams n.text ty h.streams d
  | inr d ↦ query_declared schema h ns ty d
]

one_event : (a b : Event) → Some a ≡ Some b → a ≡ b
one_event a b e = cc

pub left_out : (schema : Declared) (q : Query) (events : List Event) (end position : ℕ) (event : Event) → IsWellDeclared schema → slice_get events position ≡ Some event → length schema.types ≤ event.ty → IsOfSubstream schema q events end position → ⊥
left_out schema q events end position event h at past s =
    let same : s.here ≡ event = one_event s.here event (sym s.here_is ∙ at) in
    let less = query_declared schema h q.streams s.here.ty s.here_has.0 in
    let ty = ap (λ (e : Event). e.ty) same in
    absurd (omega arith)

pub no_attribute : (schema : Declared) (event : Event) (name : List ℕ) → length schema.types ≤ event.ty → attr_value schema event name ≡ None
no_attribute schema event name past =
    ap (option_and_then (λ (t : DeclaredType). option_and_then (λ i. slice_get event.values i) (attr_index name t.attrs))) (slice_get_past schema.types event.ty past)
