-- A schema that grows keeps what a query reads.
use Rattle.std.proofs.Common.{◌≡◌, refl, sym, ap, ap₂, subst, ◌∙◌, append_assoc, ℕ, zero, suc, ◌<◌, ◌≤◌, Bool, true, false, cond, ◌||◌, List, [], ◌∷◌, ◌++◌, length, Option, Some, arith}
use Rattle.std.specs.Prelude.{slice_get, bytes_eq, ⊤}
use Rattle.std.specs.List.{list_any, filter_map, cons_option}
use Rattle.std.specs.Option.{option_map_or}
use Rattle.stream_schema.specs.Types.{Declared, DeclaredType, DeclaredStream}
use Rattle.stream_schema.specs.Names.{stream_types}
use Rattle.cel_terms.specs.declared.Name.{Name}
use Rattle.cel_terms.specs.Answers.{types_of_stream, query_types}

-- each number is below the bound
abbrev pub AreBelow : ℕ → List ℕ → Type 0
AreBelow n [] = ⊤
AreBelow n (k ∷ ks) = (k < n) × AreBelow n ks

-- so are those of each stream
abbrev pub HaveTypesBelow : ℕ → List DeclaredStream → Type 0
HaveTypesBelow n [] = ⊤
HaveTypesBelow n (s ∷ ss) = AreBelow n s.types × HaveTypesBelow n ss

pub below_append : (n : ℕ) (xs ys : List ℕ) → AreBelow n xs → AreBelow n ys → AreBelow n (xs ++ ys)
below_append n [] ys a b = b
below_append n (x ∷ xs) ys a b = (a.0, below_append n xs ys a.1 b)

pub below_more : (n m : ℕ) (xs : List ℕ) → n ≤ m → AreBelow n xs → AreBelow m xs
below_more n m [] h a = tt
below_more n m (x ∷ xs) h a = (let k = a.0 in omega (arith, k, h), below_more n m xs h a.1)

pub streams_more : (n m : ℕ) (ss : List DeclaredStream) → n ≤ m → HaveTypesBelow n ss → HaveTypesBelow m ss
streams_more n m [] h a = tt
streams_more n m (s ∷ ss) h a = (below_more n m s.types h a.0, streams_more n m ss h a.1)

pub streams_append : (n : ℕ) (xs ys : List DeclaredStream) → HaveTypesBelow n xs → HaveTypesBelow n ys → HaveTypesBelow n (xs ++ ys)
streams_append n [] ys a b = b
streams_append n (x ∷ xs) ys a b = (a.0, streams_append n xs ys a.1 b)

stream_below : (n : ℕ) (ss : List DeclaredStream) (name : List ℕ) → HaveTypesBelow n ss → AreBelow n (types_of_stream ss name)
stream_below n [] name a = tt
stream_below n (s ∷ ss) name a = pick n (bytes_eq s.name name) s.types (stream_types ss name) a.0 (stream_below n ss name a.1)
  where
    pick : (n : ℕ) (b : Bool) (xs : List ℕ) (o : Option (List ℕ)) → AreBelow n xs → AreBelow n (option_map_or (λ types. types) o []) → AreBelow n (option_map_or (λ types. types) (cond b (Some xs) o) [])
    pick n true xs o h k = h
    pick n false xs o h k = k

get_kept : (xs ys : List DeclaredType) (k : ℕ) → k < length xs → slice_get (xs ++ ys) k ≡ slice_get xs k
get_kept [] ys k h = absurd (omega (arith, h))
get_kept (x ∷ xs) ys zero h = refl
get_kept (x ∷ xs) ys (suc k) h = get_kept xs ys k (omega arith)

types_kept : (types more : List DeclaredType) (ns : List ℕ) → AreBelow (length types) ns → filter_map (slice_get (types ++ more)) ns ≡ filter_map (slice_get types) ns
types_kept types more [] h = refl
types_kept types more (n ∷ ns) h = ap₂ cons_option (get_kept types more n h.0) (types_kept types more ns h.1)

stream_kept : (ss more : List DeclaredStream) (name : List ℕ) → list_any (λ s. bytes_eq s.name name) ss ≡ true → types_of_stream (ss ++ more) name ≡ types_of_stream ss name
stream_kept [] more name e = absurd cc
stream_kept (s ∷ ss) more name e = step (bytes_eq s.name name) s.types (list_any (λ s. bytes_eq s.name name) ss) (stream_types (ss ++ more) name) (stream_types ss name) (stream_kept ss more name) e
  where
    or_none : Option (List ℕ) → List ℕ
    or_none o = option_map_or (λ types. types) o []

    step : (b : Bool) (xs : List ℕ) (found : Bool) (o p : Option (List ℕ)) → (found ≡ true → or_none o ≡ or_none p) → (b || found) ≡ true → or_none (cond b (Some xs) o) ≡ or_none (cond b (Some xs) p)
    step true xs found o p f e = refl
    step false xs found o p f e = f e

-- each of the names is a stream's
abbrev pub AreStreams : List DeclaredStream → List Name → Type 0
AreStreams ss [] = ⊤
AreStreams ss (n ∷ ns) = (list_any (λ s. bytes_eq s.name n.text) ss ≡ true) × AreStreams ss ns

query_types_kept : (schema : Declared) (types : List DeclaredType) (more : List DeclaredStream) (names : List Name) → AreStreams schema.streams names → query_types (record { types = types; streams = schema.streams ++ more }) names ≡ query_types schema names
query_types_kept schema types more [] h = refl
query_types_kept schema types more (n ∷ ns) h = ap₂ (λ xs ys. xs ++ ys) (stream_kept schema.streams more n.text h.0) (query_types_kept schema types more ns h.1)

query_types_below : (schema : Declared) (names : List Name) → HaveTypesBelow (length schema.types) schema.streams → AreBelow (length schema.types) (query_types schema names)
query_types_below schema [] h = tt
query_types_below schema (n ∷ ns) h = below_append (length schema.types) (types_of_stream schema.streams n.text) (query_types schema ns) (stream_below (length schema.types) schema.streams n.text h) (query_types_below schema ns h)

-- the types that the streams have, once more types and streams are declared
pub reads_kept : (schema : Declared) (types : List DeclaredType) (streams : List DeclaredStream) (names : List Name) → HaveTypesBelow (length schema.types) schema.streams → AreStreams schema.streams names → filter_map (slice_get (schema.types ++ types)) (query_types (record { types = schema.types ++ types; streams = schema.streams ++ streams }) names) ≡ filter_map (slice_get schema.types) (query_types schema names)
reads_kept schema types streams names within known =
    ap (filter_map (slice_get (schema.types ++ types))) (query_types_kept schema (schema.types ++ types) streams names known)
    ∙ types_kept schema.types types (query_types schema names) (query_types_below schema names within)

-- the second schema declares what the first does, and more after it
pub record Grows (a b : Declared) : Type 0 where
  pub more_types : List DeclaredType
  pub more_streams : List DeclaredStream
  pub types : b.types ≡ a.types ++ more_types
  pub streams : b.streams ≡ a.streams ++ more_streams

pub append_none : {X : Type 0} (xs : List X) → xs ++ [] ≡ xs
append_none [] = refl
append_none (x ∷ xs) = ap (λ ys. x ∷ ys) (append_none xs)

pub grows_self : (a : Declared) → Grows a a
grows_self a = record { more_types = []; more_streams = []; types = sym (append_none a.types); streams = sym (append_none a.streams) }

pub grows_on : (a b c : Declared) → Grows a b → Grows b c → Grows a c
grows_on a b c g h = record {
  more_types = g.more_types ++ h.more_types;
  more_streams = g.more_streams ++ h.more_streams;
  types = h.types ∙ ap (λ ts. ts ++ h.more_types) g.types ∙ append_assoc a.types g.more_types h.more_types;
  streams = h.streams ∙ ap (λ ss. ss ++ h.more_streams) g.streams ∙ append_assoc a.streams g.more_streams h.more_streams;
}

-- the types that the streams have stay the same
pub grown_reads : (a b : Declared) (names : List Name) → Grows a b → HaveTypesBelow (length a.types) a.streams → AreStreams a.streams names → filter_map (slice_get b.types) (query_types b names) ≡ filter_map (slice_get a.types) (query_types a names)
grown_reads a b names g within known =
    ap₂ (λ ts ss. filter_map (slice_get ts) (query_types (record { types = ts; streams = ss }) names)) g.types g.streams
    ∙ reads_kept a g.more_types g.more_streams names within known

found_more : (ss more : List DeclaredStream) (name : List ℕ) → list_any (λ s. bytes_eq s.name name) ss ≡ true → list_any (λ s. bytes_eq s.name name) (ss ++ more) ≡ true
found_more [] more name e = absurd cc
found_more (s ∷ ss) more name e = step (bytes_eq s.name name) _ _ (found_more ss more name) e
  where
    step : (b x y : Bool) → (x ≡ true → y ≡ true) → (b || x) ≡ true → (b || y) ≡ true
    step true x y f e = refl
    step false x y f e = f e

streams_found : (ss more : List DeclaredStream) (names : List Name) → AreStreams ss names → AreStreams (ss ++ more) names
streams_found ss more [] h = tt
streams_found ss more (n ∷ ns) h = (found_more ss more n.text h.0, streams_found ss more ns h.1)

pub grown_streams : (a b : Declared) (names : List Name) → Grows a b → AreStreams a.streams names → AreStreams b.streams names
grown_streams a b names g h = subst (λ (ss : List DeclaredStream). AreStreams ss names) (sym g.streams) (streams_found a.streams g.more_streams names h)
