-- What follows of a schema from what each schema keeps.
use Rattle.std.proofs.Common.{◌≡◌, refl, sym, ap, ap₂, subst, ◌∙◌, ℕ, ◌+◌, ◌<◌, ◌≤◌, cond, Bool, true, false, ◌||◌, List, [], ◌∷◌, ◌++◌, map, length, get_or, Option, Some, None, All, slice_get, option_map, option_and_then, arith, bytes_eq, nat_eq, if◌then◌else◌, length-append}
use Rattle.std.specs.List.{list_any, position_from}
use Rattle.std.proofs.lemmas.List.{map-append, length-map}
use Rattle.std.proofs.lemmas.List.Elements.{All-contains, All-push, All-weaker}
use Rattle.std.proofs.lemmas.Option.{slice_get-get_or}
use Rattle.cer_base.specs.Repeats.{HasNoRepeats}
use Rattle.stream_schema.specs.declared.Attr.{Attr}
use Rattle.stream_schema.specs.Types.{Declared, DeclaredType, DeclaredStream, IsWellDeclared, name_of_type}
use Rattle.stream_schema.specs.Names.{type_number, attr_of, attr_at, attr_among, attr_index, stream_types, is_taken}
use Rattle.stream_schema.specs.Declaring.{added}
use Rattle.stream_schema.specs.Indexes.{IsIndexed}
use Rattle.stream_schema.proofs.StreamPlaces.{types_at_place}
use Rattle.stream_schema.proofs.Distinct.{stands_in, position-map, any-map, one_found, repeats_not}

-- the place of a name among what is indexed
pub found_in : {A : Type 0} (f : A → List ℕ) (xs : List A) (names : List (List ℕ)) → names ≡ map f xs → (name : List ℕ) → position_from (λ n. bytes_eq n name) 0 names ≡ position_from (λ x. bytes_eq (f x) name) 0 xs
found_in f xs names is name = ap (position_from (λ n. bytes_eq n name) 0) is ∙ position-map f xs name 0

any_in : {A : Type 0} (f : A → List ℕ) (xs : List A) (names : List (List ℕ)) → names ≡ map f xs → (name : List ℕ) → list_any (λ n. bytes_eq n name) names ≡ list_any (λ x. bytes_eq (f x) name) xs
any_in f xs names is name = ap (list_any (λ n. bytes_eq n name)) is ∙ any-map f xs name

pub taken_is : (schema : Declared) (types streams : List (List ℕ)) → IsIndexed schema types streams → (name : List ℕ) → (list_any (λ n. bytes_eq n name) types || list_any (λ n. bytes_eq n name) streams) ≡ is_taken schema name
taken_is schema types streams h name = ap₂ (λ a b. a || b) (any_in (λ t. t.name) schema.types types h.types name) (any_in (λ s. s.name) schema.streams streams h.streams name)

first_taken : (a b r : Bool) → r ≡ true → r ≡ a → r ≡ (a || b)
first_taken true b r h e = e
first_taken false b r h e = absurd cc

second_taken : (a b h r : Bool) → h ≡ false → h ≡ a → r ≡ b → r ≡ (a || b)
second_taken true b h r n e f = absurd cc
second_taken false b h r n e f = f

pub taken_first : (schema : Declared) (types streams : List (List ℕ)) → IsIndexed schema types streams → (name : List ℕ) (r : Bool) → r ≡ true → r ≡ list_any (λ n. bytes_eq n name) types → r ≡ is_taken schema name
taken_first schema types streams h name r found is = first_taken _ _ r found is ∙ taken_is schema types streams h name

pub taken_second : (schema : Declared) (types streams : List (List ℕ)) → IsIndexed schema types streams → (name : List ℕ) (q r : Bool) → q ≡ false → q ≡ list_any (λ n. bytes_eq n name) types → r ≡ list_any (λ n. bytes_eq n name) streams → r ≡ is_taken schema name
taken_second schema types streams h name q r absent is_first is_second = second_taken _ _ q r absent is_first is_second ∙ taken_is schema types streams h name

left : (a b : Bool) → (a || b) ≡ false → a ≡ false
left false b e = refl
left true b e = absurd cc

right : (a b : Bool) → (a || b) ≡ false → b ≡ false
right false b e = e
right true b e = absurd cc

-- a name that is not taken stands in neither index
pub free_type : (schema : Declared) (types streams : List (List ℕ)) → IsIndexed schema types streams → (name : List ℕ) → is_taken schema name ≡ false → list_any (λ n. bytes_eq n name) types ≡ false
free_type schema types streams h name free = left _ _ (taken_is schema types streams h name ∙ free)

pub free_stream : (schema : Declared) (types streams : List (List ℕ)) → IsIndexed schema types streams → (name : List ℕ) → is_taken schema name ≡ false → list_any (λ n. bytes_eq n name) streams ≡ false
free_stream schema types streams h name free = right _ _ (taken_is schema types streams h name ∙ free)

-- the types of the stream whose name stands there in the index
pub stream_found : (streams : List DeclaredStream) (names : List (List ℕ)) → names ≡ map (λ s. s.name) streams → (name : List ℕ) (i : ℕ) (s : DeclaredStream) → Some i ≡ position_from (λ n. bytes_eq n name) 0 names → i < length names → s ≡ get_or streams i s → Some s.types ≡ stream_types streams name
stream_found streams names is name i s at within there =
    let bound : i < length streams = let l = ap length is ∙ length-map streams (λ (u : DeclaredStream). u.name) in omega arith in
    let found = sym (found_in (λ (u : DeclaredStream). u.name) streams names is name) ∙ sym at in
    ap (λ u. Some u.types) there
    ∙ sym (ap (option_and_then (λ j. option_map (λ (u : DeclaredStream). u.types) (slice_get streams j))) found ∙ ap (option_map (λ (u : DeclaredStream). u.types)) (slice_get-get_or streams i s bound))
    ∙ types_at_place streams name

pub no_stream_found : (streams : List DeclaredStream) (names : List (List ℕ)) → names ≡ map (λ s. s.name) streams → (name : List ℕ) → None ≡ position_from (λ n. bytes_eq n name) 0 names → None ≡ stream_types streams name
no_stream_found streams names is name none =
    ap (option_and_then (λ j. option_map (λ (u : DeclaredStream). u.types) (slice_get streams j))) (none ∙ found_in (λ (u : DeclaredStream). u.name) streams names is name)
    ∙ types_at_place streams name

named : (o : Option DeclaredType) (name : List ℕ) → option_map (λ t. t.name) o ≡ Some name → (t : DeclaredType) × (o ≡ Some t) × (t.name ≡ name)
named None name e = absurd cc
named (Some t) name e = (t, refl, cc)

-- the only type of a name is the one that is found
pub one_type : (schema : Declared) → IsWellDeclared schema → (name : List ℕ) (ty : ℕ) → name_of_type schema.types ty ≡ Some name → type_number schema.types name ≡ Some ty
one_type schema h name ty has = let t = named (slice_get schema.types ty) name has in one_found (λ t. t.name) schema.types name h.types ty t.0 t.1 t.2

one_attr_of : (types : List DeclaredType) (name : List ℕ) (i : ℕ) (a : Attr) (o : Option DeclaredType) → ((t : DeclaredType) → o ≡ Some t → HasNoRepeats (map (λ b. b.name) t.attrs)) → option_and_then (λ t. slice_get t.attrs i) o ≡ Some a → a.name ≡ name → option_and_then (λ t. attr_among t.attrs name) o ≡ Some (record { index = i; kind = a.kind })
one_attr_of types name i a None once at is = absurd cc
one_attr_of types name i a (Some t) once at is =
    ap (option_and_then (λ j. option_map (λ b. record { index = j; kind = b.kind }) (slice_get t.attrs j))) (one_found (λ b. b.name) t.attrs name (once t refl) i a at is)
    ∙ ap (option_map (λ (b : Attr). record { index = i; kind = b.kind })) at

-- the only attribute of a name is the one that is found
pub one_attr : (schema : Declared) → IsWellDeclared schema → (name : List ℕ) (ty i : ℕ) (a : Attr) → attr_of schema.types ty i ≡ Some a → a.name ≡ name → attr_at schema ty name ≡ Some (record { index = i; kind = a.kind })
one_attr schema h name ty i a at is =
    one_attr_of schema.types name i a (slice_get schema.types ty) (λ t e. All-contains (λ (t : DeclaredType). HasNoRepeats (map (λ b. b.name) t.attrs)) schema.types t h.attrs (stands_in schema.types ty t e)) at is

-- a number that is inserted is added where it is not there yet
eq_flip : (m n : ℕ) → nat_eq m n ≡ nat_eq n m
eq_flip m n = grind arith

any_flip : (n : ℕ) (keys : List ℕ) → list_any (λ k. nat_eq n k) keys ≡ list_any (λ k. nat_eq k n) keys
any_flip n [] = refl
any_flip n (k ∷ ks) = ap₂ (λ a b. a || b) (eq_flip n k) (any_flip n ks)

pub number_added : (keys : List ℕ) (n : ℕ) → (if list_any (λ k. nat_eq n k) keys then keys else keys ++ n ∷ []) ≡ added keys n
number_added keys n = ap (λ b. if b then keys else keys ++ n ∷ []) (any_flip n keys)

pub all_added : (P : ℕ → Type 0) (keys : List ℕ) (n : ℕ) → All P keys → P n → (b : Bool) → All P (if b then keys else keys ++ n ∷ [])
all_added P keys n h p true = h
all_added P keys n h p false = All-push P keys n h p

-- one type more
pub type_more : (schema : Declared) (types streams : List (List ℕ)) → IsIndexed schema types streams → (t : DeclaredType) → list_any (λ n. bytes_eq n t.name) types ≡ false → HasNoRepeats (map (λ a. a.name) t.attrs) → IsIndexed (record { types = schema.types ++ t ∷ []; streams = schema.streams }) (types ++ t.name ∷ []) streams
type_more schema types streams h t new once =
    let more = map-append (λ (u : DeclaredType). u.name) schema.types (t ∷ []) in
    let names : types ++ t.name ∷ [] ≡ map (λ u. u.name) (schema.types ++ t ∷ []) = ap (λ ns. ns ++ t.name ∷ []) h.types ∙ sym more in
    record {
      declared = record {
        types = subst HasNoRepeats names (repeats_not types t.name (subst HasNoRepeats (sym h.types) h.declared.types) new);
        attrs = All-push (λ (u : DeclaredType). HasNoRepeats (map (λ a. a.name) u.attrs)) schema.types t h.declared.attrs once;
        streams = All-weaker (λ (s : DeclaredStream). All (λ ty. ty < length schema.types) s.types) (λ (s : DeclaredStream). All (λ ty. ty < length (schema.types ++ t ∷ [])) s.types)
            (λ s. All-weaker (λ ty. ty < length schema.types) (λ ty. ty < length (schema.types ++ t ∷ [])) (λ ty less. simp length-append (omega arith)) s.types) schema.streams h.declared.streams;
      };
      types = names;
      streams = h.streams;
    }

-- one stream more
pub stream_more : (schema : Declared) (types streams : List (List ℕ)) → IsIndexed schema types streams → (s : DeclaredStream) → All (λ ty. ty < length schema.types) s.types → IsIndexed (record { types = schema.types; streams = schema.streams ++ s ∷ [] }) types (streams ++ s.name ∷ [])
stream_more schema types streams h s declared = record {
  declared = record {
    types = h.declared.types;
    attrs = h.declared.attrs;
    streams = All-push (λ (u : DeclaredStream). All (λ ty. ty < length schema.types) u.types) schema.streams s h.declared.streams declared;
  };
  types = h.types;
  streams = ap (λ ns. ns ++ s.name ∷ []) h.streams ∙ sym (map-append (λ (u : DeclaredStream). u.name) schema.streams (s ∷ []));
}

-- the declarations with one type more, as a schema has them once the type is pushed
pub type_pushed : (schema : Declared) (types streams : List (List ℕ)) → IsIndexed schema types streams → (t : DeclaredType) (name : List ℕ) (all : List DeclaredType) (names : List (List ℕ)) → t.name ≡ name → list_any (λ n. bytes_eq n name) types ≡ false → HasNoRepeats (map (λ a. a.name) t.attrs) → all ≡ schema.types ++ t ∷ [] → names ≡ types ++ name ∷ [] → IsIndexed (record { types = all; streams = schema.streams }) names streams
type_pushed schema types streams h t name all names is new once pushed added =
    let more = type_more schema types streams h t (ap (λ n. list_any (λ m. bytes_eq m n) types) is ∙ new) once in
    subst (λ ns. IsIndexed (record { types = all; streams = schema.streams }) ns streams) (ap (λ n. types ++ n ∷ []) is ∙ sym added)
    (subst (λ ts. IsIndexed (record { types = ts; streams = schema.streams }) (types ++ t.name ∷ []) streams) (sym pushed) more)

pub stream_pushed : (schema : Declared) (types streams : List (List ℕ)) → IsIndexed schema types streams → (s : DeclaredStream) (name : List ℕ) (all : List DeclaredStream) (names : List (List ℕ)) → s.name ≡ name → All (λ ty. ty < length schema.types) s.types → all ≡ schema.streams ++ s ∷ [] → names ≡ streams ++ name ∷ [] → IsIndexed (record { types = schema.types; streams = all }) types names
stream_pushed schema types streams h s name all names is declared pushed added =
    let more = stream_more schema types streams h s declared in
    subst (λ ns. IsIndexed (record { types = schema.types; streams = all }) types ns) (ap (λ n. streams ++ n ∷ []) is ∙ sym added)
    (subst (λ ss. IsIndexed (record { types = schema.types; streams = ss }) types (streams ++ s.name ∷ [])) (sym pushed) more)
