-- Sets of types: how they are made, how a name is found in them, and that tests find in them what they
-- find in any list of the same types.
use Rattle.std.proofs.Common.{◌≡◌, refl, sym, ap, ap₂, ◌∙◌, subst, ℕ, zero, suc, ◌+◌, ◌<◌, ◌≤◌, add-one, cond, Bool, true, false, not, ◌&&◌, ◌||◌, List, [], ◌∷◌, ◌++◌, map, Option, None, Some, length, take, get_or, arith}
use Rattle.std.specs.Prelude.{bytes_eq, nat_eq, slice_get, if◌then◌else◌, is_some, option_map, Result, Ok, Err, OnOk}
use Rattle.std.specs.List.{list_any, list_all, filter_map, position_from}
use Rattle.std.specs.Option.{option_map_or, option_or}
use Rattle.std.proofs.lemmas.Slice.Eq.{bytes_eq-Decides}
use Rattle.std.proofs.lemmas.Bool.{eqb-true, eq-eqb}
use Rattle.indexmap.specs.IndexSet.{insert_key}
use Rattle.stream_schema.specs.Types.{Declared, DeclaredType, name_of_type}
use Rattle.stream_schema.specs.Names.{type_number}
use Rattle.cel_terms.specs.declared.Name.{Name}
use Rattle.cel_terms.specs.Answers.{types_of_stream, query_types}
use Rattle.cel_terms.specs.Meaning.{lists_name}
use Rattle.ceql_parser.specs.TypesAsked.{types_at, is_type_name, has_attr, each_has_attr}
use Rattle.ceql_parser.specs.NameSets.{HaveSameNames}
use Rattle.ceql_parser.specs.QueryTypes.{AddsStream, HaveSameNumbers, HaveSameTypes}
use Rattle.ceql_parser.proofs.TypesFound.{any_found, type_found, types_more}

-- NUMBERS

pub numbers_self : (a : List ℕ) → HaveSameNumbers a a
numbers_self a = record { at = λ t. refl }

numbers_then : (a b c : List ℕ) → HaveSameNumbers a b → HaveSameNumbers b c → HaveSameNumbers a c
numbers_then a b c s t = record { at = λ f. s.at f ∙ t.at f }

or_or : (a b c : Bool) → ((a || b) || c) ≡ (a || (b || c))
or_or true b c = refl
or_or false b c = refl

any_append : {X : Type 0} (test : X → Bool) (xs ys : List X) → list_any test (xs ++ ys) ≡ (list_any test xs || list_any test ys)
any_append test [] ys = refl
any_append test (x ∷ xs) ys = ap (λ b. test x || b) (any_append test xs ys) ∙ sym (or_or (test x) (list_any test xs) (list_any test ys))

numbers_both : (a b x y : List ℕ) → HaveSameNumbers a b → HaveSameNumbers x y → HaveSameNumbers (a ++ x) (b ++ y)
numbers_both a b x y s t = record { at = λ f. any_append f a x ∙ ap₂ (λ p q. p || q) (s.at f) (t.at f) ∙ sym (any_append f b y) }

or_last : (a b : Bool) → (b ≡ true → a ≡ true) → a ≡ (a || b)
or_last true b h = refl
or_last false true h = h refl
or_last false false h = refl

or_front : (a b : Bool) → a ≡ true → (a || b) ≡ true
or_front true b e = refl
or_front false b e = absurd cc

or_back : (a b : Bool) → b ≡ true → (a || b) ≡ true
or_back true b e = refl
or_back false b e = e

or_cases : (a b : Bool) → (a || b) ≡ true → (a ≡ false → b ≡ true)
or_cases true b e = λ f. absurd cc
or_cases false b e = λ f. e

there_step : (test : ℕ → Bool) (k x : ℕ) (xs : List ℕ) (b : Bool) → nat_eq k x ≡ b → (nat_eq k x || list_any (nat_eq k) xs) ≡ true → test k ≡ true → (list_any (nat_eq k) xs ≡ true → list_any test xs ≡ true) → (test x || list_any test xs) ≡ true
there_step test k x xs true f e h later = or_front (test x) (list_any test xs) (ap test (sym (eqb-true k x f)) ∙ h)
there_step test k x xs false f e h later = or_back (test x) (list_any test xs) (later (or_cases (nat_eq k x) (list_any (nat_eq k) xs) e f))

-- a number that is there passes what it passes
there : (test : ℕ → Bool) (k : ℕ) (ks : List ℕ) → list_any (nat_eq k) ks ≡ true → test k ≡ true → list_any test ks ≡ true
there test k [] e h = absurd cc
there test k (x ∷ xs) e h = there_step test k x xs (nat_eq k x) refl e h (λ f. there test k xs f h)

or_false : (a : Bool) → (a || false) ≡ a
or_false true = refl
or_false false = refl

-- a number that is put in is there
pub number_put : (ks : List ℕ) (k : ℕ) → HaveSameNumbers (insert_key nat_eq ks k) (ks ++ k ∷ [])
number_put ks k = record { at = λ test. cases test (list_any (nat_eq k) ks) refl }
  where
    cases : (test : ℕ → Bool) (b : Bool) → list_any (nat_eq k) ks ≡ b → list_any test (if b then ks else ks ++ k ∷ []) ≡ list_any test (ks ++ k ∷ [])
    cases test true e = or_last (list_any test ks) (test k || false) (λ h. there test k ks e (sym (or_false (test k)) ∙ h)) ∙ sym (any_append test ks (k ∷ []))
    cases test false e = refl

more_taken : (xs : List ℕ) (i d : ℕ) → i < length xs → take (suc i) xs ≡ take i xs ++ get_or xs i d ∷ []
more_taken [] i d h = absurd (omega (arith, h))
more_taken (x ∷ xs) zero d h = refl
more_taken (x ∷ xs) (suc i) d h = ap (λ ns. x ∷ ns) (more_taken xs i d (omega arith))

append_moved : (a b : List ℕ) (x : ℕ) → (a ++ b) ++ x ∷ [] ≡ a ++ (b ++ x ∷ [])
append_moved [] b x = refl
append_moved (y ∷ a) b x = ap (λ l. y ∷ l) (append_moved a b x)

-- one number more
pub numbers_more : (start now : List ℕ) (xs : List ℕ) (i : ℕ) → i < length xs → HaveSameNumbers now (start ++ take i xs) → HaveSameNumbers (insert_key nat_eq now (get_or xs i 0)) (start ++ take (i + 1) xs)
numbers_more start now xs i h s =
    let x = get_or xs i 0 in
    let e : (start ++ take i xs) ++ x ∷ [] ≡ start ++ take (i + 1) xs = append_moved start (take i xs) x ∙ ap (λ l. start ++ l) (sym (rw add-one (more_taken xs i 0 h))) in
    subst (λ l. HaveSameNumbers (insert_key nat_eq now x) l) e
    (numbers_then (insert_key nat_eq now x) (now ++ x ∷ []) ((start ++ take i xs) ++ x ∷ []) (number_put now x) (numbers_both now (start ++ take i xs) (x ∷ []) (x ∷ []) s (numbers_self (x ∷ []))))

-- STREAMS

stream_step : (schema : Declared) (test : ℕ → Bool) (n : Name) (ns : List Name) (name : List ℕ) (b : Bool) → bytes_eq n.text name ≡ b → (bytes_eq n.text name || lists_name (map (λ n. n.text) ns) name) ≡ true → list_any test (types_of_stream schema.streams name) ≡ true → (lists_name (map (λ n. n.text) ns) name ≡ true → list_any test (query_types schema ns) ≡ true) → (list_any test (types_of_stream schema.streams n.text) || list_any test (query_types schema ns)) ≡ true
stream_step schema test n ns name true f e h later = or_front (list_any test (types_of_stream schema.streams n.text)) (list_any test (query_types schema ns)) (ap (λ m. list_any test (types_of_stream schema.streams m)) ((bytes_eq-Decides n.text name).0 f) ∙ h)
stream_step schema test n ns name false f e h later = or_back (list_any test (types_of_stream schema.streams n.text)) (list_any test (query_types schema ns)) (later (or_cases (bytes_eq n.text name) (lists_name (map (λ n. n.text) ns) name) e f))

stream_there : (schema : Declared) (test : ℕ → Bool) (names : List Name) (name : List ℕ) → lists_name (map (λ n. n.text) names) name ≡ true → list_any test (types_of_stream schema.streams name) ≡ true → list_any test (query_types schema names) ≡ true
stream_there schema test [] name e h = absurd cc
stream_there schema test (n ∷ ns) name e h =
    any_append test (types_of_stream schema.streams n.text) (query_types schema ns)
    ∙ stream_step schema test n ns name (bytes_eq n.text name) refl e h (λ f. stream_there schema test ns name f h)

-- a stream that was named before adds nothing
pub stream_known : (schema : Declared) (names : List Name) (name : List ℕ) → lists_name (map (λ n. n.text) names) name ≡ true → HaveSameNumbers (query_types schema names) (query_types schema names ++ types_of_stream schema.streams name)
stream_known schema names name e = record {
  at = λ test.
      or_last (list_any test (query_types schema names)) (list_any test (types_of_stream schema.streams name)) (stream_there schema test names name e)
      ∙ sym (any_append test (query_types schema names) (types_of_stream schema.streams name));
}

pub on_ok : {T E : Type 0} (r : Result T E) (P : Type 0) → P → OnOk r P
on_ok (Ok value) P p = p
on_ok (Err e) P p = tt

pub adds_first : (schema : Declared) (seen : List (List ℕ)) (old new types : List ℕ) (name : List ℕ) → lists_name seen name ≡ false → HaveSameNumbers new (old ++ types) → types ≡ types_of_stream schema.streams name → AddsStream schema seen old new name
adds_first schema seen old new types name e s is = record { first = λ f. subst (λ l. HaveSameNumbers new (old ++ l)) is s; again = λ f. absurd cc }

pub adds_nothing : (schema : Declared) (seen : List (List ℕ)) (old new : List ℕ) (name : List ℕ) → lists_name seen name ≡ true → new ≡ old → AddsStream schema seen old new name
adds_nothing schema seen old new name e is = record { first = λ f. absurd cc; again = λ f. is }

stream_added : (schema : Declared) (names : List Name) (seen : List (List ℕ)) (old new name : List ℕ) (b : Bool) → lists_name seen name ≡ b → HaveSameNames seen (map (λ n. n.text) names) → HaveSameNumbers old (query_types schema names) → AddsStream schema seen old new name → HaveSameNumbers new (query_types schema names ++ types_of_stream schema.streams name)
stream_added schema names seen old new name false e s t a =
    numbers_then new (old ++ types_of_stream schema.streams name) (query_types schema names ++ types_of_stream schema.streams name) (a.first e)
    (numbers_both old (query_types schema names) (types_of_stream schema.streams name) (types_of_stream schema.streams name) t (numbers_self (types_of_stream schema.streams name)))
stream_added schema names seen old new name true e s t a =
    subst (λ l. HaveSameNumbers l (query_types schema names ++ types_of_stream schema.streams name)) (sym (a.again e))
    (numbers_then old (query_types schema names) (query_types schema names ++ types_of_stream schema.streams name) t (stream_known schema names name (sym (s.at name) ∙ e)))

-- one stream more
pub streams_more : (schema : Declared) (names : List Name) (i : ℕ) (n : Name) (seen : List (List ℕ)) (old new : List ℕ) → i < length names → n ≡ get_or names i n → HaveSameNames seen (map (λ n. n.text) (take i names)) → HaveSameNumbers old (query_types schema (take i names)) → AddsStream schema seen old new n.text → HaveSameNumbers new (query_types schema (take (i + 1) names))
streams_more schema names i n seen old new h at s t a =
    subst (λ l. HaveSameNumbers new l)
    (ap (λ (m : Name). query_types schema (take i names) ++ types_of_stream schema.streams m.text) at ∙ sym (types_more schema names i n h))
    (stream_added schema (take i names) seen old new n.text (lists_name seen n.text) refl s t a)

take_all : {X : Type 0} (xs : List X) (i : ℕ) → length xs ≤ i → take i xs ≡ xs
take_all [] zero h = refl
take_all [] (suc i) h = refl
take_all (x ∷ xs) zero h = absurd (omega (arith, h))
take_all (x ∷ xs) (suc i) h = ap (λ l. x ∷ l) (take_all xs i (omega (arith, h)))

pub numbers_as : (a b c : List ℕ) → HaveSameNumbers a b → b ≡ c → HaveSameNumbers a c
numbers_as a b c s e = subst (λ l. HaveSameNumbers a l) e s

pub numbers_all : (now start xs : List ℕ) (i : ℕ) → length xs ≤ i → HaveSameNumbers now (start ++ take i xs) → HaveSameNumbers now (start ++ xs)
numbers_all now start xs i h s = numbers_as now (start ++ take i xs) (start ++ xs) s (ap (λ l. start ++ l) (take_all xs i h))

pub streams_all : (schema : Declared) (now : List ℕ) (names : List Name) (i : ℕ) → length names ≤ i → HaveSameNumbers now (query_types schema (take i names)) → HaveSameNumbers now (query_types schema names)
streams_all schema now names i h s = numbers_as now (query_types schema (take i names)) (query_types schema names) s (ap (query_types schema) (take_all names i h))

-- NAMES

-- where a test passes first
record IsPlace {X : Type 0} (test : X → Bool) (xs : List X) (i k : ℕ) : Type 0 where
  place : ℕ
  sum : k ≡ i + place
  item : X
  here : slice_get xs place ≡ Some item
  passes : test item ≡ true

place_step : {X : Type 0} (test : X → Bool) (x : X) (xs : List X) (i k : ℕ) (b : Bool) → test x ≡ b → cond b (Some i) (position_from test (i + 1) xs) ≡ Some k → (position_from test (i + 1) xs ≡ Some k → IsPlace test xs (i + 1) k) → IsPlace test (x ∷ xs) i k
place_step test x xs i k true f g later = let same : i ≡ k = cc in record { place = 0; sum = omega (arith, same); item = x; here = refl; passes = f }
place_step test x xs i k false f g later = let r = later g in let m = r.sum in record { place = suc r.place; sum = omega (arith, m); item = r.item; here = r.here; passes = r.passes }

position_at : {X : Type 0} (test : X → Bool) (xs : List X) (i k : ℕ) → position_from test i xs ≡ Some k → IsPlace test xs i k
position_at test [] i k e = absurd cc
position_at test (x ∷ xs) i k e = place_step test x xs i k (test x) refl e (λ g. position_at test xs (i + 1) k g)

-- the type of the number has the name
named_at : (types : List DeclaredType) (name : List ℕ) (ty : ℕ) → type_number types name ≡ Some ty → (t : DeclaredType) × (slice_get types ty ≡ Some t) × (bytes_eq t.name name ≡ true)
named_at types name ty e =
    let r = position_at (λ t. bytes_eq t.name name) types 0 ty e in
    let m = r.sum in
    let same : r.place ≡ ty = omega (arith, m) in
    (r.item, subst (λ j. slice_get types j ≡ Some r.item) same r.here, r.passes)

any_same : {X : Type 0} (f g : X → Bool) → ((x : X) → f x ≡ g x) → (xs : List X) → list_any f xs ≡ list_any g xs
any_same f g h [] = refl
any_same f g h (x ∷ xs) = ap₂ (λ a b. a || b) (h x) (any_same f g h xs)

-- a name is that of the types exactly where its number is theirs
pub number_found : (schema : Declared) (name : List ℕ) (ty : ℕ) (numbers : List ℕ) → Some ty ≡ type_number schema.types name → ((n : ℕ) → name_of_type schema.types n ≡ Some name → Some ty ≡ Some n) → list_any (nat_eq ty) numbers ≡ is_type_name (types_at schema numbers) name
number_found schema name ty numbers e only =
    any_same (nat_eq ty) (λ n. option_map_or (λ t. bytes_eq t.name name) (slice_get schema.types n) false) each numbers
    ∙ sym (any_found (slice_get schema.types) (λ t. bytes_eq t.name name) numbers)
  where
    at : (t : DeclaredType) × (slice_get schema.types ty ≡ Some t) × (bytes_eq t.name name ≡ true)
    at = named_at schema.types name ty (sym e)

    some_same : (n m : ℕ) → Some n ≡ Some m → n ≡ m
    some_same n m p = cc

    passes : (n : ℕ) (o : Option DeclaredType) (b : Bool) → slice_get schema.types n ≡ o → nat_eq ty n ≡ b → b ≡ option_map_or (λ t. bytes_eq t.name name) o false
    passes n o true p q =
        let same : ty ≡ n = eqb-true ty n q in
        let here : o ≡ Some at.0 = sym p ∙ ap (slice_get schema.types) (sym same) ∙ at.1 in
        sym (ap (λ (o : Option DeclaredType). option_map_or (λ t. bytes_eq t.name name) o false) here ∙ at.2)
    passes n None false p q = refl
    passes n (Some t) false p q = cases (bytes_eq t.name name) refl
      where
        cases : (c : Bool) → bytes_eq t.name name ≡ c → false ≡ c
        cases false g = refl
        cases true g =
            let named : name_of_type schema.types n ≡ Some name = ap (λ (o : Option DeclaredType). option_map (λ t. t.name) o) p ∙ ap (λ m. Some m) ((bytes_eq-Decides t.name name).0 g) in
            sym q ∙ eq-eqb ty n (some_same ty n (only n named))

    each : (n : ℕ) → nat_eq ty n ≡ option_map_or (λ t. bytes_eq t.name name) (slice_get schema.types n) false
    each n = passes n (slice_get schema.types n) (nat_eq ty n) refl refl

none_at : (test : DeclaredType → Bool) (types : List DeclaredType) (n : ℕ) → list_any test types ≡ false → option_map_or test (slice_get types n) false ≡ false
none_at test [] n e = refl
none_at test (t ∷ ts) zero e = first_false (test t) (list_any test ts) e
  where
    first_false : (a b : Bool) → (a || b) ≡ false → a ≡ false
    first_false true b e = absurd cc
    first_false false b e = refl
none_at test (t ∷ ts) (suc n) e = none_at test ts n (later_false (test t) (list_any test ts) e)
  where
    later_false : (a b : Bool) → (a || b) ≡ false → b ≡ false
    later_false true b e = absurd cc
    later_false false b e = e

never : {X : Type 0} (xs : List X) → list_any (λ x. false) xs ≡ false
never [] = refl
never (x ∷ xs) = never xs

-- a name that no type has is none of the types'
pub number_missing : (schema : Declared) (name : List ℕ) (numbers : List ℕ) → None ≡ type_number schema.types name → false ≡ is_type_name (types_at schema numbers) name
number_missing schema name numbers e =
    let none : list_any (λ t. bytes_eq t.name name) schema.types ≡ false = sym (type_found schema.types name) ∙ ap (λ (o : Option ℕ). is_some o) (sym e) in
    sym (any_found (slice_get schema.types) (λ t. bytes_eq t.name name) numbers
    ∙ any_same (λ n. option_map_or (λ t. bytes_eq t.name name) (slice_get schema.types n) false) (λ n. false) (λ n. none_at (λ t. bytes_eq t.name name) schema.types n none) numbers
    ∙ never numbers)

-- TYPES

pub types_same : (schema : Declared) (a b : List ℕ) → HaveSameNumbers a b → HaveSameTypes (types_at schema a) (types_at schema b)
types_same schema a b s = record {
  at = λ test.
      any_found (slice_get schema.types) test a ∙ s.at (λ n. option_map_or test (slice_get schema.types n) false) ∙ sym (any_found (slice_get schema.types) test b);
}

not_any : (test : DeclaredType → Bool) (ts : List DeclaredType) → list_all test ts ≡ not (list_any (λ t. not (test t)) ts)
not_any test [] = refl
not_any test (t ∷ ts) = ap (λ b. test t && b) (not_any test ts) ∙ turned (test t) (list_any (λ t. not (test t)) ts)
  where
    turned : (a b : Bool) → (a && not b) ≡ not (not a || b)
    turned true b = refl
    turned false b = refl

pub each_same : (a b : List DeclaredType) → HaveSameTypes a b → (test : DeclaredType → Bool) → list_all test a ≡ list_all test b
each_same a b s test = not_any test a ∙ ap not (s.at (λ t. not (test t))) ∙ sym (not_any test b)
