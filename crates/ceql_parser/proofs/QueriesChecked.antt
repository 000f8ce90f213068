-- Lawful queries without a fault are checked, for the last schema too.
use Rattle.std.proofs.Common.{◌≡◌, ◌≢◌, refl, sym, subst, ℕ, ◌+◌, ◌<◌, ◌≤◌, inl, inr, Bool, true, false, cond, List, [], ◌∷◌, ◌++◌, map, Option, Some, None, length, arith, length-append}
use Rattle.std.specs.Prelude.{All, ⊤, IfSome, ℤ, pos, negsuc, nat_le, fold, bytes_eq, option_and_then, is_some, if◌then◌else◌}
use Rattle.std.specs.List.{list_any, position_from}
use Rattle.std.specs.Option.{option_map_or}
use Rattle.std.proofs.lemmas.List.Folds.{Any-from_list_any}
use Rattle.std.proofs.lemmas.Bool.Decides.{leb_tells}
use Rattle.std.proofs.lemmas.Slice.Eq.{bytes_eq-Decides}
use Rattle.cer_base.specs.declared.Location.{Location}
use Rattle.stream_schema.specs.Types.{Declared, DeclaredType, DeclaredStream}
use Rattle.stream_schema.specs.Names.{type_number}
use Rattle.stream_schema.specs.Declaring.{numbers_from, added}
use Rattle.stream_schema.specs.declared.Kind.{Kind}
use Rattle.stream_schema.specs.declared.Kind.TheVariants as kind
use Rattle.cel_terms.specs.declared.Name.{Name}
use Rattle.cel_terms.specs.declared.Query.{Query}
use Rattle.cel_terms.specs.declared.Window.{Window}
use Rattle.cel_terms.specs.declared.Window.TheVariants.{Free, Events, Clock}
use Rattle.cel_terms.specs.Checked.{types_read, names_of, leaf_count, AnyKind, SomeHasAttr, AreNamesOf, IsCheckedFormula, IsCheckedWindow, IsStreamName, HaveFewPlaces, IsChecked}
use Rattle.ceql_grammar.specs.declared.faults.QueryFault.TheVariants.{UnknownStream, UnknownAttribute, TooManyLeaves, WindowKind, BadCount}
use Rattle.ceql_grammar.specs.declared.terms.NumberAt.{NumberAt}
use Rattle.ceql_grammar.specs.declared.terms.KindDecl.{KindDecl}
use Rattle.ceql_grammar.specs.declared.terms.KindDecl.TheVariants as declared
use Rattle.ceql_grammar.specs.declared.terms.AttrDecl.{AttrDecl}
use Rattle.ceql_grammar.specs.declared.terms.Select.{Select}
use Rattle.ceql_grammar.specs.declared.terms.Statement.{Statement}
use Rattle.ceql_grammar.specs.declared.terms.Statement.TheVariants as said
use Rattle.stream_schema.specs.Comparing.{KindHasFewPlaces}
use Rattle.ceql_parser.specs.FirstFaults.{first_in, unless_named}
use Rattle.ceql_parser.specs.TypesAsked.{some_has_attr, each_has_attr, any_kind, is_whole}
use Rattle.ceql_parser.specs.StatementFaults.{scale_of, count_of, any_fault, is_stream, list_fault, window_fault, select_fault}
use Rattle.ceql_parser.specs.ScriptFaults.{kind_declared, attr_declared, numbers_of, declaring, query_said, queries_of, statements_fault, no_declarations, script_fault, declared_schema}
use Rattle.ceql_grammar.specs.Statements.{statement_tree}
use Rattle.ceql_grammar.specs.LawfulTexts.{IsLawfulWindow, IsLawfulStatement}
use Rattle.ceql_parser.proofs.AcceptedDeclarations.{head_none, rest_none, passed}
use Rattle.ceql_parser.proofs.TermsChecked.{all_cons, all_nil, all_first, all_later, all_told, any_map, some_from, each_from, names_from, formula_checked}
use Rattle.ceql_parser.proofs.SchemasGrown.{AreBelow, HaveTypesBelow, below_append, streams_more, streams_append, AreStreams, Grows, append_none, grows_self, grows_on, grown_reads, grown_streams}

at_most : (a b : ℕ) → nat_le a b ≡ true → a ≤ b
at_most a b e = elim (leb_tells a b) [ inl h ↦ h.1 | inr h ↦ absurd (let f = h.0 in cc) ]

-- what every schema of declarations is
pub record Stands (schema : Declared) : Type 0 where
  pub within : HaveTypesBelow (length schema.types) schema.streams
  pub few : HaveFewPlaces schema.types

count_from : (v : ℤ) → is_some (count_of v) ≡ true → IfSome (count_of v) (λ n. (1 ≤ n) × (n ≤ 4294967295))
count_from (negsuc n) e = absurd cc
count_from (pos n) e = step (nat_le 1 n) (nat_le n 4294967295) refl refl e
  where
    step : (a b : Bool) → nat_le 1 n ≡ a → nat_le n 4294967295 ≡ b → is_some (if a then (if b then Some n else None) else None) ≡ true → IfSome (if a then (if b then Some n else None) else None) (λ n. (1 ≤ n) × (n ≤ 4294967295))
    step true true p q e = (at_most 1 n p, at_most n 4294967295 q)
    step true false p q e = absurd cc
    step false b p q e = absurd cc

any_checked : (any : Option NumberAt) → any_fault any ≡ None → IfSome (option_and_then (λ number. count_of number.value) any) (λ n. (1 ≤ n) × (n ≤ 4294967295))
any_checked None e = tt
any_checked (Some number) e = count_from number.value (passed (is_some (count_of number.value)) BadCount number.place e)

streams_from : (schema : Declared) (names : List Name) → first_in (λ n. unless_named (is_stream schema n.text) UnknownStream n) names ≡ None → AreStreams schema.streams names
streams_from schema [] e = tt
streams_from schema (n ∷ ns) e = (passed (is_stream schema n.text) (UnknownStream n.text) n.place (head_none _ _ e), streams_from schema ns (rest_none _ _ e))

stream_named : (streams : List DeclaredStream) (names : List Name) → AreStreams streams names → All (λ n. IsStreamName streams n.text) names
stream_named streams [] h = all_nil (λ n. IsStreamName streams n.text)
stream_named streams (n ∷ ns) h =
    all_cons (λ n. IsStreamName streams n.text) n ns
    (any_map (λ s. bytes_eq s.name n.text ≡ true) (λ s. s.name ≡ n.text) streams (λ s e. (bytes_eq-Decides s.name n.text).0 e) (Any-from_list_any (λ s. bytes_eq s.name n.text) streams h.0))
    (stream_named streams ns h.1)

list_checked : (names : List (List ℕ)) (select : Option (List Name)) → IfSome select (λ listed. listed ≢ []) → list_fault names select ≡ None → IfSome select (AreNamesOf names)
list_checked names None some e = tt
list_checked names (Some listed) some e = names_from names listed some e

whole_kind : (k : Kind) → is_whole k ≡ true → k ≡ kind.Int
whole_kind kind.Int e = refl
whole_kind kind.Text e = absurd cc
whole_kind kind.Flag e = absurd cc
whole_kind (kind.Dec p) e = absurd cc

window_checked : (types : List DeclaredType) (window : Window) → IsLawfulWindow window → window_fault types window ≡ None → IsCheckedWindow types window
window_checked types Free l e = tt
window_checked types (Events n) l e = l
window_checked types (Clock name n) l e =
    (each_from types name.text is_whole (λ k. k ≡ kind.Int) whole_kind (passed (each_has_attr types name.text is_whole) (WindowKind name.text) name.place e), l.0, l.1)

-- a query that is checked for its schema, and whose streams are known there
pub record Known (schema : Declared) (q : Query) : Type 0 where
  pub checked : IsChecked schema q
  pub streams : AreStreams schema.streams q.streams

select_known : (schema : Declared) (before : ℕ) (s : Select) → Stands schema → IsLawfulStatement (statement_tree (said.Select s)) → select_fault schema before s ≡ None → Known schema (query_said s)
select_known schema before s stands l e =
    let e1 = rest_none _ _ e in
    let e2 = rest_none _ _ e1 in
    let e3 = rest_none _ _ e2 in
    let f = head_none _ _ e3 in
    let f1 = rest_none _ _ f in
    let f2 = rest_none _ _ f1 in
    let f3 = rest_none _ _ f2 in
    let f4 = rest_none _ _ f3 in
    let types = types_read schema s.query in
    let found = streams_from schema s.query.streams (head_none _ _ e2) in
    record {
      checked = record {
        count = any_checked s.any (head_none _ _ e1);
        some_stream = l.streams;
        streams = stream_named schema.streams s.query.streams found;
        formula = formula_checked types s.query.formula l.formula (head_none _ _ f);
        select = list_checked (names_of s.query.formula) s.query.select l.select (head_none _ _ f1);
        leaves = at_most (leaf_count s.query.formula) 2048 (passed _ TooManyLeaves s.query.place (head_none _ _ f2));
        partition = all_told (λ n. unless_named (some_has_attr types n.text any_kind) UnknownAttribute n) (λ n. SomeHasAttr types n.text AnyKind) (λ n. ⊤)
            (λ n l h. some_from types n.text any_kind AnyKind (λ k e. tt) (passed (some_has_attr types n.text any_kind) (UnknownAttribute n.text) n.place h)) s.query.partition (λ k d h. tt) (head_none _ _ f3);
        window = window_checked types s.query.window l.window (head_none _ _ f4);
        places = stands.few;
      };
      streams = found;
    }

grown_known : (a b : Declared) (q : Query) → Grows a b → Stands a → Stands b → Known a q → Known b q
grown_known a b q g from to known =
    let same : types_read b q ≡ types_read a q = grown_reads a b q.streams g from.within known.streams in
    let found = grown_streams a b q.streams g known.streams in
    record {
      checked = record {
        count = known.checked.count;
        some_stream = known.checked.some_stream;
        streams = stream_named b.streams q.streams found;
        formula = subst (λ (types : List DeclaredType). IsCheckedFormula types q.formula) (sym same) known.checked.formula;
        select = known.checked.select;
        leaves = known.checked.leaves;
        partition = subst (λ (types : List DeclaredType). All (λ n. SomeHasAttr types n.text AnyKind) q.partition) (sym same) known.checked.partition;
        window = subst (λ (types : List DeclaredType). IsCheckedWindow types q.window) (sym same) known.checked.window;
        places = to.few;
      };
      streams = found;
    }

scale_few : (v : ℤ) → option_map_or (λ n. n) (scale_of v) 0 ≤ 9
scale_few (negsuc n) = omega arith
scale_few (pos n) = step (nat_le n 9) refl
  where
    step : (b : Bool) → nat_le n 9 ≡ b → option_map_or (λ n. n) (if b then Some n else None) 0 ≤ 9
    step true p = at_most n 9 p
    step false p = omega arith

kind_few : (k : KindDecl) → KindHasFewPlaces (kind_declared k)
kind_few declared.Int = tt
kind_few declared.Text = tt
kind_few declared.Flag = tt
kind_few (declared.Dec number) = scale_few number.value

attrs_few : (attrs : List AttrDecl) → All (λ a. KindHasFewPlaces a.kind) (map attr_declared attrs)
attrs_few [] = all_nil (λ a. KindHasFewPlaces a.kind)
attrs_few (a ∷ rest) = all_cons (λ a. KindHasFewPlaces a.kind) (attr_declared a) (map attr_declared rest) (kind_few a.kind) (attrs_few rest)

abbrev HasFew : DeclaredType → Type 0
HasFew t = All (λ a. KindHasFewPlaces a.kind) t.attrs

few_append : (xs ys : List DeclaredType) → All HasFew xs → All HasFew ys → All HasFew (xs ++ ys)
few_append [] ys a b = b
few_append (x ∷ xs) ys a b = all_cons HasFew x (xs ++ ys) (all_first HasFew x xs a) (few_append xs ys (all_later HasFew x xs a) b)

place_below : {X : Type 0} (p : X → Bool) (i : ℕ) (xs : List X) (k : ℕ) → position_from p i xs ≡ Some k → k < i + length xs
place_below p i [] k e = absurd cc
place_below {X = X} p i (x ∷ xs) k e = step (p x) (place_below p (i + 1) xs k) e
  where
    step : (b : Bool) → (position_from p (i + 1) xs ≡ Some k → k < (i + 1) + length xs) → cond b (Some i) (position_from p (i + 1) xs) ≡ Some k → k < i + length (x ∷ xs)
    step true f e = let same : i ≡ k = cc in omega (arith, same)
    step false f e = let h = f e in omega (arith, h)

added_below : (n : ℕ) (found : List ℕ) (k : ℕ) → AreBelow n found → k < n → AreBelow n (added found k)
added_below n found k h l = step (list_any _ found)
  where
    step : (b : Bool) → AreBelow n (if b then found else found ++ k ∷ [])
    step true = h
    step false = below_append n found (k ∷ []) h (l, tt)

numbers_below : (found : List ℕ) (types : List DeclaredType) (names : List (List ℕ)) → AreBelow (length types) found → AreBelow (length types) (option_map_or (λ numbers. numbers) (numbers_from found types names) [])
numbers_below found types [] h = h
numbers_below found types (n ∷ ns) h = step (type_number types n) (λ k e. place_below (λ t. bytes_eq t.name n) 0 types k e) (λ k l. numbers_below (added found k) types ns (added_below (length types) found k h l))
  where
    step : (o : Option ℕ) → ((k : ℕ) → o ≡ Some k → k < 0 + length types) → ((k : ℕ) → k < length types → AreBelow (length types) (option_map_or (λ numbers. numbers) (numbers_from (added found k) types ns) [])) → AreBelow (length types) (option_map_or (λ numbers. numbers) (option_and_then (λ k. numbers_from (added found k) types ns) o) [])
    step None f g = tt
    step (Some k) f g = g k (let l = f k refl in omega (arith, l))

declaring_grows : (schema : Declared) (s : Statement) → Grows schema (declaring schema s)
declaring_grows schema (said.Event name attrs) = record { more_types = _; more_streams = []; types = refl; streams = sym (append_none schema.streams) }
declaring_grows schema (said.Stream name types) = record { more_types = []; more_streams = _; types = sym (append_none schema.types); streams = refl }
declaring_grows schema (said.Select s) = grows_self schema

declaring_stands : (schema : Declared) (s : Statement) → Stands schema → Stands (declaring schema s)
declaring_stands schema (said.Event name attrs) st =
    let one : DeclaredType = record { name = name.text; attrs = map attr_declared attrs } in
    record {
      within = streams_more (length schema.types) (length (schema.types ++ one ∷ [])) schema.streams (let l = length-append schema.types (one ∷ []) in omega (arith, l)) st.within;
      few = few_append schema.types (one ∷ []) st.few (all_cons HasFew one [] (attrs_few attrs) (all_nil HasFew));
    }
declaring_stands schema (said.Stream name types) st =
    record {
      within = streams_append (length schema.types) schema.streams (record { name = name.text; types = numbers_of schema types } ∷ []) st.within (numbers_below [] schema.types (map (λ n. n.text) types) tt, tt);
      few = st.few;
    }
declaring_stands schema (said.Select s) st = st

all_grow : (schema : Declared) (ss : List Statement) → Grows schema (fold declaring schema ss)
all_grow schema [] = grows_self schema
all_grow schema (s ∷ ss) = grows_on schema (declaring schema s) (fold declaring (declaring schema s) ss) (declaring_grows schema s) (all_grow (declaring schema s) ss)

all_stand : (schema : Declared) (ss : List Statement) → Stands schema → Stands (fold declaring schema ss)
all_stand schema [] st = st
all_stand schema (s ∷ ss) st = all_stand (declaring schema s) ss (declaring_stands schema s st)

all_checked : (schema : Declared) (before : ℕ) (ss : List Statement) → Stands schema → All IsLawfulStatement (map statement_tree ss) → statements_fault schema before ss ≡ None → All (IsChecked (fold declaring schema ss)) (queries_of ss)
all_checked schema before [] st l e = all_nil (IsChecked schema)
all_checked schema before (said.Event name attrs ∷ ss) st l e = all_checked (declaring schema (said.Event name attrs)) _ ss (declaring_stands schema (said.Event name attrs) st) (all_later IsLawfulStatement (statement_tree (said.Event name attrs)) (map statement_tree ss) l) (rest_none _ _ e)
all_checked schema before (said.Stream name types ∷ ss) st l e = all_checked (declaring schema (said.Stream name types)) _ ss (declaring_stands schema (said.Stream name types) st) (all_later IsLawfulStatement (statement_tree (said.Stream name types)) (map statement_tree ss) l) (rest_none _ _ e)
all_checked schema before (said.Select s ∷ ss) st l e =
    all_cons (IsChecked (fold declaring schema ss)) (query_said s) (queries_of ss)
    (grown_known schema (fold declaring schema ss) (query_said s) (all_grow schema ss) st (all_stand schema ss st) (select_known schema before s st (all_first IsLawfulStatement (statement_tree (said.Select s)) (map statement_tree ss) l) (head_none _ _ e))).checked
    (all_checked schema _ ss st (all_later IsLawfulStatement (statement_tree (said.Select s)) (map statement_tree ss) l) (rest_none _ _ e))

none_stands : Stands no_declarations
none_stands = record { within = tt; few = all_nil HasFew }

pub queries_checked : (statements : List Statement) (end : Location) → All IsLawfulStatement (map statement_tree statements) → script_fault statements end ≡ None → All (IsChecked (declared_schema statements)) (queries_of statements)
queries_checked statements end l e = all_checked no_declarations 0 statements none_stands l (head_none _ _ e)
