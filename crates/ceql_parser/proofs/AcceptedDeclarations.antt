-- A declaration without a fault is one that the schema takes.
use Rattle.std.proofs.Common.{◌≡◌, refl, ap, ◌∙◌, ℕ, Bool, true, false, not, ◌||◌, List, [], ◌∷◌, ◌++◌, map, Option, Some, None}
use Rattle.std.specs.Prelude.{bytes_eq, is_none, is_some, option_and_then, if◌then◌else◌}
use Rattle.std.specs.List.{list_any}
use Rattle.std.specs.Option.{option_or}
use Rattle.std.proofs.lemmas.Slice.Eq.{bytes_eq-Decides}
use Rattle.cer_base.specs.declared.Location.{Location}
use Rattle.cel_terms.specs.declared.Name.{Name}
use Rattle.cel_terms.specs.Meaning.{lists_name}
use Rattle.stream_schema.specs.Types.{Declared, DeclaredType}
use Rattle.stream_schema.specs.Names.{is_taken, type_number}
use Rattle.stream_schema.specs.Declaring.{event_refusal, stream_refusal, repeats_name, numbers_from, added}
use Rattle.stream_schema.specs.declared.Attr.{Attr}
use Rattle.stream_schema.specs.declared.SchemaFault.{SchemaFault}
use Rattle.stream_schema.specs.declared.SchemaFault.TheVariants as taken
use Rattle.ceql_grammar.specs.declared.faults.QueryFault.{QueryFault}
use Rattle.ceql_grammar.specs.declared.faults.QueryFault.TheVariants.{NameTaken, UnknownType}
use Rattle.ceql_grammar.specs.declared.terms.AttrDecl.{AttrDecl}
use Rattle.ceql_parser.specs.FirstFaults.{first_in, unless, unless_named}
use Rattle.ceql_parser.specs.TypesAsked.{is_type_name}
use Rattle.ceql_parser.specs.StatementFaults.{repeats_fault, event_fault, stream_fault}
use Rattle.ceql_parser.specs.ScriptFaults.{attr_declared}
use Rattle.ceql_parser.proofs.TypesFound.{type_found}
use Rattle.ceql_parser.proofs.NamesListed.{lists_append}

pub head_none : {Y : Type 0} (o p : Option Y) → option_or o p ≡ None → o ≡ None
head_none None p e = refl
head_none (Some y) p e = absurd cc

pub rest_none : {Y : Type 0} (o p : Option Y) → option_or o p ≡ None → p ≡ None
rest_none None p e = e
rest_none (Some y) p e = absurd cc

pub passed : (b : Bool) (fault : QueryFault) (place : Location) → unless b fault place ≡ None → b ≡ true
passed true fault place e = refl
passed false fault place e = absurd cc

not_false : (b : Bool) → not b ≡ true → b ≡ false
not_false true e = absurd cc
not_false false e = refl

or_false : (a b : Bool) → a ≡ false → b ≡ false → (a || b) ≡ false
or_false true b e f = absurd cc
or_false false b e f = f

or_at_end : (a b : Bool) → b ≡ true → (a || b) ≡ true
or_at_end true b e = refl
or_at_end false b e = e

or_at_front : (a b : Bool) → a ≡ true → (a || b) ≡ true
or_at_front true b e = refl
or_at_front false b e = absurd cc

differs : (a b : List ℕ) (names : List (List ℕ)) → lists_name names a ≡ false → lists_name names b ≡ true → bytes_eq a b ≡ false
differs a b names e f = cases (bytes_eq a b) refl
  where
    cases : (r : Bool) → bytes_eq a b ≡ r → bytes_eq a b ≡ false
    cases false is = is
    cases true is = let same : a ≡ b = (bytes_eq-Decides a b).0 is in let g : lists_name names a ≡ true = ap (lists_name names) same ∙ f in absurd cc

repeats_none : (earlier : List (List ℕ)) (attrs : List AttrDecl) → repeats_fault earlier attrs ≡ None → (repeats_name (map attr_declared attrs) ≡ false) × ((name : List ℕ) → lists_name earlier name ≡ true → list_any (λ b. bytes_eq b.name name) (map attr_declared attrs) ≡ false)
repeats_none earlier [] e = (refl, λ name known. refl)
repeats_none earlier (a ∷ rest) e =
    let new : lists_name earlier a.name.text ≡ false = not_false _ (passed (not (lists_name earlier a.name.text)) (NameTaken a.name.text) a.name.place (head_none (unless_named (not (lists_name earlier a.name.text)) NameTaken a.name) (repeats_fault (earlier ++ a.name.text ∷ []) rest) e)) in
    let later = repeats_none (earlier ++ a.name.text ∷ []) rest (rest_none (unless_named (not (lists_name earlier a.name.text)) NameTaken a.name) (repeats_fault (earlier ++ a.name.text ∷ []) rest) e) in
    let self : lists_name (earlier ++ a.name.text ∷ []) a.name.text ≡ true = lists_append earlier (a.name.text ∷ []) a.name.text ∙ or_at_end (lists_name earlier a.name.text) _ (or_at_front (bytes_eq a.name.text a.name.text) false ((bytes_eq-Decides a.name.text a.name.text).1 refl)) in (
      or_false (list_any (λ b. bytes_eq b.name a.name.text) (map attr_declared rest)) (repeats_name (map attr_declared rest)) (later.1 a.name.text self) later.0,
      λ name known. or_false (bytes_eq a.name.text name) (list_any (λ b. bytes_eq b.name name) (map attr_declared rest)) (differs a.name.text name earlier new known)
          (later.1 name (lists_append earlier (a.name.text ∷ []) name ∙ or_at_front (lists_name earlier name) (lists_name (a.name.text ∷ []) name) known)),
    )

event_taken : (b repeats : Bool) (f : SchemaFault) → b ≡ false → repeats ≡ false → (if b then Some taken.NameTaken else if repeats then Some taken.AttrTwice else None) ≡ Some f → ⊥
event_taken true repeats f e g h = absurd cc
event_taken false true f e g h = absurd cc
event_taken false false f e g h = absurd cc

pub event_accepted : (schema : Declared) (name : Name) (attrs : List AttrDecl) (text : List ℕ) (given : List Attr) (f : SchemaFault) → event_fault schema name attrs ≡ None → text ≡ name.text → given ≡ map attr_declared attrs → event_refusal schema text given ≡ Some f → ⊥
event_accepted schema name attrs text given f none is are refused =
    let new : is_taken schema name.text ≡ false = not_false _ (passed (not (is_taken schema name.text)) (NameTaken name.text) name.place (head_none _ _ none)) in
    let once = (repeats_none [] attrs (head_none _ _ (rest_none _ _ none))).0 in
    event_taken (is_taken schema text) (repeats_name given) f (ap (is_taken schema) is ∙ new) (ap repeats_name are ∙ once) refused

number_is : (o : Option ℕ) → is_some o ≡ true → (n : ℕ) × (o ≡ Some n)
number_is None e = absurd cc
number_is (Some n) e = (n, refl)

numbers_some : (found : List ℕ) (types : List DeclaredType) (names : List Name) → first_in (λ t. unless_named (is_type_name types t.text) UnknownType t) names ≡ None → is_none (numbers_from found types (map (λ n. n.text) names)) ≡ false
numbers_some found types [] e = refl
numbers_some found types (n ∷ ns) e =
    let known : is_type_name types n.text ≡ true = passed (is_type_name types n.text) (UnknownType n.text) n.place (head_none _ _ e) in
    let k = number_is (type_number types n.text) (type_found types n.text ∙ known) in
    ap (λ o. is_none (option_and_then (λ m. numbers_from (added found m) types (map (λ n. n.text) ns)) o)) k.1
    ∙ numbers_some (added found k.0) types ns (rest_none _ _ e)

stream_taken : (b unknown : Bool) (f : SchemaFault) → b ≡ false → unknown ≡ false → (if b then Some taken.NameTaken else if unknown then Some taken.UnknownType else None) ≡ Some f → ⊥
stream_taken true unknown f e g h = absurd cc
stream_taken false true f e g h = absurd cc
stream_taken false false f e g h = absurd cc

pub stream_accepted : (schema : Declared) (name : Name) (types : List Name) (text : List ℕ) (given : List (List ℕ)) (f : SchemaFault) → stream_fault schema name types ≡ None → text ≡ name.text → given ≡ map (λ n. n.text) types → stream_refusal schema text given ≡ Some f → ⊥
stream_accepted schema name types text given f none is are refused =
    let new : is_taken schema name.text ≡ false = not_false _ (passed (not (is_taken schema name.text)) (NameTaken name.text) name.place (head_none _ _ none)) in
    let known = numbers_some [] schema.types types (head_none _ _ (rest_none _ _ none)) in
    stream_taken (is_taken schema text) (is_none (numbers_from [] schema.types given)) f (ap (is_taken schema) is ∙ new) (ap (λ ts. is_none (numbers_from [] schema.types ts)) are ∙ known) refused
