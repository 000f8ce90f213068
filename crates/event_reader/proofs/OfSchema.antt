-- An event that is read is of its schema.
use Rattle.std.proofs.Common.{◌≡◌, ℕ, ℤ, ◌+◌, ◌<◌, ◌==◌, List, [], ◌∷◌, ◌++◌, length, map, get_or, Bool, true, false, cond, Option, Some, None, Result, Ok, Err, refl, sym, ◌∙◌, ap, subst, arith, append_assoc}
use Rattle.std.specs.Prelude.{if◌then◌else◌, option_map, slice_get, IfOk, IfSome, IsSomeAnd, bytes_eq}
use Rattle.std.specs.List.{position_from}
use Rattle.std.specs.Str.{is_utf8}
use Rattle.std.specs.Char.{to_ascii_lowercase}
use Rattle.std.specs.Str.Lines.{strip_carriage_return}
use Rattle.std.proofs.lemmas.Bool.Decides.{nat_tests}
use Rattle.std.proofs.lemmas.List.{append-nil}
use Rattle.std.proofs.lemmas.Option.{slice_get-get_or}
use Rattle.cer_base.specs.declared.OrMemory.{OrMemory}
use Rattle.stream_schema.specs.Types.{Declared, DeclaredType, IsWellDeclared, name_of_type}
use Rattle.stream_schema.proofs.WellDeclared.{one_type}
use Rattle.stream_schema.specs.Names.{type_number}
use Rattle.stream_schema.specs.Events.{IsOfKind, AreOfAttrs, IsOfSchema}
use Rattle.stream_schema.specs.declared.Attr.{Attr}
use Rattle.stream_schema.specs.declared.Kind.{Kind}
use Rattle.stream_schema.specs.declared.Kind.TheVariants as kind
use Rattle.stream_schema.specs.declared.Value.{Value}
use Rattle.stream_schema.specs.declared.Value.TheVariants as value
use Rattle.stream_schema.specs.declared.Event.{Event}
use Rattle.event_reader.specs.declared.EventFault.{EventFault}
use Rattle.event_reader.specs.declared.EventFault.TheVariants.{BadLine, OpenQuote, UnknownType, BadValue}
use Rattle.event_reader.specs.Fields.{fields, ends_open}
use Rattle.event_reader.specs.Values.{value_of, scaled, flag}
use Rattle.cer_base.specs.Answers.{Gives}
use Rattle.event_reader.specs.LineAnswers.{TellsEvent}
use Rattle.event_reader.specs.Events.{is_bad, and_then, value_or_fault, values_from, event_of_type, attrs_of, event_of_place, event_of, event_of_record, event_of_text, event_of_line}

-- a value that was read is of the kind
int_is : (x : Option ℤ) (v : Value) → option_map (λ n. value.Int n) x ≡ Some v → IsOfKind kind.Int v
int_is None v e = absurd (let wrong : None ≡ Some v = e in cc)
int_is (Some n) v e =
    let is : value.Int n ≡ v = cc in
    subst (λ w. IsOfKind kind.Int w) is tt

dec_is : (places : ℕ) (x : Option ℤ) (v : Value) → option_map (λ n. value.Dec n places) x ≡ Some v → IsOfKind (kind.Dec places) v
dec_is places None v e = absurd (let wrong : None ≡ Some v = e in cc)
dec_is places (Some n) v e =
    let is : value.Dec n places ≡ v = cc in
    subst (λ w. IsOfKind (kind.Dec places) w) is refl

flag_is : (x : Option Bool) (v : Value) → option_map (λ b. value.Flag b) x ≡ Some v → IsOfKind kind.Flag v
flag_is None v e = absurd (let wrong : None ≡ Some v = e in cc)
flag_is (Some b) v e =
    let is : value.Flag b ≡ v = cc in
    subst (λ w. IsOfKind kind.Flag w) is tt

text_is : (b : Bool) (field : List ℕ) (v : Value) → (if b then Some (value.Text field) else None) ≡ Some v → IsOfKind kind.Text v
text_is false field v e = absurd (let wrong : None ≡ Some v = e in cc)
text_is true field v e =
    let is : value.Text field ≡ v = cc in
    subst (λ w. IsOfKind kind.Text w) is tt

kind_is : (k : Kind) (field : List ℕ) (v : Value) → value_of k field ≡ Some v → IsOfKind k v
kind_is kind.Int field v e = int_is (scaled 0 field) v e
kind_is (kind.Dec places) field v e = dec_is places (scaled places field) v e
kind_is kind.Flag field v e = flag_is (flag (map to_ascii_lowercase field)) v e
kind_is kind.Text field v e = text_is (is_utf8 field) field v e

-- what the first of two steps gave
taken : (number : ℕ) (k : Kind) (o : Option Value) (next : Value → Result (List Value) EventFault) (values : List Value) → and_then (value_or_fault number k o) next ≡ Ok values → (v : Value) × ((o ≡ Some v) × (next v ≡ Ok values))
taken number k None next values e = absurd (let wrong : Err (BadValue number k) ≡ Ok values = e in cc)
taken number k (Some v) next values e = (v, (refl, e))

-- the values of as many fields as there are attributes are of these
values_are : (attrs : List Attr) (number : ℕ) (found : List Value) (cells : List (List ℕ)) (values : List Value) → length cells ≡ length attrs → values_from number found (map (λ a. a.kind) attrs) cells ≡ Ok values → (rest : List Value) × ((values ≡ found ++ rest) × AreOfAttrs attrs rest)
values_are [] number found cells values n e =
    let same : found ≡ values = cc in
    ([], (sym same ∙ sym (append-nil found), tt))
values_are (a ∷ attrs) number found [] values n e = absurd (omega arith)
values_are (a ∷ attrs) number found (field ∷ cells) values n e =
    let t = taken number a.kind (value_of a.kind field) (λ v. values_from (number + 1) (found ++ v ∷ []) (map (λ a. a.kind) attrs) cells) values e in
    let n' : length cells ≡ length attrs = omega arith in
    let later = values_are attrs (number + 1) (found ++ t.0 ∷ []) cells values n' t.1.1 in
    (t.0 ∷ later.0, (later.1.0 ∙ append_assoc found (t.0 ∷ []) later.0, (kind_is a.kind field t.0 t.1.0, later.1.1)))

of_values : (r : Result (List Value) EventFault) (ty : ℕ) (event : Event) → and_then r (λ values. let e : Event = record { ty = ty; values = values } in let o : Result Event EventFault = Ok e in o) ≡ Ok event → (event.ty ≡ ty) × (r ≡ Ok event.values)
of_values (Err f) ty event e = absurd (let wrong : Err f ≡ Ok event = e in cc)
of_values (Ok values) ty event e =
    let made : Event = record { ty = ty; values = values } in
    let is : made ≡ event = cc in
    (sym (ap (λ (x : Event). x.ty) is), ap (λ (x : Event). Ok x.values) is)

typed : (b : Bool) (r : Result Event EventFault) (f : EventFault) (event : Event) → (if b then r else Err f) ≡ Ok event → (b ≡ true) × (r ≡ Ok event)
typed false r f event e = absurd (let wrong : Err f ≡ Ok event = e in cc)
typed true r f event e = (refl, e)

same_length : (a b : ℕ) → (a == b) ≡ true → a ≡ b
same_length a b e = grind (arith, nat_tests)

type_is : (ty : ℕ) (attrs : List Attr) (cells : List (List ℕ)) (event : Event) → event_of_type ty attrs cells ≡ Ok event → (event.ty ≡ ty) × AreOfAttrs attrs event.values
type_is ty attrs cells event e =
    let t = typed (length cells == length attrs) _ _ event e in
    let v = of_values (values_from 1 [] (map (λ a. a.kind) attrs) cells) ty event t.1 in
    let rest = values_are attrs 1 [] cells event.values (same_length (length cells) (length attrs) t.0) v.1 in
    (v.0, subst (λ w. AreOfAttrs attrs w) (sym rest.1.0) rest.1.1)

-- a place that was found is one of the list
found_here : (b : Bool) (i place count : ℕ) (later : Option ℕ) → (later ≡ Some place → place < i + 1 + count) → cond b (Some i) later ≡ Some place → place < i + (count + 1)
found_here true i place count later more e = let is : i ≡ place = cc in omega arith
found_here false i place count later more e = omega (arith, more e)

found_within : {K : Type 0} (test : K → Bool) (i : ℕ) (xs : List K) (place : ℕ) → position_from test i xs ≡ Some place → place < i + length xs
found_within test i [] place e = absurd (let wrong : None ≡ Some place = e in cc)
found_within test i (x ∷ xs) place e =
    omega (arith, found_here (test x) i place (length xs) (position_from test (i + 1) xs) (found_within test (i + 1) xs place) e)

-- a type that is found is one of the schema's
pub number_within : (types : List DeclaredType) (name : List ℕ) (ty : ℕ) → type_number types name ≡ Some ty → ty < length types
number_within types name ty is = omega (arith, found_within (λ t. bytes_eq t.name name) 0 types ty is)

place_is : (types : List DeclaredType) (ty : ℕ) (at : Option DeclaredType) (cells : List (List ℕ)) (event : Event) → slice_get types ty ≡ at → ty < length types → event_of_type ty (attrs_of at) cells ≡ Ok event → IsSomeAnd (slice_get types event.ty) (λ t. AreOfAttrs t.attrs event.values)
place_is types ty None cells event is within e =
    absurd (let found : slice_get types ty ≡ Some (get_or types ty (record { name = []; attrs = [] })) = slice_get-get_or types ty _ within in let wrong : None ≡ Some (get_or types ty (record { name = []; attrs = [] })) = sym is ∙ found in cc)
place_is types ty (Some t) cells event is within e =
    let made = type_is ty t.attrs cells event e in
    subst (λ o. IsSomeAnd o (λ t. AreOfAttrs t.attrs event.values)) (sym (ap (slice_get types) made.0 ∙ is)) made.1

named : (schema : Declared) (name : List ℕ) (cells : List (List ℕ)) (at : Option ℕ) (event : Event) → type_number schema.types name ≡ at → event_of_place schema cells at ≡ Ok event → IsOfSchema schema event
named schema name cells None event is e = absurd (let wrong : Err UnknownType ≡ Ok event = e in cc)
named schema name cells (Some ty) event is e =
    place_is schema.types ty (slice_get schema.types ty) cells event refl (omega (arith, found_within (λ t. bytes_eq t.name name) 0 schema.types ty is)) e

event_is : (schema : Declared) (cells : List (List ℕ)) (event : Event) → event_of schema cells ≡ Ok event → IsOfSchema schema event
event_is schema [] event e = absurd (let wrong : Err UnknownType ≡ Ok event = e in cc)
event_is schema (name ∷ cells) event e = named schema name cells (type_number schema.types name) event refl e

record_is : (schema : Declared) (b : Bool) (cells : List (List ℕ)) (event : Event) → event_of_record schema b cells ≡ Ok event → IsOfSchema schema event
record_is schema true cells event e = absurd (let wrong : Err OpenQuote ≡ Ok event = e in cc)
record_is schema false cells event e = event_is schema cells event e

text_step : (schema : Declared) (r : Result Event EventFault) (event : Event) → ((made : Event) → r ≡ Ok made → IsOfSchema schema made) → and_then r (λ event. let o : Result (Option Event) EventFault = Ok (Some event) in o) ≡ Ok (Some event) → IsOfSchema schema event
text_step schema (Err f) event all e = absurd (let wrong : Err f ≡ Ok (Some event) = e in cc)
text_step schema (Ok made) event all e =
    let is : made ≡ event = cc in
    subst (λ x. IsOfSchema schema x) is (all made refl)

choice : (schema : Declared) (a b : Bool) (r : Result (Option Event) EventFault) (event : Event) → (if a then Ok None else if b then Err BadLine else r) ≡ Ok (Some event) → r ≡ Ok (Some event)
choice schema true b r event e = absurd (let wrong : Ok None ≡ Ok (Some event) = e in cc)
choice schema false true r event e = absurd (let wrong : Err BadLine ≡ Ok (Some event) = e in cc)
choice schema false false r event e = e

text_gives : (schema : Declared) (text : List ℕ) (event : Event) → event_of_text schema text ≡ Ok (Some event) → IsOfSchema schema event
text_gives schema text event e =
    text_step schema (event_of_record schema (ends_open text) (fields text)) event (λ made. record_is schema (ends_open text) (fields text) made)
    (choice schema (length text == 0) (is_bad text) _ event e)

-- what a call returned that gives the event of a line
pub read_is : (schema : Declared) (line : List ℕ) (result : Result (Option Event) (OrMemory EventFault)) → Gives (λ event. event) result (event_of_line schema line) → IfOk result (λ found. IfSome found (λ event. IsOfSchema schema event))
read_is schema line (Err e) gives = tt
read_is schema line (Ok None) gives = tt
read_is schema line (Ok (Some event)) gives = text_gives schema (strip_carriage_return line) event gives

-- the same of a call that reads into a row
pub row_is : (schema : Declared) (line : List ℕ) (scratch : Event) (result : Result Bool (OrMemory EventFault)) → TellsEvent scratch result (event_of_line schema line) → result ≡ Ok true → IsOfSchema schema scratch
row_is schema line scratch (Ok true) tells e = text_gives schema (strip_carriage_return line) scratch tells
row_is schema line scratch (Ok false) tells e = absurd (cc)
row_is schema line scratch (Err stop) tells e = absurd (let wrong : Err stop ≡ Ok true = e in cc)

-- a type that has the name is the one that is found
pub known_name : (schema : Declared) → IsWellDeclared schema → (name known : List ℕ) (ty : ℕ) → known ≡ name → Some known ≡ name_of_type schema.types ty → type_number schema.types name ≡ Some ty
known_name schema h name known ty same is = one_type schema h name ty (sym is ∙ ap (λ (n : List ℕ). Some n) same)
