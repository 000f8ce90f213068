-- The event of a line, or why it is refused.
use Rattle.std.specs.Prelude.{ℕ, ◌+◌, ◌==◌, Bool, ◌||◌, if◌then◌else◌, List, [], ◌∷◌, ◌++◌, length, map, Option, Some, None, slice_get, Result, Ok, Err}
use Rattle.std.specs.List.{list_any, starts_with}
use Rattle.std.specs.Prelude.{nat_eq}
use Rattle.std.specs.Str.Lines.{strip_carriage_return}
use Rattle.cer_base.specs.declared.bytes.TheConstants.{CARRIAGE_RETURN}
use Rattle.stream_schema.specs.Types.{Declared, DeclaredType}
use Rattle.stream_schema.specs.Names.{type_number}
use Rattle.stream_schema.specs.declared.Attr.{Attr}
use Rattle.stream_schema.specs.declared.Kind.{Kind}
use Rattle.stream_schema.specs.declared.Value.{Value}
use Rattle.stream_schema.specs.declared.Event.{Event}
use Rattle.event_reader.specs.declared.EventFault.{EventFault}
use Rattle.event_reader.specs.declared.EventFault.TheVariants.{BadLine, OpenQuote, UnknownType, FieldCount, BadValue}
use Rattle.event_reader.specs.Fields.{fields, ends_open}
use Rattle.event_reader.specs.Values.{value_of}

-- the line holds a carriage return, or begins with a byte order mark
abbrev pub is_bad : List ℕ → Bool
is_bad line = list_any (λ b. b == CARRIAGE_RETURN) line || starts_with nat_eq line (239 ∷ 187 ∷ 191 ∷ [])

-- one after the other, up to the first refusal
abbrev pub and_then : {X Y F : Type 0} → Result X F → (X → Result Y F) → Result Y F
and_then (Ok x) next = next x
and_then (Err fault) next = Err fault

-- the value of the field of this number, from 1
abbrev pub value_or_fault : ℕ → Kind → Option Value → Result Value EventFault
value_or_fault number kind None = Err (BadValue number kind)
value_or_fault number kind (Some v) = Ok v

-- the values found before and those of these fields, the first of which has this number, or the first that is not of its kind
abbrev pub values_from : ℕ → List Value → List Kind → List (List ℕ) → Result (List Value) EventFault
values_from number found [] fields = Ok found
values_from number found (kind ∷ kinds) [] = Ok found
values_from number found (kind ∷ kinds) (field ∷ fields) =
    and_then (value_or_fault number kind (value_of kind field)) (λ v. values_from (number + 1) (found ++ v ∷ []) kinds fields)

-- the event of the type of this number, with these fields as its values
abbrev pub event_of_type : ℕ → List Attr → List (List ℕ) → Result Event EventFault
event_of_type ty attrs fields =
    if length fields == length attrs then and_then (values_from 1 [] (map (λ a. a.kind) attrs) fields) (λ values. Ok (record { ty = ty; values = values }))
    else Err (FieldCount (length attrs) (length fields))

-- the attributes of the type
abbrev pub attrs_of : Option DeclaredType → List Attr
attrs_of None = []
attrs_of (Some type) = type.attrs

-- the event of the type of this name, where there is one
abbrev pub event_of_place : Declared → List (List ℕ) → Option ℕ → Result Event EventFault
event_of_place schema fields None = Err UnknownType
event_of_place schema fields (Some ty) = event_of_type ty (attrs_of (slice_get schema.types ty)) fields

-- the event of these fields, the first of which names its type
abbrev pub event_of : Declared → List (List ℕ) → Result Event EventFault
event_of schema [] = Err UnknownType
event_of schema (name ∷ fields) = event_of_place schema fields (type_number schema.types name)

-- the event of a record, which must not end inside quotes
abbrev pub event_of_record : Declared → Bool → List (List ℕ) → Result Event EventFault
event_of_record schema open_quote fields = if open_quote then Err OpenQuote else event_of schema fields

-- the event of a line without its end, none where it is empty, or the first of the refusals
abbrev pub event_of_text : Declared → List ℕ → Result (Option Event) EventFault
event_of_text schema text =
    if length text == 0 then Ok None
    else if is_bad text then Err BadLine
    else and_then (event_of_record schema (ends_open text) (fields text)) (λ event. Ok (Some event))

-- the event of a line: one carriage return at its end is dropped
abbrev pub event_of_line : Declared → List ℕ → Result (Option Event) EventFault
event_of_line schema line = event_of_text schema (strip_carriage_return line)
