-- How many fields a line has, and why it gives no event.
use Rattle.std.proofs.Common.{◌≡◌, ◌≢◌, ℕ, ◌+◌, ◌-◌, ◌<◌, ◌≤◌, ◌==◌, List, [], ◌∷◌, ◌++◌, length, take, drop, get_or, map, Bool, true, false, if◌then◌else◌, Some, None, Ok, Err, refl, sym, ◌∙◌, ap, arith, eq-eqb, add-one, subst, Result}
use Rattle.std.specs.List.{HoldsAt}
use Rattle.std.proofs.Math.Seq.{drop-cons}
use Rattle.std.proofs.lemmas.Bool.{ne_eqb}
use Rattle.std.proofs.lemmas.Bool.Decides.{nat_tests}
use Rattle.std.proofs.lemmas.List.{drop_all}
use Rattle.std.proofs.lemmas.Option.{slice_get-get_or}
use Rattle.cer_base.specs.declared.OrMemory.{OrMemory}
use Rattle.cer_base.specs.declared.OrMemory.TheVariants.{Fault, Memory}
use Rattle.stream_schema.specs.Types.{Declared, DeclaredType}
use Rattle.stream_schema.specs.Names.{type_number}
use Rattle.stream_schema.specs.declared.Kind.{Kind}
use Rattle.stream_schema.specs.declared.Value.{Value}
use Rattle.stream_schema.specs.declared.Event.{Event}
use Rattle.event_reader.specs.declared.EventFault.{EventFault}
use Rattle.event_reader.specs.declared.EventFault.TheVariants.{OpenQuote, UnknownType, FieldCount, BadValue}
use Rattle.event_reader.specs.declared.fields.FieldState.{FieldState}
use Rattle.event_reader.specs.declared.fields.FieldState.TheVariants.{Start, Plain, Quoted, AfterQuote}
use Rattle.event_reader.specs.Fields.{fields, ends_open}
use Rattle.event_reader.specs.Lines.{has_line_feed}
use Rattle.event_reader.specs.Events.{is_bad, and_then, values_from, event_of_type, event_of_place, attrs_of, event_of_record, event_of_text}
use Rattle.event_reader.specs.Values.{value_of}
use Rattle.event_reader.specs.LineAnswers.{TellsType, IsRefusal}
use Rattle.event_reader.specs.QuotedLines.{past, ends_cell, with_byte, with_end, cells_from, is_inside, ends_inside, cells_after, IsCutAt, HasValueFields}
use Rattle.event_reader.proofs.CommonFields.{kinds_of, not_empty, slice_is}
use Rattle.event_reader.proofs.LineBytes.{no_return}
use Rattle.event_reader.proofs.QuotedCells.{fields_are, open_is}

-- the number of fields does not depend on the bytes of the first
either : (ends : Bool) (a b : List ℕ) (later x y : List (List ℕ)) → length x ≡ length y → length (if ends then a ∷ later else x) ≡ length (if ends then b ∷ later else y)
either true a b later x y e = refl
either false a b later x y e = e

count_alike : (state : FieldState) (a b text : List ℕ) → length (cells_from state a text) ≡ length (cells_from state b text)
count_alike state a b [] = refl
count_alike state a b (c ∷ text) =
    either (ends_cell state c) a b (cells_from Start [] text) (cells_from (past state c) (with_byte state c a) text) (cells_from (past state c) (with_byte state c b) text)
    (count_alike (past state c) (with_byte state c a) (with_byte state c b) text)

-- behind the end of a field another one begins
no_quote : (c : ℕ) → (c == 44) ≡ true → (c == 34) ≡ false
no_quote c e = grind (arith, nat_tests)

begins_anew : (state : FieldState) (c : ℕ) → ends_cell state c ≡ true → past state c ≡ Start
begins_anew Start c e = rw (no_quote c e, e) refl
begins_anew Plain c e = rw e refl
begins_anew Quoted c e = absurd (cc e)
begins_anew AfterQuote c e = rw (no_quote c e, e) refl

step : (ends : Bool) (state : FieldState) (c count : ℕ) (text : List ℕ) → ends_cell state c ≡ ends → count + length (cells_from state [] (c ∷ text)) ≡ with_end state c count + length (cells_from (past state c) [] text)
step true state c count text e =
    let anew : length (cells_from (past state c) [] text) ≡ length (cells_from Start [] text) = ap (λ s. length (cells_from s [] text)) (begins_anew state c e) in
    rw (e, anew) (omega arith)
step false state c count text e = rw e (ap (λ n. count + n) (count_alike (past state c) (with_byte state c []) [] text))

-- Where a walk over the line stands so before these bytes, and so many fields have ended.
pub record IsCountedTo (line : List ℕ) (state : FieldState) (count : ℕ) (rest : List ℕ) : Type 0 where
  pub counted : length (cells_from Start [] line) ≡ count + length (cells_from state [] rest)
  pub ends : ends_inside Start line ≡ ends_inside state rest

pub counted_none : (line : List ℕ) → IsCountedTo line Start 0 line
counted_none line = record { counted = omega arith; ends = refl }

one_byte : (line : List ℕ) (state : FieldState) (count c : ℕ) (text : List ℕ) → IsCountedTo line state count (c ∷ text) → IsCountedTo line (past state c) (with_end state c count) text
one_byte line state count c text r = record { counted = r.counted ∙ step (ends_cell state c) state c count text refl; ends = r.ends }

pub counted_more : (line : List ℕ) (state : FieldState) (count i : ℕ) → i < length line → IsCountedTo line state count (drop i line) → IsCountedTo line (past state (get_or line i 0)) (with_end state (get_or line i 0) count) (drop (i + 1) line)
counted_more line state count i within r =
    let opened : drop i line ≡ get_or line i 0 ∷ drop (i + 1) line = rw add-one (drop-cons line i 0 within) in
    one_byte line state count (get_or line i 0) (drop (i + 1) line) (subst (IsCountedTo line state count) opened r)

few_step : (ends : Bool) (state : FieldState) (c count i : ℕ) → ends_cell state c ≡ ends → count ≤ i → with_end state c count ≤ i + 1
few_step true state c count i e few = rw e (omega arith)
few_step false state c count i e few = rw e (omega arith)

pub still_few : (state : FieldState) (c count i : ℕ) → count ≤ i → with_end state c count ≤ i + 1
still_few state c count i few = few_step (ends_cell state c) state c count i refl few

ended : (line : List ℕ) (state : FieldState) (count i : ℕ) → length line ≤ i → IsCountedTo line state count (drop i line) → IsCountedTo line state count []
ended line state count i whole r = subst (IsCountedTo line state count) (drop_all i line whole) r

pub counted_open : (line : List ℕ) (state : FieldState) (count i : ℕ) → length line ≤ i → IsCountedTo line state count (drop i line) → is_inside state ≡ true → ends_inside Start line ≡ true
counted_open line state count i whole r inside = (ended line state count i whole r).ends ∙ inside

pub counted_closed : (line : List ℕ) (state : FieldState) (count i : ℕ) → length line ≤ i → IsCountedTo line state count (drop i line) → is_inside state ≡ false → HasValueFields line count
counted_closed line state count i whole r inside =
    let e = ended line state count i whole r in
    record { closed = e.ends ∙ inside; counted = e.counted }

-- Where so many fields are of their kinds, what is known of the whole from what is left.
pub record ArePassed (kinds : List Kind) (fields : List ℕ) (count : ℕ) (rest : List ℕ) : Type 0 where
  pub values : List Value
  pub left : values_from 1 [] kinds (cells_after fields) ≡ values_from (count + 1) values (drop count kinds) (cells_after rest)

pub passed_none : (kinds : List Kind) (fields : List ℕ) → ArePassed kinds fields 0 fields
passed_none kinds fields = record { values = []; left = refl }

at_next : (kinds : List Kind) (fields : List ℕ) (count : ℕ) (kind : Kind) (rest text cell : List ℕ) (first end : ℕ) (p : ArePassed kinds fields count rest) → drop count kinds ≡ kind ∷ drop (count + 1) kinds → rest ≡ first ∷ text → IsCutAt text cell end → values_from 1 [] kinds (cells_after fields) ≡ values_from (count + 1) p.values (kind ∷ drop (count + 1) kinds) (cell ∷ cells_after (drop end text))
at_next kinds fields count kind rest text cell first end p here is cut =
    p.left
    ∙ ap (λ ks. values_from (count + 1) p.values ks (cells_after rest)) here
    ∙ ap (λ t. values_from (count + 1) p.values (kind ∷ drop (count + 1) kinds) (cells_after t)) is
    ∙ ap (λ cells. values_from (count + 1) p.values (kind ∷ drop (count + 1) kinds) cells) cut.cut.cells

pub passes : (kinds : List Kind) (fields : List ℕ) (count : ℕ) (kind : Kind) (rest text cell : List ℕ) (first end : ℕ) (value : Value) → ArePassed kinds fields count rest → drop count kinds ≡ kind ∷ drop (count + 1) kinds → rest ≡ first ∷ text → IsCutAt text cell end → Some value ≡ value_of kind cell → ArePassed kinds fields (count + 1) (take (length text - end) (drop end text))
passes kinds fields count kind rest text cell first end value p here is cut of =
    let after : ArePassed kinds fields (count + 1) (drop end text) = record {
      values = p.values ++ value ∷ [];
      left = at_next kinds fields count kind rest text cell first end p here is cut ∙ rw (sym of) refl;
    } in
    subst (ArePassed kinds fields (count + 1)) (sym (slice_is end text)) after

pub stops_here : (kinds : List Kind) (fields : List ℕ) (count : ℕ) (kind : Kind) (rest text cell : List ℕ) (first end : ℕ) → ArePassed kinds fields count rest → drop count kinds ≡ kind ∷ drop (count + 1) kinds → rest ≡ first ∷ text → IsCutAt text cell end → None ≡ value_of kind cell → values_from 1 [] kinds (cells_after fields) ≡ Err (BadValue (count + 1) kind)
stops_here kinds fields count kind rest text cell first end p here is cut of =
    at_next kinds fields count kind rest text cell first end p here is cut ∙ rw (sym of) refl

-- a line that ends inside quotes
pub open_line : (schema : Declared) (line : List ℕ) → 0 < length line → is_bad line ≡ false → has_line_feed line ≡ false → ends_inside Start line ≡ true → event_of_record schema (ends_open line) (fields line) ≡ Err OpenQuote
open_line schema line some bad feed inside = rw (open_is line some (no_return line bad) feed, inside) refl

-- another one, whose first field is this
event_is : (schema : Declared) (line name : List ℕ) (end : ℕ) → 0 < length line → is_bad line ≡ false → has_line_feed line ≡ false → ends_inside Start line ≡ false → IsCutAt line name end → event_of_record schema (ends_open line) (fields line) ≡ event_of_place schema (cells_after (drop end line)) (type_number schema.types name)
event_is schema line name end some bad feed closed cut =
    let none = no_return line bad in
    rw (open_is line some none feed, closed, fields_are line some none feed, cut.cut.cells) refl

pub no_type : (schema : Declared) (line name : List ℕ) (count end : ℕ) → 0 < length line → is_bad line ≡ false → has_line_feed line ≡ false → HasValueFields line count → IsCutAt line name end → None ≡ type_number schema.types name → event_of_record schema (ends_open line) (fields line) ≡ Err UnknownType
no_type schema line name count end some bad feed h cut is =
    event_is schema line name end some bad feed h.closed cut ∙ ap (event_of_place schema (cells_after (drop end line))) (sym is)

-- the fields behind the first
counted_after : (line name : List ℕ) (count end : ℕ) → HasValueFields line count → IsCutAt line name end → length (cells_after (drop end line)) ≡ count
counted_after line name count end h cut =
    let long : length (name ∷ cells_after (drop end line)) ≡ count + 1 = ap length (sym cut.cut.cells) ∙ h.counted in
    omega (arith, long)

-- What is known of a line whose first field names a type.
pub record NamesType (schema : Declared) (line : List ℕ) (count end ty : ℕ) (kinds : List Kind) : Type 0 where
  pub event : event_of_record schema (ends_open line) (fields line) ≡ event_of_type ty (attrs_of (Some (get_or schema.types ty (record { name = []; attrs = [] })))) (cells_after (drop end line))
  pub kinds_are : kinds ≡ map (λ a. a.kind) (get_or schema.types ty (record { name = []; attrs = [] })).attrs
  pub counted : length (cells_after (drop end line)) ≡ count

pub names_type : (schema : Declared) (line name : List ℕ) (count end ty : ℕ) (kinds : List Kind) → 0 < length line → is_bad line ≡ false → has_line_feed line ≡ false → HasValueFields line count → IsCutAt line name end → Some ty ≡ type_number schema.types name → ty < length schema.types → HoldsAt (λ t. kinds ≡ map (λ a. a.kind) t.attrs) schema.types ty → NamesType schema line count end ty kinds
names_type schema line name count end ty kinds some bad feed h cut is within at =
    let none : DeclaredType = record { name = []; attrs = [] } in
    record {
      event = event_is schema line name end some bad feed h.closed cut
          ∙ ap (event_of_place schema (cells_after (drop end line))) (sym is)
          ∙ ap (λ o. event_of_type ty (attrs_of o) (cells_after (drop end line))) (slice_get-get_or schema.types ty none within);
      kinds_are = at none;
      counted = counted_after line name count end h cut;
    }

-- the number of its kinds is that of its attributes
as_many : (kinds : List Kind) (t : DeclaredType) → kinds ≡ map (λ a. a.kind) t.attrs → length kinds ≡ length t.attrs
as_many kinds t is = ap length is ∙ kinds_of t.attrs

wrong_count : (ty : ℕ) (t : DeclaredType) (kinds : List Kind) (cells : List (List ℕ)) → kinds ≡ map (λ a. a.kind) t.attrs → length cells ≢ length kinds → event_of_type ty t.attrs cells ≡ Err (FieldCount (length kinds) (length cells))
wrong_count ty t kinds cells is differ =
    let long : length kinds ≡ length t.attrs = as_many kinds t is in
    let test : (length cells == length t.attrs) ≡ false = ne_eqb (length cells) (length t.attrs) (λ e. differ (e ∙ sym long)) in
    rw (test, long) refl

pub other_count : (schema : Declared) (line : List ℕ) (count end ty : ℕ) (kinds : List Kind) → NamesType schema line count end ty kinds → count ≢ length kinds → event_of_record schema (ends_open line) (fields line) ≡ Err (FieldCount (length kinds) count)
other_count schema line count end ty kinds n differ =
    n.event
    ∙ wrong_count ty (get_or schema.types ty (record { name = []; attrs = [] })) kinds (cells_after (drop end line)) n.kinds_are (λ e. differ (sym n.counted ∙ e))
    ∙ ap (λ k. let r : Result Event EventFault = Err (FieldCount (length kinds) k) in r) n.counted

wrong_value : (ty : ℕ) (t : DeclaredType) (kinds : List Kind) (cells : List (List ℕ)) (fault : EventFault) → kinds ≡ map (λ a. a.kind) t.attrs → length cells ≡ length kinds → values_from 1 [] kinds cells ≡ Err fault → event_of_type ty t.attrs cells ≡ Err fault
wrong_value ty t kinds cells fault is long e =
    let test : (length cells == length t.attrs) ≡ true = eq-eqb _ _ (long ∙ as_many kinds t is) in
    rw (test, ← is, e) refl

pub other_value : (schema : Declared) (line : List ℕ) (count end ty : ℕ) (kinds : List Kind) (stop : OrMemory EventFault) → NamesType schema line count end ty kinds → count ≡ length kinds → IsRefusal stop (values_from 1 [] kinds (cells_after (take (length line - end) (drop end line)))) → IsRefusal stop (event_of_record schema (ends_open line) (fields line))
other_value schema line count end ty kinds Memory n as_wanted r = tt
other_value schema line count end ty kinds (Fault fault) n as_wanted r =
    let refused : values_from 1 [] kinds (cells_after (drop end line)) ≡ Err fault = ap (λ t. values_from 1 [] kinds (cells_after t)) (sym (slice_is end line)) ∙ r in
    n.event ∙ wrong_value ty (get_or schema.types ty (record { name = []; attrs = [] })) kinds (cells_after (drop end line)) fault n.kinds_are (n.counted ∙ as_wanted) refused

-- an event that is put out is none that is not there
not_none : (found : Result Event EventFault) → and_then found (λ event. Ok (Some event)) ≢ Ok None
not_none (Ok event) same = (let wrong = same in cc)
not_none (Err fault) same = (let wrong = same in cc)

-- what a line that is refused gives
pub tells_refusal : (schema : Declared) (line : List ℕ) (values : List Value) (stop : OrMemory EventFault) → 0 < length line → is_bad line ≡ false → IsRefusal stop (event_of_record schema (ends_open line) (fields line)) → TellsType values (Err stop) (event_of_text schema line)
tells_refusal schema line values Memory some bad r = rw (not_empty (length line) some, bad) (not_none (event_of_record schema (ends_open line) (fields line)))
tells_refusal schema line values (Fault fault) some bad r = rw (not_empty (length line) some, bad, r) refl
