-- The values of the fields of a line that may have quotes.
use Rattle.std.proofs.Common.{◌≡◌, ℕ, ◌+◌, ◌<◌, ◌≤◌, ◌==◌, List, [], ◌∷◌, ◌++◌, length, take, drop, get_or, map, true, false, Some, Ok, refl, sym, ◌∙◌, ap, arith, eq-eqb, subst, ◌-◌, Result}
use Rattle.std.specs.List.{HoldsAt}
use Rattle.std.proofs.lemmas.List.{drop_all, take_all}
use Rattle.std.proofs.lemmas.Bool.Decides.{nat_tests}
use Rattle.std.proofs.lemmas.Option.{slice_get-get_or}
use Rattle.cer_base.specs.declared.bytes.TheConstants.{COMMA}
use Rattle.stream_schema.specs.Types.{Declared, DeclaredType}
use Rattle.stream_schema.specs.Names.{type_number}
use Rattle.stream_schema.specs.declared.Kind.{Kind}
use Rattle.stream_schema.specs.declared.Value.{Value}
use Rattle.event_reader.specs.declared.EventFault.{EventFault}
use Rattle.event_reader.specs.declared.fields.FieldState.TheVariants.{Start}
use Rattle.event_reader.specs.Fields.{fields, ends_open}
use Rattle.event_reader.specs.Lines.{has_line_feed}
use Rattle.event_reader.specs.Events.{is_bad, values_from, event_of_type, event_of_place, attrs_of, event_of, event_of_text}
use Rattle.event_reader.specs.CommonLines.{BeginsNext}
use Rattle.event_reader.specs.QuotedLines.{cells_from, cells_after, open_after, IsCutAt, HasCell, HasCells, IsNamed}
use Rattle.event_reader.proofs.CommonFields.{kinds_of, not_empty, slice_is}
use Rattle.event_reader.proofs.LineBytes.{no_return}
use Rattle.event_reader.proofs.QuotedCells.{fields_are, open_is}

-- Where so many fields were read, what is known of the whole from what is left: this text, of which another field begins.
pub record CellsReached (kinds : List Kind) (text : List ℕ) (count : ℕ) (values : List Value) (rest : List ℕ) : Type 0 where
  pub begins : BeginsNext text
  pub values_are : values_from 1 [] kinds (cells_after text) ≡ values_from (count + 1) values (drop count kinds) (cells_after rest)
  pub counted : length (cells_after text) ≡ count + length (cells_after rest)
  pub ends : open_after text ≡ open_after rest

pub cells_at_first : (kinds : List Kind) (text : List ℕ) → BeginsNext text → CellsReached kinds text 0 [] text
cells_at_first kinds text b = record { begins = b; values_are = refl; counted = omega arith; ends = refl }

-- one more field
step_values : (kind : Kind) (kinds : List Kind) (number : ℕ) (old new : List Value) (value : Value) (text after : List ℕ) (h : HasCell kind text value after) → new ≡ old ++ value ∷ [] → values_from number old (kind ∷ kinds) (cells_from Start [] text) ≡ values_from (number + 1) new kinds (cells_after after)
step_values kind kinds number old new value text after h put = rw (h.cut.cells, h.value_is, put) refl

step_count : (kind : Kind) (value : Value) (count : ℕ) (text after : List ℕ) (h : HasCell kind text value after) → count + length (cells_from Start [] text) ≡ count + 1 + length (cells_after after)
step_count kind value count text after h =
    let long : length (cells_from Start [] text) ≡ length (h.cell ∷ cells_after after) = ap length h.cut.cells in
    omega (arith, long)

pub one_more_cell : (kinds : List Kind) (fields : List ℕ) (count : ℕ) (kind : Kind) (old new : List Value) (value : Value) (rest text after : List ℕ) → HasCell kind text value after → new ≡ old ++ value ∷ [] → (BeginsNext rest → CellsReached kinds fields count old rest) → drop count kinds ≡ kind ∷ drop (count + 1) kinds → rest ≡ COMMA ∷ text → CellsReached kinds fields (count + 1) new after
one_more_cell kinds fields count kind old new value rest text after h put before here is =
    let r = before (rw is refl) in
    record {
      begins = r.begins;
      values_are = r.values_are ∙ ap (λ ks. values_from (count + 1) old ks (cells_after rest)) here ∙ ap (λ t. values_from (count + 1) old (kind ∷ drop (count + 1) kinds) (cells_after t)) is ∙ step_values kind (drop (count + 1) kinds) (count + 1) old new value text after h put;
      counted = r.counted ∙ ap (λ t. count + length (cells_after t)) is ∙ step_count kind value count text after h;
      ends = r.ends ∙ ap open_after is ∙ h.cut.ends;
    }

pub cells_at_end : (kinds : List Kind) (fields : List ℕ) (count : ℕ) (values : List Value) (rest : List ℕ) → (BeginsNext rest → CellsReached kinds fields count (take count values) rest) → length values ≡ length kinds → length kinds ≤ count → count ≤ length kinds → length rest ≡ 0 → HasCells kinds fields values
cells_at_end kinds fields count values [] before long all most none =
    let r = before tt in
    let whole : take count values ≡ values = take_all count values (omega arith) in
    record {
      begins = r.begins;
      closed = r.ends;
      counted = r.counted ∙ (let n : count + 0 ≡ length kinds = omega arith in n);
      values_are = r.values_are ∙ ap (λ ks. values_from (count + 1) (take count values) ks []) (drop_all count kinds all) ∙ ap (λ vs. let o : Result (List Value) EventFault = Ok vs in o) whole;
    }
cells_at_end kinds fields count values (x ∷ rest) before long all most none = absurd (omega arith)

-- the event of the type that was found
cells_of_attrs : (ty : ℕ) (t : DeclaredType) (kinds : List Kind) (fields : List ℕ) (values : List Value) → HasCells kinds fields values → kinds ≡ map (λ a. a.kind) t.attrs → event_of_type ty t.attrs (cells_after fields) ≡ Ok (record { ty = ty; values = values })
cells_of_attrs ty t kinds fields values h is =
    let long : length (cells_after fields) ≡ length t.attrs = h.counted ∙ ap length is ∙ kinds_of t.attrs in
    let test : (length (cells_after fields) == length t.attrs) ≡ true = eq-eqb _ _ long in
    rw (test, ← is, h.values_are) refl

typed_cells : (schema : Declared) (name fields : List ℕ) (ty : ℕ) (kinds : List Kind) (values : List Value) → Some ty ≡ type_number schema.types name → ty < length schema.types → HoldsAt (λ t. kinds ≡ map (λ a. a.kind) t.attrs) schema.types ty → HasCells kinds fields values → event_of schema (name ∷ cells_after fields) ≡ Ok (record { ty = ty; values = values })
typed_cells schema name fields ty kinds values is within at h =
    let none : DeclaredType = record { name = []; attrs = [] } in
    ap (event_of_place schema (cells_after fields)) (sym is)
    ∙ ap (λ o. event_of_type ty (attrs_of o) (cells_after fields)) (slice_get-get_or schema.types ty none within)
    ∙ cells_of_attrs ty (get_or schema.types ty none) kinds fields values h (at none)

-- the event of a line of which the name's field and the others were read
pub marked_line : (schema : Declared) (line name : List ℕ) (ty end : ℕ) (kinds : List Kind) (values : List Value) → 0 < length line → is_bad line ≡ false → has_line_feed line ≡ false → IsCutAt line name end → Some ty ≡ type_number schema.types name → ty < length schema.types → HoldsAt (λ t. kinds ≡ map (λ a. a.kind) t.attrs) schema.types ty → HasCells kinds (take (length line - end) (drop end line)) values → event_of_text schema line ≡ Ok (Some (record { ty = ty; values = values }))
marked_line schema line name ty end kinds values some bad feed c is within at h =
    let rest : HasCells kinds (drop end line) values = subst (λ t. HasCells kinds t values) (slice_is end line) h in
    let none = no_return line bad in
    let parts : fields line ≡ name ∷ cells_after (drop end line) = fields_are line some none feed ∙ c.cut.cells in
    let closed : ends_open line ≡ false = open_is line some none feed ∙ c.cut.ends ∙ rest.closed in
    rw (not_empty (length line) some, bad, closed, parts, typed_cells schema name (drop end line) ty kinds values is within at rest) refl

-- the same, where the type was told with its name's field
pub marked_named : (schema : Declared) (line : List ℕ) (ty end : ℕ) (kinds : List Kind) (values : List Value) → IsNamed schema.types line ty end → HasCells kinds (take (length line - end) (drop end line)) values → 0 < length line → is_bad line ≡ false → has_line_feed line ≡ false → HoldsAt (λ t. kinds ≡ map (λ a. a.kind) t.attrs) schema.types ty → event_of_text schema line ≡ Ok (Some (record { ty = ty; values = values }))
marked_named schema line ty end kinds values n h some bad feed at =
    marked_line schema line n.name ty end kinds values some bad feed n.cut n.is n.bound at h

-- a line that is not found empty
pub some_left : (n : ℕ) → false ≡ (n == 0) → 0 < n
some_left n e = grind (arith, nat_tests, e)
