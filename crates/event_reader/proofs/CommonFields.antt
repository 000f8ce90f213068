-- The fields of a line that is read in one pass.
use Rattle.std.proofs.Common.{◌≡◌, ℕ, ◌+◌, ◌<◌, ◌≤◌, ◌==◌, List, [], ◌∷◌, ◌++◌, length, take, drop, get_or, map, true, false, Option, Some, None, Ok, refl, sym, ◌∙◌, ap, arith, nat_eq, eq-eqb, subst, ◌-◌, Result}
use Rattle.std.specs.Prelude.{IfSome}
use Rattle.std.specs.List.{list_any, slice_split, starts_with, onto_first, HoldsAt, AllByRecursion}
use Rattle.std.proofs.lemmas.Bool.Decides.{nat_tests}
use Rattle.std.proofs.lemmas.List.{take-append-drop, length-map, drop_all, take_all, length-drop}
use Rattle.std.proofs.lemmas.Option.{slice_get-get_or}
use Rattle.std.proofs.lemmas.List.Folds.{list_any-append}
use Rattle.std.proofs.lemmas.List.Splits.{slice_split-cons_yes, slice_split-cons_no}
use Rattle.cer_base.specs.declared.bytes.TheConstants.{COMMA}
use Rattle.stream_schema.specs.Types.{Declared, DeclaredType}
use Rattle.stream_schema.specs.Names.{type_number}
use Rattle.stream_schema.specs.declared.Attr.{Attr}
use Rattle.stream_schema.specs.declared.Kind.{Kind}
use Rattle.stream_schema.specs.declared.Value.{Value}
use Rattle.stream_schema.specs.declared.Event.{Event}
use Rattle.event_reader.specs.declared.EventFault.{EventFault}
use Rattle.event_reader.specs.Cells.{is_comma}
use Rattle.event_reader.specs.Fields.{fields, ends_open}
use Rattle.event_reader.specs.Lines.{has_line_feed}
use Rattle.event_reader.specs.Events.{is_bad, values_from, event_of_type, event_of_place, attrs_of, event_of, event_of_text}
use Rattle.event_reader.specs.CommonLines.{is_odd, BeginsNext, following, IsCell, HasField, HasFields}
use Rattle.event_reader.proofs.Cuts.{IsPlain, plain_fields, plain_closed}
use Rattle.event_reader.proofs.LineBytes.{neither, plain_bytes}

-- the first cell is all before what follows
pub first_cell : (cell after : List ℕ) → list_any is_comma cell ≡ false → BeginsNext after → slice_split is_comma (cell ++ after) ≡ cell ∷ following after
first_cell [] [] c b = refl
first_cell [] (x ∷ after) c b = slice_split-cons_yes is_comma x after (rw b refl)
first_cell (y ∷ cell) after c b =
    let parts = neither (is_comma y) (list_any is_comma cell) c in
    slice_split-cons_no is_comma y (cell ++ after) parts.0 ∙ ap (onto_first y) (first_cell cell after parts.1 b)

plain_cell : (cell after : List ℕ) → list_any is_odd cell ≡ false → list_any is_odd (cell ++ after) ≡ list_any is_odd after
plain_cell cell after e = list_any-append is_odd cell after ∙ rw e refl

-- what one more field makes of the fields that are still to come
pub record Steps (kind : Kind) (kinds : List Kind) (number : ℕ) (old new : List Value) (text after : List ℕ) : Type 0 where
  pub values : values_from number old (kind ∷ kinds) (slice_split is_comma text) ≡ values_from (number + 1) new kinds (following after)
  pub counted : length (slice_split is_comma text) ≡ length (following after) + 1
  pub plain : list_any is_odd text ≡ list_any is_odd after

pub steps : (kind : Kind) (kinds : List Kind) (number : ℕ) (old new : List Value) (value : Value) (text after : List ℕ) → HasField kind text value after → new ≡ old ++ value ∷ [] → BeginsNext after → Steps kind kinds number old new text after
steps kind kinds number old new value text after f put b =
    let cut : slice_split is_comma text ≡ f.cell ∷ following after = ap (slice_split is_comma) f.cut ∙ first_cell f.cell after f.is_cell.whole b in
    record {
      values = rw (cut, f.value_is, put) refl;
      counted = ap length cut ∙ (let n : length (f.cell ∷ following after) ≡ length (following after) + 1 = omega arith in n);
      plain = ap (list_any is_odd) f.cut ∙ plain_cell f.cell after f.is_cell.plain;
    }

-- Where so many fields were read, what is known of the whole from what is left: this text, of which another field begins.
pub record Reached (kinds : List Kind) (fields : List ℕ) (count : ℕ) (values : List Value) (rest : List ℕ) : Type 0 where
  pub begins : BeginsNext fields
  pub values_are : values_from 1 [] kinds (following fields) ≡ values_from (count + 1) values (drop count kinds) (following rest)
  pub counted : length (following fields) ≡ count + length (following rest)
  pub plain : list_any is_odd fields ≡ list_any is_odd rest

pub at_first : (kinds : List Kind) (fields : List ℕ) → BeginsNext fields → Reached kinds fields 0 [] fields
at_first kinds fields b = record { begins = b; values_are = refl; counted = omega arith; plain = refl }

pub one_more : (kinds : List Kind) (fields : List ℕ) (count : ℕ) (kind : Kind) (old new : List Value) (value : Value) (rest text after : List ℕ) → HasField kind text value after → new ≡ old ++ value ∷ [] → (BeginsNext rest → Reached kinds fields count old rest) → drop count kinds ≡ kind ∷ drop (count + 1) kinds → rest ≡ COMMA ∷ text → BeginsNext after → Reached kinds fields (count + 1) new after
one_more kinds fields count kind old new value rest text after f put before here is b =
    let r = before (rw is refl) in
    let s = steps kind (drop (count + 1) kinds) (count + 1) old new value text after f put b in
    record {
      begins = r.begins;
      values_are = r.values_are ∙ ap (λ ks. values_from (count + 1) old ks (following rest)) here ∙ ap (λ t. values_from (count + 1) old (kind ∷ drop (count + 1) kinds) (following t)) is ∙ s.values;
      counted = r.counted ∙ ap (λ t. count + length (following t)) is ∙ (let n : count + length (slice_split is_comma text) ≡ count + 1 + length (following after) = omega (arith, s.counted) in n);
      plain = r.plain ∙ ap (list_any is_odd) is ∙ s.plain;
    }

pub at_end : (kinds : List Kind) (fields : List ℕ) (count : ℕ) (values : List Value) (rest : List ℕ) → (BeginsNext rest → Reached kinds fields count (take count values) rest) → length values ≡ length kinds → length kinds ≤ count → count ≤ length kinds → length rest ≡ 0 → HasFields kinds fields values
at_end kinds fields count values [] before long all most none =
    let r = before tt in
    let whole : take count values ≡ values = take_all count values (omega arith) in
    record {
      begins = r.begins;
      plain = r.plain;
      counted = r.counted ∙ (let n : count + 0 ≡ length kinds = omega arith in n);
      values_are = r.values_are ∙ ap (λ ks. values_from (count + 1) (take count values) ks []) (drop_all count kinds all) ∙ ap (λ vs. let o : Result (List Value) EventFault = Ok vs in o) whole;
    }
at_end kinds fields count values (x ∷ rest) before long all most none = absurd (omega arith)

-- the event of the type that was found
pub kinds_of : (attrs : List Attr) → length (map (λ a. a.kind) attrs) ≡ length attrs
kinds_of attrs = simp length-map

of_attrs : (ty : ℕ) (t : DeclaredType) (kinds : List Kind) (fields : List ℕ) (values : List Value) → HasFields kinds fields values → kinds ≡ map (λ a. a.kind) t.attrs → event_of_type ty t.attrs (following fields) ≡ Ok (record { ty = ty; values = values })
of_attrs ty t kinds fields values h is =
    let long : length (following fields) ≡ length t.attrs = h.counted ∙ ap length is ∙ kinds_of t.attrs in
    let test : (length (following fields) == length t.attrs) ≡ true = eq-eqb _ _ long in
    rw (test, ← is, h.values_are) refl

pub typed : (schema : Declared) (name fields : List ℕ) (ty : ℕ) (kinds : List Kind) (values : List Value) → Some ty ≡ type_number schema.types name → ty < length schema.types → HoldsAt (λ t. kinds ≡ map (λ a. a.kind) t.attrs) schema.types ty → HasFields kinds fields values → event_of schema (name ∷ following fields) ≡ Ok (record { ty = ty; values = values })
typed schema name fields ty kinds values is within at h =
    let none : DeclaredType = record { name = []; attrs = [] } in
    ap (event_of_place schema (following fields)) (sym is)
    ∙ ap (λ o. event_of_type ty (attrs_of o) (following fields)) (slice_get-get_or schema.types ty none within)
    ∙ of_attrs ty (get_or schema.types ty none) kinds fields values h (at none)

-- a line with no odd byte
apart : (xs : List ℕ) → list_any is_odd xs ≡ false → (list_any (λ b. b == 34) xs ≡ false) × (list_any (λ b. b == 13) xs ≡ false)
apart [] e = (refl, refl)
apart (x ∷ xs) e =
    let parts = neither (is_odd x) (list_any is_odd xs) e in
    let here = neither (x == 34) (x == 13) parts.0 in
    let later = apart xs parts.1 in
    (rw (here.0) later.0, rw (here.1) later.1)

unmarked : (line : List ℕ) → 0 < length line → get_or line 0 0 < 128 → starts_with nat_eq line (239 ∷ 187 ∷ 191 ∷ []) ≡ false
unmarked [] some h = absurd (omega arith)
unmarked (c ∷ rest) some h = grind (arith, nat_tests)

pub not_empty : (n : ℕ) → 0 < n → (n == 0) ≡ false
not_empty n h = grind (arith, nat_tests)

pub whole_line : (schema : Declared) (line : List ℕ) (end : ℕ) (event : Event) → 0 < length line → get_or line 0 0 < 128 → has_line_feed line ≡ false → IsCell (take end line) → BeginsNext (drop end line) → list_any is_odd (drop end line) ≡ false → event_of schema (take end line ∷ following (drop end line)) ≡ Ok event → event_of_text schema line ≡ Ok (Some event)
whole_line schema line end event some first feed cell begins plain is =
    let cut : line ≡ take end line ++ drop end line = sym (take-append-drop end line) in
    let odd : list_any is_odd line ≡ false = ap (list_any is_odd) cut ∙ plain_cell (take end line) (drop end line) cell.plain ∙ plain in
    let each = apart line odd in
    let bytes : AllByRecursion IsPlain line = plain_bytes line each.0 each.1 feed in
    let parts : fields line ≡ take end line ∷ following (drop end line) = plain_fields line some bytes ∙ ap (slice_split is_comma) cut ∙ first_cell (take end line) (drop end line) cell.whole begins in
    let bad : is_bad line ≡ false = rw (each.1) (unmarked line some first) in
    let closed : ends_open line ≡ false = plain_closed line bytes in
    rw (not_empty (length line) some, bad, closed, parts, is) refl

-- the part from a place on, as a slice writes it
pub slice_is : (end : ℕ) (line : List ℕ) → take (length line - end) (drop end line) ≡ drop end line
slice_is end line = take_all (length line - end) (drop end line) (omega (arith, length-drop end line))

-- the same where a type was found, of whose event these are the values
pub whole_found : (schema : Declared) (line : List ℕ) (end : ℕ) (found : Option ℕ) (values : List Value) → (0 < length line) × (get_or line 0 0 < 128) → has_line_feed line ≡ false → IsCell (take end line) → IfSome found (λ ty. BeginsNext (take (length line - end) (drop end line))) → IfSome found (λ ty. list_any is_odd (take (length line - end) (drop end line)) ≡ false) → IfSome found (λ ty. event_of schema (take end line ∷ following (take (length line - end) (drop end line))) ≡ Ok (record { ty = ty; values = values })) → IfSome found (λ ty. event_of_text schema line ≡ Ok (Some (record { ty = ty; values = values })))
whole_found schema line end None values some feed cell begins plain is = tt
whole_found schema line end (Some ty) values some feed cell begins plain is =
    let e = slice_is end line in
    whole_line schema line end (record { ty = ty; values = values }) some.0 some.1 feed cell (subst BeginsNext e begins) (ap (list_any is_odd) (sym e) ∙ plain) (ap (λ t. event_of schema (take end line ∷ following t)) (sym e) ∙ is)
