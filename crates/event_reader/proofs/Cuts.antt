-- The fields of a line with no quote byte are the parts between its commas.
use Rattle.std.proofs.Common.{◌≡◌, ◌≢◌, ℕ, ◌<◌, ◌==◌, List, [], ◌∷◌, ◌++◌, length, Bool, true, false, refl, sym, ◌∙◌, ap, arith, append_assoc}
use Rattle.std.proofs.lemmas.Bool.Decides.{nat_tests}
use Rattle.std.proofs.lemmas.List.{append-nil}
use Rattle.std.proofs.lemmas.List.Splits.{length-slice_split, slice_split-cons_yes, slice_split-cons_no}
use Rattle.std.specs.List.{slice_split, onto_first, AllByRecursion}
use Rattle.csv.specs.Machine.{step, next_record}
use Rattle.csv.specs.Reading.{default_config}
use Rattle.csv.specs.declared.parser.State.TheVariants.{StartRecord, StartField, InField}
use Rattle.csv.specs.declared.parser.Action.TheVariants.{EndField, Copy}
use Rattle.event_reader.specs.Cells.{is_comma}
use Rattle.event_reader.specs.Fields.{fields, fields_of, state_after, ends_open, is_quoted}

-- neither a quote nor an end of a line
abbrev pub IsPlain : ℕ → Type 0
IsPlain c = (c ≢ 34) × (c ≢ 13) × (c ≢ 10)

-- the parts, the first of them with these bytes in front
abbrev joined : List ℕ → List (List ℕ) → List (List ℕ)
joined front [] = front ∷ []
joined front (part ∷ parts) = (front ++ part) ∷ parts

joined_none : (parts : List (List ℕ)) → 0 < length parts → joined [] parts ≡ parts
joined_none [] h = absurd (omega arith)
joined_none (part ∷ parts) h = refl

joined_byte : (front : List ℕ) (c : ℕ) (parts : List (List ℕ)) → joined (front ++ c ∷ []) parts ≡ joined front (onto_first c parts)
joined_byte front c [] = refl
joined_byte front c (part ∷ parts) = ap (λ p. p ∷ parts) (append_assoc front (c ∷ []) part)

start_byte : (c : ℕ) → IsPlain c → step default_config StartRecord c ≡ step default_config InField c
start_byte c p = let a : c ≢ 34 = p.0 in let b : c ≢ 13 = p.1 in let d : c ≢ 10 = p.2 in grind (arith, nat_tests)

field_byte : (c : ℕ) → IsPlain c → step default_config StartField c ≡ step default_config InField c
field_byte c p = let a : c ≢ 34 = p.0 in let b : c ≢ 13 = p.1 in let d : c ≢ 10 = p.2 in grind (arith, nat_tests)

comma_byte : (c : ℕ) → IsPlain c → (c == 44) ≡ true → step default_config InField c ≡ (StartField, EndField)
comma_byte c p e = rw e refl

other_byte : (c : ℕ) → IsPlain c → (c == 44) ≡ false → step default_config InField c ≡ (InField, Copy)
other_byte c p e = let b : c ≢ 13 = p.1 in let d : c ≢ 10 = p.2 in grind (arith, nat_tests)

-- a field begins like one at hand
start_is_plain : (done : List (List ℕ)) (field line : List ℕ) → AllByRecursion IsPlain line → next_record default_config StartField done field line ≡ next_record default_config InField done field line
unfolding next_record
start_is_plain done field [] all = refl
start_is_plain done field (c ∷ rest) all = rw (field_byte c all.0) refl

-- a comma ends the field at hand, and another byte joins it
cut_step : (done : List (List ℕ)) (field : List ℕ) (c : ℕ) (rest : List ℕ) → IsPlain c → AllByRecursion IsPlain rest → (b : Bool) → (c == 44) ≡ b → fields_of (next_record default_config InField (done ++ field ∷ []) [] rest) ≡ (done ++ field ∷ []) ++ joined [] (slice_split is_comma rest) → fields_of (next_record default_config InField done (field ++ c ∷ []) rest) ≡ done ++ joined (field ++ c ∷ []) (slice_split is_comma rest) → fields_of (next_record default_config InField done field (c ∷ rest)) ≡ done ++ joined field (slice_split is_comma (c ∷ rest))
unfolding next_record
cut_step done field c rest p all true e ended on =
    let parts : List (List ℕ) = slice_split is_comma rest in
    let some : 0 < length parts = rw (length-slice_split is_comma rest) (omega arith) in
    let whole : joined field (slice_split is_comma (c ∷ rest)) ≡ field ∷ parts = ap (joined field) (slice_split-cons_yes is_comma c rest e) ∙ ap (λ f. f ∷ parts) (append-nil field) in
    let right : (done ++ field ∷ []) ++ joined [] parts ≡ done ++ joined field (slice_split is_comma (c ∷ rest)) = ap (λ ps. (done ++ field ∷ []) ++ ps) (joined_none parts some) ∙ append_assoc done (field ∷ []) parts ∙ ap (λ ps. done ++ ps) (sym whole) in
    rw (comma_byte c p e) (ap fields_of (start_is_plain (done ++ field ∷ []) [] rest all) ∙ ended ∙ right)
cut_step done field c rest p all false e ended on =
    let parts : List (List ℕ) = slice_split is_comma rest in
    let right : joined (field ++ c ∷ []) parts ≡ joined field (slice_split is_comma (c ∷ rest)) = joined_byte field c parts ∙ ap (joined field) (sym (slice_split-cons_no is_comma c rest e)) in
    rw (other_byte c p e) (on ∙ ap (λ ps. done ++ ps) right)

cut_on : (done : List (List ℕ)) (field line : List ℕ) → AllByRecursion IsPlain line → fields_of (next_record default_config InField done field line) ≡ done ++ joined field (slice_split is_comma line)
unfolding next_record
cut_on done field [] all = ap (λ f. done ++ f ∷ []) (sym (append-nil field))
cut_on done field (c ∷ rest) all =
    cut_step done field c rest all.0 all.1 (c == 44) refl (cut_on (done ++ field ∷ []) [] rest all.1) (cut_on done (field ++ c ∷ []) rest all.1)

begins_plain : (line : List ℕ) → 0 < length line → AllByRecursion IsPlain line → next_record default_config StartRecord [] [] line ≡ next_record default_config InField [] [] line
unfolding next_record
begins_plain [] h all = absurd (omega arith)
begins_plain (c ∷ rest) h all = rw (start_byte c all.0) refl

pub plain_fields : (line : List ℕ) → 0 < length line → AllByRecursion IsPlain line → fields line ≡ slice_split is_comma line
plain_fields line h all =
    let some : 0 < length (slice_split is_comma line) = rw (length-slice_split is_comma line) (omega arith) in
    ap fields_of (begins_plain line h all) ∙ cut_on [] [] line all ∙ joined_none (slice_split is_comma line) some

-- no quotes are open
closed_field : (line : List ℕ) → AllByRecursion IsPlain line → is_quoted (state_after InField line) ≡ false → is_quoted (state_after StartField line) ≡ false
closed_field [] all e = refl
closed_field (c ∷ rest) all e = rw (field_byte c all.0) e

closed_step : (c : ℕ) (rest : List ℕ) → IsPlain c → AllByRecursion IsPlain rest → (b : Bool) → (c == 44) ≡ b → is_quoted (state_after InField rest) ≡ false → is_quoted (state_after InField (c ∷ rest)) ≡ false
closed_step c rest p all true e closed = rw (comma_byte c p e) (closed_field rest all closed)
closed_step c rest p all false e closed = rw (other_byte c p e) closed

closed_on : (line : List ℕ) → AllByRecursion IsPlain line → is_quoted (state_after InField line) ≡ false
closed_on [] all = refl
closed_on (c ∷ rest) all = closed_step c rest all.0 all.1 (c == 44) refl (closed_on rest all.1)

pub plain_closed : (line : List ℕ) → AllByRecursion IsPlain line → ends_open line ≡ false
plain_closed [] all = refl
plain_closed (c ∷ rest) all = rw (start_byte c all.0) (closed_on (c ∷ rest) all)
