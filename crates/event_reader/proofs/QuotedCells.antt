-- The fields of a line that may have quotes are those that a walk over its bytes gives.
use Rattle.std.proofs.Common.{◌≡◌, ℕ, ◌<◌, ◌==◌, List, [], ◌∷◌, ◌++◌, length, Bool, true, false, refl, ◌∙◌, ap, arith, append_assoc}
use Rattle.std.specs.List.{list_any}
use Rattle.std.proofs.lemmas.Bool.Decides.{nat_tests}
use Rattle.csv.specs.Machine.{step, next_record}
use Rattle.csv.specs.Reading.{default_config}
use Rattle.csv.specs.declared.parser.State.{State}
use Rattle.csv.specs.declared.parser.State.TheVariants as state
use Rattle.csv.specs.declared.parser.State.TheVariants.{StartRecord, StartField}
use Rattle.event_reader.specs.declared.fields.FieldState.{FieldState}
use Rattle.event_reader.specs.declared.fields.FieldState.TheVariants.{Start, Plain, Quoted, AfterQuote}
use Rattle.event_reader.specs.Fields.{fields, fields_of, state_after, ends_open, is_quoted}
use Rattle.event_reader.specs.QuotedLines.{past, cells_from, is_inside, ends_inside}
use Rattle.event_reader.proofs.LineBytes.{neither}

-- the state of `csv`'s machine where a walk stands so
abbrev pub state_of : FieldState → State
state_of Start = state.StartField
state_of Plain = state.InField
state_of Quoted = state.InQuoted
state_of AfterQuote = state.AfterQuote

-- the tests of a byte that ends no line
record Tests (c : ℕ) (quote comma : Bool) : Type 0 where
  quote_is : (c == 34) ≡ quote
  comma_is : (c == 44) ≡ comma
  no_return : (c == 13) ≡ false
  no_feed : (c == 10) ≡ false

-- a byte that ends no line is a quote, a comma or neither
data ByteIs (c : ℕ) : Type 0 where
  a_quote : Tests c true false → ByteIs c
  a_comma : Tests c false true → ByteIs c
  another : Tests c false false → ByteIs c

told : (c : ℕ) (q d : Bool) → (c == 34) ≡ q → (c == 44) ≡ d → (c == 13) ≡ false → (c == 10) ≡ false → ByteIs c
told c true true a b r f = absurd (grind (arith, nat_tests))
told c true false a b r f = a_quote (record { quote_is = a; comma_is = b; no_return = r; no_feed = f })
told c false true a b r f = a_comma (record { quote_is = a; comma_is = b; no_return = r; no_feed = f })
told c false false a b r f = another (record { quote_is = a; comma_is = b; no_return = r; no_feed = f })

byte_is : (c : ℕ) → (c == 13) ≡ false → (c == 10) ≡ false → ByteIs c
byte_is c r f = told c (c == 34) (c == 44) refl refl r f

-- what the records from a byte on are, once they are known for the bytes behind it
abbrev Known : List ℕ → Type 0
Known line = (state : FieldState) (done : List (List ℕ)) (cell : List ℕ) → fields_of (next_record default_config (state_of state) done cell line) ≡ done ++ cells_from state cell line

-- a comma outside of quotes
comma_step : (done : List (List ℕ)) (cell rest : List ℕ) → Known rest → fields_of (next_record default_config StartField (done ++ cell ∷ []) [] rest) ≡ done ++ cell ∷ cells_from Start [] rest
comma_step done cell rest known = known Start (done ++ cell ∷ []) [] ∙ append_assoc done (cell ∷ []) (cells_from Start [] rest)

byte_step : (state : FieldState) (done : List (List ℕ)) (cell : List ℕ) (c : ℕ) (rest : List ℕ) → ByteIs c → Known rest → fields_of (next_record default_config (state_of state) done cell (c ∷ rest)) ≡ done ++ cells_from state cell (c ∷ rest)
unfolding next_record
byte_step Start done cell c rest (a_quote t) known = rw (t.quote_is, t.comma_is) (known Quoted done cell)
byte_step Start done cell c rest (a_comma t) known = rw (t.quote_is, t.comma_is) (comma_step done cell rest known)
byte_step Start done cell c rest (another t) known = rw (t.quote_is, t.comma_is, t.no_return, t.no_feed) (known Plain done (cell ++ c ∷ []))
byte_step Plain done cell c rest (a_quote t) known = rw (t.comma_is, t.no_return, t.no_feed) (known Plain done (cell ++ c ∷ []))
byte_step Plain done cell c rest (a_comma t) known = rw (t.comma_is) (comma_step done cell rest known)
byte_step Plain done cell c rest (another t) known = rw (t.comma_is, t.no_return, t.no_feed) (known Plain done (cell ++ c ∷ []))
byte_step Quoted done cell c rest (a_quote t) known = rw (t.quote_is) (known AfterQuote done cell)
byte_step Quoted done cell c rest (a_comma t) known = rw (t.quote_is) (known Quoted done (cell ++ c ∷ []))
byte_step Quoted done cell c rest (another t) known = rw (t.quote_is) (known Quoted done (cell ++ c ∷ []))
byte_step AfterQuote done cell c rest (a_quote t) known = rw (t.quote_is, t.comma_is) (known Quoted done (cell ++ c ∷ []))
byte_step AfterQuote done cell c rest (a_comma t) known = rw (t.quote_is, t.comma_is) (comma_step done cell rest known)
byte_step AfterQuote done cell c rest (another t) known = rw (t.quote_is, t.comma_is, t.no_return, t.no_feed) (known Plain done (cell ++ c ∷ []))

none_left : (state : FieldState) (done : List (List ℕ)) (cell : List ℕ) → fields_of (next_record default_config (state_of state) done cell []) ≡ done ++ cells_from state cell []
unfolding next_record
none_left Start done cell = refl
none_left Plain done cell = refl
none_left Quoted done cell = refl
none_left AfterQuote done cell = refl

-- from any state on
all_known : (line : List ℕ) → list_any (λ b. b == 13) line ≡ false → list_any (λ b. b == 10) line ≡ false → Known line
all_known [] r f state done cell = none_left state done cell
all_known (c ∷ rest) r f state done cell =
    let r' : ((c == 13) ≡ false) × (list_any (λ b. b == 13) rest ≡ false) = neither _ _ r in
    let f' : ((c == 10) ≡ false) × (list_any (λ b. b == 10) rest ≡ false) = neither _ _ f in
    byte_step state done cell c rest (byte_is c r'.0 f'.0) (all_known rest r'.1 f'.1)

-- the first byte of a line, at the start of a record as at the start of a field
first_step : (c : ℕ) → (c == 13) ≡ false → (c == 10) ≡ false → step default_config StartRecord c ≡ step default_config StartField c
first_step c r f = rw (r, f) refl

begins_field : (line : List ℕ) → 0 < length line → list_any (λ b. b == 13) line ≡ false → list_any (λ b. b == 10) line ≡ false → next_record default_config StartRecord [] [] line ≡ next_record default_config StartField [] [] line
unfolding next_record
begins_field [] some r f = absurd (omega arith)
begins_field (c ∷ rest) some r f = rw (first_step c (neither _ _ r).0 (neither _ _ f).0) refl

-- the fields of a line are those of the walk
pub fields_are : (line : List ℕ) → 0 < length line → list_any (λ b. b == 13) line ≡ false → list_any (λ b. b == 10) line ≡ false → fields line ≡ cells_from Start [] line
fields_are line some r f = ap fields_of (begins_field line some r f) ∙ all_known line r f Start [] []

-- where the machine stands after a byte
state_step : (state : FieldState) (c : ℕ) → ByteIs c → (step default_config (state_of state) c).0 ≡ state_of (past state c)
state_step Start c (a_quote t) = rw (t.quote_is) refl
state_step Start c (a_comma t) = rw (t.quote_is, t.comma_is) refl
state_step Start c (another t) = rw (t.quote_is, t.comma_is, t.no_return, t.no_feed) refl
state_step Plain c (a_quote t) = rw (t.comma_is, t.no_return, t.no_feed) refl
state_step Plain c (a_comma t) = rw (t.comma_is) refl
state_step Plain c (another t) = rw (t.comma_is, t.no_return, t.no_feed) refl
state_step Quoted c (a_quote t) = rw (t.quote_is) refl
state_step Quoted c (a_comma t) = rw (t.quote_is) refl
state_step Quoted c (another t) = rw (t.quote_is) refl
state_step AfterQuote c (a_quote t) = rw (t.quote_is) refl
state_step AfterQuote c (a_comma t) = rw (t.quote_is, t.comma_is) refl
state_step AfterQuote c (another t) = rw (t.quote_is, t.comma_is, t.no_return, t.no_feed) refl

inside_is : (state : FieldState) → is_quoted (state_of state) ≡ is_inside state
inside_is Start = refl
inside_is Plain = refl
inside_is Quoted = refl
inside_is AfterQuote = refl

inside_from : (state : FieldState) (line : List ℕ) → list_any (λ b. b == 13) line ≡ false → list_any (λ b. b == 10) line ≡ false → is_quoted (state_after (state_of state) line) ≡ ends_inside state line
inside_from state [] r f = inside_is state
inside_from state (c ∷ rest) r f =
    let r' : ((c == 13) ≡ false) × (list_any (λ b. b == 13) rest ≡ false) = neither _ _ r in
    let f' : ((c == 10) ≡ false) × (list_any (λ b. b == 10) rest ≡ false) = neither _ _ f in
    ap (λ s. is_quoted (state_after s rest)) (state_step state c (byte_is c r'.0 f'.0)) ∙ inside_from (past state c) rest r'.1 f'.1

first_state : (line : List ℕ) → 0 < length line → list_any (λ b. b == 13) line ≡ false → list_any (λ b. b == 10) line ≡ false → state_after StartRecord line ≡ state_after StartField line
first_state [] some r f = absurd (omega arith)
first_state (c ∷ rest) some r f = ap (λ s. state_after s.0 rest) (first_step c (neither _ _ r).0 (neither _ _ f).0)

-- a line ends inside quotes where the walk does
pub open_is : (line : List ℕ) → 0 < length line → list_any (λ b. b == 13) line ≡ false → list_any (λ b. b == 10) line ≡ false → ends_open line ≡ ends_inside Start line
open_is line some r f = ap is_quoted (first_state line some r f) ∙ inside_from Start line r f
