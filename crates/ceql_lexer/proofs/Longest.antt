-- What stands after a piece does not go on with it.
use Rattle.std.proofs.Common.{◌≡◌, ℕ, zero, suc, ◌+◌, ◌-◌, ◌<◌, Bool, true, false, cond, eqb, List, [], ◌∷◌, length, take, drop, Option, Some, None, Ok, Err, refl, sym, subst, arith}
use Rattle.std.specs.Char.{is_ascii_digit}
use Rattle.std.specs.Str.{is_utf8}
use Rattle.std.specs.List.{prefix_len}
use Rattle.std.proofs.lemmas.Bool.{eqb-true, eqb-false}
use Rattle.std.proofs.lemmas.List.{drop-drop, length-take-le}
use Rattle.std.proofs.lemmas.List.Sums.{prefix_len-le-length}
use Rattle.ceql_lexer.specs.declared.front.Piece.{Piece}
use Rattle.ceql_lexer.specs.declared.TokenKind.{TokenKind}
use Rattle.ceql_lexer.specs.declared.TokenKind.TheVariants as kind
use Rattle.ceql_lexer.specs.declared.LexFault.{LexFault}
use Rattle.ceql_lexer.specs.declared.LexFault.TheVariants as fault
use Rattle.ceql_lexer.specs.Letters.{begins_word, continues_word, is_white_space, is_in_line, sign_len}
use Rattle.ceql_lexer.specs.Numerals.{decimals_at, digits_at}
use Rattle.ceql_lexer.specs.Fronts.{dash_at, gap, is_quote, number_at, number_of, piece_at, sign_at, string_at, string_of, token, word_at}
use Rattle.ceql_lexer.specs.Whole.{EndsBefore, StopsAt}
use Rattle.ceql_lexer.proofs.Letters.{begins_continues, some_pass}
use Rattle.ceql_lexer.proofs.Written.{checked_is, dash_cases, number_size, piece_cases}

stops_more : (test : ℕ → Bool) (byte : ℕ) (bytes : List ℕ) (passes : Bool) → test byte ≡ passes → StopsAt test (drop (prefix_len test bytes) bytes) → StopsAt test (drop (cond passes (1 + prefix_len test bytes) 0) (byte ∷ bytes))
stops_more test byte bytes true e h = let one : 1 + prefix_len test bytes ≡ suc (prefix_len test bytes) = omega arith in rw one h
stops_more test byte bytes false e h = e

-- the longest run of bytes that pass ends before one that does not
run_stops : (test : ℕ → Bool) (bytes : List ℕ) → StopsAt test (drop (prefix_len test bytes) bytes)
run_stops test [] = tt
run_stops test (byte ∷ bytes) = stops_more test byte bytes (test byte) refl (run_stops test bytes)

behind_first : (test : ℕ → Bool) (byte : ℕ) (bytes : List ℕ) → test byte ≡ true → prefix_len test (byte ∷ bytes) - 1 ≡ prefix_len test bytes
behind_first test byte bytes h = rw h (omega arith)

word_kind_ends : (keyword : Bool) (size : ℕ) (rest : List ℕ) → StopsAt continues_word rest → EndsBefore (Some (cond keyword kind.Keyword kind.Name)) size rest
word_kind_ends true size rest h = h
word_kind_ends false size rest h = h

word_ends : (byte : ℕ) (bytes : List ℕ) → begins_word byte ≡ true → EndsBefore (word_at (byte ∷ bytes)).kind (word_at (byte ∷ bytes)).size (drop ((word_at (byte ∷ bytes)).size - 1) bytes)
unfolding word_at
word_ends byte bytes begins =
    word_kind_ends _ _ _ (subst (λ (n : ℕ). StopsAt continues_word (drop n bytes)) (sym (behind_first continues_word byte bytes (begins_continues byte begins))) (run_stops continues_word bytes))

point_case : (byte : ℕ) (bytes : List ℕ) (point : Bool) → 0 < length (cond point (digits_at bytes) []) → StopsAt is_ascii_digit (drop (1 + length (cond point (digits_at bytes) [])) (byte ∷ bytes))
point_case byte bytes true some =
    let n : length (digits_at bytes) ≡ prefix_len is_ascii_digit bytes = length-take-le (prefix_len is_ascii_digit bytes) bytes (prefix_len-le-length is_ascii_digit bytes) in
    let one : 1 + length (digits_at bytes) ≡ suc (prefix_len is_ascii_digit bytes) = omega arith in
    subst (λ (k : ℕ). StopsAt is_ascii_digit (drop k (byte ∷ bytes))) (sym one) (run_stops is_ascii_digit bytes)
point_case byte bytes false some = absurd (omega arith)

decimals_end : (bytes : List ℕ) → 0 < length (decimals_at bytes) → StopsAt is_ascii_digit (drop (1 + length (decimals_at bytes)) bytes)
decimals_end [] some = absurd (omega arith)
decimals_end (byte ∷ bytes) some = point_case byte bytes (eqb byte 46) some

number_case : (sign : ℕ) (bytes : List ℕ) (none : Bool) → eqb (length (decimals_at (drop (prefix_len is_ascii_digit bytes) bytes))) 0 ≡ none
    → EndsBefore (cond none (token kind.Number (sign + length (digits_at bytes))) (token kind.Decimal (sign + length (digits_at bytes) + 1 + length (decimals_at (drop (prefix_len is_ascii_digit bytes) bytes))))).kind
    (cond none (token kind.Number (sign + length (digits_at bytes))) (token kind.Decimal (sign + length (digits_at bytes) + 1 + length (decimals_at (drop (prefix_len is_ascii_digit bytes) bytes))))).size
    (drop ((cond none (token kind.Number (sign + length (digits_at bytes))) (token kind.Decimal (sign + length (digits_at bytes) + 1 + length (decimals_at (drop (prefix_len is_ascii_digit bytes) bytes))))).size - sign) bytes)
number_case sign bytes true e =
    let n : length (digits_at bytes) ≡ prefix_len is_ascii_digit bytes = length-take-le (prefix_len is_ascii_digit bytes) bytes (prefix_len-le-length is_ascii_digit bytes) in
    let size : sign + length (digits_at bytes) - sign ≡ prefix_len is_ascii_digit bytes = omega arith in
    rw size (run_stops is_ascii_digit bytes, eqb-true _ _ e)
number_case sign bytes false e =
    let n : length (digits_at bytes) ≡ prefix_len is_ascii_digit bytes = length-take-le (prefix_len is_ascii_digit bytes) bytes (prefix_len-le-length is_ascii_digit bytes) in
    let behind : List ℕ = drop (prefix_len is_ascii_digit bytes) bytes in
    let some : 0 < length (decimals_at behind) = omega (arith, eqb-false _ _ e) in
    let size : sign + length (digits_at bytes) + 1 + length (decimals_at behind) - sign ≡ prefix_len is_ascii_digit bytes + (1 + length (decimals_at behind)) = omega arith in
    rw size (subst (StopsAt is_ascii_digit) (drop-drop (1 + length (decimals_at behind)) (prefix_len is_ascii_digit bytes) bytes) (decimals_end behind some))

number_ends : (sign : ℕ) (bytes : List ℕ) (piece : Piece) → number_at sign bytes ≡ Ok piece → EndsBefore piece.kind piece.size (drop (piece.size - sign) bytes)
unfolding number_at
number_ends sign bytes piece e =
    let is : number_of sign (length (digits_at bytes)) (length (decimals_at (drop (prefix_len is_ascii_digit bytes) bytes))) ≡ piece = checked_is _ _ _ _ _ piece e in
    subst (λ (p : Piece). EndsBefore p.kind p.size (drop (p.size - sign) bytes)) is (number_case sign bytes (eqb (length (decimals_at (drop (prefix_len is_ascii_digit bytes) bytes))) 0) refl)

behind_digit : (byte : ℕ) (bytes : List ℕ) (size : ℕ) → 0 < size → drop (size - 0) (byte ∷ bytes) ≡ drop (size - 1) bytes
behind_digit byte bytes zero some = absurd (omega arith)
behind_digit byte bytes (suc n) some = let all : suc n - 0 ≡ suc n = omega arith in let e : suc n - 1 ≡ n = omega arith in rw (all, e) refl

plain_ends : (byte : ℕ) (bytes : List ℕ) (piece : Piece) → is_ascii_digit byte ≡ true → number_at 0 (byte ∷ bytes) ≡ Ok piece → EndsBefore piece.kind piece.size (drop (piece.size - 1) bytes)
plain_ends byte bytes piece digit e =
    let some : 0 < prefix_len is_ascii_digit (byte ∷ bytes) = some_pass is_ascii_digit byte bytes (byte ∷ bytes) refl digit in
    let size = number_size 0 (byte ∷ bytes) piece e in
    let more : 0 < piece.size = omega (arith, size, some) in
    subst (EndsBefore piece.kind piece.size) (behind_digit byte bytes piece.size more) (number_ends 0 (byte ∷ bytes) piece e)

comment_ends : (byte : ℕ) (bytes : List ℕ) → StopsAt is_in_line (drop (2 + prefix_len is_in_line bytes - 1) (byte ∷ bytes))
comment_ends byte bytes =
    let one : 2 + prefix_len is_in_line bytes - 1 ≡ suc (prefix_len is_in_line bytes) = omega arith in
    subst (λ (k : ℕ). StopsAt is_in_line (drop k (byte ∷ bytes))) (sym one) (run_stops is_in_line bytes)

dash_ends : (bytes : List ℕ) (piece : Piece) → dash_at bytes ≡ Ok piece → EndsBefore piece.kind piece.size (drop (piece.size - 1) bytes)
unfolding dash_at
dash_ends [] piece e = absurd (cc)
dash_ends (byte ∷ bytes) piece e =
    dash_cases _ _ _ (number_at 1 (byte ∷ bytes)) _ piece (λ p. EndsBefore p.kind p.size (drop (p.size - 1) (byte ∷ bytes))) e (λ more. comment_ends byte bytes) (number_ends 1 (byte ∷ bytes) piece)

one_case : (b : Bool) (p piece : Piece) (f : LexFault) (P : Piece → Type 0) → cond b (Ok p) (Err f) ≡ Ok piece → P p → P piece
one_case true p piece f P e h = let is : p ≡ piece = cc in subst P is h
one_case false p piece f P e h = absurd (cc)

other_case : (b : Bool) (p piece : Piece) (f : LexFault) (P : Piece → Type 0) → cond b (Err f) (Ok p) ≡ Ok piece → P p → P piece
other_case true p piece f P e h = absurd (cc)
other_case false p piece f P e h = let is : p ≡ piece = cc in subst P is h

string_ends : (text bytes : List ℕ) (size : Option ℕ) (piece : Piece) → string_of text size ≡ Ok piece → EndsBefore piece.kind piece.size (drop (piece.size - 1) bytes)
string_ends text bytes None piece e = absurd (cc)
string_ends text bytes (Some size) piece e = one_case (is_utf8 (take size text)) (token kind.Quoted size) piece fault.NotUtf8 (λ p. EndsBefore p.kind p.size (drop (p.size - 1) bytes)) e tt

sign_ends : (byte : ℕ) (text bytes : List ℕ) (piece : Piece) → sign_at byte text ≡ Ok piece → EndsBefore piece.kind piece.size (drop (piece.size - 1) bytes)
unfolding sign_at
sign_ends byte text bytes piece e = other_case (eqb (sign_len text) 0) (token kind.Sign (sign_len text)) piece (fault.BadByte byte) (λ p. EndsBefore p.kind p.size (drop (p.size - 1) bytes)) e tt

pub piece_ends : (byte : ℕ) (bytes : List ℕ) (piece : Piece) → piece_at byte bytes ≡ Ok piece → EndsBefore piece.kind piece.size (drop (piece.size - 1) bytes)
unfolding piece_at string_at
piece_ends byte bytes piece e =
    piece_cases (is_white_space byte) (begins_word byte) (is_ascii_digit byte) (eqb byte 45) (is_quote byte) (gap 1) (word_at (byte ∷ bytes)) (number_at 0 (byte ∷ bytes)) (dash_at bytes) (string_at byte bytes) (sign_at byte (byte ∷ bytes)) piece
    (λ p. EndsBefore p.kind p.size (drop (p.size - 1) bytes)) e
    (λ more. absurd (omega arith))
    (word_ends byte bytes)
    (plain_ends byte bytes piece)
    (λ dash is. dash_ends bytes piece is)
    (λ is. string_ends (byte ∷ bytes) bytes _ piece is)
    (λ is. sign_ends byte (byte ∷ bytes) bytes piece is)

-- the same of so many bytes, where they are one byte if the piece is
pub ends_of : (k : Option TokenKind) (size len : ℕ) (rest : List ℕ) → (1 < len → 1 < size) → EndsBefore k size rest → EndsBefore k len rest
ends_of None size len rest le h = λ more. h (le more)
ends_of (Some kind.Name) size len rest le h = h
ends_of (Some kind.Keyword) size len rest le h = h
ends_of (Some kind.Number) size len rest le h = h
ends_of (Some kind.Decimal) size len rest le h = h
ends_of (Some kind.Quoted) size len rest le h = h
ends_of (Some kind.Sign) size len rest le h = h
ends_of (Some kind.End) size len rest le h = h
