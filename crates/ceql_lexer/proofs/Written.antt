-- The bytes of each token are UTF-8.
use Rattle.std.proofs.Common.{◌≡◌, ℕ, zero, suc, ◌+◌, ◌-◌, ◌<◌, ◌≤◌, Bool, true, false, ◌&&◌, cond, eqb, ltb, List, [], ◌∷◌, length, get_or, take, drop, Option, Some, None, Result, Ok, Err, ◌⊎◌, inl, inr, ⊎_elim, refl, sym, ap, subst, ◌∙◌, arith, length-take}
use Rattle.std.specs.Prelude.{bytes_eq, if◌then◌else◌}
use Rattle.std.specs.Char.{is_ascii_digit}
use Rattle.std.specs.Str.{IsUtf8, is_utf8}
use Rattle.std.specs.List.{prefix_len, list_any, list_all}
use Rattle.std.proofs.lemmas.Bool.{eqb-true, eqb-false, cases_lt, cases_Bool, or_cases, false≢true, ltb-true}
use Rattle.std.proofs.lemmas.Bool.Decides.{nat_tests}
use Rattle.std.proofs.lemmas.List.{get_or-drop, length-take-le}
use Rattle.std.proofs.lemmas.List.Sums.{prefix_len_passes, prefix_len-le-length}
use Rattle.std.proofs.lemmas.Slice.Eq.{bytes_eq-Decides}
use Rattle.std.proofs.lemmas.Str.{IsUtf8-from_ascii, IsUtf8-from_is_utf8}
use Rattle.ceql_lexer.specs.declared.front.Piece.{Piece}
use Rattle.ceql_lexer.specs.declared.TokenKind.{TokenKind}
use Rattle.ceql_lexer.specs.declared.TokenKind.TheVariants as kind
use Rattle.ceql_lexer.specs.declared.LexFault.{LexFault}
use Rattle.ceql_lexer.specs.declared.LexFault.TheVariants as fault
use Rattle.ceql_lexer.specs.Letters.{continues_word, is_white_space, begins_word, sign_len, long_signs, short_signs}
use Rattle.ceql_lexer.specs.Numerals.{digits_at, decimals_at}
use Rattle.ceql_lexer.specs.Fronts.{IsTokenText, token, gap, piece_at, word_at, number_at, number_of, dash_at, string_at, string_of, sign_at, is_quote}

chosen : {X : Type 0} (b : Bool) (x y z : X) → cond b x y ≡ z → ((b ≡ true) × (x ≡ z)) ⊎ ((b ≡ false) × (y ≡ z))
chosen true x y z e = inl (refl, e)
chosen false x y z e = inr (refl, e)

and_parts : (a b : Bool) → (a && b) ≡ true → (a ≡ true) × (b ≡ true)
and_parts true b e = (refl, e)
and_parts false b e = absurd (false≢true e)

text_is : (k : Option TokenKind) (bytes : List ℕ) → IsUtf8 bytes → IsTokenText k bytes
text_is None bytes h = tt
text_is (Some k) bytes h = h

front_is_ascii : (n : ℕ) (bytes : List ℕ) → ((i : ℕ) → i < n → get_or bytes i 0 < 128) → (i : ℕ) → get_or (take n bytes) i 0 < 128
front_is_ascii zero bytes h i = omega arith
front_is_ascii (suc n) [] h i = omega arith
front_is_ascii (suc n) (byte ∷ bytes) h zero = h 0 (omega arith)
front_is_ascii (suc n) (byte ∷ bytes) h (suc i) = front_is_ascii n bytes (λ k lt. h (suc k) (omega arith)) i

front_is_utf8 : (n : ℕ) (bytes : List ℕ) → ((i : ℕ) → i < n → get_or bytes i 0 < 128) → IsUtf8 (take n bytes)
front_is_utf8 n bytes h = IsUtf8-from_ascii (take n bytes) (front_is_ascii n bytes h)

digit_under : (byte : ℕ) → is_ascii_digit byte ≡ true → byte < 128
digit_under byte h = grind (arith, nat_tests)

continues_under : (byte : ℕ) → continues_word byte ≡ true → byte < 128
continues_under byte h = grind (arith, nat_tests)

behind_point : (byte : ℕ) (bytes : List ℕ) → byte ≡ 46 → (i : ℕ) → i < 1 + length (digits_at bytes) → get_or (byte ∷ bytes) i 0 < 128
behind_point byte bytes e zero lt = omega arith
behind_point byte bytes e (suc i) lt = digit_under (get_or bytes i 0) (prefix_len_passes is_ascii_digit bytes i 0 (omega (arith, length-take {A = ℕ})))

dotted : (bytes : List ℕ) → 0 < length (decimals_at bytes) → (i : ℕ) → i < 1 + length (decimals_at bytes) → get_or bytes i 0 < 128
dotted [] some i lt = absurd (omega arith)
dotted (byte ∷ bytes) some i lt =
    ⊎_elim
    (λ (e : eqb byte 46 ≡ true).
    let within : i < 1 + length (digits_at bytes) = rw e at lt in
    behind_point byte bytes (eqb-true byte 46 e) i within)
    (λ (e : eqb byte 46 ≡ false). let none : 0 < 0 = rw e at some in absurd (omega arith))
    (cases_Bool (eqb byte 46))

-- how many bytes a number has without its sign
abbrev pub plain_len : List ℕ → ℕ → ℕ
plain_len bytes decimals = prefix_len is_ascii_digit bytes + (if eqb decimals 0 then 0 else 1 + decimals)

plain_bytes : (bytes : List ℕ) (i : ℕ) → i < plain_len bytes (length (decimals_at (drop (prefix_len is_ascii_digit bytes) bytes))) → get_or bytes i 0 < 128
plain_bytes bytes i lt =
    let n : ℕ = prefix_len is_ascii_digit bytes in
    let behind : List ℕ = drop n bytes in
    ⊎_elim
    (λ (less : i < n). digit_under (get_or bytes i 0) (prefix_len_passes is_ascii_digit bytes i 0 less))
    (λ (more : n ≤ i).
    ⊎_elim
    (λ (e : eqb (length (decimals_at behind)) 0 ≡ true). let none : i < n + 0 = rw e at lt in absurd (omega arith))
    (λ (e : eqb (length (decimals_at behind)) 0 ≡ false).
    let all : i < n + (1 + length (decimals_at behind)) = rw e at lt in
    let here : get_or behind (i - n) 0 < 128 = dotted behind (omega (arith, eqb-false _ _ e)) (i - n) (omega arith) in
    let same : n + (i - n) ≡ i = omega arith in
    subst (λ (k : ℕ). get_or bytes k 0 < 128) same (subst (λ (b : ℕ). b < 128) (get_or-drop n bytes (i - n) 0) here))
    (cases_Bool (eqb (length (decimals_at behind)) 0)))
    (cases_lt i n)

size_cases : (sign whole decimals : ℕ) (none : Bool) → (cond none (token kind.Number (sign + whole)) (token kind.Decimal (sign + whole + 1 + decimals))).size ≡ sign + (whole + cond none 0 (1 + decimals))
size_cases sign whole decimals true = omega arith
size_cases sign whole decimals false = omega arith

pub checked_is : (a b : Bool) (f g : LexFault) (p piece : Piece) → cond a (Err f) (cond b (Ok p) (Err g)) ≡ Ok piece → p ≡ piece
checked_is true b f g p piece e = absurd (cc)
checked_is false true f g p piece e = cc
checked_is false false f g p piece e = absurd (cc)

pub number_size : (sign : ℕ) (bytes : List ℕ) (piece : Piece) → number_at sign bytes ≡ Ok piece → piece.size ≡ sign + plain_len bytes (length (decimals_at (drop (prefix_len is_ascii_digit bytes) bytes)))
unfolding number_at
number_size sign bytes piece e =
    let n : ℕ = prefix_len is_ascii_digit bytes in
    let decimals : List ℕ = decimals_at (drop n bytes) in
    let whole : List ℕ = digits_at bytes in
    let is : number_of sign (length whole) (length decimals) ≡ piece = checked_is _ _ _ _ _ piece e in
    let size : (number_of sign (length whole) (length decimals)).size ≡ sign + (length whole + cond (eqb (length decimals) 0) 0 (1 + length decimals)) = size_cases sign (length whole) (length decimals) (eqb (length decimals) 0) in
    let all : length whole ≡ n = length-take-le n bytes (prefix_len-le-length is_ascii_digit bytes) in
    let there : (number_of sign (length whole) (length decimals)).size ≡ sign + (n + cond (eqb (length decimals) 0) 0 (1 + length decimals)) = size ∙ ap (λ (w : ℕ). sign + (w + cond (eqb (length decimals) 0) 0 (1 + length decimals))) all in
    sym (ap (λ (p : Piece). p.size) is) ∙ there

number_is_utf8 : (bytes : List ℕ) (piece : Piece) → number_at 0 bytes ≡ Ok piece → IsUtf8 (take piece.size bytes)
number_is_utf8 bytes piece e =
    let size = number_size 0 bytes piece e in
    front_is_utf8 piece.size bytes (λ i lt. plain_bytes bytes i (omega (arith, size, lt)))

behind_sign : (bytes : List ℕ) (n : ℕ) → ((i : ℕ) → i < n → get_or bytes i 0 < 128) → (i : ℕ) → i < 1 + n → get_or (45 ∷ bytes) i 0 < 128
behind_sign bytes n h zero lt = omega arith
behind_sign bytes n h (suc i) lt = h i (omega arith)

negative_is_utf8 : (bytes : List ℕ) (piece : Piece) → number_at 1 bytes ≡ Ok piece → IsUtf8 (take piece.size (45 ∷ bytes))
negative_is_utf8 bytes piece e =
    let size = number_size 1 bytes piece e in
    front_is_utf8 piece.size (45 ∷ bytes) (λ i lt. behind_sign bytes (plain_len bytes (length (decimals_at (drop (prefix_len is_ascii_digit bytes) bytes)))) (plain_bytes bytes) i (omega (arith, size, lt)))

pub dash_cases : (a b : Bool) (p : Piece) (number : Result Piece LexFault) (f : LexFault) (piece : Piece) (P : Piece → Type 0) → cond a (Ok p) (cond b number (Err f)) ≡ Ok piece → P p → (number ≡ Ok piece → P piece) → P piece
dash_cases true b p number f piece P e here there = let is : p ≡ piece = cc in subst P is here
dash_cases false true p number f piece P e here there = there e
dash_cases false false p number f piece P e here there = absurd (cc)

dash_is_text : (bytes : List ℕ) (piece : Piece) → dash_at bytes ≡ Ok piece → IsTokenText piece.kind (take piece.size (45 ∷ bytes))
unfolding dash_at
dash_is_text [] piece e = absurd (cc)
dash_is_text (byte ∷ bytes) piece e =
    dash_cases _ _ _ (number_at 1 (byte ∷ bytes)) _ piece (λ p. IsTokenText p.kind (take p.size (45 ∷ byte ∷ bytes))) e tt
    (λ is. text_is piece.kind _ (negative_is_utf8 (byte ∷ bytes) piece is))

string_case : (text : List ℕ) (size : ℕ) (piece : Piece) (f : LexFault) → ((is_utf8 (take size text) ≡ true) × (◌≡◌ {A = Result Piece LexFault} (Ok (token kind.Quoted size)) (Ok piece))) ⊎ ((is_utf8 (take size text) ≡ false) × (◌≡◌ {A = Result Piece LexFault} (Err f) (Ok piece))) → IsTokenText piece.kind (take piece.size text)
string_case text size piece f (inl h) =
    let e : ◌≡◌ {A = Result Piece LexFault} (Ok (token kind.Quoted size)) (Ok piece) = h.1 in
    let is : token kind.Quoted size ≡ piece = cc in
    subst (λ (p : Piece). IsTokenText p.kind (take p.size text)) is (IsUtf8-from_is_utf8 (take size text) h.0)
string_case text size piece f (inr h) = absurd (cc)

string_is_text : (text : List ℕ) (size : Option ℕ) (piece : Piece) → string_of text size ≡ Ok piece → IsTokenText piece.kind (take piece.size text)
string_is_text text None piece e = absurd (cc)
string_is_text text (Some size) piece e = string_case text size piece fault.NotUtf8 (chosen (is_utf8 (take size text)) _ _ _ e)

any_of : (test : List ℕ → Bool) (x : List ℕ) (signs : List (List ℕ)) → list_any (bytes_eq x) signs ≡ true → list_all test signs ≡ true → test x ≡ true
any_of test x [] some all = absurd (false≢true some)
any_of test x (sign ∷ signs) some all =
    let h : (test sign ≡ true) × (list_all test signs ≡ true) = and_parts (test sign) (list_all test signs) all in
    ⊎_elim
    (λ (e : bytes_eq x sign ≡ true). ap test ((bytes_eq-Decides x sign).0 e) ∙ h.0)
    (λ (e : list_any (bytes_eq x) signs ≡ true). any_of test x signs e h.1)
    (or_cases (bytes_eq x sign) (list_any (bytes_eq x) signs) some)

-- each byte is below 128
abbrev pub is_ascii : List ℕ → Bool
is_ascii bytes = list_all (λ b. ltb b 128) bytes

is_ascii_under : (bytes : List ℕ) → is_ascii bytes ≡ true → (i : ℕ) → get_or bytes i 0 < 128
is_ascii_under [] h i = omega arith
is_ascii_under (byte ∷ bytes) h zero = ltb-true byte 128 (and_parts (ltb byte 128) (is_ascii bytes) h).0
is_ascii_under (byte ∷ bytes) h (suc i) = is_ascii_under bytes (and_parts (ltb byte 128) (is_ascii bytes) h).1 i

sign_cases : (a b : Bool) (text : List ℕ) → (a ≡ true → is_ascii (take 2 text) ≡ true) → (b ≡ true → is_ascii (take 1 text) ≡ true) → is_ascii (take (cond a 2 (cond b 1 0)) text) ≡ true
sign_cases true b text two one = two refl
sign_cases false true text two one = one refl
sign_cases false false text two one = refl

sign_is_utf8 : (text : List ℕ) → IsUtf8 (take (sign_len text) text)
sign_is_utf8 text = IsUtf8-from_ascii (take (sign_len text) text) (is_ascii_under (take (sign_len text) text) (sign_cases _ _ text (λ e. any_of is_ascii (take 2 text) long_signs e refl) (λ e. any_of is_ascii (take 1 text) short_signs e refl)))

pub sign_case : (none : Bool) (f : LexFault) (p piece : Piece) (text : List ℕ) → cond none (Err f) (Ok p) ≡ Ok piece → IsTokenText p.kind (take p.size text) → IsTokenText piece.kind (take piece.size text)
sign_case true f p piece text e h = absurd (cc)
sign_case false f p piece text e h = let is : p ≡ piece = cc in subst (λ (x : Piece). IsTokenText x.kind (take x.size text)) is h

sign_is_text : (byte : ℕ) (text : List ℕ) (piece : Piece) → sign_at byte text ≡ Ok piece → IsTokenText piece.kind (take piece.size text)
unfolding sign_at
sign_is_text byte text piece e = sign_case (eqb (sign_len text) 0) _ (token kind.Sign (sign_len text)) piece text e (sign_is_utf8 text)

pub piece_cases : (a b c d q : Bool) (blank word : Piece) (number dash string sign : Result Piece LexFault) (piece : Piece) (P : Piece → Type 0)
    → cond a (Ok blank) (cond b (Ok word) (cond c number (cond d dash (cond q string sign)))) ≡ Ok piece
    → P blank → (b ≡ true → P word) → (c ≡ true → number ≡ Ok piece → P piece) → (d ≡ true → dash ≡ Ok piece → P piece) → (string ≡ Ok piece → P piece) → (sign ≡ Ok piece → P piece) → P piece
piece_cases true b c d q blank word number dash string sign piece P e h1 h2 h3 h4 h5 h6 = let is : blank ≡ piece = cc in subst P is h1
piece_cases false true c d q blank word number dash string sign piece P e h1 h2 h3 h4 h5 h6 = let is : word ≡ piece = cc in subst P is (h2 refl)
piece_cases false false true d q blank word number dash string sign piece P e h1 h2 h3 h4 h5 h6 = h3 refl e
piece_cases false false false true q blank word number dash string sign piece P e h1 h2 h3 h4 h5 h6 = h4 refl e
piece_cases false false false false true blank word number dash string sign piece P e h1 h2 h3 h4 h5 h6 = h5 e
piece_cases false false false false false blank word number dash string sign piece P e h1 h2 h3 h4 h5 h6 = h6 e

word_is_text : (bytes : List ℕ) → IsTokenText (word_at bytes).kind (take (word_at bytes).size bytes)
unfolding word_at
word_is_text bytes = front_is_utf8 (prefix_len continues_word bytes) bytes (λ i lt. continues_under (get_or bytes i 0) (prefix_len_passes continues_word bytes i 0 lt))

pub piece_is_text : (byte : ℕ) (bytes : List ℕ) (piece : Piece) → piece_at byte bytes ≡ Ok piece → IsTokenText piece.kind (take piece.size (byte ∷ bytes))
unfolding piece_at string_at
piece_is_text byte bytes piece e =
    piece_cases (is_white_space byte) (begins_word byte) (is_ascii_digit byte) (eqb byte 45) (is_quote byte) (gap 1) (word_at (byte ∷ bytes)) (number_at 0 (byte ∷ bytes)) (dash_at bytes) (string_at byte bytes) (sign_at byte (byte ∷ bytes)) piece
    (λ p. IsTokenText p.kind (take p.size (byte ∷ bytes))) e
    tt
    (λ begins. word_is_text (byte ∷ bytes))
    (λ digit is. text_is piece.kind _ (number_is_utf8 (byte ∷ bytes) piece is))
    (λ dash is. subst (λ (b : ℕ). IsTokenText piece.kind (take piece.size (b ∷ bytes))) (sym (eqb-true byte 45 dash)) (dash_is_text bytes piece is))
    (λ is. string_is_text (byte ∷ bytes) _ piece is)
    (λ is. sign_is_text byte (byte ∷ bytes) piece is)
