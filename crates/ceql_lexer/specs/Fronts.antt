-- What stands at the front of a text: a blank, a comment, a token or a fault.
--
use Rattle.std.specs.Prelude.{ℕ, ◌+◌, ◌==◌, ◌<◌, ◌≤◌, Bool, ◌||◌, List, [], ◌∷◌, length, take, drop, nat_lt, nat_le, if◌then◌else◌, Option, Some, None, option_map, IfSome, Result, Ok, Err}
use Rattle.std.specs.Char.{is_ascii_digit}
use Rattle.std.specs.Str.{IsUtf8, is_utf8}
use Rattle.std.specs.List.{prefix_len}
use Rattle.cer_base.specs.Digits.{farthest, read_on}
use Rattle.cer_base.specs.declared.limits.TheConstants.{MOST_PLACES}
use Rattle.ceql_lexer.specs.declared.front.Piece.{Piece}
use Rattle.ceql_lexer.specs.declared.LexFault.{LexFault}
use Rattle.ceql_lexer.specs.declared.LexFault.TheVariants as fault
use Rattle.ceql_lexer.specs.declared.TokenKind.{TokenKind}
use Rattle.ceql_lexer.specs.declared.TokenKind.TheVariants as kind
use Rattle.ceql_lexer.specs.Letters.{is_white_space, is_in_line, begins_word, continues_word, is_keyword, sign_len}
use Rattle.ceql_lexer.specs.Numerals.{digits_at, decimals_at}

-- so many bytes that are a token of this kind
abbrev pub token : TokenKind → ℕ → Piece
token k size = record { kind = Some k; size = size }

-- so many bytes that are no token
abbrev pub gap : ℕ → Piece
gap size = record { kind = None; size = size }

-- the piece has a byte, and no more bytes than the text
abbrev pub HasSize : Piece → List ℕ → Type 0
HasSize piece text = (0 < piece.size) × (piece.size ≤ length text)

-- a word of any ASCII case is a keyword or a name
abbrev pub word_kind : List ℕ → TokenKind
word_kind word = if is_keyword word then kind.Keyword else kind.Name

-- the longest word at the front
unfoldable pub word_at : List ℕ → Piece
word_at bytes = token (word_kind (take (prefix_len continues_word bytes) bytes)) (prefix_len continues_word bytes)

-- a number of so many bytes of sign, these digits and these decimals
abbrev pub number_of : ℕ → ℕ → ℕ → Piece
number_of sign whole decimals =
    if decimals == 0 then token kind.Number (sign + whole) else token kind.Decimal (sign + whole + 1 + decimals)

-- the number after so many bytes of sign, where it has few decimals and is in range
abbrev pub checked_number : ℕ → List ℕ → List ℕ → Result Piece LexFault
checked_number sign whole decimals =
    if nat_lt MOST_PLACES (length decimals) then Err fault.TooFine
    else (if nat_le (read_on (read_on 0 whole) decimals) (farthest (nat_lt 0 sign)) then Ok (number_of sign (length whole) (length decimals))
    else Err fault.NumberTooLarge)

-- the longest number whose digits are at the front, after so many bytes of sign
unfoldable pub number_at : ℕ → List ℕ → Result Piece LexFault
number_at sign bytes =
    checked_number sign (digits_at bytes) (decimals_at (drop (prefix_len is_ascii_digit bytes) bytes))

-- a comment, a negative number, or neither, the bytes being those after a `-`
unfoldable pub dash_at : List ℕ → Result Piece LexFault
dash_at [] = Err (fault.BadByte 45)
dash_at (byte ∷ bytes) =
    if byte == 45 then Ok (gap (2 + prefix_len is_in_line bytes))
    else (if is_ascii_digit byte then number_at 1 (byte ∷ bytes) else Err (fault.BadByte 45))

-- how many bytes a string has up to and with its closing quote, the bytes being those after its
-- opening quote: a doubled quote goes on, and a line feed or the end comes too early
unfoldable pub closing : ℕ → List ℕ → Option ℕ
closing quote [] = None
closing quote (byte ∷ []) = if byte == 10 then None else (if byte == quote then Some 1 else None)
closing quote (byte ∷ next ∷ bytes) =
    if byte == 10 then None
    else (if byte == quote then (if next == quote then option_map (λ n. n + 2) (closing quote bytes) else Some 1)
    else option_map (λ n. n + 1) (closing quote (next ∷ bytes)))

-- a string that is closed after so many bytes has to be UTF-8
abbrev pub string_of : List ℕ → Option ℕ → Result Piece LexFault
string_of bytes None = Err fault.OpenString
string_of bytes (Some size) = if is_utf8 (take size bytes) then Ok (token kind.Quoted size) else Err fault.NotUtf8

-- the string after an opening quote
unfoldable pub string_at : ℕ → List ℕ → Result Piece LexFault
string_at quote bytes = string_of (quote ∷ bytes) (option_map (λ n. n + 1) (closing quote bytes))

-- the longest sign at the front of bytes that begin with this one
unfoldable pub sign_at : ℕ → List ℕ → Result Piece LexFault
sign_at byte bytes =
    if sign_len bytes == 0 then Err (fault.BadByte byte) else Ok (token kind.Sign (sign_len bytes))

-- a single or a double quote
abbrev pub is_quote : ℕ → Bool
is_quote byte = (byte == 39) || (byte == 34)

-- what stands at the front: a byte, and the bytes after it
unfoldable pub piece_at : ℕ → List ℕ → Result Piece LexFault
piece_at byte bytes =
    if is_white_space byte then Ok (gap 1)
    else (if begins_word byte then Ok (word_at (byte ∷ bytes))
    else (if is_ascii_digit byte then number_at 0 (byte ∷ bytes)
    else (if byte == 45 then dash_at bytes
    else (if is_quote byte then string_at byte bytes
    else sign_at byte (byte ∷ bytes)))))

-- where the piece is a token, its bytes are UTF-8
abbrev pub IsTokenText : Option TokenKind → List ℕ → Type 0
IsTokenText k bytes = IfSome k (λ _. IsUtf8 bytes)
