-- Which numbers and literals tokens are, and the values that they write.
use Rattle.std.specs.Prelude.{ℕ, ◌==◌, ℤ, pos, neg_ℤ, Bool, true, false, not, ◌&&◌, List, [], ◌∷◌, length, drop, filter, nat_le, codes, if◌then◌else◌}
use Rattle.std.specs.Char.{is_ascii_digit}
use Rattle.std.specs.List.{prefix_len}
use Rattle.std.specs.Str.{is_utf8}
use Rattle.ceql_lexer.specs.declared.Token.{Token}
use Rattle.ceql_lexer.specs.declared.TokenKind.{TokenKind}
use Rattle.ceql_lexer.specs.declared.TokenKind.TheVariants as kind
use Rattle.cer_base.specs.Digits.{read_on, farthest}
use Rattle.cer_base.specs.declared.limits.TheConstants.{MOST_PLACES}
use Rattle.stream_schema.specs.declared.Value.{Value}
use Rattle.stream_schema.specs.declared.Value.TheVariants as value
use Rattle.stream_schema.specs.declared.Op.{Op}
use Rattle.stream_schema.specs.declared.Op.TheVariants.{Eq, Ne, Lt, Le, Gt, Ge}
use Rattle.ceql_grammar.specs.WordsAndSigns.{among, is}

-- the number that the digits of a text write, its sign and its point left out
abbrev pub unsigned_number : List ℕ → ℕ
unsigned_number text = read_on 0 (filter is_ascii_digit text)

abbrev pub has_minus : List ℕ → Bool
has_minus [] = false
has_minus (byte ∷ bytes) = byte == 45

-- a number in signed 64 bits, as every number of a text is, read without its point
abbrev pub is_in_range : List ℕ → Bool
is_in_range text = nat_le (unsigned_number text) (farthest (has_minus text))

-- the number with its sign, read without its point
abbrev pub signed_number : List ℕ → ℤ
signed_number text = if has_minus text then neg_ℤ (pos (unsigned_number text)) else pos (unsigned_number text)

-- how many digits stand after the point
abbrev pub places : List ℕ → ℕ
places text = length (drop 1 (drop (prefix_len (λ byte. not (byte == 46)) text) text))

abbrev pub is_number_kind : TokenKind → Bool
is_number_kind kind.Number = true
is_number_kind kind.Name = false
is_number_kind kind.Keyword = false
is_number_kind kind.Sign = false
is_number_kind kind.Decimal = false
is_number_kind kind.Quoted = false
is_number_kind kind.End = false

-- a whole number
abbrev pub is_number : Token → Bool
is_number t = is_number_kind t.kind && is_in_range t.text

-- a whole number without a `-`
abbrev pub is_count : Token → Bool
is_count t = is_number t && not (has_minus t.text)

-- What stands between the quotes, each doubled one being one; the bytes are those after the opening
-- quote, and the last of them is the closing one.
abbrev pub inside_quotes : ℕ → List ℕ → List ℕ
inside_quotes quote [] = []
inside_quotes quote (byte ∷ []) = []
inside_quotes quote (byte ∷ next ∷ bytes) = if byte == quote then byte ∷ inside_quotes quote bytes else byte ∷ inside_quotes quote (next ∷ bytes)

-- a string without its quotes
abbrev pub unquoted : List ℕ → List ℕ
unquoted [] = []
unquoted (quote ∷ bytes) = inside_quotes quote bytes

-- a number, a decimal number, a string, TRUE or FALSE
abbrev pub is_literal_of : TokenKind → Token → Bool
is_literal_of kind.Number t = is_in_range t.text
is_literal_of kind.Decimal t = is_in_range t.text && nat_le (places t.text) MOST_PLACES
is_literal_of kind.Quoted t = is_utf8 (unquoted t.text)
is_literal_of kind.Keyword t = among (codes "TRUE" ∷ codes "FALSE" ∷ []) t
is_literal_of kind.Name t = false
is_literal_of kind.Sign t = false
is_literal_of kind.End t = false

abbrev pub is_literal : Token → Bool
is_literal t = is_literal_of t.kind t

abbrev pub literal_as : TokenKind → Token → Value
literal_as kind.Number t = value.Int (signed_number t.text)
literal_as kind.Decimal t = value.Dec (signed_number t.text) (places t.text)
literal_as kind.Quoted t = value.Text (unquoted t.text)
literal_as kind.Keyword t = value.Flag (is (codes "TRUE") t)
literal_as kind.Name t = value.Flag false
literal_as kind.Sign t = value.Flag false
literal_as kind.End t = value.Flag false

-- the value of a literal
abbrev pub literal_of : Token → Value
literal_of t = literal_as t.kind t

-- the signs of comparisons, and `==` and `<>` as other spellings
abbrev pub is_op : Token → Bool
is_op = among (codes "=" ∷ codes "==" ∷ codes "!=" ∷ codes "<>" ∷ codes "<" ∷ codes "<=" ∷ codes ">" ∷ codes ">=" ∷ [])

abbrev pub op_of : Token → Op
op_of t =
    if among (codes "=" ∷ codes "==" ∷ []) t then Eq
    else (if among (codes "!=" ∷ codes "<>" ∷ []) t then Ne
    else (if is (codes "<") t then Lt
    else (if is (codes "<=") t then Le
    else (if is (codes ">") t then Gt else Ge))))

abbrev pub is_unit : Token → Bool
is_unit = among (codes "SECOND" ∷ codes "SECONDS" ∷ codes "MINUTE" ∷ codes "MINUTES" ∷ codes "HOUR" ∷ codes "HOURS" ∷ [])

-- how many seconds a unit has
abbrev pub seconds_in : Token → ℕ
seconds_in t =
    if among (codes "SECOND" ∷ codes "SECONDS" ∷ []) t then 1
    else (if among (codes "MINUTE" ∷ codes "MINUTES" ∷ []) t then 60 else 3600)
