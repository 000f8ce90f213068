-- The bytes of which white space, words and signs are made, and which words are keywords.
--
use Rattle.std.specs.Prelude.{ℕ, Bool, ◌||◌, ◌==◌, not, List, [], ◌∷◌, take, if◌then◌else◌, bytes_eq, codes}
use Rattle.std.specs.Char.{is_ascii_alphabetic, is_ascii_alphanumeric}
use Rattle.std.specs.Str.{str_to_ascii_uppercase}
use Rattle.std.specs.List.{list_any}

-- a space, a tab, a carriage return or a line feed
abbrev pub is_white_space : ℕ → Bool
is_white_space byte = (byte == 32) || (byte == 9) || (byte == 13) || (byte == 10)

-- any byte but a line feed
abbrev pub is_in_line : ℕ → Bool
is_in_line byte = not (byte == 10)

-- an ASCII letter or an underscore
abbrev pub begins_word : ℕ → Bool
begins_word byte = is_ascii_alphabetic byte || (byte == 95)

-- an ASCII letter or digit or an underscore
abbrev pub continues_word : ℕ → Bool
continues_word byte = is_ascii_alphanumeric byte || (byte == 95)

-- the keywords, in capitals
abbrev pub keywords : List (List ℕ)
keywords = codes "ALL" ∷ codes "ANY" ∷ codes "AND" ∷ codes "AS" ∷ codes "BOOL" ∷ codes "BY" ∷ codes "DECIMAL" ∷ codes "DECLARE" ∷ codes "EVENT" ∷ codes "EVENTS" ∷ codes "FALSE" ∷ codes "FILTER" ∷ codes "FROM" ∷ codes "HOUR" ∷ codes "HOURS" ∷ codes "INT" ∷ codes "KEEP" ∷ codes "MINUTE" ∷ codes "MINUTES" ∷ codes "NOT" ∷ codes "OR" ∷ codes "PARTITION" ∷ codes "SECOND" ∷ codes "SECONDS" ∷ codes "SELECT" ∷ codes "STREAM" ∷ codes "STRICT" ∷ codes "STRING" ∷ codes "TRUE" ∷ codes "WHERE" ∷ codes "WITHIN" ∷ []

-- a keyword in any ASCII case
abbrev pub is_keyword : List ℕ → Bool
is_keyword word = list_any (bytes_eq (str_to_ascii_uppercase word)) keywords

-- the signs of two bytes
abbrev pub long_signs : List (List ℕ)
long_signs = codes "==" ∷ codes "!=" ∷ codes "<>" ∷ codes "<=" ∷ codes ">=" ∷ codes ":+" ∷ []

-- the signs of one byte
abbrev pub short_signs : List (List ℕ)
short_signs = codes "(" ∷ codes ")" ∷ codes "[" ∷ codes "]" ∷ codes "," ∷ codes ";" ∷ codes ":" ∷ codes "+" ∷ codes "*" ∷ codes "=" ∷ codes "<" ∷ codes ">" ∷ []

-- how many bytes the longest sign at the front has, 0 where no sign stands there
abbrev pub sign_len : List ℕ → ℕ
sign_len bytes =
    if list_any (bytes_eq (take 2 bytes)) long_signs then 2
    else (if list_any (bytes_eq (take 1 bytes)) short_signs then 1 else 0)
