-- What is wrong with a query text, in words.
use Rattle.std.specs.Prelude.{ℕ, ◌+◌, ◌/◌, ◌%◌, if◌then◌else◌, nat_lt, true, false, List, [], ◌∷◌, ◌++◌, decimal, codes}
use Rattle.cer_base.specs.declared.limits.TheConstants.{LONGEST_TEXT, MOST_LEAVES, MOST_QUERIES, MOST_PLACES}
use Rattle.stream_schema.specs.declared.Kind.{Kind}
use Rattle.stream_schema.specs.declared.Kind.TheVariants as kind
use Rattle.ceql_grammar.specs.declared.faults.QueryFault.{QueryFault}
use Rattle.ceql_grammar.specs.declared.faults.QueryFault.TheVariants as query

-- 0 to 9, a to f
abbrev pub hex_digit : ℕ → ℕ
hex_digit n = if nat_lt n 10 then 48 + n else 87 + n

-- two digits
abbrev pub hex : ℕ → List ℕ
hex byte = hex_digit (byte / 16) ∷ hex_digit (byte % 16) ∷ []

-- a literal's kind, as a query text names it
abbrev pub literal_kind : Kind → List ℕ
literal_kind kind.Int = codes "INT"
literal_kind kind.Text = codes "STRING"
literal_kind kind.Flag = codes "BOOL"
literal_kind (kind.Dec places) = codes "DECIMAL"

-- the words of a query text's fault
abbrev pub query_words : QueryFault → List ℕ
query_words (query.BadByte byte) = codes "byte " ++ hex byte ++ codes " not allowed"
query_words query.OpenString = codes "string not closed"
query_words query.NumberTooLarge = codes "number too large"
query_words query.NotUtf8 = codes "string is not UTF-8"
query_words query.TooFine = codes "more than " ++ decimal MOST_PLACES ++ codes " decimals"
query_words (query.Unexpected true) = codes "unexpected end of text"
query_words (query.Unexpected false) = codes "unexpected token"
query_words (query.NameTaken name) = codes "name " ++ name ++ codes " taken"
query_words (query.UnknownType name) = codes "unknown type " ++ name
query_words (query.UnknownStream name) = codes "unknown stream " ++ name
query_words (query.UnknownName name) = codes "unknown name " ++ name
query_words (query.UnknownAttribute name) = codes "unknown attribute " ++ name
query_words (query.NeverKind name kind) = codes "attribute " ++ name ++ codes " is never " ++ literal_kind kind
query_words query.NoOrder = codes "BOOL has no order"
query_words query.TooDeep = codes "nested too deeply"
query_words query.TooManyLeaves = codes "more than " ++ decimal MOST_LEAVES ++ codes " leaves"
query_words query.NoQuery = codes "no query"
query_words query.TooManyQueries = codes "more than " ++ decimal MOST_QUERIES ++ codes " queries"
query_words (query.WindowKind name) = codes "window attribute " ++ name ++ codes " is not INT in every type"
query_words query.TextTooLong = codes "text longer than " ++ decimal LONGEST_TEXT ++ codes " bytes"
query_words query.BadScale = codes "DECIMAL takes 0 to " ++ decimal MOST_PLACES
query_words query.BadCount = codes "ANY takes 1 to 4294967295"
