-- Which word or sign a token is, and which are names.
use Rattle.std.specs.Prelude.{◌≡◌, ℕ, Bool, true, false, List, [], ◌∷◌, bytes_eq, if◌then◌else◌}
use Rattle.std.specs.Str.{str_to_ascii_uppercase}
use Rattle.cel_terms.specs.declared.Name.{Name}
use Rattle.ceql_lexer.specs.declared.Token.{Token}
use Rattle.ceql_lexer.specs.declared.TokenKind.{TokenKind}
use Rattle.ceql_lexer.specs.declared.TokenKind.TheVariants as kind

-- what a token of this kind and text spells: a keyword its capitals, a sign itself, any other nothing
abbrev pub spelled : TokenKind → List ℕ → List ℕ
spelled kind.Keyword text = str_to_ascii_uppercase text
spelled kind.Sign text = text
spelled kind.Name text = []
spelled kind.Number text = []
spelled kind.Decimal text = []
spelled kind.Quoted text = []
spelled kind.End text = []

-- the token is one of these signs, or one of these keywords in some ASCII case
abbrev pub among : List (List ℕ) → Token → Bool
among [] t = false
among (mark ∷ marks) t = if bytes_eq (spelled t.kind t.text) mark then true else among marks t

-- the token is this sign, or this keyword in some ASCII case
abbrev pub is : List ℕ → Token → Bool
is mark = among (mark ∷ [])

abbrev pub Is : List ℕ → Token → Type 0
Is mark t = is mark t ≡ true

abbrev pub is_name_kind : TokenKind → Bool
is_name_kind kind.Name = true
is_name_kind kind.Keyword = false
is_name_kind kind.Sign = false
is_name_kind kind.Number = false
is_name_kind kind.Decimal = false
is_name_kind kind.Quoted = false
is_name_kind kind.End = false

-- a word that is no keyword
abbrev pub is_name_token : Token → Bool
is_name_token t = is_name_kind t.kind

-- the token as a name
abbrev pub token_name : Token → Name
token_name t = record { text = t.text; place = t.place }
