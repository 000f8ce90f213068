-- What makes the parts of a text believable: they are the whole text, their places are counted,
-- and no name or number among them could go on.
use Rattle.std.specs.Prelude.{◌≡◌, ◌<◌, ℕ, Bool, false, List, [], ◌∷◌, ◌++◌, length, Option, Some, None}
use Rattle.std.specs.Char.{is_ascii_digit}
use Rattle.cer_base.specs.declared.Location.{Location}
use Rattle.ceql_lexer.specs.declared.Token.{Token}
use Rattle.ceql_lexer.specs.declared.TokenKind.{TokenKind}
use Rattle.ceql_lexer.specs.declared.TokenKind.TheVariants.{Name, Keyword, Number, Decimal, Quoted, Sign, End}
use Rattle.ceql_lexer.specs.Letters.{continues_word, is_in_line}
use Rattle.ceql_lexer.specs.Numerals.{decimals_at}
use Rattle.ceql_lexer.specs.Tokens.{TextPart, end_token, first_place, place_after, tokens_in}

-- the bytes of the parts, one part after the other
abbrev pub text_of_parts : List TextPart → List ℕ
text_of_parts [] = []
text_of_parts (part ∷ parts) = part.text ++ text_of_parts parts

-- each part stands where the bytes of the parts before it end
abbrev pub AreAtPlaces : Location → List TextPart → Type 0
AreAtPlaces place [] = Unit {0}
AreAtPlaces place (part ∷ parts) = (part.place ≡ place) × AreAtPlaces (place_after place part.text) parts

-- the bytes are none, or the first of them fails the test
abbrev pub StopsAt : (ℕ → Bool) → List ℕ → Type 0
StopsAt test [] = Unit {0}
StopsAt test (byte ∷ bytes) = test byte ≡ false

-- before these bytes a part of this kind, which has so many bytes, cannot go on: no byte of a word
-- follows a word, no digit and no decimals follow a number, and only a line feed follows a comment,
-- which is what has more than one byte and is no token
abbrev pub EndsBefore : Option TokenKind → ℕ → List ℕ → Type 0
EndsBefore (Some Name) size bytes = StopsAt continues_word bytes
EndsBefore (Some Keyword) size bytes = StopsAt continues_word bytes
EndsBefore (Some Number) size bytes = StopsAt is_ascii_digit bytes × (length (decimals_at bytes) ≡ 0)
EndsBefore (Some Decimal) size bytes = StopsAt is_ascii_digit bytes
EndsBefore (Some Quoted) size bytes = Unit {0}
EndsBefore (Some Sign) size bytes = Unit {0}
EndsBefore (Some End) size bytes = Unit {0}
EndsBefore None size bytes = 1 < size → StopsAt is_in_line bytes

-- no part could go on
abbrev pub AreLongest : List TextPart → Type 0
AreLongest [] = Unit {0}
AreLongest (part ∷ parts) = EndsBefore part.kind (length part.text) (text_of_parts parts) × AreLongest parts

-- The parts are the whole text, each at its place and as long as it may be.
pub record AreWhole (text : List ℕ) (parts : List TextPart) : Type 0 where
  pub nothing_lost : text_of_parts parts ≡ text
  pub placed : AreAtPlaces first_place parts
  pub longest : AreLongest parts

-- The tokens are those of the text's parts, and then the end at the place after the last byte.
pub record IsCut (text : List ℕ) (tokens : List Token) : Type 0 where
  pub parts : List TextPart
  pub whole : AreWhole text parts
  pub those : tokens ≡ tokens_in parts ++ end_token (place_after first_place text) ∷ []
