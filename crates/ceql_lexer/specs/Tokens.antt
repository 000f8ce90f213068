-- The tokens of a text, with their places, or the first fault.
use Rattle.std.specs.Prelude.{◌≡◌, ℕ, zero, suc, ◌+◌, ◌-◌, ◌==◌, List, [], ◌∷◌, ◌++◌, take, drop, if◌then◌else◌, bytes_eq, Option, Some, None, Result, Ok, Err}
use Rattle.cer_base.specs.declared.Location.{Location}
use Rattle.ceql_lexer.specs.declared.front.Piece.{Piece}
use Rattle.ceql_lexer.specs.declared.LexFault.{LexFault}
use Rattle.ceql_lexer.specs.declared.LexError.{LexError}
use Rattle.ceql_lexer.specs.declared.Token.{Token}
use Rattle.ceql_lexer.specs.declared.TokenKind.{TokenKind}
use Rattle.ceql_lexer.specs.declared.TokenKind.TheVariants as kind
use Rattle.ceql_lexer.specs.Fronts.{piece_at}

-- the first place of a text
abbrev pub first_place : Location
first_place = record { line = 1; col = 1 }

-- the place after a byte: a line feed ends a line
abbrev pub next_place : Location → ℕ → Location
next_place place byte =
    if byte == 10 then record { line = place.line + 1; col = 1 } else record { line = place.line; col = place.col + 1 }

-- the place after these bytes
abbrev pub place_after : Location → List ℕ → Location
place_after place [] = place
place_after place (byte ∷ bytes) = place_after (next_place place byte) bytes

-- A piece of a text, which is a token where it has a kind, and the place of its first byte.
pub record TextPart : Type 0 where
  pub kind : Option TokenKind
  pub text : List ℕ
  pub place : Location

-- the parts that go on from a piece at this place, or its fault there
abbrev pub parts_after : Location → Result Piece LexFault → (Piece → Result (List TextPart) LexError) → Result (List TextPart) LexError
parts_after place (Ok piece) later = later piece
parts_after place (Err fault) later = Err (record { fault = fault; place = place })

-- the part in front of those that come later
abbrev pub with_part : TextPart → Result (List TextPart) LexError → Result (List TextPart) LexError
with_part part (Ok parts) = Ok (part ∷ parts)
with_part part (Err error) = Err error

-- the parts of the bytes, the first byte being at the place, from left to right up to the first
-- fault; so many bytes at the front are passed over, since they are of a part before
abbrev pub parts_from : ℕ → Location → List ℕ → Result (List TextPart) LexError
parts_from passed place [] = Ok []
parts_from (suc passed) place (byte ∷ bytes) = parts_from passed (next_place place byte) bytes
parts_from zero place (byte ∷ bytes) =
    parts_after place (piece_at byte bytes) (λ piece.
    with_part (record { kind = piece.kind; text = byte ∷ take (piece.size - 1) bytes; place = place })
    (parts_from (piece.size - 1) (next_place place byte) bytes))

-- what stands after a byte order mark at the very beginning
abbrev pub after_mark : List ℕ → List ℕ
after_mark text = if bytes_eq (take 3 text) (239 ∷ 187 ∷ 191 ∷ []) then drop 3 text else text

-- the token that a part of this kind is, if it is one
abbrev pub token_of : TextPart → Option TokenKind → List Token
token_of part None = []
token_of part (Some k) = record { kind = k; text = part.text; place = part.place } ∷ []

-- the parts that are tokens
abbrev pub tokens_in : List TextPart → List Token
tokens_in [] = []
tokens_in (part ∷ parts) = token_of part part.kind ++ tokens_in parts

-- the token after all others, at the place after the last byte
abbrev pub end_token : Location → Token
end_token place = record { kind = kind.End; text = []; place = place }

-- the tokens of these parts, and the end
abbrev pub with_end : List ℕ → Result (List TextPart) LexError → Result (List Token) LexError
with_end text (Ok parts) = Ok (tokens_in parts ++ end_token (place_after first_place text) ∷ [])
with_end text (Err error) = Err error

-- the parts of a text
unfoldable pub parts_of : List ℕ → Result (List TextPart) LexError
parts_of text = parts_from 0 first_place (after_mark text)

-- the tokens of a text, or its first fault
unfoldable pub tokens_of : List ℕ → Result (List Token) LexError
tokens_of text = with_end (after_mark text) (parts_of text)
