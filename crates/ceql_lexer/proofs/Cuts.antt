-- A text that is cut from left to right: what was cut and what is still to be cut make the whole.
use Rattle.std.proofs.Common.{◌≡◌, ℕ, zero, suc, ◌+◌, ◌-◌, ◌<◌, ◌≤◌, ◌^◌, List, [], ◌∷◌, ◌++◌, length, get_or, take, drop, subst, Result, Ok, Err, refl, ap, sym, ◌∙◌, append_assoc, arith, length-take, length-drop}
use Rattle.std.proofs.lemmas.List.{append-nil}
use Rattle.std.proofs.lemmas.Grind.{common_steps}
use Rattle.cer_base.specs.declared.Location.{Location}
use Rattle.ceql_lexer.specs.declared.front.Piece.{Piece}
use Rattle.ceql_lexer.specs.declared.LexFault.{LexFault}
use Rattle.ceql_lexer.specs.declared.LexError.{LexError}
use Rattle.ceql_lexer.specs.declared.Token.{Token}
use Rattle.ceql_lexer.specs.Fronts.{HasSize, piece_at}
use Rattle.ceql_lexer.specs.Tokens.{TextPart, with_part, end_token, first_place, next_place, parts_from, place_after, token_of, tokens_in, with_end}
use Rattle.ceql_lexer.proofs.Places.{place_split}

-- the tokens of the parts, with others in front
abbrev pub in_front : List Token → Result (List TextPart) LexError → Result (List Token) LexError
in_front tokens (Ok parts) = Ok (tokens ++ tokens_in parts)
in_front tokens (Err error) = Err error

-- The tokens so far and those of the rest are those of the text; the rest begins at the place.
pub record Cuts (text : List ℕ) (tokens : List Token) (place : Location) (rest : List ℕ) : Type 0 where
  pub line : place.line + length rest < 2 ^ 64
  pub col : place.col + length rest < 2 ^ 64
  pub last : place_after place rest ≡ place_after first_place text
  pub read : in_front tokens (parts_from 0 place rest) ≡ in_front [] (parts_from 0 first_place text)

pub cuts_none : (text : List ℕ) → length text + 1 < 2 ^ 64 → Cuts text [] first_place text
cuts_none text lt = record { line = omega arith; col = omega arith; last = refl; read = refl }

pub passes : (k : ℕ) (place : Location) (bytes : List ℕ) → parts_from k place bytes ≡ parts_from 0 (place_after place (take k bytes)) (drop k bytes)
passes zero place bytes = refl
passes (suc k) place [] = refl
passes (suc k) place (byte ∷ bytes) = passes k (next_place place byte) bytes

pushed : (tokens : List Token) (part : TextPart) (later : Result (List TextPart) LexError) → in_front tokens (with_part part later) ≡ in_front (tokens ++ token_of part part.kind) later
pushed tokens part (Ok parts) = ap (λ (ts : List Token). Ok ts) (simp append_assoc)
pushed tokens part (Err error) = refl

-- the part of a piece at the front
abbrev pub part_at : Piece → List ℕ → Location → TextPart
part_at piece bytes place = record { kind = piece.kind; text = bytes; place = place }

parts_step : (k : ℕ) (place : Location) (byte : ℕ) (bytes : List ℕ) (piece : Piece) → piece_at byte bytes ≡ Ok piece → piece.size ≡ suc k
    → parts_from 0 place (byte ∷ bytes) ≡ with_part (part_at piece (take piece.size (byte ∷ bytes)) place) (parts_from 0 (place_after place (take piece.size (byte ∷ bytes))) (drop piece.size (byte ∷ bytes)))
parts_step k place byte bytes piece is size =
    let e : suc k - 1 ≡ k = omega arith in
    rw (is, size, e) (ap (with_part (part_at piece (byte ∷ take k bytes) place)) (passes k (next_place place byte) bytes))

pub nonempty : (rest : List ℕ) → 1 ≤ length rest → rest ≡ get_or rest 0 0 ∷ drop 1 rest
nonempty [] h = absurd (omega arith)
nonempty (byte ∷ bytes) h = refl

tail_is : (rest : List ℕ) → take (length rest - 1) (drop 1 rest) ≡ drop 1 rest
tail_is rest = grind (arith, common_steps)

-- what was read with the bytes after the first as the slice's pattern gives them
pub read_is : (rest : List ℕ) (read : Result Piece LexFault) (piece : Piece) → read ≡ piece_at (get_or rest 0 0) (take (length rest - 1) (drop 1 rest)) → read ≡ Ok piece → piece_at (get_or rest 0 0) (drop 1 rest) ≡ Ok piece
read_is rest read piece e is = ap (piece_at (get_or rest 0 0)) (sym (tail_is rest)) ∙ sym e ∙ is

pub cuts_more : (text : List ℕ) (tokens : List Token) (place : Location) (rest : List ℕ) (piece : Piece) (front back : List ℕ) (now : Location) (more : List Token)
    → Cuts text tokens place rest → 1 ≤ length rest → piece_at (get_or rest 0 0) (drop 1 rest) ≡ Ok piece → HasSize piece rest
    → front ≡ take piece.size rest → back ≡ drop piece.size rest → now ≡ place_after place front → now.line ≤ place.line + length front → now.col ≤ place.col + length front
    → more ≡ tokens ++ token_of (part_at piece front place) piece.kind → Cuts text more now back
cuts_more text tokens place rest piece front back now more cuts some is size is_front is_back is_now lines cols is_more =
    let succ : piece.size ≡ suc (piece.size - 1) = omega arith in
    let e = nonempty rest some in
    let step = parts_step (piece.size - 1) place (get_or rest 0 0) (drop 1 rest) piece is succ in
    let same : parts_from 0 place rest ≡ with_part (part_at piece (take piece.size rest) place) (parts_from 0 (place_after place (take piece.size rest)) (drop piece.size rest)) =
    subst (λ (bytes : List ℕ). parts_from 0 place bytes ≡ with_part (part_at piece (take piece.size bytes) place) (parts_from 0 (place_after place (take piece.size bytes)) (drop piece.size bytes))) (sym e) step in
    let whole : parts_from 0 place rest ≡ with_part (part_at piece front place) (parts_from 0 now back) = rw (is_now, is_front, is_back) same in
    record {
      line = omega (arith, ap length is_front, ap length is_back, length-take {A = ℕ}, length-drop {A = ℕ}, cuts.line);
      col = omega (arith, ap length is_front, ap length is_back, length-take {A = ℕ}, length-drop {A = ℕ}, cuts.col);
      last = rw (is_now, is_front, is_back) (place_split place piece.size rest ∙ cuts.last);
      read = rw is_more (sym (pushed tokens (part_at piece front place) (parts_from 0 now back)) ∙ ap (in_front tokens) (sym whole) ∙ cuts.read);
    }

failed : (text : List ℕ) (read : Result (List TextPart) LexError) (error : LexError) → in_front [] read ≡ Err error → with_end text read ≡ Err error
failed text (Ok parts) error e = absurd (cc)
failed text (Err other) error e = cc

pub cuts_fault : (text : List ℕ) (tokens : List Token) (place : Location) (rest : List ℕ) (byte : ℕ) (bytes : List ℕ) (fault : LexFault) → Cuts text tokens place rest → rest ≡ byte ∷ bytes
    → piece_at byte bytes ≡ Err fault → with_end text (parts_from 0 first_place text) ≡ Err (record { fault = fault; place = place })
cuts_fault text tokens place rest byte bytes fault cuts e is =
    let stops : parts_from 0 place rest ≡ Err (record { fault = fault; place = place }) = rw (e, is) refl in
    failed text (parts_from 0 first_place text) _ (sym cuts.read ∙ ap (in_front tokens) stops)

ended : (text : List ℕ) (read : Result (List TextPart) LexError) (tokens : List Token) → in_front [] read ≡ Ok tokens → with_end text read ≡ Ok (tokens ++ end_token (place_after first_place text) ∷ [])
ended text (Ok parts) tokens e = let same : tokens_in parts ≡ tokens = cc in rw same refl
ended text (Err other) tokens e = absurd (cc)

pub cuts_end : (text : List ℕ) (tokens : List Token) (place : Location) (rest : List ℕ) → Cuts text tokens place rest → rest ≡ []
    → with_end text (parts_from 0 first_place text) ≡ Ok (tokens ++ end_token place ∷ [])
cuts_end text tokens place rest cuts e =
    let none : in_front tokens (parts_from 0 place rest) ≡ Ok tokens = rw e (ap (λ (ts : List Token). Ok ts) (append-nil tokens)) in
    let here : place ≡ place_after first_place text = ap (place_after place) (sym e) ∙ cuts.last in
    ended text (parts_from 0 first_place text) tokens (sym cuts.read ∙ none) ∙ ap (λ (p : Location). Ok (tokens ++ end_token p ∷ [])) (sym here)
