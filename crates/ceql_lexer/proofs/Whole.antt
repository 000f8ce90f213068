-- The parts of a text are the whole text, each at its place and as long as it may be.
use Rattle.std.proofs.Common.{◌≡◌, ℕ, zero, suc, ◌-◌, List, [], ◌∷◌, ◌++◌, take, drop, Result, Ok, Err, refl, sym, ap, subst, ◌∙◌, arith, length, length-take}
use Rattle.std.proofs.lemmas.Grind.{common_steps}
use Rattle.cer_base.specs.declared.Location.{Location}
use Rattle.ceql_lexer.specs.declared.front.Piece.{Piece}
use Rattle.cer_base.specs.declared.OrMemory.{OrMemory}
use Rattle.ceql_lexer.specs.declared.Token.{Token}
use Rattle.ceql_lexer.specs.declared.LexFault.{LexFault}
use Rattle.std.specs.Prelude.{IfOk}
use Rattle.ceql_lexer.specs.declared.LexError.{LexError}
use Rattle.ceql_lexer.specs.Fronts.{piece_at}
use Rattle.cer_base.specs.Answers.{Gives}
use Rattle.ceql_lexer.specs.Tokens.{TextPart, with_end, with_part, after_mark, first_place, parts_after, next_place, parts_from, parts_of, place_after}
use Rattle.ceql_lexer.specs.Whole.{AreAtPlaces, AreLongest, AreWhole, IsCut, EndsBefore, text_of_parts}
use Rattle.ceql_lexer.proofs.Longest.{ends_of, piece_ends}

parts_after_takes : (place : Location) (read : Result Piece LexFault) (later : Piece → Result (List TextPart) LexError) (parts : List TextPart) → parts_after place read later ≡ Ok parts → (piece : Piece) × (read ≡ Ok piece) × (later piece ≡ Ok parts)
parts_after_takes place (Ok piece) later parts e = (piece, refl, e)
parts_after_takes place (Err fault) later parts e = absurd (cc)

with_part_takes : (part : TextPart) (later : Result (List TextPart) LexError) (parts : List TextPart) → with_part part later ≡ Ok parts → (more : List TextPart) × (later ≡ Ok more) × (part ∷ more ≡ parts)
with_part_takes part (Ok more) parts e = (more, refl, cc)
with_part_takes part (Err error) parts e = absurd (cc)

-- what is kept of the parts of a text, so many of its bytes being passed over
record Kept (passed : ℕ) (place : Location) (bytes : List ℕ) (parts : List TextPart) : Type 0 where
  nothing_lost : text_of_parts parts ≡ drop passed bytes
  placed : AreAtPlaces (place_after place (take passed bytes)) parts
  longest : AreLongest parts

take_drop : (n : ℕ) (bytes : List ℕ) → take n bytes ++ drop n bytes ≡ bytes
take_drop n bytes = grind (arith, common_steps)

kept_more : (place : Location) (byte : ℕ) (bytes : List ℕ) (piece : Piece) (more : List TextPart) → piece_at byte bytes ≡ Ok piece → Kept (piece.size - 1) (next_place place byte) bytes more
    → Kept 0 place (byte ∷ bytes) (record { kind = piece.kind; text = byte ∷ take (piece.size - 1) bytes; place = place } ∷ more)
kept_more place byte bytes piece more is kept = record {
  nothing_lost = ap (λ (bs : List ℕ). byte ∷ bs) (ap (λ (bs : List ℕ). take (piece.size - 1) bytes ++ bs) kept.nothing_lost ∙ take_drop (piece.size - 1) bytes);
  placed = (refl, kept.placed);
  longest = (subst (EndsBefore piece.kind (length (byte ∷ take (piece.size - 1) bytes))) (sym kept.nothing_lost) (ends_of piece.kind piece.size _ _ (λ more. omega (arith, length-take {A = ℕ})) (piece_ends byte bytes piece is)), kept.longest);
}

kept : (passed : ℕ) (place : Location) (bytes : List ℕ) (parts : List TextPart) → parts_from passed place bytes ≡ Ok parts → Kept passed place bytes parts
kept zero place [] parts e = let none : [] ≡ parts = cc in subst (Kept 0 place []) none (record { nothing_lost = refl; placed = tt; longest = tt })
kept (suc passed) place [] parts e = let none : [] ≡ parts = cc in subst (Kept (suc passed) place []) none (record { nothing_lost = refl; placed = tt; longest = tt })
kept (suc passed) place (byte ∷ bytes) parts e =
    let k = kept passed (next_place place byte) bytes parts e in
    record { nothing_lost = k.nothing_lost; placed = k.placed; longest = k.longest }
kept zero place (byte ∷ bytes) parts e =
    let taken = parts_after_takes place (piece_at byte bytes) _ parts e in
    let piece : Piece = taken.0 in
    let last = with_part_takes (record { kind = piece.kind; text = byte ∷ take (piece.size - 1) bytes; place = place }) (parts_from (piece.size - 1) (next_place place byte) bytes) parts taken.2 in
    subst (Kept 0 place (byte ∷ bytes)) last.2 (kept_more place byte bytes piece last.0 taken.1 (kept (piece.size - 1) (next_place place byte) bytes last.0 last.1))

pub parts_whole : (text : List ℕ) (parts : List TextPart) → parts_of text ≡ Ok parts → AreWhole (after_mark text) parts
unfolding parts_of
parts_whole text parts e =
    let k = kept 0 first_place (after_mark text) parts e in
    record { nothing_lost = k.nothing_lost; placed = k.placed; longest = k.longest }

cut_case : (text : List ℕ) (read : Result (List TextPart) LexError) (tokens : List Token) → ((parts : List TextPart) → read ≡ Ok parts → AreWhole text parts) → with_end text read ≡ Ok tokens → IsCut text tokens
cut_case text (Ok parts) tokens whole e = record { parts = parts; whole = whole parts refl; those = cc }
cut_case text (Err error) tokens whole e = absurd (cc)

pub cut_is : (text : List ℕ) (result : Result (List Token) (OrMemory LexError)) → Gives (λ x. x) result (with_end text (parts_from 0 first_place text)) → IfOk result (λ tokens. IsCut text tokens)
cut_is text (Ok tokens) given =
    cut_case text (parts_from 0 first_place text) tokens
    (λ parts e. let k = kept 0 first_place text parts e in record { nothing_lost = k.nothing_lost; placed = k.placed; longest = k.longest }) given
cut_is text (Err error) given = tt
