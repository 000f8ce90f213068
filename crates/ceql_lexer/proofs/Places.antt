-- Places after the bytes of a text.
use Rattle.std.proofs.Common.{◌≡◌, ℕ, zero, suc, List, [], ◌∷◌, take, drop, refl}
use Rattle.cer_base.specs.declared.Location.{Location}
use Rattle.ceql_lexer.specs.Tokens.{next_place, place_after}

pub place_split : (place : Location) (n : ℕ) (bytes : List ℕ) → place_after (place_after place (take n bytes)) (drop n bytes) ≡ place_after place bytes
place_split place zero bytes = refl
place_split place (suc n) [] = refl
place_split place (suc n) (byte ∷ bytes) = place_split (next_place place byte) n bytes
