-- Words that begin with a letter or an underscore.
use Rattle.std.proofs.Common.{◌≡◌, ℕ, ◌<◌, Bool, true, false, ◌||◌, eqb, List, ◌∷◌, refl, arith}
use Rattle.std.specs.Int.{is_in_range}
use Rattle.std.specs.List.{prefix_len}
use Rattle.ceql_lexer.specs.Letters.{begins_word, continues_word}

or_more : (a b c d : Bool) → ((b || c) || d) ≡ true → (((a || b) || c) || d) ≡ true
or_more true b c d h = refl
or_more false b c d h = h

pub begins_continues : (byte : ℕ) → begins_word byte ≡ true → continues_word byte ≡ true
begins_continues byte h = or_more (is_in_range 48 57 byte) (is_in_range 65 90 byte) (is_in_range 97 122 byte) (eqb byte 95) h

pub some_pass : (test : ℕ → Bool) (byte : ℕ) (bytes text : List ℕ) → text ≡ byte ∷ bytes → test byte ≡ true → 0 < prefix_len test text
some_pass test byte bytes text e h = rw (e, h) (omega arith)
