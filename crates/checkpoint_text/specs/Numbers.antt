-- The words and numbers of a line.
use Rattle.std.specs.Prelude.{ℕ, ◌==◌, Bool, false, not, ◌&&◌, ◌||◌, if◌then◌else◌, nat_le, List, [], ◌∷◌, length, Option, Some, None, bytes_eq, codes, option_and_then, option_map}
use Rattle.std.specs.Char.{is_ascii_digit}
use Rattle.std.specs.List.{list_all}
use Rattle.cer_base.specs.Digits.{read_on}
use Rattle.event_reader.specs.LineWords.{cut}
use Rattle.checkpoint_text.specs.declared.numbers.TheConstants.{ZERO, MOST_POSITIONS}

-- some digits, the first of several not being 0
abbrev pub is_canonical_numeral : List ℕ → Bool
is_canonical_numeral [] = false
is_canonical_numeral (d ∷ ds) = (length ds == 0 || not (d == ZERO)) && list_all is_ascii_digit (d ∷ ds)

-- the number that they write, where it is at most so much
abbrev pub number : ℕ → List ℕ → Option ℕ
number most digits = if is_canonical_numeral digits && nat_le (read_on 0 digits) most then Some (read_on 0 digits) else None

-- what stands after this word and a blank
abbrev pub after_word_in : List ℕ → List ℕ × List ℕ → Option (List ℕ)
after_word_in word parts = if bytes_eq parts.0 word then Some parts.1 else None

abbrev pub after_word : List ℕ → List ℕ → Option (List ℕ)
after_word word text = option_and_then (after_word_in word) (cut text)

-- two numbers: the first at most the most positions, the second at most the first
abbrev pub two_numbers : List ℕ × List ℕ → Option (ℕ × ℕ)
two_numbers parts = option_and_then (λ positions. option_map (λ count. (positions, count)) (number positions parts.1)) (number MOST_POSITIONS parts.0)

-- how many positions and events a line tells
abbrev pub counts_of : List ℕ → Option (ℕ × ℕ)
counts_of text = option_and_then (λ words. option_and_then two_numbers (cut words)) (after_word (codes "events") text)

-- the position that a line tells
abbrev pub position_of : List ℕ → Option ℕ
position_of text = option_and_then (number MOST_POSITIONS) (after_word (codes "at") text)
