-- Sets of numbers below a room, as the list that tells of each number whether it is in the set; and
-- the words of 64 bits that keep such a list, the lowest number first.
use Rattle.std.specs.Prelude.{ℕ, ◌+◌, ◌*◌, ◌/◌, Bool, cond, false, List, [], ◌∷◌, ◌++◌, map, eqb, slice_index_or, length}
use Rattle.std.specs.Int.{bit_at}
use Rattle.std.specs.List.{range_with_len}

-- the number is in the set, which holds none past its end
abbrev pub has : List Bool → ℕ → Bool
has set k = slice_index_or set k false

-- how many numbers the words for a size have room for
abbrev pub room_for : ℕ → ℕ
room_for size = (size + 63) / 64 * 64

-- the bit of the word is one
abbrev pub bit : ℕ → ℕ → Bool
bit word k = eqb (bit_at word k) 1

-- the 64 bits of a word, the lowest first
unfoldable pub word_bits : ℕ → List Bool
word_bits word = map (bit word) (range_with_len 0 64)

-- the bits of the words, the first word's first
abbrev pub bits_of_words : List ℕ → List Bool
bits_of_words [] = []
bits_of_words (w ∷ ws) = word_bits w ++ bits_of_words ws

-- the word with these bits, the lowest first
abbrev pub word_with_bits : List Bool → ℕ
word_with_bits [] = 0
word_with_bits (b ∷ bs) = cond b 1 0 + 2 * word_with_bits bs

-- the word that keeps the 64 numbers from 64 i on
unfoldable pub word_of : List Bool → ℕ → ℕ
word_of set i = word_with_bits (map (λ j. has set (64 * i + j)) (range_with_len 0 64))

-- the words that keep the set
abbrev pub words_of : List Bool → List ℕ
words_of set = map (word_of set) (range_with_len 0 (length set / 64))
