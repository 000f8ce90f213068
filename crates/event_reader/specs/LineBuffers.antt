-- The bytes that a reader of lines has taken and still holds, and how reading changes them. Private clauses alone cite
-- these, but for `IsShort`.
use Rattle.std.specs.Prelude.{◌≡◌, ℕ, ◌+◌, ◌-◌, ◌<◌, ◌≤◌, false, List, length, take, drop, get_or, Option, Result, Ok, Err}
use Rattle.cer_base.specs.declared.bytes.TheConstants.{LINE_FEED}
use Rattle.cer_base.specs.declared.limits.TheConstants.{LONGEST_LINE}
use Rattle.cer_outside.specs.Bytes.{IsAtEnd}
use Rattle.event_reader.specs.Lines.{has_line_feed}
use Rattle.event_reader.specs.declared.line_buffer.SeekEnd.{SeekEnd}
use Rattle.event_reader.specs.declared.line_buffer.SeekEnd.TheVariants.{LineFeed, Long, Full, End}

-- What a buffer holds: the bytes that are in no line yet, and the text that it gave last.
pub record BufferState : Type 0 where
  pub pending : List ℕ
  pub text : List ℕ

-- the bytes of a buffer between two places
abbrev pub bytes_between : List ℕ → ℕ → ℕ → List ℕ
bytes_between bytes from to = take (to - from) (drop from bytes)

-- The places lie in the buffer, and what was searched has no line feed.
pub record IsLineBuffer (bytes : List ℕ) (from searched to text_from text_to : ℕ) : Type 0 where
  pub capacity : length bytes ≡ 131072
  pub from_searched : from ≤ searched
  pub searched_to : searched ≤ to
  pub to_within : to ≤ 131072
  pub text_order : text_from ≤ text_to
  pub text_within : text_to ≤ 131072
  pub text_short : text_to - text_from ≤ LONGEST_LINE
  pub text_plain : has_line_feed (bytes_between bytes text_from text_to) ≡ false
  pub plain : has_line_feed (bytes_between bytes from searched) ≡ false

-- the first line feed of the bytes stands at this place
pub record IsFirstLineFeed (place : ℕ) (bytes : List ℕ) : Type 0 where
  pub within : place < length bytes
  pub plain : has_line_feed (take place bytes) ≡ false
  pub feed : get_or bytes place 0 ≡ LINE_FEED

-- no line feed, and few enough bytes for a line
pub record IsShort (bytes : List ℕ) : Type 0 where
  pub plain : has_line_feed bytes ≡ false
  pub short : length bytes ≤ LONGEST_LINE

-- why reading stopped, of which these bytes are at hand and so many may be
abbrev pub IsSeekEnd : {E : Type 0} → ℕ → List ℕ → Option (List ℕ) → Result SeekEnd E → Type 0
IsSeekEnd room pending left (Ok (LineFeed place)) = IsFirstLineFeed place pending × (place ≤ LONGEST_LINE)
IsSeekEnd room pending left (Ok Long) = (has_line_feed (take (LONGEST_LINE + 1) pending) ≡ false) × (LONGEST_LINE < length pending)
IsSeekEnd room pending left (Ok Full) = IsShort pending × (length pending ≡ room)
IsSeekEnd room pending left (Ok End) = IsShort pending × (length pending < room) × IsAtEnd left
IsSeekEnd room pending left (Err e) = IsShort pending × (length pending < room)
