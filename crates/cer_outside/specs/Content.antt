-- What a host tells of its files, name by name.
use Rattle.std.specs.Prelude.{◌≡◌, ℕ, List, Option, Some, None}

-- nothing; or that the host has no file of this name; or the bytes of its file
pub data Content : Type 0 where
  Untold : Content
  Missing : Content
  Holds : (bytes : List ℕ) → Content

-- what a source has left that was opened under the name: the file's bytes, where they are told. A missing file is never opened
abbrev pub HasOpened : Content → Option (List ℕ) → Type 0
HasOpened Untold left = left ≡ None
HasOpened Missing left = ⊥
HasOpened (Holds bytes) left = left ≡ Some bytes

-- of a file that was opened: the host does not lack it, and the fact holds of its bytes, where they are told
abbrev pub OfOpened : Content → (List ℕ → Type 0) → Type 0
OfOpened Untold P = Unit {0}
OfOpened Missing P = ⊥
OfOpened (Holds bytes) P = P bytes
