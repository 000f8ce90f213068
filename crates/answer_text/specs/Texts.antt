-- A text that begins with another one.
use Rattle.std.specs.Prelude.{◌≡◌, List, ℕ, length, take}

abbrev pub StartsWith : List ℕ → List ℕ → Type 0
StartsWith front text = take (length front) text ≡ front
