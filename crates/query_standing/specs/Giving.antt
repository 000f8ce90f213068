-- Which keys may be removed, and what is left of them.
use Rattle.std.specs.Prelude.{◌≡◌, ℕ, ◌-◌, ◌==◌, ◌⊎◌, cond, List, [], length, Contains, Option, Some, None, option_map, slice_get, swap_remove}
use Rattle.stream_schema.specs.declared.Value.{Value}
use Rattle.cer_base.specs.Repeats.{HasNoRepeats}
use Rattle.query_standing.specs.Kept.{Rows}

-- the number of the last event's key goes with the key, and none is told where none was
abbrev pub IsHereMoved : List (List Value) → Option ℕ → List (List Value) → Option ℕ → Type 0
IsHereMoved old None new None = Unit {0}
IsHereMoved old None new (Some n) = ⊥
IsHereMoved old (Some m) new None = ⊥
IsHereMoved old (Some m) new (Some n) = (key : List Value) → slice_get old m ≡ Some key → slice_get new n ≡ Some key

-- Keys without lists are removed, but not the last event's: each that stays has its lists, and the others have none.
pub record AreRemoved (old : List (List Value)) (old_rows : List Rows) (before : Option ℕ) (new : List (List Value)) (new_rows : List Rows) (after : Option ℕ) : Type 0 where
  pub distinct : HasNoRepeats old → HasNoRepeats new
  pub lists : length old_rows ≡ length old → length new_rows ≡ length new
  pub stays : (n : ℕ) (key : List Value) (rows : Rows) → slice_get new n ≡ Some key → slice_get new_rows n ≡ Some rows → (m : ℕ) × (slice_get old m ≡ Some key) × (slice_get old_rows m ≡ Some rows)
  pub gone : HasNoRepeats old → (m : ℕ) (key : List Value) → slice_get old m ≡ Some key → Contains new key ⊎ (slice_get old_rows m ≡ Some [])
  pub here : IsHereMoved old before new after

-- the number of a key once that of this number is removed: the last key has its number then
abbrev pub renumbered : ℕ → ℕ → Option ℕ → Option ℕ
renumbered last number o = option_map (λ m. cond (m == last) number m) o

-- No key is removed, some are and then more, and one is: the last key takes its number.
abbrev pub NoneIsRemoved : Type 0
NoneIsRemoved = (keys : List (List Value)) (rows : List Rows) (here : Option ℕ) → AreRemoved keys rows here keys rows here

abbrev pub MoreAreRemoved : Type 0
MoreAreRemoved = (a b c : List (List Value)) (ra rb rc : List Rows) (ha hb hc : Option ℕ) →
    AreRemoved a ra ha b rb hb → AreRemoved b rb hb c rc hc → AreRemoved a ra ha c rc hc

abbrev pub OneIsRemoved : Type 0
OneIsRemoved = (keys : List (List Value)) (rows : List Rows) (here : Option ℕ) (number : ℕ) (key : List Value) (lists : Rows) →
    length rows ≡ length keys → slice_get rows number ≡ Some [] → (here ≡ Some number → ⊥) →
    AreRemoved keys rows here (swap_remove keys number key) (swap_remove rows number lists) (renumbered (length keys - 1) number here)
