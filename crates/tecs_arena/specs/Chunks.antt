-- Blocks of places that double in size, and the row of all their places.
use Rattle.std.specs.Prelude.{◌≡◌, ℕ, zero, suc, ◌+◌, ◌-◌, ◌*◌, ◌^◌, List, [], ◌∷◌, length, Option, Some, None, get_or}
use Rattle.std.specs.List.{flat_map}

module _ {X : Type 0} where
  -- the place with this number holds a value
  abbrev pub IsFilled : List (Option X) → ℕ → Type 0
  IsFilled cs i = (x : X) × (get_or cs i None ≡ Some x)

  -- the values of the places that hold one
  abbrev pub values_of : List (Option X) → List X
  values_of [] = []
  values_of (None ∷ cs) = values_of cs
  values_of (Some x ∷ cs) = x ∷ values_of cs

  -- the places of a chunk, none where it was not made
  abbrev pub places : Option (List (Option X)) → List (Option X)
  places None = []
  places (Some cs) = cs

  -- all places, those of the first chunk first
  abbrev pub row : List (Option (List (Option X))) → List (Option X)
  row table = flat_map places table

  -- so many chunks are made: the first has n places, each other one twice as many as the one before it
  abbrev pub AreChunks : ℕ → ℕ → List (Option (List (Option X))) → Type 0
  AreChunks n zero table = row table ≡ []
  AreChunks n (suc k) [] = ⊥
  AreChunks n (suc k) (None ∷ table) = ⊥
  AreChunks n (suc k) (Some cs ∷ table) = (length cs ≡ n) × AreChunks (n + n) k table

-- The places of all chunks in one row, and how many chunks there are.
pub record Row (X : Type 0) : Type 0 where
  pub places : List (Option X)
  pub chunks : ℕ

-- how many places the first k chunks have
abbrev pub places_of : ℕ → ℕ
places_of k = 64 * 2 ^ k - 64
