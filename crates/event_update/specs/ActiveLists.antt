-- The states of a key that have open matches, each with its list.
use Rattle.std.specs.Prelude.{ℕ, zero, suc, List, [], ◌∷◌, map}
use Rattle.cer_base.specs.declared.node.Root.{Root}

-- The states in the order in which they were entered, each with the entries of its list.
pub record ActiveLists : Type 0 where
  pub entries : List (ℕ × List Root)

-- the states
abbrev pub keys : ActiveLists → List ℕ
keys a = map (λ (r : ℕ × List Root). r.0) a.entries

-- the lists
abbrev pub values : ActiveLists → List (List Root)
values a = map (λ (r : ℕ × List Root). r.1) a.entries

-- the rows with another list at a place
abbrev pub set_list_at : List (ℕ × List Root) → ℕ → List Root → List (ℕ × List Root)
set_list_at [] k l = []
set_list_at (r ∷ rows) zero l = (r.0, l) ∷ rows
set_list_at (r ∷ rows) (suc k) l = r ∷ set_list_at rows k l
