-- What steps bind, computed: for each name of a leaf the positions of the steps whose leaf has it.
-- Nobody needs to believe these; the public contracts speak of the meaning alone.
use Rattle.std.specs.Prelude.{ℕ, Bool, List, [], ◌∷◌, Option, Some, None, if◌then◌else◌, bytes_eq, fold, slice_index_or}
use Rattle.std.specs.List.{list_any, filter_map, insert}
use Rattle.std.specs.Ordering.{nat_cmp}
use Rattle.std.specs.Cmp.Lexicographic.{slice_cmp}
use Rattle.std.specs.BTreeSet.{insert_key}
use Rattle.std.specs.Prelude.{Result, Ok, Err}
use Rattle.cea_compile.specs.Paths.{Step}
use Rattle.match_explain.specs.LeafNames.{LeafNames}
use Rattle.match_explain.specs.declared.Binding.{Binding}

-- the names with one more at its place, unless it is among them
abbrev pub with_one : List (List ℕ) → List ℕ → List (List ℕ)
with_one = insert_key (slice_cmp nat_cmp)

-- with each of the others
abbrev pub with_each : List (List ℕ) → List (List ℕ) → List (List ℕ)
with_each = fold with_one

-- the names of all leaves, each once, ascending by their bytes
abbrev pub all_names : LeafNames → List (List ℕ)
all_names = fold with_each []

-- where a name is among the names, or where it belongs
abbrev pub placed : List (List ℕ) → List ℕ → Result ℕ ℕ → List (List ℕ)
placed names name (Ok k) = names
placed names name (Err k) = insert names k name

-- the names of the leaf with the number
abbrev pub names_at : LeafNames → ℕ → List (List ℕ)
names_at leaves k = slice_index_or leaves k []

abbrev pub has_name : List (List ℕ) → List ℕ → Bool
has_name names name = list_any (λ n. bytes_eq n name) names

-- the step's position, where its leaf has the name
abbrev pub position_if : LeafNames → List ℕ → Step → Option ℕ
position_if leaves name s = if has_name (names_at leaves s.leaf) name then Some s.position else None

abbrev pub positions_of : LeafNames → List Step → List ℕ → List ℕ
positions_of leaves steps name = filter_map (position_if leaves name) steps

-- the name with its positions, where it has any
abbrev pub binding_if : List ℕ → List ℕ → Option Binding
binding_if name [] = None
binding_if name (p ∷ ps) = Some (record { name = name; positions = p ∷ ps })

abbrev pub bindings_of : LeafNames → List Step → List Binding
bindings_of leaves steps = filter_map (λ name. binding_if name (positions_of leaves steps name)) (all_names leaves)
