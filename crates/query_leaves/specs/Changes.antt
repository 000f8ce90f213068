-- What changes do to an occurrence.
-- Nobody needs to believe these; the public contracts speak of the tree of leaves alone.
use Rattle.std.specs.Prelude.{ℕ, Bool, cond, false, not, List, [], ◌∷◌, fold, map, bytes_eq}
use Rattle.cel_terms.specs.declared.Pred.{Pred}
use Rattle.cel_terms.specs.Meaning.{lists_name, with_name, only_names}
use Rattle.query_leaves.specs.declared.occurrence.Change.{Change}
use Rattle.query_leaves.specs.declared.occurrence.Change.TheVariants as change
use Rattle.query_leaves.specs.declared.occurrence.TheConstants.{EVERY}
use Rattle.query_leaves.specs.Digests.{digest}
use Rattle.query_leaves.specs.Expand.{Occurrence}

abbrev pub change_names : Change → List (List ℕ) → List (List ℕ)
change_names (change.Named name) names = with_name name.now.text names
change_names (change.Keep listed) names = only_names listed.now names
change_names (change.Test name pred) names = names

abbrev pub change_tests : Change → List (List ℕ) → List Pred → List Pred
change_tests (change.Test name pred) names tests = cond (lists_name names name.now.text) (pred.now ∷ tests) tests
change_tests _ names tests = tests

abbrev pub change_leaf : Change → Occurrence → Occurrence
change_leaf c o = record { type = o.type; tests = change_tests c o.names o.tests; names = change_names c o.names }

-- all of them, one after another
abbrev pub change_all : List Change → Occurrence → Occurrence
change_all cs o = fold (λ o c. change_leaf c o) o cs

-- the occurrence of a type as it stands in a formula
abbrev pub occurrence_of : List ℕ → Occurrence
occurrence_of name = record { type = name; tests = []; names = name ∷ [] }

-- the occurrence of a type with a name of its own
abbrev pub named_occurrence : List ℕ → List ℕ → Occurrence
named_occurrence own name = record { type = name; tests = []; names = own ∷ name ∷ [] }

-- the digest of the name that it asks for, or the number of those that are made at each leaf
abbrev pub change_key : Change → ℕ
change_key (change.Test name pred) = digest name.now.text
change_key _ = EVERY

-- the change does the same to an occurrence without this one of its names
abbrev pub passes_by : List ℕ → Change → Bool
passes_by own (change.Named name) = false
passes_by own (change.Keep listed) = not (lists_name (map (λ n. n.text) listed.now) own)
passes_by own (change.Test name pred) = not (bytes_eq own name.now.text)
