-- Small runs, computed.
use Rattle.std.proofs.Common.{◌≡◌, refl, ℕ, Bool, true, false, List, [], ◌∷◌, eqb}
use Rattle.query_leaves.specs.LeafTree.{LeafTree, leaf, sequence, plus}
use Rattle.query_leaves.specs.Expand.{Occurrence}
use Rattle.cea_determinise.specs.Runs.{Entry, has_mark}
use Rattle.cea_determinise.specs.Strict.{begin, run_standing, accepted_standing}
use Rattle.cea_compile.specs.Compiled.{automaton_of}

abbrev named : List ℕ → Occurrence
named name = record { type = name; tests = []; names = name ∷ [] }

-- type 65 then type 66
abbrev a_then_b : Bool → LeafTree Occurrence
a_then_b tight = sequence tight (leaf (named (65 ∷ []))) (leaf (named (66 ∷ [])))

abbrev event : ℕ → ℕ → Entry
event p k = record { position = p; bits = eqb k }

abbrev answers : LeafTree Occurrence → Bool → List ℕ → List Entry → Bool
answers t strict marks xs = accepted_standing (automaton_of t) (run_standing (automaton_of t) strict (has_mark marks) begin xs)

loose_from_0 : answers (a_then_b false) false (0 ∷ 2 ∷ []) (event 0 0 ∷ event 1 0 ∷ event 2 1 ∷ []) ≡ true
loose_from_0 = refl

loose_from_1 : answers (a_then_b false) false (1 ∷ 2 ∷ []) (event 1 0 ∷ event 2 1 ∷ []) ≡ true
loose_from_1 = refl

all_three : answers (a_then_b false) false (0 ∷ 1 ∷ 2 ∷ []) (event 0 0 ∷ event 1 0 ∷ event 2 1 ∷ []) ≡ false
all_three = refl

tight_from_0 : answers (a_then_b true) false (0 ∷ 2 ∷ []) (event 0 0 ∷ event 1 0 ∷ event 2 1 ∷ []) ≡ false
tight_from_0 = refl

tight_from_1 : answers (a_then_b true) false (1 ∷ 2 ∷ []) (event 1 0 ∷ event 2 1 ∷ []) ≡ true
tight_from_1 = refl

strict_from_0 : answers (a_then_b false) true (0 ∷ 2 ∷ []) (event 0 0 ∷ event 1 0 ∷ event 2 1 ∷ []) ≡ false
strict_from_0 = refl

repeated : LeafTree Occurrence
repeated = plus false (leaf (named (65 ∷ [])))

repeated_ends : answers (plus false (leaf (named (65 ∷ [])))) false (0 ∷ 2 ∷ []) (event 0 0 ∷ event 1 0 ∷ event 2 0 ∷ []) ≡ true
repeated_ends = refl

repeated_tight : answers (plus true (leaf (named (65 ∷ [])))) false (0 ∷ 2 ∷ []) (event 0 0 ∷ event 1 0 ∷ event 2 0 ∷ []) ≡ false
repeated_tight = refl
