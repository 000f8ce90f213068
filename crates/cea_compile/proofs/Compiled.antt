-- The computed automaton is the tree's.
use Rattle.std.proofs.Common.{◌≡◌, refl, ℕ, Bool, true, false, ◌&&◌, ◌||◌, Decides}
use Rattle.std.proofs.lemmas.Bool.{eqb-true, eq-eqb, false≢true, not-true, not_from_false}
use Rattle.std.proofs.lemmas.Bool.Decides.{Decides-and, Decides-or, Decides-like}
use Rattle.query_leaves.specs.LeafTree.{LeafTree, leaf, none, sequence, either, plus}
use Rattle.query_leaves.specs.Expand.{Occurrence}
use Rattle.query_leaves.specs.Leaves.{numbered}
use Rattle.cea_determinise.specs.Runs.{agrees, follow}
use Rattle.cea_compile.specs.Positions.{First, Last, HasFollower}
use Rattle.cea_compile.specs.Compiled.{first_set, last_set, follow_set, automaton_of}
use Rattle.cea_compile.proofs.Answers.{IsLeafAutomaton}

never : {P : Type 0} → (P → ⊥) → Decides false P
never f = (λ h. absurd (false≢true h), λ p. absurd (f p))

same_flag : (u t : Bool) → Decides (agrees u t) (t ≡ u)
same_flag true t = (λ h. h, λ h. h)
same_flag false t = (λ h. not-true t h, λ h. not_from_false t h)

first_is : (t : LeafTree ℕ) (k : ℕ) → Decides (first_set t k) (First t k)
first_is (leaf n) k = (eqb-true k n, eq-eqb k n)
first_is none k = never (λ h. h)
first_is (sequence u a b) k = first_is a k
first_is (either a b) k = Decides-or (first_set a k) (first_set b k) (first_is a k) (first_is b k)
first_is (plus u a) k = first_is a k

last_is : (t : LeafTree ℕ) (k : ℕ) → Decides (last_set t k) (Last t k)
last_is (leaf n) k = (eqb-true k n, eq-eqb k n)
last_is none k = never (λ h. h)
last_is (sequence u a b) k = last_is b k
last_is (either a b) k = Decides-or (last_set a k) (last_set b k) (last_is a k) (last_is b k)
last_is (plus u a) k = last_is a k

-- from a last leaf of the one to a first leaf of the other
crossing_is : (u t : Bool) (a b : LeafTree ℕ) (j k : ℕ) → Decides (agrees u t && (last_set a j && first_set b k)) ((t ≡ u) × Last a j × First b k)
crossing_is u t a b j k = Decides-like (agrees u t && (last_set a j && first_set b k)) (λ (p : (t ≡ u) × (Last a j × First b k)). (p.0, p.1.0, p.1.1)) (λ p. (p.0, (p.1, p.2))) (Decides-and (agrees u t) (last_set a j && first_set b k) (same_flag u t) (Decides-and (last_set a j) (first_set b k) (last_is a j) (first_is b k)))

follow_is : (t : LeafTree ℕ) (tight : Bool) (j k : ℕ) → Decides (follow_set t tight j k) (HasFollower t tight j k)
follow_is (leaf n) t j k = never (λ h. h)
follow_is none t j k = never (λ h. h)
follow_is (sequence u a b) t j k = Decides-or (follow_set a t j k) (follow_set b t j k || (agrees u t && (last_set a j && first_set b k))) (follow_is a t j k) (Decides-or (follow_set b t j k) (agrees u t && (last_set a j && first_set b k)) (follow_is b t j k) (crossing_is u t a b j k))
follow_is (either a b) t j k = Decides-or (follow_set a t j k) (follow_set b t j k) (follow_is a t j k) (follow_is b t j k)
follow_is (plus u a) t j k = Decides-or (follow_set a t j k) (agrees u t && (last_set a j && first_set a k)) (follow_is a t j k) (crossing_is u t a a j k)

follows_is : (t : LeafTree Occurrence) (tight : Bool) (j k : ℕ) → Decides (follow (automaton_of t) tight j k) (HasFollower (numbered 0 t) tight j k)
follows_is t true j k = follow_is (numbered 0 t) true j k
follows_is t false j k = follow_is (numbered 0 t) false j k

pub automaton_is : (t : LeafTree Occurrence) → IsLeafAutomaton t (automaton_of t)
automaton_is t = record { pairs = record { first = first_is (numbered 0 t); last = last_is (numbered 0 t); follow = follows_is t }; marks = λ k. refl }
