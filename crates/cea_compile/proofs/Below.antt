-- The sets of a tree hold no number that the tree does not have.
use Rattle.std.proofs.Common.{◌≡◌, refl, sym, subst, ℕ, ◌<◌, ◌⊎◌, inl, inr, Bool, true, ◌&&◌, ◌||◌, Contains, length, slice_index_or, arith}
use Rattle.std.specs.List.{range_with_len}
use Rattle.std.proofs.lemmas.List.Elements.{Contains-append_left, Contains-append_right}
use Rattle.std.proofs.lemmas.List.FromFn.{get_or-range_with_len, length-range_with_len}
use Rattle.query_leaves.specs.declared.Leaves.{Leaves}
use Rattle.query_leaves.specs.Lawful.{numbers, AreNumbered}
use Rattle.std.proofs.lemmas.Bool.{eqb-true, and_parts, or_cases, false≢true}
use Rattle.query_leaves.specs.declared.Shape.{Shape}
use Rattle.query_leaves.specs.Shapes.{tree_of_shape}
use Rattle.query_leaves.specs.LeafTree.{LeafTree, leaf, none, sequence, either, plus}
use Rattle.cea_determinise.specs.Runs.{agrees}
use Rattle.cea_compile.specs.Compiled.{first_set, last_set, follow_set}
use Rattle.cea_compile.specs.Found.{AreBelow}

pub last_below : (size : ℕ) (t : LeafTree ℕ) → AreBelow size t → (k : ℕ) → last_set t k ≡ true → k < size
last_below size (leaf n) h k e = subst (λ m. m < size) (sym (eqb-true k n e)) h
last_below size none h k e = absurd (false≢true e)
last_below size (sequence tight a b) h k e = last_below size b h.1 k e
last_below size (either a b) h k e = go (λ l. last_below size a h.0 k l) (λ l. last_below size b h.1 k l) (or_cases (last_set a k) (last_set b k) e)
  where
    go : (last_set a k ≡ true → k < size) → (last_set b k ≡ true → k < size) → (last_set a k ≡ true) ⊎ (last_set b k ≡ true) → k < size
    go f g (inl l) = f l
    go f g (inr l) = g l
last_below size (plus tight a) h k e = last_below size a h k e

-- the same of a shape under another name
pub last_at : (size : ℕ) (s u : Shape) → u ≡ s → AreBelow size (tree_of_shape s) → (k : ℕ) → last_set (tree_of_shape u) k ≡ true → k < size
last_at size s u e h k l = last_below size (tree_of_shape s) h k (subst (λ x. last_set (tree_of_shape x) k ≡ true) e l)

pub first_below : (size : ℕ) (t : LeafTree ℕ) → AreBelow size t → (k : ℕ) → first_set t k ≡ true → k < size
first_below size (leaf n) h k e = subst (λ m. m < size) (sym (eqb-true k n e)) h
first_below size none h k e = absurd (false≢true e)
first_below size (sequence tight a b) h k e = first_below size a h.0 k e
first_below size (either a b) h k e = go (λ l. first_below size a h.0 k l) (λ l. first_below size b h.1 k l) (or_cases (first_set a k) (first_set b k) e)
  where
    go : (first_set a k ≡ true → k < size) → (first_set b k ≡ true → k < size) → (first_set a k ≡ true) ⊎ (first_set b k ≡ true) → k < size
    go f g (inl l) = f l
    go f g (inr l) = g l
first_below size (plus tight a) h k e = first_below size a h k e

linked_below : (size : ℕ) (b l : Bool) (t : LeafTree ℕ) → AreBelow size t → (k : ℕ) → (b && (l && first_set t k)) ≡ true → k < size
linked_below size b l t h k e = first_below size t h k (and_parts l (first_set t k) (and_parts b (l && first_set t k) e).1).1

-- what follows is a number of the tree too
pub follow_below : (size : ℕ) (t : LeafTree ℕ) → AreBelow size t → (tight : Bool) (j k : ℕ) → follow_set t tight j k ≡ true → k < size
follow_below size (leaf n) h tight j k e = absurd (false≢true e)
follow_below size none h tight j k e = absurd (false≢true e)
follow_below size (sequence u a b) h tight j k e = go (λ l. follow_below size a h.0 tight j k l) (λ l. follow_below size b h.1 tight j k l) (or_cases (follow_set a tight j k) (follow_set b tight j k || (agrees u tight && (last_set a j && first_set b k))) e)
  where
    go_on : (follow_set b tight j k ≡ true → k < size) → (follow_set b tight j k ≡ true) ⊎ ((agrees u tight && (last_set a j && first_set b k)) ≡ true) → k < size
    go_on g (inl l) = g l
    go_on g (inr l) = linked_below size (agrees u tight) (last_set a j) b h.1 k l

    go : (follow_set a tight j k ≡ true → k < size) → (follow_set b tight j k ≡ true → k < size) → (follow_set a tight j k ≡ true) ⊎ ((follow_set b tight j k || (agrees u tight && (last_set a j && first_set b k))) ≡ true) → k < size
    go f g (inl l) = f l
    go f g (inr l) = go_on g (or_cases (follow_set b tight j k) (agrees u tight && (last_set a j && first_set b k)) l)
follow_below size (either a b) h tight j k e = go (λ l. follow_below size a h.0 tight j k l) (λ l. follow_below size b h.1 tight j k l) (or_cases (follow_set a tight j k) (follow_set b tight j k) e)
  where
    go : (follow_set a tight j k ≡ true → k < size) → (follow_set b tight j k ≡ true → k < size) → (follow_set a tight j k ≡ true) ⊎ (follow_set b tight j k ≡ true) → k < size
    go f g (inl l) = f l
    go f g (inr l) = g l
follow_below size (plus u a) h tight j k e = go (λ l. follow_below size a h tight j k l) (or_cases (follow_set a tight j k) (agrees u tight && (last_set a j && first_set a k)) e)
  where
    go : (follow_set a tight j k ≡ true → k < size) → (follow_set a tight j k ≡ true) ⊎ ((agrees u tight && (last_set a j && first_set a k)) ≡ true) → k < size
    go f (inl l) = f l
    go f (inr l) = linked_below size (agrees u tight) (last_set a j) a h k l

-- numbers that are all listed below a size
below_of_numbers : (size : ℕ) (t : LeafTree ℕ) → ((k : ℕ) → Contains (numbers t) k → k < size) → AreBelow size t
below_of_numbers size (leaf n) f = f n (0, omega arith, refl)
below_of_numbers size none f = tt
below_of_numbers size (sequence tight a b) f = (below_of_numbers size a (λ k c. f k (Contains-append_left (numbers a) (numbers b) k c)), below_of_numbers size b (λ k c. f k (Contains-append_right (numbers a) (numbers b) k c)))
below_of_numbers size (either a b) f = (below_of_numbers size a (λ k c. f k (Contains-append_left (numbers a) (numbers b) k c)), below_of_numbers size b (λ k c. f k (Contains-append_right (numbers a) (numbers b) k c)))
below_of_numbers size (plus tight a) f = below_of_numbers size a f

in_range : (size k : ℕ) → Contains (range_with_len 0 size) k → k < size
in_range size k c = at c.0 c.1 c.2
  where
    at : (i : ℕ) → i < length (range_with_len 0 size) → slice_index_or (range_with_len 0 size) i k ≡ k → k < size
    at i less e =
        let len = length-range_with_len 0 size in
        let within : i < size = omega arith in
        let here = get_or-range_with_len 0 size i k within in
        omega arith

-- the shape of numbered leaves has numbers of leaves alone
pub numbered_below : (l : Leaves) → AreNumbered l → AreBelow (length l.list) (tree_of_shape l.shape)
numbered_below l h = below_of_numbers (length l.list) (tree_of_shape l.shape) (λ k c. in_range (length l.list) k (subst (λ ns. Contains ns k) h c))
