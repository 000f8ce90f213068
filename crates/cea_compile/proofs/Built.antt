-- The automaton that is built is that of the leaves.
use Rattle.std.proofs.Common.{◌≡◌, refl, sym, ap, subst, ◌∙◌, ℕ, ◌<◌, Bool, true, false, ◌||◌, List, [], length, slice_get, slice_index_or, Option, Some, None, arith}
use Rattle.std.proofs.lemmas.Bool.{false≢true}
use Rattle.std.proofs.lemmas.Option.{slice_get_within}
use Rattle.std.proofs.lemmas.List.{get_or_default}
use Rattle.query_leaves.specs.declared.Leaf.{Leaf}
use Rattle.query_leaves.specs.declared.Leaves.{Leaves}
use Rattle.query_leaves.specs.Shapes.{tree_of_shape}
use Rattle.cer_base.specs.Bits.{has, room_for}
use Rattle.cea_determinise.specs.declared.cea.Cea.{Cea}
use Rattle.cea_determinise.specs.Runs.{LeafSet, Automaton}
use Rattle.cea_determinise.specs.Cea.{row, IsSet, AreRows, IsWellFormed, automaton_of_cea}
use Rattle.cea_compile.specs.declared.followers.Followers.{Followers}
use Rattle.cea_compile.specs.Compiled.{first_set, last_set, follow_set}
use Rattle.cea_compile.specs.Found.{HaveRoom, FollowersHaveRoom, pairs, AreBelow, EndsHaveRoom}
use Rattle.cea_compile.specs.declared.ends.Ends.{Ends}
use Rattle.cea_compile.proofs.Below.{first_below, last_below, follow_below}
use Rattle.cea_compile.specs.LeafAutomaton.{is_marked_leaf, automaton_of_leaves}

-- automata whose sets agree at each number are one
one_automaton : (a b : Automaton) → a.size ≡ b.size → ((k : ℕ) → a.first k ≡ b.first k) → ((k : ℕ) → a.last k ≡ b.last k) → ((j k : ℕ) → a.near j k ≡ b.near j k) → ((j k : ℕ) → a.far j k ≡ b.far j k) → ((k : ℕ) → a.marked k ≡ b.marked k) → a ≡ b
one_automaton a b size first last near far marked = λ i. record {
  size = size i;
  first = λ k. first k i;
  last = λ k. last k i;
  near = λ j k. near j k i;
  far = λ j k. far j k i;
  marked = λ k. marked k i;
}

pub built : (l : Leaves) (a : Cea) (list : List Leaf) (blank found : Followers) → list ≡ l.list → a.size ≡ length list → ((k : ℕ) → has a.first k ≡ first_set (tree_of_shape l.shape) k) → ((k : ℕ) → has a.last k ≡ last_set (tree_of_shape l.shape) k) → ((tight : Bool) (j k : ℕ) → pairs blank tight j k ≡ false) → ((tight : Bool) (j k : ℕ) → pairs found tight j k ≡ pairs blank tight j k || follow_set (tree_of_shape l.shape) tight j k) → ((j k : ℕ) → row a.near.items j k ≡ pairs found true j k) → ((j k : ℕ) → row a.far.items j k ≡ pairs found false j k) → ((k : ℕ) → has a.marked k ≡ is_marked_leaf (slice_get list k)) → automaton_of_cea a ≡ automaton_of_leaves l
built l a list blank found same size first last empty linked near far marked =
    one_automaton (automaton_of_cea a) (automaton_of_leaves l) (size ∙ ap length same) first last
    (λ j k. near j k ∙ (linked true j k ∙ ap (λ b. b || follow_set (tree_of_shape l.shape) true j k) (empty true j k)))
    (λ j k. far j k ∙ (linked false j k ∙ ap (λ b. b || follow_set (tree_of_shape l.shape) false j k) (empty false j k)))
    (λ k. marked k ∙ ap (λ ls. is_marked_leaf (slice_get ls k)) same)

set_of : (size : ℕ) (set : List Bool) (f : LeafSet) → length set ≡ room_for size → ((k : ℕ) → has set k ≡ f k) → ((k : ℕ) → f k ≡ true → k < size) → IsSet size set
set_of size set f room same below = record { room = room; below = λ k h. below k (sym (same k) ∙ h) }

rows_of : (size : ℕ) (rows : List (List Bool)) (f : ℕ → LeafSet) → HaveRoom size rows → ((j k : ℕ) → row rows j k ≡ f j k) → ((j k : ℕ) → f j k ≡ true → k < size) → AreRows size rows
rows_of size rows f room same below = record {
  count = room.count;
  sets = λ j d less. subst (IsSet size) (get_or_default rows j [] d less) (set_of size (slice_index_or rows j []) (f j) (let count = room.count in room.each j (omega arith)) (same j) (below j));
}

-- each set that is built is one of leaves
pub well_formed : (l : Leaves) (a : Cea) (list : List Leaf) (blank found : Followers) (e : Ends) → AreBelow (length l.list) (tree_of_shape l.shape) → list ≡ l.list → a.size ≡ length list → a.first ≡ e.first → a.last ≡ e.last → EndsHaveRoom (length list) e → ((k : ℕ) → has e.first k ≡ first_set (tree_of_shape l.shape) k) → ((k : ℕ) → has e.last k ≡ last_set (tree_of_shape l.shape) k) → ((tight : Bool) (j k : ℕ) → pairs blank tight j k ≡ false) → ((tight : Bool) (j k : ℕ) → pairs found tight j k ≡ pairs blank tight j k || follow_set (tree_of_shape l.shape) tight j k) → FollowersHaveRoom (length list) found → a.near.items ≡ found.near.items → a.far.items ≡ found.far.items → length a.marked ≡ room_for (length list) → ((k : ℕ) → has a.marked k ≡ is_marked_leaf (slice_get list k)) → IsWellFormed a
well_formed l a list blank found e below same size first_is last_is ends first last empty linked room near_is far_is marked_room marked = record {
  first = subst (IsSet a.size) (sym first_is) (set_of a.size e.first (first_set (tree_of_shape l.shape)) (ends.first ∙ ap room_for (sym size)) first (λ k h. first_below a.size (tree_of_shape l.shape) inside k h));
  last = subst (IsSet a.size) (sym last_is) (set_of a.size e.last (last_set (tree_of_shape l.shape)) (ends.last ∙ ap room_for (sym size)) last (λ k h. last_below a.size (tree_of_shape l.shape) inside k h));
  near = subst (AreRows a.size) (sym near_is) (rows_of a.size found.near.items (follow_set (tree_of_shape l.shape) true) (subst (λ n. HaveRoom n found.near.items) (sym size) room.near) (λ j k. linked true j k ∙ ap (λ b. b || follow_set (tree_of_shape l.shape) true j k) (empty true j k)) (λ j k h. follow_below a.size (tree_of_shape l.shape) inside true j k h));
  far = subst (AreRows a.size) (sym far_is) (rows_of a.size found.far.items (follow_set (tree_of_shape l.shape) false) (subst (λ n. HaveRoom n found.far.items) (sym size) room.far) (λ j k. linked false j k ∙ ap (λ b. b || follow_set (tree_of_shape l.shape) false j k) (empty false j k)) (λ j k h. follow_below a.size (tree_of_shape l.shape) inside false j k h));
  marked = set_of a.size a.marked (λ k. is_marked_leaf (slice_get list k)) (marked_room ∙ ap room_for (sym size)) marked (λ k h. marked_below k (slice_get list k) refl h);
}
  where
    inside : AreBelow a.size (tree_of_shape l.shape)
    inside = subst (λ n. AreBelow n (tree_of_shape l.shape)) (sym (size ∙ ap length same)) below

    marked_below : (k : ℕ) (o : Option Leaf) → slice_get list k ≡ o → is_marked_leaf o ≡ true → k < a.size
    marked_below k None e h = absurd (false≢true h)
    marked_below k (Some m) e h = let less = slice_get_within list k m e in let s = size in omega arith
