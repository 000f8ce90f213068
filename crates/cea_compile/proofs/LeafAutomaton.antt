-- The leaves of a query tell its automaton and its entries.
use Rattle.std.proofs.Common.{◌≡◌, refl, sym, ap, ap₂, ◌∙◌, ℕ, zero, suc, List, [], ◌∷◌, length, Some, slice_get}
use Rattle.stream_schema.specs.Types.{Declared}
use Rattle.stream_schema.specs.declared.Event.{Event}
use Rattle.query_leaves.specs.declared.Leaf.{Leaf}
use Rattle.query_leaves.specs.Expand.{Occurrence, tree_of}
use Rattle.query_leaves.specs.Leaves.{occurrences, numbered, leaf_is_marked}
use Rattle.query_leaves.specs.Shapes.{AreLeavesOf}
use Rattle.cea_determinise.specs.Runs.{LeafSet}
use Rattle.cea_compile.specs.Compiled.{automaton_over}
use Rattle.cea_compile.specs.DeterminisedRuns.{reads_at, entry_at}
use Rattle.cea_compile.specs.LeafAutomaton.{is_marked_leaf, LeavesTellQuery}
use Rattle.query_leaves.specs.Conditions.{can_read, leaf_conditions}

as_many : (schema : Declared) (os : List Occurrence) (ls : List Leaf) → AreLeavesOf schema os ls → length ls ≡ length os
as_many schema [] [] h = refl
as_many schema [] (l ∷ ls) h = absurd h
as_many schema (o ∷ os) [] h = absurd h
as_many schema (o ∷ os) (l ∷ ls) h = ap suc (as_many schema os ls h.1)

same_marks : (schema : Declared) (os : List Occurrence) (ls : List Leaf) → AreLeavesOf schema os ls → (k : ℕ) → is_marked_leaf (slice_get ls k) ≡ leaf_is_marked os k
same_marks schema [] [] h k = refl
same_marks schema [] (l ∷ ls) h k = absurd h
same_marks schema (o ∷ os) [] h k = absurd h
same_marks schema (o ∷ os) (l ∷ ls) h zero = h.0.marked
same_marks schema (o ∷ os) (l ∷ ls) h (suc k) = same_marks schema os ls h.1 k

same_reads : (schema : Declared) (os : List Occurrence) (ls : List Leaf) → AreLeavesOf schema os ls → (event : Event) (k : ℕ) → can_read (slice_get ls k) event ≡ reads_at schema (slice_get os k) (Some event)
same_reads schema [] [] h event k = refl
same_reads schema [] (l ∷ ls) h event k = absurd h
same_reads schema (o ∷ os) [] h event k = absurd h
same_reads schema (o ∷ os) (l ∷ ls) h event zero = h.0.reads event
same_reads schema (o ∷ os) (l ∷ ls) h event (suc k) = same_reads schema os ls h.1 event k

-- sets that agree at each number are one
one_set : (a b : LeafSet) → ((k : ℕ) → a k ≡ b k) → a ≡ b
one_set a b h = λ i k. h k i

pub leaves_tell : LeavesTellQuery
leaves_tell schema q l shape list = record {
  automaton = ap₂ (λ t size. automaton_over t size (λ k. is_marked_leaf (slice_get l.list k))) shape (as_many schema (occurrences (tree_of q)) l.list list) ∙
      ap (automaton_over (numbered 0 (tree_of q)) (length (occurrences (tree_of q)))) (one_set (λ k. is_marked_leaf (slice_get l.list k)) (leaf_is_marked (occurrences (tree_of q))) (same_marks schema (occurrences (tree_of q)) l.list list));
  bits = λ events p event at. one_set (leaf_conditions l.list event) (entry_at schema q events p).bits (λ k. same_reads schema (occurrences (tree_of q)) l.list list event k ∙ ap (reads_at schema (slice_get (occurrences (tree_of q)) k)) (sym at));
}
