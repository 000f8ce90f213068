-- The leaves of a checked query are lawful.
use Rattle.std.proofs.Common.{◌≡◌, refl, sym, ap, ap₂, ◌∙◌, ℕ, zero, suc, ◌+◌, List, [], ◌∷◌, ◌++◌, length, arith, length-append}
use Rattle.std.specs.Prelude.{All}
use Rattle.std.specs.List.{AllByRecursion, range_with_len}
use Rattle.std.proofs.lemmas.List.Elements.{All-from_recursion}
use Rattle.stream_schema.specs.Types.{Declared}
use Rattle.cel_terms.specs.declared.Query.{Query}
use Rattle.query_leaves.specs.declared.Leaf.{Leaf}
use Rattle.query_leaves.specs.declared.Leaves.{Leaves}
use Rattle.cel_terms.specs.Checked.{IsChecked}
use Rattle.query_leaves.specs.LeafTree.{LeafTree, leaf, none, sequence, either, plus}
use Rattle.query_leaves.specs.Expand.{Occurrence, tree_of}
use Rattle.query_leaves.specs.Leaves.{occurrences, numbered}
use Rattle.query_leaves.specs.Shapes.{tree_of_shape, AreLeavesOf}
use Rattle.query_leaves.specs.Lawful.{numbers, TestHasFewPlaces, AreNumbered, IsLawful}
use Rattle.query_leaves.specs.Tests.{OccurrenceHasFewPlaces, AreMadeOf}
use Rattle.query_leaves.proofs.Counts.{query_size}
use Rattle.query_leaves.proofs.Places.{checked_few}

range_split : (a n m : ℕ) → range_with_len a (n + m) ≡ range_with_len a n ++ range_with_len (a + n) m
range_split a zero m =
    let s : a ≡ a + 0 = omega arith in
    let z : 0 + m ≡ m = omega arith in
    ap (range_with_len a) z ∙ ap (λ b. range_with_len b m) s
range_split a (suc n) m =
    let s : suc n + m ≡ suc (n + m) = omega arith in
    let b : (a + 1) + n ≡ a + suc n = omega arith in
    ap (range_with_len a) s ∙ ap (λ xs. a ∷ xs) (range_split (a + 1) n m ∙ ap (λ k. range_with_len (a + 1) n ++ range_with_len k m) b)

both_parts : (a b : LeafTree Occurrence) (base : ℕ) → range_with_len base (length (occurrences a)) ++ range_with_len (base + length (occurrences a)) (length (occurrences b)) ≡ range_with_len base (length (occurrences a ++ occurrences b))
both_parts a b base = sym (ap (range_with_len base) (length-append (occurrences a) (occurrences b)) ∙ range_split base (length (occurrences a)) (length (occurrences b)))

-- The numbers of a numbered tree rise by one from left to right.
numbers_in_turn : (t : LeafTree Occurrence) (base : ℕ) → numbers (numbered base t) ≡ range_with_len base (length (occurrences t))
numbers_in_turn (leaf o) base = refl
numbers_in_turn none base = refl
numbers_in_turn (sequence tight a b) base = ap₂ (λ x y. x ++ y) (numbers_in_turn a base) (numbers_in_turn b (base + length (occurrences a))) ∙ both_parts a b base
numbers_in_turn (either a b) base = ap₂ (λ x y. x ++ y) (numbers_in_turn a base) (numbers_in_turn b (base + length (occurrences a))) ∙ both_parts a b base
numbers_in_turn (plus tight a) base = numbers_in_turn a base

pub leaves_made : (schema : Declared) (os : List Occurrence) (ls : List Leaf) → AreMadeOf schema os ls → AreLeavesOf schema os ls
leaves_made schema [] [] h = tt
leaves_made schema [] (l ∷ ls) h = absurd h
leaves_made schema (o ∷ os) [] h = absurd h
leaves_made schema (o ∷ os) (l ∷ ls) h = (h.0.leaf, leaves_made schema os ls h.1)

as_many : (schema : Declared) (os : List Occurrence) (ls : List Leaf) → AreMadeOf schema os ls → length ls ≡ length os
as_many schema [] [] h = refl
as_many schema [] (l ∷ ls) h = absurd h
as_many schema (o ∷ os) [] h = absurd h
as_many schema (o ∷ os) (l ∷ ls) h = ap (λ n. suc n) (as_many schema os ls h.1)

few_made : (schema : Declared) (os : List Occurrence) (ls : List Leaf) → AreMadeOf schema os ls → AllByRecursion OccurrenceHasFewPlaces os → AllByRecursion (λ l. All TestHasFewPlaces l.tests) ls
few_made schema [] [] h few = tt
few_made schema [] (l ∷ ls) h few = absurd h
few_made schema (o ∷ os) [] h few = absurd h
few_made schema (o ∷ os) (l ∷ ls) h few = (All-from_recursion TestHasFewPlaces l.tests (h.0.places few.0), few_made schema os ls h.1 few.1)

pub numbered_leaves : (schema : Declared) (q : Query) (leaves : Leaves) → tree_of_shape leaves.shape ≡ numbered 0 (tree_of q) → AreMadeOf schema (occurrences (tree_of q)) leaves.list → AreNumbered leaves
numbered_leaves schema q leaves shaped made = ap numbers shaped ∙ (numbers_in_turn (tree_of q) 0 ∙ ap (range_with_len 0) (sym (as_many schema (occurrences (tree_of q)) leaves.list made)))

pub lawful : (schema : Declared) (q : Query) (leaves : Leaves) → IsChecked schema q → tree_of_shape leaves.shape ≡ numbered 0 (tree_of q) → AreMadeOf schema (occurrences (tree_of q)) leaves.list → IsLawful leaves
lawful schema q leaves checked shaped made =
    let many : length leaves.list ≡ length (occurrences (tree_of q)) = as_many schema (occurrences (tree_of q)) leaves.list made in
    let size = query_size q in
    let most = checked.leaves in
    record {
      count = omega arith;
      order = ap numbers shaped ∙ (numbers_in_turn (tree_of q) 0 ∙ ap (range_with_len 0) (sym many));
      places = All-from_recursion (λ l. All TestHasFewPlaces l.tests) leaves.list (few_made schema (occurrences (tree_of q)) leaves.list made (checked_few schema q checked));
    }
