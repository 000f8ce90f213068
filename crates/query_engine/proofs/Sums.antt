-- Sums over the queries by their numbers.
use Rattle.std.proofs.Common.{◌≡◌, ℕ, suc, ◌+◌, ◌-◌, List, [], ◌∷◌, map, length, refl, sym, ap, subst, ◌∙◌, Some, slice_get, arith, add-zero}
use Rattle.std.specs.Prelude.{sum, sum_by}
use Rattle.std.specs.Option.{option_map_or}
use Rattle.std.specs.List.{AllZip, range_with_len}
use Rattle.std.proofs.lemmas.List.Sums.{sum_by-cons}
use Rattle.query_standing.specs.Kept.{QueryState}
use Rattle.query_standing.specs.Bounds.{update_bound, for_each_query}
use Rattle.all_or_none.specs.Phases.{Phase, kept_bound}
use Rattle.query_engine.proofs.Standing.{map_at}

-- numbered from a on, what each number costs is what the element there does
pub sum_from : {X : Type 0} (f : X → ℕ) (cost : ℕ → ℕ) (xs : List X) (a : ℕ) → ((j : ℕ) (x : X) → slice_get xs j ≡ Some x → cost (a + j) ≡ f x) → sum (map cost (range_with_len a (length xs))) ≡ sum_by f xs
sum_from f cost [] a is = refl
sum_from f cost (x ∷ xs) a is =
    let head : cost a ≡ f x = ap cost (sym (add-zero a)) ∙ is 0 x refl in
    let rest = sum_from f cost xs (a + 1) (λ j y at. ap cost (omega arith) ∙ is (suc j) y at) in
    let one = sum_by-cons (λ (n : ℕ). n) (cost a) (map cost (range_with_len (a + 1) (length xs))) in
    let two = sum_by-cons f x xs in
    omega arith

-- likewise of a bound for each
pub zip_from : {X : Type 0} (R : X → ℕ → Type 0) (most : ℕ → ℕ) (xs : List X) (a : ℕ) → ((j : ℕ) (x : X) → slice_get xs j ≡ Some x → R x (most (a + j))) → AllZip R xs (map most (range_with_len a (length xs)))
zip_from R most [] a is = tt
zip_from R most (x ∷ xs) a is = (subst (λ n. R x (most n)) (add-zero a) (is 0 x refl), zip_from R most xs (a + 1) (λ j y at. subst (λ n. R y (most n)) (next j) (is (suc j) y at)))
  where
    next : (j : ℕ) → a + suc j ≡ a + 1 + j
    next j = omega arith

pub sum_mapped : (f most : ℕ → ℕ) (ns : List ℕ) → sum_by f (map most ns) ≡ sum (map (λ k. f (most k)) ns)
sum_mapped f most [] = refl
sum_mapped f most (n ∷ ns) =
    let rest = sum_mapped f most ns in
    let one = sum_by-cons f (most n) (map most ns) in
    let two = sum_by-cons (λ (n : ℕ). n) (f (most n)) (map (λ k. f (most k)) ns) in
    omega arith

length_map : {A B : Type 0} (f : A → B) (xs : List A) → length (map f xs) ≡ length xs
length_map f [] = refl
length_map f (x ∷ xs) = let rest = length_map f xs in omega arith

-- by the states found, summed over the query states or over the queries' numbers
pub bounds_same : (query_states : List Phase) → for_each_query (length (map (λ (p : Phase). p.query) query_states)) (λ k. update_bound (option_map_or (λ (p : QueryState). length p.table.states) (slice_get (map (λ (p : Phase). p.kept) query_states) (k - 1)) 0)) ≡ sum_by kept_bound query_states
bounds_same query_states =
    ap (λ n. for_each_query n (λ k. update_bound (option_map_or (λ (p : QueryState). length p.table.states) (slice_get (map (λ (p : Phase). p.kept) query_states) (k - 1)) 0))) (length_map (λ (p : Phase). p.query) query_states)
    ∙ sum_from kept_bound (λ k. update_bound (option_map_or (λ (p : QueryState). length p.table.states) (slice_get (map (λ (p : Phase). p.kept) query_states) (k - 1)) 0)) query_states 1 each
  where
    each : (j : ℕ) (p : Phase) → slice_get query_states j ≡ Some p → update_bound (option_map_or (λ (p : QueryState). length p.table.states) (slice_get (map (λ (p : Phase). p.kept) query_states) (1 + j - 1)) 0) ≡ kept_bound p
    each j p at =
        let here : 1 + j - 1 ≡ j = omega arith in
        ap (λ i. update_bound (option_map_or (λ (p : QueryState). length p.table.states) (slice_get (map (λ (p : Phase). p.kept) query_states) i) 0)) here
        ∙ ap (λ o. update_bound (option_map_or (λ (p : QueryState). length p.table.states) o 0)) (map_at (λ (p : Phase). p.kept) query_states j p at)
