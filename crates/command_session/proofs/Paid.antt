-- What an event takes and puts by pays for the compactions that come by themselves.
use Rattle.std.proofs.Common.{◌≡◌, ℕ, ◌+◌, ◌-◌, ◌*◌, ◌<◌, ◌≤◌, List, length, refl, sym, ap, arith}
use Rattle.stream_schema.specs.declared.Event.{Event}
use Rattle.query_engine.specs.Bounds.{update_bound, for_each_query}
use Rattle.query_engine.specs.declared.sizes.Size.{Size}
use Rattle.query_engine.specs.Engine.{EngineState, SameQueries, found_of, update_bounds}
use Rattle.query_engine.specs.Keys.{HasAddedKeys}
use Rattle.query_engine.specs.Sizes.{size_of, base_of, put_by}
use Rattle.query_engine.specs.Windows.{HasAdded}
use Rattle.query_engine.proofs.Counting.{each_at_most, each_of_both}
use Rattle.query_engine.proofs.SmallSizes.{bound_least}

-- of one query
pay : (bound most old new base : ℕ) → bound ≤ most → 64 ≤ most → new ≤ old + bound + 8 → bound + 24 * (new - base) ≤ 24 * (old - base) + 28 * most
pay bound most old new base less least grown = omega arith

size_grows : (old new : EngineState) (event : Event) → HasAdded old new event → HasAddedKeys old new event → (query : ℕ) → size_of new query ≤ size_of old query + update_bound (found_of new query) + 8
size_grows old new event added keys query = let nodes = added.growth query in let few = keys.few query in omega arith

-- of all, where no more is found of each query than so much
pub event_is_paid : (old new : EngineState) (event : Event) (bases : List Size) (most : ℕ → ℕ) → SameQueries old new → HasAdded old new event → HasAddedKeys old new event →
    ((j : ℕ) → j < length new.queries → update_bound (found_of new (j + 1)) ≤ update_bound (most (j + 1))) →
    update_bounds new + put_by new bases ≤ put_by old bases + for_each_query (length new.queries) (λ k. 28 * update_bound (most k))
event_is_paid old new event bases most same added keys within =
    let n = length new.queries in
    let many : length old.queries ≡ n = ap length (sym same.1) in
    let left = each_of_both n (λ k. update_bound (found_of new k)) (λ k. 24 * (size_of new k - base_of bases k)) (λ k. update_bound (found_of new k) + 24 * (size_of new k - base_of bases k)) (λ j. refl) in
    let right = each_of_both n (λ k. 24 * (size_of old k - base_of bases k)) (λ k. 28 * update_bound (most k)) (λ k. 24 * (size_of old k - base_of bases k) + 28 * update_bound (most k)) (λ j. refl) in
    let all = each_at_most n (λ k. update_bound (found_of new k) + 24 * (size_of new k - base_of bases k)) (λ k. 24 * (size_of old k - base_of bases k) + 28 * update_bound (most k)) (λ j inside.
    pay (update_bound (found_of new (j + 1))) (update_bound (most (j + 1))) (size_of old (j + 1)) (size_of new (j + 1)) (base_of bases (j + 1)) (within j inside) (bound_least (most (j + 1))) (size_grows old new event added keys (j + 1))) in
    let before : put_by old bases ≡ for_each_query n (λ k. 24 * (size_of old k - base_of bases k)) = ap (λ m. for_each_query m (λ k. 24 * (size_of old k - base_of bases k))) many in
    omega (arith, left, right, all, before)

-- steps that are bounded by one update of each query are so by 28 of each
pub once_is_less : (queries : ℕ) (most : ℕ → ℕ) → for_each_query queries (λ k. update_bound (most k)) ≤ for_each_query queries (λ k. 28 * update_bound (most k))
once_is_less queries most = each_at_most queries (λ k. update_bound (most k)) (λ k. 28 * update_bound (most k)) (λ j inside. omega arith)
