-- How many nodes there are after so many events, and how many steps a compaction takes then. For callers of the crate too.
use Rattle.std.proofs.Common.{◌≡◌, ℕ, ◌+◌, ◌-◌, ◌*◌, ◌<◌, ◌≤◌, Bool, true, false, cond, List, [], ◌∷◌, ◌++◌, length, refl, sym, ap, subst, ◌∙◌, All, Contains, Option, Some, None, slice_get, arith, length-append}
use Rattle.std.specs.Option.{option_map_or}
use Rattle.std.proofs.Math.Nat.{mul-le-mul_left}
use Rattle.stream_schema.specs.Types.{Declared}
use Rattle.stream_schema.specs.declared.Event.{Event}
use Rattle.cel_terms.specs.declared.Query.{Query}
use Rattle.cer_base.specs.declared.node.Node.{Node}
use Rattle.cer_base.specs.declared.node.Node.TheVariants.{Bottom, Output, Union}
use Rattle.arena_compact.specs.Roots.{places}
use Rattle.query_standing.specs.Bounds.{update_bound}
use Rattle.query_standing.specs.Kept.{QueryState, QueryStateStands, KeptState, KeptStands}
use Rattle.query_state.specs.Matches.{HasStatesOnce}
use Rattle.query_engine.specs.Engine.{EngineState, StandsFor, SameQueries, kept_of, found_of, len_of}
use Rattle.query_engine.specs.Compacting.{is_chosen, places_of, chosen_bounds}
use Rattle.query_engine.specs.Counts.{MeetMost, HasFewNodes, compaction_bound}
use Rattle.query_engine.proofs.Counting.{each_at_most, square, bound_grows, found_are_met, query_at}
use Rattle.query_engine.proofs.FewPlaces.{places_few}

-- NODES

-- a query state that stands for no event has no node
no_node : (schema : Declared) (q : Query) (p : QueryState) → QueryStateStands schema q [] p → (nodes : List Node) → p.nodes ≡ nodes → length nodes ≤ 0
no_node schema q p s [] is = omega arith
no_node schema q p s (Bottom start ∷ nodes) is =
    let clock = s.starts start (subst (λ (ns : List Node). Contains ns (Bottom start)) (sym is) (0, omega arith, refl)) in
    let at = clock.at in
    absurd cc
no_node schema q p s (Output position child m k ∷ nodes) is =
    let fields = s.nodes.true_fields 0 (Output position child m k) (ap (λ (ns : List Node). slice_get ns 0) is) in
    let less = fields.0 in
    absurd (omega arith)
no_node schema q p s (Union left right k m r ∷ nodes) is =
    let fields = s.nodes.true_fields 0 (Union left right k m r) (ap (λ (ns : List Node). slice_get ns 0) is) in
    let less = fields.0 in
    absurd (omega arith)

no_nodes : (e : KeptState) (k : ℕ) (q : Query) → KeptStands e [] → slice_get e.queries k ≡ Some q → (o : Option QueryState) → slice_get e.query_states k ≡ o → option_map_or (λ (p : QueryState). length p.nodes) o 0 ≤ 0
no_nodes e k q stands at None is = omega arith
no_nodes e k q stands at (Some p) is = no_node e.schema q p (stands.each k q p at is) p.nodes refl

pub first_has_no_node : (engine : EngineState) (most : ℕ → ℕ) → StandsFor engine [] → HasFewNodes engine 0 most
unfolding StandsFor len_of
first_has_no_node engine most stands k q at =
    let here : k ≡ k + 1 - 1 = omega arith in
    let none = subst (λ (i : ℕ). option_map_or (λ (p : QueryState). length p.nodes) (slice_get engine.query_states i) 0 ≤ 0) here (no_nodes (kept_of engine) k q stands at (slice_get engine.query_states k) refl) in
    omega arith

pub event_adds_few : (old new : EngineState) (events : List Event) (event : Event) (most : ℕ → ℕ) → SameQueries old new → StandsFor new (events ++ event ∷ []) → MeetMost new.schema new.queries (events ++ event ∷ []) most →
    ((query : ℕ) → len_of new query ≤ len_of old query + update_bound (found_of new query)) → HasFewNodes old (length events) most → HasFewNodes new (length (events ++ event ∷ [])) most
event_adds_few old new events event most same stands meet growth few k q at =
    let all = events ++ event ∷ [] in
    let before = few k q (subst (λ (qs : List Query). slice_get qs k ≡ Some q) same.1 at) in
    let added = bound_grows (found_of new (k + 1)) (most (k + 1)) (found_are_met new all k q (most (k + 1)) stands at (meet k q at)) in
    let count : length all ≡ length events + 1 = length-append events (event ∷ []) in
    let b = update_bound (most (k + 1)) in
    let product : length all * b ≡ length events * b + b = ap (λ (n : ℕ). n * b) count ∙ omega arith in
    omega (arith, growth (k + 1), before, added, product)

-- THE STEPS OF A COMPACTION

-- no key of a query state that is chosen has a list twice of one state
abbrev pub AreOnceOf : List Bool → EngineState → Type 0
AreOnceOf chosen engine = (k : ℕ) (p : QueryState) → slice_get engine.query_states k ≡ Some p → is_chosen chosen k ≡ true → All HasStatesOnce p.rows

-- the lists of one query: their entries are no more than the nodes that the events may add, four to sixteen
entries_paid : (n m events : ℕ) → n ≤ m → 4 * (events * (n * (n + 2))) ≤ update_bound m * events
entries_paid n m events less =
    let grown = bound_grows n m less in
    let wider : (n + 2) * n ≤ (n + 2) * (n + 2) = mul-le-mul_left (n + 2) (omega arith) in
    let whole = square (n + 2) in
    let one : 4 * (n * (n + 2)) ≤ update_bound m = omega (arith, grown, wider, whole) in
    let all : events * (4 * (n * (n + 2))) ≤ events * update_bound m = mul-le-mul_left events one in
    omega (arith, all)

places_kept : (e : KeptState) (events : List Event) (k : ℕ) (q : Query) → KeptStands e events → slice_get e.queries k ≡ Some q → (o : Option QueryState) → slice_get e.query_states k ≡ o → ((p : QueryState) → o ≡ Some p → All HasStatesOnce p.rows) →
    (n : ℕ) → option_map_or (λ (p : QueryState). length p.table.states) o 0 ≡ n → option_map_or (λ (p : QueryState). places p.rows) o 0 ≤ length events * (n * (n + 2))
places_kept e events k q stands at None is once n found = omega arith
places_kept e events k q stands at (Some p) is once n found =
    subst (λ (i : ℕ). places p.rows ≤ length events * (i * (i + 2))) found (places_few e.schema q events p (stands.each k q p at is) (once p refl))

few_places : (engine : EngineState) (events : List Event) → StandsFor engine events → (k : ℕ) (q : Query) → slice_get engine.queries k ≡ Some q → ((p : QueryState) → slice_get engine.query_states k ≡ Some p → All HasStatesOnce p.rows) →
    places_of engine (k + 1) ≤ length events * (found_of engine (k + 1) * (found_of engine (k + 1) + 2))
unfolding StandsFor found_of places_of
few_places engine events stands k q at once =
    let here : k ≡ k + 1 - 1 = omega arith in
    let P : ℕ → Type 0 = λ i. (let n = option_map_or (λ (p : QueryState). length p.table.states) (slice_get engine.query_states i) 0 in option_map_or (λ (p : QueryState). places p.rows) (slice_get engine.query_states i) 0 ≤ length events * (n * (n + 2))) in
    subst P here (places_kept (kept_of engine) events k q stands at (slice_get engine.query_states k) refl once _ refl)

pub compaction_is_bounded : (chosen : List Bool) (engine : EngineState) (events : List Event) (most : ℕ → ℕ) → StandsFor engine events → MeetMost engine.schema engine.queries events most → HasFewNodes engine (length events) most → AreOnceOf chosen engine →
    chosen_bounds chosen engine ≤ compaction_bound (length engine.queries) most (length events)
compaction_is_bounded chosen engine events most stands meet few once =
    each_at_most (length engine.queries) (λ k. cond (is_chosen chosen (k - 1)) (8 * len_of engine k + 4 * places_of engine k) 0) (λ k. 9 * update_bound (most k) * length events)
    (λ j less. (
    let here : j + 1 - 1 ≡ j = omega arith in
    subst (λ (i : ℕ). cond (is_chosen chosen i) (8 * len_of engine (j + 1) + 4 * places_of engine (j + 1)) 0 ≤ 9 * update_bound (most (j + 1)) * length events) (sym here) (either j less (is_chosen chosen j) refl)
    ))
  where
    paid : (j : ℕ) → j < length engine.queries → is_chosen chosen j ≡ true → 8 * len_of engine (j + 1) + 4 * places_of engine (j + 1) ≤ 9 * update_bound (most (j + 1)) * length events
    paid j less flag =
        let asked = query_at engine.queries j less in
        let found = found_are_met engine events j asked.0 (most (j + 1)) stands asked.1 (meet j asked.0 asked.1) in
        let lists = few_places engine events stands j asked.0 asked.1 (λ p at. once j p at flag) in
        let entries = entries_paid (found_of engine (j + 1)) (most (j + 1)) (length events) found in
        let nodes = few j asked.0 asked.1 in
        let b = update_bound (most (j + 1)) in
        let nine : 9 * b * length events ≡ 8 * (length events * b) + b * length events = omega arith in
        omega (arith, lists, entries, nodes, nine)

    either : (j : ℕ) → j < length engine.queries → (flag : Bool) → is_chosen chosen j ≡ flag → cond (is_chosen chosen j) (8 * len_of engine (j + 1) + 4 * places_of engine (j + 1)) 0 ≤ 9 * update_bound (most (j + 1)) * length events
    either j less true flag = subst (λ (b : Bool). cond b (8 * len_of engine (j + 1) + 4 * places_of engine (j + 1)) 0 ≤ 9 * update_bound (most (j + 1)) * length events) (sym flag) (paid j less flag)
    either j less false flag = subst (λ (b : Bool). cond b (8 * len_of engine (j + 1) + 4 * places_of engine (j + 1)) 0 ≤ 9 * update_bound (most (j + 1)) * length events) (sym flag) (omega arith)
