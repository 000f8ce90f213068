-- What is asked of an engine by a query's number.
use Rattle.std.proofs.Common.{◌≡◌, ℕ, suc, ◌-◌, ◌<◌, ◌≤◌, List, [], ◌∷◌, map, length, refl, sym, ap, subst, ◌∙◌, Option, Some, None, slice_get, slice_index_or, arith}
use Rattle.std.specs.Option.{option_map_or}
use Rattle.std.specs.Prelude.{max, MatchOption, IfNone}
use Rattle.cer_base.specs.declared.node.Stamp.{Stamp}
use Rattle.std.proofs.lemmas.Option.{slice_get-get_or}
use Rattle.stream_schema.specs.Types.{Declared}
use Rattle.stream_schema.specs.declared.Event.{Event}
use Rattle.cel_terms.specs.declared.Query.{Query}
use Rattle.cel_terms.specs.Answers.{AreAnswersAt}
use Rattle.tecs_enumerate.specs.Remaining.{CursorState, recent_of}
use Rattle.tecs_enumerate.specs.Remaining as walks
use Rattle.query_standing.specs.Bounds.{MeetAtMost}
use Rattle.query_standing.specs.Holding.{answer_of}
use Rattle.query_standing.specs.Kept.{QueryState, KeptStands, KeptFits, low_at, roots_at, kept_rest}
use Rattle.query_standing.proofs.FoundStates.{states_are_met}
use Rattle.query_standing.proofs.QueryStates.{query_state_gives, kept_gives}
use Rattle.all_or_none.specs.Phases.{Phase}
use Rattle.query_engine.specs.Engine.{EngineState, StandsFor, IsNumber, count_of, found_of, len_of, peak_of, Fits, rest, kept_of}
use Rattle.query_engine.proofs.Standing.{state, map_at, length_map}

-- the query state of a query's number is there
pub number_inside : (schema : Declared) (count : ℕ) (query_states : List Phase) (peaks : List ℕ) (s : EngineState) (query : ℕ) → state schema count query_states peaks ≡ s → IsNumber s query → query - 1 < length query_states
number_inside schema count query_states peaks s query is number =
    let many = ap (λ (t : EngineState). length t.queries) is in
    let same = length_map (λ (p : Phase). p.query) query_states in
    let low = number.0 in
    let high = number.1 in
    omega arith

pub query_state_there : (query_states : List Phase) (k : ℕ) (p : Phase) → k < length query_states → p ≡ slice_index_or query_states k p → slice_get query_states k ≡ Some p
query_state_there query_states k p inside e = slice_get-get_or query_states k p inside ∙ ap Some (sym e)

-- its query is the one that is asked for
same_query : (query_states : List Phase) (k : ℕ) (p : Phase) (q : Query) → slice_get query_states k ≡ Some p → slice_get (map (λ (p : Phase). p.query) query_states) k ≡ Some q → p.query ≡ q
same_query query_states k p q at q_at = let both = sym (map_at (λ (p : Phase). p.query) query_states k p at) ∙ q_at in cc

-- the nodes that a cursor of the query state walks
nodes_here : (query_states : List Phase) (query : ℕ) (p : Phase) (w : CursorState) → p ≡ slice_index_or query_states (query - 1) p → w.query ≡ query → query - 1 < length query_states → option_map_or (λ (x : QueryState). x.nodes) (slice_get (map (λ (p : Phase). p.kept) query_states) (w.query - 1)) [] ≡ p.kept.nodes
nodes_here query_states query p w here of inside =
    ap (λ k. option_map_or (λ (x : QueryState). x.nodes) (slice_get (map (λ (p : Phase). p.kept) query_states) (k - 1)) []) of
    ∙ ap (λ o. option_map_or (λ (x : QueryState). x.nodes) o []) (map_at (λ (p : Phase). p.kept) query_states (query - 1) p (query_state_there query_states (query - 1) p inside here))

-- a cursor that is begun at the query state's lists gives the answers
pub query_state_answers : (schema : Declared) (count : ℕ) (query_states : List Phase) (peaks : List ℕ) (s : EngineState) (query : ℕ) (p : Phase) (w : CursorState) → state schema count query_states peaks ≡ s → 0 < count_of s → IsNumber s query → p ≡ slice_index_or query_states (query - 1) p → w.query ≡ query → walks.rest w p.kept.nodes ≡ recent_of (low_at p.query p.kept.clock) p.kept.nodes (roots_at p.query p.kept) → (events : List Event) (q : Query) → StandsFor s events → slice_get s.queries (query - 1) ≡ Some q → AreAnswersAt s.schema q events (length events - 1) (map answer_of (rest s w))
unfolding StandsFor count_of rest
query_state_answers schema count query_states peaks s query p w is some number here of begun =
    subst (λ (t : EngineState). (events : List Event) (q : Query) → KeptStands (kept_of t) events → slice_get t.queries (query - 1) ≡ Some q → AreAnswersAt t.schema q events (length events - 1) (map answer_of (kept_rest (kept_of t) w))) is given
  where
    given : (events : List Event) (q : Query) → KeptStands (kept_of (state schema count query_states peaks)) events → slice_get (map (λ (p : Phase). p.query) query_states) (query - 1) ≡ Some q → AreAnswersAt schema q events (length events - 1) (map answer_of (kept_rest (kept_of (state schema count query_states peaks)) w))
    given events q stands q_at =
        let inside = number_inside schema count query_states peaks s query is number in
        let at = query_state_there query_states (query - 1) p inside here in
        let same = same_query query_states (query - 1) p q at q_at in
        let counted : count ≡ s.count = ap (λ (t : EngineState). t.count) is in
        let length_is : count ≡ length events = stands.count in
        let ends : suc (length events - 1) ≡ length events = omega arith in
        kept_gives (kept_of (state schema count query_states peaks)) events (length events - 1) query q p.kept w stands ends q_at (map_at (λ (p : Phase). p.kept) query_states (query - 1) p at) of (subst (λ (z : Query). walks.rest w p.kept.nodes ≡ recent_of (low_at z p.kept.clock) p.kept.nodes (roots_at z p.kept)) same begun)

-- where no entry of an accepting state is there, no answer is
pub query_state_no_answer : (schema : Declared) (count : ℕ) (query_states : List Phase) (peaks : List ℕ) (s : EngineState) (query : ℕ) (p : Phase) → state schema count query_states peaks ≡ s → 0 < count_of s → IsNumber s query → p ≡ slice_index_or query_states (query - 1) p → roots_at p.query p.kept ≡ [] → (events : List Event) (q : Query) → StandsFor s events → slice_get s.queries (query - 1) ≡ Some q → AreAnswersAt s.schema q events (length events - 1) []
unfolding StandsFor count_of
query_state_no_answer schema count query_states peaks s query p is some number here none =
    subst (λ (t : EngineState). (events : List Event) (q : Query) → KeptStands (kept_of t) events → slice_get t.queries (query - 1) ≡ Some q → AreAnswersAt t.schema q events (length events - 1) []) is given
  where
    given : (events : List Event) (q : Query) → KeptStands (kept_of (state schema count query_states peaks)) events → slice_get (map (λ (p : Phase). p.query) query_states) (query - 1) ≡ Some q → AreAnswersAt schema q events (length events - 1) []
    given events q stands q_at =
        let inside = number_inside schema count query_states peaks s query is number in
        let at = query_state_there query_states (query - 1) p inside here in
        let same = same_query query_states (query - 1) p q at q_at in
        let counted : count ≡ s.count = ap (λ (t : EngineState). t.count) is in
        let length_is : count ≡ length events = stands.count in
        let ends : suc (length events - 1) ≡ length events = omega arith in
        let no_roots : roots_at q p.kept ≡ [] = subst (λ (z : Query). roots_at z p.kept ≡ []) same none in
        subst (λ rs. AreAnswersAt schema q events (length events - 1) (map answer_of (recent_of (low_at q p.kept.clock) p.kept.nodes rs))) no_roots
        (query_state_gives schema q events (length events - 1) p.kept ends (stands.each (query - 1) q p.kept q_at (map_at (λ (p : Phase). p.kept) query_states (query - 1) p at)))

-- so many states were found for the query
pub found_there : (schema : Declared) (count : ℕ) (query_states : List Phase) (peaks : List ℕ) (s : EngineState) (query : ℕ) (p : Phase) → state schema count query_states peaks ≡ s → IsNumber s query → p ≡ slice_index_or query_states (query - 1) p → found_of s query ≡ length p.kept.table.states
unfolding found_of
found_there schema count query_states peaks s query p is number here =
    let inside = number_inside schema count query_states peaks s query is number in
    ap (λ (t : EngineState). option_map_or (λ (x : QueryState). length x.table.states) (slice_get t.query_states (query - 1)) 0) (sym is)
    ∙ ap (λ o. option_map_or (λ (x : QueryState). length x.table.states) o 0) (map_at (λ (p : Phase). p.kept) query_states (query - 1) p (query_state_there query_states (query - 1) p inside here))

-- so many nodes are kept for it
pub len_there : (schema : Declared) (count : ℕ) (query_states : List Phase) (peaks : List ℕ) (s : EngineState) (query : ℕ) (p : Phase) → state schema count query_states peaks ≡ s → IsNumber s query → p ≡ slice_index_or query_states (query - 1) p → len_of s query ≡ length p.kept.nodes
unfolding len_of
len_there schema count query_states peaks s query p is number here =
    let inside = number_inside schema count query_states peaks s query is number in
    ap (λ (t : EngineState). option_map_or (λ (x : QueryState). length x.nodes) (slice_get t.query_states (query - 1)) 0) (sym is)
    ∙ ap (λ o. option_map_or (λ (x : QueryState). length x.nodes) o 0) (map_at (λ (p : Phase). p.kept) query_states (query - 1) p (query_state_there query_states (query - 1) p inside here))

-- as many as the runs lead to, at most
pub found_most : (schema : Declared) (count : ℕ) (query_states : List Phase) (peaks : List ℕ) (s : EngineState) (query : ℕ) (p : Phase) (found : ℕ) → state schema count query_states peaks ≡ s → IsNumber s query → p ≡ slice_index_or query_states (query - 1) p → found ≡ length p.kept.table.states → (events : List Event) (q : Query) (n : ℕ) → StandsFor s events → slice_get s.queries (query - 1) ≡ Some q → MeetAtMost s.schema q events n → found ≤ n
unfolding StandsFor
found_most schema count query_states peaks s query p found is number here found_is =
    subst (λ (t : EngineState). (events : List Event) (q : Query) (n : ℕ) → KeptStands (kept_of t) events → slice_get t.queries (query - 1) ≡ Some q → MeetAtMost t.schema q events n → found ≤ n) is given
  where
    given : (events : List Event) (q : Query) (n : ℕ) → KeptStands (kept_of (state schema count query_states peaks)) events → slice_get (map (λ (p : Phase). p.query) query_states) (query - 1) ≡ Some q → MeetAtMost schema q events n → found ≤ n
    given events q n stands q_at most =
        let inside = number_inside schema count query_states peaks s query is number in
        let at = query_state_there query_states (query - 1) p inside here in
        let few = states_are_met schema q events p.kept n (stands.each (query - 1) q p.kept q_at (map_at (λ (p : Phase). p.kept) query_states (query - 1) p at)) most in
        omega arith

-- the cursor of the query state's nodes fits the engine, and is to give the same
pub cursor_fits : (schema : Declared) (count : ℕ) (query_states : List Phase) (peaks : List ℕ) (s : EngineState) (query : ℕ) (p : Phase) (w : CursorState) → state schema count query_states peaks ≡ s → IsNumber s query → p ≡ slice_index_or query_states (query - 1) p → w.query ≡ query → walks.Fits w p.kept.nodes → Fits s w
unfolding Fits
cursor_fits schema count query_states peaks s query p w is number here of fits =
    let inside = number_inside schema count query_states peaks s query is number in
    let long = length_map (λ (p : Phase). p.kept) query_states in
    let low = number.0 in
    subst (λ (t : EngineState). KeptFits (kept_of t) w) is (omega arith, omega arith, subst (walks.Fits w) (sym (nodes_here query_states query p w here of inside)) fits)

pub fits_within : (schema : Declared) (count : ℕ) (query_states : List Phase) (peaks : List ℕ) (s : EngineState) (w : CursorState) → state schema count query_states peaks ≡ s → Fits s w → (1 ≤ w.query) × (w.query - 1 < length query_states)
unfolding Fits
fits_within schema count query_states peaks s w is fits =
    let f : KeptFits (kept_of (state schema count query_states peaks)) w = subst (λ (t : EngineState). KeptFits (kept_of t) w) (sym is) fits in
    let long = length_map (λ (p : Phase). p.kept) query_states in
    let low = f.0 in
    let high = f.1 in
    (omega arith, omega arith)

pub fits_query_state : (schema : Declared) (count : ℕ) (query_states : List Phase) (peaks : List ℕ) (s : EngineState) (p : Phase) (w : CursorState) → state schema count query_states peaks ≡ s → Fits s w → p ≡ slice_index_or query_states (w.query - 1) p → walks.Fits w p.kept.nodes
unfolding Fits
fits_query_state schema count query_states peaks s p w is fits here =
    let f : KeptFits (kept_of (state schema count query_states peaks)) w = subst (λ (t : EngineState). KeptFits (kept_of t) w) (sym is) fits in
    let inside = fits_within schema count query_states peaks s w is fits in
    subst (walks.Fits w) (nodes_here query_states w.query p w here refl inside.1) f.2

pub rest_query_state : (schema : Declared) (count : ℕ) (query_states : List Phase) (peaks : List ℕ) (s : EngineState) (query : ℕ) (p : Phase) (w : CursorState) → state schema count query_states peaks ≡ s → query - 1 < length query_states → p ≡ slice_index_or query_states (query - 1) p → w.query ≡ query → rest s w ≡ walks.rest w p.kept.nodes
unfolding rest
rest_query_state schema count query_states peaks s query p w is inside here of = ap (λ (t : EngineState). kept_rest (kept_of t) w) (sym is) ∙ ap (walks.rest w) (nodes_here query_states query p w here of inside)

-- what a pull gives of the query state is what it gives of the engine
pub pull_gives : (schema : Declared) (count : ℕ) (query_states : List Phase) (peaks : List ℕ) (s : EngineState) (p : Phase) (w v : CursorState) (r : Option Stamp) → state schema count query_states peaks ≡ s → Fits s w → p ≡ slice_index_or query_states (w.query - 1) p → v.query ≡ w.query → MatchOption r (walks.rest w p.kept.nodes ≡ []) (λ start. walks.rest w p.kept.nodes ≡ record { start = start; positions = v.path } ∷ walks.rest v p.kept.nodes) → MatchOption r (rest s w ≡ []) (λ start. rest s w ≡ record { start = start; positions = v.path } ∷ rest s v)
pull_gives schema count query_states peaks s p w v None is fits here same given =
    let inside = fits_within schema count query_states peaks s w is fits in
    rest_query_state schema count query_states peaks s w.query p w is inside.1 here refl ∙ given
pull_gives schema count query_states peaks s p w v (Some start) is fits here same given =
    let inside = fits_within schema count query_states peaks s w is fits in
    rest_query_state schema count query_states peaks s w.query p w is inside.1 here refl ∙ (given ∙ ap (λ zs. record { start = start; positions = v.path } ∷ zs) (sym (rest_query_state schema count query_states peaks s w.query p v is inside.1 here same)))

pub pull_ends : (schema : Declared) (count : ℕ) (query_states : List Phase) (peaks : List ℕ) (s : EngineState) (p : Phase) (w v : CursorState) (r : Option Stamp) → state schema count query_states peaks ≡ s → Fits s w → p ≡ slice_index_or query_states (w.query - 1) p → v.query ≡ w.query → IfNone r ((walks.rest v p.kept.nodes ≡ []) × (v.path ≡ [])) → IfNone r ((rest s v ≡ []) × (v.path ≡ []))
pull_ends schema count query_states peaks s p w v None is fits here same given =
    let inside = fits_within schema count query_states peaks s w is fits in
    (rest_query_state schema count query_states peaks s w.query p v is inside.1 here same ∙ given.0, given.1)
pull_ends schema count query_states peaks s p w v (Some start) is fits here same given = tt

pub pull_fits : (schema : Declared) (count : ℕ) (query_states : List Phase) (peaks : List ℕ) (s : EngineState) (p : Phase) (w v : CursorState) → state schema count query_states peaks ≡ s → Fits s w → p ≡ slice_index_or query_states (w.query - 1) p → v.query ≡ w.query → walks.Fits v p.kept.nodes → Fits s v
unfolding Fits
pull_fits schema count query_states peaks s p w v is fits here same given =
    let inside = fits_within schema count query_states peaks s w is fits in
    let long = length_map (λ (p : Phase). p.kept) query_states in
    let low = inside.0 in
    let high = inside.1 in
    subst (λ (t : EngineState). KeptFits (kept_of t) v) is (omega arith, omega arith, subst (walks.Fits v) (sym (nodes_here query_states w.query p v here same inside.1)) given)

-- the query of the number
pub query_there : (schema : Declared) (count : ℕ) (query_states : List Phase) (peaks : List ℕ) (s : EngineState) (query : ℕ) (p : Phase) → state schema count query_states peaks ≡ s → IsNumber s query → p ≡ slice_index_or query_states (query - 1) p → slice_get s.queries (query - 1) ≡ Some p.query
query_there schema count query_states peaks s query p is number here =
    let inside = number_inside schema count query_states peaks s query is number in
    ap (λ (t : EngineState). slice_get t.queries (query - 1)) (sym is) ∙ map_at (λ (p : Phase). p.query) query_states (query - 1) p (query_state_there query_states (query - 1) p inside here)

-- the greater of the peak that is kept and how many nodes there are
pub peak_there : (schema : Declared) (count : ℕ) (query_states : List Phase) (peaks : List ℕ) (s : EngineState) (query : ℕ) (p : Phase) → state schema count query_states peaks ≡ s → IsNumber s query → p ≡ slice_index_or query_states (query - 1) p → peak_of s query ≡ max (slice_index_or peaks (query - 1) 0) (length p.kept.nodes)
unfolding peak_of
peak_there schema count query_states peaks s query p is number here =
    let inside = number_inside schema count query_states peaks s query is number in
    ap (λ (t : EngineState). max (slice_index_or t.peaks (query - 1) 0) (option_map_or (λ (x : QueryState). length x.nodes) (slice_get t.query_states (query - 1)) 0)) (sym is)
    ∙ ap (λ o. max (slice_index_or peaks (query - 1) 0) (option_map_or (λ (x : QueryState). length x.nodes) o 0)) (map_at (λ (p : Phase). p.kept) query_states (query - 1) p (query_state_there query_states (query - 1) p inside here))
