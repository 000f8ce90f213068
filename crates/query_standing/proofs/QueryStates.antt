-- What is kept of one query as events come, and what a cursor that is opened on it gives.
use Rattle.std.proofs.Common.{◌≡◌, All, ◌-◌, ℕ, suc, ◌+◌, ◌<◌, ◌⊎◌, inl, inr, ℤ, List, [], ◌∷◌, ◌++◌, map, length, refl, sym, ap, subst, ◌∙◌, Option, Some, None, slice_get, slice_index_or, append_assoc, arith}
use Rattle.std.specs.Prelude.{IfSome, IfNone}
use Rattle.std.proofs.lemmas.Bool.{cases_lt}
use Rattle.std.proofs.lemmas.Option.{slice_get_within, slice_get-get_or}
use Rattle.std.proofs.lemmas.List.Elements.{All-head, All-tail, All-weaker}
use Rattle.stream_schema.specs.Types.{Declared}
use Rattle.stream_schema.specs.declared.Event.{Event}
use Rattle.stream_schema.specs.declared.Value.{Value}
use Rattle.cel_terms.specs.declared.Query.{Query}
use Rattle.cel_terms.specs.Answers.{Answer, IsAnswer, HasKey, HasClock, AreAnswersAt}
use Rattle.query_leaves.specs.Expand.{tree_of}
use Rattle.cea_determinise.specs.declared.cea.StateSets.{StateSets}
use Rattle.cea_determinise.specs.Strict.{Standing}
use Rattle.cea_determinise.specs.Cea.{standing_of}
use Rattle.cea_determinise.specs.LazyDfa.{standing_at}
use Rattle.cea_compile.specs.Compiled.{automaton_of}
use Rattle.std.specs.Option.{option_map_or}
use Rattle.tecs_enumerate.specs.Remaining.{CursorState, rest, recent_of}
use Rattle.query_standing.specs.Bounds.{IsMet}
use Rattle.query_standing.specs.Clocks.{Reads, HasClockAt, IsLastClock}
use Rattle.query_standing.specs.Keys.{HasKeyAt, IsGiven}
use Rattle.query_standing.specs.Holding.{answer_of}
use Rattle.query_standing.specs.Kept.{Rows, QueryState, low_at, KeyStands, KeyIsKept, HasStates, IsHere, QueryStateStands, roots_of, roots_for, roots_at, KeptState, KeptStands, nodes_at, kept_rest}
use Rattle.query_standing.proofs.Lists.{none_in_nil}
use Rattle.query_standing.proofs.Link.{no_answer}
use Rattle.query_standing.proofs.Roots.{roots_give_answers}
use Rattle.query_standing.proofs.Growing.{get_front, get_last, get_cases, seen_same}

-- the last read event is the last of all where that is read
clock_is_now : (schema : Declared) (q : Query) (events : List Event) (end : ℕ) (last : Event) (now : ℤ) → suc end ≡ length events → slice_get events end ≡ Some last → Reads schema q last → IsLastClock schema q events now → HasClock schema q.window last end now
clock_is_now schema q events end last now ends at read l =
    let inside = slice_get_within events l.position l.has.event l.has.at in
    let here : l.position ≡ end = elim (cases_lt l.position end) [ inl lt ↦ absurd (l.last end last lt at read) | inr ge ↦ omega arith ] in
    let event : l.has.event ≡ last = (let both = sym (subst (λ p. slice_get events p ≡ Some l.has.event) here l.has.at) ∙ at in cc) in
    subst (λ e. HasClock schema q.window e end now) event (subst (λ p. HasClock schema q.window l.has.event p now) here l.has.clock_is)

none_given : (schema : Declared) (q : Query) (events : List Event) (end : ℕ) → ((answer : Answer) → IsAnswer schema q events end answer → ⊥) → AreAnswersAt schema q events end []
none_given schema q events end none = record { each = λ a c. absurd (none_in_nil a c); all = λ a is. absurd (none a is); once = tt }

-- A cursor on the lists of the last event's key gives exactly the answers there.
pub query_state_gives : (schema : Declared) (q : Query) (events : List Event) (end : ℕ) (query_state : QueryState) → suc end ≡ length events → QueryStateStands schema q events query_state → AreAnswersAt schema q events end (map answer_of (recent_of (low_at q query_state.clock) query_state.nodes (roots_at q query_state)))
query_state_gives schema q events end query_state ends s = at_here query_state.here refl s.here
  where
    given_low : (n : ℕ) (key : List Value) (p : ℕ) (h : HasKeyAt schema q events key p) → p ≡ end → query_state.here ≡ Some n → slice_get query_state.keys n ≡ Some key → (c : Option ℤ) → query_state.clock ≡ c → IfSome c (IsLastClock schema q events) → IfNone c ((p : ℕ) (event : Event) → slice_get events p ≡ Some event → Reads schema q event → ⊥) → AreAnswersAt schema q events end (map answer_of (recent_of (low_at q query_state.clock) query_state.nodes (roots_of (automaton_of (tree_of q)) (standing_at query_state.table.states) (slice_index_or query_state.rows n []))))
    given_low n key p h here is_here at None e some none = absurd (none p h.event h.at h.has.0)
    given_low n key p h here is_here at (Some now) e some none =
        let inside = slice_get_within query_state.keys n key at in
        let lists = s.keys.lists in
        let within : n < length query_state.rows = omega arith in
        let rows = slice_get-get_or query_state.rows n [] within in
        let k = s.last n key (slice_index_or query_state.rows n []) is_here at rows in
        let at_end : slice_get events end ≡ Some h.event = subst (λ i. slice_get events i ≡ Some h.event) here h.at in
        let given : IsGiven schema q events end key now k.seen = record { seen = k.are_seen; last = h.event; last_is = at_end; has = h.has; clock = clock_is_now schema q events end h.event now ends at_end h.has.0 some; ends = ends } in
        roots_give_answers schema q events end key now k.seen given query_state.table (low_at q query_state.clock) query_state.nodes (slice_index_or query_state.rows n []) (ap (low_at q) e) s.states.automaton s.states.strict k.stands

    at_here : (o : Option ℕ) → query_state.here ≡ o → IsHere schema q events query_state.keys query_state.here → AreAnswersAt schema q events end (map answer_of (recent_of (low_at q query_state.clock) query_state.nodes (roots_at q query_state)))
    at_here None e is =
        let none : IsHere schema q events query_state.keys None = subst (IsHere schema q events query_state.keys) e is in
        subst (λ o. AreAnswersAt schema q events end (map answer_of (recent_of (low_at q query_state.clock) query_state.nodes (roots_for q query_state o)))) (sym e) (none_given schema q events end (λ answer is. none end answer (omega arith) is))
    at_here (Some n) e is =
        let some : IsHere schema q events query_state.keys (Some n) = subst (IsHere schema q events query_state.keys) e is in
        let p_is = some.2 in
        let at_end : some.1 ≡ end = omega arith in
        subst (λ o. AreAnswersAt schema q events end (map answer_of (recent_of (low_at q query_state.clock) query_state.nodes (roots_for q query_state o)))) (sym e)
        (given_low n some.0 some.1 some.3 at_end e some.4 query_state.clock refl s.clock s.unread)

-- a clock of an earlier event, and the one of the last
pub clock_front : (schema : Declared) (q : Query) (events : List Event) (event : Event) (p : ℕ) (c : ℤ) → HasClockAt schema q events p c → HasClockAt schema q (events ++ event ∷ []) p c
clock_front schema q events event p c h = record { event = h.event; at = get_front events (event ∷ []) p h.event h.at; read = h.read; clock_is = h.clock_is }

pub clock_cases : (schema : Declared) (q : Query) (events : List Event) (event : Event) (p : ℕ) (c : ℤ) → HasClockAt schema q (events ++ event ∷ []) p c → HasClockAt schema q events p c ⊎ ((p ≡ length events) × Reads schema q event × HasClock schema q.window event p c)
clock_cases schema q events event p c h = elim (get_cases events event p h.event h.at) [
  | inl l ↦ inl (record { event = h.event; at = l; read = h.read; clock_is = h.clock_is })
  | inr r ↦ inr (r.0, subst (Reads schema q) (sym r.1) h.read, subst (λ e. HasClock schema q.window e p c) (sym r.1) h.clock_is)
]

pub met_more : (schema : Declared) (q : Query) (events : List Event) (event : Event) (s : Standing) → IsMet schema q events s → IsMet schema q (events ++ event ∷ []) s
met_more schema q events event s m = record {
  first = m.first;
  later = m.later ++ event ∷ [];
  whole = ap (λ zs. zs ++ event ∷ []) m.whole ∙ append_assoc m.first m.later (event ∷ []);
  end = m.end;
  positions = m.positions;
  lists = m.lists;
  start = m.start;
  marks = m.marks;
  leads = m.leads;
}

states_more : (schema : Declared) (q : Query) (events : List Event) (event : Event) (query_state : QueryState) → HasStates schema q events query_state.table → HasStates schema q (events ++ event ∷ []) query_state.table
states_more schema q events event query_state h = record {
  automaton = h.automaton;
  strict = h.strict;
  sets = h.sets;
  distinct = h.distinct;
  met = All-weaker (λ (p : StateSets). IsMet schema q events (standing_of p)) (λ (p : StateSets). IsMet schema q (events ++ event ∷ []) (standing_of p)) (λ p. met_more schema q events event (standing_of p)) query_state.table.states h.met;
}

pub length_more : {X : Type 0} (xs : List X) (x : X) → length (xs ++ x ∷ []) ≡ length xs + 1
length_more [] x = refl
length_more (y ∷ ys) x = let rest = length_more ys x in omega arith

-- an event without a key has no answer
pub none_after : (schema : Declared) (q : Query) (events : List Event) (event : Event) → ((key : List Value) → HasKey schema q event key → ⊥) → (end : ℕ) (answer : Answer) → end + 1 ≡ length (events ++ event ∷ []) → IsAnswer schema q (events ++ event ∷ []) end answer → ⊥
none_after schema q events event none end answer ends is =
    let l = length_more events event in
    let here : length events ≡ end = omega arith in
    no_answer schema q (events ++ event ∷ []) end event (subst (λ k. slice_get (events ++ event ∷ []) k ≡ Some event) here (get_last events event)) none answer is

-- An event that the query does not read, blank ones among them, changes nothing but that no key is the last one's.
pub query_state_unread : (schema : Declared) (q : Query) (events : List Event) (event : Event) (query_state : QueryState) → QueryStateStands schema q events query_state → (Reads schema q event → ⊥) → QueryStateStands schema q (events ++ event ∷ []) (record query_state { here = None })
query_state_unread schema q events event query_state s unread = record {
  states = states_more schema q events event query_state s.states;
  nodes = s.nodes;
  starts = λ t c. clock_front schema q events event t.pos t.clock (s.starts t c);
  never_falls = λ i j b n le hb hn. s.never_falls i j b n le (old i b hb) (old j n hn);
  clock = last query_state.clock s.clock;
  unread = none query_state.clock s.unread;
  keys = record { distinct = s.keys.distinct; others = λ key fresh. stays key [] (s.keys.others key fresh); lists = s.keys.lists };
  here = none_after schema q events event (λ key has. unread has.0);
  each = λ n key rows at lists. waits key rows (s.each n key rows at lists);
  last = λ n key rows is at lists. (let none : None ≡ Some n = is in absurd cc);
} where
  stays : (key : List Value) (rows : Rows) → KeyStands schema q events query_state key rows → KeyStands schema q (events ++ event ∷ []) (record query_state { here = None }) key rows
  stays key rows k = record { seen = k.seen; are_seen = seen_same schema q events event key k.seen k.are_seen (λ has. unread has.0); stands = k.stands }

  waits : (key : List Value) (rows : Rows) → KeyIsKept schema q events query_state key rows → KeyIsKept schema q (events ++ event ∷ []) (record query_state { here = None }) key rows
  waits key rows k = record {
    taken = k.taken;
    no_op = k.no_op;
    are_seen = seen_same schema q events event key (k.taken ++ k.no_op) k.are_seen (λ has. unread has.0);
    silent = k.silent;
    skip_insensitive = k.skip_insensitive;
    stands = k.stands;
  }

  old : (p : ℕ) (c : ℤ) → HasClockAt schema q (events ++ event ∷ []) p c → HasClockAt schema q events p c
  old p c h = elim (clock_cases schema q events event p c h) [ inl l ↦ l | inr r ↦ absurd (unread r.1) ]

  last : (c : Option ℤ) → IfSome c (IsLastClock schema q events) → IfSome c (IsLastClock schema q (events ++ event ∷ []))
  last None l = tt
  last (Some c) l = record {
    position = l.position;
    has = clock_front schema q events event l.position c l.has;
    last = λ p other lo at r. elim (get_cases events event p other at) [ inl g ↦ l.last p other lo g r | inr g ↦ unread (subst (Reads schema q) (sym g.1) r) ];
  }

  none : (c : Option ℤ) → IfNone c ((p : ℕ) (other : Event) → slice_get events p ≡ Some other → Reads schema q other → ⊥) → IfNone c ((p : ℕ) (other : Event) → slice_get (events ++ event ∷ []) p ≡ Some other → Reads schema q other → ⊥)
  none (Some c) l = tt
  none None l = λ p other at r. elim (get_cases events event p other at) [ inl g ↦ l p other g r | inr g ↦ unread (subst (Reads schema q) (sym g.1) r) ]

-- Events that the query does not read, one and more after it, change nothing else.
pub query_state_skips : (schema : Declared) (q : Query) (events : List Event) (event : Event) (later : List Event) (query_state : QueryState) → QueryStateStands schema q events query_state → (Reads schema q event → ⊥) → All (λ e. Reads schema q e → ⊥) later → QueryStateStands schema q (events ++ event ∷ later) (record query_state { here = None })
query_state_skips schema q events event [] query_state s unread others = query_state_unread schema q events event query_state s unread
query_state_skips schema q events event (next ∷ later) query_state s unread others =
    subst (λ zs. QueryStateStands schema q zs (record query_state { here = None })) (append_assoc events (event ∷ []) (next ∷ later))
    (query_state_skips schema q (events ++ event ∷ []) next later (record query_state { here = None }) (query_state_unread schema q events event query_state s unread) (All-head (λ e. Reads schema q e → ⊥) next later others) (All-tail (λ e. Reads schema q e → ⊥) next later others))

-- The same of the whole engine: what a cursor is still to give that was begun at the lists of the last event's key.
pub kept_gives : (engine : KeptState) (events : List Event) (end query : ℕ) (q : Query) (query_state : QueryState) (w : CursorState) → KeptStands engine events → suc end ≡ length events → slice_get engine.queries (query - 1) ≡ Some q → slice_get engine.query_states (query - 1) ≡ Some query_state → w.query ≡ query → rest w query_state.nodes ≡ recent_of (low_at q query_state.clock) query_state.nodes (roots_at q query_state) → AreAnswersAt engine.schema q events end (map answer_of (kept_rest engine w))
kept_gives engine events end query q query_state w s ends q_at p_at of begun =
    let nodes : nodes_at engine w.query ≡ query_state.nodes = ap (nodes_at engine) of ∙ ap (λ (o : Option QueryState). option_map_or (λ (p : QueryState). p.nodes) o []) p_at in
    let same : kept_rest engine w ≡ recent_of (low_at q query_state.clock) query_state.nodes (roots_at q query_state) = ap (rest w) nodes ∙ begun in
    subst (λ ms. AreAnswersAt engine.schema q events end (map answer_of ms)) (sym same) (query_state_gives engine.schema q events end query_state ends (s.each (query - 1) q query_state q_at p_at))
