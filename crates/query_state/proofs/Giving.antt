-- What a cursor gives of a query state.
use Rattle.std.proofs.Common.{◌≡◌, ℕ, ◌<◌, ◌≤◌, ℤ, Bool, true, false, List, [], ◌∷◌, map, length, refl, sym, ap, subst, ◌∙◌, All, Option, Some, None, slice_index_or, arith}
use Rattle.std.specs.Prelude.{Result, Ok, Err, IfOk, if◌then◌else◌}
use Rattle.std.proofs.lemmas.Option.{slice_get_within, slice_get-get_or}
use Rattle.std.proofs.lemmas.List.Elements.{All-nil, All-cons, All-head, All-tail, All-append}
use Rattle.cer_base.specs.Nodes.{IsRoot}
use Rattle.union_lists.specs.Lists.{IsUnionList}
use Rattle.event_update.specs.Reach.{Seen}
use Rattle.event_update.specs.Stands.{IsState, Stands}
use Rattle.query_state.proofs.Cuts.{rows_length, row_is}
use Rattle.stream_schema.specs.Types.{Declared}
use Rattle.stream_schema.specs.declared.Event.{Event}
use Rattle.cel_terms.specs.declared.Query.{Query}
use Rattle.query_leaves.specs.Expand.{tree_of}
use Rattle.cer_base.specs.declared.node.Root.{Root}
use Rattle.cer_base.specs.declared.node.Node.{Node}
use Rattle.cea_determinise.specs.Runs.{accepts}
use Rattle.cea_determinise.specs.Cea.{automaton_of_cea}
use Rattle.cea_determinise.specs.LazyDfa.{Table, standing_at}
use Rattle.cea_compile.specs.Compiled.{automaton_of}
use Rattle.tecs_enumerate.specs.Remaining.{CursorState, rest, recent_of}
use Rattle.event_update.specs.Update.{accepted_entries, entries_of}
use Rattle.window_clock.specs.declared.Source.{Source}
use Rattle.window_clock.specs.Places.{low_since, IsOf}
use Rattle.query_standing.specs.Kept.{Rows, QueryState, low_at, IsHere, QueryStateStands, roots_of, roots_for, roots_at}
use Rattle.query_standing.proofs.Roots.{entries_same}
use Rattle.all_or_none.specs.Phases.{Phase}
use Rattle.query_state.specs.Matches.{OpenMatches, HasLists, CanList, entries_for}
use Rattle.query_state.specs.QueryStates.{query_state_of}
use Rattle.query_state.proofs.Prepare.{Idle}

pub roots_same : (q : Query) (h : OpenMatches) (c : Option ℤ) (here m : Option ℕ) → automaton_of_cea h.table.cea ≡ automaton_of (tree_of q) → entries_for h m ≡ roots_for q (query_state_of h c here) m
roots_same q h c here None e = refl
roots_same q h c here (Some n) e = entries_same h.table (slice_index_or h.rows n []) ∙ ap (λ a. roots_of a (standing_at h.table.states) (slice_index_or h.rows n [])) e

-- the lists of the last event's key stand for some events
pub can_list : (schema : Declared) (q : Query) (events : List Event) (h : OpenMatches) (c : Option ℤ) (here : Option ℕ) → QueryStateStands schema q events (query_state_of h c here) → CanList h here
can_list schema q events h c here s = go here s.here
  where
    go : (m : Option ℕ) → IsHere schema q events h.keys m → CanList h m
    go None is = tt
    go (Some n) is =
        let inside = slice_get_within h.keys n is.0 is.4 in
        let lists = s.keys.lists in
        let within : n < length h.rows = omega arith in
        let at = slice_get-get_or h.rows n [] within in
        let stand = s.each n is.0 (slice_index_or h.rows n []) is.4 at in
        record { rows = slice_index_or h.rows n []; at = at; low = low_at q c; seen = stand.taken; stands = stand.stands }

-- the low clock is that of the query
pub low_same : (schema : Declared) (q : Query) (source : Source) (c : Option ℤ) → IsOf schema q.window source → low_since source c ≡ low_at q c
low_same schema q source None of = refl
low_same schema q source (Some now) of = of.low now

pub low_is : (schema : Declared) (q : Query) (h : OpenMatches) (n : Option ℕ) (p : Phase) (source : Source) (last : Option ℤ) (low : ℤ) → Idle schema q h n p → IsOf schema q.window source → low ≡ low_since source last → low ≡ low_at p.query last
low_is schema q h n p source last low i of e = e ∙ (low_same schema q source last of ∙ ap (λ z. low_at z last) i.query_is)

-- the entries where the cursor begins are those of the query state
pub gives : {E : Type 0} (schema : Declared) (q : Query) (events : List Event) (h : OpenMatches) (c : Option ℤ) (n : Option ℕ) (p : Phase) (low wanted : ℤ) (r : Result CursorState E) → Idle schema q h n p → QueryStateStands schema q events (query_state_of h c n) → low ≡ wanted → IfOk r (λ w. rest w h.nodes ≡ recent_of low h.nodes (entries_for h n)) → IfOk r (λ w. rest w p.kept.nodes ≡ recent_of wanted p.kept.nodes (roots_at p.query p.kept))
gives schema q events h c n p low wanted (Err e) i s low_e given = tt
gives schema q events h c n p low wanted (Ok w) i s low_e given =
    let roots : entries_for h n ≡ roots_at p.query p.kept = roots_same q h None n n s.states.automaton ∙ (ap (λ z. roots_at z (query_state_of h None n)) i.query_is ∙ ap (roots_at p.query) i.kept_is) in
    let nodes : h.nodes ≡ p.kept.nodes = ap (λ (k : QueryState). k.nodes) i.kept_is in
    ap (rest w) (sym nodes) ∙ (given ∙ (ap (λ l. recent_of l h.nodes (entries_for h n)) low_e ∙ (ap (λ ns. recent_of wanted ns (entries_for h n)) nodes ∙ ap (recent_of wanted p.kept.nodes) roots)))

-- where no list's entries are those of an accepting state, neither are the query state's
pub no_roots : (schema : Declared) (q : Query) (events : List Event) (h : OpenMatches) (c : Option ℤ) (n : Option ℕ) (p : Phase) → Idle schema q h n p → QueryStateStands schema q events (query_state_of h c n) → entries_for h n ≡ [] → roots_at p.query p.kept ≡ []
no_roots schema q events h c n p i s none = sym (roots_same q h None n n s.states.automaton ∙ (ap (λ z. roots_at z (query_state_of h None n)) i.query_is ∙ ap (roots_at p.query) i.kept_is)) ∙ none

pub if_ok : {A E : Type 0} (r : Result A E) (P Q : A → Type 0) → IfOk r P → ((x : A) → P x → Q x) → IfOk r Q
if_ok (Ok x) P Q p f = f x p
if_ok (Err e) P Q p f = tt

-- the lists of a key, as they are kept
pub record KeptLists (h : OpenMatches) (number : ℕ) (rows : Rows) : Type 0 where
  pub low : ℤ
  pub seen : List Seen
  pub stands : Stands h.table low seen h.nodes rows
  pub here : slice_index_or h.rows number [] ≡ rows

pub kept_lists : {A : Type 0} (f : A → Rows) (xs : List A) (h : OpenMatches) (key : Option ℕ) (number : ℕ) (a : A) → map f xs ≡ h.rows → CanList h key → key ≡ Some number → a ≡ slice_index_or xs number a → KeptLists h number (f a)
kept_lists f xs h key number a same can key_is at =
    let lists : HasLists h number = subst (CanList h) key_is can in
    let within = slice_get_within h.rows number lists.rows lists.at in
    let count = rows_length f xs h.rows same in
    let is : f a ≡ lists.rows = row_is f xs h.rows number a lists.rows same (omega arith) at lists.at in
    record {
      low = lists.low;
      seen = lists.seen;
      stands = subst (Stands h.table lists.low lists.seen h.nodes) (sym is) lists.stands;
      here = (let both = sym (slice_get-get_or h.rows number [] within) ∙ lists.at in cc) ∙ sym is;
    }

pub number_within : {A : Type 0} (f : A → Rows) (xs : List A) (h : OpenMatches) (key : Option ℕ) (number : ℕ) → map f xs ≡ h.rows → CanList h key → key ≡ Some number → number < length xs
number_within f xs h key number same can key_is =
    let lists : HasLists h number = subst (CanList h) key_is can in
    let within = slice_get_within h.rows number lists.rows lists.at in
    let count = rows_length f xs h.rows same in
    omega arith

-- the numbers in the lists are those of states
pub are_states : (t u : Table) (rows : Rows) → u ≡ t → All (λ (r : ℕ × List Root). IsState t r.0) rows → All (λ n. n ≤ length u.states) (map (λ (r : ℕ × List Root). r.0) rows)
are_states t u [] same h = All-nil (λ n. n ≤ length u.states)
are_states t u (r ∷ rows) same h =
    let one = All-head (λ (r : ℕ × List Root). IsState t r.0) r rows h in
    let upto : r.0 ≤ length u.states = subst (λ (v : Table). r.0 ≤ length v.states) (sym same) one.1 in
    All-cons (λ n. n ≤ length u.states) r.0 (map (λ (r : ℕ × List Root). r.0) rows) upto (are_states t u rows same (All-tail (λ (r : ℕ × List Root). IsState t r.0) r rows h))

-- the entries are told as they stand
pub entries_are : (h : OpenMatches) (t : Table) (key : Option ℕ) (number : ℕ) (rows : Rows) (items : List Root) → t ≡ h.table → key ≡ Some number → slice_index_or h.rows number [] ≡ rows → items ≡ accepted_entries t rows → items ≡ entries_for h key
entries_are h t key number rows items table key_is here is =
    is ∙ (ap (λ u. accepted_entries u rows) table ∙ (ap (accepted_entries h.table) (sym here) ∙ ap (entries_for h) (sym key_is)))

entry_roots : (t : Table) (nodes : List Node) (rows : Rows) → All (λ (r : ℕ × List Root). IsUnionList nodes r.1) rows → All (IsRoot nodes) (accepted_entries t rows)
entry_roots t nodes [] h = All-nil (IsRoot nodes)
entry_roots t nodes (r ∷ rows) h =
    All-append (IsRoot nodes) (entries_of t r) (accepted_entries t rows)
    (of_one (accepts (automaton_of_cea t.cea) (standing_at t.states r.0).sets) (All-head (λ (r : ℕ × List Root). IsUnionList nodes r.1) r rows h).roots)
    (entry_roots t nodes rows (All-tail (λ (r : ℕ × List Root). IsUnionList nodes r.1) r rows h))
  where
    of_one : (b : Bool) → All (IsRoot nodes) r.1 → All (IsRoot nodes) (if b then r.1 else [])
    of_one true roots = roots
    of_one false roots = All-nil (IsRoot nodes)

-- each entry where a cursor begins tells its node
pub are_roots : (h : OpenMatches) (key : Option ℕ) → CanList h key → All (IsRoot h.nodes) (entries_for h key)
are_roots h None can = All-nil (IsRoot h.nodes)
are_roots h (Some number) can =
    let within = slice_get_within h.rows number can.rows can.at in
    let here : slice_index_or h.rows number [] ≡ can.rows = (let both = sym (slice_get-get_or h.rows number [] within) ∙ can.at in cc) in
    subst (λ rows. All (IsRoot h.nodes) (accepted_entries h.table rows)) (sym here) (entry_roots h.table h.nodes can.rows can.stands.lists)
