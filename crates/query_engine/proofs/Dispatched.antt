-- What is known of the query states that an event need not go to.
use Rattle.std.proofs.Common.{◌≡◌, ◌≢◌, refl, sym, ap, subst, ◌∙◌, ℕ, zero, suc, ◌+◌, ◌<◌, ◌≤◌, inl, inr, ◌⊎◌, Bool, true, false, ◌||◌, ◌&&◌, eqb, List, [], ◌∷◌, map, length, All, Option, Some, None, slice_get, slice_index_or, arith}
use Rattle.std.proofs.lemmas.Bool.{cases_lt, cases_eq, false≢true}
use Rattle.std.proofs.lemmas.Option.{slice_get-get_or, slice_get_within}
use Rattle.std.proofs.lemmas.List.Elements.{All-nil, All-cons, All-head, All-tail, All-weaker}
use Rattle.cer_base.specs.Bits.{has, room_for}
use Rattle.stream_schema.specs.Types.{Declared}
use Rattle.stream_schema.specs.declared.Event.{Event}
use Rattle.cel_terms.specs.declared.Query.{Query}
use Rattle.query_leaves.specs.Expand.{Occurrence, tree_of}
use Rattle.query_leaves.specs.Leaves.{occurrences, occurrence_reads}
use Rattle.cea_compile.specs.Compiled.{automaton_of}
use Rattle.cea_compile.specs.DeterminisedRuns.{reads_at}
use Rattle.query_standing.specs.Keys.{leaves_reading}
use Rattle.all_or_none.specs.declared.Activity.{Activity}
use Rattle.all_or_none.specs.Phases.{Phase, IsDormant, IsEmpty, IsUnread, BeginsNone, IsLooked, AreLeft, AreRead, AreSpared, AreUnread}
use Rattle.all_or_none.specs.Dormancy.{phase_at}
use Rattle.query_index.specs.Rows.{Table, HasRow, HasLeaf, is_awake, AreReaders, HaveRooms, AreExact, AreWaiting, IsLeafIndex}
use Rattle.query_engine.specs.Running.{IsFirst}
use Rattle.query_engine.specs.Dispatch.{leaf_room, AreLeafSets, AreOfEither, HaveLooked, IsDispatch}
use Rattle.query_engine.proofs.Standing.{length_map, map_at, all_at}

-- What an event goes to: what is marked, or where none is active what is read.
pub record GoesTo (some_active_queries : Bool) (active_queries marked read to : List Bool) : Type 0 where
  pub within : (k : ℕ) → has active_queries k ≡ true → has to k ≡ true
  pub reads : (k : ℕ) → has read k ≡ true → has to k ≡ true
  pub only : (k : ℕ) → has to k ≡ true → has read k ≡ false → has active_queries k ≡ true
  pub room : length to ≡ length active_queries

first_of_either : (a b : Bool) → (a || b) ≡ true → b ≡ false → a ≡ true
first_of_either true b e none = refl
first_of_either false b e none = absurd (false≢true (sym none ∙ e))

pub goes : (some_active_queries : Bool) (active_queries marked read to : List Bool) → (some_active_queries ≡ true → (k : ℕ) → has active_queries k ≡ true → has marked k ≡ true) → (some_active_queries ≡ true → (k : ℕ) → has read k ≡ true → has marked k ≡ true) → (some_active_queries ≡ true → AreOfEither marked active_queries read) → (some_active_queries ≡ false → (k : ℕ) → has active_queries k ≡ false) → length marked ≡ length active_queries → length read ≡ length active_queries → (some_active_queries ≡ true → to ≡ marked) → (some_active_queries ≡ false → to ≡ read) → GoesTo some_active_queries active_queries marked read to
goes true active_queries marked read to within reads either none sets rooms is_marked is_read = record {
  within = λ k h. ap (λ (b : List Bool). has b k) (is_marked refl) ∙ within refl k h;
  reads = λ k h. ap (λ (b : List Bool). has b k) (is_marked refl) ∙ reads refl k h;
  only = λ k h out. first_of_either (has active_queries k) (has read k) (either refl k (ap (λ (b : List Bool). has b k) (sym (is_marked refl)) ∙ h)) out;
  room = ap length (is_marked refl) ∙ sets;
}
goes false active_queries marked read to within reads either none sets rooms is_marked is_read = record {
  within = λ k h. absurd (false≢true (sym (none refl k) ∙ h));
  reads = λ k h. ap (λ (b : List Bool). has b k) (is_read refl) ∙ h;
  only = λ k h out. absurd (false≢true (sym out ∙ (ap (λ (b : List Bool). has b k) (sym (is_read refl)) ∙ h)));
  room = ap length (is_read refl) ∙ rooms;
}

leaf_there : (schema : Declared) (x : Option Occurrence) (event : Event) → reads_at schema x (Some event) ≡ true → (o : Occurrence) × (x ≡ Some o) × (occurrence_reads schema o event ≡ true)
leaf_there schema None event e = absurd (false≢true e)
leaf_there schema (Some o) event e = (o, refl, e)

and_not : (a b : Bool) → b ≡ false → (a && b) ≡ false
and_not true b e = e
and_not false b e = refl

not_and : (a b : Bool) → a ≡ false → (a && b) ≡ false
not_and a b e = ap (λ x. x && b) e

module _ (schema : Declared) (queries : List Query) (count : ℕ) (query_states : List Phase) (table : Table) (activity : Activity) (marks reads : List Bool) (sets : List (List Bool)) (event : Event) (queries_is : queries ≡ map (λ (p : Phase). p.query) query_states) (schemas : All (λ (p : Phase). p.schema ≡ schema) query_states) (h : IsDispatch schema queries count query_states table activity marks reads sets) (read : List Bool) (read_all : (k : ℕ) (row : HasRow table.rows table.leaves k event) → is_awake activity.open_queries row.row ≡ true → has read k ≡ true) where
  q_there : (k : ℕ) (p : Phase) → slice_get query_states k ≡ Some p → slice_get queries k ≡ Some p.query
  q_there k p at = ap (λ qs. slice_get qs k) queries_is ∙ map_at (λ (x : Phase). x.query) query_states k p at

  -- the row of a leaf that reads
  row_there : (k : ℕ) (p : Phase) (j : ℕ) → slice_get query_states k ≡ Some p → leaves_reading p.schema p.query event j ≡ true → HasLeaf table.rows table.leaves k j event
  row_there k p j at e =
      let o = leaf_there p.schema (slice_get (occurrences (tree_of p.query)) j) event e in
      let same : p.schema ≡ schema = all_at (λ (x : Phase). x.schema ≡ schema) query_states k p schemas at in
      h.leaf_index k p.query (q_there k p at) event j o.0 o.1 (subst (λ s. occurrence_reads s o.0 event ≡ true) same o.2)

  -- of a query that may have an open match each leaf is looked at
  unread_open : (k : ℕ) (p : Phase) → slice_get query_states k ≡ Some p → has activity.open_queries k ≡ true → has read k ≡ false → IsUnread event (phase_at count p)
  unread_open k p at is out j = by (leaves_reading p.schema p.query event j) refl
    where
      by : (b : Bool) → leaves_reading p.schema p.query event j ≡ b → leaves_reading p.schema p.query event j ≡ false
      by false e = e
      by true e = looked_at (is_awake activity.open_queries (row_there k p j at e).0.row) refl
        where
          looked_at : (b : Bool) → is_awake activity.open_queries (row_there k p j at e).0.row ≡ b → leaves_reading p.schema p.query event j ≡ false
          looked_at true awake = absurd (false≢true (sym out ∙ read_all k (row_there k p j at e).0 awake))
          looked_at false asleep = absurd (false≢true (sym (h.waiting k p.query (q_there k p at) event (row_there k p j at e).0 activity.open_queries asleep).0 ∙ is))

  -- and where it has none, those that begin one
  begins_none : (k : ℕ) (p : Phase) → slice_get query_states k ≡ Some p → has read k ≡ false → BeginsNone event (phase_at count p)
  begins_none k p at out j = by (leaves_reading p.schema p.query event j) refl
    where
      by : (b : Bool) → leaves_reading p.schema p.query event j ≡ b → ((automaton_of (tree_of p.query)).first j && leaves_reading p.schema p.query event j) ≡ false
      by false e = and_not ((automaton_of (tree_of p.query)).first j) (leaves_reading p.schema p.query event j) e
      by true e = looked_at (is_awake activity.open_queries (row_there k p j at e).0.row) refl
        where
          looked_at : (b : Bool) → is_awake activity.open_queries (row_there k p j at e).0.row ≡ b → ((automaton_of (tree_of p.query)).first j && leaves_reading p.schema p.query event j) ≡ false
          looked_at true awake = absurd (false≢true (sym out ∙ read_all k (row_there k p j at e).0 awake))
          looked_at false asleep = not_and ((automaton_of (tree_of p.query)).first j) (leaves_reading p.schema p.query event j) ((h.waiting k p.query (q_there k p at) event (row_there k p j at e).0 activity.open_queries asleep).1 j (row_there k p j at e))

  -- Of the query states that the event does not go to no leaf reads it, or no match is open and it begins none.
  pub spared_marked : (marked : List Bool) → ((k : ℕ) → has read k ≡ true → has marked k ≡ true) → AreSpared (phase_at count) event marked activity.open_queries query_states
  spared_marked marked within k p at out = by (has activity.open_queries k) refl
    where
      unseen : (b : Bool) → has read k ≡ b → has read k ≡ false
      unseen false e = e
      unseen true e = absurd (false≢true (sym out ∙ within k e))

      by : (b : Bool) → has activity.open_queries k ≡ b → IsUnread event (phase_at count p) ⊎ ((has activity.open_queries k ≡ false) × BeginsNone event (phase_at count p))
      by true e = inl (unread_open k p at e (unseen (has read k) refl))
      by false e = inr (e, begins_none k p at (unseen (has read k) refl))

  -- and of those that it goes to, no leaf of one that is not among those read
  pub unread_marked : (marked : List Bool) → ((k : ℕ) → has marked k ≡ true → has read k ≡ false → has activity.active_queries k ≡ true) → AreUnread (phase_at count) event marked read query_states
  unread_marked marked only k p at is out = unread_open k p at (h.left.within k (only k is out)) out

-- the set of a query has room for its leaves
set_room : (queries : List Query) (sets : List (List Bool)) (k : ℕ) (q : Query) → AreLeafSets queries sets → slice_get queries k ≡ Some q → length (slice_index_or sets k []) ≡ leaf_room q
set_room [] sets k q are at = absurd cc
set_room (x ∷ queries) [] k q are at = absurd cc
set_room (x ∷ queries) (s ∷ sets) zero q are at = let head : length s ≡ leaf_room x = cc in let same : x ≡ q = cc in head ∙ ap leaf_room same
set_room (x ∷ queries) (s ∷ sets) (suc k) q are at = let rest : map (λ (set : List Bool). length set) sets ≡ map leaf_room queries = cc in set_room queries sets k q rest at

there_inside : {A : Type 0} (xs : List A) (k : ℕ) → k < length xs → (x : A) × (slice_get xs k ≡ Some x)
there_inside [] k less = absurd (omega arith)
there_inside (x ∷ xs) zero less = (x, refl)
there_inside (x ∷ xs) (suc k) less = there_inside xs k (omega arith)

-- so that of each has room for those that read an event
pub rooms_there : (schema : Declared) (queries : List Query) (count : ℕ) (query_states : List Phase) (table : Table) (activity : Activity) (marked read : List Bool) (sets : List (List Bool)) (event : Event) → IsDispatch schema queries count query_states table activity marked read sets → HaveRooms table.count table.rows table.leaves event sets
rooms_there schema queries count query_states table activity marked read sets event h query number less leaf =
    let many = h.queries_are in
    let q = there_inside queries query (omega arith) in
    let o = h.exact query q.0 q.1 event number leaf in
    let low = slice_get_within (occurrences (tree_of q.0)) number o.0 o.1 in
    let room : length (slice_index_or sets query []) ≡ room_for (length (occurrences (tree_of q.0))) = set_room queries sets query q.0 h.leaves q.1 in
    omega arith

-- and there are as many as there are query states
pub as_many_sets : (schema : Declared) (queries : List Query) (count : ℕ) (query_states : List Phase) (table : Table) (activity : Activity) (marked read : List Bool) (sets more : List (List Bool)) → queries ≡ map (λ (p : Phase). p.query) query_states → map (λ (set : List Bool). length set) more ≡ map (λ (set : List Bool). length set) sets → IsDispatch schema queries count query_states table activity marked read sets → length more ≡ length query_states
as_many_sets schema queries count query_states table activity marked read sets more is same h =
    sym (length_map (λ (set : List Bool). length set) more) ∙ (ap length (same ∙ h.leaves) ∙ (length_map leaf_room queries ∙ (ap length is ∙ length_map (λ (p : Phase). p.query) query_states)))

both_ways : (a b : Bool) → (a ≡ true → b ≡ true) → (b ≡ true → a ≡ true) → a ≡ b
both_ways false false f g = refl
both_ways false true f g = g refl
both_ways true false f g = sym (f refl)
both_ways true true f g = refl

-- where one is marked as read, its set is that of the leaves of its query that can read the event
pub read_marked : (schema : Declared) (queries : List Query) (count : ℕ) (query_states : List Phase) (table : Table) (activity : Activity) (marks reads read : List Bool) (sets more : List (List Bool)) (event : Event) → queries ≡ map (λ (p : Phase). p.query) query_states → All (λ (p : Phase). p.schema ≡ schema) query_states → IsDispatch schema queries count query_states table activity marks reads sets → map (λ (set : List Bool). length set) more ≡ map (λ (set : List Bool). length set) sets → ((k : ℕ) → has read k ≡ true → AreReaders table.rows table.leaves k event (slice_index_or more k [])) → AreRead (phase_at count) event read more query_states
read_marked schema queries count query_states table activity marks reads read sets more event queries_is schemas h rooms readers k p at marked = record {
  each = λ j. both_ways (has (slice_index_or more k []) j) (leaves_reading p.schema p.query event j) (in_set j) (reading j);
  room = set_room queries more k p.query (rooms ∙ h.leaves) q_at;
}
  where
    q_at : slice_get queries k ≡ Some p.query
    q_at = ap (λ qs. slice_get qs k) queries_is ∙ map_at (λ (x : Phase). x.query) query_states k p at

    same : p.schema ≡ schema
    same = all_at (λ (x : Phase). x.schema ≡ schema) query_states k p schemas at

    in_set : (j : ℕ) → has (slice_index_or more k []) j ≡ true → leaves_reading p.schema p.query event j ≡ true
    in_set j is =
        let o = h.exact k p.query q_at event j ((readers k marked).only j is) in
        ap (λ x. reads_at p.schema x (Some event)) o.1 ∙ subst (λ s. occurrence_reads s o.0 event ≡ true) (sym same) o.2

    reading : (j : ℕ) → leaves_reading p.schema p.query event j ≡ true → has (slice_index_or more k []) j ≡ true
    reading j does =
        let o = leaf_there p.schema (slice_get (occurrences (tree_of p.query)) j) event does in
        (readers k marked).each j (h.leaf_index k p.query q_at event j o.0 o.1 (subst (λ s. occurrence_reads s o.0 event ≡ true) same o.2))

-- what is known of the same queries stays
pub watching_same : (schema : Declared) (old new : List Query) (count later : ℕ) (query_states after : List Phase) (table same_table : Table) (activity more : Activity) (marked read marks reads : List Bool) (sets others : List (List Bool)) → new ≡ old → same_table ≡ table → (length more.active_queries ≡ length activity.active_queries) × (length more.open_queries ≡ length activity.open_queries) → length marks ≡ length marked → length reads ≡ length read → map (λ (set : List Bool). length set) others ≡ map (λ (set : List Bool). length set) sets → AreLeft phase_at later more after → IsDispatch schema old count query_states table activity marked read sets → IsDispatch schema new later after same_table more marks reads others
watching_same schema old new count later query_states after table same_table activity more marked read marks reads sets others is table_is room same_marks same_reads same_sets left h = record {
  leaf_index = subst (λ (t : Table). IsLeafIndex schema new t.rows t.leaves) (sym table_is) (subst (λ qs. IsLeafIndex schema qs table.rows table.leaves) (sym is) h.leaf_index);
  exact = subst (λ (t : Table). AreExact schema new t.rows t.leaves) (sym table_is) (subst (λ qs. AreExact schema qs table.rows table.leaves) (sym is) h.exact);
  waiting = subst (λ (t : Table). AreWaiting new t.rows t.leaves) (sym table_is) (subst (λ qs. AreWaiting qs table.rows table.leaves) (sym is) h.waiting);
  queries_are = ap (λ (t : Table). t.count) table_is ∙ (h.queries_are ∙ ap length (sym is));
  room = room.0 ∙ (h.room ∙ ap (λ qs. room_for (length qs)) (sym is));
  open_room = room.1 ∙ (h.open_room ∙ sym room.0);
  sets = same_marks ∙ (h.sets ∙ sym room.0);
  reads = same_reads ∙ (h.reads ∙ sym room.0);
  leaves = same_sets ∙ (h.leaves ∙ ap (map leaf_room) (sym is));
  left = left;
}

-- where all were looked at, as a slice that they are taken from
pub left_looked : (count : ℕ) (slice query_states : List Phase) (activity : Activity) → query_states ≡ slice → All (λ (p : Phase). p.upto ≤ count) slice → HaveLooked slice activity (length slice) → AreLeft phase_at count activity query_states
left_looked count slice query_states activity is known looked = subst (AreLeft phase_at count activity) (sym is) (record {
  known = known;
  others = λ k p at. looked.rest k p (slice_get_within slice k p at) at;
  empty = λ k p at. looked.empty k p (slice_get_within slice k p at) at;
  within = looked.within;
})

pub first_known : (schema : Declared) (query_states : List Phase) → All (IsFirst schema) query_states → All (λ (p : Phase). p.upto ≤ 0) query_states
first_known schema [] h = All-nil (λ (p : Phase). p.upto ≤ 0)
first_known schema (p ∷ query_states) h =
    let is = (All-head (IsFirst schema) p query_states h).upto in
    All-cons (λ (x : Phase). x.upto ≤ 0) p query_states (omega arith) (first_known schema query_states (All-tail (IsFirst schema) p query_states h))

-- where positions pass, they are dormant as they were
pub left_on : (from to : ℕ) (activity : Activity) (query_states : List Phase) → from ≤ to → AreLeft phase_at from activity query_states → AreLeft phase_at to activity query_states
left_on from to activity query_states further h = record {
  known = All-weaker (λ (p : Phase). p.upto ≤ from) (λ (p : Phase). p.upto ≤ to) (λ p low. (omega arith)) query_states h.known;
  others = h.others;
  empty = h.empty;
  within = h.within;
}

pub compacted_known : (count : ℕ) (query_states : List Phase) → All (λ (p : Phase). p.upto ≡ count) query_states → All (λ (p : Phase). p.upto ≤ count) query_states
compacted_known count = All-weaker (λ (p : Phase). p.upto ≡ count) (λ (p : Phase). p.upto ≤ count) (λ p is. (omega arith))

-- the sets have room for each query state
pub room_there : (schema : Declared) (queries : List Query) (count : ℕ) (query_states : List Phase) (table : Table) (activity : Activity) (marked read : List Bool) (sets : List (List Bool)) → IsDispatch schema queries count query_states table activity marked read sets → table.count ≤ length read
room_there schema queries count query_states table activity marked read sets h =
    let a = h.queries_are in
    let b = h.room in
    let c = h.reads in
    omega arith

pub query_states_within : (schema : Declared) (queries : List Query) (count many : ℕ) (query_states : List Phase) (table : Table) (activity : Activity) (marked read : List Bool) (sets : List (List Bool)) → queries ≡ map (λ (p : Phase). p.query) query_states → many ≡ length query_states → IsDispatch schema queries count query_states table activity marked read sets → (many ≤ length activity.active_queries) × (many ≤ length activity.open_queries)
query_states_within schema queries count many query_states table activity marked read sets is many_is h =
    let b = h.room in
    let l : length queries ≡ length query_states = ap length is ∙ length_map (λ (p : Phase). p.query) query_states in
    let same = h.open_room in
    (omega arith, omega arith)

-- before any event
pub watching_first : (schema : Declared) (queries given : List Query) (query_states : List Phase) (table : Table) (activity : Activity) (marked read : List Bool) (sets : List (List Bool)) → queries ≡ given → queries ≡ map (λ (p : Phase). p.query) query_states → IsLeafIndex schema given table.rows table.leaves → AreExact schema given table.rows table.leaves → AreWaiting given table.rows table.leaves → table.count ≡ length given → length activity.active_queries ≡ room_for (length given) → length activity.open_queries ≡ length activity.active_queries → length marked ≡ length activity.active_queries → length read ≡ length activity.active_queries → AreLeafSets given sets → AreLeft phase_at 0 activity query_states → IsDispatch schema queries 0 query_states table activity marked read sets
watching_first schema queries given query_states table activity marked read sets is are leaf_index exact waiting count room open_room marks reads leaves left =
    let m : length queries ≡ length given = ap length is in
    record {
      leaf_index = subst (λ qs. IsLeafIndex schema qs table.rows table.leaves) (sym is) leaf_index;
      exact = subst (λ qs. AreExact schema qs table.rows table.leaves) (sym is) exact;
      waiting = subst (λ qs. AreWaiting qs table.rows table.leaves) (sym is) waiting;
      queries_are = count ∙ sym m;
      room = room ∙ ap room_for (sym m);
      open_room = open_room;
      sets = marks;
      reads = reads;
      leaves = leaves ∙ ap (map leaf_room) (sym is);
      left = left;
    }

-- before any event the sets have room for each query state
pub first_within : (queries given : List Query) (query_states : List Phase) (active_queries : List Bool) → map (λ (p : Phase). p.query) query_states ≡ queries → queries ≡ given → length active_queries ≡ room_for (length given) → length query_states ≤ length active_queries
first_within queries given query_states active_queries are is room =
    let l : length queries ≡ length query_states = ap length (sym are) ∙ length_map (λ (p : Phase). p.query) query_states in
    let m : length queries ≡ length given = ap length is in
    omega arith

-- no query state was looked at yet
pub looked_first : (query_states : List Phase) (activity : Activity) → ((k : ℕ) → has activity.active_queries k ≡ false) → HaveLooked query_states activity 0
looked_first query_states activity none = record {
  rest = λ j p less. absurd (omega arith);
  empty = λ j p less. absurd (omega arith);
  within = λ j is. absurd (false≢true (sym (none j) ∙ is));
}

-- one more was
pub looked_next : (query_states : List Phase) (old new : Activity) (k : ℕ) (x : Phase) → k < length query_states → x ≡ slice_index_or query_states k x → IsLooked phase_at k x old new → HaveLooked query_states old k → HaveLooked query_states new (k + 1)
looked_next query_states old new k x inside here one h = record {
  rest = λ j p less at out. elim (cases_eq j k) [
    | inl same ↦ subst (λ z. IsDormant (λ n. phase_at n z)) (the_one j p same at) (one.rest (ap (has new.active_queries) (sym same) ∙ out))
    | inr other ↦ h.rest j p (below j other less) at (sym (one.others j other).0 ∙ out)
  ];
  empty = λ j p less at out. elim (cases_eq j k) [
    | inl same ↦ subst (λ z. IsEmpty (λ n. phase_at n z)) (the_one j p same at) (one.empty (ap (has new.open_queries) (sym same) ∙ out))
    | inr other ↦ h.empty j p (below j other less) at (sym (one.others j other).1 ∙ out)
  ];
  within = λ j is. elim (cases_eq j k) [
    | inl same ↦ ap (has new.open_queries) same ∙ one.within (ap (has new.active_queries) (sym same) ∙ is)
    | inr other ↦ (one.others j other).1 ∙ h.within j (sym (one.others j other).0 ∙ is)
  ];
}
  where
    below : (j : ℕ) → j ≢ k → j < k + 1 → j < k
    below j other less = elim (cases_lt j k) [ inl low ↦ low | inr high ↦ absurd (other (omega arith)) ]

    the_one : (j : ℕ) (p : Phase) → j ≡ k → slice_get query_states j ≡ Some p → x ≡ p
    the_one j p same at =
        let there = slice_get-get_or query_states k x inside in
        let both = sym (subst (λ i. slice_get query_states i ≡ Some p) same at) ∙ there in
        cc
