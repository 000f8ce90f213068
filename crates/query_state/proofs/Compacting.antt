-- What a compaction makes of a query state.
use Rattle.std.proofs.Common.{◌≡◌, ℕ, zero, suc, ℤ, ◌≤◌, List, [], ◌∷◌, length, All, Contains, Option, Some, None, refl, sym, ap, subst, ◌∙◌, slice_get, get_or, arith, inl, inr}
use Rattle.std.specs.Prelude.{◌≤ℤ◌, nat_le, map}
use Rattle.std.specs.Int.Signed.{le_z}
use Rattle.std.proofs.lemmas.Int.{ints}
use Rattle.std.proofs.lemmas.Bool.{cases_Bool}
use Rattle.std.proofs.lemmas.List.Elements.{All-nil, All-cons, All-head, All-tail}
use Rattle.std.proofs.Math.Dec.{leb-zero}
use Rattle.std.proofs.lemmas.List.Recursion.{is_count_by}
use Rattle.cer_base.specs.Fields.{max_of}
use Rattle.std.proofs.lemmas.Option.{slice_get-get_or}
use Rattle.stream_schema.specs.Types.{Declared}
use Rattle.stream_schema.specs.declared.Event.{Event}
use Rattle.stream_schema.specs.declared.Value.{Value}
use Rattle.cel_terms.specs.declared.Query.{Query}
use Rattle.cer_base.specs.Repeats.{HasNoRepeats}
use Rattle.cer_base.specs.declared.node.Stamp.{Stamp}
use Rattle.cer_base.specs.declared.node.Root.{Root}
use Rattle.cer_base.proofs.Walks.{test_tells}
use Rattle.cer_base.specs.declared.node.Node.{Node}
use Rattle.tecs_enumerate.specs.Remaining.{CursorState}
use Rattle.union_lists.specs.Lists.{IsUnionList}
use Rattle.query_standing.specs.Kept.{Rows, QueryState, low_at, KeyStands, QueryStateStands}
use Rattle.all_or_none.specs.Phases.{Phase}
use Rattle.arena_compact.specs.Moves.{later}
use Rattle.arena_compact.specs.Roots.{recent_entries, with_row, kept_rows}
use Rattle.arena_compact.specs.Compacted.{least_of, Compacted, RowsCompacted, KeysCompacted}
use Rattle.arena_compact.proofs.Standing.{still_stand}
use Rattle.query_state.specs.Matches.{OpenMatches}
use Rattle.query_state.specs.QueryStates.{query_state_of}
use Rattle.query_state.specs.Compacting.{CursorsCompacted, AreRecent, QueryStateCompacted}
use Rattle.query_state.specs.Dropping.{HaveListsButOne}
use Rattle.query_standing.specs.Giving.{AreRemoved}
use Rattle.query_standing.proofs.Giving.{query_state_removes}
use Rattle.query_state.proofs.KeptRoots.{all_stay, compacted_stays}
use Rattle.query_state.proofs.Prepare.{Idle}

-- all nodes have a greatest start at the first position or later
later_all : (nodes : List Node) → later 0 nodes ≡ length nodes
later_all nodes = sym (is_count_by (λ (ns : List Node). length ns) (λ n. nat_le 0 (max_of n).pos) refl (λ n ns. rw (leb-zero (max_of n).pos) (omega arith)) nodes)

pub fewer_nodes : (query : ℕ) (low : ℤ) (old new : List Node) (rows : List Rows) (ws : List CursorState) → Compacted query low old new rows ws → length new ≤ length old
fewer_nodes query low old new rows ws h = let few = h.fewer_later 0 in let a = later_all old in let b = later_all new in omega arith

keys_length : (least low : ℤ) (old new : List Node) (keys moved : List Rows) → KeysCompacted least low old new keys moved → length moved ≡ length keys
keys_length least low old new [] [] c = refl
keys_length least low old new [] (m ∷ moved) c = absurd c
keys_length least low old new (r ∷ keys) [] c = absurd c
keys_length least low old new (r ∷ keys) (m ∷ moved) c = ap suc (keys_length least low old new keys moved c.1)

-- the lists of a key after it are those of the key before it, compacted
key_at : (least low : ℤ) (old new : List Node) (keys moved : List Rows) (n : ℕ) (ms : Rows) → KeysCompacted least low old new keys moved → slice_get moved n ≡ Some ms → (rows : Rows) × (slice_get keys n ≡ Some rows) × RowsCompacted least low old new (kept_rows low rows) ms
key_at least low old new [] [] n ms c at = absurd cc
key_at least low old new [] (m ∷ moved) n ms c at = absurd c
key_at least low old new (r ∷ keys) [] n ms c at = absurd c
key_at least low old new (r ∷ keys) (m ∷ moved) zero ms c at = let same : m ≡ ms = cc in (r, refl, subst (RowsCompacted least low old new (kept_rows low r)) same c.0)
key_at least low old new (r ∷ keys) (m ∷ moved) (suc n) ms c at = key_at least low old new keys moved n ms c.1 at

-- the entries of a list that is compacted are recent
recent_list : (low : ℤ) (es fs : List Root) → map (λ (e : Root). e.max) fs ≡ map (λ (e : Root). e.max) es → All (λ (e : Root). low ≤ℤ e.max.clock) es → All (λ (e : Root). low ≤ℤ e.max.clock) fs
recent_list low [] [] same h = All-nil (λ (e : Root). low ≤ℤ e.max.clock)
recent_list low [] (f ∷ fs) same h = absurd cc
recent_list low (e ∷ es) [] same h = absurd cc
recent_list low (e ∷ es) (f ∷ fs) same h =
    let Late : Root → Type 0 = λ x. low ≤ℤ x.max.clock in
    let first : f.max ≡ e.max = cc in
    let others : map (λ (x : Root). x.max) fs ≡ map (λ (x : Root). x.max) es = cc in
    All-cons Late f fs (subst (λ (s : Stamp). low ≤ℤ s.clock) (sym first) (All-head Late e es h)) (recent_list low es fs others (All-tail Late e es h))

recent_picked : (low : ℤ) (es : List Root) → All (λ (e : Root). low ≤ℤ e.max.clock) (recent_entries low es)
recent_picked low [] = All-nil (λ (e : Root). low ≤ℤ e.max.clock)
recent_picked low (e ∷ es) = elim (cases_Bool (le_z low e.max.clock)) [
  | inl pass ↦ rw pass (All-cons (λ (x : Root). low ≤ℤ x.max.clock) e (recent_entries low es) (test_tells low e.max.clock pass) (recent_picked low es))
  | inr fail ↦ rw fail (recent_picked low es)
]

abbrev recent_row : ℤ → ℕ × List Root → Type 0
recent_row low r = All (λ (e : Root). low ≤ℤ e.max.clock) r.1

recent_kept : (low : ℤ) (rows : Rows) → All (recent_row low) (kept_rows low rows)
recent_kept low [] = All-nil (recent_row low)
recent_kept low (r ∷ rows) = go (recent_entries low r.1) (recent_picked low r.1) (recent_kept low rows) where
  go : (es : List Root) → All (λ (e : Root). low ≤ℤ e.max.clock) es → All (recent_row low) (kept_rows low rows) → All (recent_row low) (with_row r.0 es (kept_rows low rows))
  go [] h rest = rest
  go (e ∷ es) h rest = All-cons (recent_row low) (r.0, e ∷ es) (kept_rows low rows) h rest

recent_rows : (least low : ℤ) (old new : List Node) (rows moved : Rows) → All (recent_row low) rows → RowsCompacted least low old new rows moved → All (recent_row low) moved
recent_rows least low old new [] [] h c = All-nil (recent_row low)
recent_rows least low old new [] (s ∷ moved) h c = absurd c
recent_rows least low old new (r ∷ rows) [] h c = absurd c
recent_rows least low old new (r ∷ rows) (s ∷ moved) h c = All-cons (recent_row low) s moved (recent_list low r.1 s.1 c.1.same_max (All-head (recent_row low) r rows h)) (recent_rows least low old new rows moved (All-tail (recent_row low) r rows h) c.2)

recent_keys : (least low : ℤ) (old new : List Node) (keys moved : List Rows) → KeysCompacted least low old new keys moved → AreRecent low moved
recent_keys least low old new [] [] c = All-nil (λ (rows : Rows). All (recent_row low) rows)
recent_keys least low old new [] (m ∷ moved) c = absurd c
recent_keys least low old new (r ∷ keys) [] c = absurd c
recent_keys least low old new (r ∷ keys) (m ∷ moved) c = All-cons (λ (rows : Rows). All (recent_row low) rows) m moved (recent_rows least low old new (kept_rows low r) m (recent_kept low r) c.0) (recent_keys least low old new keys moved c.1)

module _ (schema : Declared) (q : Query) (events : List Event) where
  -- what stands for the events stands for them with compacted nodes and lists
  still_stands : (query : ℕ) (least used : ℤ) (query_state : QueryState) (nodes : List Node) (rows kept : List Rows) (ws : List CursorState) → used ≤ℤ low_at q query_state.clock → Compacted query used query_state.nodes nodes kept ws → KeysCompacted least used query_state.nodes nodes query_state.rows rows → QueryStateStands schema q events query_state → QueryStateStands schema q events (record query_state { nodes = nodes; rows = rows })
  still_stands query least used query_state nodes rows kept ws le left lists s = record {
    states = s.states;
    nodes = left.well_formed;
    starts = λ t has. s.starts t (left.no_new_start t has);
    never_falls = s.never_falls;
    clock = s.clock;
    unread = s.unread;
    keys = record { distinct = s.keys.distinct; others = others; lists = keys_length least used query_state.nodes nodes query_state.rows rows lists ∙ s.keys.lists };
    here = s.here;
    each = λ n key moved at there.
        let was = key_at least used query_state.nodes nodes query_state.rows rows n moved lists there in
        let stand = s.each n key was.0 at was.1 in
        record {
          taken = stand.taken;
          no_op = stand.no_op;
          are_seen = stand.are_seen;
          silent = stand.silent;
          skip_insensitive = stand.skip_insensitive;
          stands = still_stand least used query_state.nodes nodes s.nodes query_state.table (low_at q query_state.clock) stand.taken was.0 moved le stand.stands was.2;
        };
    last = λ n key moved is at there.
        let was = key_at least used query_state.nodes nodes query_state.rows rows n moved lists there in
        let stand = s.last n key was.0 is at was.1 in
        record {
          seen = stand.seen;
          are_seen = stand.are_seen;
          stands = still_stand least used query_state.nodes nodes s.nodes query_state.table (low_at q query_state.clock) stand.seen was.0 moved le stand.stands was.2;
        };
  } where
    others : (key : List Value) → (Contains query_state.keys key → ⊥) → KeyStands schema q events (record query_state { nodes = nodes; rows = rows }) key []
    others key fresh =
        let stand = s.keys.others key fresh in
        record {
          seen = stand.seen;
          are_seen = stand.are_seen;
          stands = still_stand least used query_state.nodes nodes s.nodes query_state.table (low_at q query_state.clock) stand.seen [] [] le stand.stands tt;
        }

  -- each key's lists are lists of the nodes
  pub query_state_lists : (h : OpenMatches) (c : Option ℤ) (n : Option ℕ) → QueryStateStands schema q events (query_state_of h c n) → All (λ rows. All (λ (r : ℕ × List Root). IsUnionList h.nodes r.1) rows) h.rows
  query_state_lists h c n s = λ k d lt.
      let lists = s.keys.lists in
      (s.each k (get_or h.keys k []) (get_or h.rows k d) (slice_get-get_or h.keys k [] (omega arith)) (slice_get-get_or h.rows k d lt)).stands.lists

-- What the compaction of what is held leaves.
pub record Left (number : ℕ) (low : ℤ) (h k : OpenMatches) (ws vs : List CursorState) : Type 0 where
  pub same : (k.table ≡ h.table) × (k.keys ≡ h.keys)
  pub nodes : Compacted number low h.nodes k.nodes k.rows vs
  pub lists : KeysCompacted (least_of number low ws) low h.nodes k.nodes h.rows k.rows
  pub cursors : CursorsCompacted number h.nodes k.nodes ws vs

-- What is left once the keys without lists are removed.
pub record Removed (k : OpenMatches) (n : Option ℕ) (m : OpenMatches) (o : Option ℕ) : Type 0 where
  pub same : (m.table ≡ k.table) × (m.nodes ≡ k.nodes)
  pub given : AreRemoved k.keys k.rows n m.keys m.rows o
  pub have : HaveListsButOne m.rows

module _ (schema : Declared) (q : Query) (h k : OpenMatches) (n : Option ℕ) (p : Phase) (number : ℕ) (low : ℤ) (last : Option ℤ) (ws vs : List CursorState) (i : Idle schema q h n p) (is : low ≡ low_at p.query last) (left : Left number low h k ws vs) where
  still_here : (events : List Event) → QueryStateStands schema q events (query_state_of h last n) → QueryStateStands schema q events (query_state_of k last n)
  still_here events s =
      let held : k ≡ record h { nodes = k.nodes; rows = k.rows } = λ j. record { table = left.same.0 j; nodes = k.nodes; keys = left.same.1 j; rows = k.rows } in
      let here : low ≡ low_at q last = is ∙ ap (λ z. low_at z last) (sym i.query_is) in
      let le : low ≤ℤ low_at q last = subst (λ (l : ℤ). low ≤ℤ l) here (omega (arith, ints)) in
      subst (λ (x : OpenMatches). QueryStateStands schema q events (query_state_of x last n)) (sym held) (still_stands schema q events number (least_of number low ws) low (query_state_of h last n) k.nodes k.rows k.rows vs le left.nodes left.lists s)

  pub query_state_compacted : (m : OpenMatches) (o : Option ℕ) → Removed k n m o → (clock : Option ℤ) (events : List Event) → QueryStateStands schema q events (query_state_of h clock n) → QueryStateCompacted number (low_at p.query last) p.kept (query_state_of m None o) ws vs
  query_state_compacted m o g clock events s =
      let distinct : HasNoRepeats k.keys = subst HasNoRepeats (sym left.same.1) s.keys.distinct in
      let long : length k.rows ≡ length k.keys = keys_length (least_of number low ws) low h.nodes k.nodes h.rows k.rows left.lists ∙ (s.keys.lists ∙ ap length (sym left.same.1)) in
      subst (λ (l : ℤ). QueryStateCompacted number l p.kept (query_state_of m None o) ws vs) is (subst (λ (old : QueryState). QueryStateCompacted number low old (query_state_of m None o) ws vs) i.kept_is (record {
        table = g.same.0 ∙ left.same.0;
        clock = refl;
        nodes = subst (λ (ns : List Node). Compacted number low h.nodes ns m.rows vs) (sym g.same.1)
            (compacted_stays k.keys k.rows n m.keys m.rows o g.given distinct long number low h.nodes k.nodes vs left.nodes);
        kept = k.rows;
        lists = subst (λ (ns : List Node). KeysCompacted (least_of number low ws) low h.nodes ns h.rows k.rows) (sym g.same.1) left.lists;
        given = subst (λ (ks : List (List Value)). AreRemoved ks k.rows n m.keys m.rows o) left.same.1 g.given;
        recent = all_stay (λ rows. All (λ (r : ℕ × List Root). All (λ (e : Root). low ≤ℤ e.max.clock) r.1) rows) k.keys k.rows n m.keys m.rows o g.given long (recent_keys (least_of number low ws) low h.nodes k.nodes h.rows k.rows left.lists);
        have = g.have;
        cursors = subst (λ (ns : List Node). CursorsCompacted number h.nodes ns ws vs) (sym g.same.1) left.cursors;
      }))

  pub query_state_stands : (m : OpenMatches) (o : Option ℕ) → Removed k n m o → (events : List Event) → QueryStateStands schema q events (query_state_of h last n) → QueryStateStands schema q events (query_state_of m last o)
  query_state_stands m o g events s =
      let held : m ≡ record k { keys = m.keys; rows = m.rows } = λ j. record { table = g.same.0 j; nodes = g.same.1 j; keys = m.keys; rows = m.rows } in
      subst (λ (x : OpenMatches). QueryStateStands schema q events (query_state_of x last o)) (sym held) (query_state_removes schema q events (query_state_of k last n) m.keys m.rows o (still_here events s) g.given)

  pub query_state_fewer : (m : OpenMatches) (o : Option ℕ) → Removed k n m o → length m.nodes ≤ length p.kept.nodes
  query_state_fewer m o g = subst (λ (x : QueryState). length m.nodes ≤ length x.nodes) i.kept_is (subst (λ (ns : List Node). length ns ≤ length h.nodes) (sym g.same.1) (fewer_nodes number low h.nodes k.nodes k.rows vs left.nodes))
