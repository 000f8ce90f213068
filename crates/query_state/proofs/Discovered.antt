-- The states that an event discovers are ones that runs meet.
use Rattle.std.proofs.Common.{◌≡◌, ℕ, ◌<◌, ◌⊎◌, inl, inr, ℤ, Bool, true, false, List, [], ◌∷◌, ◌++◌, map, length, refl, sym, ap, subst, ◌∙◌, All, Contains, Some, slice_get, option_and_then, append_assoc, eq-eqb, arith}
use Rattle.std.specs.Prelude.{eqb}
use Rattle.std.proofs.lemmas.Bool.{or_left}
use Rattle.std.proofs.lemmas.List.Elements.{All-nil, All-cons, All-head, All-tail, All-weaker}
use Rattle.cer_base.specs.Bits.{has}
use Rattle.cer_base.specs.declared.node.Root.{Root}
use Rattle.cer_base.specs.declared.node.Node.{Node}
use Rattle.cer_base.specs.Members.{SetTree, Start, Extended, United, Member, members, with_position}
use Rattle.cer_base.specs.Nodes.{tree}
use Rattle.stream_schema.specs.Types.{Declared}
use Rattle.stream_schema.specs.declared.Event.{Event}
use Rattle.stream_schema.specs.declared.Value.{Value}
use Rattle.cel_terms.specs.declared.Query.{Query}
use Rattle.cel_terms.specs.Answers.{HasKey, HasClock}
use Rattle.query_leaves.specs.Expand.{tree_of}
use Rattle.cea_determinise.specs.declared.cea.StateSets.{StateSets}
use Rattle.cea_determinise.specs.Runs.{LeafSet, Automaton, has_mark}
use Rattle.cea_determinise.specs.Strict.{Standing, begin, next_standing, run_standing}
use Rattle.cea_determinise.specs.Cea.{standing_of}
use Rattle.cea_determinise.specs.Cea as stored
use Rattle.cea_determinise.specs.LazyDfa.{Table, standing_at, standing_after}
use Rattle.cea_compile.specs.Compiled.{automaton_of}
use Rattle.union_lists.specs.Lists.{IsUnionList, IsList, trees, members_of}
use Rattle.event_update.specs.Reach.{Seen, RunEndsIn, Reaches, Has}
use Rattle.event_update.specs.Stands.{member_rows}
use Rattle.event_update.specs.Dormancy.{IsSkipInsensitive}
use Rattle.event_update.specs.Update.{Discovers}
use Rattle.event_update.proofs.Reach.{runs_past, runs_marked}
use Rattle.query_standing.specs.Bounds.{IsMet}
use Rattle.query_standing.specs.Keys.{leaves_reading, positions, IsSeenAs, IsGiven}
use Rattle.query_standing.specs.Kept.{Rows, QueryState, KeyIsKept, QueryStateStands}
use Rattle.query_standing.proofs.Lists.{here, cons_cases, none_in_nil, rises}
use Rattle.query_standing.proofs.Passing.{all_front, all_below, leads_with_no_op}
use Rattle.query_standing.proofs.Link.{runs_from, reaches, met_at}
use Rattle.query_standing.proofs.Growing.{get_last, seen_more, all_earlier}
use Rattle.query_standing.proofs.QueryStates.{length_more}

first_member : (t : SetTree) → (m : Member) × (rest : List Member) × (members t ≡ m ∷ rest)
first_member (Start s) = (record { start = s; positions = [] }, [], refl)
first_member (Extended p t) = let r = first_member t in (with_position p r.0, map (with_position p) r.1, ap (map (with_position p)) r.2)
first_member (United l r) = let f = first_member l in (f.0, f.1 ++ members r, ap (λ ms. ms ++ members r) f.2)

row_member : (nodes : List Node) (entries : List Root) → IsList (trees nodes entries) → (m : Member) × (rest : List Member) × (members_of nodes entries ≡ m ∷ rest)
row_member nodes [] h = absurd h
row_member nodes (e ∷ es) h = let f = first_member (tree nodes e.id) in (f.0, f.1 ++ members_of nodes es, ap (λ ms. ms ++ members_of nodes es) f.2)

-- each row has a member
in_row : (nodes : List Node) (rows : Rows) (n : ℕ) → Contains (map (λ (r : ℕ × List Root). r.0) rows) n → All (λ (r : ℕ × List Root). IsUnionList nodes r.1) rows → (m : Member) × Has (member_rows nodes rows) n m
in_row nodes [] n c h = absurd (none_in_nil n c)
in_row nodes (r ∷ rows) n c h = elim (cons_cases r.0 n (map (λ (r : ℕ × List Root). r.0) rows) c) [
  | inl e ↦ let list = All-head (λ (r : ℕ × List Root). IsUnionList nodes r.1) r rows h in let f = row_member nodes r.1 list.list in (f.0, inl (e, subst (λ ms. Contains ms f.0) (sym f.2) (here f.0 f.1)))
  | inr l ↦ let f = in_row nodes rows n l (All-tail (λ (r : ℕ × List Root). IsUnionList nodes r.1) r rows h) in (f.0, inr f.1)
]

All-back : {X : Type 0} (P : X → Type 0) (xs ys : List X) → All P (xs ++ ys) → All P ys
All-back P [] ys h = h
All-back P (x ∷ xs) ys h = All-back P xs ys (All-tail P x (xs ++ ys) h)

begin_run : (a : Automaton) (strict : Bool) (x : Seen) (t : Standing) (mark : Bool) → next_standing a strict begin x.bits mark ≡ Some t → (marks : List ℕ) × RunEndsIn a strict (x ∷ []) t marks
begin_run a strict x t false goes = ([], record { falls = tt; inside = All-nil _; run = ap (λ o. option_and_then (λ u. run_standing a strict (has_mark []) u []) o) goes })
begin_run a strict x t true goes = (
  x.stamp.pos ∷ [],
  record {
    falls = (All-nil _, tt);
    inside = All-cons (Contains (x.stamp.pos ∷ [])) x.stamp.pos [] (here x.stamp.pos []) (All-nil (Contains (x.stamp.pos ∷ [])));
    run = ap (λ b. option_and_then (λ u. run_standing a strict (has_mark (x.stamp.pos ∷ [])) u []) (next_standing a strict begin x.bits b)) (or_left (eqb x.stamp.pos x.stamp.pos) false (eq-eqb x.stamp.pos x.stamp.pos refl)) ∙ ap (λ o. option_and_then (λ u. run_standing a strict (has_mark (x.stamp.pos ∷ [])) u []) o) goes;
  },
)

goes_on : (a : Automaton) (strict : Bool) (xs : List Seen) (x : Seen) (s t : Standing) (marks : List ℕ) (mark : Bool) → All (λ (y : Seen). y.stamp.pos < x.stamp.pos) xs → RunEndsIn a strict xs s marks → next_standing a strict s x.bits mark ≡ Some t → (more : List ℕ) × RunEndsIn a strict (xs ++ x ∷ []) t more
goes_on a strict xs x s t marks true later r goes = (x.stamp.pos ∷ marks, runs_marked a strict xs x s t marks later r goes)
goes_on a strict xs x s t marks false later r goes = (marks, runs_past a strict xs x s t marks later r goes)

reach_more : (a : Automaton) (strict : Bool) (xs : List Seen) (x : Seen) (s t : Standing) (m : Member) (mark : Bool) → All (λ (y : Seen). y.stamp.pos < x.stamp.pos) xs → Reaches a strict xs s m → next_standing a strict s x.bits mark ≡ Some t → (n : Member) × Reaches a strict (xs ++ x ∷ []) t n
reach_more a strict xs x s t m mark later r goes =
    let f = runs_from a strict xs s m r in
    let behind = All-back (λ (y : Seen). y.stamp.pos < x.stamp.pos) f.before (f.first ∷ f.others) (subst (All (λ (y : Seen). y.stamp.pos < x.stamp.pos)) f.whole later) in
    let g = goes_on a strict (f.first ∷ f.others) x s t m.positions mark behind f.runs goes in
    let n : Member = record { start = f.first.stamp; positions = g.0 } in
    (n, subst (λ zs. Reaches a strict zs t n) (sym (ap (λ zs. zs ++ x ∷ []) f.whole ∙ append_assoc f.before (f.first ∷ f.others) (x ∷ []))) (reaches a strict f.before f.first (f.others ++ x ∷ []) t n refl g.1))

pub discovered_met : (schema : Declared) (q : Query) (events : List Event) (event : Event) (query_state : QueryState) (number : ℕ) (key : List Value) (before : Rows) (bits : List Bool) (table : Table) (now : ℤ) → QueryStateStands schema q events query_state → slice_get query_state.keys number ≡ Some key → slice_get query_state.rows number ≡ Some before → HasKey schema q event key → HasClock schema q.window event (length events) now → has bits ≡ leaves_reading schema q event → (d : Discovers query_state.table (0 ∷ map (λ (r : ℕ × List Root). r.0) before) bits table) → All (λ p. IsMet schema q (events ++ event ∷ []) (standing_of p)) d.more
discovered_met schema q events event query_state number key before bits table now s key_at rows_at has_key now_is bits_are d =
    All-weaker (λ (p : StateSets). (n : ℕ) × Contains (0 ∷ map (λ (r : ℕ × List Root). r.0) before) n × (mark : Bool) × (Some (standing_of p) ≡ standing_after query_state.table.cea query_state.table.states n bits mark)) (λ (p : StateSets). IsMet schema q (events ++ event ∷ []) (standing_of p)) (λ p h. one p h.0 h.1 h.2 h.3) d.more d.reached
  where
    a : Automaton
    a = stored.automaton_of_cea query_state.table.cea

    x : Seen
    x = record { stamp = record { pos = length events; clock = now }; bits = leaves_reading schema q event }

    kept : KeyIsKept schema q events query_state key before
    kept = s.each number key before key_at rows_at

    xs : List Seen
    xs = kept.taken ++ kept.no_op

    skip_insensitive : (kept.no_op ≡ []) ⊎ IsSkipInsensitive (automaton_of (tree_of q)) q.strict → (kept.no_op ≡ []) ⊎ IsSkipInsensitive a query_state.table.cea.strict
    skip_insensitive (inl none) = inl none
    skip_insensitive (inr is) = inr (subst (λ b. IsSkipInsensitive b query_state.table.cea.strict) (sym s.states.automaton) (subst (IsSkipInsensitive (automaton_of (tree_of q))) (sym s.states.strict) is))

    tells : IsSeenAs schema q event x
    tells = record { clock = now_is; bits = refl }

    given : IsGiven schema q (events ++ event ∷ []) (length events) key now (xs ++ x ∷ [])
    given = record {
      seen = seen_more schema q events event key xs x kept.are_seen has_key refl tells;
      last = event;
      last_is = get_last events event;
      has = has_key;
      clock = now_is;
      ends = let l = length_more events event in omega arith;
    }

    met : (t : Standing) (m : Member) → Reaches a query_state.table.cea.strict (xs ++ x ∷ []) t m → IsMet schema q (events ++ event ∷ []) t
    met t m r = met_at schema q (events ++ event ∷ []) (length events) key now (xs ++ x ∷ []) given t m (subst (λ b. Reaches (automaton_of (tree_of q)) b (xs ++ x ∷ []) t m) s.states.strict (subst (λ b. Reaches b query_state.table.cea.strict (xs ++ x ∷ []) t m) s.states.automaton r))

    reached : (n : ℕ) (t : Standing) (mark : Bool) → (0 ≡ n) ⊎ Contains (map (λ (r : ℕ × List Root). r.0) before) n → next_standing a query_state.table.cea.strict (standing_at query_state.table.states n) x.bits mark ≡ Some t → (m : Member) × Reaches a query_state.table.cea.strict (xs ++ x ∷ []) t m
    reached n t mark (inl e) goes =
        let first : next_standing a query_state.table.cea.strict begin x.bits mark ≡ Some t = subst (λ k. next_standing a query_state.table.cea.strict (standing_at query_state.table.states k) x.bits mark ≡ Some t) (sym e) goes in
        let run = begin_run a query_state.table.cea.strict x t mark first in
        let m : Member = record { start = x.stamp; positions = run.0 } in
        (m, reaches a query_state.table.cea.strict xs x [] t m refl run.1)
    reached n t mark (inr c) goes =
        let has = in_row query_state.nodes before n c kept.stands.lists in
        let before_x = all_below (length events) xs (all_earlier schema q events key xs kept.are_seen) in
        let m = reach_more a query_state.table.cea.strict kept.taken x (standing_at query_state.table.states n) t has.0 mark (all_front (λ (y : Seen). y.stamp.pos < length events) kept.taken kept.no_op before_x) (kept.stands.sound n has.0 has.1) goes in
        (m.0, leads_with_no_op a query_state.table.cea.strict kept.taken kept.no_op x t m.0 (skip_insensitive kept.skip_insensitive) kept.silent (rises (positions xs) kept.are_seen.ascending) before_x m.1)

    one : (p : StateSets) (n : ℕ) → Contains (0 ∷ map (λ (r : ℕ × List Root). r.0) before) n → (mark : Bool) → Some (standing_of p) ≡ standing_after query_state.table.cea query_state.table.states n bits mark → IsMet schema q (events ++ event ∷ []) (standing_of p)
    one p n c mark e =
        let goes : next_standing a query_state.table.cea.strict (standing_at query_state.table.states n) x.bits mark ≡ Some (standing_of p) = subst (λ (f : LeafSet). next_standing a query_state.table.cea.strict (standing_at query_state.table.states n) f mark ≡ Some (standing_of p)) bits_are (sym e) in
        let r = reached n (standing_of p) mark (cons_cases 0 n (map (λ (r : ℕ × List Root). r.0) before) c) goes in
        met (standing_of p) r.0 r.1
