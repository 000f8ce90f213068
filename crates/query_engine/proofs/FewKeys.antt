-- Each key that has a list has an event of its own from the low clock on.
use Rattle.std.proofs.Common.{◌≡◌, ℕ, suc, ◌+◌, ◌<◌, ◌≤◌, inl, inr, ℤ, Bool, List, [], ◌∷◌, length, refl, sym, ap, subst, ◌∙◌, All, Contains, Option, Some, slice_get, arith}
use Rattle.std.specs.Prelude.{◌≤ℤ◌}
use Rattle.std.proofs.lemmas.List.Elements.{All-head, All-tail, Contains-append_left}
use Rattle.stream_schema.specs.Types.{Declared}
use Rattle.stream_schema.specs.declared.Event.{Event}
use Rattle.stream_schema.specs.declared.Value.{Value}
use Rattle.cel_terms.specs.declared.Query.{Query}
use Rattle.cel_terms.specs.Answers.{HasClock}
use Rattle.cer_base.specs.Repeats.{HasNoRepeats}
use Rattle.cer_base.specs.declared.node.Stamp.{Stamp}
use Rattle.cer_base.specs.declared.node.Root.{Root}
use Rattle.cer_base.specs.declared.node.Node.{Node}
use Rattle.cer_base.specs.Members.{Member, newest}
use Rattle.cer_base.specs.Nodes.{tree, IsRoot}
use Rattle.cer_base.proofs.Walks.{newest_is_start}
use Rattle.cea_determinise.specs.Runs.{Automaton}
use Rattle.cea_determinise.specs.Strict.{Standing}
use Rattle.cea_determinise.specs.Cea.{automaton_of_cea}
use Rattle.union_lists.specs.Lists.{IsUnionList}
use Rattle.event_update.specs.Reach.{Seen, Reaches}
use Rattle.arena_compact.specs.Roots.{ids_of}
use Rattle.query_standing.specs.Keys.{positions, IsSeen, HasKeyAt}
use Rattle.query_standing.specs.Kept.{Rows, QueryState, KeyIsKept, QueryStateStands}
use Rattle.query_standing.proofs.Lists.{here, there, cons_cases, none_in_nil, all_from}
use Rattle.query_standing.proofs.Link.{positions_append}
use Rattle.query_standing.proofs.Passing.{all_front}
use Rattle.query_state.specs.Compacting.{AreRecent}
use Rattle.query_state.specs.Dropping.{HaveListsButOne}
use Rattle.query_engine.specs.Keys.{IsReadSince, IsWithin}
use Rattle.query_engine.proofs.FewPlaces.{one_key}
use Rattle.query_engine.proofs.FewEntries.{row_ids, of_rows}

-- KEYS WITHOUT LISTS

-- how many keys have no list
empties : List Rows → ℕ
empties [] = 0
empties ([] ∷ rows) = suc (empties rows)
empties ((r ∷ rs) ∷ rows) = empties rows

none_empty : (rows : List Rows) → ((n : ℕ) → slice_get rows n ≡ Some [] → ⊥) → empties rows ≡ 0
unfolding empties
none_empty [] none = refl
none_empty ([] ∷ rows) none = absurd (none 0 refl)
none_empty ((r ∷ rs) ∷ rows) none = none_empty rows (λ n is. none (suc n) is)

one_empty : (rows : List Rows) (told : Option ℕ) (k : ℕ) → ((n : ℕ) → slice_get rows n ≡ Some [] → told ≡ Some (n + k)) → empties rows ≤ 1
unfolding empties
one_empty [] told k one = omega arith
one_empty ([] ∷ rows) told k one =
    let none = none_empty rows (λ n is. (
    let same : n + 1 + k ≡ 0 + k = (let both = sym (one (suc n) is) ∙ one 0 refl in let e : suc n + k ≡ 0 + k = cc in omega arith) in
    absurd (omega arith)
    )) in
    omega arith
one_empty ((r ∷ rs) ∷ rows) told k one = one_empty rows told (k + 1) (λ n is. one (suc n) is ∙ ap (λ x. Some x) (omega arith))

-- A KEY WITH A LIST

module _ (schema : Declared) (q : Query) (events : List Event) (p : QueryState) (low : ℤ) where
  -- a list has a node, which is recent where all entries are
  a_node : (nodes : List Node) (es : List Root) → IsUnionList nodes es → All (λ (e : Root). low ≤ℤ e.max.clock) es → (id : ℕ) × Contains (ids_of es) id × (low ≤ℤ (newest (tree nodes id)).clock)
  a_node nodes [] u late = absurd u.list
  a_node nodes (e ∷ es) u late = (e.id, here e.id (ids_of es), subst (λ (s : Stamp). low ≤ℤ s.clock) (All-head (IsRoot nodes) e es u.roots).is_max (All-head (λ (f : Root). low ≤ℤ f.max.clock) e es late))

  -- where a member starts that the events reach
  starts_at : (a : Automaton) (strict : Bool) (xs : List Seen) (s : Standing) (m : Member) → All (IsSeen schema q events) xs → Reaches a strict xs s m → (x : Seen) × IsSeen schema q events x × Contains (positions xs) x.stamp.pos × (m.start ≡ x.stamp)
  starts_at a strict [] s m seen r = absurd r
  starts_at a strict (x ∷ xs) s m seen r = elim r [
    | inl own ↦ (x, All-head (IsSeen schema q events) x xs seen, here x.stamp.pos (positions xs), own.0)
    | inr later ↦ let rest = starts_at a strict xs s m (All-tail (IsSeen schema q events) x xs seen) later in (rest.0, rest.1, there x.stamp.pos rest.0.stamp.pos (positions xs) rest.2, rest.3)
  ]

  -- an event of the key from the low clock on
  abbrev IsOwn : List Value → ℕ → Type 0
  IsOwn key at = HasKeyAt schema q events key at × IsReadSince schema q events low at

  own_event : (key : List Value) (r : ℕ × List Root) (rs : Rows) → All (λ (e : Root). low ≤ℤ e.max.clock) r.1 → KeyIsKept schema q events p key (r ∷ rs) → (at : ℕ) × IsOwn key at
  unfolding row_ids
  own_event key r rs late k =
      let u = All-head (λ (o : ℕ × List Root). IsUnionList p.nodes o.1) r rs k.stands.lists in
      let node = a_node p.nodes r.1 u late in
      let t = tree p.nodes node.0 in
      let m = newest_is_start t in
      let at = of_rows p.nodes (r ∷ rs) node.0 m.0 (Contains-append_left (ids_of r.1) (row_ids rs) node.0 node.1) m.1 in
      let found = starts_at (automaton_of_cea p.table.cea) p.table.cea.strict k.taken _ m.0 (all_front (IsSeen schema q events) k.taken k.no_op k.are_seen.seen) (k.stands.sound at.0 m.0 at.1) in
      let x = found.0 in
      let among = subst (λ ns. Contains ns x.stamp.pos) (sym (positions_append k.taken k.no_op)) (Contains-append_left (positions k.taken) (positions k.no_op) x.stamp.pos found.2) in
      let own = (k.are_seen.exact x.stamp.pos).0 among in
      let same : found.1.event ≡ own.event = (let both = sym found.1.at ∙ own.at in cc) in
      let stamp : x.stamp ≡ newest t = sym found.3 ∙ m.2 in (
        x.stamp.pos,
        (
          own,
          record {
            clock = x.stamp.clock;
            has = record { event = own.event; at = own.at; read = own.has.0; clock_is = subst (λ (e : Event). HasClock schema q.window e x.stamp.pos x.stamp.clock) same found.1.tells.clock };
            since = subst (λ (s : Stamp). low ≤ℤ s.clock) (sym stamp) node.2;
          },
        ),
      )

  -- ALL KEYS

  record Many (keys : List (List Value)) (rows : List Rows) : Type 0 where
    ats : List ℕ
    distinct : HasNoRepeats ats
    each : (at : ℕ) → Contains ats at → (key : List Value) × Contains keys key × IsOwn key at
    count : length keys ≤ length ats + empties rows

  -- each entry of a key's lists is from the low clock on
  abbrev LateRows : Rows → Type 0
  LateRows rows = All (λ (r : ℕ × List Root). All (λ (e : Root). low ≤ℤ e.max.clock) r.1) rows

  many : (keys : List (List Value)) (rows : List Rows) → HasNoRepeats keys → length rows ≡ length keys → AreRecent low rows →
      ((n : ℕ) (key : List Value) (lists : Rows) → slice_get keys n ≡ Some key → slice_get rows n ≡ Some lists → KeyIsKept schema q events p key lists) → Many keys rows
  unfolding empties
  many [] [] d same late each = record { ats = []; distinct = tt; each = λ at has. absurd (none_in_nil at has); count = omega arith }
  many [] (r ∷ rows) d same late each = absurd (omega arith)
  many (key ∷ keys) [] d same late each = absurd (omega arith)
  many (key ∷ keys) ([] ∷ rows) d same late each =
      let rest = many keys rows d.1 (omega arith) (All-tail LateRows [] rows late) (λ n l lists at lists_at. each (suc n) l lists at lists_at) in
      record {
        ats = rest.ats;
        distinct = rest.distinct;
        each = λ at has. (let e = rest.each at has in (e.0, there key e.0 keys e.1, e.2));
        count = let c = rest.count in omega arith;
      }
  many (key ∷ keys) ((r ∷ rs) ∷ rows) d same late each =
      let rest = many keys rows d.1 (omega arith) (All-tail LateRows (r ∷ rs) rows late) (λ n l lists at lists_at. each (suc n) l lists at lists_at) in
      let own = own_event key r rs (All-head (λ (s : ℕ × List Root). All (λ (e : Root). low ≤ℤ e.max.clock) s.1) r rs (All-head LateRows (r ∷ rs) rows late)) (each 0 key (r ∷ rs) refl refl) in
      record {
        ats = own.0 ∷ rest.ats;
        distinct = (λ has. (let e = rest.each own.0 has in d.0 (subst (Contains keys) (one_key schema q events own.0 e.0 key e.2.0 own.1.0) e.1)), rest.distinct);
        each = λ at has. elim (cons_cases own.0 at rest.ats has) [
          | inl is ↦ (key, here key keys, subst (IsOwn key) is own.1)
          | inr later ↦ let e = rest.each at later in (e.0, there key e.0 keys e.1, e.2)
        ];
        count = let c = rest.count in omega arith;
      }

  -- No more keys than events from the low clock on, and one.
  pub keys_few : QueryStateStands schema q events p → AreRecent low p.rows → HaveListsButOne p.rows → IsWithin (IsReadSince schema q events low) (length p.keys)
  keys_few s late have =
      let all = many p.keys p.rows s.keys.distinct s.keys.lists late s.each in
      let one = one_empty p.rows have.number 0 (λ n is. have.others n (omega arith) is ∙ ap (λ x. Some x) (omega arith)) in
      record {
        positions = all.ats;
        distinct = all.distinct;
        each = all_from (IsReadSince schema q events low) all.ats (λ at has. (all.each at has).2.1);
        bounded = let c = all.count in omega arith;
      }
