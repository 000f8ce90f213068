-- A query state stands for the events with one more, where it advances.
use Rattle.std.proofs.Common.{◌≡◌, ℕ, suc, ◌<◌, ◌⊎◌, inl, inr, ℤ, ◌≤ℤ◌, Bool, List, [], ◌∷◌, ◌++◌, length, refl, sym, ap, subst, ◌∙◌, All, Contains, Option, Some, None, slice_get, append_assoc, arith}
use Rattle.std.specs.Prelude.{IfSome, IfNone, slice_index_or}
use Rattle.std.proofs.Math.Path.{fun_ext}
use Rattle.std.proofs.lemmas.Bool.{cases_lt, cases_eq}
use Rattle.std.proofs.lemmas.Int.{ints}
use Rattle.std.proofs.lemmas.Option.{slice_get_within, slice_get-get_or}
use Rattle.std.proofs.lemmas.List.Elements.{All-nil, All-weaker, All-append, All-push, Contains-append_left, Contains-push_cases}
use Rattle.cer_base.specs.declared.node.Stamp.{Stamp}
use Rattle.cer_base.specs.declared.node.Root.{Root}
use Rattle.cer_base.specs.declared.node.Node.{Node}
use Rattle.cer_base.specs.Repeats.{HasNoRepeats}
use Rattle.stream_schema.specs.Types.{Declared}
use Rattle.stream_schema.specs.declared.Event.{Event}
use Rattle.stream_schema.specs.declared.Value.{Value}
use Rattle.cel_terms.specs.declared.Query.{Query}
use Rattle.cel_terms.specs.Answers.{Answer, IsAnswer, HasKey, HasClock, values_at}
use Rattle.query_leaves.specs.Expand.{tree_of}
use Rattle.cea_determinise.specs.declared.cea.StateSets.{StateSets}
use Rattle.cea_determinise.specs.declared.cea.Cea.{Cea}
use Rattle.cea_determinise.specs.Strict.{Standing, begin, next_standing}
use Rattle.cea_determinise.specs.Cea.{standing_of}
use Rattle.cea_determinise.specs.Cea as stored
use Rattle.cea_determinise.specs.LazyDfa.{Table}
use Rattle.cea_compile.specs.Compiled.{automaton_of}
use Rattle.event_update.specs.Reach.{Seen}
use Rattle.event_update.specs.Stands.{seen, Stands}
use Rattle.event_update.specs.Dormancy.{IsDormantState, AreDormant, IsSkipInsensitive, IsSilent}
use Rattle.event_update.proofs.Before.{stand_later}
use Rattle.event_update.proofs.Dormant.{dormant_stand}
use Rattle.query_standing.specs.Bounds.{IsMet}
use Rattle.query_standing.specs.Clocks.{Reads, HasClockAt, NeverFalls, IsLastClock, low_of}
use Rattle.query_standing.specs.Keys.{leaves_reading, IsSeenAs, positions, AreSeen, IsGiven}
use Rattle.query_standing.specs.Kept.{Rows, QueryState, low_at, KeyStands, KeyIsKept, HasStates, IsHere, HaveStarts, QueryStateStands}
use Rattle.query_standing.specs.Steps.{Advances, HasNoKey, OwnListsAreDormant, LeavesLists, BeginsNothing, HasKeyOf}
use Rattle.query_standing.proofs.Lists.{here, none_in_nil, got, rises}
use Rattle.query_standing.proofs.KeyCases.{has_key, kept_key, at_one_place}
use Rattle.query_standing.proofs.Link.{no_silent_answer}
use Rattle.query_standing.proofs.Passing.{all_front, all_below, kept_whole, seen_taken, with_no_op}
use Rattle.query_standing.proofs.Growing.{get_front, get_last, get_cases, seen_same, seen_more, all_earlier}
use Rattle.query_standing.proofs.Grown.{stands_grown}
use Rattle.query_standing.proofs.Nothing.{none_stand, any_low, none_in_front}
use Rattle.query_standing.proofs.Roots.{roots_give_answers}
use Rattle.query_standing.proofs.QueryStates.{clock_front, clock_cases, met_more, length_more, none_after}
use Rattle.query_standing.proofs.Windows.{clock_is_one, low_rises}

module _ (schema : Declared) (q : Query) (events : List Event) (event : Event) (now : ℤ) (old new : QueryState) (s : QueryStateStands schema q events old) (v : Advances schema q events event now old new) where
  abbrev more : List Event
  more = events ++ event ∷ []

  at_last : HasClockAt schema q more (length events) now
  at_last = record { event = event; at = get_last events event; read = v.reads; clock_is = v.now_is }

  -- each earlier clock is at most the last one, and so at most the event's
  earlier_clock : (i : ℕ) (b : ℤ) → HasClockAt schema q events i b → b ≤ℤ now
  earlier_clock i b h = go old.clock s.clock s.unread v.in_time
    where
      go : (c : Option ℤ) → IfSome c (IsLastClock schema q events) → IfNone c ((p : ℕ) (other : Event) → slice_get events p ≡ Some other → Reads schema q other → ⊥) → IfSome c (λ before. before ≤ℤ now) → b ≤ℤ now
      go None l none le = absurd (none i h.event h.at h.read)
      go (Some c) l none le = elim (cases_lt l.position i) [
        | inl lt ↦ absurd (l.last i h.event lt h.at h.read)
        | inr ge ↦ let below = s.never_falls i l.position b c ge h l.has in omega (arith, ints)
      ]

  never_falls : NeverFalls schema q more
  never_falls i j b n le hb hn = go (clock_cases schema q events event i b hb) (clock_cases schema q events event j n hn)
    where
      is_now : (p : ℕ) (c : ℤ) → p ≡ length events → HasClock schema q.window event p c → c ≡ now
      is_now p c e h = clock_is_one schema q.window event (length events) c now (subst (λ k. HasClock schema q.window event k c) e h) v.now_is

      go : HasClockAt schema q events i b ⊎ ((i ≡ length events) × Reads schema q event × HasClock schema q.window event i b) → HasClockAt schema q events j n ⊎ ((j ≡ length events) × Reads schema q event × HasClock schema q.window event j n) → b ≤ℤ n
      go (inl x) (inl y) = s.never_falls i j b n le x y
      go (inl x) (inr y) = subst (λ z. b ≤ℤ z) (sym (is_now j n y.0 y.2)) (earlier_clock i b x)
      go (inr x) (inl y) = let inside = slice_get_within events j y.event y.at in let e = x.0 in absurd (omega arith)
      go (inr x) (inr y) = let e = is_now i b x.0 x.2 in let f = is_now j n y.0 y.2 in omega (arith, ints)

  last_clock : IsLastClock schema q more now
  last_clock = record {
    position = length events;
    has = at_last;
    last = λ p other lo at r. (let inside = slice_get_within more p other at in let l = length_more events event in absurd (omega arith));
  }

  -- before any event that is read nothing is seen
  blank : (key : List Value) (xs : List Seen) → AreSeen schema q events key xs → old.clock ≡ None → xs ≡ []
  blank key [] are none = refl
  blank key (y ∷ ys) are none =
      let h = (are.exact y.stamp.pos).0 (here y.stamp.pos (positions ys)) in
      absurd (subst (λ c. IfNone c ((p : ℕ) (other : Event) → slice_get events p ≡ Some other → Reads schema q other → ⊥)) none s.unread y.stamp.pos h.event h.at h.has.0)

  blank_front : (key : List Value) (k : List Seen) (l : List Seen) → AreSeen schema q events key (k ++ l) → old.clock ≡ None → k ≡ []
  blank_front key k l are none = none_in_front k l (blank key (k ++ l) are none)

  -- what stands does from the later clock on
  relow : (t : Table) (xs : List Seen) (nodes : List Node) (rows : Rows) → (old.clock ≡ None → xs ≡ []) → Stands t (low_at q old.clock) xs nodes rows → Stands t (low_at q new.clock) xs nodes rows
  relow t xs nodes rows none st = go old.clock refl v.in_time
    where
      go : (c : Option ℤ) → old.clock ≡ c → IfSome c (λ before. before ≤ℤ now) → Stands t (low_at q new.clock) xs nodes rows
      go (Some before) e le = stand_later t (low_at q old.clock) (low_at q new.clock) xs nodes rows (subst (λ c. low_at q old.clock ≤ℤ low_at q c) (sym v.clock) (subst (λ c. low_at q c ≤ℤ low_of q.window now) (sym e) (low_rises q.window before now le))) st
      go None e le = subst (λ ys. Stands t (low_at q new.clock) ys nodes rows) (sym (none e)) (any_low t (low_at q old.clock) (low_at q new.clock) nodes rows (subst (λ ys. Stands t (low_at q old.clock) ys nodes rows) (none e) st))

  states : HasStates schema q more new.table
  states = record {
    automaton = ap (λ (c : Cea). stored.automaton_of_cea c) v.extends.cea ∙ s.states.automaton;
    strict = ap (λ (c : Cea). c.strict) v.extends.cea ∙ s.states.strict;
    sets = v.sets;
    distinct = v.distinct;
    met = subst (All (λ (p : StateSets). IsMet schema q more (standing_of p))) (sym v.extends.states) (All-append (λ (p : StateSets). IsMet schema q more (standing_of p)) old.table.states v.extends.more_states (All-weaker (λ (p : StateSets). IsMet schema q events (standing_of p)) (λ (p : StateSets). IsMet schema q more (standing_of p)) (λ p. met_more schema q events event (standing_of p)) old.table.states s.states.met) v.met);
  }

  starts : HaveStarts schema q more new.nodes
  starts t c = elim (v.starts t c) [
    | inl before ↦ clock_front schema q events event t.pos t.clock (s.starts t before)
    | inr own ↦ subst (λ (x : Stamp). HasClockAt schema q more x.pos x.clock) (sym own) at_last
  ]

  -- what stands still does in more nodes, with more states, and from the later clock on
  grown : (xs : List Seen) (rows : Rows) → (old.clock ≡ None → xs ≡ []) → Stands old.table (low_at q old.clock) xs old.nodes rows → Stands new.table (low_at q new.clock) xs new.nodes rows
  grown xs rows none st = relow new.table xs new.nodes rows none
      (subst (λ c. Stands (record { cea = c; states = new.table.states; event_classes = new.table.event_classes; transitions = new.table.transitions }) (low_at q old.clock) xs new.nodes rows) (sym v.extends.cea)
      (subst (λ ps. Stands (record { cea = old.table.cea; states = ps; event_classes = new.table.event_classes; transitions = new.table.transitions }) (low_at q old.clock) xs new.nodes rows) (sym v.extends.states)
      (subst (λ ns. Stands (record { cea = old.table.cea; states = old.table.states ++ v.extends.more_states; event_classes = new.table.event_classes; transitions = new.table.transitions }) (low_at q old.clock) xs ns rows) (sym v.extends.nodes) one)))
    where
      one : Stands (record { cea = old.table.cea; states = old.table.states ++ v.extends.more_states; event_classes = new.table.event_classes; transitions = new.table.transitions }) (low_at q old.clock) xs (old.nodes ++ v.extends.more_nodes) rows
      one = stands_grown old.table.cea old.table.states v.extends.more_states old.table.event_classes new.table.event_classes old.table.transitions new.table.transitions (low_at q old.clock) xs old.nodes v.extends.more_nodes rows st

  -- what stands for another key still does
  other_key : (key : List Value) (rows : Rows) → (HasKey schema q event key → ⊥) → KeyStands schema q events old key rows → KeyStands schema q more new key rows
  other_key key rows other k = record {
    seen = k.seen;
    are_seen = seen_same schema q events event key k.seen k.are_seen other;
    stands = grown k.seen rows (blank key k.seen k.are_seen) k.stands;
  }

  other_kept : (key : List Value) (rows : Rows) → (HasKey schema q event key → ⊥) → KeyIsKept schema q events old key rows → KeyIsKept schema q more new key rows
  other_kept key rows other k = record {
    taken = k.taken;
    no_op = k.no_op;
    are_seen = seen_same schema q events event key (k.taken ++ k.no_op) k.are_seen other;
    silent = k.silent;
    skip_insensitive = k.skip_insensitive;
    stands = grown k.taken rows (blank_front key k.taken k.no_op k.are_seen) k.stands;
  }

  clock_query_state : IfSome new.clock (IsLastClock schema q more)
  clock_query_state = subst (λ c. IfSome c (IsLastClock schema q more)) (sym v.clock) last_clock

  unread_query_state : IfNone new.clock ((p : ℕ) (other : Event) → slice_get more p ≡ Some other → Reads schema q other → ⊥)
  unread_query_state = subst (λ c. IfNone c ((p : ℕ) (other : Event) → slice_get more p ≡ Some other → Reads schema q other → ⊥)) (sym v.clock) tt

  -- An event that is read and has no key changes the clock alone.
  pub query_state_no_key : HasNoKey schema q event old new → QueryStateStands schema q more new
  query_state_no_key h = record {
    states = states;
    nodes = v.well_formed;
    starts = starts;
    never_falls = never_falls;
    clock = clock_query_state;
    unread = unread_query_state;
    keys = record {
      distinct = subst HasNoRepeats (sym h.keys) s.keys.distinct;
      others = λ key fresh. other_key key [] (h.none key) (s.keys.others key (λ c. fresh (subst (λ ks. Contains ks key) (sym h.keys) c)));
      lists = ap length h.rows ∙ (s.keys.lists ∙ ap length (sym h.keys));
    };
    here = subst (IsHere schema q more new.keys) (sym h.here) (none_after schema q events event h.none);
    each = λ n key rows at lists. other_kept key rows (h.none key) (s.each n key rows (subst (λ ks. slice_get ks n ≡ Some key) h.keys at) (subst (λ rs. slice_get rs n ≡ Some rows) h.rows lists));
    last = λ n key rows is at lists. (let none = sym h.here ∙ is in absurd cc);
  }

  -- two keys of one event are one
  one_key : (k l : List Value) → HasKey schema q event k → HasKey schema q event l → k ≡ l
  one_key k l a b = let both = sym a.1 ∙ b.1 in cc

  -- An event that no leaf can read leaves dormant lists, those of a skip-insensitive automaton, and lists of other keys, as they are.
  pub query_state_dormant : LeavesLists schema q event old new → QueryStateStands schema q more new
  query_state_dormant h = record {
    states = states;
    nodes = v.well_formed;
    starts = starts;
    never_falls = never_falls;
    clock = clock_query_state;
    unread = unread_query_state;
    keys = record {
      distinct = subst HasNoRepeats (sym h.keys) s.keys.distinct;
      others = λ key fresh. after key [] (All-nil (λ (r : ℕ × List Root). IsDormantState old.table r.0)) (s.keys.others key (λ c. fresh (subst (λ ks. Contains ks key) (sym h.keys) c)));
      lists = ap length h.rows ∙ (s.keys.lists ∙ ap length (sym h.keys));
    };
    here = subst (IsHere schema q more new.keys) (sym h.here) (λ end answer ends is. (let l = length_more events event in no_answers end answer (omega arith) is));
    each = λ n key rows at lists. (
        let was = subst (λ ks. slice_get ks n ≡ Some key) h.keys at in
        let were = subst (λ rs. slice_get rs n ≡ Some rows) h.rows lists in
        after_kept n key rows was were (s.each n key rows was were)
        );
    last = λ n key rows is at lists. (let none = sym h.here ∙ is in absurd cc);
  } where
    stamp : Stamp
    stamp = record { pos = length events; clock = now }

    x : Seen
    x = seen stamp []

    tells : IsSeenAs schema q event x
    tells = record { clock = v.now_is; bits = fun_ext (λ k. sym (h.unread k)) }

    -- dormant lists take it in
    own : (key : List Value) (rows : Rows) (xs : List Seen) → HasKey schema q event key → AreDormant old.table rows → AreSeen schema q events key xs → Stands old.table (low_at q old.clock) xs old.nodes rows → KeyStands schema q more new key rows
    own key rows xs has rest are stands = record {
      seen = xs ++ x ∷ [];
      are_seen = seen_more schema q events event key xs x are has refl tells;
      stands = dormant_stand new.table (low_at q new.clock) xs stamp [] new.nodes rows (λ n. refl) (subst (λ (t : Table). AreDormant t rows) (sym h.table) rest) (all_below (length events) xs (all_earlier schema q events key xs are)) (grown xs rows (blank key xs are) stands);
    }

    after : (key : List Value) (rows : Rows) → AreDormant old.table rows → KeyStands schema q events old key rows → KeyStands schema q more new key rows
    after key rows rest k = elim (has_key schema q event key v.reads) [
      | inl has ↦ own key rows k.seen has rest k.are_seen k.stands
      | inr other ↦ other_key key rows other k
    ]

    -- those of a skip-insensitive automaton let it pass
    pass : (key : List Value) (rows : Rows) → HasKey schema q event key → IsSkipInsensitive (automaton_of (tree_of q)) q.strict → KeyIsKept schema q events old key rows → KeyIsKept schema q more new key rows
    pass key rows has skip_insensitive k = record {
      taken = k.taken;
      no_op = k.no_op ++ x ∷ [];
      are_seen = subst (AreSeen schema q more key) (append_assoc k.taken k.no_op (x ∷ [])) (seen_more schema q events event key (k.taken ++ k.no_op) x k.are_seen has refl tells);
      silent = All-push IsSilent k.no_op x k.silent (λ n. refl);
      skip_insensitive = inr skip_insensitive;
      stands = grown k.taken rows (blank_front key k.taken k.no_op k.are_seen) k.stands;
    }

    own_kept : (n : ℕ) (key : List Value) (rows : Rows) → HasKey schema q event key → slice_get old.keys n ≡ Some key → slice_get old.rows n ≡ Some rows → IsSkipInsensitive (automaton_of (tree_of q)) q.strict ⊎ OwnListsAreDormant schema q event old → (k : KeyIsKept schema q events old key rows) → (k.no_op ≡ []) ⊎ IsSkipInsensitive (automaton_of (tree_of q)) q.strict → KeyIsKept schema q more new key rows
    own_kept n key rows has was were (inl skip_insensitive) k o = pass key rows has skip_insensitive k
    own_kept n key rows has was were (inr is_dormant) k (inr skip_insensitive) = pass key rows has skip_insensitive k
    own_kept n key rows has was were (inr is_dormant) k (inl none) = kept_whole schema q more new key rows (own key rows k.taken has (is_dormant key n rows has was were) (seen_taken schema q events old key rows k none) k.stands)

    after_kept : (n : ℕ) (key : List Value) (rows : Rows) → slice_get old.keys n ≡ Some key → slice_get old.rows n ≡ Some rows → KeyIsKept schema q events old key rows → KeyIsKept schema q more new key rows
    after_kept n key rows was were k = elim (has_key schema q event key v.reads) [
      | inl has ↦ own_kept n key rows has was were h.is_dormant k k.skip_insensitive
      | inr other ↦ other_kept key rows other k
    ]

    -- no answer ends where no leaf reads
    none_at : (key : List Value) (xs : List Seen) → HasKey schema q event key → AreSeen schema q events key xs → (end : ℕ) (answer : Answer) → end ≡ length events → IsAnswer schema q more end answer → ⊥
    none_at key xs has are end answer ends is =
        let at_end : slice_get more end ≡ Some event = subst (λ i. slice_get more i ≡ Some event) (sym ends) (get_last events event) in
        let l = length_more events event in
        let given : IsGiven schema q more end key now (xs ++ x ∷ []) = record { seen = seen_more schema q events event key xs x are has refl tells; last = event; last_is = at_end; has = has; clock = subst (λ i. HasClock schema q.window event i now) (sym ends) v.now_is; ends = omega arith } in
        no_silent_answer schema q more end key now xs x given (λ k. refl) (all_below (length events) xs (all_earlier schema q events key xs are)) answer is

    no_answers : (end : ℕ) (answer : Answer) → end ≡ length events → IsAnswer schema q more end answer → ⊥
    no_answers end answer ends is = go (values_at schema q.partition event) refl
      where
        go : (o : Option (List Value)) → values_at schema q.partition event ≡ o → ⊥
        go None e =
            let l = length_more events event in
            none_after schema q events event (λ key has. (let both = sym e ∙ has.1 in absurd cc)) end answer (omega arith) is
        go (Some key) e = elim (kept_key key old.keys) [
          | inl there ↦ (
              let inside = slice_get_within old.keys there.0 key there.1 in
              let count = s.keys.lists in
              let within : there.0 < length old.rows = omega arith in
              let k = s.each there.0 key (slice_index_or old.rows there.0 []) there.1 (slice_get-get_or old.rows there.0 [] within) in
              none_at key (k.taken ++ k.no_op) (v.reads, e) k.are_seen end answer ends is
              )
          | inr fresh ↦ let k = s.keys.others key fresh in none_at key k.seen (v.reads, e) k.are_seen end answer ends is
        ]

  -- An event that begins nothing, with no match open of its key, leaves all lists as they are.
  pub query_state_begins_none : BeginsNothing schema q event old new → QueryStateStands schema q more new
  query_state_begins_none h = record {
    states = states;
    nodes = v.well_formed;
    starts = starts;
    never_falls = never_falls;
    clock = clock_query_state;
    unread = unread_query_state;
    keys = record {
      distinct = subst HasNoRepeats (sym h.keys) s.keys.distinct;
      others = λ key fresh. after key (s.keys.others key (λ c. fresh (subst (λ ks. Contains ks key) (sym h.keys) c)));
      lists = ap length h.rows ∙ (s.keys.lists ∙ ap length (sym h.keys));
    };
    here = subst (IsHere schema q more new.keys) (sym h.here) (λ end answer ends is. (let l = length_more events event in no_answers end answer (omega arith) is));
    each = λ n key rows at lists. (
        let was = subst (λ ks. slice_get ks n ≡ Some key) h.keys at in
        let were = subst (λ rs. slice_get rs n ≡ Some rows) h.rows lists in
        after_kept n key rows was were (s.each n key rows was were)
        );
    last = λ n key rows is at lists. (let none = sym h.here ∙ is in absurd cc);
  } where
    x : Seen
    x = record { stamp = record { pos = length events; clock = now }; bits = leaves_reading schema q event }

    tells : IsSeenAs schema q event x
    tells = record { clock = v.now_is; bits = refl }

    begins : (t : Standing) (mark : Bool) → next_standing (stored.automaton_of_cea new.table.cea) new.table.cea.strict begin x.bits mark ≡ Some t → ⊥
    begins = subst (λ a. (t : Standing) (mark : Bool) → next_standing a new.table.cea.strict begin x.bits mark ≡ Some t → ⊥) (sym states.automaton)
        (subst (λ b. (t : Standing) (mark : Bool) → next_standing (automaton_of (tree_of q)) b begin x.bits mark ≡ Some t → ⊥) (sym states.strict) h.begins)

    own : (key : List Value) (xs : List Seen) → HasKey schema q event key → AreSeen schema q events key xs → Stands new.table (low_at q new.clock) (xs ++ x ∷ []) new.nodes [] → KeyStands schema q more new key []
    own key xs has are stands = record {
      seen = xs ++ x ∷ [];
      are_seen = seen_more schema q events event key xs x are has refl tells;
      stands = stands;
    }

    own_new : (key : List Value) → HasKey schema q event key → KeyStands schema q events old key [] → KeyStands schema q more new key []
    own_new key has k = own key k.seen has k.are_seen (none_stand new.table (low_at q new.clock) k.seen x new.nodes begins (all_below (length events) k.seen (all_earlier schema q events key k.seen k.are_seen)) (grown k.seen [] (blank key k.seen k.are_seen) k.stands))

    own_old : (key : List Value) → HasKey schema q event key → KeyIsKept schema q events old key [] → KeyStands schema q more new key []
    own_old key has k =
        let xs = k.taken ++ k.no_op in
        let before = all_below (length events) xs (all_earlier schema q events key xs k.are_seen) in
        own key xs has k.are_seen (with_no_op new.table (automaton_of (tree_of q)) q.strict (low_at q new.clock) k.taken k.no_op x new.nodes [] states.automaton states.strict k.skip_insensitive k.silent (rises (positions xs) k.are_seen.ascending) before (none_stand new.table (low_at q new.clock) k.taken x new.nodes begins (all_front (λ (y : Seen). y.stamp.pos < length events) k.taken k.no_op before) (grown k.taken [] (blank_front key k.taken k.no_op k.are_seen) k.stands)))

    after : (key : List Value) → KeyStands schema q events old key [] → KeyStands schema q more new key []
    after key k = elim (has_key schema q event key v.reads) [
      | inl has ↦ own_new key has k
      | inr other ↦ other_key key [] other k
    ]

    after_kept : (n : ℕ) (key : List Value) (rows : Rows) → slice_get old.keys n ≡ Some key → slice_get old.rows n ≡ Some rows → KeyIsKept schema q events old key rows → KeyIsKept schema q more new key rows
    after_kept n key rows was were k = elim (has_key schema q event key v.reads) [
      | inl has ↦
          let none = h.empty key n rows has was were in
          kept_whole schema q more new key rows (subst (KeyStands schema q more new key) (sym none) (own_old key has (subst (KeyIsKept schema q events old key) none k)))
      | inr other ↦ other_kept key rows other k
    ]

    none_at : (key : List Value) → HasKey schema q event key → KeyStands schema q more new key [] → (end : ℕ) (answer : Answer) → end ≡ length events → IsAnswer schema q more end answer → ⊥
    none_at key has k end answer ends is =
        let l = length_more events event in
        let at_end : slice_get more end ≡ Some event = subst (λ i. slice_get more i ≡ Some event) (sym ends) (get_last events event) in
        let given : IsGiven schema q more end key now k.seen = record { seen = k.are_seen; last = event; last_is = at_end; has = has; clock = subst (λ i. HasClock schema q.window event i now) (sym ends) v.now_is; ends = omega arith } in
        let are = roots_give_answers schema q more end key now k.seen given new.table (low_at q new.clock) new.nodes [] (ap (low_at q) v.clock) states.automaton states.strict k.stands in
        none_in_nil answer (are.all answer is)

    no_answers : (end : ℕ) (answer : Answer) → end ≡ length events → IsAnswer schema q more end answer → ⊥
    no_answers end answer ends is = go (values_at schema q.partition event) refl
      where
        go : (o : Option (List Value)) → values_at schema q.partition event ≡ o → ⊥
        go None e =
            let l = length_more events event in
            none_after schema q events event (λ key has. (let both = sym e ∙ has.1 in absurd cc)) end answer (omega arith) is
        go (Some key) e = elim (kept_key key old.keys) [
          | inl there ↦ (
              let inside = slice_get_within old.keys there.0 key there.1 in
              let count = s.keys.lists in
              let within : there.0 < length old.rows = omega arith in
              let were = slice_get-get_or old.rows there.0 [] within in
              let none = h.empty key there.0 (slice_index_or old.rows there.0 []) (v.reads, e) there.1 were in
              none_at key (v.reads, e) (own_old key (v.reads, e) (subst (KeyIsKept schema q events old key) none (s.each there.0 key (slice_index_or old.rows there.0 []) there.1 were))) end answer ends is
              )
          | inr fresh ↦ none_at key (v.reads, e) (own_new key (v.reads, e) (s.keys.others key fresh)) end answer ends is
        ]

  -- An event with a known key changes the lists of that key alone, which then stand for one event more.
  pub query_state_keyed : HasKeyOf schema q events event now old new → QueryStateStands schema q more new
  query_state_keyed h = record {
    states = states;
    nodes = v.well_formed;
    starts = starts;
    never_falls = never_falls;
    clock = clock_query_state;
    unread = unread_query_state;
    keys = record {
      distinct = subst HasNoRepeats (sym h.keys) s.keys.distinct;
      others = λ key fresh. (
          let new_to : Contains old.keys key → ⊥ = λ c. fresh (subst (λ ks. Contains ks key) (sym h.keys) c) in
          other_key key [] (λ has. new_to (subst (Contains old.keys) (one_key h.key key h.has has) (got old.keys h.number h.key h.numbered))) (s.keys.others key new_to)
          );
      lists = h.count ∙ (s.keys.lists ∙ ap length (sym h.keys));
    };
    here = subst (IsHere schema q more new.keys) (sym h.here) (h.key, length events, sym (length_more events event), record { event = event; at = get_last events event; has = h.has }, subst (λ ks. slice_get ks h.number ≡ Some h.key) (sym h.keys) h.numbered);
    each = λ n key rows at lists. each n key rows (subst (λ ks. slice_get ks n ≡ Some key) h.keys at) lists;
    last = λ n key rows is at lists. (
        let same : n ≡ h.number = (let both = sym h.here ∙ is in cc) in
        own n key rows same (subst (λ ks. slice_get ks n ≡ Some key) h.keys at) lists
        );
  } where
    own_key : (rows : Rows) → slice_get new.rows h.number ≡ Some rows → KeyIsKept schema q events old h.key h.before → KeyStands schema q more new h.key rows
    own_key rows lists k =
        let is : h.after ≡ rows = (let both = sym h.new_rows ∙ lists in cc) in
        let xs = k.taken ++ k.no_op in
        let before = all_below (length events) xs (all_earlier schema q events h.key xs k.are_seen) in
        let at = ap (λ (x : Stamp). x.pos) h.stamp in
        let stand = with_no_op new.table (automaton_of (tree_of q)) q.strict (low_at q new.clock) k.taken k.no_op h.seen new.nodes h.after states.automaton states.strict k.skip_insensitive k.silent (rises (positions xs) k.are_seen.ascending) (subst (λ n. All (λ (x : Seen). x.stamp.pos < n) xs) (sym at) before) (h.stands k.taken (all_front (λ (x : Seen). x.stamp.pos < length events) k.taken k.no_op before) (relow old.table k.taken old.nodes h.before (blank_front h.key k.taken k.no_op k.are_seen) k.stands)) in
        record {
          seen = xs ++ h.seen ∷ [];
          are_seen = seen_more schema q events event h.key xs h.seen k.are_seen h.has at h.tells;
          stands = subst (λ rs. Stands new.table (low_at q new.clock) (xs ++ h.seen ∷ []) new.nodes rs) is stand;
        }

    own : (n : ℕ) (key : List Value) (rows : Rows) → n ≡ h.number → slice_get old.keys n ≡ Some key → slice_get new.rows n ≡ Some rows → KeyStands schema q more new key rows
    own n key rows same at lists =
        let key_is : h.key ≡ key = (let both = sym h.numbered ∙ subst (λ i. slice_get old.keys i ≡ Some key) same at in cc) in
        subst (λ k. KeyStands schema q more new k rows) key_is (own_key rows (subst (λ i. slice_get new.rows i ≡ Some rows) same lists) (s.each h.number h.key h.before h.numbered h.old_rows))

    each : (n : ℕ) (key : List Value) (rows : Rows) → slice_get old.keys n ≡ Some key → slice_get new.rows n ≡ Some rows → KeyIsKept schema q more new key rows
    each n key rows at lists = elim (cases_eq n h.number) [
      | inl same ↦ kept_whole schema q more new key rows (own n key rows same at lists)
      | inr apart ↦
          let others : HasKey schema q event key → ⊥ = λ has. (let key_is = one_key key h.key has h.has in apart (at_one_place old.keys n h.number h.key s.keys.distinct (subst (λ k. slice_get old.keys n ≡ Some k) key_is at) h.numbered)) in
          other_kept key rows others (s.each n key rows at (sym (h.others n apart) ∙ lists))
    ]

-- A key that is not kept may be put in, last and with no list.
pub query_state_with_key : (schema : Declared) (q : Query) (events : List Event) (query_state : QueryState) (key : List Value) → QueryStateStands schema q events query_state → (Contains query_state.keys key → ⊥) → QueryStateStands schema q events (record query_state { keys = query_state.keys ++ key ∷ []; rows = query_state.rows ++ [] ∷ [] })
query_state_with_key schema q events query_state key s fresh = record {
  states = s.states;
  nodes = s.nodes;
  starts = s.starts;
  never_falls = s.never_falls;
  clock = s.clock;
  unread = s.unread;
  keys = record {
    distinct = distinct query_state.keys s.keys.distinct fresh;
    others = λ k apart. moved k [] (s.keys.others k (λ c. apart (Contains-append_left query_state.keys (key ∷ []) k c)));
    lists = let a = length_more query_state.rows [] in let b = length_more query_state.keys key in let c = s.keys.lists in omega arith;
  };
  here = here query_state.here s.here;
  each = λ n k rows at lists. elim (get_cases query_state.keys key n k at) [
    | inl l ↦ waits k rows (s.each n k rows l (old_rows n rows (let i = slice_get_within query_state.keys n k l in let c = s.keys.lists in omega arith) lists))
    | inr r ↦ kept_whole schema q events (record query_state { keys = query_state.keys ++ key ∷ []; rows = query_state.rows ++ [] ∷ [] }) k rows (subst (λ z. KeyStands schema q events (record query_state { keys = query_state.keys ++ key ∷ []; rows = query_state.rows ++ [] ∷ [] }) z rows) r.1 (no_list n rows (let c = s.keys.lists in let e = r.0 in omega arith) lists))
  ];
  last = λ n k rows is at lists. (
      let h : IsHere schema q events query_state.keys (Some n) = subst (IsHere schema q events query_state.keys) is s.here in
      let i = slice_get_within query_state.keys n h.0 h.4 in
      elim (get_cases query_state.keys key n k at) [
        | inl l ↦ moved k rows (s.last n k rows is l (old_rows n rows (let c = s.keys.lists in omega arith) lists))
        | inr r ↦ let e = r.0 in absurd (omega arith)
      ]
      );
} where
  moved : (k : List Value) (rows : Rows) → KeyStands schema q events query_state k rows → KeyStands schema q events (record query_state { keys = query_state.keys ++ key ∷ []; rows = query_state.rows ++ [] ∷ [] }) k rows
  moved k rows h = record { seen = h.seen; are_seen = h.are_seen; stands = h.stands }

  waits : (k : List Value) (rows : Rows) → KeyIsKept schema q events query_state k rows → KeyIsKept schema q events (record query_state { keys = query_state.keys ++ key ∷ []; rows = query_state.rows ++ [] ∷ [] }) k rows
  waits k rows h = record { taken = h.taken; no_op = h.no_op; are_seen = h.are_seen; silent = h.silent; skip_insensitive = h.skip_insensitive; stands = h.stands }

  distinct : (ks : List (List Value)) → HasNoRepeats ks → (Contains ks key → ⊥) → HasNoRepeats (ks ++ key ∷ [])
  distinct [] d f = ((λ c. none_in_nil key c), tt)
  distinct (k ∷ ks) d f = (
    λ c. elim (Contains-push_cases ks key k c) [ inl l ↦ d.0 l | inr e ↦ f (subst (λ z. Contains (k ∷ ks) z) (sym e) (first k ks)) ],
    distinct ks d.1 (λ c. f (later k ks c)),
  )
    where
      first : (k : List Value) (ks : List (List Value)) → Contains (k ∷ ks) k
      first k ks = (0, omega arith, refl)

      later : (k : List Value) (ks : List (List Value)) → Contains ks key → Contains (k ∷ ks) key
      later k ks h = (suc h.0, omega (arith, h.1), h.2)

  here : (o : Option ℕ) → IsHere schema q events query_state.keys o → IsHere schema q events (query_state.keys ++ key ∷ []) o
  here None h = h
  here (Some n) h = (h.0, h.1, h.2, h.3, get_front query_state.keys (key ∷ []) n h.0 h.4)

  old_rows : (n : ℕ) (rows : Rows) → n < length query_state.rows → slice_get (query_state.rows ++ [] ∷ []) n ≡ Some rows → slice_get query_state.rows n ≡ Some rows
  old_rows n rows lt at = elim (get_cases query_state.rows [] n rows at) [ inl l ↦ l | inr r ↦ let e = r.0 in absurd (omega arith) ]

  no_list : (n : ℕ) (rows : Rows) → n ≡ length query_state.rows → slice_get (query_state.rows ++ [] ∷ []) n ≡ Some rows → KeyStands schema q events (record query_state { keys = query_state.keys ++ key ∷ []; rows = query_state.rows ++ [] ∷ [] }) key rows
  no_list n rows e at = elim (get_cases query_state.rows [] n rows at) [
    | inl l ↦ let i = slice_get_within query_state.rows n rows l in absurd (omega arith)
    | inr r ↦ subst (λ z. KeyStands schema q events (record query_state { keys = query_state.keys ++ key ∷ []; rows = query_state.rows ++ [] ∷ [] }) key z) r.1 (moved key [] (s.keys.others key fresh))
  ]
