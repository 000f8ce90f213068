-- What an event makes of a query state, in each of its cases.
use Rattle.std.proofs.Common.{◌≡◌, ◌≢◌, ℕ, zero, suc, ◌+◌, ◌<◌, ◌≤◌, ◌⊎◌, inl, inr, ℤ, ◌≤ℤ◌, Bool, true, false, List, [], ◌∷◌, ◌++◌, map, length, refl, sym, ap, subst, ◌∙◌, All, Contains, Option, Some, None, slice_get, slice_set, slice_index_or, arith, ◌*◌, ◌^◌, pow-suc, length-append}
use Rattle.std.specs.Prelude.{IfSome, IfNone, int_lt}
use Rattle.std.proofs.Math.Nat.{pow-zero}
use Rattle.std.proofs.lemmas.Int.{ints}
use Rattle.std.proofs.lemmas.Bool.{cases_lt}
use Rattle.std.proofs.lemmas.Option.{slice_get_within, slice_get-get_or}
use Rattle.std.proofs.lemmas.List.Elements.{All-nil, Contains-push_cases}
use Rattle.cer_base.specs.Bits.{has}
use Rattle.cer_base.specs.declared.node.Stamp.{Stamp}
use Rattle.cer_base.specs.declared.node.Root.{Root}
use Rattle.cer_base.specs.declared.node.Node.TheVariants.{Bottom}
use Rattle.cer_base.specs.Nodes.{AreInStep}
use Rattle.stream_schema.specs.Types.{Declared}
use Rattle.stream_schema.specs.declared.Event.{Event}
use Rattle.stream_schema.specs.declared.Value.{Value}
use Rattle.cel_terms.specs.declared.Query.{Query}
use Rattle.cel_terms.specs.Answers.{HasKey, HasClock}
use Rattle.cer_base.specs.Repeats.{HasNoRepeats}
use Rattle.cea_determinise.specs.declared.cea.StateSets.{StateSets}
use Rattle.cea_determinise.specs.Strict.{Standing, begin, next_standing}
use Rattle.cea_determinise.specs.Cea.{standing_of}
use Rattle.cea_compile.specs.Compiled.{automaton_of}
use Rattle.query_leaves.specs.Expand.{tree_of}
use Rattle.event_update.specs.declared.Staged.{Staged}
use Rattle.event_update.specs.Dormancy.{IsSkipInsensitive}
use Rattle.event_update.specs.Reach.{Seen}
use Rattle.event_update.specs.Stands.{seen}
use Rattle.event_update.specs.Update.{Discovers, rows_after, work_bound, accepted_entries}
use Rattle.event_update.specs.declared.Staged.TheVariants.{Unchanged}
use Rattle.tecs_enumerate.specs.Remaining.{recent_of}
use Rattle.event_update.proofs.Before.{can_advance}
use Rattle.query_standing.specs.Bounds.{IsMet}
use Rattle.query_standing.specs.Clocks.{Reads, HasClockAt, IsLastClock, FallsBack, low_of}
use Rattle.query_standing.specs.Keys.{leaves_reading}
use Rattle.query_standing.specs.Kept.{QueryState, low_at, QueryStateStands, roots_at}
use Rattle.query_standing.specs.Holding.{answer_of}
use Rattle.query_standing.specs.Steps.{Advances, OwnListsAreDormant, HasKeyOf}
use Rattle.query_standing.proofs.Growing.{all_earlier}
use Rattle.query_standing.proofs.Grown.{some_at}
use Rattle.query_standing.proofs.QueryStates.{query_state_unread, query_state_gives}
use Rattle.query_standing.proofs.Passing.{all_front, all_below}
use Rattle.query_standing.proofs.QueryStateSteps.{query_state_no_key, query_state_dormant, query_state_begins_none, query_state_keyed, query_state_with_key}
use Rattle.query_standing.specs.Bounds.{update_bound}
use Rattle.all_or_none.specs.Phases.{Grows, IsStep}
use Rattle.query_state.specs.Matches.{OpenMatches, HasNoneOf, TakesKey, CanTake, MayPass, IsReady}
use Rattle.query_state.specs.QueryStates.{query_state_of, put_in}
use Rattle.cea_determinise.specs.LazyDfa.{Table}
use Rattle.query_state.proofs.Cuts.{mid_table, mid_nodes}
use Rattle.query_state.proofs.Discovered.{discovered_met}
use Rattle.query_state.proofs.NoOp.{ready_no_op}
use Rattle.query_state.proofs.Giving.{roots_same}

append_none : {X : Type 0} (xs : List X) → xs ++ [] ≡ xs
append_none [] = refl
append_none (x ∷ xs) = ap (λ zs. x ∷ zs) (append_none xs)

-- a clock that does not fall is at least the last one
in_time : (schema : Declared) (q : Query) (events : List Event) (event : Event) (now : ℤ) (c : Option ℤ) → ((before n : ℤ) → FallsBack schema q events event before n → ⊥) → Reads schema q event → HasClock schema q.window event (length events) now → IfSome c (IsLastClock schema q events) → IfSome c (λ before. before ≤ℤ now)
in_time schema q events event now None time reads is last = tt
in_time schema q events event now (Some before) time reads is last = go (int_lt now before) refl
  where
    go : (b : Bool) → int_lt now before ≡ b → before ≤ℤ now
    go true e = absurd (time before now (record { reads = reads; last = last; now_is = is; falls = grind (arith, ints) }))
    go false e = grind (arith, ints)

-- where no state and no node is new
nothing_new : (schema : Declared) (q : Query) (event : Event) (h : OpenMatches) (n m : Option ℕ) → Grows schema q event (query_state_of h None n) (query_state_of h None m)
nothing_new schema q event h n m = record {
  extends = record { cea = refl; more_states = []; states = sym (append_none h.table.states); more_nodes = []; nodes = sym (append_none h.nodes) };
  growth = omega arith;
  unread = λ no. refl;
  key = omega arith;
  no_key = λ no. refl;
}

-- an event that the query does not read
pub unread_step : (schema : Declared) (q : Query) (event : Event) (position : ℕ) (h : OpenMatches) (n : Option ℕ) → (Reads schema q event → ⊥) → IsStep schema q event position (query_state_of h None n) (query_state_of h None None)
unread_step schema q event position h n unread = record { stands = λ events len time s. (s.0, query_state_unread schema q events event (query_state_of h s.0 n) s.1 unread); grows = nothing_new schema q event h n None }

-- one that it reads, and that moves on the clock alone
clock_advances : (schema : Declared) (q : Query) (events : List Event) (event : Event) (h : OpenMatches) (c : Option ℤ) (n : Option ℕ) (now : ℤ) → Reads schema q event → HasClock schema q.window event (length events) now → ((before next : ℤ) → FallsBack schema q events event before next → ⊥) → QueryStateStands schema q events (query_state_of h c n) → Advances schema q events event now (query_state_of h c n) (query_state_of h (Some now) None)
clock_advances schema q events event h c n now reads now_is time s = record {
  reads = reads;
  now_is = now_is;
  in_time = in_time schema q events event now c time reads now_is s.clock;
  clock = refl;
  extends = record { cea = refl; more_states = []; states = sym (append_none h.table.states); more_nodes = []; nodes = sym (append_none h.nodes) };
  met = All-nil (λ (p : StateSets). IsMet schema q (events ++ event ∷ []) (standing_of p));
  sets = s.states.sets;
  distinct = s.states.distinct;
  well_formed = s.nodes;
  starts = λ t has. inl has;
}

-- one that has no key
pub no_key_step : (schema : Declared) (q : Query) (event : Event) (position : ℕ) (h : OpenMatches) (n : Option ℕ) (now : ℤ) → Reads schema q event → HasClock schema q.window event position now → ((key : List Value) → HasKey schema q event key → ⊥) → IsStep schema q event position (query_state_of h None n) (query_state_of h None None)
no_key_step schema q event position h n now reads clock none = record {
  stands = λ events len time s. (
      let now_is : HasClock schema q.window event (length events) now = subst (λ p. HasClock schema q.window event p now) (sym len) clock in
      (Some now, query_state_no_key schema q events event now (query_state_of h s.0 n) (query_state_of h (Some now) None) s.1 (clock_advances schema q events event h s.0 n now reads now_is time s.1) (record { none = none; keys = refl; rows = refl; here = refl }))
      );
  grows = nothing_new schema q event h n None;
}

-- the bound of an event's work, in its two forms
pub same_bound : (found : ℕ) → work_bound found ≡ update_bound found
same_bound found = ap (λ n. 16 * n) (sym (square (found + 2)))
  where
    square : (n : ℕ) → n ^ 2 ≡ n * n
    square n = pow-suc n 1 ∙ ap (λ z. z * n) (pow-suc n 0 ∙ (ap (λ z. z * n) (pow-zero n) ∙ omega arith))

pub mid_stands : (schema : Declared) (q : Query) (events : List Event) (old mid : OpenMatches) (c : Option ℤ) (n : Option ℕ) (key : List Value) → TakesKey old key mid → QueryStateStands schema q events (query_state_of old c n) → QueryStateStands schema q events (query_state_of mid c n)
mid_stands schema q events old mid c n key (inl h) s = subst (λ m. QueryStateStands schema q events (query_state_of m c n)) (sym h.1) s
mid_stands schema q events old mid c n key (inr h) s = subst (λ m. QueryStateStands schema q events (query_state_of m c n)) (sym h.1) (query_state_with_key schema q events (query_state_of old c n) key s h.0)

set_length : {X : Type 0} (xs : List X) (n : ℕ) (v : X) → length (slice_set xs n v) ≡ length xs
set_length [] n v = refl
set_length (x ∷ xs) zero v = refl
set_length (x ∷ xs) (suc n) v = let rest = set_length xs n v in omega arith

set_other : {X : Type 0} (xs : List X) (n k : ℕ) (v : X) → k ≢ n → slice_get (slice_set xs n v) k ≡ slice_get xs k
set_other [] n k v apart = refl
set_other (x ∷ xs) zero zero v apart = absurd (apart refl)
set_other (x ∷ xs) zero (suc k) v apart = refl
set_other (x ∷ xs) (suc n) zero v apart = refl
set_other (x ∷ xs) (suc n) (suc k) v apart = set_other xs n k v (λ e. apart (ap suc e))

set_own : {X : Type 0} (f : X → X) (xs : List X) (n : ℕ) (x d : X) → slice_get xs n ≡ Some x → slice_get (slice_set xs n (f (slice_index_or xs n d))) n ≡ Some (f x)
set_own f [] n x d e = absurd cc
set_own f (y ∷ ys) zero x d e = (let same : y ≡ x = cc in ap (λ z. Some (f z)) same)
set_own f (y ∷ ys) (suc n) x d e = set_own f ys n x d e

-- one that has a key, known or new
keyed_stands : (schema : Declared) (q : Query) (events : List Event) (event : Event) (stamp : Stamp) (low : ℤ) (bits : List Bool) (key : List Value) (number : ℕ) (staged : Staged) (old new : OpenMatches) (c : Option ℤ) (n : Option ℕ) (now : ℤ) → Reads schema q event → HasClock schema q.window event (length events) now → HasKey schema q event key → has bits ≡ leaves_reading schema q event → stamp ≡ record { pos = length events; clock = now } → low ≤ℤ low_of q.window now → IsReady stamp low bits key number staged old new → ((before now : ℤ) → FallsBack schema q events event before now → ⊥) → QueryStateStands schema q events (query_state_of old c n) → QueryStateStands schema q (events ++ event ∷ []) (query_state_of (put_in number staged new) (Some now) (Some number))
keyed_stands schema q events event stamp low bits key number staged old new c n now reads now_is has_key bits_are stamp_is recent r time s =
    query_state_keyed schema q events event now mid after s_mid advances keyed
  where
    mid : QueryState
    mid = query_state_of r.mid c n

    after : QueryState
    after = query_state_of (put_in number staged new) (Some now) (Some number)

    s_mid : QueryStateStands schema q events mid
    s_mid = mid_stands schema q events old r.mid c n key r.takes s

    found : Discovers r.mid.table (0 ∷ map (λ (r : ℕ × List Root). r.0) r.before) bits new.table
    found = subst (λ ss. Discovers r.mid.table ss bits new.table) r.states_are r.table

    advances : Advances schema q events event now mid after
    advances = record {
      reads = reads;
      now_is = now_is;
      in_time = in_time schema q events event now c time reads now_is s.clock;
      clock = refl;
      extends = record { cea = found.cea; more_states = found.more; states = found.states; more_nodes = r.nodes.more; nodes = r.nodes.appended };
      met = discovered_met schema q events event mid number key r.before bits new.table now s_mid r.numbered r.before_is has_key now_is bits_are found;
      sets = r.sets;
      distinct = r.distinct;
      well_formed = r.nodes.well_formed;
      starts = λ t has. elim (r.nodes.starts t has) [ inl b ↦ inl b | inr e ↦ inr (e ∙ stamp_is) ];
    }

    keyed : HasKeyOf schema q events event now mid after
    keyed = record {
      key = key;
      has = has_key;
      number = number;
      numbered = r.numbered;
      keys = r.keys;
      here = refl;
      count = set_length new.rows number (rows_after (slice_index_or new.rows number []) staged) ∙ ap length r.rows;
      others = λ k apart. set_other new.rows number k (rows_after (slice_index_or new.rows number []) staged) apart ∙ ap (λ rs. slice_get rs k) r.rows;
      before = r.before;
      old_rows = r.before_is;
      after = rows_after r.before staged;
      new_rows = set_own (λ rs. rows_after rs staged) new.rows number r.before [] (ap (λ rs. slice_get rs number) r.rows ∙ r.before_is);
      seen = seen stamp bits;
      stamp = stamp_is;
      tells = record { clock = subst (λ (t : Stamp). HasClock schema q.window event t.pos t.clock) (sym stamp_is) now_is; bits = bits_are };
      stands = λ xs later st. r.stands (low_of q.window now) xs recent (subst (λ (t : Stamp). All (λ (x : Seen). x.stamp.pos < t.pos) xs) (sym stamp_is) later) st;
    }

-- at most one key is put in
one_key_more : (old mid : OpenMatches) (key : List Value) → TakesKey old key mid → length mid.keys ≤ length old.keys + 1
one_key_more old mid key (inl h) = subst (λ (m : OpenMatches). length m.keys ≤ length old.keys + 1) (sym h.1) (omega arith)
one_key_more old mid key (inr h) = subst (λ (m : OpenMatches). length m.keys ≤ length old.keys + 1) (sym h.1) (let long = length-append old.keys (key ∷ []) in omega arith)

keyed_grows : (schema : Declared) (q : Query) (event : Event) (stamp : Stamp) (low : ℤ) (bits : List Bool) (key : List Value) (number : ℕ) (staged : Staged) (old new : OpenMatches) (n : Option ℕ) → Reads schema q event → IsReady stamp low bits key number staged old new → Grows schema q event (query_state_of old None n) (query_state_of (put_in number staged new) None (Some number))
keyed_grows schema q event stamp low bits key number staged old new n reads r =
    let table : r.mid.table ≡ old.table = mid_table old r.mid key r.takes in
    let nodes : r.mid.nodes ≡ old.nodes = mid_nodes old r.mid key r.takes in
    record {
      extends = record {
        cea = r.table.cea ∙ ap (λ (t : Table). t.cea) table;
        more_states = r.table.more;
        states = r.table.states ∙ ap (λ (t : Table). t.states ++ r.table.more) table;
        more_nodes = r.nodes.more;
        nodes = r.nodes.appended ∙ ap (λ ns. ns ++ r.nodes.more) nodes;
      };
      growth = subst (λ b. length new.nodes ≤ length old.nodes + b) (same_bound (length new.table.states)) r.growth;
      unread = λ no. absurd (no reads);
      key = subst (λ (ks : List (List Value)). length ks ≤ length old.keys + 1) (sym r.keys) (one_key_more old r.mid key r.takes);
      no_key = λ no. absurd (no reads);
    }

pub keyed_step : (schema : Declared) (q : Query) (event : Event) (position : ℕ) (low : ℤ) (bits : List Bool) (key : List Value) (number : ℕ) (staged : Staged) (old new : OpenMatches) (n : Option ℕ) (now : ℤ) → Reads schema q event → HasClock schema q.window event position now → HasKey schema q event key → has bits ≡ leaves_reading schema q event → low ≤ℤ low_of q.window now → IsReady (record { pos = position; clock = now }) low bits key number staged old new → IsStep schema q event position (query_state_of old None n) (query_state_of (put_in number staged new) None (Some number))
keyed_step schema q event position low bits key number staged old new n now reads clock has_key bits_are recent r = record {
  stands = λ events len time s. (Some now, keyed_stands schema q events event (record { pos = position; clock = now }) low bits key number staged old new s.0 n now reads (subst (λ p. HasClock schema q.window event p now) (sym len) clock) has_key bits_are (ap (λ p. record { pos = p; clock = now }) (sym len)) recent r time s.1);
  grows = keyed_grows schema q event (record { pos = position; clock = now }) low bits key number staged old new n reads r;
}

-- What is put back is what was there.
set_back : {X : Type 0} (xs : List X) (n : ℕ) (d : X) → slice_set xs n (slice_index_or xs n d) ≡ xs
set_back [] n d = refl
set_back (x ∷ xs) zero d = refl
set_back (x ∷ xs) (suc n) d = ap (λ zs. x ∷ zs) (set_back xs n d)

-- Where no state of the last event's key accepts, that event has no answer, and its key need not be told.
here_none : (schema : Declared) (q : Query) (events : List Event) (h : OpenMatches) (c : Option ℤ) (n : ℕ) → QueryStateStands schema q events (query_state_of h c (Some n)) → accepted_entries h.table (slice_index_or h.rows n []) ≡ [] → QueryStateStands schema q events (query_state_of h c None)
here_none schema q events h c n s none = record {
  states = s.states;
  nodes = s.nodes;
  starts = s.starts;
  never_falls = s.never_falls;
  clock = s.clock;
  unread = s.unread;
  keys = record {
    distinct = s.keys.distinct;
    others = λ key fresh. (let k = s.keys.others key fresh in record { seen = k.seen; are_seen = k.are_seen; stands = k.stands });
    lists = s.keys.lists;
  };
  here = λ end answer ends is. (
      let roots : roots_at q (query_state_of h c (Some n)) ≡ [] = sym (roots_same q h c (Some n) (Some n) s.states.automaton) ∙ none in
      let given = query_state_gives schema q events end (query_state_of h c (Some n)) (omega arith) s in
      let among = subst (λ rs. Contains (map answer_of (recent_of (low_at q c) h.nodes rs)) answer) roots (given.all answer is) in
      let inside = among.1 in
      omega arith
      );
  each = λ m key rows at lists. (let k = s.each m key rows at lists in record { taken = k.taken; no_op = k.no_op; are_seen = k.are_seen; silent = k.silent; skip_insensitive = k.skip_insensitive; stands = k.stands });
  last = λ m key rows is at lists. (let none : None ≡ Some m = is in absurd cc);
}

-- one that is a no-op for the lists of its key, none of which accepts
pub no_op_step : (schema : Declared) (q : Query) (event : Event) (position : ℕ) (bits : List Bool) (key : List Value) (number : ℕ) (h : OpenMatches) (n : Option ℕ) (now : ℤ) → Reads schema q event → HasClock schema q.window event position now → HasKey schema q event key → has bits ≡ leaves_reading schema q event → slice_get h.keys number ≡ Some key → MayPass h number bits → IsStep schema q event position (query_state_of h None n) (query_state_of h None None)
no_op_step schema q event position bits key number h n now reads clock has_key bits_are numbered p = record {
  stands = λ events len time s. (
      let now_is : HasClock schema q.window event (length events) now = subst (λ p. HasClock schema q.window event p now) (sym len) clock in
      let ready = ready_no_op h (record { pos = length events; clock = now }) (low_of q.window now) bits key number p.rows numbered p.at p.sound p.distinct s.1.nodes p.no_op in
      let after = keyed_stands schema q events event (record { pos = length events; clock = now }) (low_of q.window now) bits key number Unchanged h h s.0 n now reads now_is has_key bits_are refl (omega (arith, ints)) ready time s.1 in
      let same : put_in number Unchanged h ≡ h = (λ i. record h { rows = set_back h.rows number [] i }) in
      let rows : slice_index_or h.rows number [] ≡ p.rows = (let both = sym (slice_get-get_or h.rows number [] (slice_get_within h.rows number p.rows p.at)) ∙ p.at in cc) in
      (Some now, here_none schema q (events ++ event ∷ []) h (Some now) number (subst (λ g. QueryStateStands schema q (events ++ event ∷ []) (query_state_of g (Some now) (Some number))) same after) (ap (accepted_entries h.table) rows ∙ p.none))
      );
  grows = nothing_new schema q event h n None;
}

-- the automaton is skip-insensitive, or the lists of the event's key are dormant
abbrev pub LeavesAlone : Declared → Query → Event → OpenMatches → Type 0
LeavesAlone schema q event h = IsSkipInsensitive (automaton_of (tree_of q)) q.strict ⊎ (HasNoRepeats h.keys → OwnListsAreDormant schema q event (query_state_of h None None))

left_alone : (schema : Declared) (q : Query) (event : Event) (h : OpenMatches) → HasNoRepeats h.keys → LeavesAlone schema q event h → IsSkipInsensitive (automaton_of (tree_of q)) q.strict ⊎ OwnListsAreDormant schema q event (query_state_of h None None)
left_alone schema q event h distinct (inl skip_insensitive) = inl skip_insensitive
left_alone schema q event h distinct (inr is_dormant) = inr (is_dormant distinct)

-- one that no leaf can read, and that the lists of its key may let pass
pub dormant_step : (schema : Declared) (q : Query) (event : Event) (position : ℕ) (h : OpenMatches) (n : Option ℕ) (now : ℤ) → Reads schema q event → HasClock schema q.window event position now → ((k : ℕ) → leaves_reading schema q event k ≡ false) → LeavesAlone schema q event h → IsStep schema q event position (query_state_of h None n) (query_state_of h None None)
dormant_step schema q event position h n now reads clock unread is_dormant = record {
  stands = λ events len time s. (
      let now_is : HasClock schema q.window event (length events) now = subst (λ p. HasClock schema q.window event p now) (sym len) clock in (
        Some now,
        query_state_dormant schema q events event now (query_state_of h s.0 n) (query_state_of h (Some now) None) s.1 (clock_advances schema q events event h s.0 n now reads now_is time s.1)
            (record { unread = unread; is_dormant = left_alone schema q event h s.1.keys.distinct is_dormant; table = refl; keys = refl; rows = refl; here = refl }),
      )
      );
  grows = nothing_new schema q event h n None;
}

-- one that begins no match, where none is open of its key
pub nothing_step : (schema : Declared) (q : Query) (event : Event) (position : ℕ) (h : OpenMatches) (n : Option ℕ) (now : ℤ) → Reads schema q event → HasClock schema q.window event position now → ((s : Standing) (mark : Bool) → next_standing (automaton_of (tree_of q)) q.strict begin (leaves_reading schema q event) mark ≡ Some s → ⊥) → ((key : List Value) → HasKey schema q event key → HasNoneOf h key) → IsStep schema q event position (query_state_of h None n) (query_state_of h None None)
nothing_step schema q event position h n now reads clock begins none = record {
  stands = λ events len time s. (
      let now_is : HasClock schema q.window event (length events) now = subst (λ p. HasClock schema q.window event p now) (sym len) clock in (
        Some now,
        query_state_begins_none schema q events event now (query_state_of h s.0 n) (query_state_of h (Some now) None) s.1 (clock_advances schema q events event h s.0 n now reads now_is time s.1)
            (record { begins = begins; empty = λ key number rows has at were. none key has s.1.keys.distinct number rows at were; table = refl; keys = refl; rows = refl; here = refl }),
      )
      );
  grows = nothing_new schema q event h n None;
}

-- each key's lists can take in the next event
pub can_take : (schema : Declared) (q : Query) (events : List Event) (old : OpenMatches) (c : Option ℤ) (n : Option ℕ) (stamp : Stamp) → stamp.pos ≡ length events → QueryStateStands schema q events (query_state_of old c n) → CanTake stamp old
can_take schema q events old c n stamp at_end s k rows at =
    let within = slice_get_within old.rows k rows at in
    let inside : k < length old.keys = (let l = s.keys.lists in omega arith) in
    let key = some_at old.keys k inside in
    let stand = s.each k key.0 rows key.1 at in
    let xs = stand.taken ++ stand.no_op in
    let before = all_below (length events) xs (all_earlier schema q events key.0 xs stand.are_seen) in
    can_advance old.table (low_at q c) stand.taken stamp old.nodes rows stand.stands (subst (λ p. All (λ (x : Seen). x.stamp.pos < p) stand.taken) (sym at_end) (all_front (λ (x : Seen). x.stamp.pos < length events) stand.taken stand.no_op before))

-- the event's start is in step with those that are there
pub starts_in_step : (schema : Declared) (q : Query) (events : List Event) (event : Event) (query_state : QueryState) (stamp : Stamp) → stamp.pos ≡ length events → ((before n : ℤ) → FallsBack schema q events event before n → ⊥) → Reads schema q event → HasClock schema q.window event (length events) stamp.clock → QueryStateStands schema q events query_state → AreInStep (query_state.nodes ++ Bottom stamp ∷ [])
starts_in_step schema q events event query_state stamp at_end time reads now_is s x y hx hy le = go (Contains-push_cases query_state.nodes (Bottom stamp) (Bottom x) hx) (Contains-push_cases query_state.nodes (Bottom stamp) (Bottom y) hy)
  where
    is_stamp : (t : Stamp) → Bottom stamp ≡ Bottom t → stamp ≡ t
    is_stamp t e = cc

    below : (c : Option ℤ) → IfSome c (IsLastClock schema q events) → IfNone c ((p : ℕ) (other : Event) → slice_get events p ≡ Some other → Reads schema q other → ⊥) → IfSome c (λ before. before ≤ℤ stamp.clock) → (t : Stamp) → HasClockAt schema q events t.pos t.clock → t.clock ≤ℤ stamp.clock
    below None l none le t h = absurd (none t.pos h.event h.at h.read)
    below (Some c) l none le t h = elim (cases_lt l.position t.pos) [
      | inl lt ↦ absurd (l.last t.pos h.event lt h.at h.read)
      | inr ge ↦ let under = s.never_falls t.pos l.position t.clock c ge h l.has in omega (arith, ints)
    ]

    go : Contains query_state.nodes (Bottom x) ⊎ (Bottom stamp ≡ Bottom x) → Contains query_state.nodes (Bottom y) ⊎ (Bottom stamp ≡ Bottom y) → x.clock ≤ℤ y.clock
    go (inl a) (inl b) = s.nodes.in_step x y a b le
    go (inl a) (inr b) = subst (λ (t : Stamp). x.clock ≤ℤ t.clock) (is_stamp y b) (below query_state.clock s.clock s.unread (in_time schema q events event stamp.clock query_state.clock time reads now_is s.clock) x (s.starts x a))
    go (inr a) (inl b) =
        let h = s.starts y b in
        let inside = slice_get_within events y.pos h.event h.at in
        let p = ap (λ (t : Stamp). t.pos) (is_stamp x a) in
        absurd (omega arith)
    go (inr a) (inr b) =
        let same = ap (λ (t : Stamp). t.clock) (sym (is_stamp x a) ∙ is_stamp y b) in
        omega (arith, ints)
