-- What is known of a query state when an event is prepared.
use Rattle.std.proofs.Common.{◌≡◌, ℕ, ℤ, ◌<◌, Bool, true, false, List, [], ◌∷◌, slice_index_or, length, refl, sym, ap, subst, ◌∙◌, Option, Some, None, slice_get, arith}
use Rattle.std.specs.Prelude.{IsSomeAnd, option_and_then, option_map, bytes_eq}
use Rattle.std.proofs.lemmas.Bool.{false≢true, and_parts}
use Rattle.std.proofs.lemmas.Option.{slice_get_within}
use Rattle.cel_terms.specs.EventsRead.{query_reads as reads}
use Rattle.query_standing.specs.Clocks.{Reads}
use Rattle.query_standing.proofs.Reading.{reads_is, is_read}
use Rattle.cer_base.specs.Bits.{has, room_for}
use Rattle.cer_base.specs.declared.node.Stamp.{Stamp}
use Rattle.stream_schema.specs.Types.{Declared, DeclaredType}
use Rattle.stream_schema.specs.Names.{attr_at, attr_among, attr_index}
use Rattle.stream_schema.specs.declared.Attr.{Attr}
use Rattle.stream_schema.specs.declared.AttrAt.{AttrAt}
use Rattle.cel_terms.specs.declared.Name.{Name}
use Rattle.query_leaves.proofs.FirstPlace.{found}
use Rattle.query_state.specs.KeyPlaces.{places_in, values_there, key_there, AreKeyPlaces}
use Rattle.stream_schema.specs.Events.{IsOfSchema}
use Rattle.stream_schema.specs.declared.Event.{Event}
use Rattle.stream_schema.specs.declared.Value.{Value}
use Rattle.stream_schema.specs.declared.Value.TheVariants as value
use Rattle.cel_terms.specs.declared.Query.{Query}
use Rattle.cel_terms.specs.declared.Window.{Window}
use Rattle.cel_terms.specs.declared.Window.TheVariants.{Free, Events, Clock}
use Rattle.cel_terms.specs.Predicate.{attr_value}
use Rattle.cel_terms.specs.Answers.{HasClock, values_at}
use Rattle.cea_determinise.specs.declared.cea.Cea.{Cea}
use Rattle.cea_determinise.specs.LazyDfa.{Table}
use Rattle.event_update.specs.declared.Staged.{Staged}
use Rattle.window_clock.specs.declared.Source.{Source}
use Rattle.window_clock.specs.Clocks as clocks
use Rattle.window_clock.specs.Places.{clock_in, IsOf}
use Rattle.query_standing.specs.Clocks.{FallsBack}
use Rattle.query_standing.specs.Kept.{QueryState, QueryStateStands}
use Rattle.all_or_none.specs.Phases.{Phase, CanPrepare, IsIdle, AreLeavesRead, IsUnread, StandsAt}
use Rattle.all_or_none.specs.Dormancy.{here_at, phase_at, HasTimes}
use Rattle.query_standing.specs.Keys.{leaves_reading}
use Rattle.query_state.specs.declared.matches.Ready.{Ready}
use Rattle.query_state.specs.declared.matches.Sizes.{Sizes}
use Rattle.query_state.specs.declared.state.Step.{Step}
use Rattle.query_state.specs.declared.state.Step.TheVariants.{NoChange, Keyed}
use Rattle.query_state.specs.Matches.{OpenMatches, IsReady}
use Rattle.query_state.specs.QueryStates.{query_state_of, kept_of, ready_of, CanEnd, StandsWith, AreTypesRead, HaveClocks, IsMade}
use Rattle.partition_table.specs.Keys.{is_at, are_at}
use Rattle.stream_schema.specs.Equality.{Decides-value}
use Rattle.query_state.proofs.Cuts.{mid_table}

idle_kept : (step : Option Step) (r : Option Ready) (z : Sizes) (h : OpenMatches) (n : Option ℕ) → ready_of step r h n ≡ None → kept_of step r z h n ≡ query_state_of h None n
idle_kept None r z h n e = refl
idle_kept (Some NoChange) r z h n e = absurd cc
idle_kept (Some Keyed) None z h n e = refl
idle_kept (Some Keyed) (Some r) z h n e = absurd cc

-- so it can end, whatever the sizes are
pub idle_ends : (step : Option Step) (r : Option Ready) (z : Sizes) (h : OpenMatches) (n : Option ℕ) → ready_of step r h n ≡ None → CanEnd step r z h
idle_ends None r z h n e = tt
idle_ends (Some NoChange) r z h n e = absurd cc
idle_ends (Some Keyed) None z h n e = tt
idle_ends (Some Keyed) (Some r) z h n e = absurd cc

-- the query state by its fields
abbrev pub seen_as : Declared → Query → Option Step → Option Ready → Sizes → OpenMatches → Option ℕ → ℕ → Phase
seen_as schema q step r z h n upto = record { schema = schema; query = q; kept = kept_of step r z h n; ready = ready_of step r h n; upto = upto }

-- an idle query state by its fields
abbrev pub sleeper : Declared → Query → OpenMatches → Option ℕ → ℕ → Phase
sleeper schema q h n upto = record { schema = schema; query = q; kept = query_state_of h None n; ready = None; upto = upto }

-- For some events, with their clock, the query state is as it is.
pub record Facts (schema : Declared) (q : Query) (event : Event) (position : ℕ) (h : OpenMatches) (n : Option ℕ) : Type 0 where
  pub events : List Event
  pub count : length events ≡ position
  pub of_schema : IsOfSchema schema event
  pub in_time : (before now : ℤ) → FallsBack schema q events event before now → ⊥
  pub clock : Option ℤ
  pub stands : QueryStateStands schema q events (query_state_of h clock n)

pub facts : (schema : Declared) (q : Query) (event : Event) (position : ℕ) (step : Option Step) (r : Option Ready) (z : Sizes) (h : OpenMatches) (n : Option ℕ) (upto : ℕ) (p : Phase) → seen_as schema q step r z h n upto ≡ p → IsIdle (phase_at position p) → CanPrepare event position (phase_at position p) → Facts schema q event position h (here_at upto position n)
facts schema q event position step r z h n upto p is idle can =
    let rest : ready_of step r h n ≡ None = subst IsIdle (sym is) idle in
    let know : CanPrepare event position (phase_at position (seen_as schema q step r z h n upto)) = subst (λ (x : Phase). CanPrepare event position (phase_at position x)) (sym is) can in
    record {
      events = know.events;
      count = know.count;
      of_schema = know.of_schema;
      in_time = know.in_time;
      clock = know.stands.0;
      stands = subst (λ (k : QueryState). QueryStateStands schema q know.events (record k { clock = know.stands.0; here = here_at upto position k.here })) (idle_kept step r z h n rest) know.stands.1;
    }

-- where the query state is idle, it is as it is for some events
pub record Idle (schema : Declared) (q : Query) (h : OpenMatches) (n : Option ℕ) (p : Phase) : Type 0 where
  pub schema_is : schema ≡ p.schema
  pub query_is : q ≡ p.query
  pub kept_is : query_state_of h None n ≡ p.kept

pub idle_query_state : (schema : Declared) (q : Query) (step : Option Step) (r : Option Ready) (z : Sizes) (h : OpenMatches) (n : Option ℕ) (upto count : ℕ) (p : Phase) → seen_as schema q step r z h n upto ≡ p → IsIdle p → Idle schema q h (here_at upto count n) (phase_at count p)
idle_query_state schema q step r z h n upto count p is idle = record {
  schema_is = ap (λ (x : Phase). x.schema) is;
  query_is = ap (λ (x : Phase). x.query) is;
  kept_is = ap (λ (k : QueryState). record k { here = here_at upto count k.here }) (sym (idle_kept step r z h n (ap (λ (x : Phase). x.ready) is ∙ idle))) ∙ ap (λ (x : Phase). (phase_at count x).kept) is;
}

-- What the lists are worked out with: the leaves of the query that read the event, in the room that the automaton asks for.
pub record AreOwnLeaves (schema : Declared) (q : Query) (event : Event) (h : OpenMatches) (bits : List Bool) : Type 0 where
  pub are : has bits ≡ leaves_reading schema q event
  pub room : length bits ≡ room_for h.table.cea.size

-- those that are told where one reads the event, and else none
pub own_leaves : (schema : Declared) (q : Query) (types : List Bool) (places : List (Option (List ℕ))) (source : Source) (event : Event) (position : ℕ) (step : Option Step) (r : Option Ready) (z : Sizes) (h : OpenMatches) (n : Option ℕ) (upto : ℕ) (p : Phase) (reads : Bool) (leaves none bits : List Bool) → seen_as schema q step r z h n upto ≡ p → IsMade schema q types places source none h → (reads ≡ true → AreLeavesRead event leaves (phase_at position p)) → (reads ≡ false → IsUnread event (phase_at position p)) → (reads ≡ true → bits ≡ leaves) → (reads ≡ false → bits ≡ none) → AreOwnLeaves schema q event h bits
own_leaves schema q types places source event position step r z h n upto p true leaves none bits is m told unread some else =
    let own : AreLeavesRead event leaves (phase_at position (seen_as schema q step r z h n upto)) = subst (λ (x : Phase). AreLeavesRead event leaves (phase_at position x)) (sym is) (told refl) in
    record {
      are = (λ i k. (ap (λ (b : List Bool). has b k) (some refl) ∙ own.each k) i);
      room = ap length (some refl) ∙ (own.room ∙ ap room_for (sym m.size));
    }
own_leaves schema q types places source event position step r z h n upto p false leaves none bits is m told unread some else =
    let no : (k : ℕ) → leaves_reading schema q event k ≡ false = λ k. subst (λ (x : Phase). leaves_reading x.schema x.query event k ≡ false) (sym is) (unread refl k) in
    record {
      are = (λ i k. (ap (λ (b : List Bool). has b k) (else refl) ∙ (m.empty k ∙ sym (no k))) i);
      room = ap length (else refl) ∙ m.room;
    }

-- its fields, where it is idle
pub idle_fields : (schema : Declared) (q : Query) (step : Option Step) (r : Option Ready) (z : Sizes) (h : OpenMatches) (n : Option ℕ) (upto : ℕ) (p : Phase) → seen_as schema q step r z h n upto ≡ p → IsIdle p → sleeper schema q h n upto ≡ p
idle_fields schema q step r z h n upto p is idle =
    let rest : ready_of step r h n ≡ None = ap (λ (x : Phase). x.ready) is ∙ idle in
    (λ i. record { schema = schema; query = q; kept = sym (idle_kept step r z h n rest) i; ready = sym rest i; upto = upto }) ∙ is

-- The idle query state is what it was where its lists are, whatever the sizes are.
pub as_it_was : (schema : Declared) (q : Query) (step : Option Step) (r : Option Ready) (z y : Sizes) (h m : OpenMatches) (n : Option ℕ) (upto : ℕ) (p : Phase) → seen_as schema q step r z h n upto ≡ p → IsIdle p → m ≡ h → seen_as schema q step r y m n upto ≡ p
as_it_was schema q step r z y h m n upto p view idle same =
    let rest : ready_of step r h n ≡ None = ap (λ (x : Phase). x.ready) view ∙ idle in
    ap (λ (x : OpenMatches). seen_as schema q step r y x n upto) same
    ∙ (sym (idle_fields schema q step r y h n upto (seen_as schema q step r y h n upto) refl rest) ∙ idle_fields schema q step r z h n upto p view idle)

-- the same once the last event had come that was not a no-op for it
pub idle_active_keys : (schema : Declared) (q : Query) (step : Option Step) (r : Option Ready) (z : Sizes) (h : OpenMatches) (n : Option ℕ) (upto : ℕ) (p : Phase) → seen_as schema q step r z h n upto ≡ p → IsIdle p → Idle schema q h n p
idle_active_keys schema q step r z h n upto p is idle = record {
  schema_is = ap (λ (x : Phase). x.schema) is;
  query_is = ap (λ (x : Phase). x.query) is;
  kept_is = sym (idle_kept step r z h n (ap (λ (x : Phase). x.ready) is ∙ idle)) ∙ ap (λ (x : Phase). x.kept) is;
}

-- what stands for events with a clock, seen from within
pub inner_with : (schema : Declared) (q : Query) (h : OpenMatches) (n : Option ℕ) (p : Phase) → Idle schema q h n p → (clock : Option ℤ) (events : List Event) → StandsWith clock events p → QueryStateStands schema q events (query_state_of h clock n)
inner_with schema q h n p i clock events s =
    subst (λ (k : QueryState). QueryStateStands schema q events (record k { clock = clock })) (sym i.kept_is) (subst (λ z. QueryStateStands schema z events (record p.kept { clock = clock })) (sym i.query_is) (subst (λ z. QueryStateStands z p.query events (record p.kept { clock = clock })) (sym i.schema_is) s))

-- and from without
pub outer_with : (schema : Declared) (q : Query) (h : OpenMatches) (n : Option ℕ) (p : Phase) → Idle schema q h n p → (clock : Option ℤ) (events : List Event) → QueryStateStands schema q events (query_state_of h clock n) → StandsWith clock events p
outer_with schema q h n p i clock events s =
    subst (λ z. QueryStateStands z p.query events (record p.kept { clock = clock })) i.schema_is (subst (λ z. QueryStateStands schema z events (record p.kept { clock = clock })) i.query_is (subst (λ (k : QueryState). QueryStateStands schema q events (record k { clock = clock })) i.kept_is s))

-- likewise with the clock that they have
pub inner_stands : (schema : Declared) (q : Query) (h : OpenMatches) (n : Option ℕ) (p : Phase) → Idle schema q h n p → (events : List Event) → StandsAt events p → (clock : Option ℤ) × QueryStateStands schema q events (query_state_of h clock n)
inner_stands schema q h n p i events s = (s.0, inner_with schema q h n p i s.0 events s.1)

pub clock_told : (schema : Declared) (w : Window) (event : Event) (p : ℕ) (c : ℤ) → clocks.clock_of schema w event p ≡ Some c → HasClock schema w event p c
clock_told schema Free event p c e = (let f = sym e in cc)
clock_told schema (Events n) event p c e = (let f = sym e in cc)
clock_told schema (Clock name n) event p c e = int_of_is (attr_value schema event name.text) c e
  where
    int_of_is : (v : Option Value) (c : ℤ) → clocks.int_of v ≡ Some c → v ≡ Some (value.Int c)
    int_of_is (Some (value.Int n)) c e = (let same : n ≡ c = cc in ap (λ z. Some (value.Int z)) same)
    int_of_is (Some (value.Text t)) c e = absurd cc
    int_of_is (Some (value.Flag b)) c e = absurd cc
    int_of_is (Some (value.Dec n p)) c e = absurd cc
    int_of_is None c e = absurd cc

pub now_is : (schema : Declared) (w : Window) (source : Source) (event : Event) (p : ℕ) (r z : ℤ) → IsOf schema w source → clock_in source event p ≡ Some r → z ≡ r → HasClock schema w event p z
now_is schema w source event p r z of told e = subst (HasClock schema w event p) (sym e) (clock_told schema w event p r (sym (of.clock event p) ∙ told))

-- each event that the query reads has a clock
pub have_times : (schema : Declared) (q : Query) (source : Source) → HaveClocks schema q source → IsOf schema q.window source → HasTimes schema q
have_times schema q source clocks of event p is reads = go (clock_in source event p) refl
  where
    go : (o : Option ℤ) → clock_in source event p ≡ o → (now : ℤ) × HasClock schema q.window event p now
    go None e = absurd (clocks event p is reads e)
    go (Some now) e = (now, now_is schema q.window source event p now now of e refl)

-- the tables stay those of the query
pub made_after : (schema : Declared) (q : Query) (types : List Bool) (places : List (Option (List ℕ))) (source : Source) (none bits : List Bool) (stamp : Stamp) (low : ℤ) (key : List Value) (number : ℕ) (staged : Staged) (old new : OpenMatches) → IsMade schema q types places source none old → IsReady stamp low bits key number staged old new → IsMade schema q types places source none new
made_after schema q types places source none bits stamp low key number staged old new m r =
    let size = ap (λ (t : Table). t.cea.size) (mid_table old r.mid key r.takes) in
    let cea : new.table.cea.size ≡ r.mid.table.cea.size = ap (λ (c : Cea). c.size) r.table.cea in
    record {
      types = m.types;
      keys = m.keys;
      clock = m.clock;
      clocks = m.clocks;
      size = (cea ∙ size) ∙ m.size;
      empty = m.empty;
      room = m.room ∙ ap room_for (sym (cea ∙ size));
    }

pub number_inside : (stamp : Stamp) (low : ℤ) (bits : List Bool) (key : List Value) (number : ℕ) (staged : Staged) (old new : OpenMatches) → IsReady stamp low bits key number staged old new → number < length new.rows
number_inside stamp low bits key number staged old new r =
    let inside = slice_get_within r.mid.rows number r.before r.before_is in
    let e = ap length r.rows in
    omega arith

type_below : {X : Type 0} (xs : List X) (i : ℕ) (P : X → Type 0) → IsSomeAnd (slice_get xs i) P → i < length xs
type_below {X} xs i P h = go (slice_get xs i) refl h
  where
    go : (o : Option X) → slice_get xs i ≡ o → IsSomeAnd o P → i < length xs
    go None e h = absurd h
    go (Some x) e h = slice_get_within xs i x e

-- whether the event is read, by the table
pub table_reads : (schema : Declared) (q : Query) (types : List Bool) (event : Event) → AreTypesRead schema q types → IsOfSchema schema event → slice_index_or types event.ty false ≡ reads schema q event
table_reads schema q types event are of = are event.ty (type_below schema.types event.ty _ of)

pub not_read : (schema : Declared) (q : Query) (types : List Bool) (event : Event) → AreTypesRead schema q types → IsOfSchema schema event → slice_index_or types event.ty false ≡ false → Reads schema q event → ⊥
not_read schema q types event are of told r = false≢true (sym told ∙ (table_reads schema q types event are of ∙ is_read schema q event r))

pub does_read : (schema : Declared) (q : Query) (types : List Bool) (event : Event) → AreTypesRead schema q types → IsOfSchema schema event → slice_index_or types event.ty false ≡ true → Reads schema q event
does_read schema q types event are of told = reads_is schema q event (sym (table_reads schema q types event are of) ∙ told)

-- the value of the attribute is the one at its place
value_at_place : (name : List ℕ) (t : DeclaredType) (values : List Value) → option_and_then (λ (at : AttrAt). slice_get values at.index) (attr_among t.attrs name) ≡ option_and_then (λ i. slice_get values i) (attr_index name t.attrs)
value_at_place name t values = go (attr_index name t.attrs) refl
  where
    kind_there : (i : ℕ) (o : Option Attr) → slice_get t.attrs i ≡ o → attr_index name t.attrs ≡ Some i → option_and_then (λ (at : AttrAt). slice_get values at.index) (option_map (λ (a : Attr). record { index = i; kind = a.kind }) o) ≡ slice_get values i
    kind_there i (Some a) g e = refl
    kind_there i None g e = (let f = found (λ (a : Attr). bytes_eq a.name name) t.attrs i e in let both = sym f.1 ∙ g in absurd cc)

    go : (o : Option ℕ) → attr_index name t.attrs ≡ o → option_and_then (λ (at : AttrAt). slice_get values at.index) (option_and_then (λ i. option_map (λ (a : Attr). record { index = i; kind = a.kind }) (slice_get t.attrs i)) o) ≡ option_and_then (λ i. slice_get values i) o
    go None e = refl
    go (Some i) e = kind_there i (slice_get t.attrs i) refl e

attr_through : (schema : Declared) (event : Event) (name : List ℕ) → option_and_then (λ (at : AttrAt). slice_get event.values at.index) (attr_at schema event.ty name) ≡ attr_value schema event name
attr_through schema event name = go (slice_get schema.types event.ty)
  where
    go : (o : Option DeclaredType) → option_and_then (λ (at : AttrAt). slice_get event.values at.index) (option_and_then (λ (t : DeclaredType). attr_among t.attrs name) o) ≡ option_and_then (λ (t : DeclaredType). option_and_then (λ i. slice_get event.values i) (attr_index name t.attrs)) o
    go None = refl
    go (Some t) = value_at_place name t event.values

values_through : (schema : Declared) (event : Event) (names : List Name) → option_and_then (λ ps. values_there ps event.values) (places_in schema names event.ty) ≡ values_at schema names event
values_through schema event [] = refl
values_through schema event (n ∷ ns) = go (attr_at schema event.ty n.text) (attr_value schema event n.text) (attr_through schema event n.text) (places_in schema ns event.ty) (values_at schema ns event) (values_through schema event ns)
  where
    go : (a : Option AttrAt) (v : Option Value) → option_and_then (λ (at : AttrAt). slice_get event.values at.index) a ≡ v → (p : Option (List ℕ)) (vs : Option (List Value)) → option_and_then (λ ps. values_there ps event.values) p ≡ vs → option_and_then (λ ps. values_there ps event.values) (option_and_then (λ (at : AttrAt). option_map (λ ps. at.index ∷ ps) p) a) ≡ option_and_then (λ v. option_map (λ vs. v ∷ vs) vs) v
    go None v e p vs f = ap (option_and_then (λ v. option_map (λ vs. v ∷ vs) vs)) e
    go (Some at) v e None vs f = none_after v vs f
      where
        none_after : (v : Option Value) (vs : Option (List Value)) → None ≡ vs → None ≡ option_and_then (λ v. option_map (λ vs. v ∷ vs) vs) v
        none_after None vs f = refl
        none_after (Some x) vs f = ap (option_map (λ vs. x ∷ vs)) f
    go (Some at) v e (Some ps) vs f = ap (λ o. option_and_then (λ v. option_map (λ vs. v ∷ vs) (values_there ps event.values)) o) e ∙ ap (λ o. option_and_then (λ v. option_map (λ vs. v ∷ vs) o) v) f

-- the key that is read by the table is the event's
pub key_through : (schema : Declared) (q : Query) (places : List (Option (List ℕ))) (event : Event) → AreKeyPlaces schema q places → IsOfSchema schema event → key_there places event ≡ values_at schema q.partition event
key_through schema q places event are of = ap (option_and_then (λ ps. values_there ps event.values)) (are event.ty (type_below schema.types event.ty _ of)) ∙ values_through schema event q.partition

-- the values at the places, where they are those of the key
pub values_are : (key : List Value) (places : List ℕ) (values : List Value) → are_at key places values ≡ true → values_there places values ≡ Some key
values_are [] [] values e = refl
values_are [] (p ∷ ps) values e = absurd cc
values_are (k ∷ ks) [] values e = absurd cc
values_are (k ∷ ks) (p ∷ ps) values e =
    let both = and_parts (is_at k (slice_get values p)) (are_at ks ps values) e in
    go (slice_get values p) both.0 (values_are ks ps values both.1)
  where
    go : (o : Option Value) → is_at k o ≡ true → values_there ps values ≡ Some ks → option_and_then (λ v. option_map (λ vs. v ∷ vs) (values_there ps values)) o ≡ Some (k ∷ ks)
    go None e later = absurd cc
    go (Some v) e later = ap (option_map (λ vs. v ∷ vs)) later ∙ ap (λ z. Some (z ∷ ks)) (sym ((Decides-value k v).0 e))

-- a key of the values at the places of the event's type is the event's
pub key_found : (schema : Declared) (q : Query) (table : List (Option (List ℕ))) (event : Event) (places : List ℕ) (key : List Value) → AreKeyPlaces schema q table → IsOfSchema schema event → slice_index_or table event.ty None ≡ Some places → are_at key places event.values ≡ true → values_at schema q.partition event ≡ Some key
key_found schema q table event places key are of here at = sym (key_through schema q table event are of) ∙ (ap (option_and_then (λ ps. values_there ps event.values)) here ∙ values_are key places event.values at)
