-- A query state stands for events that are not brought to it, and its clock is one that queries share.
use Rattle.std.proofs.Common.{◌≡◌, ℕ, suc, ◌-◌, ◌+◌, ◌<◌, ◌≤◌, ◌⊎◌, inl, inr, ℤ, ◌≤ℤ◌, List, [], ◌∷◌, ◌++◌, length, refl, sym, ap, subst, ◌∙◌, All, Contains, Bool, true, false, Option, Some, None, slice_get, append_assoc, arith}
use Rattle.std.specs.Prelude.{IfSome, IfNone, int_lt, ◌<ℤ◌}
use Rattle.std.proofs.lemmas.Bool.{cases_lt, false≢true}
use Rattle.std.proofs.lemmas.Int.{ints}
use Rattle.std.proofs.lemmas.Option.{slice_get_within}
use Rattle.std.proofs.lemmas.List.Elements.{All-nil}
use Rattle.stream_schema.specs.Types.{Declared}
use Rattle.stream_schema.specs.declared.Event.{Event}
use Rattle.stream_schema.specs.declared.Value.{Value}
use Rattle.cel_terms.specs.declared.Query.{Query}
use Rattle.cel_terms.specs.Answers.{query_types, HasKey, HasClock}
use Rattle.cea_determinise.specs.declared.cea.StateSets.{StateSets}
use Rattle.cea_determinise.specs.Cea.{standing_of}
use Rattle.query_standing.specs.Bounds.{IsMet}
use Rattle.query_standing.specs.Clocks.{Reads, HasClockAt, NeverFalls, IsLastClock, FallsBack, NoneFallsBack, IsFirstToFall}
use Rattle.query_standing.specs.Kept.{QueryState, QueryStateStands}
use Rattle.query_standing.specs.Steps.{Advances}
use Rattle.query_standing.specs.Dormancy.{IsLastOfType, AreLasts, IsGreatest, after_no_ops, IsClockOf, StandsWithClock, CanCome, IsMoved, Moves, IsLetPass, IsNoOp, AreNoOps, ShareClock, IsHeadOf, AreHeads}
use Rattle.query_standing.proofs.Passing.{append_none}
use Rattle.cel_terms.specs.EventsRead.{query_reads as is_reading}
use Rattle.query_standing.proofs.Growing.{get_last, get_cases}
use Rattle.query_standing.proofs.QueryStates.{clock_front, query_state_unread, length_more}
use Rattle.query_standing.proofs.QueryStateSteps.{query_state_no_key, query_state_dormant, query_state_begins_none}
use Rattle.query_standing.proofs.Reading.{is_read, reads_is}
use Rattle.query_standing.proofs.Windows.{clock_is_one}

-- the clock alone goes on
clock_alone : (schema : Declared) (q : Query) (events : List Event) (event : Event) (query_state : QueryState) (clock : Option ℤ) → QueryStateStands schema q events query_state → (m : IsMoved schema q (length events) event query_state.clock clock) → Advances schema q events event m.now query_state (after_no_ops clock query_state)
clock_alone schema q events event query_state clock s m = record {
  reads = m.reads;
  now_is = m.now_is;
  in_time = m.in_time;
  clock = m.after_is;
  extends = record { cea = refl; more_states = []; states = sym (append_none query_state.table.states); more_nodes = []; nodes = sym (append_none query_state.nodes) };
  met = All-nil (λ (p : StateSets). IsMet schema q (events ++ event ∷ []) (standing_of p));
  sets = s.states.sets;
  distinct = s.states.distinct;
  well_formed = s.nodes;
  starts = λ t c. inl c;
}

-- one event
pub sleeps_one : (schema : Declared) (q : Query) (events : List Event) (event : Event) (query_state : QueryState) (clock : Option ℤ) → QueryStateStands schema q events query_state → Moves schema q (length events) event query_state.clock clock → (Reads schema q event → IsNoOp schema q event query_state) → QueryStateStands schema q (events ++ event ∷ []) (after_no_ops clock query_state)
sleeps_one schema q events event query_state clock s (inl unread) leaves =
    subst (λ c. QueryStateStands schema q (events ++ event ∷ []) (after_no_ops c query_state)) (sym unread.1) (query_state_unread schema q events event query_state s unread.0)
sleeps_one schema q events event query_state clock s (inr moved) leaves =
    let v = clock_alone schema q events event query_state clock s moved in
    elim (leaves moved.reads) [
      | inl none ↦ query_state_no_key schema q events event moved.now query_state (after_no_ops clock query_state) s v (record { none = none; keys = refl; rows = refl; here = refl })
      | inr other ↦ elim other [
        | inl pass ↦ query_state_dormant schema q events event moved.now query_state (after_no_ops clock query_state) s v (record { unread = pass.unread; is_dormant = pass.is_dormant; table = refl; keys = refl; rows = refl; here = refl })
        | inr nothing ↦ query_state_begins_none schema q events event moved.now query_state (after_no_ops clock query_state) s v (record { begins = nothing.begins; empty = nothing.empty; table = refl; keys = refl; rows = refl; here = refl })
      ]
    ]

-- what leaves a query state as it is does so with any clock
leaves_slept : (schema : Declared) (q : Query) (event : Event) (query_state : QueryState) (clock : Option ℤ) → IsNoOp schema q event query_state → IsNoOp schema q event (after_no_ops clock query_state)
leaves_slept schema q event query_state clock (inl none) = inl none
leaves_slept schema q event query_state clock (inr (inl pass)) = inr (inl (record { unread = pass.unread; is_dormant = pass.is_dormant }))
leaves_slept schema q event query_state clock (inr (inr nothing)) = inr (inr (record { begins = nothing.begins; empty = nothing.empty; table = refl; keys = refl; rows = refl; here = refl }))

all_slept : (schema : Declared) (q : Query) (query_state : QueryState) (any : Option ℤ) (position : ℕ) (before : Option ℤ) (later : List Event) (after : Option ℤ) → AreNoOps schema q query_state position before later after → AreNoOps schema q (after_no_ops any query_state) position before later after
all_slept schema q query_state any position before [] after h = h
all_slept schema q query_state any position before (event ∷ later) after h =
    (h.0, h.1, λ reads. leaves_slept schema q event query_state any (h.2 reads), all_slept schema q query_state any (position + 1) h.0 later after h.3)

-- all of them
pub no_ops_stand : (schema : Declared) (q : Query) (events : List Event) (event : Event) (later : List Event) (query_state : QueryState) (clock : Option ℤ) → QueryStateStands schema q events query_state → AreNoOps schema q query_state (length events) query_state.clock (event ∷ later) clock → QueryStateStands schema q (events ++ event ∷ later) (after_no_ops clock query_state)
no_ops_stand schema q events event [] query_state clock s h =
    subst (λ c. QueryStateStands schema q (events ++ event ∷ []) (after_no_ops c query_state)) (sym h.3) (sleeps_one schema q events event query_state h.0 s h.1 h.2)
no_ops_stand schema q events event (next ∷ later) query_state clock s h =
    let one = sleeps_one schema q events event query_state h.0 s h.1 h.2 in
    let others = subst (λ p. AreNoOps schema q (after_no_ops h.0 query_state) p h.0 (next ∷ later) clock) (sym (length_more events event)) (all_slept schema q query_state h.0 (length events + 1) h.0 (next ∷ later) clock h.3) in
    subst (λ es. QueryStateStands schema q es (after_no_ops clock query_state)) (append_assoc events (event ∷ []) (next ∷ later))
    (no_ops_stand schema q (events ++ event ∷ []) next later (after_no_ops h.0 query_state) clock one others)

-- last clocks of the same events are one
one_last : (schema : Declared) (q : Query) (events : List Event) (b c : ℤ) → IsLastClock schema q events b → IsLastClock schema q events c → b ≡ c
one_last schema q events b c x y =
    let here : x.position ≡ y.position = elim (cases_lt x.position y.position) [
      | inl lt ↦ absurd (x.last y.position y.has.event lt y.has.at y.has.read)
      | inr ge ↦ elim (cases_lt y.position x.position) [ inl lt ↦ absurd (y.last x.position x.has.event lt x.has.at x.has.read) | inr le ↦ omega arith ]
    ] in
    let event : x.has.event ≡ y.has.event = (let both = sym (subst (λ p. slice_get events p ≡ Some x.has.event) here x.has.at) ∙ y.has.at in cc) in
    clock_is_one schema q.window y.has.event y.position b c (subst (λ e. HasClock schema q.window e y.position b) event (subst (λ p. HasClock schema q.window x.has.event p b) here x.has.clock_is)) y.has.clock_is

pub clock_is_of_events : (schema : Declared) (q : Query) (events : List Event) (one other : QueryState) → QueryStateStands schema q events one → QueryStateStands schema q events other → one.clock ≡ other.clock
clock_is_of_events schema q events one other s t = go one.clock other.clock s.clock s.unread t.clock t.unread
  where
    go : (b c : Option ℤ) → IfSome b (IsLastClock schema q events) → IfNone b ((p : ℕ) (event : Event) → slice_get events p ≡ Some event → Reads schema q event → ⊥) → IfSome c (IsLastClock schema q events) → IfNone c ((p : ℕ) (event : Event) → slice_get events p ≡ Some event → Reads schema q event → ⊥) → b ≡ c
    go None None x none y others = refl
    go None (Some c) x none y others = absurd (none y.position y.has.event y.has.at y.has.read)
    go (Some b) None x none y others = absurd (others x.position x.has.event x.has.at x.has.read)
    go (Some b) (Some c) x none y others = ap (λ z. Some z) (one_last schema q events b c x y)

pub last_is_shared : (schema : Declared) (q r : Query) (events : List Event) (c : ℤ) → ShareClock schema q r → IsLastClock schema q events c → IsLastClock schema r events c
last_is_shared schema q r events c h l = record {
  position = l.position;
  has = record { event = l.has.event; at = l.has.at; read = h.reads l.has.event l.has.read; clock_is = h.clocks l.has.event l.position c l.has.clock_is };
  last = λ p event later at reads. l.last p event later at (h.reads_back event reads);
}

pub fall_is_shared : (schema : Declared) (q r : Query) (events : List Event) (event : Event) (before now : ℤ) → ShareClock schema q r → FallsBack schema q events event before now → FallsBack schema r events event before now
fall_is_shared schema q r events event before now h f = record {
  reads = h.reads event f.reads;
  last = last_is_shared schema q r events before h f.last;
  now_is = h.clocks event (length events) now f.now_is;
  falls = f.falls;
}

pub first_head : (schema : Declared) (queries : List Query) (events : List Event) (event : Event) (heads : List ℕ) (head : ℕ) (q : Query) (before now : ℤ) →
    AreHeads schema queries heads → 1 ≤ head → slice_get queries (head - 1) ≡ Some q → FallsBack schema q events event before now →
    ((other : ℕ) (r : Query) (b n : ℤ) → Contains heads other → other < head → slice_get queries (other - 1) ≡ Some r → FallsBack schema r events event b n → ⊥) →
    IsFirstToFall schema queries events event head before now
first_head schema queries events event heads head q before now are numbered at falls none = record {
  falling = q;
  numbered = numbered;
  at = at;
  falls = falls;
  first = λ k r b n less there f. (
      let h = are k r there in
      let le = h.least in
      none h.head h.first b n h.among (omega arith) h.at (fall_is_shared schema r h.first events event b n h.shares f)
      );
}

pub no_head : (schema : Declared) (queries : List Query) (events : List Event) (event : Event) (heads : List ℕ) → AreHeads schema queries heads →
    ((other : ℕ) (r : Query) (b n : ℤ) → Contains heads other → slice_get queries (other - 1) ≡ Some r → FallsBack schema r events event b n → ⊥) →
    NoneFallsBack schema queries events event
no_head schema queries events event heads are none k q b n there f =
    let h = are k q there in
    none h.head h.first b n h.among h.at (fall_is_shared schema q h.first events event b n h.shares f)

-- whether the query reads an event
reads_or_not : (schema : Declared) (q : Query) (event : Event) → Reads schema q event ⊎ (Reads schema q event → ⊥)
reads_or_not schema q event = go (is_reading schema q event) refl
  where
    go : (b : Bool) → is_reading schema q event ≡ b → Reads schema q event ⊎ (Reads schema q event → ⊥)
    go true e = inl (reads_is schema q event e)
    go false e = inr (λ r. false≢true (sym e ∙ is_read schema q event r))

not_less : (before now : ℤ) → (now <ℤ before) ⊎ (before ≤ℤ now)
not_less before now = go (int_lt now before) refl
  where
    go : (b : Bool) → int_lt now before ≡ b → (now <ℤ before) ⊎ (before ≤ℤ now)
    go true e = inl (grind (arith, ints))
    go false e = inr (grind (arith, ints))

-- what an event makes of the clock, where it can come
moves : (schema : Declared) (q : Query) (events : List Event) (event : Event) (clock : Option ℤ) → IfSome clock (IsLastClock schema q events) → CanCome schema q events event → (after : Option ℤ) × Moves schema q (length events) event clock after
moves schema q events event clock last can = elim (reads_or_not schema q event) [
  | inl reads ↦ (
      let h = can.has reads in
      (Some h.0, inr (record { reads = reads; now = h.0; now_is = h.1; in_time = below h.0 h.1 reads clock last; after_is = refl }))
      )
  | inr unread ↦ (clock, inl (unread, refl))
]
  where
    below : (now : ℤ) → HasClock schema q.window event (length events) now → Reads schema q event → (c : Option ℤ) → IfSome c (IsLastClock schema q events) → IfSome c (λ b. b ≤ℤ now)
    below now is reads None l = tt
    below now is reads (Some b) l = elim (not_less b now) [
      | inl less ↦ absurd (can.in_time b now (record { reads = reads; last = l; now_is = is; falls = less }))
      | inr le ↦ le
    ]

pub lets_pass : (schema : Declared) (q : Query) (events : List Event) (event : Event) (query_state : QueryState) → StandsWithClock schema q events query_state → CanCome schema q events event → (Reads schema q event → IsNoOp schema q event query_state) → StandsWithClock schema q (events ++ event ∷ []) (record query_state { here = None })
lets_pass schema q events event query_state s can leaves =
    let m = moves schema q events event s.0 s.1.clock can in
    (m.0, sleeps_one schema q events event (record query_state { clock = s.0 }) m.0 s.1 m.1 (λ reads. with_clock (leaves reads)))
  where
    with_clock : IsNoOp schema q event query_state → IsNoOp schema q event (record query_state { clock = s.0 })
    with_clock (inl none) = inl none
    with_clock (inr (inl pass)) = inr (inl (record { unread = pass.unread; is_dormant = pass.is_dormant }))
    with_clock (inr (inr nothing)) = inr (inr (record { begins = nothing.begins; empty = nothing.empty; table = refl; keys = refl; rows = refl; here = refl }))

-- clocks of the same events are one
one_clock : (schema : Declared) (q : Query) (events : List Event) (b c : Option ℤ) → IsClockOf schema q events b → IsClockOf schema q events c → b ≡ c
one_clock schema q events None None x y = refl
one_clock schema q events None (Some c) x y = absurd (x.none y.some.position y.some.has.event y.some.has.at y.some.has.read)
one_clock schema q events (Some b) None x y = absurd (y.none x.some.position x.some.has.event x.some.has.at x.some.has.read)
one_clock schema q events (Some b) (Some c) x y = ap (λ z. Some z) (one_last schema q events b c x.some y.some)

pub clock_is_given : (schema : Declared) (q : Query) (events : List Event) (query_state : QueryState) (clock : Option ℤ) → StandsWithClock schema q events query_state → IsClockOf schema q events clock → QueryStateStands schema q events (record query_state { clock = clock })
clock_is_given schema q events query_state clock s is =
    subst (λ c. QueryStateStands schema q events (record query_state { clock = c })) (one_clock schema q events s.0 clock (record { some = s.1.clock; none = s.1.unread }) is) s.1

pub goes_on : (schema : Declared) (q : Query) (events : List Event) (event : Event) (before after : Option ℤ) → IsClockOf schema q events before → Moves schema q (length events) event before after → IsClockOf schema q (events ++ event ∷ []) after
goes_on schema q events event before after is (inr m) = subst (IsClockOf schema q (events ++ event ∷ [])) (sym m.after_is) (record {
  some = record {
    position = length events;
    has = record { event = event; at = get_last events event; read = m.reads; clock_is = m.now_is };
    last = λ p other lo at r. (let inside = slice_get_within (events ++ event ∷ []) p other at in let l = length_more events event in absurd (omega arith));
  };
  none = tt;
})
goes_on schema q events event before after is (inl u) = subst (IsClockOf schema q (events ++ event ∷ [])) (sym u.1) (go before is.some is.none)
  where
    new_one : (p : ℕ) (other : Event) → event ≡ other → Reads schema q other → ⊥
    new_one p other same r = u.0 (subst (Reads schema q) (sym same) r)

    go : (c : Option ℤ) → IfSome c (IsLastClock schema q events) → IfNone c ((p : ℕ) (other : Event) → slice_get events p ≡ Some other → Reads schema q other → ⊥) → IsClockOf schema q (events ++ event ∷ []) c
    go None l none = record { some = tt; none = λ p other at r. elim (get_cases events event p other at) [ inl old ↦ none p other old r | inr new ↦ new_one p other new.1 r ] }
    go (Some c) l none = record {
      some = record {
        position = l.position;
        has = clock_front schema q events event l.position c l.has;
        last = λ p other lo at r. elim (get_cases events event p other at) [ inl old ↦ l.last p other lo old r | inr new ↦ new_one p other new.1 r ];
      };
      none = tt;
    }

-- the clock of the last event of a type that is read, as one along the query's events
type_clock : (schema : Declared) (q : Query) (events : List Event) (ty : ℕ) (c : ℤ) → Contains (query_types schema q.streams) ty → (l : IsLastOfType schema q.window events ty c) → HasClockAt schema q events l.position c
type_clock schema q events ty c among l = record { event = l.event; at = l.at; read = subst (Contains (query_types schema q.streams)) (sym l.type_is) among; clock_is = l.clock_is }

pub greatest_is_last : (schema : Declared) (q : Query) (events : List Event) (last : Option ℤ) (lasts : ℕ → Option ℤ) (clock : ℤ) → NeverFalls schema q events → IsClockOf schema q events last → AreLasts schema q events lasts → IsGreatest lasts (query_types schema q.streams) clock → last ≡ Some clock
unfolding type_clock
greatest_is_last schema q events None lasts clock never is are g =
    let l = type_clock schema q events g.ty clock g.among (are.some g.ty clock g.among g.is) in
    absurd (is.none (are.some g.ty clock g.among g.is).position l.event l.at l.read)
greatest_is_last schema q events (Some d) lasts clock never is are g = ap (λ z. Some z) (go (lasts l.has.event.ty) refl)
  where
    l : IsLastClock schema q events d
    l = is.some

    top : IsLastOfType schema q.window events g.ty clock
    top = are.some g.ty clock g.among g.is

    at_most : clock ≤ℤ d
    at_most = elim (cases_lt l.position top.position) [
      | inl lt ↦ absurd (l.last top.position top.event lt top.at (type_clock schema q events g.ty clock g.among top).read)
      | inr ge ↦ never top.position l.position clock d ge (type_clock schema q events g.ty clock g.among top) l.has
    ]

    go : (o : Option ℤ) → lasts l.has.event.ty ≡ o → d ≡ clock
    go None e = absurd (are.none l.has.event.ty l.position l.has.event l.has.read e l.has.at refl)
    go (Some b) e =
        let own = are.some l.has.event.ty b l.has.read e in
        let mine = type_clock schema q events l.has.event.ty b l.has.read own in
        let least = g.all l.has.event.ty b l.has.read e in
        let below : d ≤ℤ b = elim (cases_lt own.position l.position) [
          | inl lt ↦ absurd (own.last l.position l.has.event lt l.has.at refl)
          | inr ge ↦ never l.position own.position d b ge l.has mine
        ] in
        let most = at_most in
        omega (arith, ints)
