-- The clocks of groups are those of their queries: before any event, and as one more comes.
use Rattle.std.proofs.Common.{◌≡◌, refl, sym, ap, subst, ◌∙◌, ℕ, zero, suc, ◌+◌, ◌-◌, ◌<◌, ◌≤◌, ◌⊎◌, inl, inr, ℤ, pos, Bool, true, false, List, [], ◌∷◌, ◌++◌, length, map, All, Contains, Vec, Global, Option, Some, None, option_and_then, slice_get, slice_index_or, IsSomeAnd, IfSome, int_lt, arith}
use Rattle.std.specs.Prelude.{◌≤ℤ◌, ◌<ℤ◌}
use Rattle.std.specs.Option.{option_map_or}
use Rattle.std.proofs.lemmas.Bool.{cases_lt, false≢true}
use Rattle.std.proofs.lemmas.Option.{slice_get_within}
use Rattle.std.proofs.lemmas.Int.{ints}
use Rattle.stream_schema.specs.Types.{Declared, DeclaredType, IsWellDeclared}
use Rattle.stream_schema.specs.Events.{AreOfAttrs, IsOfSchema}
use Rattle.stream_schema.specs.declared.Event.{Event}
use Rattle.cel_terms.specs.declared.Query.{Query}
use Rattle.cel_terms.specs.Answers.{query_types, HasClock}
use Rattle.cel_terms.specs.Checked.{IsChecked}
use Rattle.window_clock.specs.Clocks.{clock_of}
use Rattle.window_clock.specs.Places.{clock_in, IsOf}
use Rattle.query_standing.specs.Clocks.{Reads, IsLastClock, FallsBack, NoneFallsBack, IsFirstToFall}
use Rattle.query_standing.specs.Dormancy.{Moves, IsClockOf, AreHeads}
use Rattle.query_standing.proofs.Dormancy.{first_head, no_head, goes_on}
use Rattle.query_standing.proofs.Lists.{got}
use Rattle.query_standing.proofs.Lists as lists
use Rattle.query_standing.proofs.Reading.{any_contains, contains_any}
use Rattle.all_or_none.specs.Phases.{is_among}
use Rattle.all_or_none.specs.Dormancy.{HasTimes}
use Rattle.query_state.specs.QueryStates.{reads_type}
use Rattle.query_state.proofs.Clocks.{each_has_clock}
use Rattle.query_engine.specs.declared.falls.FallOf.{FallOf}
use Rattle.query_engine.specs.declared.times.Group.{Group}
use Rattle.query_engine.specs.Times.{last_of, clocks_of, AreClocksOf, group_reads, IsGroupOf, IsMember, AreThose, AreGroups, AreTimes, IsBlankGroup, AreMoved, StaysInTime, row_of, HaveClocksIn, IsFirstGroup, StayInTime}
use Rattle.query_engine.proofs.Standing.{mapped, map_at, all_at}
use Rattle.query_engine.proofs.Fallen.{clock_is, has_clock, is_last_clock}
use Rattle.query_engine.proofs.GroupMembers.{there_inside, same_at}

-- A GROUP'S CLOCK

-- each event that a checked query reads has a clock
pub has_times : (schema : Declared) (q : Query) → IsWellDeclared schema → IsChecked schema q → HasTimes schema q
has_times schema q well checked event p of reads = go (clock_of schema q.window event p) refl
  where
    go : (o : Option ℤ) → clock_of schema q.window event p ≡ o → (now : ℤ) × HasClock schema q.window event p now
    go None e = absurd (each_has_clock schema q well checked event p of reads e)
    go (Some now) e = (now, clock_is schema q.window event p now e)

pub one_group_of : (schema : Declared) (q : Query) (g : Group) → IsWellDeclared schema → IsChecked schema q → IsOf schema q.window g.clock.source → (g.implicit ≡ true → (event : Event) (p : ℕ) → clock_in g.clock.source event p ≡ Some (pos p)) → (queries : List Query) → 1 ≤ g.query → slice_get queries (g.query - 1) ≡ Some q → IsGroupOf schema queries g
one_group_of schema q g well checked source implicit queries numbered at = record {
  first = q;
  numbered = numbered;
  at = at;
  source = source;
  times = has_times schema q well checked;
  implicit = implicit;
}

-- whether the group reads a type is whether its least query does
pub reads_as_first : (schema : Declared) (queries : List Query) (ty : ℕ) (g : Group) (q : Query) → slice_get queries (g.query - 1) ≡ Some q → group_reads schema queries ty g ≡ reads_type schema q ty
reads_as_first schema queries ty g q at = ap (λ o. option_map_or (λ (x : Query). reads_type schema x ty) o false) at

of_declared : (schema : Declared) (event : Event) → IsOfSchema schema event → event.ty < length schema.types
of_declared schema event of = go (slice_get schema.types event.ty) refl of
  where
    go : (o : Option DeclaredType) → slice_get schema.types event.ty ≡ o → IsSomeAnd o (λ (t : DeclaredType). AreOfAttrs t.attrs event.values) → event.ty < length schema.types
    go None e h = absurd h
    go (Some t) e h = slice_get_within schema.types event.ty t e

clock_there : (groups : List Group) (numbers : List ℕ) (k : ℕ) → k < length numbers → slice_index_or (clocks_of groups numbers) k None ≡ last_of groups (slice_index_or numbers k 0)
clock_there groups [] k less = absurd (omega arith)
clock_there groups (n ∷ numbers) zero less = refl
clock_there groups (n ∷ numbers) (suc k) less = clock_there groups numbers k (omega arith)

last_there : (groups : List Group) (number : ℕ) (g : Group) → slice_get groups (number - 1) ≡ Some g → last_of groups number ≡ g.clock.last
last_there groups number g at = ap (λ o. option_and_then (λ (x : Group). x.clock.last) o) at

-- the last clock of the query with this number, from 0
pub clock_of_query : (groups : List Group) (numbers : List ℕ) (k : ℕ) (g : Group) → k < length numbers → slice_get groups (slice_index_or numbers k 0 - 1) ≡ Some g → slice_index_or (clocks_of groups numbers) k None ≡ g.clock.last
clock_of_query groups numbers k g less at = clock_there groups numbers k less ∙ last_there groups (slice_index_or numbers k 0) g at

last_is_told : (schema : Declared) (q : Query) (events : List Event) (clock : Option ℤ) (b : ℤ) → IsClockOf schema q events clock → IsLastClock schema q events b → clock ≡ Some b
last_is_told schema q events None b is last = absurd (is.none last.position last.has.event last.has.at last.has.read)
last_is_told schema q events (Some c) b is last = sym (is_last_clock schema q events c is.some) ∙ is_last_clock schema q events b last

some_last : (schema : Declared) (q : Query) (events : List Event) (clock : Option ℤ) (b : ℤ) → IsClockOf schema q events clock → clock ≡ Some b → IsLastClock schema q events b
some_last schema q events clock b is told = (subst (IsClockOf schema q events) told is).some

-- it does not fall where it is the position, or stays
group_stays : (schema : Declared) (queries : List Query) (events : List Event) (event : Event) (g : Group) (own : IsGroupOf schema queries g) → IsClockOf schema own.first events g.clock.last → StaysInTime event (length events) g → (b n : ℤ) → FallsBack schema own.first events event b n → ⊥
group_stays schema queries events event g own clock stays b n f =
    let q = own.first in
    let last = last_is_told schema q events g.clock.last b clock f.last in
    let now : clock_in g.clock.source event (length events) ≡ Some n = own.source.clock event (length events) ∙ has_clock schema q.window event (length events) n f.now_is in
    let less = f.falls in
    elim stays [
      | inl implicit ↦ (
          let l = f.last in
          let before : clock_in g.clock.source l.has.event l.position ≡ Some b = own.source.clock l.has.event l.position ∙ has_clock schema q.window l.has.event l.position b l.has.clock_is in
          let one : n ≡ pos (length events) = (let both = sym now ∙ own.implicit implicit event (length events) in cc) in
          let two : b ≡ pos l.position = (let both = sym before ∙ own.implicit implicit l.has.event l.position in cc) in
          let inside = slice_get_within events l.position l.has.event l.has.at in
          omega (arith, ints)
          )
      | inr in_time ↦ (
          let le : b ≤ℤ n = subst (λ o. IfSome o (λ before. before ≤ℤ n)) last (in_time n now) in
          omega (arith, ints)
          )
    ]

module _ (schema : Declared) (queries : List Query) (groups : List Group) (numbers : List ℕ) (rows : List (Vec ℕ Global)) (t : AreTimes schema queries groups numbers rows) (event : Event) (of : IsOfSchema schema event) where
  abbrev row : List ℕ
  row = row_of rows event.ty

  -- the groups that read the event
  pub row_is : AreThose (group_reads schema queries event.ty) (length groups) groups row
  row_is =
      let long = t.by_type.long in
      let ty = of_declared schema event of in
      let r = there_inside rows event.ty (omega arith) in
      subst (AreThose (group_reads schema queries event.ty) (length groups) groups) (sym (ap (λ o. option_map_or (λ (x : Vec ℕ Global). x.items) o []) r.1)) (t.by_type.each event.ty r.0 r.1)

  group_at : (n : ℕ) (g : Group) → is_among row n ≡ true → slice_get groups (n - 1) ≡ Some g → group_reads schema queries event.ty g ≡ true
  group_at n g among at =
      let w = row_is.within n among in
      let low = w.0 in
      let high = w.1 in
      let next : n - 1 + 1 ≡ n = omega arith in
      sym (row_is.exact (n - 1) g (omega arith) at) ∙ (ap (is_among row) next ∙ among)

  first_reads : (g : Group) (own : IsGroupOf schema queries g) → group_reads schema queries event.ty g ≡ true → Reads schema own.first event
  first_reads g own reads = any_contains (query_types schema own.first.streams) event.ty (sym (reads_as_first schema queries event.ty g own.first own.at) ∙ reads)

  reads_first : (g : Group) (own : IsGroupOf schema queries g) → Reads schema own.first event → group_reads schema queries event.ty g ≡ true
  reads_first g own reads = reads_as_first schema queries event.ty g own.first own.at ∙ contains_any (query_types schema own.first.streams) event.ty reads

  pub have_clocks_in : (position : ℕ) → HaveClocksIn event position groups row
  have_clocks_in position n among = (
    (row_is.within n among).0,
    (row_is.within n among).1,
    λ g at none. (
        let own = t.groups_are.each g (n - 1) at in
        let time = own.times event position of (first_reads g own (group_at n g among at)) in
        let some : clock_in g.clock.source event position ≡ Some time.0 = own.source.clock event position ∙ has_clock schema own.first.window event position time.0 time.1 in
        (let both = sym some ∙ none in absurd cc)
        ),
  )

  -- the group's clock is that of its least query
  group_clock : (events : List Event) → AreClocksOf schema queries events (clocks_of groups numbers) → (g : Group) (n : ℕ) → slice_get groups n ≡ Some g → (own : IsGroupOf schema queries g) → IsClockOf schema own.first events g.clock.last
  group_clock events are g n at own =
      let known = t.groups_are.known g n at in
      let few = known.0 in
      let low = own.numbered in
      let long = t.groups_are.long in
      let place : n ≡ slice_index_or numbers (g.query - 1) 0 - 1 = (let e = known.1 in omega arith) in
      let is = clock_of_query groups numbers (g.query - 1) g (omega arith) (subst (λ i. slice_get groups i ≡ Some g) place at) in
      subst (IsClockOf schema own.first events) is (are (g.query - 1) own.first own.at)

  heads : List ℕ
  heads = map (λ (g : Group). g.query) groups

  pub are_heads : AreHeads schema queries (map (λ (g : Group). g.query) groups)
  are_heads k q at =
      let m = t.groups_are.members k q (slice_get_within queries k q at) at in
      let own = t.groups_are.each m.group (slice_index_or numbers k 0 - 1) m.at in
      record {
        head = m.group.query;
        among = got (map (λ (g : Group). g.query) groups) (slice_index_or numbers k 0 - 1) m.group.query (map_at (λ (g : Group). g.query) groups (slice_index_or numbers k 0 - 1) m.group m.at);
        numbered = own.numbered;
        least = m.least;
        first = own.first;
        at = own.at;
        shares = m.shares own.first own.at;
      }

  -- the group of a least query
  head_at : (other : ℕ) → Contains (map (λ (g : Group). g.query) groups) other → (j : ℕ) × (g : Group) × (slice_get groups j ≡ Some g) × (g.query ≡ other)
  head_at other among =
      let place = lists.at (map (λ (g : Group). g.query) groups) other among in
      let g = mapped (λ (x : Group). x.query) groups place.0 other place.1 in
      (place.0, g.0, g.1, g.2)

  module _ (events : List Event) (are : AreClocksOf schema queries events (clocks_of groups numbers)) where
    -- a least query that reads the event is that of a group in the row
    is_in_row : (j : ℕ) (g : Group) (r : Query) → slice_get groups j ≡ Some g → slice_get queries (g.query - 1) ≡ Some r → Reads schema r event → is_among row (j + 1) ≡ true
    is_in_row j g r at r_at reads =
        let own = t.groups_are.each g j at in
        let one : r ≡ own.first = same_at queries (g.query - 1) r own.first r_at own.at in
        row_is.exact j g (slice_get_within groups j g at) at ∙ reads_first g own (subst (λ (x : Query). Reads schema x event) one reads)

    stays_at : (j : ℕ) (g : Group) (r : Query) → slice_get groups j ≡ Some g → slice_get queries (g.query - 1) ≡ Some r → StaysInTime event (length events) g → (b n : ℤ) → FallsBack schema r events event b n → ⊥
    stays_at j g r at r_at stays b n f =
        let own = t.groups_are.each g j at in
        let one : r ≡ own.first = same_at queries (g.query - 1) r own.first r_at own.at in
        group_stays schema queries events event g own (group_clock events are g j at own) stays b n (subst (λ (x : Query). FallsBack schema x events event b n) one f)

    pub none_falls_back : StayInTime event (length events) groups row → NoneFallsBack schema queries events event
    none_falls_back stay = no_head schema queries events event (map (λ (g : Group). g.query) groups) are_heads (λ other r b n among r_at f. (
        let h = head_at other among in
        let at_head : slice_get queries (h.1.query - 1) ≡ Some r = subst (λ i. slice_get queries (i - 1) ≡ Some r) (sym h.3) r_at in
        let in_row = is_in_row h.0 h.1 r h.2 at_head f.reads in
        let place : h.0 ≡ h.0 + 1 - 1 = omega arith in
        stays_at h.0 h.1 r h.2 at_head (stay (h.0 + 1) h.1 in_row (subst (λ i. slice_get groups i ≡ Some h.1) place h.2)) b n f
        ))

    pub first_falls : (f : FallOf) → IsFirstGroup event (length events) groups row f → IsFirstToFall schema queries events event f.query f.before f.now
    first_falls f h =
        let w = row_is.within h.number h.among in
        let own = t.groups_are.each h.group (h.number - 1) h.at in
        let clock = group_clock events are h.group (h.number - 1) h.at own in
        let falls : FallsBack schema own.first events event f.before f.now = record {
          reads = first_reads h.group own (group_at h.number h.group h.among h.at);
          last = some_last schema own.first events h.group.clock.last f.before clock h.before_is;
          now_is = clock_is schema own.first.window event (length events) f.now (sym (own.source.clock event (length events)) ∙ h.now_is);
          falls = h.falls;
        } in
        let query = sym h.query in
        subst (λ n. IsFirstToFall schema queries events event n f.before f.now) query
        (first_head schema queries events event (map (λ (g : Group). g.query) groups) h.group.query own.first f.before f.now are_heads own.numbered own.at falls (λ other r b n among less r_at other_falls. (
        let o = head_at other among in
        let at_head : slice_get queries (o.1.query - 1) ≡ Some r = subst (λ i. slice_get queries (i - 1) ≡ Some r) (sym o.3) r_at in
        let in_row = is_in_row o.0 o.1 r o.2 at_head other_falls.reads in
        let place : o.0 ≡ o.0 + 1 - 1 = omega arith in
        let before = earlier o.0 o.1 h.number h.group o.2 h.at w.0 (let e = o.3 in omega arith) in
        stays_at o.0 o.1 r o.2 at_head (h.first (o.0 + 1) o.1 before in_row (subst (λ i. slice_get groups i ≡ Some o.1) place o.2)) b n other_falls
        )))
      where
        earlier : (j : ℕ) (g : Group) (n : ℕ) (k : Group) → slice_get groups j ≡ Some g → slice_get groups (n - 1) ≡ Some k → 1 ≤ n → g.query < k.query → j + 1 < n
        earlier j g n k one two low less = elim (cases_lt (j + 1) n) [
          | inl lt ↦ lt
          | inr ge ↦ elim (cases_lt (n - 1) j) [
            | inl after ↦ absurd (let back = t.groups_are.order (n - 1) j k g after two one in omega arith)
            | inr le ↦ absurd (
                let same : n - 1 ≡ j = omega arith in
                let is = ap (λ (x : Group). x.query) (same_at groups j k g (subst (λ i. slice_get groups i ≡ Some k) same two) one) in
                omega arith
                )
          ]
        ]

-- AN EVENT MOVES THE CLOCKS

not_less : (before now : ℤ) → (now <ℤ before) ⊎ (before ≤ℤ now)
not_less before now = go (int_lt now before) refl
  where
    go : (b : Bool) → int_lt now before ≡ b → (now <ℤ before) ⊎ (before ≤ℤ now)
    go true e = inl (grind (arith, ints))
    go false e = inr (grind (arith, ints))

comes_in_time : (schema : Declared) (q : Query) (events : List Event) (event : Event) (clock : Option ℤ) (now : ℤ) → IsClockOf schema q events clock → ((b n : ℤ) → FallsBack schema q events event b n → ⊥) → Reads schema q event → HasClock schema q.window event (length events) now → IfSome clock (λ b. b ≤ℤ now)
comes_in_time schema q events event None now is none reads has = tt
comes_in_time schema q events event (Some b) now is none reads has = elim (not_less b now) [
  | inl less ↦ absurd (none b now (record { reads = reads; last = is.some; now_is = has; falls = less }))
  | inr le ↦ le
]

-- A group that differs from another in its last clock alone.
record IsAlike (g h : Group) : Type 0 where
  query : h.query ≡ g.query
  implicit : h.implicit ≡ g.implicit
  source : h.clock.source ≡ g.clock.source

module _ (event : Event) (position : ℕ) (row : List ℕ) (old new : List Group) (m : AreMoved event position row old new) where
  -- what a group was
  was_at : (k : ℕ) (h : Group) → slice_get new k ≡ Some h → (g : Group) × (slice_get old k ≡ Some g) × IsAlike g h
  was_at k h at =
      let inside = slice_get_within new k h at in
      let many = m.count in
      let g = there_inside old k (omega arith) in
      go g.0 g.1 (is_among row (k + 1)) refl
    where
      go : (g : Group) → slice_get old k ≡ Some g → (b : Bool) → is_among row (k + 1) ≡ b → (x : Group) × (slice_get old k ≡ Some x) × IsAlike x h
      go g g_at true among =
          let is = m.named k g h g_at at among in
          (g, g_at, record { query = ap (λ (x : Group). x.query) is; implicit = ap (λ (x : Group). x.implicit) is; source = ap (λ (x : Group). x.clock.source) is })
      go g g_at false among =
          let is : h ≡ g = same_at new k h g at (m.others k among ∙ g_at) in
          (g, g_at, record { query = ap (λ (x : Group). x.query) is; implicit = ap (λ (x : Group). x.implicit) is; source = ap (λ (x : Group). x.clock.source) is })

  -- and what it became
  becomes : (k : ℕ) (g : Group) → slice_get old k ≡ Some g → (h : Group) × (slice_get new k ≡ Some h) × IsAlike g h
  becomes k g at =
      let inside = slice_get_within old k g at in
      let many = m.count in
      let h = there_inside new k (omega arith) in
      let w = was_at k h.0 h.1 in
      (h.0, h.1, subst (λ (x : Group). IsAlike x h.0) (same_at old k w.0 g w.1 at) w.2)

  module _ (schema : Declared) (queries : List Query) where
    alike_reads : (ty : ℕ) (g h : Group) → IsAlike g h → group_reads schema queries ty h ≡ group_reads schema queries ty g
    alike_reads ty g h a = ap (λ n. option_map_or (λ (q : Query). reads_type schema q ty) (slice_get queries (n - 1)) false) a.query

    alike_group : (g h : Group) → IsAlike g h → IsGroupOf schema queries g → IsGroupOf schema queries h
    alike_group g h a own = record {
      first = own.first;
      numbered = subst (λ n. 1 ≤ n) (sym a.query) own.numbered;
      at = subst (λ n. slice_get queries (n - 1) ≡ Some own.first) (sym a.query) own.at;
      source = subst (IsOf schema own.first.window) (sym a.source) own.source;
      times = own.times;
      implicit = λ told. subst (λ s. (e : Event) (p : ℕ) → clock_in s e p ≡ Some (pos p)) (sym a.source) (own.implicit (sym a.implicit ∙ told));
    }

    moved_member : (k : ℕ) (q : Query) (n : ℕ) → IsMember schema queries old k q n → IsMember schema queries new k q n
    moved_member k q n x =
        let b = becomes (n - 1) x.group x.at in
        record {
          group = b.0;
          numbered = x.numbered;
          at = b.1;
          least = subst (λ i. i ≤ k + 1) (sym b.2.query) x.least;
          shares = λ first at. x.shares first (subst (λ i. slice_get queries (i - 1) ≡ Some first) b.2.query at);
        }

    moved_groups : (count : ℕ) (numbers : List ℕ) → AreGroups schema queries count old numbers → AreGroups schema queries count new numbers
    moved_groups count numbers h = record {
      long = h.long;
      inside = λ k less. (let w = h.inside k less in let high = w.1 in let many = m.count in (w.0, omega arith));
      each = λ x n at. (let w = was_at n x at in alike_group w.0 x w.2 (h.each w.0 n w.1));
      order = λ i j x y less one two. (
          let a = was_at i x one in
          let b = was_at j y two in
          let lt = h.order i j a.0 b.0 less a.1 b.1 in
          let e = a.2.query in
          let f = b.2.query in
          omega arith
          );
      known = λ x n at. (
          let w = was_at n x at in
          subst (λ i. (i ≤ count) × (slice_index_or numbers (i - 1) 0 ≡ n + 1)) (sym w.2.query) (h.known w.0 n w.1)
          );
      members = λ k q less at. moved_member k q (slice_index_or numbers k 0) (h.members k q less at);
    }

    moved_those : (ty : ℕ) (numbers : List ℕ) → AreThose (group_reads schema queries ty) (length old) old numbers → AreThose (group_reads schema queries ty) (length new) new numbers
    moved_those ty numbers h = record {
      rising = h.rising;
      within = λ n among. (let w = h.within n among in let high = w.1 in let many = m.count in (w.0, omega arith));
      exact = λ k x less at. (
          let w = was_at k x at in
          h.exact k w.0 (slice_get_within old k w.0 w.1) w.1 ∙ sym (alike_reads ty w.0 x w.2)
          );
    }

    pub moved_times : (numbers : List ℕ) (rows : List (Vec ℕ Global)) → AreTimes schema queries old numbers rows → AreTimes schema queries new numbers rows
    moved_times numbers rows t = record {
      groups_are = moved_groups (length queries) numbers t.groups_are;
      by_type = record { long = t.by_type.long; each = λ ty r at. moved_those ty r.items (t.by_type.each ty r at) };
    }

-- so each query has the clock of one event more
pub clocks_go_on : (schema : Declared) (queries : List Query) (groups new : List Group) (numbers : List ℕ) (rows : List (Vec ℕ Global)) (event : Event) → AreTimes schema queries groups numbers rows → IsOfSchema schema event → (position : ℕ) → AreMoved event position (row_of rows event.ty) groups new →
    (events : List Event) → length events ≡ position → AreClocksOf schema queries events (clocks_of groups numbers) → NoneFallsBack schema queries events event → AreClocksOf schema queries (events ++ event ∷ []) (clocks_of new numbers)
clocks_go_on schema queries groups new numbers rows event t of position moves events count are none k q at =
    let m = t.groups_are.members k q (slice_get_within queries k q at) at in
    let long = t.groups_are.long in
    let inside = slice_get_within queries k q at in
    let own = t.groups_are.each m.group (slice_index_or numbers k 0 - 1) m.at in
    let before = clock_of_query groups numbers k m.group (omega arith) m.at in
    let next = becomes event position (row_of rows event.ty) groups new moves (slice_index_or numbers k 0 - 1) m.group m.at in
    let after = clock_of_query new numbers k next.0 (omega arith) next.1 in
    let is : IsClockOf schema q events m.group.clock.last = subst (IsClockOf schema q events) before (are k q at) in
    subst (IsClockOf schema q (events ++ event ∷ [])) (sym after)
    (goes_on schema q events event m.group.clock.last next.0.clock.last is (go m own next.0 next.1 is (group_reads schema queries event.ty m.group) refl))
  where
    go : (m : IsMember schema queries groups k q (slice_index_or numbers k 0)) (own : IsGroupOf schema queries m.group) (h : Group) → slice_get new (slice_index_or numbers k 0 - 1) ≡ Some h → IsClockOf schema q events m.group.clock.last → (b : Bool) → group_reads schema queries event.ty m.group ≡ b → Moves schema q (length events) event m.group.clock.last h.clock.last
    go m own h h_at is true reads =
        let low = m.numbered in
        let there = slice_get_within groups (slice_index_or numbers k 0 - 1) m.group m.at in
        let among = (row_is schema queries groups numbers rows t event of).exact (slice_index_or numbers k 0 - 1) m.group there m.at ∙ reads in
        let become = moves.named (slice_index_or numbers k 0 - 1) m.group h m.at h_at among in
        let share = m.shares own.first own.at in
        let first = first_reads schema queries groups numbers rows t event of m.group own reads in
        let mine : Reads schema q event = share.reads_back event first in
        let time = own.times event (length events) of first in
        let has : HasClock schema q.window event (length events) time.0 = share.clocks_back event (length events) time.0 time.1 in
        let clock : clock_in m.group.clock.source event position ≡ Some time.0 = own.source.clock event position ∙ subst (λ p. clock_of schema own.first.window event p ≡ Some time.0) count (has_clock schema own.first.window event (length events) time.0 time.1) in
        inr (record {
          reads = mine;
          now = time.0;
          now_is = has;
          in_time = comes_in_time schema q events event m.group.clock.last time.0 is (λ b n f. none k q b n at f) mine has;
          after_is = ap (λ (x : Group). x.clock.last) become ∙ clock;
        })
    go m own h h_at is false reads =
        let there = slice_get_within groups (slice_index_or numbers k 0 - 1) m.group m.at in
        let among = (row_is schema queries groups numbers rows t event of).exact (slice_index_or numbers k 0 - 1) m.group there m.at ∙ reads in
        let same : h ≡ m.group = same_at new (slice_index_or numbers k 0 - 1) h m.group h_at (moves.others (slice_index_or numbers k 0 - 1) among ∙ m.at) in
        let share = m.shares own.first own.at in
        inl (
          (λ mine. false≢true (sym reads ∙ reads_first schema queries groups numbers rows t event of m.group own (share.reads event mine))),
          ap (λ (x : Group). x.clock.last) same,
        )

-- BEFORE ANY EVENT

no_event : (schema : Declared) (q : Query) (clock : Option ℤ) → clock ≡ None → IsClockOf schema q [] clock
no_event schema q clock none = subst (IsClockOf schema q []) (sym none) (record { some = tt; none = λ p event at reads. absurd cc })

pub first_clocks : (schema : Declared) (queries : List Query) (groups : List Group) (numbers : List ℕ) → AreGroups schema queries (length queries) groups numbers → All IsBlankGroup groups → AreClocksOf schema queries [] (clocks_of groups numbers)
first_clocks schema queries groups numbers h blank k q at =
    let m = h.members k q (slice_get_within queries k q at) at in
    let long = h.long in
    let inside = slice_get_within queries k q at in
    no_event schema q (slice_index_or (clocks_of groups numbers) k None) (clock_of_query groups numbers k m.group (omega arith) m.at ∙ all_at IsBlankGroup groups (slice_index_or numbers k 0 - 1) m.group blank m.at)
