-- Loops over groups: those that a query may share a clock with, those that read a type, those that fall, and those that an event moves.
use Rattle.std.proofs.Common.{◌≡◌, ◌≢◌, refl, sym, ap, subst, ◌∙◌, ℕ, zero, suc, ◌+◌, ◌-◌, ◌<◌, ◌≤◌, ◌⊎◌, inl, inr, Bool, true, false, ◌||◌, eqb, List, [], ◌∷◌, ◌++◌, length, map, take, All, Vec, Global, Some, None, slice_get, slice_index_or, slice_set, arith}
use Rattle.std.specs.Prelude.{◌<ℤ◌}
use Rattle.std.proofs.lemmas.Bool.{cases_lt, cases_eq, eqb-true, eq-eqb, false≢true, or_cases}
use Rattle.std.proofs.lemmas.Option.{slice_get-get_or}
use Rattle.std.proofs.lemmas.List.{get_or-take}
use Rattle.stream_schema.specs.Types.{Declared}
use Rattle.stream_schema.specs.declared.Event.{Event}
use Rattle.cel_terms.specs.declared.Query.{Query}
use Rattle.window_clock.specs.Places.{clock_in}
use Rattle.query_standing.specs.Dormancy.{ShareClock}
use Rattle.all_or_none.specs.Phases.{Phase, is_among, AreRising}
use Rattle.all_or_none.proofs.Numbers.{among_next, among_at, found_at, read_other, read_there, as_long}
use Rattle.query_state.specs.QueryStates.{reads_type}
use Rattle.query_engine.specs.declared.falls.FallOf.{FallOf}
use Rattle.query_engine.specs.declared.times.Group.{Group}
use Rattle.query_engine.specs.Times.{group_reads, AreThose, AreByType, AreHeadsIn, AreGroups, SharesWith, moved, AreMoved, StaysInTime, HaveClocksIn, IsFirstGroup, StayInTime}
use Rattle.query_engine.proofs.Standing.{mapped, map_at}
use Rattle.query_engine.proofs.GroupMembers.{same_at}
use Rattle.query_engine.proofs.GroupClocks.{reads_as_first}

-- A GROUP'S LEAST QUERY AMONG THE PARTS

pub heads_in : (schema : Declared) (query_states : List Phase) (count : ℕ) (groups : List Group) (numbers : List ℕ) → count ≤ length query_states → AreGroups schema (map (λ (p : Phase). p.query) query_states) count groups numbers → AreHeadsIn (length query_states) groups
heads_in schema query_states count groups numbers few h k d inside =
    let at = slice_get-get_or groups k d inside in
    let own = (h.each (slice_index_or groups k d) k at).numbered in
    let known = (h.known (slice_index_or groups k d) k at).0 in
    (own, omega arith)

pub at_here : {A : Type 0} (xs : List A) (k : ℕ) (x : A) → k < length xs → x ≡ slice_index_or xs k x → slice_get xs k ≡ Some x
at_here xs k x inside here = slice_get-get_or xs k x inside ∙ ap Some (sym here)

-- the group at a place shares the query state's clock
pub shares_here : (query_state : Phase) (groups : List Group) (query_states : List Phase) (k : ℕ) (g : Group) (p : Phase) → slice_get groups k ≡ Some g → slice_get query_states (g.query - 1) ≡ Some p → ShareClock query_state.schema query_state.query p.query → SharesWith query_state groups query_states (k + 1)
shares_here query_state groups query_states k g p g_at p_at share x y x_at y_at =
    let place : k + 1 - 1 ≡ k = omega arith in
    let one : g ≡ x = same_at groups k g x g_at (subst (λ i. slice_get groups i ≡ Some x) place x_at) in
    let two : p ≡ y = same_at query_states (g.query - 1) p y p_at (subst (λ (z : Group). slice_get query_states (z.query - 1) ≡ Some y) (sym one) y_at) in
    subst (λ (z : Phase). ShareClock query_state.schema query_state.query z.query) two share

-- in terms of the queries
pub shares_query : (schema : Declared) (query_state : Phase) (groups : List Group) (query_states : List Phase) (number : ℕ) (q : Query) → query_state.schema ≡ schema → query_state.query ≡ q → SharesWith query_state groups query_states number → (g : Group) (first : Query) → slice_get groups (number - 1) ≡ Some g → slice_get (map (λ (p : Phase). p.query) query_states) (g.query - 1) ≡ Some first → ShareClock schema q first
shares_query schema query_state groups query_states number q schema_is query_is shares g first g_at first_at =
    let m = mapped (λ (p : Phase). p.query) query_states (g.query - 1) first first_at in
    subst (λ (f : Query). ShareClock schema q f) m.2 (subst (λ (z : Query). ShareClock schema z m.0.query) query_is (subst (λ s. ShareClock s query_state.query m.0.query) schema_is (shares g m.0 g_at m.1)))

-- whether it reads the type
pub reads_here : (schema : Declared) (query_states : List Phase) (ty : ℕ) (g : Group) (p : Phase) (told : Bool) → slice_get query_states (g.query - 1) ≡ Some p → p.schema ≡ schema → told ≡ reads_type p.schema p.query ty → group_reads schema (map (λ (x : Phase). x.query) query_states) ty g ≡ told
reads_here schema query_states ty g p told at schema_is is =
    reads_as_first schema (map (λ (x : Phase). x.query) query_states) ty g p.query (map_at (λ (x : Phase). x.query) query_states (g.query - 1) p at)
    ∙ (ap (λ s. reads_type s p.query ty) (sym schema_is) ∙ sym is)

pub schema_here : (schema : Declared) (query_states : List Phase) (k : ℕ) (p : Phase) → All (λ (x : Phase). x.schema ≡ schema) query_states → k < length query_states → p ≡ slice_index_or query_states k p → p.schema ≡ schema
schema_here schema query_states k p schemas inside here = subst (λ (x : Phase). x.schema ≡ schema) (sym here) (schemas k p inside)

-- one type more
pub one_type : (schema : Declared) (queries : List Query) (groups : List Group) (count : ℕ) (rows more : List (Vec ℕ Global)) (row : Vec ℕ Global) → AreByType schema queries groups count rows → more ≡ rows ++ row ∷ [] → AreThose (group_reads schema queries count) (length groups) groups row.items → AreByType schema queries groups (count + 1) more
one_type schema queries groups count rows more row h put are = subst (AreByType schema queries groups (count + 1)) (sym put) (record {
  long = more_long rows ∙ ap (λ n. n + 1) h.long;
  each = λ ty x at. elim (pushed rows ty x at) [
    | inl old ↦ h.each ty x old
    | inr new ↦ (let same : count ≡ ty = (let e = h.long in let f = new.0 in omega arith) in subst (λ n. AreThose (group_reads schema queries n) (length groups) groups x.items) same (subst (λ (v : Vec ℕ Global). AreThose (group_reads schema queries count) (length groups) groups v.items) new.1 are))
  ];
}) where
  more_long : (xs : List (Vec ℕ Global)) → length (xs ++ row ∷ []) ≡ length xs + 1
  more_long [] = refl
  more_long (x ∷ xs) = let rest = more_long xs in omega arith

  pushed : (xs : List (Vec ℕ Global)) (k : ℕ) (x : Vec ℕ Global) → slice_get (xs ++ row ∷ []) k ≡ Some x → (slice_get xs k ≡ Some x) ⊎ ((k ≡ length xs) × (row ≡ x))
  pushed [] zero x e = inr (refl, cc)
  pushed [] (suc k) x e = absurd cc
  pushed (y ∷ xs) zero x e = inl e
  pushed (y ∷ xs) (suc k) x e = elim (pushed xs k x e) [ inl old ↦ inl old | inr new ↦ inr (ap suc new.0, new.1) ]

pub no_types : (schema : Declared) (queries : List Query) (groups : List Group) (rows : List (Vec ℕ Global)) → rows ≡ [] → AreByType schema queries groups 0 rows
no_types schema queries groups rows none = subst (AreByType schema queries groups 0) (sym none) (record { long = refl; each = λ ty row at. absurd cc })

-- THOSE THAT FALL

-- the groups of the first so many numbers stay in time
pub stays_next : (event : Event) (position : ℕ) (groups : List Group) (numbers : List ℕ) (i : ℕ) (g : Group) → i < length numbers → slice_index_or numbers i 0 - 1 < length groups → g ≡ slice_index_or groups (slice_index_or numbers i 0 - 1) g → StaysInTime event position g → StayInTime event position groups (take i numbers) → StayInTime event position groups (take (i + 1) numbers)
stays_next event position groups numbers i g inside there here stays h n x among at = elim (or_cases (is_among (take i numbers) n) (eqb (slice_index_or numbers i 0) n) (sym (among_next numbers i n inside) ∙ among)) [
  | inl was ↦ h n x was at
  | inr this ↦ (
      let same = eqb-true (slice_index_or numbers i 0) n this in
      let one : g ≡ x = same_at groups (slice_index_or numbers i 0 - 1) g x (at_here groups (slice_index_or numbers i 0 - 1) g there here) (subst (λ j. slice_get groups (j - 1) ≡ Some x) (sym same) at) in
      subst (StaysInTime event position) one stays
      )
]

-- a number below it is among those before it
below_before : (numbers : List ℕ) (i m : ℕ) → AreRising numbers → i < length numbers → m < slice_index_or numbers i 0 → is_among numbers m ≡ true → is_among (take i numbers) m ≡ true
below_before numbers i m rising inside less among =
    let f = found_at numbers m among in
    let at = f.2 in
    let within = f.1 in
    elim (cases_lt f.0 i) [
      | inl low ↦ (
          let short : f.0 < length (take i numbers) = take_long i numbers f.0 low within in
          subst (λ z. is_among (take i numbers) z ≡ true) (get_or-take i numbers f.0 0 low ∙ at) (among_at (take i numbers) f.0 short)
          )
      | inr high ↦ absurd (elim (cases_lt i f.0) [
        | inl over ↦ (let r = rising i f.0 over within in omega arith)
        | inr same ↦ (let j : f.0 ≡ i = omega arith in let e = ap (λ z. slice_index_or numbers z 0) j in omega arith)
      ])
    ]
  where
    take_long : (i : ℕ) (xs : List ℕ) (j : ℕ) → j < i → j < length xs → j < length (take i xs)
    take_long zero xs j less long = absurd (omega arith)
    take_long (suc i) [] j less long = absurd (omega arith)
    take_long (suc i) (x ∷ xs) zero less long = omega arith
    take_long (suc i) (x ∷ xs) (suc j) less long = let r = take_long i xs j (omega arith) (omega arith) in omega arith

-- How the clock of the group falls.
pub record Falls (event : Event) (position : ℕ) (g : Group) (f : FallOf) : Type 0 where
  pub query : f.query ≡ g.query
  pub falls : (clock_in g.clock.source event position ≡ Some f.now) × (g.clock.last ≡ Some f.before) × (f.now <ℤ f.before)

pub first_here : (event : Event) (position : ℕ) (groups : List Group) (numbers : List ℕ) (i : ℕ) (g : Group) (f : FallOf) → AreRising numbers → i < length numbers → slice_index_or numbers i 0 - 1 < length groups → g ≡ slice_index_or groups (slice_index_or numbers i 0 - 1) g → Falls event position g f → StayInTime event position groups (take i numbers) → IsFirstGroup event position groups numbers f
first_here event position groups numbers i g f rising inside there here falls h = record {
  number = slice_index_or numbers i 0;
  group = g;
  among = among_at numbers i inside;
  at = at_here groups (slice_index_or numbers i 0 - 1) g there here;
  query = falls.query;
  now_is = falls.falls.0;
  before_is = falls.falls.1;
  falls = falls.falls.2;
  first = λ n x less among at. h n x (below_before numbers i n rising inside less among) at;
}

-- a number that is read is that of a group
pub number_inside : (event : Event) (position : ℕ) (groups : List Group) (numbers : List ℕ) (i : ℕ) → HaveClocksIn event position groups numbers → i < length numbers → (1 ≤ slice_index_or numbers i 0) × (slice_index_or numbers i 0 - 1 < length groups)
number_inside event position groups numbers i h inside =
    let w = h (slice_index_or numbers i 0) (among_at numbers i inside) in
    let low = w.0 in
    let high = w.1 in
    (low, omega arith)

pub clock_inside : (event : Event) (position : ℕ) (groups : List Group) (numbers : List ℕ) (i : ℕ) (g : Group) → HaveClocksIn event position groups numbers → i < length numbers → g ≡ slice_index_or groups (slice_index_or numbers i 0 - 1) g → clock_in g.clock.source event position ≢ None
clock_inside event position groups numbers i g h inside here =
    let there = (number_inside event position groups numbers i h inside).1 in
    (h (slice_index_or numbers i 0) (among_at numbers i inside)).2 g (at_here groups (slice_index_or numbers i 0 - 1) g there here)

-- THOSE THAT ARE MOVED

pub moved_none : (event : Event) (position : ℕ) (groups : List Group) → AreMoved event position [] groups groups
moved_none event position groups = record {
  count = refl;
  named = λ k o n one two among. absurd (false≢true among);
  others = λ k among. refl;
}

neither : (a b : Bool) → (a || b) ≡ false → (a ≡ false) × (b ≡ false)
neither true b e = absurd (false≢true (sym e))
neither false b e = (refl, e)

module _ (event : Event) (position : ℕ) (numbers : List ℕ) (i : ℕ) (old cur : List Group) (d : Group) (inside : i < length numbers) (low : 1 ≤ slice_index_or numbers i 0) (there : slice_index_or numbers i 0 - 1 < length cur) (h : AreMoved event position (take i numbers) old cur) where
  abbrev place : ℕ
  place = slice_index_or numbers i 0 - 1

  -- at the place the group is moved, also where it was before
  at_place : (o : Group) → slice_get old (slice_index_or numbers i 0 - 1) ≡ Some o → moved event position (slice_index_or cur (slice_index_or numbers i 0 - 1) d) ≡ moved event position o
  at_place o at = go (is_among (take i numbers) (slice_index_or numbers i 0 - 1 + 1)) refl
    where
      here : slice_get cur (slice_index_or numbers i 0 - 1) ≡ Some (slice_index_or cur (slice_index_or numbers i 0 - 1) d)
      here = slice_get-get_or cur (slice_index_or numbers i 0 - 1) d there

      go : (b : Bool) → is_among (take i numbers) (slice_index_or numbers i 0 - 1 + 1) ≡ b → moved event position (slice_index_or cur (slice_index_or numbers i 0 - 1) d) ≡ moved event position o
      go true among = ap (moved event position) (h.named (slice_index_or numbers i 0 - 1) o (slice_index_or cur (slice_index_or numbers i 0 - 1) d) at here among)
      go false among = ap (moved event position) (same_at cur (slice_index_or numbers i 0 - 1) (slice_index_or cur (slice_index_or numbers i 0 - 1) d) o here (h.others (slice_index_or numbers i 0 - 1) among ∙ at))

  pub moved_next : AreMoved event position (take (i + 1) numbers) old (slice_set cur (slice_index_or numbers i 0 - 1) (moved event position (slice_index_or cur (slice_index_or numbers i 0 - 1) d)))
  moved_next = record {
    count = as_long cur (slice_index_or numbers i 0 - 1) (moved event position (slice_index_or cur (slice_index_or numbers i 0 - 1) d)) ∙ h.count;
    named = λ k o n o_at n_at among. elim (cases_eq k (slice_index_or numbers i 0 - 1)) [
      | inl same ↦ read_there cur (slice_index_or numbers i 0 - 1) (moved event position (slice_index_or cur (slice_index_or numbers i 0 - 1) d)) n (subst (λ j. slice_get (slice_set cur (slice_index_or numbers i 0 - 1) (moved event position (slice_index_or cur (slice_index_or numbers i 0 - 1) d))) j ≡ Some n) same n_at) ∙ at_place o (subst (λ j. slice_get old j ≡ Some o) same o_at)
      | inr other ↦ (
          let is = read_other cur (slice_index_or numbers i 0 - 1) k (moved event position (slice_index_or cur (slice_index_or numbers i 0 - 1) d)) other in
          elim (or_cases (is_among (take i numbers) (k + 1)) (eqb (slice_index_or numbers i 0) (k + 1)) (sym (among_next numbers i (k + 1) inside) ∙ among)) [
            | inl was ↦ h.named k o n o_at (sym is ∙ n_at) was
            | inr this ↦ absurd (other (let e = eqb-true (slice_index_or numbers i 0) (k + 1) this in omega arith))
          ]
          )
    ];
    others = λ k among. (
        let apart = neither (is_among (take i numbers) (k + 1)) (eqb (slice_index_or numbers i 0) (k + 1)) (sym (among_next numbers i (k + 1) inside) ∙ among) in
        read_other cur (slice_index_or numbers i 0 - 1) k (moved event position (slice_index_or cur (slice_index_or numbers i 0 - 1) d)) (λ same. false≢true (sym apart.1 ∙ eq-eqb (slice_index_or numbers i 0) (k + 1) (let e : k ≡ slice_index_or numbers i 0 - 1 = same in omega arith))) ∙ h.others k apart.0
        );
  }
