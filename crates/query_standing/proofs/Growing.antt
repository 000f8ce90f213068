-- What is seen of a key's events as one event more comes.
use Rattle.std.proofs.Common.{◌≡◌, ℕ, zero, suc, ◌<◌, ◌≤◌, ◌⊎◌, inl, inr, ℤ, ◌≤ℤ◌, Bool, true, List, [], ◌∷◌, ◌++◌, map, length, refl, sym, ap, subst, ◌∙◌, All, Contains, Some, slice_get, arith}
use Rattle.std.specs.Prelude.{int_le}
use Rattle.std.proofs.lemmas.Int.{ints}
use Rattle.std.proofs.lemmas.Option.{slice_get_within}
use Rattle.std.proofs.lemmas.List.Elements.{All-nil, All-weaker, All-push, Contains-append_left, Contains-push, Contains-push_cases, filter-append}
use Rattle.cer_base.specs.Repeats.{HasNoRepeats}
use Rattle.cer_base.specs.Members.{Member, recent}
use Rattle.cer_base.proofs.Walks.{test_passes, test_tells}
use Rattle.stream_schema.specs.Types.{Declared}
use Rattle.stream_schema.specs.declared.Event.{Event}
use Rattle.stream_schema.specs.declared.Value.{Value}
use Rattle.cel_terms.specs.declared.Query.{Query}
use Rattle.cel_terms.specs.Answers.{Answer, IsAnswer, IsAscending, HasKey, HasClock}
use Rattle.cea_determinise.specs.Runs.{Automaton}
use Rattle.cea_determinise.specs.Strict.{Standing}
use Rattle.event_update.specs.Reach.{Seen, Has, all_of}
use Rattle.query_standing.specs.Clocks.{HasClockAt, NeverFalls, low_of}
use Rattle.query_standing.specs.Keys.{IsSeenAs, HasKeyAt, IsSeen, positions, AreSeen}
use Rattle.query_standing.specs.Holding.{Holds, dropped}
use Rattle.query_standing.proofs.Lists.{rises, ascending, all_from, rises_push, kept_is, is_kept, filter_distinct}
use Rattle.query_standing.proofs.Windows.{low_rises, low_in_window}

-- an event of a list is at its place in a longer one
pub get_front : {X : Type 0} (xs ys : List X) (i : ℕ) (x : X) → slice_get xs i ≡ Some x → slice_get (xs ++ ys) i ≡ Some x
get_front [] ys i x e = absurd cc
get_front (z ∷ xs) ys zero x e = e
get_front (z ∷ xs) ys (suc i) x e = get_front xs ys i x e

pub get_last : {X : Type 0} (xs : List X) (x : X) → slice_get (xs ++ x ∷ []) (length xs) ≡ Some x
get_last [] x = refl
get_last (y ∷ xs) x = get_last xs x

-- and what is at a place of the longer one is of the first, or the last
pub get_cases : {X : Type 0} (xs : List X) (y : X) (i : ℕ) (x : X) → slice_get (xs ++ y ∷ []) i ≡ Some x → (slice_get xs i ≡ Some x) ⊎ ((i ≡ length xs) × (y ≡ x))
get_cases [] y zero x e = inr (refl, (cc))
get_cases [] y (suc i) x e = absurd cc
get_cases (z ∷ xs) y zero x e = inl e
get_cases (z ∷ xs) y (suc i) x e = elim (get_cases xs y i x e) [ inl l ↦ inl l | inr r ↦ inr (ap suc r.0, r.1) ]

keyed_front : (schema : Declared) (q : Query) (events : List Event) (event : Event) (key : List Value) (p : ℕ) → HasKeyAt schema q events key p → HasKeyAt schema q (events ++ event ∷ []) key p
keyed_front schema q events event key p h = record { event = h.event; at = get_front events (event ∷ []) p h.event h.at; has = h.has }

seen_front : (schema : Declared) (q : Query) (events : List Event) (event : Event) (x : Seen) → IsSeen schema q events x → IsSeen schema q (events ++ event ∷ []) x
seen_front schema q events event x s = record { event = s.event; at = get_front events (event ∷ []) x.stamp.pos s.event s.at; tells = s.tells }

keyed_cases : (schema : Declared) (q : Query) (events : List Event) (event : Event) (key : List Value) (p : ℕ) → HasKeyAt schema q (events ++ event ∷ []) key p → HasKeyAt schema q events key p ⊎ ((p ≡ length events) × HasKey schema q event key)
keyed_cases schema q events event key p h = elim (get_cases events event p h.event h.at) [
  | inl l ↦ inl (record { event = h.event; at = l; has = h.has })
  | inr r ↦ inr (r.0, subst (λ e. HasKey schema q e key) (sym r.1) h.has)
]

-- before the first event nothing is seen
pub seen_none : (schema : Declared) (q : Query) (key : List Value) → AreSeen schema q [] key []
seen_none schema q key = record {
  ascending = ascending [] tt;
  exact = λ p. (λ c. let l = c.1 in absurd (omega arith), λ h. absurd (let e = h.at in cc));
  seen = All-nil (IsSeen schema q []);
}

-- an event of another key, or of no key, leaves what is seen of a key's events
pub seen_same : (schema : Declared) (q : Query) (events : List Event) (event : Event) (key : List Value) (xs : List Seen) → AreSeen schema q events key xs → (HasKey schema q event key → ⊥) → AreSeen schema q (events ++ event ∷ []) key xs
seen_same schema q events event key xs s other = record {
  ascending = s.ascending;
  exact = λ p. (
    λ c. keyed_front schema q events event key p ((s.exact p).0 c),
    λ h. elim (keyed_cases schema q events event key p h) [ inl l ↦ (s.exact p).1 l | inr r ↦ absurd (other r.1) ],
  );
  seen = All-weaker (IsSeen schema q events) (IsSeen schema q (events ++ event ∷ [])) (seen_front schema q events event) xs s.seen;
}

map_push : {A B : Type 0} (f : A → B) (xs : List A) (x : A) → map f (xs ++ x ∷ []) ≡ map f xs ++ f x ∷ []
map_push f [] x = refl
map_push f (y ∷ ys) x = ap (λ zs. f y ∷ zs) (map_push f ys x)

-- all that was seen came before an event that comes next
pub all_earlier : (schema : Declared) (q : Query) (events : List Event) (key : List Value) (xs : List Seen) → AreSeen schema q events key xs → All (λ p. p < length events) (positions xs)
all_earlier schema q events key xs s = all_from (λ p. p < length events) (positions xs) (λ p c. (let k = (s.exact p).0 c in slice_get_within events p k.event k.at))

-- an event of the key comes last
pub seen_more : (schema : Declared) (q : Query) (events : List Event) (event : Event) (key : List Value) (xs : List Seen) (x : Seen) → AreSeen schema q events key xs → HasKey schema q event key → x.stamp.pos ≡ length events → IsSeenAs schema q event x → AreSeen schema q (events ++ event ∷ []) key (xs ++ x ∷ [])
seen_more schema q events event key xs x s has at tells = record {
  ascending = subst IsAscending (sym push) (ascending (positions xs ++ x.stamp.pos ∷ []) (rises_push (positions xs) x.stamp.pos (rises (positions xs) s.ascending) (subst (λ n. All (λ p. p < n) (positions xs)) (sym at) (all_earlier schema q events key xs s))));
  exact = λ p. (to p, back p);
  seen = All-push (IsSeen schema q (events ++ event ∷ [])) xs x (All-weaker (IsSeen schema q events) (IsSeen schema q (events ++ event ∷ [])) (seen_front schema q events event) xs s.seen) (record { event = event; at = subst (λ n. slice_get (events ++ event ∷ []) n ≡ Some event) (sym at) (get_last events event); tells = tells });
} where
  push : positions (xs ++ x ∷ []) ≡ positions xs ++ x.stamp.pos ∷ []
  push = map_push (λ (y : Seen). y.stamp.pos) xs x

  to : (p : ℕ) → Contains (positions (xs ++ x ∷ [])) p → HasKeyAt schema q (events ++ event ∷ []) key p
  to p c = elim (Contains-push_cases (positions xs) x.stamp.pos p (subst (λ zs. Contains zs p) push c)) [
    | inl l ↦ keyed_front schema q events event key p ((s.exact p).0 l)
    | inr r ↦ record { event = event; at = subst (λ n. slice_get (events ++ event ∷ []) n ≡ Some event) (sym at ∙ r) (get_last events event); has = has }
  ]

  back : (p : ℕ) → HasKeyAt schema q (events ++ event ∷ []) key p → Contains (positions (xs ++ x ∷ [])) p
  back p h = elim (keyed_cases schema q events event key p h) [
    | inl l ↦ subst (λ zs. Contains zs p) (sym push) (Contains-append_left (positions xs) (x.stamp.pos ∷ []) p ((s.exact p).1 l))
    | inr r ↦ subst (λ n. Contains (positions (xs ++ x ∷ [])) n) (at ∙ sym r.0) (subst (λ zs. Contains zs x.stamp.pos) (sym push) (Contains-push (positions xs) x.stamp.pos))
  ]

-- what holds with one low clock holds with each later one
pub holds_later : (a : Automaton) (strict : Bool) (standing : ℕ → Standing) (low more : ℤ) (xs : List Seen) (rows : List (ℕ × List Member)) → low ≤ℤ more → Holds a strict standing low xs rows → Holds a strict standing more xs rows
holds_later a strict standing low more xs rows le h = record {
  sound = h.sound;
  complete = λ s m r keeps. h.complete s m r (test_passes low m.start.clock (let k = test_tells more m.start.clock keeps in omega (arith, ints)));
  distinct = h.distinct;
}

dropped_has : (low : ℤ) (rows : List (ℕ × List Member)) (n : ℕ) (m : Member) → Has (dropped low rows) n m → Has rows n m
dropped_has low [] n m h = absurd h
dropped_has low (r ∷ rows) n m (inl h) = inl (h.0, (kept_is (λ (x : Member). int_le low x.start.clock) r.1 m h.1).0)
dropped_has low (r ∷ rows) n m (inr h) = inr (dropped_has low rows n m h)

has_dropped : (low : ℤ) (rows : List (ℕ × List Member)) (n : ℕ) (m : Member) → int_le low m.start.clock ≡ true → Has rows n m → Has (dropped low rows) n m
has_dropped low [] n m k h = absurd h
has_dropped low (r ∷ rows) n m k (inl h) = inl (h.0, is_kept (λ (x : Member). int_le low x.start.clock) r.1 m h.1 k)
has_dropped low (r ∷ rows) n m k (inr h) = inr (has_dropped low rows n m k h)

dropped_all : (low : ℤ) (rows : List (ℕ × List Member)) → all_of (dropped low rows) ≡ recent low (all_of rows)
dropped_all low [] = refl
dropped_all low (r ∷ rows) = ap (λ ms. recent low r.1 ++ ms) (dropped_all low rows) ∙ sym (filter-append (λ (x : Member). int_le low x.start.clock) r.1 (all_of rows))

-- members that start below the low clock may be dropped
pub holds_dropped : (a : Automaton) (strict : Bool) (standing : ℕ → Standing) (low : ℤ) (xs : List Seen) (rows : List (ℕ × List Member)) → Holds a strict standing low xs rows → Holds a strict standing low xs (dropped low rows)
holds_dropped a strict standing low xs rows h = record {
  sound = λ n m has. h.sound n m (dropped_has low rows n m has);
  complete = λ s m r keeps. (let c = h.complete s m r keeps in (c.0, c.1, has_dropped low rows c.0 m keeps c.2));
  distinct = subst HasNoRepeats (sym (dropped_all low rows)) (filter_distinct (λ (x : Member). int_le low x.start.clock) (all_of rows) h.distinct);
}

-- and no later answer starts there: its start's clock is at least the low clock of each earlier event of the query
pub later_answers_start_late : (schema : Declared) (q : Query) (events : List Event) (i end : ℕ) (before now from : ℤ) (first : Event) (answer : Answer) → NeverFalls schema q events → i ≤ end → HasClockAt schema q events i before → HasClockAt schema q events end now → IsAnswer schema q events end answer → slice_get events answer.start ≡ Some first → HasClock schema q.window first answer.start from → low_of q.window before ≤ℤ from
later_answers_start_late schema q events i end before now from first answer never le b n is first_is from_is =
    let rises = low_rises q.window before now (never i end before now le b n) in
    let own = low_in_window schema q events answer.start end first n.event from now first_is n.at from_is n.clock_is is.window in
    omega (arith, ints)

-- Along clocks that do not fall the low clock does not fall.
pub low_never_falls : (schema : Declared) (q : Query) (events : List Event) (i j : ℕ) (before now : ℤ) → NeverFalls schema q events → i ≤ j → HasClockAt schema q events i before → HasClockAt schema q events j now → low_of q.window before ≤ℤ low_of q.window now
low_never_falls schema q events i j before now never le b n = low_rises q.window before now (never i j before now le b n)
