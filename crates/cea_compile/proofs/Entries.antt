-- The entries of the listed positions from a start to an end cover the substream there.
use Rattle.std.proofs.Common.{◌≡◌, refl, sym, ap, ◌∙◌, ℕ, zero, suc, ◌<◌, ◌≤◌, ◌⊎◌, inl, inr, ◌↔◌, Bool, true, false, ◌&&◌, ◌||◌, List, [], ◌∷◌, map, filter, length, Option, Some, None, slice_get, eqb, cond, arith}
use Rattle.std.proofs.lemmas.Bool.{eqb-true, eq-eqb, false≢true, and_parts, and_from, or_cases, or_left, or_right, cases_lt}
use Rattle.std.proofs.lemmas.Option.{slice_get_within}
use Rattle.std.proofs.lemmas.Slice.Eq.{bytes_eq-Decides}
use Rattle.stream_schema.specs.Types.{Declared}
use Rattle.stream_schema.specs.declared.Event.{Event}
use Rattle.cel_terms.specs.declared.Pred.{Pred}
use Rattle.cel_terms.specs.declared.Query.{Query}
use Rattle.cel_terms.specs.Predicate.{holds}
use Rattle.cel_terms.specs.Meaning.{Stream, event_type_name}
use Rattle.cel_terms.specs.Answers.{IsAscending, substream}
use Rattle.query_leaves.specs.Expand.{Occurrence, tree_of}
use Rattle.query_leaves.specs.Leaves.{occurrences, is_typed, all_hold, occurrence_reads}
use Rattle.cea_determinise.specs.Runs.{has_mark}
use Rattle.cea_compile.specs.Paths.{Reading, reading, AllTestsHold}
use Rattle.cea_compile.specs.Covers.{IsEntry, Cover, CoverAfter}
use Rattle.cea_compile.specs.DeterminisedRuns.{reads_at, entry_at}

-- each number is above those before it
abbrev pub Ascends : List ℕ → Type 0
Ascends [] = Unit {0}
Ascends (x ∷ xs) = ((y : ℕ) → has_mark xs y ≡ true → x < y) × Ascends xs

listed_at : (xs : List ℕ) (y : ℕ) → has_mark xs y ≡ true → (i : ℕ) × (slice_get xs i ≡ Some y)
listed_at [] y h = absurd (false≢true h)
listed_at (x ∷ xs) y h = go (λ l. listed_at xs y l) (or_cases (eqb y x) (has_mark xs y) h)
  where
    go : (has_mark xs y ≡ true → (i : ℕ) × (slice_get xs i ≡ Some y)) → (eqb y x ≡ true) ⊎ (has_mark xs y ≡ true) → (i : ℕ) × (slice_get (x ∷ xs) i ≡ Some y)
    go later (inl e) = (zero, ap Some (sym (eqb-true y x e)))
    go later (inr l) = let r = later l in (suc r.0, r.1)

pub ascends : (xs : List ℕ) → IsAscending xs → Ascends xs
ascends [] up = tt
ascends (x ∷ xs) up = (
  λ y h. (let r = listed_at xs y h in up 0 (suc r.0) x y (omega arith) refl r.1),
  ascends xs (λ i j a b less p q. up (suc i) (suc j) a b (omega arith) p q),
)

-- one more number in front of those that pass
listed_cons : (b e l u : Bool) → (e ≡ true → b ≡ u) → (y x : ℕ) (zs : List ℕ) → eqb y x ≡ e → has_mark zs y ≡ (l && u) → has_mark (cond b (x ∷ zs) zs) y ≡ ((e || l) && u)
listed_cons true true l true same y x zs q h = or_left (eqb y x) (has_mark zs y) q
listed_cons true true l false same y x zs q h = absurd (false≢true (sym (same refl)))
listed_cons true false l u same y x zs q h = cc
listed_cons false true l true same y x zs q h = absurd (false≢true (same refl))
listed_cons false true true false same y x zs q h = h
listed_cons false true false false same y x zs q h = h
listed_cons false false l u same y x zs q h = cc

-- what is listed of the numbers that pass
pub listed_filter : (t : ℕ → Bool) (xs : List ℕ) (y : ℕ) → has_mark (filter t xs) y ≡ (has_mark xs y && t y)
listed_filter t [] y = refl
listed_filter t (x ∷ xs) y = listed_cons (t x) (eqb y x) (has_mark xs y) (t y) (λ e. ap t (sym (eqb-true y x e))) y x (filter t xs) refl (listed_filter t xs y)

listed_within : (t : ℕ → Bool) (xs : List ℕ) (y : ℕ) → has_mark (filter t xs) y ≡ true → has_mark xs y ≡ true
listed_within t xs y h = (and_parts (has_mark xs y) (t y) (sym (listed_filter t xs y) ∙ h)).0

ascends_cons : (b : Bool) (x : ℕ) (zs : List ℕ) → ((y : ℕ) → has_mark zs y ≡ true → x < y) → Ascends zs → Ascends (cond b (x ∷ zs) zs)
ascends_cons true x zs f a = (f, a)
ascends_cons false x zs f a = a

pub ascends_filter : (t : ℕ → Bool) (xs : List ℕ) → Ascends xs → Ascends (filter t xs)
ascends_filter t [] a = tt
ascends_filter t (x ∷ xs) a = ascends_cons (t x) x (filter t xs) (λ y h. a.0 y (listed_within t xs y h)) (ascends_filter t xs a.1)

-- the numbers list what the reading has after a position up to the end
abbrev pub ListsAfter : Reading → ℕ → ℕ → List ℕ → Type 0
ListsAfter r p end xs = (q : ℕ) → (has_mark xs q ≡ true) ↔ (r.Has q × (p < q) × (q ≤ end))

module _ (r : Reading) (size : ℕ) (schema : Declared) (q : Query) (events : List Event) (is_entry : (p : ℕ) → r.Has p → IsEntry r size (entry_at schema q events p)) (end : ℕ) (has_end : r.Has end) where
  head_listed : (x : ℕ) (xs : List ℕ) → has_mark (x ∷ xs) x ≡ true
  head_listed x xs = or_left (eqb x x) (has_mark xs x) (eq-eqb x x refl)

  -- a listed number is the first or after it
  first_least : (x : ℕ) (xs : List ℕ) → Ascends (x ∷ xs) → (y : ℕ) → has_mark (x ∷ xs) y ≡ true → x ≤ y
  first_least x xs a y h = go (or_cases (eqb y x) (has_mark xs y) h)
    where
      go : (eqb y x ≡ true) ⊎ (has_mark xs y ≡ true) → x ≤ y
      go (inl e) = let s = eqb-true y x e in omega arith
      go (inr l) = let s = a.0 y l in omega arith

  later_listed : (x : ℕ) (xs : List ℕ) (y : ℕ) → x < y → has_mark (x ∷ xs) y ≡ true → has_mark xs y ≡ true
  later_listed x xs y less h = go (or_cases (eqb y x) (has_mark xs y) h)
    where
      go : (eqb y x ≡ true) ⊎ (has_mark xs y ≡ true) → has_mark xs y ≡ true
      go (inl e) = absurd (let s = eqb-true y x e in omega arith)
      go (inr l) = l

  at_end : (p : ℕ) → p ≤ end → ListsAfter r p end [] → p ≡ end
  at_end p le lists = go (cases_lt p end)
    where
      go : (p < end) ⊎ (end ≤ p) → p ≡ end
      go (inl less) = let same : end ≤ end = omega arith in absurd (false≢true ((lists end).1 (has_end, less, same)))
      go (inr more) = omega arith

  pub cover_after : (p : ℕ) (xs : List ℕ) → p ≤ end → Ascends xs → ListsAfter r p end xs → CoverAfter r size p (map (entry_at schema q events) xs) end
  cover_after p [] le a lists = at_end p le lists
  cover_after p (x ∷ xs) le a lists =
      let here = (lists x).0 (head_listed x xs) in
      let low = here.1 in
      let high = here.2 in (
        record {
          later = low;
          next = λ tight y has more less. (let up : y ≤ end = omega arith in let s = first_least x xs a y ((lists y).1 (has, more, up)) in omega arith);
        },
        is_entry x here.0,
        cover_after x xs high a.1 (λ y. (
          λ h. (let l = (lists y).0 (or_right (eqb y x) (has_mark xs y) h) in (l.0, a.0 y h, l.2)),
          λ h. (let more = h.1 in let up = h.2 in let low' : p < y = omega arith in later_listed x xs y more ((lists y).1 (h.0, low', up))),
        )),
      )

  -- the listed positions from a start to the end cover the events there
  pub cover_from : (start : ℕ) (xs : List ℕ) → r.Has start → start ≤ end → Ascends xs → ((y : ℕ) → (has_mark xs y ≡ true) ↔ (r.Has y × (start ≤ y) × (y ≤ end))) → Cover r size start (map (entry_at schema q events) xs) end
  cover_from start [] has le a lists = let same : start ≤ start = omega arith in false≢true ((lists start).1 (has, same, le))
  cover_from start (x ∷ xs) has le a lists =
      let same : start ≤ start = omega arith in
      let least = first_least x xs a start ((lists start).1 (has, same, le)) in
      let here = (lists x).0 (head_listed x xs) in
      let low = here.1 in
      let high = here.2 in (
        omega arith,
        is_entry x here.0,
        cover_after x xs high a.1 (λ y. (
          λ h. (let l = (lists y).0 (or_right (eqb y x) (has_mark xs y) h) in (l.0, a.0 y h, l.2)),
          λ h. (let more = h.1 in let up = h.2 in let low' : start ≤ y = omega arith in later_listed x xs y more ((lists y).1 (h.0, low', up))),
        )),
      )

-- the tests hold, computed or not
tests_to : (stream : Stream) (tests : List Pred) (event : Event) → AllTestsHold stream tests event → all_hold stream.schema tests event ≡ true
tests_to stream [] event h = refl
tests_to stream (t ∷ ts) event h = and_from (holds stream.schema t event) (all_hold stream.schema ts event) h.0 (tests_to stream ts event h.1)

tests_from : (stream : Stream) (tests : List Pred) (event : Event) → all_hold stream.schema tests event ≡ true → AllTestsHold stream tests event
tests_from stream [] event h = tt
tests_from stream (t ∷ ts) event h = let p = and_parts (holds stream.schema t event) (all_hold stream.schema ts event) h in (p.0, tests_from stream ts event p.1)

typed_to : (o : Option (List ℕ)) (name : List ℕ) → o ≡ Some name → is_typed o name ≡ true
typed_to None name e = absurd cc
typed_to (Some n) name e = (bytes_eq-Decides n name).1 cc

typed_from : (o : Option (List ℕ)) (name : List ℕ) → is_typed o name ≡ true → o ≡ Some name
typed_from None name e = absurd (false≢true e)
typed_from (Some n) name e = ap Some ((bytes_eq-Decides n name).0 e)

module _ (schema : Declared) (q : Query) (events : List Event) (end : ℕ) where
  abbrev listed_leaves : List Occurrence
  listed_leaves = occurrences (tree_of q)

  bits_to : (k p : ℕ) (l : Occurrence) (event : Event) → slice_get listed_leaves k ≡ Some l → slice_get events p ≡ Some event → occurrence_reads schema l event ≡ true → reads_at schema (slice_get listed_leaves k) (slice_get events p) ≡ true
  bits_to k p l event e f h = ap (λ o. reads_at schema o (slice_get events p)) e ∙ (ap (reads_at schema (Some l)) f ∙ h)

  bits_from : (o : Option Occurrence) (v : Option Event) → reads_at schema o v ≡ true → (l : Occurrence) × (event : Event) × (o ≡ Some l) × (v ≡ Some event) × (occurrence_reads schema l event ≡ true)
  bits_from None v h = absurd (false≢true h)
  bits_from (Some l) None h = absurd (false≢true h)
  bits_from (Some l) (Some event) h = (l, event, refl, refl, h)

  pub is_entry : (p : ℕ) → (substream schema q events end).Has p → IsEntry (reading (substream schema q events end) listed_leaves) (length listed_leaves) (entry_at schema q events p)
  is_entry p has = record {
    within = has;
    bits = λ k. (
      λ r. (
        slice_get_within listed_leaves k r.0 r.1,
        bits_to k p r.0 r.2.typed.event r.1 r.2.typed.at (and_from (is_typed (event_type_name schema r.2.typed.event) r.0.type) (all_hold schema r.0.tests r.2.typed.event) (typed_to (event_type_name schema r.2.typed.event) r.0.type r.2.typed.typed) (tests_to (substream schema q events end) r.0.tests r.2.typed.event r.2.tests)),
      ),
      λ h. (
          let b = bits_from (slice_get listed_leaves k) (slice_get events p) h.1 in
          let parts = and_parts (is_typed (event_type_name schema b.1) b.0.type) (all_hold schema b.0.tests b.1) b.4 in
          (b.0, b.2, record { typed = record { event = b.1; at = b.3; typed = typed_from (event_type_name schema b.1) b.0.type parts.0; within = has }; tests = tests_from (substream schema q events end) b.0.tests b.1 parts.1 })),
    );
  }
