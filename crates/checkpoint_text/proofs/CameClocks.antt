-- The clocks along the events that came, as they are computed and as the engine's definitions have them. For callers of the crate too.
use Rattle.std.proofs.Common.{◌≡◌, ◌≢◌, ℕ, zero, suc, ◌+◌, ◌-◌, ◌<◌, ◌⊎◌, inl, inr, ℤ, Bool, true, false, cond, List, [], ◌∷◌, length, refl, sym, ap, subst, ◌∙◌, All, Option, Some, None, slice_get, arith}
use Rattle.std.specs.Prelude.{fold, int_lt, ◌<ℤ◌, if◌then◌else◌}
use Rattle.std.proofs.lemmas.Int.{ints}
use Rattle.stream_schema.specs.Types.{Declared, IsWellDeclared}
use Rattle.stream_schema.specs.Events.{IsOfSchema}
use Rattle.stream_schema.specs.declared.Event.{Event}
use Rattle.cel_terms.specs.declared.Query.{Query}
use Rattle.cel_terms.specs.Checked.{IsChecked}
use Rattle.cel_terms.specs.Answers.{HasClock}
use Rattle.cel_terms.specs.EventsRead.{query_reads}
use Rattle.window_clock.specs.Clocks.{clock_of}
use Rattle.query_standing.proofs.Reading.{is_read}
use Rattle.query_state.proofs.Clocks.{each_has_clock}
use Rattle.query_engine.specs.Clocks.{Reads, IsLastClock, FallsBack, NoneFallsBack, IsFirstToFall}
use Rattle.checkpoint_text.specs.declared.clocks.Fall.{Fall}
use Rattle.checkpoint_text.specs.declared.history.EventAt.{EventAt}
use Rattle.checkpoint_text.specs.QueryClocks.{clock_at, later_clock, last_clock, falls_with}
use Rattle.checkpoint_text.specs.LastClocks.{last_clocks, any_back, fall_of, fall_or, first_back}
use Rattle.checkpoint_text.specs.KeepLaws.{placed_lines_from, placed_lines, events_of}
use Rattle.checkpoint_text.specs.Streams.{AreEventsFrom, stream_of}
use Rattle.checkpoint_text.proofs.Falling.{any_back_is}
use Rattle.checkpoint_text.proofs.Restarting.{from_zero, all_there, any_from, stream_at, came_at, stream_long, read_clock}
use Rattle.checkpoint_text.proofs.Replayed.{falls_too}

-- the events that came are the stream of their lines
came_stream : (schema : Declared) (n : ℕ) (came : List (Event × List ℕ)) → AreEventsFrom schema n (n + length came) (events_of (placed_lines_from n came)) (stream_of came)
came_stream schema n [] = record { blank = (λ k d inside. absurd (omega arith)); count = refl }
came_stream schema n (x ∷ came) =
    let more : n + 1 + length came ≡ n + length (x ∷ came) = omega arith in
    ([], stream_of came, refl, record { blank = (λ k d inside. absurd (omega arith)); count = omega arith }, subst (λ to. AreEventsFrom schema (n + 1) to (events_of (placed_lines_from (n + 1) came)) (stream_of came)) more (came_stream schema (n + 1) came))

-- the next event, at its position
abbrev next_at : List (Event × List ℕ) → Event → EventAt
next_at came next = record { position = length came; event = next }

-- a clock that falls is found
found : (schema : Declared) (q : Query) (came : List (Event × List ℕ)) (next : Event) (before now : ℤ) → IsWellDeclared schema → FallsBack schema q (stream_of came) next before now → falls_with schema (events_of (placed_lines came)) (next_at came next) q ≡ true
found schema q came next before now well f =
    let all = subst (λ to. AreEventsFrom schema 0 to (events_of (placed_lines came)) (stream_of came)) (from_zero (length came)) (came_stream schema 0 came) in
    falls_too schema q well (length came) (events_of (placed_lines came)) (stream_of came) (next_at came next) before now all refl f

-- where none is found, none falls
pub came_level : (schema : Declared) (queries : List Query) (came : List (Event × List ℕ)) (next : Event) → IsWellDeclared schema → any_back schema queries (last_clocks schema queries (events_of (placed_lines came))) (next_at came next) ≡ false → NoneFallsBack schema queries (stream_of came) next
came_level schema queries came next well none k q before now at f =
    let falls = any_from (falls_with schema (events_of (placed_lines came)) (next_at came next)) queries k q at (found schema q came next before now well f) in
    let level = sym (any_back_is schema queries (events_of (placed_lines came)) (next_at came next)) ∙ none in
    (let both = sym falls ∙ level in cc)

-- what is said of the last clock among these events: it was that before, and none of them is read, or it is that of one, and none after it is
abbrev IsLastFrom : Declared → Query → ℕ → List (Event × List ℕ) → Option ℤ → ℤ → Type 0
IsLastFrom schema q n came acc c =
    ((acc ≡ Some c) × ((p : ℕ) (x : Event × List ℕ) → slice_get came p ≡ Some x → Reads schema q x.0 → ⊥))
    ⊎ ((p : ℕ) × (x : Event × List ℕ) × (slice_get came p ≡ Some x) × Reads schema q x.0 × HasClock schema q.window x.0 (n + p) c × ((m : ℕ) (y : Event × List ℕ) → p < m → slice_get came m ≡ Some y → Reads schema q y.0 → ⊥))

last_from : (schema : Declared) (q : Query) (n : ℕ) (came : List (Event × List ℕ)) (acc : Option ℤ) (c : ℤ) → ((p : ℕ) (x : Event × List ℕ) (at : ℕ) → slice_get came p ≡ Some x → Reads schema q x.0 → clock_of schema q.window x.0 at ≢ None) →
    fold (λ last e. later_clock last (clock_at schema q e)) acc (events_of (placed_lines_from n came)) ≡ Some c → IsLastFrom schema q n came acc c
last_from schema q n [] acc c clocks e = inl (e, λ p x at reads. absurd cc)
last_from schema q n (y ∷ came) acc c clocks e =
    by_rest (last_from schema q (n + 1) came (later_clock acc (clock_at schema q (record { position = n; event = y.0 }))) c (λ p x at there reads. clocks (suc p) x at there reads) e)
  where
    here : EventAt
    here = record { position = n; event = y.0 }

    unread : clock_at schema q here ≡ None → Reads schema q y.0 → ⊥
    unread none reads = clocks 0 y n refl reads (sym (by_reads (query_reads schema q y.0) (is_read schema q y.0 reads)) ∙ none)
      where
        by_reads : (t : Bool) → t ≡ true → cond t (clock_of schema q.window y.0 n) None ≡ clock_of schema q.window y.0 n
        by_reads true is = refl
        by_reads false is = absurd cc

    none_later : ((p : ℕ) (x : Event × List ℕ) → slice_get came p ≡ Some x → Reads schema q x.0 → ⊥) → (m : ℕ) (x : Event × List ℕ) → 0 < m → slice_get (y ∷ came) m ≡ Some x → Reads schema q x.0 → ⊥
    none_later none zero x less at reads = absurd (omega arith)
    none_later none (suc m) x less at reads = none m x at reads

    by_clock : (o : Option ℤ) → clock_at schema q here ≡ o → later_clock acc o ≡ Some c → ((p : ℕ) (x : Event × List ℕ) → slice_get came p ≡ Some x → Reads schema q x.0 → ⊥) → IsLastFrom schema q n (y ∷ came) acc c
    by_clock None is f none = inl (f, all)
      where
        all : (p : ℕ) (x : Event × List ℕ) → slice_get (y ∷ came) p ≡ Some x → Reads schema q x.0 → ⊥
        all zero x at reads = let same : y ≡ x = cc in unread is (subst (λ (z : Event × List ℕ). Reads schema q z.0) (sym same) reads)
        all (suc p) x at reads = none p x at reads
    by_clock (Some d) is f none =
        let read = read_clock schema q here c (is ∙ f) in
        let place : n ≡ n + 0 = omega arith in
        inr (0, y, refl, read.0, subst (λ p. HasClock schema q.window y.0 p c) place read.1, none_later none)

    by_rest : IsLastFrom schema q (n + 1) came (later_clock acc (clock_at schema q here)) c → IsLastFrom schema q n (y ∷ came) acc c
    by_rest (inl (f, none)) = by_clock (clock_at schema q here) refl f none
    by_rest (inr (p, x, at, reads, clock, after)) =
        let place : n + 1 + p ≡ n + suc p = omega arith in
        inr (suc p, x, at, reads, subst (λ m. HasClock schema q.window x.0 m c) place clock, after_more)
      where
        after_more : (m : ℕ) (z : Event × List ℕ) → suc p < m → slice_get (y ∷ came) m ≡ Some z → Reads schema q z.0 → ⊥
        after_more zero z less there r = absurd (omega arith)
        after_more (suc m) z less there r = after m z (omega arith) there r

-- the last clock that is computed is that of the last event that is read
last_is : (schema : Declared) (q : Query) (came : List (Event × List ℕ)) (c : ℤ) → IsWellDeclared schema → IsChecked schema q → All (IsOfSchema schema) (stream_of came) → last_clock schema q (events_of (placed_lines came)) ≡ Some c → IsLastClock schema q (stream_of came) c
last_is schema q came c well checked of e = by_last (last_from schema q 0 came None c (λ p x at there reads. each_has_clock schema q well checked x.0 at (all_there (IsOfSchema schema) (stream_of came) p x.0 of (stream_at came p x there)) reads) e)
  where
    by_last : IsLastFrom schema q 0 came None c → IsLastClock schema q (stream_of came) c
    by_last (inl (f, none)) = absurd cc
    by_last (inr (p, x, at, reads, clock, after)) = record {
      position = p;
      has = record { event = x.0; at = stream_at came p x at; read = reads; clock_is = subst (λ n. HasClock schema q.window x.0 n c) (from_zero p) clock };
      last = λ m event less there r. (
          let it = came_at came m event there in
          after m it.0 less it.1 (subst (Reads schema q) (sym it.2) r));
    }

-- the first of the queries whose clock falls, of those numbered from so much on
record IsFound (schema : Declared) (es : List EventAt) (e : EventAt) (from : ℕ) (queries : List Query) (fall : Fall) : Type 0 where
  place : ℕ
  number : fall.query ≡ from + place
  query : Query
  at : slice_get queries place ≡ Some query
  before_is : last_clock schema query es ≡ Some fall.before
  now_is : clock_at schema query e ≡ Some fall.now
  falls : int_lt fall.now fall.before ≡ true
  first : (k : ℕ) (q : Query) → k < place → slice_get queries k ≡ Some q → falls_with schema es e q ≡ false

one_fall : (a b : Fall) → Some a ≡ Some b → a ≡ b
one_fall a b e = cc

find : (schema : Declared) (es : List EventAt) (e : EventAt) (from : ℕ) (queries : List Query) (fall : Fall) → first_back schema from queries (last_clocks schema queries es) e ≡ Some fall → IsFound schema es e from queries fall
find schema es e from [] fall is = absurd cc
find schema es e from (q ∷ queries) fall is = by_clocks (last_clock schema q es) (clock_at schema q e) refl refl is (find schema es e (from + 1) queries fall)
  where
    first_too : IsFound schema es e (from + 1) queries fall → falls_with schema es e q ≡ false → IsFound schema es e from (q ∷ queries) fall
    first_too r level = record {
      place = suc r.place;
      number = let m = r.number in omega arith;
      query = r.query;
      at = r.at;
      before_is = r.before_is;
      now_is = r.now_is;
      falls = r.falls;
      first = before_it;
    }
      where
        before_it : (k : ℕ) (other : Query) → k < suc r.place → slice_get (q ∷ queries) k ≡ Some other → falls_with schema es e other ≡ false
        before_it zero other less at = let same : q ≡ other = cc in subst (λ z. falls_with schema es e z ≡ false) same level
        before_it (suc k) other less at = r.first k other (omega arith) at

    by_test : (b n : ℤ) (t : Bool) → last_clock schema q es ≡ Some b → clock_at schema q e ≡ Some n → int_lt n b ≡ t → fall_or (if t then Some (record { query = from; before = b; now = n }) else None) (first_back schema (from + 1) queries (last_clocks schema queries es) e) ≡ Some fall →
        (first_back schema (from + 1) queries (last_clocks schema queries es) e ≡ Some fall → IsFound schema es e (from + 1) queries fall) → IsFound schema es e from (q ∷ queries) fall
    by_test b n true last now less f rest =
        let same : record { query = from; before = b; now = n } ≡ fall = one_fall (record { query = from; before = b; now = n }) fall f in
        record {
          place = 0;
          number = sym (ap (λ (x : Fall). x.query) same) ∙ (let z : from ≡ from + 0 = omega arith in z);
          query = q;
          at = refl;
          before_is = last ∙ ap (λ (x : Fall). Some x.before) same;
          now_is = now ∙ ap (λ (x : Fall). Some x.now) same;
          falls = sym (ap (λ (x : Fall). int_lt x.now x.before) same) ∙ less;
          first = λ k other lt at. absurd (omega arith);
        }
    by_test b n false last now less f rest = first_too (rest f) (rw (last, now) less)

    by_clocks : (l o : Option ℤ) → last_clock schema q es ≡ l → clock_at schema q e ≡ o → fall_or (fall_of from l o) (first_back schema (from + 1) queries (last_clocks schema queries es) e) ≡ Some fall →
        (first_back schema (from + 1) queries (last_clocks schema queries es) e ≡ Some fall → IsFound schema es e (from + 1) queries fall) → IsFound schema es e from (q ∷ queries) fall
    by_clocks None o last now f rest = first_too (rest f) (rw last refl)
    by_clocks (Some b) None last now f rest = first_too (rest f) (rw (last, now) refl)
    by_clocks (Some b) (Some n) last now f rest = by_test b n (int_lt n b) last now refl f rest

-- the clock that is found to fall first does
pub came_falls : (schema : Declared) (queries : List Query) (came : List (Event × List ℕ)) (next : Event) (fall : Fall) → IsWellDeclared schema → All (IsChecked schema) queries → All (IsOfSchema schema) (stream_of came) →
    first_back schema 1 queries (last_clocks schema queries (events_of (placed_lines came))) (next_at came next) ≡ Some fall → IsFirstToFall schema queries (stream_of came) next fall.query fall.before fall.now
came_falls schema queries came next fall well checked of is =
    let r = find schema (events_of (placed_lines came)) (next_at came next) 1 queries fall is in
    let number = r.number in
    let place : r.place ≡ fall.query - 1 = omega arith in
    let one = all_there (IsChecked schema) queries r.place r.query checked r.at in
    let read = read_clock schema r.query (next_at came next) fall.now r.now_is in
    record {
      falling = r.query;
      numbered = omega arith;
      at = subst (λ k. slice_get queries k ≡ Some r.query) place r.at;
      falls = record {
        reads = read.0;
        last = last_is schema r.query came fall.before well one of r.before_is;
        now_is = subst (λ n. HasClock schema r.query.window next n fall.now) (sym (stream_long came)) read.1;
        falls = less_test fall.now fall.before r.falls;
      };
      first = λ k q before now less at f. (
          let none = r.first k q (omega (arith, less, place)) at in
          let falls = found schema q came next before now well f in
          (let both = sym falls ∙ none in cc));
    }
  where
    less_test : (a b : ℤ) → int_lt a b ≡ true → a <ℤ b
    less_test a b e = grind (arith, ints)
