-- What is kept of a stream is a stream that a checkpoint may tell.
use Rattle.std.proofs.Common.{◌≡◌, ℕ, suc, ◌+◌, ◌<◌, ◌≤◌, ℤ, ◌||◌, Bool, true, false, cond, List, [], ◌∷◌, ◌++◌, filter, length, Option, Some, None, Ok, refl, sym, ap, ap₂, subst, arith}
use Rattle.std.specs.Prelude.{int_lt}
use Rattle.std.specs.List.{AllByRecursion}
use Rattle.std.proofs.lemmas.Int.{ints}
use Rattle.stream_schema.specs.Types.{Declared}
use Rattle.stream_schema.specs.declared.Event.{Event}
use Rattle.cel_terms.specs.declared.Query.{Query}
use Rattle.checkpoint_text.specs.declared.history.EventAt.{EventAt}
use Rattle.checkpoint_text.specs.declared.keeping.KeptLine.{KeptLine}
use Rattle.checkpoint_text.specs.QueryClocks.{clock_at, later_clock, last_clock, is_back, some_falls, NoneFallsAfter, NoneFalls}
use Rattle.checkpoint_text.specs.Histories.{AreAscendingFrom}
use Rattle.checkpoint_text.specs.Spelling.{IsHistory}
use Rattle.checkpoint_text.specs.Checkpoints.{checkpoint_of}
use Rattle.checkpoint_text.specs.KeepLaws.{keeping, placed_lines_from, placed_lines, events_of, kept_lines, IsLineOf, told_stream}
use Rattle.checkpoint_text.specs.Keeping.{is_needed, checkpoint_text}
use Rattle.checkpoint_text.proofs.Keepers.{keepers_keep}
use Rattle.checkpoint_text.proofs.Written.{written_is_read}
use Rattle.checkpoint_text.proofs.Falling.{folded}

-- the first is there only where the second is, and is not above it
abbrev IsAtMost : Option ℤ → Option ℤ → Type 0
IsAtMost None last = Unit {0}
IsAtMost (Some a) None = ⊥
IsAtMost (Some a) (Some b) = int_lt b a ≡ false

not_above : (a b n : ℤ) → int_lt b a ≡ false → int_lt n b ≡ false → int_lt n a ≡ false
not_above a b n low level = grind (arith, ints)

itself : (n : ℤ) → int_lt n n ≡ false
itself n = grind (arith, ints)

level_of : (sub last now : Option ℤ) → IsAtMost sub last → is_back last now ≡ false → is_back sub now ≡ false
level_of None last now low level = refl
level_of (Some a) None now low level = absurd low
level_of (Some a) (Some b) None low level = refl
level_of (Some a) (Some b) (Some n) low level = not_above a b n low level

both_later : (sub last now : Option ℤ) → IsAtMost sub last → IsAtMost (later_clock sub now) (later_clock last now)
both_later sub last None low = low
both_later sub last (Some n) low = itself n

one_later : (sub last now : Option ℤ) → IsAtMost sub last → is_back last now ≡ false → IsAtMost sub (later_clock last now)
one_later sub last None low level = low
one_later None last (Some n) low level = tt
one_later (Some a) None (Some n) low level = absurd low
one_later (Some a) (Some b) (Some n) low level = not_above a b n low level

-- the last clocks along some of the events are not above those along all
abbrev AreAtMost : Declared → List Query → List EventAt → List EventAt → Type 0
AreAtMost schema [] sub all = Unit {0}
AreAtMost schema (q ∷ queries) sub all = IsAtMost (last_clock schema q sub) (last_clock schema q all) × AreAtMost schema queries sub all

neither : (s t : Bool) → (s || t) ≡ false → (s ≡ false) × (t ≡ false)
neither false t e = (refl, e)
neither true t e = absurd cc

last_more : (schema : Declared) (q : Query) (events : List EventAt) (e : EventAt) → last_clock schema q (events ++ e ∷ []) ≡ later_clock (last_clock schema q events) (clock_at schema q e)
last_more schema q events e = folded (λ last x. later_clock last (clock_at schema q x)) None events e

none_falls_in : (schema : Declared) (queries : List Query) (sub all : List EventAt) (e : EventAt) → AreAtMost schema queries sub all → some_falls schema queries all e ≡ false → some_falls schema queries sub e ≡ false
none_falls_in schema [] sub all e low level = refl
none_falls_in schema (q ∷ queries) sub all e low level =
    let both = neither (is_back (last_clock schema q all) (clock_at schema q e)) (some_falls schema queries all e) level in
    rw (level_of (last_clock schema q sub) (last_clock schema q all) (clock_at schema q e) low.0 both.0) (none_falls_in schema queries sub all e low.1 both.1)

with_both : (schema : Declared) (queries : List Query) (sub all : List EventAt) (e : EventAt) → AreAtMost schema queries sub all → AreAtMost schema queries (sub ++ e ∷ []) (all ++ e ∷ [])
with_both schema [] sub all e low = tt
with_both schema (q ∷ queries) sub all e low = (
  rw (last_more schema q sub e, last_more schema q all e) (both_later (last_clock schema q sub) (last_clock schema q all) (clock_at schema q e) low.0),
  with_both schema queries sub all e low.1,
)

with_one : (schema : Declared) (queries : List Query) (sub all : List EventAt) (e : EventAt) → AreAtMost schema queries sub all → some_falls schema queries all e ≡ false → AreAtMost schema queries sub (all ++ e ∷ [])
with_one schema [] sub all e low level = tt
with_one schema (q ∷ queries) sub all e low level =
    let both = neither (is_back (last_clock schema q all) (clock_at schema q e)) (some_falls schema queries all e) level in (
      rw (last_more schema q all e) (one_later (last_clock schema q sub) (last_clock schema q all) (clock_at schema q e) low.0 both.0),
      with_one schema queries sub all e low.1 both.1,
    )

none_yet : (schema : Declared) (queries : List Query) → AreAtMost schema queries [] []
none_yet schema [] = tt
none_yet schema (q ∷ queries) = (tt, none_yet schema queries)

module _ (test : KeptLine → Bool) where
  level_kept : (schema : Declared) (queries : List Query) (sub all : List EventAt) (lines : List KeptLine) → AreAtMost schema queries sub all → NoneFallsAfter schema queries all (events_of lines) →
      NoneFallsAfter schema queries sub (events_of (filter test lines))
  level_kept schema queries sub all [] low level = tt
  level_kept schema queries sub all (line ∷ lines) low level =
      by_test (test line) (level_kept schema queries (sub ++ line.at ∷ []) (all ++ line.at ∷ []) lines (with_both schema queries sub all line.at low) level.1) (level_kept schema queries sub (all ++ line.at ∷ []) lines (with_one schema queries sub all line.at low level.0) level.1)
    where
      by_test : (t : Bool) → NoneFallsAfter schema queries (sub ++ line.at ∷ []) (events_of (filter test lines)) → NoneFallsAfter schema queries sub (events_of (filter test lines)) →
          NoneFallsAfter schema queries sub (events_of (cond t (line ∷ filter test lines) (filter test lines)))
      by_test true with_it without = (none_falls_in schema queries sub all line.at low level.0, with_it)
      by_test false with_it without = without

  lower : (least more : ℕ) (events : List EventAt) → least ≤ more → AreAscendingFrom more events → AreAscendingFrom least events
  lower least more [] low up = tt
  lower least more (e ∷ events) low up = (omega (arith, low, up.0), up.1)

  ascending_kept : (least : ℕ) (lines : List KeptLine) → AreAscendingFrom least (events_of lines) → AreAscendingFrom least (events_of (filter test lines))
  ascending_kept least [] up = tt
  ascending_kept least (line ∷ lines) up = by_test (test line) (ascending_kept (line.at.position + 1) lines up.1)
    where
      by_test : (t : Bool) → AreAscendingFrom (line.at.position + 1) (events_of (filter test lines)) → AreAscendingFrom least (events_of (cond t (line ∷ filter test lines) (filter test lines)))
      by_test true rest = (up.0, rest)
      by_test false rest = lower least (line.at.position + 1) (events_of (filter test lines)) (omega (arith, up.0)) rest

  below_kept : (positions : ℕ) (lines : List KeptLine) → AllByRecursion (λ e. e.position < positions) (events_of lines) → AllByRecursion (λ e. e.position < positions) (events_of (filter test lines))
  below_kept positions [] below = tt
  below_kept positions (line ∷ lines) below = by_test (test line) (below_kept positions lines below.1)
    where
      by_test : (t : Bool) → AllByRecursion (λ e. e.position < positions) (events_of (filter test lines)) → AllByRecursion (λ e. e.position < positions) (events_of (cond t (line ∷ filter test lines) (filter test lines)))
      by_test true rest = (below.0, rest)
      by_test false rest = rest

  fewer_kept : (lines : List KeptLine) → length (events_of (filter test lines)) ≤ length lines
  fewer_kept [] = omega arith
  fewer_kept (line ∷ lines) = by_test (test line) (fewer_kept lines)
    where
      by_test : (t : Bool) → length (events_of (filter test lines)) ≤ length lines → length (events_of (cond t (line ∷ filter test lines) (filter test lines))) ≤ length (line ∷ lines)
      by_test true few = omega (arith, few)
      by_test false few = omega (arith, few)

all_ascend : (n : ℕ) (came : List (Event × List ℕ)) → AreAscendingFrom n (events_of (placed_lines_from n came))
all_ascend n [] = tt
all_ascend n (e ∷ came) = (omega arith, all_ascend (n + 1) came)

all_below : (n most : ℕ) (came : List (Event × List ℕ)) → n + length came ≤ most → AllByRecursion (λ e. e.position < most) (events_of (placed_lines_from n came))
all_below n most [] few = tt
all_below n most (e ∷ came) few = (omega (arith, few), all_below (n + 1) most came (omega (arith, few)))

all_long : (n : ℕ) (came : List (Event × List ℕ)) → length (placed_lines_from n came) ≡ length came
all_long n [] = refl
all_long n (e ∷ came) = ap suc (all_long (n + 1) came)

pub kept_is_history : (schema : Declared) (queries : List Query) (came : List (Event × List ℕ)) → NoneFalls schema queries (events_of (placed_lines came)) → length came ≤ 4611686018427387904 →
    IsHistory schema queries (told_stream (length came) (kept_lines schema queries (placed_lines came)))
kept_is_history schema queries came level few =
    let lines = placed_lines came in
    let test : KeptLine → Bool = λ line. is_needed schema queries (events_of lines) line.at in
    let fewer = fewer_kept test lines in
    let long : length lines ≡ length came = all_long 0 came in
    record {
      few = few;
      counted = omega (arith, fewer, long);
      placed = record {
        ascending = ascending_kept test 0 lines (all_ascend 0 came);
        below = below_kept test (length came) lines (all_below 0 (length came) came (omega arith));
      };
      level = level_kept test schema queries [] [] lines (none_yet schema queries) level;
    }

all_kept : (P : KeptLine → Type 0) (test : KeptLine → Bool) (lines : List KeptLine) → AllByRecursion P lines → AllByRecursion P (filter test lines)
all_kept P test [] all = tt
all_kept P test (line ∷ lines) all = by_test (test line) (all_kept P test lines all.1)
  where
    by_test : (t : Bool) → AllByRecursion P (filter test lines) → AllByRecursion P (cond t (line ∷ filter test lines) (filter test lines))
    by_test true rest = (all.0, rest)
    by_test false rest = rest

pub saved_is_read : (schema : Declared) (queries : List Query) (came : List (Event × List ℕ)) → NoneFalls schema queries (events_of (placed_lines came)) → length came ≤ 4611686018427387904 → AllByRecursion (IsLineOf schema) (placed_lines came) →
    length (checkpoint_text (keeping schema queries came).positions (keeping schema queries came).lines) < 1099511627776 →
    checkpoint_of schema queries (checkpoint_text (keeping schema queries came).positions (keeping schema queries came).lines) ≡ Ok (told_stream (length came) (kept_lines schema queries (placed_lines came)))
saved_is_read schema queries came level few all within =
    let kept = keepers_keep schema queries came level in
    let lines = kept_lines schema queries (placed_lines came) in
    let same : checkpoint_text (keeping schema queries came).positions (keeping schema queries came).lines ≡ checkpoint_text (length came) lines = ap₂ checkpoint_text kept.1 kept.0 in
    let P : List ℕ → Type 0 = λ text. length text < 1099511627776 → checkpoint_of schema queries text ≡ Ok (told_stream (length came) lines) in
    subst P (sym same) (written_is_read schema queries (length came) lines (kept_is_history schema queries came level few) (all_kept (IsLineOf schema) (λ line. is_needed schema queries (events_of (placed_lines came)) line.at) (placed_lines came) all)) within
