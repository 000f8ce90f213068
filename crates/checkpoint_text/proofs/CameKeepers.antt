-- A keeper with one line more, and why it takes none. For callers of the crate too.
use Rattle.std.proofs.Common.{◌≡◌, ℕ, zero, suc, ◌+◌, ◌-◌, ◌≤◌, ◌==◌, ◌||◌, Bool, true, false, cond, List, [], ◌∷◌, ◌++◌, take, length, refl, sym, ap, subst, ◌∙◌, All, Some, Ok, arith, append_assoc}
use Rattle.std.specs.Prelude.{slice_index}
use Rattle.std.specs.List.{AllByRecursion}
use Rattle.std.specs.Str.Lines.{strip_carriage_return}
use Rattle.std.proofs.lemmas.List.{append-nil, map-append}
use Rattle.std.proofs.lemmas.List.Elements.{All-nil, All-cons}
use Rattle.cer_base.specs.declared.limits.TheConstants.{LONGEST_LINE}
use Rattle.stream_schema.specs.Types.{Declared, IsWellDeclared}
use Rattle.stream_schema.specs.Events.{IsOfSchema}
use Rattle.stream_schema.specs.declared.Event.{Event}
use Rattle.cel_terms.specs.declared.Query.{Query}
use Rattle.cel_terms.specs.Checked.{IsChecked}
use Rattle.event_reader.specs.Lines.{has_line_feed}
use Rattle.event_reader.specs.LineBuffers.{IsShort}
use Rattle.event_reader.specs.Events.{event_of_line}
use Rattle.query_engine.specs.Clocks.{NoneFallsBack, IsFirstToFall}
use Rattle.checkpoint_text.specs.declared.clocks.Fall.{Fall}
use Rattle.checkpoint_text.specs.declared.history.EventAt.{EventAt}
use Rattle.checkpoint_text.specs.declared.keeping.KeptLine.{KeptLine}
use Rattle.checkpoint_text.specs.QueryClocks.{some_falls, NoneFallsAfter, NoneFalls}
use Rattle.checkpoint_text.specs.LastClocks.{last_clocks, any_back, first_back}
use Rattle.checkpoint_text.specs.Keeping.{Keeper, next_event, with_event}
use Rattle.checkpoint_text.specs.KeepLaws.{empty_keeper, keeping, placed_lines_from, placed_lines, events_of, IsLineOf}
use Rattle.checkpoint_text.specs.Streams.{stream_of}
use Rattle.checkpoint_text.proofs.Falling.{folded, any_back_is}
use Rattle.checkpoint_text.proofs.Keepers.{kept_of, keep_on}
use Rattle.checkpoint_text.proofs.KeptTexts.{gives_again}
use Rattle.checkpoint_text.proofs.ParseState.{event_is}
use Rattle.checkpoint_text.proofs.Restarting.{from_zero}
use Rattle.checkpoint_text.proofs.CameClocks.{came_level, came_falls}

-- The keeper has what it keeps of these events, each with the text of its line, along which no clock falls.
pub record Keeps (schema : Declared) (queries : List Query) (keeper : Keeper) (came : List (Event × List ℕ)) : Type 0 where
  pub is : keeper ≡ keeping schema queries came
  pub level : NoneFalls schema queries (events_of (placed_lines came))
  pub lines : AllByRecursion (IsLineOf schema) (placed_lines came)

pub none_kept : (schema : Declared) (queries : List Query) → Keeps schema queries (empty_keeper schema queries) []
none_kept schema queries = record { is = refl; level = tt; lines = tt }

-- the line of the event at this place
abbrev line_at : ℕ → Event × List ℕ → KeptLine
line_at p x = record { at = record { position = p; event = x.0 }; text = x.1 }

lines_more : (n : ℕ) (came : List (Event × List ℕ)) (x : Event × List ℕ) → placed_lines_from n (came ++ x ∷ []) ≡ placed_lines_from n came ++ line_at (n + length came) x ∷ []
lines_more n [] x = let here : n ≡ n + 0 = omega arith in ap (λ p. line_at p x ∷ []) here
lines_more n (y ∷ came) x =
    let place : n + 1 + length came ≡ n + length (y ∷ came) = omega arith in
    ap (λ ls. line_at n y ∷ ls) (lines_more (n + 1) came x ∙ ap (λ p. placed_lines_from (n + 1) came ++ line_at p x ∷ []) place)

all_more : (P : KeptLine → Type 0) (lines : List KeptLine) (line : KeptLine) → AllByRecursion P lines → P line → AllByRecursion P (lines ++ line ∷ [])
all_more P [] line all one = (one, tt)
all_more P (l ∷ lines) line all one = (all.0, all_more P lines line all.1 one)

level_more : (schema : Declared) (queries : List Query) (before es : List EventAt) (e : EventAt) → NoneFallsAfter schema queries before es → some_falls schema queries (before ++ es) e ≡ false → NoneFallsAfter schema queries before (es ++ e ∷ [])
level_more schema queries before [] e level none = (ap (λ b. some_falls schema queries b e) (sym (append-nil before)) ∙ none, tt)
level_more schema queries before (x ∷ es) e level none =
    (level.0, level_more schema queries (before ++ x ∷ []) es e level.1 (ap (λ b. some_falls schema queries b e) (append_assoc before (x ∷ []) es) ∙ none))

-- a text without line feeds has none without its end
none_in_first : (xs : List ℕ) (n : ℕ) → has_line_feed xs ≡ false → has_line_feed (take n xs) ≡ false
none_in_first [] zero none = refl
none_in_first [] (suc n) none = refl
none_in_first (x ∷ xs) zero none = refl
none_in_first (x ∷ xs) (suc n) none = by_first (x == 10) none (λ rest. none_in_first xs n rest)
  where
    by_first : (t : Bool) → (t || has_line_feed xs) ≡ false → (has_line_feed xs ≡ false → has_line_feed (take n xs) ≡ false) → (t || has_line_feed (take n xs)) ≡ false
    by_first true f rest = absurd cc
    by_first false f rest = rest f

few_of : (xs : List ℕ) (n most : ℕ) → length xs ≤ most → length (take n xs) ≤ most
few_of [] zero most few = few
few_of [] (suc n) most few = few
few_of (x ∷ xs) zero most few = omega arith
few_of (x ∷ xs) (suc n) zero few = absurd (omega arith)
few_of (x ∷ xs) (suc n) (suc most) few = let rest = few_of xs n most (omega arith) in omega (arith, rest)

short_too : (text : List ℕ) → has_line_feed text ≡ false → length text ≤ LONGEST_LINE → IsShort (strip_carriage_return text)
short_too text none few = by_test (slice_index text (length text - 1) == 13)
  where
    by_test : (t : Bool) → IsShort (cond t (take (length text - 1) text) text)
    by_test true = record { plain = none_in_first text (length text - 1) none; short = few_of text (length text - 1) LONGEST_LINE few }
    by_test false = record { plain = none; short = few }

module _ (schema : Declared) (queries : List Query) (keeper : Keeper) (came : List (Event × List ℕ)) (k : Keeps schema queries keeper came) where
  pub kept_is : keeper ≡ kept_of schema queries (length came) (placed_lines came)
  kept_is = k.is ∙ (keep_on schema queries 0 [] came k.level ∙ ap (λ n. kept_of schema queries n (placed_lines came)) (from_zero (length came)))

  pub kept_count : keeper.positions ≡ length came
  kept_count = ap (λ (x : Keeper). x.positions) kept_is

  -- what the keeper says of the clocks is said of the events that came
  falls_are : (next : Event) → first_back keeper.schema 1 keeper.queries keeper.lasts (next_event keeper next) ≡ first_back schema 1 queries (last_clocks schema queries (events_of (placed_lines came))) (record { position = length came; event = next })
  falls_are next = ap (λ (x : Keeper). first_back x.schema 1 x.queries x.lasts (next_event x next)) kept_is

  back_is : (next : Event) → any_back keeper.schema keeper.queries keeper.lasts (next_event keeper next) ≡ any_back schema queries (last_clocks schema queries (events_of (placed_lines came))) (record { position = length came; event = next })
  back_is next = ap (λ (x : Keeper). any_back x.schema x.queries x.lasts (next_event x next)) kept_is

  -- the event of a line more, with which no clock falls
  pub one_kept : (text : List ℕ) (next : Event) → event_of_line schema text ≡ Ok (Some next) → has_line_feed text ≡ false → length text ≤ LONGEST_LINE → any_back keeper.schema keeper.queries keeper.lasts (next_event keeper next) ≡ false →
      Keeps schema queries (with_event keeper next (strip_carriage_return text)) (came ++ (next, strip_carriage_return text) ∷ [])
  one_kept text next gives plain few none =
      let x : Event × List ℕ = (next, strip_carriage_return text) in
      let more = lines_more 0 came x ∙ ap (λ n. placed_lines came ++ line_at n x ∷ []) (from_zero (length came)) in
      let level = sym (any_back_is schema queries (events_of (placed_lines came)) (record { position = length came; event = next })) ∙ (sym (back_is next) ∙ none) in
      let line : IsLineOf schema (line_at (length came) x) = record { gives = gives_again schema text next gives; short = short_too text plain few } in
      record {
        is = ap (λ (y : Keeper). with_event y next (strip_carriage_return text)) k.is ∙ sym (folded (λ y (e : Event × List ℕ). with_event y e.0 e.1) (empty_keeper schema queries) came x);
        level = subst (NoneFalls schema queries) (sym (ap events_of more ∙ map-append (λ (l : KeptLine). l.at) (placed_lines came) (line_at (length came) x ∷ []))) (level_more schema queries [] (events_of (placed_lines came)) (line_at (length came) x).at k.level level);
        lines = subst (AllByRecursion (IsLineOf schema)) (sym more) (all_more (IsLineOf schema) (placed_lines came) (line_at (length came) x) k.lines line);
      }

  pub one_level : (next : Event) → IsWellDeclared schema → any_back keeper.schema keeper.queries keeper.lasts (next_event keeper next) ≡ false → NoneFallsBack schema queries (stream_of came) next
  one_level next well none = came_level schema queries came next well (sym (back_is next) ∙ none)

  pub one_falls : (next : Event) (fall : Fall) → IsWellDeclared schema → All (IsChecked schema) queries → All (IsOfSchema schema) (stream_of came) → first_back keeper.schema 1 keeper.queries keeper.lasts (next_event keeper next) ≡ Some fall →
      IsFirstToFall schema queries (stream_of came) next fall.query fall.before fall.now
  one_falls next fall well checked of is = came_falls schema queries came next fall well checked of (sym (falls_are next) ∙ is)

pub stream_more : (came : List (Event × List ℕ)) (x : Event × List ℕ) → stream_of (came ++ x ∷ []) ≡ stream_of came ++ x.0 ∷ []
stream_more came x = map-append (λ (e : Event × List ℕ). e.0) came (x ∷ [])

-- each event that came is of the schema
pub all_of_schema : (schema : Declared) (n : ℕ) (came : List (Event × List ℕ)) → AllByRecursion (IsLineOf schema) (placed_lines_from n came) → All (IsOfSchema schema) (stream_of came)
all_of_schema schema n [] all = All-nil (IsOfSchema schema)
all_of_schema schema n (x ∷ came) all = All-cons (IsOfSchema schema) x.0 (stream_of came) (event_is schema x.1 x.0 all.0.gives) (all_of_schema schema (n + 1) came all.1)

pub keepers_tell_falls : (schema : Declared) (queries : List Query) (came : List (Event × List ℕ)) (next : Event) → IsWellDeclared schema → All (IsChecked schema) queries → NoneFalls schema queries (events_of (placed_lines came)) → AllByRecursion (IsLineOf schema) (placed_lines came) →
    let keeper = keeping schema queries came in
    (any_back keeper.schema keeper.queries keeper.lasts (next_event keeper next) ≡ false → NoneFallsBack schema queries (stream_of came) next)
    × ((fall : Fall) → first_back keeper.schema 1 keeper.queries keeper.lasts (next_event keeper next) ≡ Some fall → IsFirstToFall schema queries (stream_of came) next fall.query fall.before fall.now)
keepers_tell_falls schema queries came next well checked level lines =
    let k : Keeps schema queries (keeping schema queries came) came = record { is = refl; level = level; lines = lines } in (
      one_level schema queries (keeping schema queries came) came k next well,
      λ fall falls. one_falls schema queries (keeping schema queries came) came k next fall well checked (all_of_schema schema 0 came lines) falls,
    )
