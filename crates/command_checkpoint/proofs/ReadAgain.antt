-- What is saved of a file is read again: its lines are short, and along its events no clock falls.
use Rattle.std.proofs.Common.{◌≡◌, ℕ, zero, suc, ◌+◌, ◌-◌, ◌≤◌, ◌<◌, ◌==◌, inl, inr, ℤ, Bool, true, false, cond, List, [], ◌∷◌, ◌++◌, drop, length, All, Option, Some, None, Result, Ok, Err, refl, sym, ◌∙◌, ap, ap₂, subst, append_assoc, arith}
use Rattle.std.specs.Prelude.{◌||◌, nat_le, nat_eq, int_lt}
use Rattle.std.specs.List.{AllByRecursion, starts_with}
use Rattle.std.specs.Str.Lines.{strip_carriage_return}
use Rattle.std.proofs.lemmas.Bool.{leb-true}
use Rattle.std.proofs.lemmas.List.{append-nil}
use Rattle.std.proofs.lemmas.List.Folds.{list_any-append}
use Rattle.cer_base.specs.declared.bytes.TheConstants.{LINE_FEED}
use Rattle.cer_base.specs.declared.limits.TheConstants.{LONGEST_LINE}
use Rattle.stream_schema.specs.Types.{Declared, IsWellDeclared}
use Rattle.stream_schema.specs.declared.Event.{Event}
use Rattle.cel_terms.specs.declared.Query.{Query}
use Rattle.cel_terms.specs.Checked.{IsChecked}
use Rattle.event_reader.specs.declared.EventFault.{EventFault}
use Rattle.event_reader.specs.declared.LineFault.{LineFault}
use Rattle.event_reader.specs.declared.LineFault.TheVariants.{LineTooLong, InputTooLong}
use Rattle.event_reader.specs.Events.{event_of_line}
use Rattle.event_reader.specs.LineBuffers.{IsShort}
use Rattle.event_reader.specs.Lines.{FileLines, stops, with_line, at_budget, at_end, has_line_feed, lines_from, without_mark, unmarked, file_lines}
use Rattle.query_engine.specs.Clocks.{NoneFallsBack}
use Rattle.event_run.specs.Runs.{AfterLine, RunsOn}
use Rattle.event_run.specs.Runs as stop
use Rattle.event_run.proofs.FirstFalls.{not_both}
use Rattle.checkpoint_text.specs.declared.clocks.Fall.{Fall}
use Rattle.checkpoint_text.specs.declared.history.EventAt.{EventAt}
use Rattle.checkpoint_text.specs.declared.numbers.TheConstants.{MOST_POSITIONS}
use Rattle.cer_base.specs.declared.limits.TheConstants.{MOST_BYTES}
use Rattle.checkpoint_text.specs.QueryClocks.{clock_at, is_back}
use Rattle.checkpoint_text.specs.LastClocks.{any_back, fall_of, fall_or, first_back}
use Rattle.checkpoint_text.specs.Checkpoints.{checkpoint_of}
use Rattle.checkpoint_text.specs.Keeping.{Keeper, next_event, checkpoint_text}
use Rattle.checkpoint_text.specs.KeepLaws.{empty_keeper, keeping, placed_lines, kept_lines, told_stream, KeepersKeep, SavedIsRead}
use Rattle.checkpoint_text.specs.Streams.{stream_of}
use Rattle.checkpoint_text.proofs.CameKeepers.{Keeps, none_kept, one_kept, one_falls, stream_more, all_of_schema}
use Rattle.command_checkpoint.specs.Saved.{came_of, came_in, IsCheckpointOf}

-- where a line is short, so are it and those after it
short_line : (number : ℕ) (line : List ℕ) (later : FileLines) → has_line_feed line ≡ false → AllByRecursion IsShort later.texts → AllByRecursion IsShort (with_line number line later).texts
short_line number line later plain all = by_test (nat_le (length line) LONGEST_LINE) refl
  where
    by_test : (t : Bool) → nat_le (length line) LONGEST_LINE ≡ t → AllByRecursion IsShort (let f : FileLines = cond t (record { texts = line ∷ later.texts; fault = later.fault }) (stops (Some (LineTooLong number))) in f.texts)
    by_test true e = (record { plain = plain; short = leb-true (length line) LONGEST_LINE e }, all)
    by_test false e = tt

none_full : (budget number : ℕ) (line : List ℕ) → AllByRecursion IsShort (at_budget budget number line).texts
none_full budget number line = by_test (nat_le (length line) LONGEST_LINE)
  where
    by_test : (t : Bool) → AllByRecursion IsShort (let f : FileLines = cond t (stops (Some (InputTooLong budget))) (stops (Some (LineTooLong number))) in f.texts)
    by_test true = tt
    by_test false = tt

short_last : (number : ℕ) (line : List ℕ) → has_line_feed line ≡ false → AllByRecursion IsShort (at_end number line).texts
short_last number line plain = by_test (length line == 0)
  where
    by_test : (t : Bool) → AllByRecursion IsShort (let f : FileLines = cond t (stops None) (with_line number line (stops None)) in f.texts)
    by_test true = tt
    by_test false = short_line number line (stops None) plain tt

plain_more : (line : List ℕ) (byte : ℕ) → has_line_feed line ≡ false → (byte == LINE_FEED) ≡ false → has_line_feed (line ++ byte ∷ []) ≡ false
plain_more line byte plain other = list_any-append (λ b. b == LINE_FEED) line (byte ∷ []) ∙ ap₂ (λ a b. a || (b || false)) plain other

short_lines : (budget number : ℕ) (line bytes : List ℕ) (room : ℕ) → has_line_feed line ≡ false → AllByRecursion IsShort (lines_from budget number line bytes room).texts
short_lines budget number line [] room plain = by_room (room == 0)
  where
    by_room : (t : Bool) → AllByRecursion IsShort (let f : FileLines = cond t (at_budget budget number line) (at_end number line) in f.texts)
    by_room true = none_full budget number line
    by_room false = short_last number line plain
short_lines budget number line (byte ∷ bytes) room plain = by_room (room == 0) (short_lines budget (number + 1) [] bytes (room - 1) refl) (λ other. short_lines budget number (line ++ byte ∷ []) bytes (room - 1) (plain_more line byte plain other))
  where
    Texts : FileLines → Type 0
    Texts f = AllByRecursion IsShort f.texts

    by_feed : (t : Bool) → (byte == LINE_FEED) ≡ t → Texts (lines_from budget (number + 1) [] bytes (room - 1)) → ((byte == LINE_FEED) ≡ false → Texts (lines_from budget number (line ++ byte ∷ []) bytes (room - 1))) →
        Texts (cond t (with_line number line (lines_from budget (number + 1) [] bytes (room - 1))) (lines_from budget number (line ++ byte ∷ []) bytes (room - 1)))
    by_feed true e next more = short_line number line (lines_from budget (number + 1) [] bytes (room - 1)) plain next
    by_feed false e next more = more e

    by_room : (t : Bool) → Texts (lines_from budget (number + 1) [] bytes (room - 1)) → ((byte == LINE_FEED) ≡ false → Texts (lines_from budget number (line ++ byte ∷ []) bytes (room - 1))) →
        Texts (cond t (at_budget budget number line) (cond (byte == LINE_FEED) (with_line number line (lines_from budget (number + 1) [] bytes (room - 1))) (lines_from budget number (line ++ byte ∷ []) bytes (room - 1))))
    by_room true next more = none_full budget number line
    by_room false next more = by_feed (byte == LINE_FEED) refl next more

-- a text without line feeds has none after its first bytes
plain_behind : (n : ℕ) (xs : List ℕ) → has_line_feed xs ≡ false → has_line_feed (drop n xs) ≡ false
plain_behind zero xs plain = plain
plain_behind (suc n) [] plain = plain
plain_behind (suc n) (x ∷ xs) plain = by_first (x == LINE_FEED) plain (plain_behind n xs)
  where
    by_first : (t : Bool) → (t || has_line_feed xs) ≡ false → (has_line_feed xs ≡ false → has_line_feed (drop n xs) ≡ false) → has_line_feed (drop n xs) ≡ false
    by_first true f rest = absurd cc
    by_first false f rest = rest f

few_behind : (n : ℕ) (xs : List ℕ) (most : ℕ) → length xs ≤ most → length (drop n xs) ≤ most
few_behind zero xs most few = few
few_behind (suc n) [] most few = few
few_behind (suc n) (x ∷ xs) most few = few_behind n xs most (omega (arith, few))

short_first : (line : List ℕ) → IsShort line → IsShort (without_mark line)
short_first line is = by_mark (starts_with nat_eq line (239 ∷ 187 ∷ 191 ∷ []))
  where
    by_mark : (t : Bool) → IsShort (cond t (drop 3 line) line)
    by_mark true = record { plain = plain_behind 3 line is.plain; short = few_behind 3 line LONGEST_LINE is.short }
    by_mark false = is

short_unmarked : (lines : List (List ℕ)) → AllByRecursion IsShort lines → AllByRecursion IsShort (unmarked lines)
short_unmarked [] all = tt
short_unmarked (first ∷ lines) all = (short_first first all.0, all.1)

-- the lines of a file are short
pub all_short : (budget : ℕ) (bytes : List ℕ) → AllByRecursion IsShort (file_lines budget bytes).texts
all_short budget bytes = short_unmarked (lines_from budget 1 [] bytes budget).texts (short_lines budget 1 [] bytes budget refl)

-- where no clock is the first to fall, none falls
none_back : (schema : Declared) (k : ℕ) (queries : List Query) (lasts : List (Option ℤ)) (e : EventAt) → first_back schema k queries lasts e ≡ None → any_back schema queries lasts e ≡ false
none_back schema k [] lasts e none = refl
none_back schema k (q ∷ queries) [] e none = refl
none_back schema k (q ∷ queries) (last ∷ lasts) e none = by_clocks last (clock_at schema q e) none (none_back schema (k + 1) queries lasts e)
  where
    by_clocks : (l o : Option ℤ) → fall_or (fall_of k l o) (first_back schema (k + 1) queries lasts e) ≡ None → (first_back schema (k + 1) queries lasts e ≡ None → any_back schema queries lasts e ≡ false) → (is_back l o || any_back schema queries lasts e) ≡ false
    by_clocks None o f rest = rest f
    by_clocks (Some before) None f rest = rest f
    by_clocks (Some before) (Some now) f rest = by_test (int_lt now before) f
      where
        by_test : (t : Bool) → fall_or (cond t (Some (record { query = k; before = before; now = now })) None) (first_back schema (k + 1) queries lasts e) ≡ None → (t || any_back schema queries lasts e) ≡ false
        by_test true g = absurd cc
        by_test false g = rest g

-- with the next event no clock falls that the keeper finds
level_next : (schema : Declared) (queries : List Query) (keeper : Keeper) (came : List (Event × List ℕ)) (next : Event) → IsWellDeclared schema → All (IsChecked schema) queries → Keeps schema queries keeper came → NoneFallsBack schema queries (stream_of came) next →
    any_back keeper.schema keeper.queries keeper.lasts (next_event keeper next) ≡ false
level_next schema queries keeper came next well checked k none = by_fall (first_back keeper.schema 1 keeper.queries keeper.lasts (next_event keeper next)) refl
  where
    by_fall : (o : Option Fall) → first_back keeper.schema 1 keeper.queries keeper.lasts (next_event keeper next) ≡ o → any_back keeper.schema keeper.queries keeper.lasts (next_event keeper next) ≡ false
    by_fall None e = none_back keeper.schema 1 keeper.queries keeper.lasts (next_event keeper next) e
    by_fall (Some fall) e =
        absurd (not_both schema queries (stream_of came) next fall.query fall.before fall.now none (one_falls schema queries keeper came k next fall well checked (all_of_schema schema 0 came k.lines) e))

-- Some keeper keeps what it keeps of these events.
pub record SomeKeeps (schema : Declared) (queries : List Query) (came : List (Event × List ℕ)) : Type 0 where
  pub keeper : Keeper
  pub keeps : Keeps schema queries keeper came

-- a run to the end keeps the events of all its lines
runs_keep : (schema : Declared) (queries : List Query) → IsWellDeclared schema → All (IsChecked schema) queries → (number : ℕ) (keeper : Keeper) (came : List (Event × List ℕ)) (texts : List (List ℕ)) (fault : Option LineFault) (events : List Event) →
    AllByRecursion IsShort texts → Keeps schema queries keeper came → RunsOn schema queries number (stream_of came) texts fault events stop.End → SomeKeeps schema queries (came ++ came_in schema texts)
runs_keep schema queries well checked number keeper came [] fault events short k run =
    let K : List (Event × List ℕ) → Type 0 = Keeps schema queries keeper in record { keeper = keeper; keeps = subst K (sym (append-nil came)) k }
runs_keep schema queries well checked number keeper came (text ∷ texts) fault events short k run =
    over (event_of_line schema text) refl run (λ r. runs_keep schema queries well checked (number + 1) keeper came texts fault events short.1 k r)
    (λ next kept more r. runs_keep schema queries well checked (number + 1) kept (came ++ (next, strip_carriage_return text) ∷ []) texts fault events short.1 more r)
  where
    over : (line : Result (Option Event) EventFault) → event_of_line schema text ≡ line →
        AfterLine schema queries number (stream_of came) events stop.End (RunsOn schema queries (number + 1) (stream_of came) texts fault events stop.End) (λ next. RunsOn schema queries (number + 1) (stream_of came ++ next ∷ []) texts fault events stop.End) line →
        (RunsOn schema queries (number + 1) (stream_of came) texts fault events stop.End → SomeKeeps schema queries (came ++ came_in schema texts)) →
        ((next : Event) (kept : Keeper) → Keeps schema queries kept (came ++ (next, strip_carriage_return text) ∷ []) → RunsOn schema queries (number + 1) (stream_of (came ++ (next, strip_carriage_return text) ∷ [])) texts fault events stop.End →
        SomeKeeps schema queries ((came ++ (next, strip_carriage_return text) ∷ []) ++ came_in schema texts)) →
        SomeKeeps schema queries (came ++ (came_of text line ++ came_in schema texts))
    over (Ok None) is after skip take = skip after
    over (Ok (Some next)) is (inl after) skip take =
        let x : Event × List ℕ = (next, strip_carriage_return text) in
        let R : List Event → Type 0 = λ before. RunsOn schema queries (number + 1) before texts fault events stop.End in
        let S : List (Event × List ℕ) → Type 0 = SomeKeeps schema queries in
        let more = one_kept schema queries keeper came k text next is short.0.plain short.0.short (level_next schema queries keeper came next well checked k after.0) in
        subst S (append_assoc came (x ∷ []) (came_in schema texts)) (take next _ more (subst R (sym (stream_more came x)) after.1))
    over (Ok (Some next)) is (inr stops) skip take = absurd (let e = stops.1.stops in cc)
    over (Err refusal) is after skip take = absurd (let e = after.1 in cc)

-- the checkpoint of a file is read
pub is_read : KeepersKeep → SavedIsRead → (schema : Declared) (queries : List Query) (most_bytes : ℕ) (bytes text : List ℕ) → IsWellDeclared schema → All (IsChecked schema) queries → (saved : IsCheckpointOf schema queries most_bytes bytes text) →
    length saved.came ≤ MOST_POSITIONS → length text < MOST_BYTES → checkpoint_of schema queries text ≡ Ok (told_stream (length saved.came) (kept_lines schema queries (placed_lines saved.came)))
is_read keepers reads schema queries most_bytes bytes text well checked saved few short =
    let file = file_lines most_bytes bytes in
    let S : List (Event × List ℕ) → Type 0 = SomeKeeps schema queries in
    let some = subst S (sym saved.are) (runs_keep schema queries well checked 1 (empty_keeper schema queries) [] file.texts file.fault (stream_of saved.came) (all_short most_bytes bytes) (none_kept schema queries) saved.runs) in
    let kept = keepers schema queries saved.came some.keeps.level in
    let whole : checkpoint_text (keeping schema queries saved.came).positions (keeping schema queries saved.came).lines ≡ text = ap₂ checkpoint_text kept.1 kept.0 ∙ sym saved.spells in
    let B : List ℕ → Type 0 = λ t. length t < MOST_BYTES in
    sym (ap (checkpoint_of schema queries) whole) ∙ reads schema queries saved.came some.keeps.level few some.keeps.lines (subst B (sym whole) short)
