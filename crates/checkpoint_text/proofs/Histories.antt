-- Histories as they are read and as they are spelled.
use Rattle.std.proofs.Common.{◌≡◌, ℕ, suc, ◌+◌, ◌<◌, ◌≤◌, ◌==◌, ◌&&◌, Bool, true, false, cond, List, [], ◌∷◌, ◌++◌, length, Option, Some, None, Result, Ok, Err, refl, sym, ap, ◌∙◌, subst, arith, rules, append_assoc, length-append}
use Rattle.std.proofs.lemmas.List.{append-nil}
use Rattle.std.proofs.lemmas.Bool.{and_parts, and_from, leb-true, le-leb, eqb-true, eq-eqb, ltb-true, lt-ltb}
use Rattle.std.specs.Prelude.{bytes_eq, codes, nat_le, nat_lt}
use Rattle.std.specs.List.{AllByRecursion}
use Rattle.stream_schema.specs.Types.{Declared}
use Rattle.stream_schema.specs.declared.Event.{Event}
use Rattle.cel_terms.specs.declared.Query.{Query}
use Rattle.event_reader.specs.declared.EventFault.{EventFault}
use Rattle.event_reader.specs.declared.LineFault.{LineFault}
use Rattle.event_reader.specs.declared.LineFault.TheVariants as line
use Rattle.event_reader.specs.Events.{event_of_line, and_then}
use Rattle.event_reader.specs.Lines.{FileLines}
use Rattle.checkpoint_text.specs.declared.CheckpointFault.TheVariants as fault
use Rattle.checkpoint_text.specs.declared.stand.NextLine.TheVariants.{Counts, Position, EventOf}
use Rattle.checkpoint_text.specs.declared.stand.LineState.{LineState}
use Rattle.checkpoint_text.specs.declared.history.EventAt.{EventAt}
use Rattle.checkpoint_text.specs.declared.history.History.{History}
use Rattle.checkpoint_text.specs.QueryClocks.{some_falls, NoneFallsAfter}
use Rattle.checkpoint_text.specs.Histories.{AreAscendingFrom}
use Rattle.checkpoint_text.specs.Numbers.{position_of, counts_of}
use Rattle.checkpoint_text.specs.Checkpoints.{ParseState, nothing, start, counted, placed, with_stand, with_event, Refusal, at_line, told_on, told_by, is_all_told, history_of, at_stop, history_in}
use Rattle.checkpoint_text.specs.Spelling.{counts_text, position_text, AreEventLines, Spells}
use Rattle.checkpoint_text.proofs.WordLines.{position_told, told_position, counts_told, told_counts}

-- where the lines of events stand
abbrev between : ℕ → ℕ → ℕ → List EventAt → ParseState
between positions count least events = record { stand = record { awaited = Position; positions = positions; count = count; least = least }; events = events }

-- what the lines after tell: these events
record Tells (schema : Declared) (queries : List Query) (positions count least : ℕ) (before : List EventAt) (texts : List (List ℕ)) (events : List EventAt) : Type 0 where
  lines : AreEventLines schema events texts
  ascending : AreAscendingFrom least events
  below : AllByRecursion (λ e. e.position < positions) events
  level : NoneFallsAfter schema queries before events
  all : length before + length events ≡ count

same_bytes : (xs ys : List ℕ) → bytes_eq xs ys ≡ true → xs ≡ ys
same_bytes xs ys e = search (rules, e)

one_ok : {T F : Type 0} (x y : T) → (let r : Result T F = Ok x in r) ≡ Ok y → x ≡ y
one_ok x y e = cc

-- the events that lines tell, and what is told in all
record Found (schema : Declared) (queries : List Query) (positions count least : ℕ) (before : List EventAt) (texts : List (List ℕ)) (end : ParseState) : Type 0 where
  events : List EventAt
  tells : Tells schema queries positions count least before texts events
  history : history_of end ≡ record { positions = positions; events = before ++ events }

-- no line more
none_found : (schema : Declared) (queries : List Query) (n positions count least : ℕ) (before : List EventAt) (end : ParseState) → told_on schema queries n (between positions count least before) [] ≡ Ok end → is_all_told end end.stand.awaited ≡ true →
    Found schema queries positions count least before [] end
none_found schema queries n positions count least before end e whole =
    let same : between positions count least before ≡ end = one_ok (between positions count least before) end e in
    let all : (length before == count) ≡ true = ap (λ t. is_all_told t t.stand.awaited) same ∙ whole in
    let few : length before ≡ count = eqb-true (length before) count all in
    record {
      events = [];
      tells = record { lines = refl; ascending = tt; below = tt; level = tt; all = omega (arith, few) };
      history = ap history_of (sym same) ∙ ap (λ es. record { positions = positions; events = es }) (sym (append-nil before));
    }

-- the line of the event at a position, and the lines after
event_found : (schema : Declared) (queries : List Query) (n positions count least p : ℕ) (before : List EventAt) (first second : List ℕ) (rest : List (List ℕ)) (end : ParseState) → first ≡ position_text p → least ≤ p → p < positions →
    (r : Result (Option Event) EventFault) → event_of_line schema second ≡ r →
    and_then (at_line n (with_event schema queries (record { stand = record { awaited = EventOf p; positions = positions; count = count; least = p + 1 }; events = before }) p r)) (λ next. told_on schema queries (n + 1) next rest) ≡ Ok end →
    ((later : List EventAt) → told_on schema queries (n + 1) (between positions count (p + 1) later) rest ≡ Ok end → Found schema queries positions count (p + 1) later rest end) →
    Found schema queries positions count least before (first ∷ second ∷ rest) end
event_found schema queries n positions count least p before first second rest end is low high (Err refusal) read e onward = absurd cc
event_found schema queries n positions count least p before first second rest end is low high (Ok None) read e onward = absurd cc
event_found schema queries n positions count least p before first second rest end is low high (Ok (Some event)) read e onward = by_fall (some_falls schema queries before here) refl e
  where
    here : EventAt
    here = record { position = p; event = event }

    with_rest : some_falls schema queries before here ≡ false → Found schema queries positions count (p + 1) (before ++ here ∷ []) rest end → Found schema queries positions count least before (first ∷ second ∷ rest) end
    with_rest level found =
        let longer : length (before ++ here ∷ []) ≡ length before + 1 = length-append before (here ∷ []) in
        record {
          events = here ∷ found.events;
          tells = record {
            lines = (second, rest, ap (λ t. t ∷ second ∷ rest) is, read, found.tells.lines);
            ascending = (low, found.tells.ascending);
            below = (high, found.tells.below);
            level = (level, found.tells.level);
            all = omega (arith, longer, found.tells.all);
          };
          history = found.history ∙ ap (λ es. record { positions = positions; events = es }) (append_assoc before (here ∷ []) found.events);
        }

    by_fall : (t : Bool) → some_falls schema queries before here ≡ t →
        and_then (at_line n (cond t (Err fault.BadEvent) (Ok (between positions count (p + 1) (before ++ here ∷ []))))) (λ next. told_on schema queries (n + 1) next rest) ≡ Ok end →
        Found schema queries positions count least before (first ∷ second ∷ rest) end
    by_fall true falls f = absurd cc
    by_fall false level f = with_rest level (onward (before ++ here ∷ []) f)

-- the line of a position alone, after which a line is missing
one_found : (schema : Declared) (queries : List Query) (n positions count least : ℕ) (before : List EventAt) (first : List ℕ) (end : ParseState) (t : Bool) (o : Option ℕ) →
    and_then (at_line n (with_stand (between positions count least before) (cond t (Err fault.Extra) (placed (between positions count least before).stand o)))) (λ next. told_on schema queries (n + 1) next []) ≡ Ok end → is_all_told end end.stand.awaited ≡ true →
    Found schema queries positions count least before (first ∷ []) end
one_found schema queries n positions count least before first end true o e whole = absurd cc
one_found schema queries n positions count least before first end false None e whole = absurd cc
one_found schema queries n positions count least before first end false (Some p) e whole = by_place (nat_le least p && nat_lt p positions) e
  where
    placed_at : ParseState
    placed_at = record { stand = record { awaited = EventOf p; positions = positions; count = count; least = p + 1 }; events = before }

    by_place : (u : Bool) → and_then (at_line n (with_stand (between positions count least before) (cond u (Ok placed_at.stand) (Err fault.BadPosition)))) (λ next. told_on schema queries (n + 1) next []) ≡ Ok end →
        Found schema queries positions count least before (first ∷ []) end
    by_place false f = absurd cc
    by_place true f =
        let same : placed_at ≡ end = one_ok placed_at end f in
        let clash : false ≡ true = ap (λ t. is_all_told t t.stand.awaited) same ∙ whole in
        absurd cc

-- the two lines of an event, and the lines after
two_found : (schema : Declared) (queries : List Query) (n positions count least : ℕ) (before : List EventAt) (first second : List ℕ) (rest : List (List ℕ)) (end : ParseState) (t : Bool) (o : Option ℕ) → position_of first ≡ o →
    and_then (at_line n (with_stand (between positions count least before) (cond t (Err fault.Extra) (placed (between positions count least before).stand o)))) (λ next. told_on schema queries (n + 1) next (second ∷ rest)) ≡ Ok end →
    ((p : ℕ) (later : List EventAt) → told_on schema queries (n + 1 + 1) (between positions count (p + 1) later) rest ≡ Ok end → Found schema queries positions count (p + 1) later rest end) →
    Found schema queries positions count least before (first ∷ second ∷ rest) end
two_found schema queries n positions count least before first second rest end true o is e onward = absurd cc
two_found schema queries n positions count least before first second rest end false None is e onward = absurd cc
two_found schema queries n positions count least before first second rest end false (Some p) is e onward = by_place (nat_le least p && nat_lt p positions) refl e
  where
    placed_at : LineState
    placed_at = record { awaited = EventOf p; positions = positions; count = count; least = p + 1 }

    by_place : (u : Bool) → (nat_le least p && nat_lt p positions) ≡ u →
        and_then (at_line n (with_stand (between positions count least before) (cond u (Ok placed_at) (Err fault.BadPosition)))) (λ next. told_on schema queries (n + 1) next (second ∷ rest)) ≡ Ok end →
        Found schema queries positions count least before (first ∷ second ∷ rest) end
    by_place false u f = absurd cc
    by_place true u f =
        let tests = and_parts (nat_le least p) (nat_lt p positions) u in
        event_found schema queries (n + 1) positions count least p before first second rest end (position_told first p is).0 (leb-true least p tests.0) (ltb-true p positions tests.1) (event_of_line schema second) refl f (onward p)

lines_found : (schema : Declared) (queries : List Query) (n positions count least : ℕ) (before : List EventAt) (texts : List (List ℕ)) (end : ParseState) → told_on schema queries n (between positions count least before) texts ≡ Ok end → is_all_told end end.stand.awaited ≡ true →
    Found schema queries positions count least before texts end
lines_found schema queries n positions count least before [] end e whole = none_found schema queries n positions count least before end e whole
lines_found schema queries n positions count least before (first ∷ []) end e whole = one_found schema queries n positions count least before first end (length before == count) (position_of first) e whole
lines_found schema queries n positions count least before (first ∷ second ∷ rest) end e whole =
    two_found schema queries n positions count least before first second rest end (length before == count) (position_of first) refl e
    (λ p later f. lines_found schema queries (n + 1 + 1) positions count (p + 1) later rest end f whole)

-- the first two lines, and the lines after
head_spelled : (schema : Declared) (queries : List Query) (first second : List ℕ) (rest : List (List ℕ)) (end : ParseState) (t : Bool) (o : Option (ℕ × ℕ)) → bytes_eq first (codes "core checkpoint 1") ≡ t → counts_of second ≡ o →
    and_then (at_line 1 (with_stand nothing (cond t (Ok (record start { awaited = Counts })) (Err fault.BadHeader))))
    (λ next. and_then (at_line 2 (with_stand next (counted next.stand o))) (λ next. told_on schema queries 3 next rest)) ≡ Ok end → is_all_told end end.stand.awaited ≡ true →
    Spells schema queries (first ∷ second ∷ rest) (history_of end)
head_spelled schema queries first second rest end false o is counts e whole = absurd cc
head_spelled schema queries first second rest end true None is counts e whole = absurd cc
head_spelled schema queries first second rest end true (Some (positions, count)) is counts e whole =
    let found = lines_found schema queries 3 positions count 0 [] rest end e whole in
    let told = counts_told second positions count counts in
    let P : History → Type 0 = Spells schema queries (first ∷ second ∷ rest) in
    let counted_is : length found.events ≡ count = omega (arith, found.tells.all) in
    subst P (sym found.history) (record {
      is = record {
        few = told.1;
        counted = omega (arith, told.2, counted_is);
        placed = record { ascending = found.tells.ascending; below = found.tells.below };
        level = found.tells.level;
      };
      later = rest;
      first = ap (λ t. t ∷ second ∷ rest) (same_bytes first (codes "core checkpoint 1") is) ∙ ap (λ t. codes "core checkpoint 1" ∷ t ∷ rest) (told.0 ∙ ap (counts_text positions) (sym counted_is));
      events = found.tells.lines;
    })

begun_whole : (n : ℕ) (end : ParseState) → (let r : Result ParseState Refusal = Ok nothing in r) ≡ Ok end → is_all_told end end.stand.awaited ≡ true → ⊥
begun_whole n end e whole =
    let clash : false ≡ true = ap (λ t. is_all_told t t.stand.awaited) (one_ok nothing end e) ∙ whole in
    absurd cc

header_whole : (schema : Declared) (queries : List Query) (end : ParseState) (t : Bool) → and_then (at_line 1 (with_stand nothing (cond t (Ok (record start { awaited = Counts })) (Err fault.BadHeader)))) (λ next. told_on schema queries 2 next []) ≡ Ok end →
    is_all_told end end.stand.awaited ≡ true → ⊥
header_whole schema queries end false e whole = absurd cc
header_whole schema queries end true e whole =
    let clash : false ≡ true = ap (λ t. is_all_told t t.stand.awaited) (one_ok (record nothing { stand = record start { awaited = Counts } }) end e) ∙ whole in
    absurd cc

whole_spelled : (schema : Declared) (queries : List Query) (texts : List (List ℕ)) (end : ParseState) → told_by schema queries texts ≡ Ok end → is_all_told end end.stand.awaited ≡ true → Spells schema queries texts (history_of end)
whole_spelled schema queries [] end e whole = absurd (begun_whole 1 end e whole)
whole_spelled schema queries (first ∷ []) end e whole = absurd (header_whole schema queries end (bytes_eq first (codes "core checkpoint 1")) e whole)
whole_spelled schema queries (first ∷ second ∷ rest) end e whole =
    head_spelled schema queries first second rest end (bytes_eq first (codes "core checkpoint 1")) (counts_of second) refl refl (head_apart schema queries second rest (bytes_eq first (codes "core checkpoint 1")) ∙ e) whole
  where
    head_apart : (schema : Declared) (queries : List Query) (second : List ℕ) (rest : List (List ℕ)) (t : Bool) →
        and_then (at_line 1 (with_stand nothing (cond t (Ok (record start { awaited = Counts })) (Err fault.BadHeader)))) (λ next. and_then (at_line 2 (with_stand next (counted next.stand (counts_of second)))) (λ next. told_on schema queries 3 next rest))
        ≡ and_then (at_line 1 (with_stand nothing (cond t (Ok (record start { awaited = Counts })) (Err fault.BadHeader)))) (λ next. told_on schema queries 2 next (second ∷ rest))
    head_apart schema queries second rest true = refl
    head_apart schema queries second rest false = refl

-- a text that is read as a history spells it
pub spelled : (schema : Declared) (queries : List Query) (file : FileLines) (history : History) → history_in schema queries file ≡ Ok history → (file.fault ≡ None) × Spells schema queries file.texts history
spelled schema queries file history e = by_told (told_by schema queries file.texts) refl e
  where
    by_fault : (told : ParseState) (f : Option LineFault) → file.fault ≡ f → told_by schema queries file.texts ≡ Ok told → at_stop (length file.texts) told f ≡ Ok history → (file.fault ≡ None) × Spells schema queries file.texts history
    by_fault told (Some (line.LineTooLong number)) is t e = absurd cc
    by_fault told (Some (line.InputTooLong taken)) is t e = absurd cc
    by_fault told (Some line.ReadFault) is t e = absurd cc
    by_fault told None is t e = by_test (is_all_told told told.stand.awaited) refl e
      where
        by_test : (w : Bool) → is_all_told told told.stand.awaited ≡ w → cond {A = Result History Refusal} w (Ok (history_of told)) (Err (record { line = length file.texts + 1; fault = fault.Short })) ≡ Ok history → (file.fault ≡ None) × Spells schema queries file.texts history
        by_test false w e = absurd cc
        by_test true w e = (is, subst (Spells schema queries file.texts) (one_ok (history_of told) history e) (whole_spelled schema queries file.texts told t w))

    by_told : (r : Result ParseState Refusal) → told_by schema queries file.texts ≡ r → and_then r (λ told. at_stop (length file.texts) told file.fault) ≡ Ok history → (file.fault ≡ None) × Spells schema queries file.texts history
    by_told (Err refusal) is e = absurd cc
    by_told (Ok told) is e = by_fault told file.fault refl is e

-- What lines of events lead to.
record Leads (schema : Declared) (queries : List Query) (n positions count least : ℕ) (before : List EventAt) (texts : List (List ℕ)) (events : List EventAt) : Type 0 where
  last : ℕ
  leads : told_on schema queries n (between positions count least before) texts ≡ Ok (between positions count last (before ++ events))

-- the lines of these events
lines_lead : (schema : Declared) (queries : List Query) (n positions count least : ℕ) (before : List EventAt) (texts : List (List ℕ)) (events : List EventAt) → positions ≤ 4611686018427387904 → Tells schema queries positions count least before texts events →
    Leads schema queries n positions count least before texts events
lines_lead schema queries n positions count least before texts [] few tells = record {
  last = least;
  leads = ap (told_on schema queries n (between positions count least before)) tells.lines ∙ ap (λ es. Ok (between positions count least es)) (sym (append-nil before));
}
lines_lead schema queries n positions count least before texts (e ∷ events) few tells =
    let second = tells.lines.0 in
    let rest = tells.lines.1 in
    let p = e.position in
    let longer : length (before ++ e ∷ []) ≡ length before + 1 = length-append before (e ∷ []) in
    let high : p < positions = tells.below.0 in
    let more : (length before == count) ≡ false = not_all (length before) count (length events) tells.all in
    let onward = lines_lead schema queries (n + 1 + 1) positions count (p + 1) (before ++ e ∷ []) rest events few (record {
      lines = tells.lines.4;
      ascending = tells.ascending.1;
      below = tells.below.1;
      level = tells.level.1;
      all = omega (arith, longer, tells.all);
    }) in
    let place : placed (between positions count least before).stand (position_of (position_text p)) ≡ Ok (record { awaited = EventOf p; positions = positions; count = count; least = p + 1 }) =
    ap (placed (between positions count least before).stand) (told_position p (omega (arith, high, few)))
    ∙ ap (λ t. cond t (Ok (record { awaited = EventOf p; positions = positions; count = count; least = p + 1 })) (Err fault.BadPosition)) (and_from (nat_le least p) (nat_lt p positions) (le-leb least p tells.ascending.0) (lt-ltb p positions high)) in
    record {
      last = onward.last;
      leads =
          ap (told_on schema queries n (between positions count least before)) tells.lines.2
          ∙ ap (λ t. and_then (at_line n (with_stand (between positions count least before) (cond t (Err fault.Extra) (placed (between positions count least before).stand (position_of (position_text p)))))) (λ next. told_on schema queries (n + 1) next (second ∷ rest))) more
          ∙ ap (λ r. and_then (at_line n (with_stand (between positions count least before) r)) (λ next. told_on schema queries (n + 1) next (second ∷ rest))) place
          ∙ ap (λ r. and_then (at_line (n + 1) (with_event schema queries (record { stand = record { awaited = EventOf p; positions = positions; count = count; least = p + 1 }; events = before }) p r)) (λ next. told_on schema queries (n + 1 + 1) next rest)) tells.lines.3
          ∙ ap (λ t. and_then (at_line (n + 1) (cond t (Err fault.BadEvent) (Ok (between positions count (p + 1) (before ++ e ∷ []))))) (λ next. told_on schema queries (n + 1 + 1) next rest)) tells.level.0
          ∙ onward.leads
          ∙ ap (λ es. Ok (between positions count onward.last es)) (append_assoc before (e ∷ []) events);
    }
  where
    not_all : (some all more : ℕ) → some + suc more ≡ all → (some == all) ≡ false
    not_all some all more e = by_test (some == all) refl
      where
        by_test : (t : Bool) → (some == all) ≡ t → t ≡ false
        by_test true same = let full : some ≡ all = eqb-true some all same in absurd (omega (arith, full, e))
        by_test false same = refl

-- a text that spells a history is read so
pub read_so : (schema : Declared) (queries : List Query) (file : FileLines) (history : History) → file.fault ≡ None → Spells schema queries file.texts history → history_in schema queries file ≡ Ok history
read_so schema queries file history ended spells =
    let positions = history.positions in
    let count = length history.events in
    let run = lines_lead schema queries 3 positions count 0 [] spells.later history.events spells.is.few (record {
      lines = spells.events;
      ascending = spells.is.placed.ascending;
      below = spells.is.placed.below;
      level = spells.is.level;
      all = omega arith;
    }) in
    let told : told_by schema queries file.texts ≡ Ok (between positions count run.last history.events) =
    ap (told_by schema queries) spells.first
    ∙ ap (λ o. and_then (at_line 2 (with_stand (record { stand = record start { awaited = Counts }; events = [] }) (counted (record start { awaited = Counts }) o))) (λ next. told_on schema queries 3 next spells.later)) (told_counts positions count spells.is.few spells.is.counted)
    ∙ run.leads in
    ap (λ r. and_then r (λ told. at_stop (length file.texts) told file.fault)) told
    ∙ ap (at_stop (length file.texts) (between positions count run.last history.events)) ended
    ∙ ap (λ t. cond {A = Result History Refusal} t (Ok history) (Err (record { line = length file.texts + 1; fault = fault.Short }))) (eq-eqb count count refl)
