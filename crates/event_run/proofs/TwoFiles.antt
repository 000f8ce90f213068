-- The events of two files, one after the other.
use Rattle.std.proofs.Common.{◌≡◌, ℕ, ◌+◌, ◌-◌, inl, inr, Bool, true, false, List, [], ◌∷◌, ◌++◌, length, Option, Some, None, Result, Ok, Err, refl, sym, ◌∙◌, ap, subst, append_assoc}
use Rattle.std.specs.Prelude.{◌==◌, ◌&&◌, if◌then◌else◌, drop, nat_le, nat_eq}
use Rattle.std.specs.List.{starts_with}
use Rattle.std.proofs.lemmas.List.{append-nil}
use Rattle.cer_base.specs.declared.bytes.TheConstants.{LINE_FEED}
use Rattle.cer_base.specs.declared.limits.TheConstants.{LONGEST_LINE}
use Rattle.stream_schema.specs.Types.{Declared}
use Rattle.stream_schema.specs.declared.Event.{Event}
use Rattle.cel_terms.specs.declared.Query.{Query}
use Rattle.event_reader.specs.declared.EventFault.{EventFault}
use Rattle.event_reader.specs.declared.LineFault.{LineFault}
use Rattle.event_reader.specs.declared.LineFault.TheVariants as line
use Rattle.event_reader.specs.Events.{event_of_line}
use Rattle.event_reader.specs.Lines.{FileLines, stops, with_line, at_budget, at_end, lines_from, file_lines, unmarked, without_mark}
use Rattle.event_run.specs.Runs.{RunStop, stop_of, StopsInTime, AfterLine, RunsOn, RunsTo, RunsAfter}
use Rattle.event_run.specs.Runs as stop

-- LINES

-- the lines of a text, whatever their length and number; of the first of them these bytes were read before
abbrev plain : List ℕ → List ℕ → List (List ℕ)
plain line [] = if length line == 0 then [] else line ∷ []
plain line (byte ∷ bytes) = if byte == LINE_FEED then line ∷ plain [] bytes else plain (line ++ byte ∷ []) bytes

no_budget : (budget number : ℕ) (text : List ℕ) → (at_budget budget number text).fault ≡ None → ⊥
no_budget budget number text none = over (nat_le (length text) LONGEST_LINE) none
  where
    over : (b : Bool) → (if b then stops (Some (line.InputTooLong budget)) else stops (Some (line.LineTooLong number))).fault ≡ None → ⊥
    over true none = absurd cc
    over false none = absurd cc

line_fits : (number : ℕ) (text : List ℕ) (later : FileLines) → (with_line number text later).fault ≡ None → (later.fault ≡ None) × ((with_line number text later).texts ≡ text ∷ later.texts)
line_fits number text later none = over (nat_le (length text) LONGEST_LINE) none
  where
    over : (b : Bool) → (if b then record { texts = text ∷ later.texts; fault = later.fault } else stops (Some (line.LineTooLong number))).fault ≡ None →
        (later.fault ≡ None) × ((if b then record { texts = text ∷ later.texts; fault = later.fault } else stops (Some (line.LineTooLong number))).texts ≡ text ∷ later.texts)
    over true none = (none, refl)
    over false none = absurd cc

end_fits : (number : ℕ) (text : List ℕ) → (at_end number text).fault ≡ None → (at_end number text).texts ≡ plain text []
end_fits number text none = over (length text == 0) none
  where
    over : (b : Bool) → (if b then stops None else with_line number text (stops None)).fault ≡ None → (if b then stops None else with_line number text (stops None)).texts ≡ (if b then [] else text ∷ [])
    over true none = refl
    over false none = (line_fits number text (stops None) none).1

-- where there is no fault the texts are these
whole_lines_are : (budget number : ℕ) (text bytes : List ℕ) (room : ℕ) → (lines_from budget number text bytes room).fault ≡ None → (lines_from budget number text bytes room).texts ≡ plain text bytes
whole_lines_are budget number text [] room none = over (room == 0) none
  where
    over : (b : Bool) → (if b then at_budget budget number text else at_end number text).fault ≡ None → (if b then at_budget budget number text else at_end number text).texts ≡ plain text []
    over true none = absurd (no_budget budget number text none)
    over false none = end_fits number text none
whole_lines_are budget number text (byte ∷ bytes) room none =
    over (room == 0) (byte == LINE_FEED) none (λ h. whole_lines_are budget (number + 1) [] bytes (room - 1) h) (λ h. whole_lines_are budget number (text ++ byte ∷ []) bytes (room - 1) h)
  where
    over : (b c : Bool) → (if b then at_budget budget number text else if c then with_line number text (lines_from budget (number + 1) [] bytes (room - 1)) else lines_from budget number (text ++ byte ∷ []) bytes (room - 1)).fault ≡ None →
        ((lines_from budget (number + 1) [] bytes (room - 1)).fault ≡ None → (lines_from budget (number + 1) [] bytes (room - 1)).texts ≡ plain [] bytes) →
        ((lines_from budget number (text ++ byte ∷ []) bytes (room - 1)).fault ≡ None → (lines_from budget number (text ++ byte ∷ []) bytes (room - 1)).texts ≡ plain (text ++ byte ∷ []) bytes) →
        (if b then at_budget budget number text else if c then with_line number text (lines_from budget (number + 1) [] bytes (room - 1)) else lines_from budget number (text ++ byte ∷ []) bytes (room - 1)).texts
        ≡ (if c then text ∷ plain [] bytes else plain (text ++ byte ∷ []) bytes)
    over true c none go on = absurd (no_budget budget number text none)
    over false true none go on =
        let fits = line_fits number text (lines_from budget (number + 1) [] bytes (room - 1)) none in
        fits.1 ∙ ap (λ ts. text ∷ ts) (go fits.0)
    over false false none go on = on none

-- those of two texts, of which the first ends with a line feed
both_plain : (text front back : List ℕ) → plain text (front ++ LINE_FEED ∷ back) ≡ plain text (front ++ LINE_FEED ∷ []) ++ plain [] back
both_plain text [] back = refl
both_plain text (byte ∷ front) back = over (byte == LINE_FEED) (both_plain [] front back) (both_plain (text ++ byte ∷ []) front back)
  where
    over : (b : Bool) → plain [] (front ++ LINE_FEED ∷ back) ≡ plain [] (front ++ LINE_FEED ∷ []) ++ plain [] back → plain (text ++ byte ∷ []) (front ++ LINE_FEED ∷ back) ≡ plain (text ++ byte ∷ []) (front ++ LINE_FEED ∷ []) ++ plain [] back →
        (if b then text ∷ plain [] (front ++ LINE_FEED ∷ back) else plain (text ++ byte ∷ []) (front ++ LINE_FEED ∷ back))
        ≡ (if b then text ∷ plain [] (front ++ LINE_FEED ∷ []) else plain (text ++ byte ∷ []) (front ++ LINE_FEED ∷ [])) ++ plain [] back
    over true go on = ap (λ ts. text ∷ ts) go
    over false go on = on

some_plain : (text front : List ℕ) → (first : List ℕ) × (later : List (List ℕ)) × (plain text (front ++ LINE_FEED ∷ []) ≡ first ∷ later)
some_plain text [] = (text, [], refl)
some_plain text (byte ∷ front) = over (byte == LINE_FEED) (some_plain (text ++ byte ∷ []) front)
  where
    over : (b : Bool) → ((first : List ℕ) × (later : List (List ℕ)) × (plain (text ++ byte ∷ []) (front ++ LINE_FEED ∷ []) ≡ first ∷ later)) →
        (first : List ℕ) × (later : List (List ℕ)) × ((if b then text ∷ plain [] (front ++ LINE_FEED ∷ []) else plain (text ++ byte ∷ []) (front ++ LINE_FEED ∷ [])) ≡ first ∷ later)
    over true on = (text, plain [] (front ++ LINE_FEED ∷ []), refl)
    over false on = on

unmarked_both : (lines more : List (List ℕ)) (first : List ℕ) (later : List (List ℕ)) → lines ≡ first ∷ later → unmarked (lines ++ more) ≡ unmarked lines ++ more
unmarked_both lines more first later is = ap (λ ls. unmarked (ls ++ more)) is ∙ ap (λ ls. unmarked ls ++ more) (sym is)

-- EVENTS

-- the events of lines that are no refusal
abbrev with_event : Result (Option Event) EventFault → List Event → List Event
with_event (Ok (Some event)) later = event ∷ later
with_event (Ok None) later = later
with_event (Err refusal) later = later

abbrev events_in : Declared → List (List ℕ) → List Event
events_in schema [] = []
events_in schema (text ∷ texts) = with_event (event_of_line schema text) (events_in schema texts)

events_both : (schema : Declared) (texts more : List (List ℕ)) → events_in schema (texts ++ more) ≡ events_in schema texts ++ events_in schema more
events_both schema [] more = refl
events_both schema (text ∷ texts) more = over (event_of_line schema text) (events_both schema texts more)
  where
    over : (l : Result (Option Event) EventFault) → events_in schema (texts ++ more) ≡ events_in schema texts ++ events_in schema more → with_event l (events_in schema (texts ++ more)) ≡ with_event l (events_in schema texts) ++ events_in schema more
    over (Ok (Some event)) same = ap (λ es. event ∷ es) same
    over (Ok None) same = same
    over (Err refusal) same = same

-- a run that reaches the end has no fault of lines, and the events of all of them
runs_whole : (schema : Declared) (queries : List Query) (number : ℕ) (before : List Event) (texts : List (List ℕ)) (fault : Option LineFault) (events : List Event) → RunsOn schema queries number before texts fault events stop.End →
    (stop_of fault ≡ stop.End) × (events ≡ before ++ events_in schema texts)
runs_whole schema queries number before [] fault events run = (sym run.1, run.0 ∙ sym (append-nil before))
runs_whole schema queries number before (text ∷ texts) fault events run =
    over (event_of_line schema text) run (runs_whole schema queries (number + 1) before texts fault events) (λ e. runs_whole schema queries (number + 1) (before ++ e ∷ []) texts fault events)
  where
    over : (l : Result (Option Event) EventFault) →
        AfterLine schema queries number before events stop.End (RunsOn schema queries (number + 1) before texts fault events stop.End) (λ next. RunsOn schema queries (number + 1) (before ++ next ∷ []) texts fault events stop.End) l →
        (RunsOn schema queries (number + 1) before texts fault events stop.End → (stop_of fault ≡ stop.End) × (events ≡ before ++ events_in schema texts)) →
        ((e : Event) → RunsOn schema queries (number + 1) (before ++ e ∷ []) texts fault events stop.End → (stop_of fault ≡ stop.End) × (events ≡ (before ++ e ∷ []) ++ events_in schema texts)) →
        (stop_of fault ≡ stop.End) × (events ≡ before ++ with_event l (events_in schema texts))
    over (Ok None) run skip go = skip run
    over (Ok (Some next)) (inl a) skip go = let r = go next a.1 in (r.0, r.1 ∙ append_assoc before (next ∷ []) (events_in schema texts))
    over (Ok (Some next)) (inr a) skip go = absurd (let s = a.1.stops in cc)
    over (Err refusal) run skip go = absurd (let s = run.1 in cc)

-- lines whose reading does not fail have no fault, where a run over them reaches the end
none_at_end : (fault : Option LineFault) → (fault ≡ Some line.ReadFault → ⊥) → stop_of fault ≡ stop.End → fault ≡ None
none_at_end None never is = refl
none_at_end (Some (line.LineTooLong number)) never is = absurd cc
none_at_end (Some (line.InputTooLong taken)) never is = absurd cc
none_at_end (Some line.ReadFault) never is = absurd (never refl)

-- no text has a fault of reading
at_budget_reads : (budget number : ℕ) (text : List ℕ) → (at_budget budget number text).fault ≡ Some line.ReadFault → ⊥
at_budget_reads budget number text is = over (nat_le (length text) LONGEST_LINE) is
  where
    over : (b : Bool) → (if b then stops (Some (line.InputTooLong budget)) else stops (Some (line.LineTooLong number))).fault ≡ Some line.ReadFault → ⊥
    over true is = absurd cc
    over false is = absurd cc

line_reads : (number : ℕ) (text : List ℕ) (later : FileLines) → (later.fault ≡ Some line.ReadFault → ⊥) → (with_line number text later).fault ≡ Some line.ReadFault → ⊥
line_reads number text later reads is = over (nat_le (length text) LONGEST_LINE) is
  where
    over : (b : Bool) → (if b then record { texts = text ∷ later.texts; fault = later.fault } else stops (Some (line.LineTooLong number))).fault ≡ Some line.ReadFault → ⊥
    over true is = reads is
    over false is = absurd cc

none_reads : (stops None).fault ≡ Some line.ReadFault → ⊥
none_reads is = absurd cc

lines_read : (budget number : ℕ) (text bytes : List ℕ) (room : ℕ) → (lines_from budget number text bytes room).fault ≡ Some line.ReadFault → ⊥
lines_read budget number text [] room is = over (room == 0) is
  where
    ends : (b : Bool) → (if b then stops None else with_line number text (stops None)).fault ≡ Some line.ReadFault → ⊥
    ends true is = none_reads is
    ends false is = line_reads number text (stops None) none_reads is

    over : (b : Bool) → (if b then at_budget budget number text else at_end number text).fault ≡ Some line.ReadFault → ⊥
    over true is = at_budget_reads budget number text is
    over false is = ends (length text == 0) is
lines_read budget number text (byte ∷ bytes) room is =
    over (room == 0) (byte == LINE_FEED) is (lines_read budget (number + 1) [] bytes (room - 1)) (lines_read budget number (text ++ byte ∷ []) bytes (room - 1))
  where
    over : (b c : Bool) → (if b then at_budget budget number text else if c then with_line number text (lines_from budget (number + 1) [] bytes (room - 1)) else lines_from budget number (text ++ byte ∷ []) bytes (room - 1)).fault ≡ Some line.ReadFault →
        ((lines_from budget (number + 1) [] bytes (room - 1)).fault ≡ Some line.ReadFault → ⊥) → ((lines_from budget number (text ++ byte ∷ []) bytes (room - 1)).fault ≡ Some line.ReadFault → ⊥) → ⊥
    over true c is go on = at_budget_reads budget number text is
    over false true is go on = line_reads number text (lines_from budget (number + 1) [] bytes (room - 1)) go is
    over false false is go on = on is

-- the events of a file that is run to its end
events_of_file : (schema : Declared) (queries : List Query) (most_bytes : ℕ) (before : List Event) (bytes : List ℕ) (events : List Event) → RunsAfter before schema queries most_bytes bytes events stop.End →
    events ≡ before ++ events_in schema (unmarked (plain [] bytes))
events_of_file schema queries most_bytes before bytes events run =
    let whole = runs_whole schema queries 1 before (file_lines most_bytes bytes).texts (file_lines most_bytes bytes).fault events run in
    let none = none_at_end (file_lines most_bytes bytes).fault (lines_read most_bytes 1 [] bytes most_bytes) whole.0 in
    whole.1 ∙ ap (λ ts. before ++ events_in schema (unmarked ts)) (whole_lines_are most_bytes 1 [] bytes most_bytes none)

-- The first line of a text without a byte order mark has none.
starts_on : (xs more bom : List ℕ) → starts_with nat_eq xs bom ≡ true → starts_with nat_eq (xs ++ more) bom ≡ true
starts_on xs more [] is = refl
starts_on [] more (b ∷ bom) is = absurd cc
starts_on (x ∷ xs) more (b ∷ bom) is = over (nat_eq b x) is (starts_on xs more bom)
  where
    over : (t : Bool) → (t && starts_with nat_eq xs bom) ≡ true → (starts_with nat_eq xs bom ≡ true → starts_with nat_eq (xs ++ more) bom ≡ true) → (t && starts_with nat_eq (xs ++ more) bom) ≡ true
    over true is go = go is
    over false is go = is

begins_with : (text bytes first : List ℕ) (later : List (List ℕ)) → plain text bytes ≡ first ∷ later → (rest : List ℕ) × (text ++ bytes ≡ first ++ rest)
begins_with text [] first later is = over (length text == 0) is
  where
    over : (b : Bool) → (if b then [] else text ∷ []) ≡ first ∷ later → (rest : List ℕ) × (text ++ [] ≡ first ++ rest)
    over true is = absurd cc
    over false is = let same : text ≡ first = cc in ([], ap (λ t. t ++ []) same)
begins_with text (byte ∷ bytes) first later is = over (byte == LINE_FEED) is (begins_with (text ++ byte ∷ []) bytes first later)
  where
    over : (b : Bool) → (if b then text ∷ plain [] bytes else plain (text ++ byte ∷ []) bytes) ≡ first ∷ later →
        (plain (text ++ byte ∷ []) bytes ≡ first ∷ later → (rest : List ℕ) × ((text ++ byte ∷ []) ++ bytes ≡ first ++ rest)) → (rest : List ℕ) × (text ++ byte ∷ bytes ≡ first ++ rest)
    over true is on = let same : text ≡ first = cc in (byte ∷ bytes, ap (λ t. t ++ byte ∷ bytes) same)
    over false is on = let r = on is in (r.0, sym (append_assoc text (byte ∷ []) bytes) ∙ r.1)

no_mark : (bytes : List ℕ) → starts_with nat_eq bytes (239 ∷ 187 ∷ 191 ∷ []) ≡ false → unmarked (plain [] bytes) ≡ plain [] bytes
no_mark bytes none = by_lines (plain [] bytes) refl
  where
    first_is : (first : List ℕ) (b : Bool) → starts_with nat_eq first (239 ∷ 187 ∷ 191 ∷ []) ≡ b → (b ≡ true → ⊥) → without_mark first ≡ first
    first_is first true is never = absurd (never refl)
    first_is first false is never = ap (λ b. if b then drop 3 first else first) is

    by_lines : (lines : List (List ℕ)) → plain [] bytes ≡ lines → unmarked lines ≡ lines
    by_lines [] is = refl
    by_lines (first ∷ later) is =
        let there = begins_with [] bytes first later is in
        ap (λ f. f ∷ later) (first_is first (starts_with nat_eq first (239 ∷ 187 ∷ 191 ∷ [])) refl (λ marked. (
        let more = starts_on first there.0 (239 ∷ 187 ∷ 191 ∷ []) marked in
        let both : starts_with nat_eq bytes (239 ∷ 187 ∷ 191 ∷ []) ≡ true = ap (λ bs. starts_with nat_eq bs (239 ∷ 187 ∷ 191 ∷ [])) there.1 ∙ more in
        let clash = sym none ∙ both in absurd cc
        )))

-- The events of two files, of which the first ends with a line feed, are those of the first and then those of the second.
pub two_files : (schema : Declared) (queries : List Query) (most least greatest : ℕ) (front second : List ℕ) (first before behind all : List Event) → starts_with nat_eq second (239 ∷ 187 ∷ 191 ∷ []) ≡ false →
    RunsTo schema queries most (front ++ LINE_FEED ∷ []) first stop.End → RunsAfter before schema queries least second behind stop.End → RunsTo schema queries greatest (front ++ LINE_FEED ∷ second) all stop.End →
    (more : List Event) × (behind ≡ before ++ more) × (all ≡ first ++ more)
two_files schema queries most least greatest front second first before behind all none one two both =
    let f = events_of_file schema queries most [] (front ++ LINE_FEED ∷ []) first one in
    let b = events_of_file schema queries least before second behind two in
    let w = events_of_file schema queries greatest [] (front ++ LINE_FEED ∷ second) all both in
    let s = some_plain [] front in
    let lines = plain [] (front ++ LINE_FEED ∷ []) in
    let parts : unmarked (plain [] (front ++ LINE_FEED ∷ second)) ≡ unmarked lines ++ plain [] second = ap unmarked (both_plain [] front second) ∙ unmarked_both lines (plain [] second) s.0 s.1 s.2 in (
      events_in schema (plain [] second),
      b ∙ ap (λ ts. before ++ events_in schema ts) (no_mark second none),
      w ∙ ap (events_in schema) parts ∙ events_both schema (unmarked lines) (plain [] second) ∙ ap (λ es. es ++ events_in schema (plain [] second)) (sym f),
    )
