-- What a reader of lines has given of a file, and the run over the file.
use Rattle.std.proofs.Common.{◌≡◌, ℕ, ◌+◌, ◌≤◌, inl, inr, List, [], ◌∷◌, ◌++◌, length, Option, Some, None, Result, refl, sym, ◌∙◌, ap, subst, append_assoc, length-append, arith}
use Rattle.std.proofs.lemmas.List.{append-nil}
use Rattle.stream_schema.specs.Types.{Declared}
use Rattle.stream_schema.specs.declared.Event.{Event}
use Rattle.cel_terms.specs.declared.Query.{Query}
use Rattle.event_reader.specs.declared.EventFault.{EventFault}
use Rattle.event_reader.specs.declared.LineFault.{LineFault}
use Rattle.event_reader.specs.Events.{event_of_line}
use Rattle.event_reader.specs.Lines.{FileLines, file_lines, unmarked}
use Rattle.event_reader.specs.LineReaders.{LineReader, HasRead, HasGiven, IsCutAt, to_come}
use Rattle.event_run.specs.Runs.{RunStop, stop_of, StopsInTime, AfterLine, RunsOn, RunsAfter, AreEventsAfter}
use Rattle.event_run.specs.Runs as stop
use Rattle.event_run.specs.Taking.{HasTakenAfter, BeginsRunAfter, AreEventsReadAfter, StopsHere}
use Rattle.event_run.proofs.ForCallers.{some_run, goes_on}

-- The texts are the first ones of the file.
pub record AreFirstTexts (most_bytes : ℕ) (bytes : List ℕ) (texts : List (List ℕ)) : Type 0 where
  pub later : List (List ℕ)
  pub whole : (file_lines most_bytes bytes).texts ≡ texts ++ later

unmarked_front : (lines more : List (List ℕ)) → (later : List (List ℕ)) × (unmarked (lines ++ more) ≡ unmarked lines ++ later)
unmarked_front [] more = (unmarked more, refl)
unmarked_front (first ∷ lines) more = (more, refl)

unmarked_length : (lines : List (List ℕ)) → length (unmarked lines) ≡ length lines
unmarked_length [] = refl
unmarked_length (first ∷ lines) = refl

first_read : (reader : LineReader) (bytes left : List ℕ) (texts : List (List ℕ)) → HasRead reader bytes left texts → AreFirstTexts reader.budget bytes texts
first_read reader bytes left texts read =
    let front = unmarked_front read.lines (to_come reader left).texts in
    record {
      later = front.0;
      whole = ap (λ (f : FileLines). unmarked f.texts) read.rest ∙ front.1 ∙ ap (λ t. t ++ front.0) read.texts_are;
    }

pub first_given : (reader : LineReader) (bytes : List ℕ) (left : Option (List ℕ)) (texts : List (List ℕ)) → HasGiven reader bytes left texts → AreFirstTexts reader.budget bytes texts
first_given reader bytes None texts given = absurd given
first_given reader bytes (Some left) texts given = first_read reader bytes left texts given

-- the last line that was given has as its number how many were
pub numbered : (reader : LineReader) (bytes : List ℕ) (left : Option (List ℕ)) (texts : List (List ℕ)) → HasGiven reader bytes left texts → reader.number ≡ length texts
numbered reader bytes None texts given = absurd given
numbered reader bytes (Some left) texts given = sym given.counted ∙ sym (unmarked_length given.lines) ∙ ap length given.texts_are

-- what a new reader may take is no more than its budget
pub room_within : (reader : LineReader) → ((bytes : List ℕ) → HasGiven reader bytes (Some bytes) []) → reader.room ≤ reader.budget
room_within reader given = let m = (given []).measured in omega (arith, m)

-- These are the events that came before all of the file.
module _ (earlier : List Event) where
  -- the run over the file, from one over the lines after these
  run_from : (schema : Declared) (queries : List Query) (most_bytes : ℕ) (bytes : List ℕ) (texts later : List (List ℕ)) (events all : List Event) (halt : RunStop) →
      (file_lines most_bytes bytes).texts ≡ texts ++ later → AreEventsAfter schema queries earlier texts events → RunsOn schema queries (1 + length texts) events later (file_lines most_bytes bytes).fault all halt →
      RunsAfter earlier schema queries most_bytes bytes all halt
  run_from schema queries most_bytes bytes texts later events all halt whole good run =
      let P : List (List ℕ) → Type 0 = λ t. RunsOn schema queries 1 earlier t (file_lines most_bytes bytes).fault all halt in
      subst P (sym whole) (goes_on schema queries 1 earlier texts later (file_lines most_bytes bytes).fault events all halt good run)

  -- the run begins with the events that were taken
  pub begins : (schema : Declared) (queries : List Query) (reader : LineReader) (bytes : List ℕ) (left : Option (List ℕ)) (events : List Event) → HasTakenAfter earlier schema queries reader bytes left events → BeginsRunAfter earlier schema queries reader.budget bytes events
  begins schema queries reader bytes left events taken =
      let first = first_given reader bytes left taken.texts taken.given in
      let run = some_run schema queries (1 + length taken.texts) events first.later (file_lines reader.budget bytes).fault in
      record { more = run.more; stop = run.stop; runs = run_from schema queries reader.budget bytes taken.texts first.later events (events ++ run.more) run.stop first.whole taken.good run.runs }

  -- the file has no further line
  pub at_end : (schema : Declared) (queries : List Query) (most_bytes : ℕ) (bytes : List ℕ) (texts : List (List ℕ)) (fault : Option LineFault) (events : List Event) →
      file_lines most_bytes bytes ≡ record { texts = texts; fault = fault } → AreEventsAfter schema queries earlier texts events → RunsAfter earlier schema queries most_bytes bytes events (stop_of fault)
  at_end schema queries most_bytes bytes texts fault events is good =
      let P : FileLines → Type 0 = λ f. RunsOn schema queries 1 earlier f.texts f.fault events (stop_of fault) in
      let all : texts ++ [] ≡ texts = append-nil texts in
      let Q : List (List ℕ) → Type 0 = λ t. RunsOn schema queries 1 earlier t fault events (stop_of fault) in
      subst P (sym is) (subst Q all (goes_on schema queries 1 earlier texts [] fault events events (stop_of fault) good (refl, refl)))

  -- the source failed
  pub at_read_fault : (schema : Declared) (queries : List Query) (most_bytes : ℕ) (bytes : List ℕ) (left : Option (List ℕ)) (texts : List (List ℕ)) (events : List Event) →
      IsCutAt most_bytes bytes left texts → AreEventsAfter schema queries earlier texts events → AreEventsReadAfter earlier schema queries most_bytes bytes left events
  at_read_fault schema queries most_bytes bytes None texts events cut good = cut
  at_read_fault schema queries most_bytes bytes (Some rest) texts events cut good =
      record { texts = texts; cut = cut; good = good }

  -- the line that was given last stops the run
  pub at_line : (schema : Declared) (queries : List Query) (reader : LineReader) (bytes : List ℕ) (left : Option (List ℕ)) (texts : List (List ℕ)) (text : List ℕ) (events : List Event) (refusal : EventFault) →
      HasGiven reader bytes left (texts ++ text ∷ []) → AreEventsAfter schema queries earlier texts events → StopsHere schema queries text reader.number events refusal →
      RunsAfter earlier schema queries reader.budget bytes events (stop.Event reader.number refusal)
  at_line schema queries reader bytes left texts text events refusal given good stops =
      let at = reader.number in
      let first = first_given reader bytes left (texts ++ text ∷ []) given in
      let number : reader.number ≡ 1 + length texts = numbered reader bytes left (texts ++ text ∷ []) given ∙ (let l = length-append texts (text ∷ []) in omega (arith, l)) in
      let fault = (file_lines reader.budget bytes).fault in
      let After : ℕ → Result (Option Event) EventFault → Type 0 = λ n l. AfterLine schema queries n events events (stop.Event at refusal) (RunsOn schema queries (n + 1) events first.later fault events (stop.Event at refusal))
      (λ next. RunsOn schema queries (n + 1) (events ++ next ∷ []) first.later fault events (stop.Event at refusal)) l in
      let here : After reader.number (event_of_line schema text) = elim stops [
        | inl refused ↦ subst (After reader.number) (sym refused) (refl, refl)
        | inr falls ↦ subst (After reader.number) (sym falls.1) (inr (refl, falls.2))
      ] in
      let There : ℕ → Type 0 = λ n. After n (event_of_line schema text) in
      run_from schema queries reader.budget bytes texts (text ∷ first.later) events events (stop.Event at refusal) (first.whole ∙ append_assoc texts (text ∷ []) first.later) good (subst There number here)
