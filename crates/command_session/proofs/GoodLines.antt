-- Lines that are all good, and the script of which they are the first.
use Rattle.std.proofs.Common.{◌≡◌, ℕ, ◌+◌, inl, inr, List, [], ◌∷◌, ◌++◌, length, take, drop, Option, Some, None, Result, Ok, Err, refl, sym, ◌∙◌, ap, subst, append_assoc, length-append, arith}
use Rattle.std.proofs.lemmas.Grind.{common_steps}
use Rattle.std.proofs.lemmas.List.{append-nil}
use Rattle.stream_schema.specs.Types.{Declared}
use Rattle.cel_terms.specs.declared.Query.{Query}
use Rattle.event_reader.specs.declared.EventFault.{EventFault}
use Rattle.event_reader.specs.declared.LineFault.{LineFault}
use Rattle.event_reader.specs.Lines.{FileLines, file_lines}
use Rattle.event_reader.specs.LineReaders.{LineReader, HasGiven, IsCutAt}
use Rattle.event_run.specs.Runs.{RunStop, stop_of}
use Rattle.event_run.specs.Runs as stop
use Rattle.event_run.proofs.Given.{first_given, numbered}
use Rattle.command_session.specs.declared.command.ScriptCommand.{ScriptCommand}
use Rattle.command_session.specs.SessionModel.{SessionModel, at_first, IsStep}
use Rattle.command_session.specs.Scripts.{asked_by, AfterCommand, PlaysOn, PlaysTo, AfterGoodCommand, ArePlayed, Writes, BeginsPlay, WritesRead}
use Rattle.command_session.specs.Playing.{IsGood, IsBad, HasPlayed}

-- a script over a line with this command, none or a refusal, and those after it
abbrev PlaysOver : Declared → List Query → ℕ → SessionModel → List ℕ → List (List ℕ) → Option LineFault → List ℕ → RunStop → Result (Option ScriptCommand) EventFault → Type 0
PlaysOver schema queries number old before texts why bytes halt line =
    AfterCommand schema queries number old before bytes halt (PlaysOn schema queries (number + 1) old before texts why bytes halt)
    (λ next own. PlaysOn schema queries (number + 1) next (before ++ own) texts why bytes halt) line

-- good lines, the first of which has this command or none
abbrev ArePlayedOver : Declared → List Query → SessionModel → List ℕ → List (List ℕ) → SessionModel → List ℕ → Result (Option ScriptCommand) EventFault → Type 0
ArePlayedOver schema queries old before texts new bytes line =
    AfterGoodCommand schema queries old (ArePlayed schema queries old before texts new bytes) (λ next own. ArePlayed schema queries next (before ++ own) texts new bytes) line

-- good lines, and then the script over those after them
goes_on : (schema : Declared) (queries : List Query) (number : ℕ) (old : SessionModel) (before : List ℕ) (done texts : List (List ℕ)) (why : Option LineFault) (new : SessionModel) (written bytes : List ℕ) (halt : RunStop) →
    ArePlayed schema queries old before done new written → PlaysOn schema queries (number + length done) new written texts why bytes halt → PlaysOn schema queries number old before (done ++ texts) why bytes halt
goes_on schema queries number old before [] texts why new written bytes halt good play =
    let M : SessionModel → Type 0 = λ m. PlaysOn schema queries number m before texts why bytes halt in
    let W : List ℕ → Type 0 = λ w. PlaysOn schema queries number new w texts why bytes halt in
    let N : ℕ → Type 0 = λ n. PlaysOn schema queries n new written texts why bytes halt in
    let none : number + 0 ≡ number = omega arith in
    subst M good.0 (subst W good.1 (subst N none play))
goes_on schema queries number old before (text ∷ done) texts why new written bytes halt good play =
    over (asked_by schema text) good (λ w. goes_on schema queries (number + 1) old before done texts why new written bytes halt w moved)
    (λ m own w. goes_on schema queries (number + 1) m (before ++ own) done texts why new written bytes halt w moved)
  where
    moved : PlaysOn schema queries (number + 1 + length done) new written texts why bytes halt
    moved = let Q : ℕ → Type 0 = λ n. PlaysOn schema queries n new written texts why bytes halt in
        let at : number + length (text ∷ done) ≡ number + 1 + length done = omega arith in subst Q at play

    over : (line : Result (Option ScriptCommand) EventFault) → ArePlayedOver schema queries old before done new written line →
        (ArePlayed schema queries old before done new written → PlaysOn schema queries (number + 1) old before (done ++ texts) why bytes halt) →
        ((m : SessionModel) (own : List ℕ) → ArePlayed schema queries m (before ++ own) done new written → PlaysOn schema queries (number + 1) m (before ++ own) (done ++ texts) why bytes halt) →
        PlaysOver schema queries number old before (done ++ texts) why bytes halt line
    over (Ok None) good skip go = skip good
    over (Ok (Some asked)) good skip go = inl (record { next = good.next; own = good.own; step = good.step; follows = go good.next good.own good.follows })
    over (Err refused) good skip go = absurd good

-- one good line alone
one_line : (schema : Declared) (queries : List Query) (old new : SessionModel) (before written : List ℕ) (text : List ℕ) (next : SessionModel) (own : List ℕ) → new ≡ old → written ≡ before →
    IsGood schema queries text new next own → ArePlayed schema queries old before (text ∷ []) next (written ++ own)
one_line schema queries old new before written text next own same bytes (inl none) =
    let P : Result (Option ScriptCommand) EventFault → Type 0 = ArePlayedOver schema queries old before [] next (written ++ own) in
    subst P (sym none.0) (none.1 ∙ same, ap (λ o. written ++ o) none.2 ∙ append-nil written ∙ bytes)
one_line schema queries old new before written text next own same bytes (inr some) =
    let P : Result (Option ScriptCommand) EventFault → Type 0 = ArePlayedOver schema queries old before [] next (written ++ own) in
    let S : SessionModel → Type 0 = λ m. IsStep schema queries some.0 m next own in
    subst P (sym some.1) (record { next = next; own = own; step = subst S same some.2; follows = (refl, ap (λ w. w ++ own) bytes) })

-- one good line more
pub one_more : (schema : Declared) (queries : List Query) (old : SessionModel) (before : List ℕ) (done : List (List ℕ)) (new : SessionModel) (written : List ℕ) (text : List ℕ) (next : SessionModel) (own : List ℕ) →
    IsGood schema queries text new next own → ArePlayed schema queries old before done new written → ArePlayed schema queries old before (done ++ text ∷ []) next (written ++ own)
one_more schema queries old before [] new written text next own good played = one_line schema queries old new before written text next own played.0 played.1 good
one_more schema queries old before (first ∷ done) new written text next own good played =
    over (asked_by schema first) played (one_more schema queries old before done new written text next own good)
    (λ m o. one_more schema queries m (before ++ o) done new written text next own good)
  where
    over : (line : Result (Option ScriptCommand) EventFault) → ArePlayedOver schema queries old before done new written line →
        (ArePlayed schema queries old before done new written → ArePlayed schema queries old before (done ++ text ∷ []) next (written ++ own)) →
        ((m : SessionModel) (o : List ℕ) → ArePlayed schema queries m (before ++ o) done new written → ArePlayed schema queries m (before ++ o) (done ++ text ∷ []) next (written ++ own)) →
        ArePlayedOver schema queries old before (done ++ text ∷ []) next (written ++ own) line
    over (Ok None) played skip go = skip played
    over (Ok (Some asked)) played skip go = record { next = played.next; own = played.own; step = played.step; follows = go played.next played.own played.follows }
    over (Err refused) played skip go = played

-- the whole script, from what the lines after these do
play_from : (schema : Declared) (queries : List Query) (most : ℕ) (script : List ℕ) (texts later : List (List ℕ)) (machine : SessionModel) (written bytes : List ℕ) (halt : RunStop) →
    (file_lines most script).texts ≡ texts ++ later → ArePlayed schema queries at_first [] texts machine written →
    PlaysOn schema queries (1 + length texts) machine written later (file_lines most script).fault bytes halt → PlaysTo schema queries most script bytes halt
play_from schema queries most script texts later machine written bytes halt whole good play =
    let P : List (List ℕ) → Type 0 = λ t. PlaysOn schema queries 1 at_first [] t (file_lines most script).fault bytes halt in
    subst P (sym whole) (goes_on schema queries 1 at_first [] texts later (file_lines most script).fault machine written bytes halt good play)

-- the script has no further line
pub at_end : (schema : Declared) (queries : List Query) (most : ℕ) (script : List ℕ) (texts : List (List ℕ)) (why : Option LineFault) (machine : SessionModel) (bytes : List ℕ) →
    file_lines most script ≡ record { texts = texts; fault = why } → ArePlayed schema queries at_first [] texts machine bytes → PlaysTo schema queries most script bytes (stop_of why)
at_end schema queries most script texts why machine bytes is good =
    let P : FileLines → Type 0 = λ f. PlaysOn schema queries 1 at_first [] f.texts f.fault bytes (stop_of why) in
    let all : texts ++ [] ≡ texts = append-nil texts in
    let Q : List (List ℕ) → Type 0 = λ t. PlaysOn schema queries 1 at_first [] t why bytes (stop_of why) in
    subst P (sym is) (subst Q all (goes_on schema queries 1 at_first [] texts [] why machine bytes bytes (stop_of why) good (refl, refl)))

take_drop : (n : ℕ) (texts : List (List ℕ)) → take n texts ++ drop n texts ≡ texts
take_drop n texts = grind (arith, common_steps)

-- the source failed
pub at_read_fault : (schema : Declared) (queries : List Query) (most : ℕ) (script : List ℕ) (left : Option (List ℕ)) (texts : List (List ℕ)) (machine : SessionModel) (bytes : List ℕ) →
    IsCutAt most script left texts → ArePlayed schema queries at_first [] texts machine bytes → WritesRead schema queries most script left bytes
at_read_fault schema queries most script None texts machine bytes cut good = cut
at_read_fault schema queries most script (Some rest) texts machine bytes cut good =
    let P : List (List ℕ) → Type 0 = λ t. Writes schema queries t bytes in
    let all = (file_lines most script).texts in
    record {
      read = cut.taken;
      whole = cut.whole;
      later = drop (length texts) all;
      first = sym (take_drop (length texts) all) ∙ ap (λ (t : List (List ℕ)). t ++ drop (length texts) all) (cut.first ∙ sym cut.lines);
      writes = subst P (sym cut.lines) (record { machine = machine; played = good });
    }

-- the line that was given last stops the script
pub at_line : (schema : Declared) (queries : List Query) (reader : LineReader) (script : List ℕ) (left : Option (List ℕ)) (texts : List (List ℕ)) (text : List ℕ) (machine : SessionModel) (bytes : List ℕ) (refused : EventFault) →
    HasGiven reader script left (texts ++ text ∷ []) → ArePlayed schema queries at_first [] texts machine bytes → IsBad schema queries text machine refused →
    PlaysTo schema queries reader.budget script bytes (stop.Event reader.number refused)
at_line schema queries reader script left texts text machine bytes refused given good bad =
    let at = reader.number in
    let first = first_given reader script left (texts ++ text ∷ []) given in
    let number : reader.number ≡ 1 + length texts = numbered reader script left (texts ++ text ∷ []) given ∙ (let l = length-append texts (text ∷ []) in omega (arith, l)) in
    let why = (file_lines reader.budget script).fault in
    let Over : ℕ → Result (Option ScriptCommand) EventFault → Type 0 = λ n line. PlaysOver schema queries n machine bytes first.later why bytes (stop.Event at refused) line in
    let here : Over reader.number (asked_by schema text) = elim bad [
      | inl none ↦ subst (Over reader.number) (sym none) (refl, refl)
      | inr some ↦ subst (Over reader.number) (sym some.2) (inr (refl, record { why = some.1; refused = some.3; stops = ap (λ (f : EventFault). stop.Event at f) some.4 }))
    ] in
    let There : ℕ → Type 0 = λ n. Over n (asked_by schema text) in
    play_from schema queries reader.budget script texts (text ∷ first.later) machine bytes bytes (stop.Event at refused) (first.whole ∙ append_assoc texts (text ∷ []) first.later) good (subst There number here)

-- what the lines so far write is what the first lines of the script write
pub begins : (schema : Declared) (queries : List Query) (reader : LineReader) (script : List ℕ) (left : Option (List ℕ)) (machine : SessionModel) (bytes : List ℕ) →
    HasPlayed schema queries reader script left machine bytes → BeginsPlay schema queries reader.budget script bytes
begins schema queries reader script left machine bytes had =
    let first = first_given reader script left had.texts had.given in
    record { texts = had.texts; later = first.later; first = first.whole; writes = record { machine = machine; played = had.played } }

-- nothing was written yet
pub nothing_played : (schema : Declared) (queries : List Query) (reader : LineReader) (script : List ℕ) → HasGiven reader script (Some script) [] → HasPlayed schema queries reader script (Some script) at_first []
nothing_played schema queries reader script given = record { texts = []; given = given; played = (refl, refl) }

-- a script begins with nothing
pub begins_empty : (schema : Declared) (queries : List Query) (most : ℕ) (script : List ℕ) → BeginsPlay schema queries most script []
begins_empty schema queries most script = record { texts = []; later = (file_lines most script).texts; first = refl; writes = record { machine = at_first; played = (refl, refl) } }
