-- The events of a file as a list, line after line.
use Rattle.std.proofs.Common.{◌≡◌, ℕ, ◌+◌, inl, inr, ℤ, List, [], ◌∷◌, ◌++◌, drop, add-one, Option, Some, None, Ok, Err, slice_get, refl, sym, ◌∙◌, ap, subst}
use Rattle.cer_base.specs.declared.OrMemory.{OrMemory}
use Rattle.cer_base.specs.declared.OrMemory.TheVariants.{Fault, Memory}
use Rattle.cer_base.specs.Answers.{OnFault}
use Rattle.stream_schema.specs.Types.{Declared}
use Rattle.stream_schema.specs.declared.Event.{Event}
use Rattle.cel_terms.specs.declared.Query.{Query}
use Rattle.event_reader.specs.declared.EventFault.{EventFault}
use Rattle.event_reader.specs.declared.EventFault.TheVariants as event
use Rattle.event_reader.specs.declared.LineFault.{LineFault}
use Rattle.event_reader.specs.declared.LineFault.TheVariants as line
use Rattle.event_reader.specs.Events.{event_of_line}
use Rattle.event_reader.specs.LineReaders.{LineReader, HasGiven, Follows}
use Rattle.query_engine.specs.Clocks.{NoneFallsBack}
use Rattle.query_engine.specs.Falls.{Fall, first_fall, fall_of}
use Rattle.query_engine.proofs.Fallen.{first_to_fall, none_to_fall, pass_one, hit_one}
use Rattle.event_run.specs.Runs.{RunsTo, StopsInTime}
use Rattle.event_run.specs.Runs as stop
use Rattle.event_run.specs.Taking.{HasTaken, StopsHere, run_fault}
use Rattle.event_run.specs.Listing.{StopsBy, Adds}
use Rattle.event_run.proofs.Given.{at_end, at_read_fault, at_line}
use Rattle.event_run.proofs.LineTaken.{empty_line, event_line}

-- what the first queries were passed over for
abbrev pub ArePassed : Declared → List Query → List Event → Event → ℕ → Type 0
ArePassed schema queries events next k = first_fall schema events next 1 queries ≡ first_fall schema events next (k + 1) (drop k queries)

-- one query more is passed over
pub one_passed : (schema : Declared) (queries : List Query) (events : List Event) (next : Event) (k : ℕ) (q : Query) →
    slice_get queries k ≡ Some q → fall_of schema q events next ≡ None → ArePassed schema queries events next k → ArePassed schema queries events next (k + 1)
one_passed schema queries events next k q at none passed =
    passed ∙ pass_one schema events next k queries q at none (k + 1) ∙ ap (λ n. first_fall schema events next (k + 1 + 1) (drop n queries)) (sym (add-one k))

-- the first to fall stops the run
pub one_falls : (schema : Declared) (queries : List Query) (events : List Event) (next : Event) (k : ℕ) (q : Query) (f : Fall) (number : ℕ) →
    slice_get queries k ≡ Some q → fall_of schema q events next ≡ Some f → ArePassed schema queries events next k →
    StopsInTime schema queries events next number (stop.Event number (event.TimeBack (k + 1) f.before f.now))
one_falls schema queries events next k q f number at some passed = record {
  query = k + 1;
  from = f.before;
  now = f.now;
  falls = first_to_fall schema events next queries _ (passed ∙ hit_one schema events next k queries q f at some (k + 1));
  stops = refl;
}

-- all are passed over
pub all_passed : (schema : Declared) (queries : List Query) (events : List Event) (next : Event) (k : ℕ) → drop k queries ≡ [] → ArePassed schema queries events next k → NoneFallsBack schema queries events next
all_passed schema queries events next k none passed =
    none_to_fall schema events next 1 queries (passed ∙ ap (first_fall schema events next (k + 1)) none)

-- the line that was given last is among what was taken
pub line_added : (schema : Declared) (queries : List Query) (old new : LineReader) (bytes : List ℕ) (before left : Option (List ℕ)) (events after : List Event) →
    ((texts : List (List ℕ)) → HasGiven old bytes before texts → HasGiven new bytes left (texts ++ new.text ∷ [])) → Adds schema queries new.text events after →
    HasTaken schema queries old bytes before events → HasTaken schema queries new bytes left after
line_added schema queries old new bytes before left events after gives (inl none) had =
    let P : List Event → Type 0 = HasTaken schema queries new bytes left in
    subst P (sym none.1) (empty_line [] schema queries old new bytes before left events gives none.0 had)
line_added schema queries old new bytes before left events after gives (inr some) had =
    let P : List Event → Type 0 = HasTaken schema queries new bytes left in
    subst P (sym some.2.1) (event_line [] schema queries old new bytes before left events some.0 gives some.1 some.2.0 had)

-- the line that was given last stops the run
pub line_stops : (schema : Declared) (queries : List Query) (old new : LineReader) (bytes : List ℕ) (before left : Option (List ℕ)) (events : List Event) (number : ℕ) (refusal : EventFault) → number ≡ new.number →
    ((texts : List (List ℕ)) → HasGiven old bytes before texts → HasGiven new bytes left (texts ++ new.text ∷ [])) → StopsHere schema queries new.text new.number events refusal →
    HasTaken schema queries old bytes before events → RunsTo schema queries new.budget bytes events (stop.Event number refusal)
line_stops schema queries old new bytes before left events number refusal numbered gives stops had =
    let R : ℕ → Type 0 = λ n. RunsTo schema queries new.budget bytes events (stop.Event n refusal) in
    subst R (sym numbered) (at_line [] schema queries new bytes left had.texts new.text events refusal (gives had.texts had.given) had.good stops)

-- there is no further line
pub no_further : (schema : Declared) (queries : List Query) (old new : LineReader) (bytes : List ℕ) (before left : Option (List ℕ)) (events : List Event) (fault : LineFault) →
    ((texts : List (List ℕ)) → HasGiven old bytes before texts → Follows new bytes left texts (Err fault)) →
    HasTaken schema queries old bytes before events → StopsBy schema queries new.budget bytes left (run_fault fault)
no_further schema queries old new bytes before left events line.ReadFault follows had =
    (events, at_read_fault [] schema queries new.budget bytes left had.texts events (follows had.texts had.given) had.good)
no_further schema queries old new bytes before left events (line.LineTooLong number) follows had =
    (events, at_end [] schema queries new.budget bytes had.texts (Some (line.LineTooLong number)) events (follows had.texts had.given) had.good)
no_further schema queries old new bytes before left events (line.InputTooLong most) follows had =
    (events, at_end [] schema queries new.budget bytes had.texts (Some (line.InputTooLong most)) events (follows had.texts had.given) had.good)

-- nothing was read yet
pub nothing_taken : (schema : Declared) (queries : List Query) (reader : LineReader) (bytes : List ℕ) → HasGiven reader bytes (Some bytes) [] → HasTaken schema queries reader bytes (Some bytes) []
nothing_taken schema queries reader bytes given = record { texts = []; given = given; good = refl }

-- the same of a source that has all of them left, and of no event yet
pub begun : (schema : Declared) (queries : List Query) (reader : LineReader) (bytes : List ℕ) (left : Option (List ℕ)) (events : List Event) → left ≡ Some bytes → events ≡ [] →
    HasGiven reader bytes (Some bytes) [] → HasTaken schema queries reader bytes left events
begun schema queries reader bytes left events same none given =
    let P : Option (List ℕ) → Type 0 = λ l. HasTaken schema queries reader bytes l events in
    let Q : List Event → Type 0 = λ es. HasTaken schema queries reader bytes (Some bytes) es in
    subst P (sym same) (subst Q (sym none) (nothing_taken schema queries reader bytes given))

-- what follows of a fault
pub on_fault : (T U : Type 0) {F : Type 0} (stop : OrMemory F) (P Q : F → Type 0) → ((f : F) → P f → Q f) → OnFault {T = T} (Err stop) P → OnFault {T = U} (Err stop) Q
on_fault T U (Fault f) P Q follows fact = follows f fact
on_fault T U Memory P Q follows fact = tt
