-- One turn of reading: what its line adds to what was taken.
use Rattle.std.proofs.Common.{◌≡◌, ℕ, List, [], ◌∷◌, ◌++◌, Option, Some, None, Ok, Err, sym, subst}
use Rattle.cer_base.specs.declared.OrMemory.TheVariants.{Fault}
use Rattle.stream_schema.specs.Types.{Declared}
use Rattle.stream_schema.specs.declared.Event.{Event}
use Rattle.cel_terms.specs.declared.Query.{Query}
use Rattle.event_reader.specs.declared.EventFault.{EventFault}
use Rattle.event_reader.specs.declared.LineFault.{LineFault}
use Rattle.event_reader.specs.declared.LineFault.TheVariants as line
use Rattle.event_reader.specs.Events.{event_of_line}
use Rattle.event_reader.specs.LineReaders.{LineReader, HasGiven, Follows}
use Rattle.query_engine.specs.Clocks.{NoneFallsBack}
use Rattle.query_engine.specs.Engine.{EngineState, StandsFor}
use Rattle.event_run.specs.Runs.{RunsAfter}
use Rattle.event_run.specs.Runs as stop
use Rattle.event_run.specs.Taking.{HasTakenAfter, AfterCall, BeginsRunAfter, StopsHere, run_fault}
use Rattle.event_run.proofs.ForCallers.{one_empty, one_event}
use Rattle.event_run.proofs.Given.{begins, at_end, at_read_fault, at_line}

-- These are the events that came before all of the file.
module _ (earlier : List Event) where
  -- the line that was given last is no event
  pub empty_line : (schema : Declared) (queries : List Query) (old new : LineReader) (bytes : List ℕ) (before left : Option (List ℕ)) (events : List Event) →
      ((texts : List (List ℕ)) → HasGiven old bytes before texts → HasGiven new bytes left (texts ++ new.text ∷ [])) → event_of_line schema new.text ≡ Ok None →
      HasTakenAfter earlier schema queries old bytes before events → HasTakenAfter earlier schema queries new bytes left events
  empty_line schema queries old new bytes before left events gives is had = record {
    texts = had.texts ++ new.text ∷ [];
    given = gives had.texts had.given;
    good = one_empty schema queries earlier had.texts events new.text is had.good;
  }

  -- it is an event, with which no clock falls
  pub event_line : (schema : Declared) (queries : List Query) (old new : LineReader) (bytes : List ℕ) (before left : Option (List ℕ)) (events : List Event) (next : Event) →
      ((texts : List (List ℕ)) → HasGiven old bytes before texts → HasGiven new bytes left (texts ++ new.text ∷ [])) → event_of_line schema new.text ≡ Ok (Some next) → NoneFallsBack schema queries events next →
      HasTakenAfter earlier schema queries old bytes before events → HasTakenAfter earlier schema queries new bytes left (events ++ next ∷ [])
  event_line schema queries old new bytes before left events next gives is none had = record {
    texts = had.texts ++ new.text ∷ [];
    given = gives had.texts had.given;
    good = one_event schema queries earlier had.texts events new.text next is none had.good;
  }

  -- the run begins with what was taken before the line was given
  pub begins_before : (schema : Declared) (queries : List Query) (old new : LineReader) (bytes : List ℕ) (before left : Option (List ℕ)) (events : List Event) →
      new.budget ≡ old.budget → HasTakenAfter earlier schema queries old bytes before events → BeginsRunAfter earlier schema queries new.budget bytes events
  begins_before schema queries old new bytes before left events same had =
      let P : ℕ → Type 0 = λ n. BeginsRunAfter earlier schema queries n bytes events in
      subst P (sym same) (begins earlier schema queries old bytes before events had)

  -- there is no further line
  pub no_line : (schema : Declared) (queries : List Query) (old new : LineReader) (first engine : EngineState) (before left : Option (List ℕ)) (Had : List ℕ → Type 0) (events : List Event) (fault : LineFault) →
      ((bytes : List ℕ) (texts : List (List ℕ)) → HasGiven old bytes before texts → Follows new bytes left texts (Err fault)) →
      ((bytes : List ℕ) → Had bytes → HasTakenAfter earlier schema queries old bytes before events) →
      StandsFor engine events → AfterCall earlier schema queries new first engine Had left events (Err (Fault (run_fault fault)))
  no_line schema queries old new first engine before left Had events line.ReadFault follows had stands =
      (stands, λ bytes h. let t = had bytes h in at_read_fault earlier schema queries new.budget bytes left t.texts events (follows bytes t.texts t.given) t.good)
  no_line schema queries old new first engine before left Had events (line.LineTooLong number) follows had stands =
      (stands, λ bytes h. let t = had bytes h in at_end earlier schema queries new.budget bytes t.texts (Some (line.LineTooLong number)) events (follows bytes t.texts t.given) t.good)
  no_line schema queries old new first engine before left Had events (line.InputTooLong most) follows had stands =
      (stands, λ bytes h. let t = had bytes h in at_end earlier schema queries new.budget bytes t.texts (Some (line.InputTooLong most)) events (follows bytes t.texts t.given) t.good)

  -- the same where the engine's schema and queries have another name
  pub taken_empty : (schema now : Declared) (queries : List Query) (old new : LineReader) (bytes : List ℕ) (before left : Option (List ℕ)) (events : List Event) → now ≡ schema →
      ((texts : List (List ℕ)) → HasGiven old bytes before texts → HasGiven new bytes left (texts ++ new.text ∷ [])) → event_of_line now new.text ≡ Ok None →
      HasTakenAfter earlier schema queries old bytes before events → HasTakenAfter earlier schema queries new bytes left events
  taken_empty schema now queries old new bytes before left events same gives is had =
      empty_line schema queries old new bytes before left events gives (subst (λ s. event_of_line s new.text ≡ Ok None) same is) had

  pub taken_event : (schema now : Declared) (queries asked : List Query) (old new : LineReader) (bytes : List ℕ) (before left : Option (List ℕ)) (events : List Event) (next : Event) → now ≡ schema → asked ≡ queries →
      ((texts : List (List ℕ)) → HasGiven old bytes before texts → HasGiven new bytes left (texts ++ new.text ∷ [])) → event_of_line now new.text ≡ Ok (Some next) → NoneFallsBack now asked events next →
      HasTakenAfter earlier schema queries old bytes before events → HasTakenAfter earlier schema queries new bytes left (events ++ next ∷ [])
  taken_event schema now queries asked old new bytes before left events next same alike gives is none had =
      let N : Declared → Type 0 = λ s. NoneFallsBack s asked events next in
      let Q : List Query → Type 0 = λ qs. NoneFallsBack schema qs events next in
      event_line schema queries old new bytes before left events next gives (subst (λ s. event_of_line s new.text ≡ Ok (Some next)) same is) (subst Q alike (subst N same none)) had

  pub stopped_line : (schema now : Declared) (queries asked : List Query) (old new : LineReader) (bytes : List ℕ) (before left : Option (List ℕ)) (events : List Event) (number : ℕ) (refusal : EventFault) → now ≡ schema → asked ≡ queries →
      number ≡ new.number → ((texts : List (List ℕ)) → HasGiven old bytes before texts → HasGiven new bytes left (texts ++ new.text ∷ [])) → StopsHere now asked new.text new.number events refusal →
      HasTakenAfter earlier schema queries old bytes before events → RunsAfter earlier schema queries new.budget bytes events (stop.Event number refusal)
  stopped_line schema now queries asked old new bytes before left events number refusal same alike numbered gives stops had =
      let S : Declared → Type 0 = λ s. StopsHere s asked new.text new.number events refusal in
      let Q : List Query → Type 0 = λ qs. StopsHere schema qs new.text new.number events refusal in
      let R : ℕ → Type 0 = λ n. RunsAfter earlier schema queries new.budget bytes events (stop.Event n refusal) in
      subst R (sym numbered) (at_line earlier schema queries new bytes left had.texts new.text events refusal (gives had.texts had.given) had.good (subst Q alike (subst S same stops)))
