-- Along the events that queries take of a file no clock falls.
use Rattle.std.proofs.Common.{◌≡◌, ℕ, ◌+◌, inl, inr, List, [], ◌∷◌, ◌++◌, refl, sym, subst, All, Option, Some, None, Result, Ok, Err, slice_get, slice_index_or, ◌∙◌}
use Rattle.std.proofs.lemmas.List.Elements.{All-nil, All-push}
use Rattle.std.proofs.lemmas.Option.{slice_get-get_or, slice_get_within}
use Rattle.stream_schema.specs.Types.{Declared, IsWellDeclared}
use Rattle.stream_schema.specs.Events.{IsOfSchema}
use Rattle.stream_schema.specs.declared.Event.{Event}
use Rattle.cel_terms.specs.declared.Query.{Query}
use Rattle.cel_terms.specs.Checked.{IsChecked}
use Rattle.event_reader.specs.declared.EventFault.{EventFault}
use Rattle.event_reader.specs.declared.LineFault.{LineFault}
use Rattle.event_reader.specs.Events.{event_of_line}
use Rattle.event_reader.specs.Lines.{file_lines}
use Rattle.event_reader.proofs.OfSchema.{read_is}
use Rattle.query_engine.specs.Clocks.{NeverFalls, NoneFallsBack}
use Rattle.event_run.specs.Runs.{RunStop, AfterLine, RunsOn, RunsTo}
use Rattle.checkpoint_text.proofs.NeverFalling.{IsLevel, none_level, grown_level}

at_place : {A : Type 0} (P : A → Type 0) (xs : List A) (k : ℕ) (x : A) → All P xs → slice_get xs k ≡ Some x → P x
at_place P xs k x all at =
    let inside = slice_get_within xs k x at in
    let is : slice_index_or xs k x ≡ x = (let both = sym (slice_get-get_or xs k x inside) ∙ at in cc) in
    subst P is (all k x inside)

-- The events are of the schema, and along them no query's clock falls.
record AreLevel (schema : Declared) (queries : List Query) (events : List Event) : Type 0 where
  of : All (IsOfSchema schema) events
  level : (k : ℕ) (q : Query) → slice_get queries k ≡ Some q → IsLevel schema q events

none_are : (schema : Declared) (queries : List Query) → AreLevel schema queries []
none_are schema queries = record { of = All-nil (IsOfSchema schema); level = λ k q at. none_level schema q }

one_more : (schema : Declared) (queries : List Query) (events : List Event) (next : Event) → IsWellDeclared schema → All (IsChecked schema) queries → AreLevel schema queries events → IsOfSchema schema next → NoneFallsBack schema queries events next →
    AreLevel schema queries (events ++ next ∷ [])
one_more schema queries events next well checked are of none = record {
  of = All-push (IsOfSchema schema) events next are.of of;
  level = λ k q at. grown_level schema q events next (are.level k q at) well (at_place (IsChecked schema) queries k q checked at) of (λ before now falls. none k q before now at falls);
}

lines_level : (schema : Declared) (queries : List Query) → IsWellDeclared schema → All (IsChecked schema) queries → (number : ℕ) (before : List Event) (texts : List (List ℕ)) (fault : Option LineFault) (events : List Event) (stop : RunStop) →
    AreLevel schema queries before → RunsOn schema queries number before texts fault events stop → AreLevel schema queries events
lines_level schema queries well checked number before [] fault events stop are run = subst (AreLevel schema queries) (sym run.0) are
lines_level schema queries well checked number before (text ∷ texts) fault events stop are run =
    over (event_of_line schema text) refl run (λ r. lines_level schema queries well checked (number + 1) before texts fault events stop are r)
    (λ next more r. lines_level schema queries well checked (number + 1) (before ++ next ∷ []) texts fault events stop more r)
  where
    over : (line : Result (Option Event) EventFault) → event_of_line schema text ≡ line →
        AfterLine schema queries number before events stop (RunsOn schema queries (number + 1) before texts fault events stop) (λ next. RunsOn schema queries (number + 1) (before ++ next ∷ []) texts fault events stop) line →
        (RunsOn schema queries (number + 1) before texts fault events stop → AreLevel schema queries events) →
        ((next : Event) → AreLevel schema queries (before ++ next ∷ []) → RunsOn schema queries (number + 1) (before ++ next ∷ []) texts fault events stop → AreLevel schema queries events) →
        AreLevel schema queries events
    over (Ok None) is after skip take = skip after
    over (Ok (Some next)) is (inl after) skip take = take next (one_more schema queries before next well checked are (read_is schema text (Ok (Some next)) is) after.0) after.1
    over (Ok (Some next)) is (inr stops) skip take = subst (AreLevel schema queries) (sym stops.0) are
    over (Err refusal) is after skip take = subst (AreLevel schema queries) (sym after.0) are

pub runs_never_fall : (schema : Declared) (queries : List Query) (most_bytes : ℕ) (bytes : List ℕ) (events : List Event) (stop : RunStop) → IsWellDeclared schema → All (IsChecked schema) queries → RunsTo schema queries most_bytes bytes events stop →
    All (IsOfSchema schema) events × All (λ q. NeverFalls schema q events) queries
runs_never_fall schema queries most_bytes bytes events stop well checked run =
    let are = lines_level schema queries well checked 1 [] (file_lines most_bytes bytes).texts (file_lines most_bytes bytes).fault events stop (none_are schema queries) run in
    (are.of, λ k d inside. (are.level k _ (slice_get-get_or queries k d inside)).never)
