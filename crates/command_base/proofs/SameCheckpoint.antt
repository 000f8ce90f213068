-- What a checkpoint tells is one thing for queries that say the same.
use Rattle.std.proofs.Common.{◌≡◌, ℕ, ◌+◌, Bool, ◌||◌, ◌==◌, cond, List, [], ◌∷◌, ◌++◌, map, length, Option, Some, None, Result, Ok, Err, refl, ◌∙◌, ap, ap₂, fold}
use Rattle.std.specs.List.{list_any}
use Rattle.stream_schema.specs.Types.{Declared}
use Rattle.stream_schema.specs.declared.Event.{Event}
use Rattle.cel_terms.specs.declared.Name.{Name}
use Rattle.cel_terms.specs.declared.Query.{Query}
use Rattle.cel_terms.specs.declared.Window.{Window}
use Rattle.cel_terms.specs.Answers.{query_types}
use Rattle.ceql_parser.specs.QueryTrees.{QueryTree, query_tree}
use Rattle.window_clock.specs.Clocks.{clock_of}
use Rattle.event_reader.specs.declared.EventFault.{EventFault}
use Rattle.event_reader.specs.Events.{event_of_line, and_then}
use Rattle.event_reader.specs.Lines.{file_lines}
use Rattle.checkpoint_text.specs.declared.CheckpointFault.{CheckpointFault}
use Rattle.checkpoint_text.specs.declared.CheckpointFault.TheVariants as fault
use Rattle.checkpoint_text.specs.declared.stand.NextLine.{NextLine}
use Rattle.checkpoint_text.specs.declared.stand.NextLine.TheVariants.{Header, Counts, Position, EventOf}
use Rattle.checkpoint_text.specs.declared.history.EventAt.{EventAt}
use Rattle.cer_base.specs.declared.limits.TheConstants.{MOST_BYTES}
use Rattle.checkpoint_text.specs.QueryClocks.{later_clock, is_back, falls_with, some_falls}
use Rattle.checkpoint_text.specs.Checkpoints.{ParseState, Refusal, nothing, with_event, after_text, after_line, at_line, told_on, at_stop, checkpoint_of}

-- whether a clock falls, from the streams that a query reads and from its window
abbrev reads_of : Declared → List Name → EventAt → Bool
reads_of schema streams e = list_any (λ ty. ty == e.event.ty) (query_types schema streams)

abbrev falls_by : Declared → List EventAt → EventAt → List Name → Window → Bool
falls_by schema events e streams window =
    is_back (fold (λ last x. later_clock last (cond (reads_of schema streams x) (clock_of schema window x.event x.position) None)) None events)
    (cond (reads_of schema streams e) (clock_of schema window e.event e.position) None)

falls_alike : (schema : Declared) (events : List EventAt) (e : EventAt) (p q : Query) → query_tree p ≡ query_tree q → falls_with schema events e p ≡ falls_with schema events e q
falls_alike schema events e p q same = ap (λ (t : QueryTree). falls_by schema events e t.streams t.window) same

some_alike : (schema : Declared) (events : List EventAt) (e : EventAt) (ps qs : List Query) → map query_tree ps ≡ map query_tree qs → some_falls schema ps events e ≡ some_falls schema qs events e
some_alike schema events e [] [] same = refl
some_alike schema events e [] (q ∷ qs) same = absurd cc
some_alike schema events e (p ∷ ps) [] same = absurd cc
some_alike schema events e (p ∷ ps) (q ∷ qs) same =
    let tree : query_tree p ≡ query_tree q = cc in
    let rest : map query_tree ps ≡ map query_tree qs = cc in
    ap₂ (λ a b. a || b) (falls_alike schema events e p q tree) (some_alike schema events e ps qs rest)

module _ (schema : Declared) (ps qs : List Query) (same : map query_tree ps ≡ map query_tree qs) where
  event_alike : (told : ParseState) (n : ℕ) (read : Result (Option Event) EventFault) → with_event schema ps told n read ≡ with_event schema qs told n read
  event_alike told n (Ok (Some event)) =
      let e : EventAt = record { position = n; event = event } in
      ap (λ (b : Bool). cond {A = Result ParseState CheckpointFault} b (Err fault.BadEvent) (Ok (record { stand = record told.stand { awaited = Position }; events = told.events ++ e ∷ [] }))) (some_alike schema told.events e ps qs same)
  event_alike told n (Ok None) = refl
  event_alike told n (Err refusal) = refl

  text_alike : (told : ParseState) (awaited : NextLine) (text : List ℕ) → after_text schema ps told awaited text ≡ after_text schema qs told awaited text
  text_alike told Header text = refl
  text_alike told Counts text = refl
  text_alike told Position text = refl
  text_alike told (EventOf n) text = event_alike told n (event_of_line schema text)

  lines_alike : (number : ℕ) (told : ParseState) (texts : List (List ℕ)) → told_on schema ps number told texts ≡ told_on schema qs number told texts
  lines_alike number told [] = refl
  lines_alike number told (text ∷ texts) =
      ap (λ (r : Result ParseState CheckpointFault). and_then (at_line number r) (λ more. told_on schema ps (number + 1) more texts)) (text_alike told told.stand.awaited text)
      ∙ go (after_line schema qs told text) (λ more. lines_alike (number + 1) more texts)
    where
      go : (r : Result ParseState CheckpointFault) → ((more : ParseState) → told_on schema ps (number + 1) more texts ≡ told_on schema qs (number + 1) more texts) →
          and_then (at_line number r) (λ more. told_on schema ps (number + 1) more texts) ≡ and_then (at_line number r) (λ more. told_on schema qs (number + 1) more texts)
      go (Ok more) on = on more
      go (Err f) on = refl

  pub checkpoint_alike : (kept : List ℕ) → checkpoint_of schema ps kept ≡ checkpoint_of schema qs kept
  checkpoint_alike kept =
      let file = file_lines MOST_BYTES kept in
      ap (λ (r : Result ParseState Refusal). and_then r (λ told. at_stop (length file.texts) told file.fault)) (lines_alike 1 nothing file.texts)
