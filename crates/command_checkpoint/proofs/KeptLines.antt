-- What is kept of the lines that were given, with one line more.
use Rattle.std.proofs.Common.{◌≡◌, ℕ, ◌+◌, ◌≤◌, inl, inr, List, [], ◌∷◌, ◌++◌, length, All, Option, Some, None, Ok, Err, refl, sym, ◌∙◌, ap, ap₂, subst, length-append, arith}
use Rattle.std.specs.Str.Lines.{strip_carriage_return}
use Rattle.std.proofs.lemmas.Grind.{flat_map-append}
use Rattle.std.proofs.lemmas.List.{append-nil}
use Rattle.cer_base.specs.declared.OrMemory.{OrMemory}
use Rattle.cer_base.specs.declared.OrMemory.TheVariants.{Fault, Memory}
use Rattle.cer_base.specs.Answers.{OnFault}
use Rattle.stream_schema.specs.Types.{Declared, IsWellDeclared}
use Rattle.stream_schema.specs.declared.Event.{Event}
use Rattle.cel_terms.specs.declared.Query.{Query}
use Rattle.cel_terms.specs.Checked.{IsChecked}
use Rattle.event_reader.specs.declared.EventFault.{EventFault}
use Rattle.event_reader.specs.declared.LineFault.{LineFault}
use Rattle.event_reader.specs.declared.LineFault.TheVariants as line
use Rattle.event_reader.specs.Events.{event_of_line}
use Rattle.event_reader.specs.Lines.{FileLines, file_lines}
use Rattle.event_reader.specs.LineReaders.{LineReader, HasRead, HasGiven, Follows}
use Rattle.event_run.specs.declared.RunFault.{RunFault}
use Rattle.event_run.specs.declared.RunFault.TheVariants as run
use Rattle.event_run.specs.Runs.{RunsTo, StopsInTime, AreEventsOf}
use Rattle.event_run.specs.Runs as stop
use Rattle.event_run.specs.Taking.{StopsHere, run_fault}
use Rattle.event_run.specs.Listing.{StopsBy}
use Rattle.event_run.proofs.ForCallers.{one_empty, one_event}
use Rattle.event_run.proofs.Given.{at_end, at_read_fault, at_line}
use Rattle.checkpoint_text.specs.declared.clocks.Fall.{Fall}
use Rattle.checkpoint_text.specs.Keeping.{Keeper, with_event, checkpoint_text}
use Rattle.checkpoint_text.specs.KeepLaws.{empty_keeper, KeepersKeep}
use Rattle.checkpoint_text.specs.Streams.{stream_of}
use Rattle.checkpoint_text.proofs.CameKeepers.{Keeps, none_kept, one_kept, one_level, one_falls, stream_more, all_of_schema}
use Rattle.stream_answers.specs.Gathering.{stream_fault}
use Rattle.stream_answers.specs.Streams.{EventsRequest}
use Rattle.command_checkpoint.specs.Saved.{came_of, came_in, IsCheckpointOf, WroteCheckpoint}
use Rattle.command_checkpoint.specs.Lines.{AddsLine, StopsLine, HasKept, HasKeptAll}

-- the events with one line more
came_more : (schema : Declared) (texts : List (List ℕ)) (text : List ℕ) → came_in schema (texts ++ text ∷ []) ≡ came_in schema texts ++ came_of text (event_of_line schema text)
came_more schema texts text =
    let f : List ℕ → List (Event × List ℕ) = λ t. came_of t (event_of_line schema t) in
    flat_map-append f texts (text ∷ []) ∙ ap (λ w. came_in schema texts ++ w) (append-nil (f text))

came_empty : (schema : Declared) (texts : List (List ℕ)) (text : List ℕ) → event_of_line schema text ≡ Ok None → came_in schema (texts ++ text ∷ []) ≡ came_in schema texts
came_empty schema texts text is =
    came_more schema texts text ∙ ap (λ l. came_in schema texts ++ came_of text l) is ∙ append-nil (came_in schema texts)

came_event : (schema : Declared) (texts : List (List ℕ)) (text : List ℕ) (next : Event) → event_of_line schema text ≡ Ok (Some next) → came_in schema (texts ++ text ∷ []) ≡ came_in schema texts ++ (next, strip_carriage_return text) ∷ []
came_event schema texts text next is = came_more schema texts text ∙ ap (λ l. came_in schema texts ++ came_of text l) is

-- what a reader that has given no line has room for
pub room_is : (reader : LineReader) → HasRead reader [] [] [] → reader.room ≡ reader.budget
room_is reader read =
    let none = ap length read.whole in
    let long = length-append read.passed (reader.pending ++ []) in
    let all = read.measured in
    omega (arith, none, long, all)

-- what is kept of some lines, as callers of the keeper have it
keeps : (schema : Declared) (queries : List Query) (reader : LineReader) (bytes : List ℕ) (left : Option (List ℕ)) (keeper : Keeper) → (had : HasKept schema queries reader bytes left keeper) → Keeps schema queries keeper (came_in schema had.texts)
keeps schema queries reader bytes left keeper had = record { is = had.is; level = had.level; lines = had.lines }

-- the same of these lines
as_kept : (schema : Declared) (queries : List Query) (reader : LineReader) (bytes : List ℕ) (left : Option (List ℕ)) (keeper : Keeper) (texts : List (List ℕ)) (came : List (Event × List ℕ)) → HasGiven reader bytes left texts → came_in schema texts ≡ came →
    AreEventsOf schema queries texts (stream_of came) → Keeps schema queries keeper came → HasKept schema queries reader bytes left keeper
as_kept schema queries reader bytes left keeper texts came given same good k =
    let G : List (Event × List ℕ) → Type 0 = λ c. AreEventsOf schema queries texts (stream_of c) in
    let K : List (Event × List ℕ) → Type 0 = λ c. Keeps schema queries keeper c in
    let kept = subst K (sym same) k in
    record { texts = texts; given = given; good = subst G (sym same) good; is = kept.is; level = kept.level; lines = kept.lines }

-- the line that was given last is kept, if it is an event
pub line_added : (schema : Declared) (queries : List Query) (old new : LineReader) (bytes : List ℕ) (before left : Option (List ℕ)) (keeper after : Keeper) → IsWellDeclared schema →
    ((texts : List (List ℕ)) → HasGiven old bytes before texts → HasGiven new bytes left (texts ++ new.text ∷ [])) → AddsLine schema new.text keeper after →
    HasKept schema queries old bytes before keeper → HasKept schema queries new bytes left after
line_added schema queries old new bytes before left keeper after well gives (inl none) had =
    let P : Keeper → Type 0 = HasKept schema queries new bytes left in
    let came = came_in schema had.texts in
    subst P (sym none.1) (as_kept schema queries new bytes left keeper (had.texts ++ new.text ∷ []) came (gives had.texts had.given) (came_empty schema had.texts new.text none.0)
    (one_empty schema queries [] had.texts (stream_of came) new.text none.0 had.good) (keeps schema queries old bytes before keeper had))
line_added schema queries old new bytes before left keeper after well gives (inr some) had =
    let P : Keeper → Type 0 = HasKept schema queries new bytes left in
    let came = came_in schema had.texts in
    let x : Event × List ℕ = (some.0, strip_carriage_return new.text) in
    let k = keeps schema queries old bytes before keeper had in
    let E : List Event → Type 0 = AreEventsOf schema queries (had.texts ++ new.text ∷ []) in
    subst P (sym some.3.1) (as_kept schema queries new bytes left (with_event keeper some.0 (strip_carriage_return new.text)) (had.texts ++ new.text ∷ []) (came ++ x ∷ []) (gives had.texts had.given) (came_event schema had.texts new.text some.0 some.1)
    (subst E (sym (stream_more came x)) (one_event schema queries [] had.texts (stream_of came) new.text some.0 some.1 (one_level schema queries keeper came k some.0 well some.3.0) had.good))
    (one_kept schema queries keeper came k new.text some.0 some.1 some.2.plain some.2.short some.3.0))

-- the line that was given last stops the run
stops_here : (schema : Declared) (queries : List Query) (keeper : Keeper) (came : List (Event × List ℕ)) (text : List ℕ) (number : ℕ) (refusal : EventFault) → IsWellDeclared schema → All (IsChecked schema) queries →
    Keeps schema queries keeper came → StopsLine schema text keeper refusal → StopsHere schema queries text number (stream_of came) refusal
stops_here schema queries keeper came text number refusal well checked k (inl refused) = inl refused
stops_here schema queries keeper came text number refusal well checked k (inr some) =
    let fall : Fall = some.2.0 in
    let in_time : StopsInTime schema queries (stream_of came) some.0 number (stop.Event number refusal) = record {
      query = fall.query;
      from = fall.before;
      now = fall.now;
      falls = one_falls schema queries keeper came k some.0 fall well checked (all_of_schema schema 0 came k.lines) some.2.1;
      stops = ap (λ r. stop.Event number r) some.2.2;
    } in
    inr (some.0, some.1, in_time)

pub line_stops : (schema : Declared) (queries : List Query) (old new : LineReader) (bytes : List ℕ) (before left : Option (List ℕ)) (keeper : Keeper) (number : ℕ) (refusal : EventFault) → IsWellDeclared schema → All (IsChecked schema) queries → number ≡ new.number →
    ((texts : List (List ℕ)) → HasGiven old bytes before texts → HasGiven new bytes left (texts ++ new.text ∷ [])) → StopsLine schema new.text keeper refusal →
    HasKept schema queries old bytes before keeper → (events : List Event) × RunsTo schema queries new.budget bytes events (stop.Event number refusal)
line_stops schema queries old new bytes before left keeper number refusal well checked numbered gives stops had =
    let came = came_in schema had.texts in
    let R : ℕ → Type 0 = λ n. RunsTo schema queries new.budget bytes (stream_of came) (stop.Event n refusal) in (
      stream_of came,
      subst R (sym numbered) (at_line [] schema queries new bytes left had.texts new.text (stream_of came) refusal (gives had.texts had.given) had.good
          (stops_here schema queries keeper came new.text new.number refusal well checked (keeps schema queries old bytes before keeper had) stops)),
    )

-- there is no further line
pub no_further : (schema : Declared) (queries : List Query) (old new : LineReader) (bytes : List ℕ) (before left : Option (List ℕ)) (keeper : Keeper) (fault : LineFault) →
    ((texts : List (List ℕ)) → HasGiven old bytes before texts → Follows new bytes left texts (Err fault)) →
    HasKept schema queries old bytes before keeper → StopsBy schema queries new.budget bytes left (run_fault fault)
no_further schema queries old new bytes before left keeper line.ReadFault follows had =
    let events = stream_of (came_in schema had.texts) in
    (events, at_read_fault [] schema queries new.budget bytes left had.texts events (follows had.texts had.given) had.good)
no_further schema queries old new bytes before left keeper (line.LineTooLong number) follows had =
    let events = stream_of (came_in schema had.texts) in
    (events, at_end [] schema queries new.budget bytes had.texts (Some (line.LineTooLong number)) events (follows had.texts had.given) had.good)
no_further schema queries old new bytes before left keeper (line.InputTooLong most) follows had =
    let events = stream_of (came_in schema had.texts) in
    (events, at_end [] schema queries new.budget bytes had.texts (Some (line.InputTooLong most)) events (follows had.texts had.given) had.good)

-- the file ends
pub all_kept : (schema : Declared) (queries : List Query) (old : LineReader) (most_bytes : ℕ) (bytes : List ℕ) (before : Option (List ℕ)) (keeper : Keeper) →
    ((texts : List (List ℕ)) → HasGiven old bytes before texts → file_lines most_bytes bytes ≡ record { texts = texts; fault = None }) →
    HasKept schema queries old bytes before keeper → HasKeptAll schema queries most_bytes bytes keeper
all_kept schema queries old most_bytes bytes before keeper ends had =
    let is = ends had.texts had.given in
    let same : had.texts ≡ (file_lines most_bytes bytes).texts = sym (ap (λ (f : FileLines). f.texts) is) in
    let R : List (List ℕ) → Type 0 = λ ts. RunsTo schema queries most_bytes bytes (stream_of (came_in schema ts)) stop.End in
    let K : List (List ℕ) → Type 0 = λ ts. Keeps schema queries keeper (came_in schema ts) in
    let kept = subst K same (keeps schema queries old bytes before keeper had) in
    record {
      runs = subst R same (at_end [] schema queries most_bytes bytes had.texts None (stream_of (came_in schema had.texts)) is had.good);
      is = kept.is;
      level = kept.level;
    }

-- nothing was read yet
none_yet : (schema : Declared) (queries : List Query) (reader : LineReader) (bytes : List ℕ) → HasGiven reader bytes (Some bytes) [] → HasKept schema queries reader bytes (Some bytes) (empty_keeper schema queries)
none_yet schema queries reader bytes given =
    as_kept schema queries reader bytes (Some bytes) (empty_keeper schema queries) [] [] given refl refl (none_kept schema queries)

pub begun : (schema : Declared) (queries : List Query) (reader : LineReader) (bytes : List ℕ) (left : Option (List ℕ)) (keeper : Keeper) → left ≡ Some bytes → keeper ≡ empty_keeper schema queries →
    HasGiven reader bytes (Some bytes) [] → HasKept schema queries reader bytes left keeper
begun schema queries reader bytes left keeper same none given =
    let P : Option (List ℕ) → Type 0 = λ l. HasKept schema queries reader bytes l keeper in
    let Q : Keeper → Type 0 = λ k. HasKept schema queries reader bytes (Some bytes) k in
    subst P (sym same) (subst Q (sym none) (none_yet schema queries reader bytes given))

-- what is kept of all events is their checkpoint
pub checkpoint_is : KeepersKeep → (schema : Declared) (queries : List Query) (most_bytes : ℕ) (bytes : List ℕ) (keeper : Keeper) → HasKeptAll schema queries most_bytes bytes keeper → IsCheckpointOf schema queries most_bytes bytes (checkpoint_text keeper.positions keeper.lines)
checkpoint_is keepers schema queries most_bytes bytes keeper all =
    let came = came_in schema (file_lines most_bytes bytes).texts in
    let kept = keepers schema queries came all.level in
    record {
      came = came;
      are = refl;
      runs = all.runs;
      spells = ap (λ (k : Keeper). checkpoint_text k.positions k.lines) all.is ∙ ap₂ checkpoint_text kept.1 kept.0;
    }

-- What a keeper keeps of what it is, with one line more.
pub record StaysWith (old new : Keeper) : Type 0 where
  pub schema : new.schema ≡ old.schema
  pub queries : new.queries ≡ old.queries
  pub one_more : new.positions ≤ old.positions + 1

pub stays : (schema : Declared) (text : List ℕ) (old new : Keeper) → AddsLine schema text old new → StaysWith old new
stays schema text old new (inl none) =
    let count = ap (λ (k : Keeper). k.positions) none.1 in
    record { schema = ap (λ (k : Keeper). k.schema) none.1; queries = ap (λ (k : Keeper). k.queries) none.1; one_more = omega (arith, count) }
stays schema text old new (inr some) =
    let is = some.3.1 in
    let count : new.positions ≡ old.positions + 1 = ap (λ (k : Keeper). k.positions) is in
    record { schema = ap (λ (k : Keeper). k.schema) is; queries = ap (λ (k : Keeper). k.queries) is; one_more = omega (arith, count) }

-- the events were not read to their end, so nothing was written
pub wrote_none : (T U : Type 0) (a : EventsRequest) (source left taken : Option (List ℕ)) (stop : OrMemory RunFault) →
    OnFault {T = T} (Err stop) (λ fault. (bytes : List ℕ) → source ≡ Some bytes → StopsBy a.schema a.queries a.most_bytes bytes left fault) → WroteCheckpoint a source left taken taken {T = U} (Err (stream_fault stop))
wrote_none T U a source left taken Memory stops = refl
wrote_none T U a source left taken (Fault run.ReadFault) stops = (refl, stops)
wrote_none T U a source left taken (Fault (run.Event line refusal)) stops = (refl, stops)
wrote_none T U a source left taken (Fault (run.InputTooLong most)) stops = (refl, stops)

-- the same from what a keeper tells that kept nothing before
module _ (schema : Declared) (queries : List Query) (most_bytes : ℕ) (reader : LineReader) (source : Option (List ℕ)) (keeper : Keeper) (none : keeper ≡ empty_keeper schema queries) (budget : reader.budget ≡ most_bytes) (given : (bytes : List ℕ) → HasGiven reader bytes (Some bytes) []) where
  asked : keeper.queries ≡ queries
  asked = ap (λ (k : Keeper). k.queries) none

  begun_own : (bytes : List ℕ) → source ≡ Some bytes → HasKept schema keeper.queries reader bytes source keeper
  begun_own bytes same =
      let Q : List Query → Type 0 = λ qs. HasKept schema qs reader bytes source keeper in
      subst Q (sym asked) (begun schema queries reader bytes source keeper same none (given bytes))

  -- all was kept
  pub saved : KeepersKeep → (bytes : List ℕ) (after : Keeper) → source ≡ Some bytes → (HasKept schema keeper.queries reader bytes source keeper → HasKeptAll schema keeper.queries reader.budget bytes after) → IsCheckpointOf schema queries most_bytes bytes (checkpoint_text after.positions after.lines)
  saved keepers bytes after same all =
      let A : List Query → Type 0 = λ qs. HasKeptAll schema qs reader.budget bytes after in
      let N : ℕ → Type 0 = λ n. HasKeptAll schema queries n bytes after in
      checkpoint_is keepers schema queries most_bytes bytes after (subst N budget (subst A asked (all (begun_own bytes same))))

  -- the events stopped
  pub stopped : (T U : Type 0) (left taken : Option (List ℕ)) (stop : OrMemory RunFault) → OnFault {T = T} (Err stop) (λ fault. (bytes : List ℕ) → HasKept schema keeper.queries reader bytes source keeper → StopsBy schema keeper.queries reader.budget bytes left fault) →
      WroteCheckpoint (record { schema = schema; queries = queries; most_bytes = most_bytes }) source left taken taken {T = U} (Err (stream_fault stop))
  stopped T U left taken Memory stops = refl
  stopped T U left taken (Fault fault) stops =
      wrote_none T U (record { schema = schema; queries = queries; most_bytes = most_bytes }) source left taken (Fault fault) (
      λ bytes same.
      let Q : List Query → Type 0 = λ qs. StopsBy schema qs most_bytes bytes left fault in
      let N : ℕ → Type 0 = λ n. StopsBy schema keeper.queries n bytes left fault in
      subst Q asked (subst N budget (stops bytes (begun_own bytes same))))

  -- there is room for an event of each line
  pub room_for : (most : ℕ) → most_bytes ≤ most → keeper.positions + reader.room ≤ most
  room_for most few =
      let none_yet : keeper.positions ≡ 0 = ap (λ (k : Keeper). k.positions) none in
      let room = room_is reader (given []) in
      omega (arith, none_yet, room, budget, few)
