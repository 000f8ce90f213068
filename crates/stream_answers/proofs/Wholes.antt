-- A part of the answers over all events that the queries take of a file.
use Rattle.std.proofs.Common.{◌≡◌, ℕ, ◌≤◌, List, [], ◌++◌, length, Option, Some, None, refl, sym, subst, arith}
use Rattle.std.proofs.lemmas.List.{append-nil}
use Rattle.stream_schema.specs.Types.{Declared}
use Rattle.stream_schema.specs.declared.Event.{Event}
use Rattle.cel_terms.specs.declared.Query.{Query}
use Rattle.output_laws.specs.After.{IsOutputAfter}
use Rattle.answer_blocks.specs.SinkBytes.{TookPrefix}
use Rattle.answer_blocks.proofs.Blocks.{some_blocks_are}
use Rattle.event_reader.specs.Lines.{file_lines}
use Rattle.event_run.specs.Runs.{RunStop, RunsAfter}
use Rattle.event_run.proofs.ForCallers.{some_run}
use Rattle.output_laws.proofs.After.{after_none, after_grows}
use Rattle.stream_answers.specs.Events.{Begins}
use Rattle.stream_answers.specs.Streams.{RunRequest, AreAnswersBy, WrotePartBy, WrotePartOfAfter}

-- A part of the answers over the first events is one of the answers over all.
pub part_over : (Takes : List ℕ → List Event → RunStop → Type 0) (from : ℕ) (a : RunRequest) (source : Option (List ℕ)) (events : List Event) (bytes : List ℕ) (Took : List ℕ → Type 0) → from ≤ length events → IsOutputAfter from a.order a.schema a.queries events bytes →
    ((lines : List ℕ) → source ≡ Some lines → Begins Takes lines events) → ((rest : List ℕ) → Took bytes → Took (bytes ++ rest)) → Took bytes → WrotePartBy Takes from a source Took
part_over Takes from a None events bytes Took behind output begins more took = record { bytes = bytes; took = took; are = λ lines same. absurd cc }
part_over Takes from a (Some lines) events bytes Took behind output begins more took =
    let run = begins lines refl in
    let grown = after_grows from a.order a.schema a.queries events run.0 bytes behind (λ end. some_blocks_are a.order a.schema 1 a.queries (events ++ run.0) end) output in
    let P : List ℕ → Type 0 = λ l. AreAnswersBy Takes from a l (bytes ++ grown.0) in
    record {
      bytes = bytes ++ grown.0;
      took = more grown.0 took;
      are = λ other same. let is : lines ≡ other = cc in subst P is (record { events = events ++ run.0; stop = run.1; runs = run.2; output = grown.1 });
    }

-- every run begins with the events before it
pub begins_as : (earlier : List Event) (schema : Declared) (queries : List Query) (most_bytes : ℕ) (lines : List ℕ) → Begins (RunsAfter earlier schema queries most_bytes) lines earlier
begins_as earlier schema queries most_bytes lines =
    let run = some_run schema queries 1 earlier (file_lines most_bytes lines).texts (file_lines most_bytes lines).fault in
    (run.more, run.stop, run.runs)

pub begins_at_first : (earlier : List Event) (a : RunRequest) (lines : List ℕ) → Begins (RunsAfter earlier a.schema a.queries a.most_bytes) lines earlier
begins_at_first earlier a lines = begins_as earlier a.schema a.queries a.most_bytes lines

-- nothing was taken
prefix_none : (before : Option (List ℕ)) (bytes : List ℕ) → TookPrefix before before bytes
prefix_none None bytes = refl
prefix_none (Some b) bytes = record { count = 0; within = omega arith; took = sym (append-nil b) }

pub wrote_none_of : (Takes : List ℕ → List Event → RunStop → Type 0) (earlier : List Event) (a : RunRequest) (source before : Option (List ℕ)) → ((lines : List ℕ) → Begins Takes lines earlier) → WrotePartBy Takes (length earlier) a source (TookPrefix before before)
wrote_none_of Takes earlier a source before begins =
    part_over Takes (length earlier) a source earlier [] (TookPrefix before before) (omega arith) (after_none (length earlier) a.order a.schema a.queries earlier refl) (λ lines same. begins lines) (λ rest took. prefix_none before rest) (prefix_none before [])

pub wrote_none : (earlier : List Event) (a : RunRequest) (source before : Option (List ℕ)) → WrotePartOfAfter earlier a source (TookPrefix before before)
wrote_none earlier a source before = wrote_none_of (RunsAfter earlier a.schema a.queries a.most_bytes) earlier a source before (begins_at_first earlier a)
