-- What has been written of the answers over the events of a source that come after a history.
-- A history leaves open which blank events it has: each of these is said of all streams that it tells.
use Rattle.std.specs.Prelude.{ℕ, List, length, Option, None, Result}
use Rattle.cer_base.specs.declared.OrMemory.{OrMemory}
use Rattle.stream_schema.specs.Types.{Declared}
use Rattle.stream_schema.specs.declared.Event.{Event}
use Rattle.query_engine.specs.Engine.{EngineState}
use Rattle.checkpoint_text.specs.declared.history.History.{History}
use Rattle.checkpoint_text.specs.Streams.{IsStreamOf}
use Rattle.stream_answers.specs.declared.StreamFault.{StreamFault}
use Rattle.stream_answers.specs.RunEnds.{EndClaims, ByEnd}
use Rattle.stream_answers.specs.Streams.{RunRequest, answers_said, StandsForAllAfter}
use Rattle.stream_answers.specs.Steps.{CountsAllAfter, CountsAtFaultAfter, counts_said}
use Rattle.stream_answers.specs.Schedules.{Timing}

-- what is said of every stream of the history
abbrev pub AfterEach : Declared → History → (List Event → Type 0) → Type 0
AfterEach schema history Says = (earlier : List Event) → IsStreamOf schema history earlier → Says earlier

-- that it is said after every stream of the history
abbrev pub each_said : Declared → History → (List Event → EndClaims) → EndClaims
each_said schema history said = record {
  stops = λ halt. AfterEach schema history (λ earlier. (said earlier).stops halt);
  unread = λ left. AfterEach schema history (λ earlier. (said earlier).unread left);
  unwritten = AfterEach schema history (λ earlier. (said earlier).unwritten);
  wants = AfterEach schema history (λ earlier. (said earlier).wants);
}

-- by how it ended: the answers after the history over its events and then those of the source, or a part of them
abbrev pub resumed_said : History → RunRequest → Option (List ℕ) → Option (List ℕ) → Option (List ℕ) → EndClaims
resumed_said history a source before after = each_said a.schema history (λ earlier. answers_said earlier a source before after)

abbrev pub WroteResumed : History → RunRequest → Option (List ℕ) → Option (List ℕ) → Option (List ℕ) → Option (List ℕ) → {T : Type 0} → Result T (OrMemory StreamFault) → Type 0
WroteResumed history a source left before after result = ByEnd (resumed_said history a source before after) left result

-- after every so many events, where those of a history do not count
abbrev pub timing_after : Option ℕ → List Event → Timing
timing_after every earlier = record { every = every; first = length earlier }

-- The engine stands for the events of the history and then those of a file of these bytes; compactions count those of the file alone; these were its peaks before. Without a number for compactions each of its queries is kept small.
abbrev pub StandsForResumed : Option ℕ → (ℕ → ℕ) → History → RunRequest → List ℕ → EngineState → Type 0
StandsForResumed every peaks history a lines engine = (earlier : List Event) → IsStreamOf a.schema history earlier →
    StandsForAllAfter (timing_after every earlier) peaks earlier a lines engine

-- The steps are bounded by the events of the history and of a file of these bytes, by the answers after the history, and by the compactions of all queries.
abbrev pub resumed_counts_said : Option ℕ → History → RunRequest → List ℕ → Option (List ℕ) → Option (List ℕ) → ℕ → ℕ → EndClaims
resumed_counts_said every history a lines before after old now = each_said a.schema history (λ earlier.
    let timing = timing_after every earlier in
    counts_said (λ Stops Took. CountsAllAfter timing earlier a lines Stops Took old now) (CountsAtFaultAfter timing earlier a.order a lines before after old now) before after)

abbrev pub StepsResumed : Option ℕ → History → RunRequest → List ℕ → Option (List ℕ) → Option (List ℕ) → ℕ → ℕ → {T : Type 0} → Result T (OrMemory StreamFault) → Type 0
StepsResumed every history a lines before after old now result = ByEnd (resumed_counts_said every history a lines before after old now) None result
