-- What a history leaves, for the events that come after it.
use Rattle.std.proofs.Common.{◌≡◌, ℕ, List, [], length, Option, Result, Ok, Err, refl, sym, subst, arith}
use Rattle.std.proofs.Math.Nat.{mul-le-mul_left}
use Rattle.cer_base.specs.declared.OrMemory.{OrMemory}
use Rattle.cer_base.specs.declared.OrMemory.TheVariants.{Fault, Memory}
use Rattle.stream_schema.specs.Types.{Declared}
use Rattle.stream_schema.specs.declared.Event.{Event}
use Rattle.cel_terms.specs.declared.Query.{Query}
use Rattle.query_engine.specs.Engine.{EngineState, SameQueries}
use Rattle.query_engine.specs.Peaks.{PeaksFollow}
use Rattle.checkpoint_text.specs.declared.history.History.{History}
use Rattle.checkpoint_text.specs.Replaying.{Replayed}
use Rattle.checkpoint_text.specs.Streams.{IsStreamOf}
use Rattle.stream_answers.specs.declared.RunOptions.{RunOptions}
use Rattle.stream_answers.specs.declared.StreamFault.{StreamFault}
use Rattle.stream_answers.specs.declared.StreamFault.TheVariants as fault
use Rattle.stream_answers.specs.RunEnds.{EndClaims, ByEnd}
use Rattle.stream_answers.specs.Schedules.{Timing}
use Rattle.stream_answers.specs.Steps.{AreBoundedBy, AreOfEvents, StepsOverAfter}
use Rattle.stream_answers.specs.Streams.{RunRequest, asked_by, WroteStreamAfter, StandsForAllAfter}
use Rattle.stream_answers.specs.Windows.{FollowsEvents}
use Rattle.stream_answers.proofs.Growing.{pace_least}
use Rattle.command_checkpoint.specs.Resumed.{timing_after, each_said}

-- the engine follows each stream that the history tells
pub follows : (peaks : ℕ → ℕ) (schema : Declared) (history : History) (engine : EngineState) → Replayed schema history.events history.positions engine → ((stream : List Event) → IsStreamOf schema history stream → PeaksFollow peaks engine stream) →
    (earlier : List Event) → IsStreamOf schema history earlier → FollowsEvents peaks engine earlier
follows peaks schema history engine replayed peaks_are earlier is = record { stands = replayed.stands earlier is; dense = replayed.dense earlier is; peaks_are = peaks_are earlier is }

-- its steps are within the bound of its events
pub paid : (every : Option ℕ) (schema : Declared) (queries : List Query) (earlier : List Event) (begun now : ℕ) → AreOfEvents schema queries earlier begun now → AreBoundedBy (timing_after every earlier) schema queries earlier [] begun now
paid every schema queries earlier begun now steps = λ most meet. (
    let p = steps most meet in
    let paced = mul-le-mul_left (length earlier) (pace_least every (length queries) most) in
    omega (arith, p, paced)
    )

-- what is asked, by the schema and the queries of an engine
abbrev asked_of : RunOptions → Declared → List Query → RunRequest
asked_of options schema queries = record { order = options.order; schema = schema; queries = queries; most_bytes = options.most_bytes }

module _ (options : RunOptions) (old new : EngineState) (same : SameQueries old new) (earlier : List Event) where
  -- the same is asked where the engine's schema and queries have another name
  asked_same : asked_by options new ≡ asked_by options old
  asked_same =
      subst (λ (s : Declared). asked_by options new ≡ asked_of options s old.queries) same.0
      (subst (λ (qs : List Query). asked_by options new ≡ asked_of options new.schema qs) same.1 refl)

  pub paid_as : (begun now : ℕ) → AreOfEvents old.schema old.queries earlier begun now → AreOfEvents new.schema new.queries earlier begun now
  paid_as begun now steps =
      subst (λ (s : Declared). AreOfEvents s new.queries earlier begun now) (sym same.0) (subst (λ (qs : List Query). AreOfEvents old.schema qs earlier begun now) (sym same.1) steps)

  pub wrote_as : {T : Type 0} (source left before after : Option (List ℕ)) (result : Result T (OrMemory StreamFault)) →
      WroteStreamAfter earlier (asked_by options new) source left before after result → WroteStreamAfter earlier (asked_by options old) source left before after result
  wrote_as source left before after result wrote = subst (λ (a : RunRequest). WroteStreamAfter earlier a source left before after result) asked_same wrote

  pub steps_as : {T : Type 0} (timing : Timing) (bytes : List ℕ) (before after : Option (List ℕ)) (begun now : ℕ) (result : Result T (OrMemory StreamFault)) →
      StepsOverAfter timing earlier (asked_by options new) bytes before after begun now result → StepsOverAfter timing earlier (asked_by options old) bytes before after begun now result
  steps_as timing bytes before after begun now result steps = subst (λ (a : RunRequest). StepsOverAfter timing earlier a bytes before after begun now result) asked_same steps

  pub stands_as : (timing : Timing) (peaks : ℕ → ℕ) (bytes : List ℕ) (engine : EngineState) →
      StandsForAllAfter timing peaks earlier (asked_by options new) bytes engine → StandsForAllAfter timing peaks earlier (asked_by options old) bytes engine
  stands_as timing peaks bytes engine stands = subst (λ (a : RunRequest). StandsForAllAfter timing peaks earlier a bytes engine) asked_same stands

-- what is said after each stream of the history, by how it ended
pub each_ended : {T : Type 0} (schema : Declared) (history : History) (said : List Event → EndClaims) (left : Option (List ℕ)) (result : Result T (OrMemory StreamFault)) →
    ((earlier : List Event) → IsStreamOf schema history earlier → ByEnd (said earlier) left result) → ByEnd (each_said schema history said) left result
each_ended schema history said left (Ok done) each = each
each_ended schema history said left (Err (Fault (fault.Event line refusal))) each = each
each_ended schema history said left (Err (Fault (fault.InputTooLong taken))) each = each
each_ended schema history said left (Err (Fault fault.ReadFault)) each = each
each_ended schema history said left (Err (Fault fault.WriteFault)) each = each
each_ended schema history said left (Err Memory) each = each
