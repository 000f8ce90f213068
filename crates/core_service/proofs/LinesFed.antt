-- What became of a line, by what became of it at the engine.
use Rattle.std.proofs.Common.{◌≡◌, ℕ, ◌+◌, ◌≤◌, false, List, [], length, All, None, refl, subst}
use Rattle.cer_base.specs.declared.limits.TheConstants.{LONGEST_LINE}
use Rattle.event_reader.specs.Lines.{has_line_feed}
use Rattle.query_engine.specs.Engine.{EngineState, Fits, KeepsCursors}
use Rattle.core_service.specs.Answering.{AnswersState}
use Rattle.core_service.specs.Holding.{HeldState}
use Rattle.core_service.specs.Services.{ServiceState, TakesEvent, GivesEvent}
use Rattle.core_service.proofs.Left.{all_left}
use Rattle.core_service.proofs.Among.{all_kept, kept_by}
use Rattle.core_service.proofs.HeldServices.{service}

module _ (line : List ℕ) (engine : EngineState) (lines : ℕ) (answers : AnswersState) (held : HeldState) (old : ServiceState) (is : service engine lines answers held ≡ old) where
  pub fed_event : (now : EngineState) (fresh : AnswersState) → All (Fits engine) held.cursors → has_line_feed line ≡ false → length line ≤ LONGEST_LINE → GivesEvent line engine now × KeepsCursors engine now →
      fresh ≡ record { asked = 0; cursors = []; wanted = None; drawn = None; positions = [] } → TakesEvent line old (service now (lines + 1) fresh held)
  fed_event now fresh fit whole short gives first = subst (λ (s : ServiceState). TakesEvent line s (service now (lines + 1) fresh held)) is (record {
    one = record { whole = whole; short = short };
    gives = gives.0;
    lines = refl;
    left = λ events rows. all_left now fresh events rows first;
    held = record { last = refl; count = refl; rows = λ number. all_kept engine now held.marks held.cursors held.cursors number (kept_by engine now held.cursors gives.1 fit) };
  })
