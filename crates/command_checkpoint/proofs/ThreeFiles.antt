-- The steps after a history, and the engine that is left, over all three files.
use Rattle.std.proofs.Common.{◌≡◌, ℕ, List, Option, Some, None, Ok, sym, ◌∙◌, subst, IsSomeAnd}
use Rattle.std.proofs.Math.Path.{fun_ext}
use Rattle.stream_schema.specs.Types.{Declared}
use Rattle.cel_terms.specs.declared.Query.{Query}
use Rattle.cer_outside.specs.Content.{Content, Holds, OfOpened}
use Rattle.query_engine.specs.Engine.{EngineState, SameQueries, peak_of}
use Rattle.checkpoint_text.specs.declared.history.History.{History}
use Rattle.checkpoint_text.specs.Checkpoints.{checkpoint_of}
use Rattle.command_words.specs.declared.ResumeWords.{ResumeWords}
use Rattle.command_base.specs.declared.Cause.{Cause}
use Rattle.command_base.specs.declared.Cause.TheVariants as cause
use Rattle.command_base.specs.Accepted.{Accepts}
use Rattle.command_base.specs.Leaving.{IsLeftBy}
use Rattle.command_base.specs.StepCounts.{StepsBy, counts_where}
use Rattle.command_base.proofs.Told.{text_told}
use Rattle.command_base.proofs.Ends.{left_by_end}
use Rattle.command_base.proofs.StepClauses.{steps_map}
use Rattle.command_checkpoint.specs.Resumed.{StandsForResumed}
use Rattle.command_checkpoint.specs.GoingOn.{resume_asked_of}
use Rattle.command_checkpoint.specs.StepCounts.{resume_steps}
use Rattle.command_checkpoint.specs.LeftEngine.{StandsForThreeFiles, resume_leaves}
use Rattle.command_checkpoint.specs.Histories.{resumed_counts}
use Rattle.command_checkpoint.proofs.AfterHistory.{Tells}

-- the steps over the event file, and so over all three
pub steps_of_three : (content : List ℕ → Content) (lines_of : Content) (r : ResumeWords) (schema : Declared) (queries : List Query) (history : History) (given : Cause) (before after : Option (List ℕ)) (old now : ℕ) → lines_of ≡ content r.events →
    OfOpened (content r.queries) (λ text. Accepts text schema queries) → OfOpened (content r.checkpoint) (Tells schema queries history) →
    StepsBy given (counts_where (λ bytes. lines_of ≡ Holds bytes) (resumed_counts r.compact_every history (resume_asked_of r schema queries))) before after old now → StepsBy given (resume_steps r content) before after old now
steps_of_three content lines_of r schema queries history given before after old now same accepted told h =
    steps_map (counts_where (λ bytes. lines_of ≡ Holds bytes) (resumed_counts r.compact_every history (resume_asked_of r schema queries))) (resume_steps r content)
    (λ Stops Took x y all text kept lines first second third. record {
      schema = schema;
      queries = queries;
      history = history;
      accepted = text_told (content r.queries) text (λ t. Accepts t schema queries) first accepted;
      told = text_told (content r.checkpoint) kept (Tells schema queries history) second told;
      says = all lines (same ∙ third);
    })
    (λ b a x y at text kept lines first second third. record {
      schema = schema;
      queries = queries;
      history = history;
      accepted = text_told (content r.queries) text (λ t. Accepts t schema queries) first accepted;
      told = text_told (content r.checkpoint) kept (Tells schema queries history) second told;
      says = at lines (same ∙ third);
    }) given before after old now h

-- over all three files; an engine that is new had no peak
stands_for_three : (content : List ℕ → Content) (lines_of : Content) (r : ResumeWords) (history : History) (old engine : EngineState) → lines_of ≡ content r.events → OfOpened (content r.queries) (λ text. Accepts text old.schema old.queries) →
    OfOpened (content r.checkpoint) (Tells old.schema old.queries history) → SameQueries old engine → ((query : ℕ) → peak_of old query ≡ 0) →
    ((bytes : List ℕ) → lines_of ≡ Holds bytes → StandsForResumed r.compact_every (peak_of old) history (resume_asked_of r old.schema old.queries) bytes engine) → StandsForThreeFiles content r engine
stands_for_three content lines_of r history old engine same accepted read kept new stands = record {
  told = λ text kept_text lines first second third. (
      let none : peak_of old ≡ (λ query. 0) = fun_ext new in
      let F : (ℕ → ℕ) → Type 0 = λ peaks. StandsForResumed r.compact_every peaks history (resume_asked_of r old.schema old.queries) lines engine in
      let here = subst F none (stands lines (same ∙ third)) in
      let accepts = text_told (content r.queries) text (λ w. Accepts w old.schema old.queries) first accepted in
      let tells = text_told (content r.checkpoint) kept_text (Tells old.schema old.queries history) second read in
      let T : Declared → List Query → Type 0 = λ s qs. Accepts text s qs × ((h : History) × (checkpoint_of s qs kept_text ≡ Ok h) × StandsForResumed r.compact_every (λ query. 0) h (resume_asked_of r s qs) lines engine) in
      let P : Declared → Type 0 = λ s. T s old.queries in
      let Q : List Query → Type 0 = λ qs. T engine.schema qs in
      subst Q (sym kept.1) (subst P (sym kept.0) (accepts, (history, tells, here)))
      );
}

-- the engine by how the answers over the file ended
pub leaves : (content : List ℕ → Content) (lines_of : Content) (r : ResumeWords) (history : History) (old engine : EngineState) (given told : Cause) (left before : Option EngineState) → given ≡ told → lines_of ≡ content r.events → OfOpened (content r.queries) (λ text. Accepts text old.schema old.queries) →
    OfOpened (content r.checkpoint) (Tells old.schema old.queries history) → SameQueries old engine → ((query : ℕ) → peak_of old query ≡ 0) →
    (told ≡ cause.Fine → (bytes : List ℕ) → lines_of ≡ Holds bytes → StandsForResumed r.compact_every (peak_of old) history (resume_asked_of r old.schema old.queries) bytes engine) → before ≡ None →
    (given ≡ cause.Fine → left ≡ Some engine) → ((given ≡ cause.Fine → ⊥) → before ≡ None → left ≡ None) → IsLeftBy given (resume_leaves r content) left
leaves content lines_of r history old engine given told left before is same accepted read kept new stands none fine other =
    left_by_end (resume_leaves r content) given left
    (λ well. let P : Option EngineState → Type 0 = λ o. IsSomeAnd o (StandsForThreeFiles content r) in
    subst P (sym (fine well)) (stands_for_three content lines_of r history old engine same accepted read kept new (stands (sym is ∙ well))))
    (λ ill. other ill none)
