-- How a run over late events ends where some type lacks its clock.
use Rattle.std.proofs.Common.{◌≡◌, ℕ, ◌⊎◌, inl, inr, false, List, Option, None, refl, sym, subst}
use Rattle.cer_outside.specs.Causes.{AllStay}
use Rattle.cer_outside.specs.Content.{Content, OfOpened}
use Rattle.stream_schema.specs.Types.{Declared}
use Rattle.cel_terms.specs.declared.Query.{Query}
use Rattle.reorder_gate.specs.AttributeClock.{clock_fits}
use Rattle.command_words.specs.declared.ReorderWords.{ReorderWords}
use Rattle.fault_notes.specs.declared.File.TheVariants as file
use Rattle.command_base.specs.declared.Cause.{Cause}
use Rattle.command_base.specs.declared.Cause.TheVariants as cause
use Rattle.command_base.specs.Accepted.{Accepts}
use Rattle.command_base.specs.Tasks.{LacksItsClock}
use Rattle.command_base.specs.Sources.{Sources}
use Rattle.command_base.specs.Ending.{Outside, TaskEnded}
use Rattle.command_base.proofs.Told.{opened_map}
use Rattle.command_base.proofs.Ends.{opened_one}
use Rattle.command_base.proofs.StepClauses.{IsEarly}
use Rattle.command_reorder.specs.Reordered.{reorder_task}

-- the text that is accepted is one whose types lack the clock
lacks_clock : (content : Content) (w : ReorderWords) (schema : Declared) (queries : List Query) → clock_fits schema w.clock ≡ false → OfOpened content (λ text. Accepts text schema queries) → OfOpened content (λ text. LacksItsClock (reorder_task w) text w.clock)
lacks_clock content w schema queries lacks accepted =
    opened_map content (λ text. Accepts text schema queries) (λ text. LacksItsClock (reorder_task w) text w.clock) (λ text is. (refl, record { schema = schema; queries = queries; accepted = is; says = lacks })) accepted

-- nothing else was done then
pub unfit_ended : {S H : Type 0} (sources : Sources S) (call : H → List ℕ → H → Type 0) (o : Outside) (w : ReorderWords) (first last : H) (schema : Declared) (queries : List Query) (given : Cause) (failed : Option S) →
    (given ≡ cause.ClockKind w.clock) ⊎ (given ≡ cause.Memory) → clock_fits schema w.clock ≡ false → OfOpened (o.content w.queries) (λ text. Accepts text schema queries) → AllStay o.old o.new → o.out_new ≡ o.out_old → o.after ≡ o.before → call first w.queries last →
    failed ≡ None → TaskEnded sources call o (reorder_task w) first last given failed
unfit_ended {S} {H} sources call o w first last schema queries given failed way lacks accepted stay writes nothing one none =
    let P : Cause → Type 0 = λ k. TaskEnded sources call o (reorder_task w) first last k failed in
    elim way [
      | inl same ↦
          subst P (sym same) (record {
            holds = (none, nothing, lacks_clock (o.content w.queries) w schema queries lacks accepted);
            wrote = (refl, nothing);
            counts_opens = stay;
            counts_writes = writes;
            opens = opened_one call o.content (reorder_task w) (cause.ClockKind w.clock) first last refl one;
          })
      | inr same ↦
          subst P (sym same) (record {
            holds = (none, inl nothing);
            wrote = inl nothing;
            counts_opens = stay;
            counts_writes = writes;
            opens = opened_one call o.content (reorder_task w) cause.Memory first last (inr (file.Queries, refl)) one;
          })
    ]

-- and the event file was not opened
pub unfit_is_early : (given : Cause) (clock : List ℕ) → (given ≡ cause.ClockKind clock) ⊎ (given ≡ cause.Memory) → IsEarly given
unfit_is_early given clock way = elim way [ inl same ↦ subst IsEarly (sym same) tt | inr same ↦ subst IsEarly (sym same) tt ]
