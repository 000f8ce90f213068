-- What an outcome is that the caller sees in place of another.
use Rattle.std.proofs.Common.{◌≡◌, ℕ, ℤ, ◌-◌, List, [], ◌∷◌, ◌++◌, length, sym, ◌∙◌, ap, subst, Some, Ok}
use Rattle.query_engine.specs.Engine.{EngineState, StandsFor}
use Rattle.answer_text.specs.OutputRows.{Row}
use Rattle.core_service.specs.declared.AnswerNumbers.{AnswerNumbers}
use Rattle.core_service.specs.declared.Refused.{Refused}
use Rattle.core_service.specs.declared.SomeStop.{SomeStop}
use Rattle.core_service.specs.declared.SomeStop.TheVariants as stop
use Rattle.core_service.specs.Answering.{AnswersState, AreLeft, AreNumbers, Leaves, LeavesDrawn, rows_drawn, row_of}
use Rattle.core_service.specs.Services.{ServiceState, IsLooked, IsAnswered, GivesDrawn}
use Rattle.core_service.specs.ManyLines.{HasFedSome}

-- the answer that was drawn is given: its row was the first that was left
given_first : (engine seen : EngineState) (old looked new : AnswersState) (numbers : AnswerNumbers) (positions : List ℕ) → seen ≡ engine → positions ≡ looked.positions
    → Leaves engine old looked [] → AreNumbers seen looked numbers → LeavesDrawn seen looked new → Leaves engine old new (row_of numbers positions ∷ [])
given_first engine seen old looked new numbers positions same told leaves are drawn = record {
  left = λ events rows stands h.
      let stands_seen : StandsFor seen events = subst (λ (e : EngineState). StandsFor e events) (sym same) stands in
      let before = drawn.left events rows stands_seen (subst (λ (e : EngineState). AreLeft e new events rows) (sym same) h) in
      let first : rows_drawn looked (length events - 1) ≡ row_of numbers positions ∷ [] =
      ap (λ (end : ℕ). rows_drawn looked end) (sym (are.last events stands_seen)) ∙ (are.drawn ∙ ap (λ (places : List ℕ). row_of numbers places ∷ []) (sym told)) in
      let row_first : AreLeft seen looked events (row_of numbers positions ∷ rows) = subst (λ (l : List Row). AreLeft seen looked events (l ++ rows)) first before in
      leaves.left events (row_of numbers positions ∷ rows) stands (subst (λ (e : EngineState). AreLeft e looked events (row_of numbers positions ∷ rows)) same row_first);
}

-- a look and the giving of what it showed are a call for the next answer
pub answered : (old looked new : ServiceState) (numbers : AnswerNumbers) → IsLooked old looked (Ok (Some numbers)) → GivesDrawn looked new
    → new.answers.positions ≡ looked.answers.positions → IsAnswered old new (Ok (Some numbers))
answered old looked new numbers look drawn same = (
  record {
    engine = drawn.engine ∙ look.gives.engine;
    lines = drawn.lines ∙ look.gives.lines;
    held = drawn.held ∙ look.gives.held;
    leaves = given_first old.engine looked.engine old.answers looked.answers new.answers numbers new.answers.positions look.gives.engine same look.gives.leaves look.shown drawn.leaves;
  },
  look.shown.count ∙ ap (λ (places : List ℕ). length places) (sym same),
)

-- where there is no memory to tell a refusal, the lines before it are taken all the same
pub untold : (bytes : List ℕ) (old new : ServiceState) (used : ℕ) (s : SomeStop) (refused : Refused) → s ≡ stop.Refused refused
    → HasFedSome bytes old new (record { used = used; stop = s }) → HasFedSome bytes old new (record { used = used; stop = stop.Memory })
untold bytes old new used s refused is fed =
    let h : HasFedSome bytes old new (record { used = used; stop = stop.Refused refused }) = subst (λ (t : SomeStop). HasFedSome bytes old new (record { used = used; stop = t })) is fed in
    record { quiet = h.quiet; last = h.last; middle = h.middle; within = h.within; used = h.used; taken = h.taken; stopped = (h.stopped.0, h.stopped.1.refuses.stays) }

-- the service that the handle has is that which was asked, before the call and after it
pub carried : (P : ServiceState → ServiceState → ℤ → Type 0) (old asked new left : ServiceState) (status told : ℤ) → asked ≡ old → new ≡ left → told ≡ status → P asked left status → P old new told
carried P old asked new left status told first last same h =
    subst (λ (s : ℤ). P old new s) (sym same) (subst (λ (s : ServiceState). P old s status) (sym last) (subst (λ (s : ServiceState). P s left status) first h))
