-- Which events queries take of a list: it goes on, there are always some, and they are one thing.
use Rattle.std.proofs.Common.{◌≡◌, ℕ, inl, inr, List, [], ◌∷◌, ◌++◌, refl, sym, ◌∙◌, subst, append_assoc, append-nil}
use Rattle.stream_schema.specs.Types.{Declared}
use Rattle.stream_schema.specs.declared.Event.{Event as StreamEvent}
use Rattle.cel_terms.specs.declared.Query.{Query}
use Rattle.event_reader.specs.declared.EventFault.TheVariants as event
use Rattle.event_run.specs.Runs.{RunStop, StopsInTime}
use Rattle.event_run.specs.Runs as stop
use Rattle.event_run.proofs.FirstFalls.{falls_or_none}
use Rattle.event_run.proofs.ForCallers.{one_time, not_in_time}
use Rattle.command_reorder.specs.Late.{NumberedEvent, TakesOn}

not_stopped : (schema : Declared) (queries : List Query) (before : List StreamEvent) (next : StreamEvent) (number : ℕ) → StopsInTime schema queries before next number stop.End → ⊥
not_stopped schema queries before next number s = let clash : stop.End ≡ stop.Event number (event.TimeBack s.query s.from s.now) = s.stops in absurd cc

-- these, and then those after them
pub takes_then : (schema : Declared) (queries : List Query) (before : List StreamEvent) (gone later : List NumberedEvent) (end : RunStop) (events all : List StreamEvent) (halt : RunStop) →
    TakesOn schema queries before gone stop.End events stop.End → TakesOn schema queries events later end all halt → TakesOn schema queries before (gone ++ later) end all halt
takes_then schema queries before [] later end events all halt taken rest =
    let P : List StreamEvent → Type 0 = λ e. TakesOn schema queries e later end all halt in subst P taken.0 rest
takes_then schema queries before (e ∷ gone) later end events all halt (inl x) rest =
    inl (x.0, takes_then schema queries (before ++ e.1 ∷ []) gone later end events all halt x.1 rest)
takes_then schema queries before (e ∷ gone) later end events all halt (inr x) rest = absurd (not_stopped schema queries before e.1 e.0 x.1)

-- and no more
pub takes_end : (schema : Declared) (queries : List Query) (before : List StreamEvent) (gone : List NumberedEvent) (end : RunStop) (events : List StreamEvent) → TakesOn schema queries before gone stop.End events stop.End → TakesOn schema queries before gone end events end
takes_end schema queries before gone end events taken =
    let P : List NumberedEvent → Type 0 = λ l. TakesOn schema queries before l end events end in
    subst P (append-nil gone) (takes_then schema queries before gone [] end events events end taken (refl, refl))

-- Some events and a stop are those that are taken, after the events before.
pub record SomeTakes (schema : Declared) (queries : List Query) (before : List StreamEvent) (list : List NumberedEvent) (end : RunStop) : Type 0 where
  pub more : List StreamEvent
  pub halt : RunStop
  pub takes : TakesOn schema queries before list end (before ++ more) halt

pub some_takes : (schema : Declared) (queries : List Query) (before : List StreamEvent) (list : List NumberedEvent) (end : RunStop) → SomeTakes schema queries before list end
some_takes schema queries before [] end = record { more = []; halt = end; takes = (append-nil before, refl) }
some_takes schema queries before (e ∷ later) end =
    let rest = some_takes schema queries (before ++ e.1 ∷ []) later end in
    elim (falls_or_none schema queries before e.1) [
      | inl none ↦
          let P : List StreamEvent → Type 0 = λ l. TakesOn schema queries (before ++ e.1 ∷ []) later end l rest.halt in
          record { more = e.1 ∷ rest.more; halt = rest.halt; takes = inl (none, subst P (append_assoc before (e.1 ∷ []) rest.more) rest.takes) }
      | inr some ↦
          let halt = stop.Event e.0 (event.TimeBack some.0.query some.0.before some.0.now) in
          record { more = []; halt = halt; takes = inr (append-nil before, record { query = some.0.query; from = some.0.before; now = some.0.now; falls = some.1; stops = refl }) }
    ]

pub one_takes : (schema : Declared) (queries : List Query) (before : List StreamEvent) (list : List NumberedEvent) (end : RunStop) (events again : List StreamEvent) (halt other : RunStop) →
    TakesOn schema queries before list end events halt → TakesOn schema queries before list end again other → (events ≡ again) × (halt ≡ other)
one_takes schema queries before [] end events again halt other one two = (one.0 ∙ sym two.0, one.1 ∙ sym two.1)
one_takes schema queries before (e ∷ later) end events again halt other (inl x) (inl y) = one_takes schema queries (before ++ e.1 ∷ []) later end events again halt other x.1 y.1
one_takes schema queries before (e ∷ later) end events again halt other (inl x) (inr y) = absurd (not_in_time schema queries before e.1 e.0 other x.0 y.1)
one_takes schema queries before (e ∷ later) end events again halt other (inr x) (inl y) = absurd (not_in_time schema queries before e.1 e.0 halt y.0 x.1)
one_takes schema queries before (e ∷ later) end events again halt other (inr x) (inr y) = (x.0 ∙ sym y.0, one_time schema queries before e.1 e.0 halt other x.1 y.1)
