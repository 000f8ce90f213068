-- What holds of each task, which its command proves, and what follows for every task. For commands and `core_top`.
use Rattle.std.proofs.Common.{◌≡◌, ℕ, true, true≢false, List, map, Option, Some, sym, ◌∙◌, ap, subst}
use Rattle.cer_base.specs.declared.Location.{Location}
use Rattle.stream_schema.specs.Types.{Declared}
use Rattle.cel_terms.specs.declared.Query.{Query}
use Rattle.ceql_grammar.specs.declared.faults.QueryFault.{QueryFault}
use Rattle.ceql_grammar.specs.declared.faults.QueryError.{QueryError}
use Rattle.ceql_parser.specs.QueryTrees.{QueryTree, query_tree}
use Rattle.ceql_parser.proofs.TextAnswers.{one_text_answer}
use Rattle.cer_outside.specs.Content.{Content, OfOpened}
use Rattle.event_run.specs.Runs.{RunStop, Event, InputTooLong}
use Rattle.event_reader.specs.declared.EventFault.{EventFault}
use Rattle.checkpoint_text.specs.declared.CheckpointFault.{CheckpointFault}
use Rattle.checkpoint_text.specs.Checkpoints.{Refusal, checkpoint_of}
use Rattle.command_base.proofs.Told.{opened_map}
use Rattle.command_base.proofs.SameCheckpoint.{checkpoint_alike}
use Rattle.command_base.specs.declared.Cause.{Cause}
use Rattle.command_base.specs.declared.Cause.TheVariants as cause
use Rattle.command_base.specs.Accepted.{Accepts, IsRefusedText}
use Rattle.command_base.specs.Tasks.{Task, TakesText, LacksItsClock, TakesCheckpoint, RefusesCheckpoint, TaskStops}
use Rattle.command_base.specs.Output.{WroteBy}
use Rattle.command_base.specs.Notes.{NeedsMemory}

-- Events stop in one way, for queries that say the same; where the events of a task ended, by a refused line or too many bytes, or nothing was written, that is also what may be where memory ran out.
pub record IsLawful (t : Task) : Type 1 where
  pub one : (schema : Declared) (p q : List Query) (kept lines : List ℕ) (halt other : RunStop) → map query_tree p ≡ map query_tree q → t.stops schema p kept lines halt → t.stops schema q kept lines other → halt ≡ other
  pub refused : (content : List ℕ → Content) (before after : Option (List ℕ)) (line : ℕ) (fault : EventFault) → (t.said content before after).stops (Event line fault) → (t.said content before after).wants
  pub too_long : (content : List ℕ → Content) (before after : Option (List ℕ)) (taken : ℕ) → (t.said content before after).stops (InputTooLong taken) → (t.said content before after).wants
  pub nothing : (content : List ℕ → Content) (before after : Option (List ℕ)) → after ≡ before → (t.said content before after).wants

-- a text is not both accepted and refused
pub not_both : (text : List ℕ) (fault : QueryFault) (place : Location) (schema : Declared) (queries : List Query) → Accepts text schema queries → IsRefusedText text fault place → ⊥
not_both text fault place schema queries accepted refused =
    let same = one_text_answer text _ _ accepted refused in cc

-- a text has one fault, at one place
pub one_refusal : (text : List ℕ) (fault other : QueryFault) (place there : Location) → IsRefusedText text fault place → IsRefusedText text other there → cause.Queries fault place ≡ cause.Queries other there
one_refusal text fault other place there refused again =
    let same = one_text_answer text _ _ refused again in
    let error : ◌≡◌ {A = QueryError} (record { fault = fault; place = place }) (record { fault = other; place = there }) = cc in
    ap (λ (e : QueryError). cause.Queries e.fault e.place) error

-- what a text is accepted as: one schema, and queries that say the same
pub accepted_schema : (text : List ℕ) (s t : Declared) (p q : List Query) → Accepts text s p → Accepts text t q → s ≡ t
accepted_schema text s t p q one other =
    let same = one_text_answer text _ _ one other in
    let pair : ◌≡◌ {A = Declared × List QueryTree} (s, map query_tree p) (t, map query_tree q) = cc in
    ap (λ (x : Declared × List QueryTree). x.0) pair

pub accepted_trees : (text : List ℕ) (s t : Declared) (p q : List Query) → Accepts text s p → Accepts text t q → map query_tree p ≡ map query_tree q
accepted_trees text s t p q one other =
    let same = one_text_answer text _ _ one other in
    let pair : ◌≡◌ {A = Declared × List QueryTree} (s, map query_tree p) (t, map query_tree q) = cc in
    ap (λ (x : Declared × List QueryTree). x.1) pair

-- what a checkpoint tells for the queries of a text is one thing
pub told_alike : (text : List ℕ) (s t : Declared) (p q : List Query) (kept : List ℕ) → Accepts text s p → Accepts text t q → checkpoint_of s p kept ≡ checkpoint_of t q kept
told_alike text s t p q kept one other =
    let trees = accepted_trees text s t p q one other in
    let schemas = accepted_schema text s t p q one other in
    checkpoint_alike s p q trees kept ∙ ap (λ (d : Declared). checkpoint_of d q kept) schemas

-- a text that is accepted for a schema that fits is taken
pub takes_accepted : (content : Content) (t : Task) (schema : Declared) (queries : List Query) → t.fits schema ≡ true → OfOpened content (λ text. Accepts text schema queries) → OfOpened content (TakesText t)
takes_accepted content t schema queries fits accepted =
    opened_map content (λ text. Accepts text schema queries) (TakesText t) (λ text is. record { schema = schema; queries = queries; accepted = is; says = fits }) accepted

-- No task takes a text whose clock it lacks,
pub takes_or_lacks : (t : Task) (text name : List ℕ) → TakesText t text → LacksItsClock t text name → ⊥
takes_or_lacks t text name taken lacks =
    let same = accepted_schema text taken.schema lacks.1.schema taken.queries lacks.1.queries taken.accepted lacks.1.accepted in
    true≢false (sym taken.says ∙ ap t.fits same ∙ lacks.1.says)

-- nor one that is refused.
pub takes_or_refuses : (t : Task) (text : List ℕ) (fault : QueryFault) (place : Location) → TakesText t text → IsRefusedText text fault place → ⊥
takes_or_refuses t text fault place taken refused = not_both text fault place taken.schema taken.queries taken.accepted refused

pub lacks_or_refuses : (t : Task) (text name : List ℕ) (fault : QueryFault) (place : Location) → LacksItsClock t text name → IsRefusedText text fault place → ⊥
lacks_or_refuses t text name fault place lacks refused = not_both text fault place lacks.1.schema lacks.1.queries lacks.1.accepted refused

-- The clock is one.
pub one_clock : (t : Task) (text name other : List ℕ) → LacksItsClock t text name → LacksItsClock t text other → cause.ClockKind name ≡ cause.ClockKind other
one_clock t text name other lacks again = (let one : Some name ≡ Some other = sym lacks.0 ∙ again.0 in cc)

-- The events stop in one way,
pub one_end : (t : Task) (law : IsLawful t) (text kept lines : List ℕ) (halt other : RunStop) → TaskStops t text kept lines halt → TaskStops t text kept lines other → halt ≡ other
one_end t law text kept lines halt other one two =
    let P : Declared → Type 0 = λ d. t.stops d two.queries kept lines other in
    let again = subst P (sym (accepted_schema text one.schema two.schema one.queries two.queries one.accepted two.accepted)) two.stops in
    law.one one.schema one.queries two.queries kept lines halt other (accepted_trees text one.schema two.schema one.queries two.queries one.accepted two.accepted) one.stops again

-- only after a text that is taken
pub taken_where_stopped : (t : Task) (text kept lines : List ℕ) (halt : RunStop) → TaskStops t text kept lines halt → TakesText t text
taken_where_stopped t text kept lines halt stops = record { schema = stops.schema; queries = stops.queries; accepted = stops.accepted; says = stops.fits }

-- and a checkpoint that is taken.
pub kept_where_stopped : (t : Task) (text kept lines : List ℕ) (halt : RunStop) → TaskStops t text kept lines halt → TakesCheckpoint t text kept
kept_where_stopped t text kept lines halt stops = λ has. record { schema = stops.schema; queries = stops.queries; accepted = stops.accepted; says = stops.history has }

-- A checkpoint is not both taken and refused,
pub kept_or_refused : (t : Task) (text kept : List ℕ) (line : ℕ) (fault : CheckpointFault) → TakesCheckpoint t text kept → RefusesCheckpoint t text kept line fault → ⊥
kept_or_refused t text kept line fault takes refused =
    let taken = takes refused.0 in
    let r = refused.1 in
    let same = told_alike text taken.schema r.schema taken.queries r.queries kept taken.accepted r.accepted in
    let wrong = sym taken.says.1 ∙ same ∙ r.says.1 in cc

-- is refused at one line, for one reason
pub one_bad_line : (t : Task) (text kept : List ℕ) (line there : ℕ) (fault other : CheckpointFault) → RefusesCheckpoint t text kept line fault → RefusesCheckpoint t text kept there other → cause.Checkpoint line fault ≡ cause.Checkpoint there other
one_bad_line t text kept line there fault other refused again =
    let r = refused.1 in
    let a = again.1 in
    let same = told_alike text r.schema a.schema r.queries a.queries kept r.accepted a.accepted in
    let answers = sym r.says.1 ∙ same ∙ a.says.1 in
    let refusal : ◌≡◌ {A = Refusal} (record { line = line; fault = fault }) (record { line = there; fault = other }) = cc in
    ap (λ (e : Refusal). cause.Checkpoint e.line e.fault) refusal

-- and only after a text that is taken.
pub text_of_refusal : (t : Task) (text kept : List ℕ) (line : ℕ) (fault : CheckpointFault) → RefusesCheckpoint t text kept line fault → TakesText t text
text_of_refusal t text kept line fault refused = let r = refused.1 in record { schema = r.schema; queries = r.queries; accepted = r.accepted; says = r.says.0 }

-- What was written before a note that was not made is what was written where memory ran out.
pub wrote_for_memory : (t : Task) (law : IsLawful t) (told : Cause) (content : List ℕ → Content) (left other before after : Option (List ℕ)) → NeedsMemory told → WroteBy told content t left before after → WroteBy cause.Memory content t other before after
wrote_for_memory t law (cause.Queries fault place) content left other before after needs wrote = law.nothing content before after wrote
wrote_for_memory t law (cause.ClockKind name) content left other before after needs wrote = law.nothing content before after wrote.1
wrote_for_memory t law (cause.Checkpoint line fault) content left other before after needs wrote = law.nothing content before after wrote.1
wrote_for_memory t law (cause.Event line fault) content left other before after needs wrote = law.refused content before after line fault wrote
wrote_for_memory t law (cause.InputTooLong taken) content left other before after needs wrote = law.too_long content before after taken wrote
wrote_for_memory t law cause.Fine content left other before after needs wrote = absurd needs
wrote_for_memory t law cause.Usage content left other before after needs wrote = absurd needs
wrote_for_memory t law (cause.OpenFault opened from to) content left other before after needs wrote = absurd needs
wrote_for_memory t law (cause.ReadFault read to) content left other before after needs wrote = absurd needs
wrote_for_memory t law (cause.WriteFault from to) content left other before after needs wrote = absurd needs
wrote_for_memory t law cause.Memory content left other before after needs wrote = absurd needs
