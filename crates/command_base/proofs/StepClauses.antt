-- The steps of a command, as the parts of the program tell them to each other. For commands and `core_top`.
use Rattle.std.proofs.Common.{◌≡◌, ℕ, inl, inr, List, Option, Some, refl, ◌∙◌}
use Rattle.stream_schema.specs.Types.{Declared}
use Rattle.cel_terms.specs.declared.Query.{Query}
use Rattle.cer_outside.specs.Content.{Content, Holds, HasOpened, OfOpened}
use Rattle.event_run.specs.Runs.{RunStop}
use Rattle.fault_notes.specs.declared.File.TheVariants as file
use Rattle.command_base.specs.declared.Cause.{Cause}
use Rattle.command_base.specs.declared.Cause.TheVariants as cause
use Rattle.command_base.specs.Accepted.{Accepts}
use Rattle.command_base.specs.Notes.{NeedsMemory}
use Rattle.command_base.specs.StepCounts.{Counts, StepsBy, counts_where, counts_of_files}
use Rattle.command_base.specs.Sources.{Sources}
use Rattle.command_base.specs.Ending.{QueriesStop, IsOpening}
use Rattle.command_base.proofs.Told.{source_told, text_told}

-- what is counted one way is counted the other way
pub steps_map : (one other : Counts) → ((Stops : RunStop → Type 0) (Took : List ℕ → Type 0) (old now : ℕ) → one.all Stops Took old now → other.all Stops Took old now) →
    ((before after : Option (List ℕ)) (old now : ℕ) → one.at_fault before after old now → other.at_fault before after old now) → (given : Cause) (before after : Option (List ℕ)) (old now : ℕ) → StepsBy given one before after old now → StepsBy given other before after old now
steps_map one other all at cause.Fine before after old now h = all _ _ old now h
steps_map one other all at (cause.Event line fault) before after old now h = all _ _ old now h
steps_map one other all at (cause.InputTooLong taken) before after old now h = all _ _ old now h
steps_map one other all at (cause.ReadFault file.Events to) before after old now h = all _ _ old now h
steps_map one other all at (cause.WriteFault from to) before after old now h = at before after old now h
steps_map one other all at cause.Memory before after old now (inl none) = inl none
steps_map one other all at cause.Memory before after old now (inr some) = inr (all _ _ old now some)
steps_map one other all at (cause.Checkpoint line fault) before after old now h = h
steps_map one other all at (cause.ReadFault file.Queries to) before after old now h = h
steps_map one other all at (cause.ReadFault file.Checkpoint to) before after old now h = h
steps_map one other all at cause.Usage before after old now h = h
steps_map one other all at (cause.Queries fault place) before after old now h = h
steps_map one other all at (cause.ClockKind name) before after old now h = h
steps_map one other all at (cause.OpenFault opened from to) before after old now h = h

-- a command that ended before its last file was opened
abbrev pub IsEarly : Cause → Type 0
IsEarly cause.Usage = Unit {0}
IsEarly (cause.Queries fault place) = Unit {0}
IsEarly (cause.ClockKind name) = Unit {0}
IsEarly (cause.Checkpoint line fault) = Unit {0}
IsEarly (cause.OpenFault opened from to) = Unit {0}
IsEarly (cause.ReadFault file.Queries to) = Unit {0}
IsEarly (cause.ReadFault file.Checkpoint to) = Unit {0}
IsEarly cause.Memory = Unit {0}
IsEarly _ = ⊥

-- took no step
pub early_steps : (counts : Counts) (given : Cause) (before after : Option (List ℕ)) (now : ℕ) → IsEarly given → StepsBy given counts before after now now
early_steps counts cause.Usage before after now early = refl
early_steps counts (cause.Queries fault place) before after now early = refl
early_steps counts (cause.ClockKind name) before after now early = refl
early_steps counts (cause.Checkpoint line fault) before after now early = refl
early_steps counts (cause.OpenFault opened from to) before after now early = refl
early_steps counts (cause.ReadFault file.Queries to) before after now early = refl
early_steps counts (cause.ReadFault file.Checkpoint to) before after now early = refl
early_steps counts cause.Memory before after now early = inl refl
early_steps counts cause.Fine before after now early = absurd early
early_steps counts (cause.Event line fault) before after now early = absurd early
early_steps counts (cause.InputTooLong taken) before after now early = absurd early
early_steps counts (cause.ReadFault file.Events to) before after now early = absurd early
early_steps counts (cause.WriteFault from to) before after now early = absurd early

-- as one does whose last file was not opened,
pub is_opening : (given : Cause) → IsOpening given → IsEarly given
is_opening (cause.OpenFault opened from to) opening = tt
is_opening cause.Memory opening = tt
is_opening cause.Fine opening = absurd opening
is_opening cause.Usage opening = absurd opening
is_opening (cause.Queries fault place) opening = absurd opening
is_opening (cause.ClockKind name) opening = absurd opening
is_opening (cause.Event line fault) opening = absurd opening
is_opening (cause.InputTooLong taken) opening = absurd opening
is_opening (cause.Checkpoint line fault) opening = absurd opening
is_opening (cause.ReadFault read to) opening = absurd opening
is_opening (cause.WriteFault from to) opening = absurd opening

-- or one that has no queries.
pub has_no_queries : {S : Type 0} (sources : Sources S) (whole : Content) (from to : ℕ) (given : Cause) (failed : Option S) → QueriesStop sources whole from to given failed → IsEarly given
has_no_queries sources whole from to (cause.OpenFault opened x y) failed stops = tt
has_no_queries sources whole from to cause.Memory failed stops = tt
has_no_queries sources whole from to (cause.Queries fault place) failed stops = tt
has_no_queries sources whole from to (cause.ReadFault file.Queries y) failed stops = tt
has_no_queries sources whole from to (cause.ReadFault file.Checkpoint y) failed stops = absurd (let wrong = stops.0 in cc)
has_no_queries sources whole from to (cause.ReadFault file.Events y) failed stops = absurd (let wrong = stops.0 in cc)
has_no_queries sources whole from to (cause.ClockKind name) failed stops = absurd stops
has_no_queries sources whole from to cause.Fine failed stops = absurd stops
has_no_queries sources whole from to cause.Usage failed stops = absurd stops
has_no_queries sources whole from to (cause.Event line fault) failed stops = absurd stops
has_no_queries sources whole from to (cause.InputTooLong taken) failed stops = absurd stops
has_no_queries sources whole from to (cause.Checkpoint line fault) failed stops = absurd stops
has_no_queries sources whole from to (cause.WriteFault x y) failed stops = absurd stops

-- an early end is not a fine one
pub early_is_not_fine : (given : Cause) → IsEarly given → given ≡ cause.Fine → ⊥
early_is_not_fine cause.Fine early fine = early
early_is_not_fine cause.Usage early fine = cc
early_is_not_fine (cause.Queries fault place) early fine = cc
early_is_not_fine (cause.ClockKind name) early fine = cc
early_is_not_fine (cause.Event line fault) early fine = cc
early_is_not_fine (cause.InputTooLong taken) early fine = cc
early_is_not_fine (cause.Checkpoint line fault) early fine = cc
early_is_not_fine (cause.OpenFault opened from to) early fine = cc
early_is_not_fine (cause.ReadFault read to) early fine = cc
early_is_not_fine (cause.WriteFault from to) early fine = cc
early_is_not_fine cause.Memory early fine = cc

-- over a source that was opened, and so over the file
pub steps_of_source : (counts : List ℕ → Counts) (content : Content) (source : Option (List ℕ)) (given : Cause) (before after : Option (List ℕ)) (old now : ℕ) → HasOpened content source →
    StepsBy given (counts_where (λ bytes. source ≡ Some bytes) counts) before after old now → StepsBy given (counts_where (λ bytes. content ≡ Holds bytes) counts) before after old now
steps_of_source counts content source given before after old now opened h =
    steps_map (counts_where (λ bytes. source ≡ Some bytes) counts) (counts_where (λ bytes. content ≡ Holds bytes) counts)
    (λ Stops Took x y all bytes told. all bytes (source_told content source bytes opened told)) (λ b a x y at bytes told. at bytes (source_told content source bytes opened told)) given before after old now h

-- over the file, and so over both
pub steps_of_files : (counts : Declared → List Query → List ℕ → Counts) (content : List ℕ → Content) (lines_of : Content) (queries events : List ℕ) (schema : Declared) (qs : List Query) (given : Cause) (before after : Option (List ℕ)) (old now : ℕ) → lines_of ≡ content events →
    OfOpened (content queries) (λ text. Accepts text schema qs) →
    StepsBy given (counts_where (λ bytes. lines_of ≡ Holds bytes) (counts schema qs)) before after old now → StepsBy given (counts_of_files content queries events counts) before after old now
steps_of_files counts content lines_of queries events schema qs given before after old now same accepted h =
    steps_map (counts_where (λ bytes. lines_of ≡ Holds bytes) (counts schema qs)) (counts_of_files content queries events counts)
    (λ Stops Took x y all text lines first second. record { schema = schema; queries = qs; accepted = text_told (content queries) text (λ w. Accepts w schema qs) first accepted; says = all lines (same ∙ second) })
    (λ b a x y at text lines first second. record { schema = schema; queries = qs; accepted = text_told (content queries) text (λ w. Accepts w schema qs) first accepted; says = at lines (same ∙ second) }) given before after old now h

-- Steps that are counted are counted whatever stop and output they are told with.
pub record Forgets (counts : Counts) : Type 1 where
  pub all : (Stops : RunStop → Type 0) (Took : List ℕ → Type 0) (old now : ℕ) → counts.all Stops Took old now → counts.all (λ halt. Unit {0}) (λ bytes. Unit {0}) old now

-- a note for which there was no memory: memory is the cause then
pub steps_for_memory : (counts : Counts) → Forgets counts → (before after : Option (List ℕ)) (old now : ℕ) (told : Cause) → NeedsMemory told →
    StepsBy told counts before after old now → StepsBy cause.Memory counts before after old now
steps_for_memory counts less before after old now (cause.Queries fault place) needs h = inl h
steps_for_memory counts less before after old now (cause.ClockKind name) needs h = inl h
steps_for_memory counts less before after old now (cause.Event line fault) needs h = inr (less.all _ _ old now h)
steps_for_memory counts less before after old now (cause.InputTooLong taken) needs h = inr (less.all _ _ old now h)
steps_for_memory counts less before after old now (cause.Checkpoint line fault) needs h = inl h
steps_for_memory counts less before after old now cause.Fine needs h = absurd needs
steps_for_memory counts less before after old now cause.Usage needs h = absurd needs
steps_for_memory counts less before after old now (cause.OpenFault opened from to) needs h = absurd needs
steps_for_memory counts less before after old now (cause.ReadFault read to) needs h = absurd needs
steps_for_memory counts less before after old now (cause.WriteFault from to) needs h = absurd needs
steps_for_memory counts less before after old now cause.Memory needs h = absurd needs
