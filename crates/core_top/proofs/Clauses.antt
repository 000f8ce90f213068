-- What the end of a task says of each answer of the program.
use Rattle.std.proofs.Common.{◌≡◌, ℕ, ◌⊎◌, List, Option, Some, None, refl, subst, inl, inr, IsSome, IsSomeAnd, ◌↔◌, ap}
use Rattle.cer_base.specs.declared.Location.{Location}
use Rattle.ceql_grammar.specs.declared.faults.QueryFault.{QueryFault}
use Rattle.cer_outside.specs.Content.{Content, Missing, Holds, OfOpened}
use Rattle.checkpoint_text.specs.declared.CheckpointFault.{CheckpointFault}
use Rattle.event_run.specs.Runs.{RunStop, End, Event, InputTooLong}
use Rattle.fault_notes.specs.declared.File.{File}
use Rattle.fault_notes.specs.declared.File.TheVariants as file
use Rattle.command_base.specs.declared.Cause.{Cause}
use Rattle.command_base.specs.declared.Cause.TheVariants as cause
use Rattle.command_base.specs.Accepted.{IsRefusedText}
use Rattle.command_base.specs.Tasks.{Task, ReadsFile, CheckpointHolds, TakesText, LacksItsClock, RefusesCheckpoint, TaskStops, HasFiles, name_of}
use Rattle.command_base.specs.Causes.{IsFromOutside, IsFineOrOutside, IsReading, EndsWithout}
use Rattle.command_base.specs.SourceBytes.{IsRestOf}
use Rattle.command_base.specs.Sources.{Sources}
use Rattle.command_base.specs.Ending.{Outside, FailedWith, FailedWhole, HasStopped, CauseHolds}
use Rattle.command_base.proofs.Told.{text_told}
use Rattle.command_base.proofs.Lawful.{IsLawful, takes_or_refuses, takes_or_lacks, lacks_or_refuses, one_refusal, one_clock, text_of_refusal, kept_or_refused, one_bad_line, kept_where_stopped, one_end, taken_where_stopped}

-- the same end by another name of the cause
pub at_cause : (P : Cause → Type 0) (given want : Cause) → given ≡ want → P given → P want
at_cause P given want same fact = subst P same fact

-- the task took its text, so it does not refuse it
not_refused : {S : Type 0} (o : Outside) (t : Task) (stop : RunStop) (failed : Option S) (text : List ℕ) (fault : QueryFault) (place : Location) →
    o.content t.queries ≡ Holds text → HasStopped o t stop failed → IsRefusedText text fault place → ⊥
not_refused o t stop failed text fault place same stopped refused = takes_or_refuses t text fault place (text_told _ text (TakesText t) same stopped.taken) refused

-- a refused query text has its cause
pub queries_whenever : {S : Type 0} (sources : Sources S) (o : Outside) (t : Task) (given : Cause) (failed : Option S) (text : List ℕ) (fault : QueryFault) (place : Location) →
    o.content t.queries ≡ Holds text → CauseHolds sources o t given failed → IsRefusedText text fault place → (given ≡ cause.Queries fault place) ⊎ IsFromOutside given
queries_whenever sources o t cause.Fine failed text fault place same holds refused = absurd (not_refused o t End failed text fault place same holds refused)
queries_whenever sources o t cause.Usage failed text fault place same holds refused = absurd holds
queries_whenever sources o t (cause.Queries other there) failed text fault place same holds refused =
    inl (one_refusal text other fault there place (text_told _ text (λ w. IsRefusedText w other there) same holds.2) refused)
queries_whenever sources o t (cause.ClockKind name) failed text fault place same holds refused =
    absurd (lacks_or_refuses t text name fault place (text_told _ text (λ w. LacksItsClock t w name) same holds.2) refused)
queries_whenever sources o t (cause.Event line other) failed text fault place same holds refused = absurd (not_refused o t (Event line other) failed text fault place same holds refused)
queries_whenever sources o t (cause.InputTooLong taken) failed text fault place same holds refused = absurd (not_refused o t (InputTooLong taken) failed text fault place same holds refused)
queries_whenever sources o t (cause.Checkpoint line other) failed text fault place same holds refused = absurd (takes_or_refuses t text fault place (text_told _ text (TakesText t) same holds.2) refused)
queries_whenever sources o t (cause.OpenFault opened before after) failed text fault place same holds refused = inr tt
queries_whenever sources o t (cause.ReadFault read after) failed text fault place same holds refused = inr tt
queries_whenever sources o t (cause.WriteFault before after) failed text fault place same holds refused = inr tt
queries_whenever sources o t cause.Memory failed text fault place same holds refused = inr tt

-- the task took its text, so it does not lack its clock
not_lacked : {S : Type 0} (o : Outside) (t : Task) (stop : RunStop) (failed : Option S) (text name : List ℕ) → o.content t.queries ≡ Holds text → HasStopped o t stop failed → LacksItsClock t text name → ⊥
not_lacked o t stop failed text name same stopped lacks = takes_or_lacks t text name (text_told _ text (TakesText t) same stopped.taken) lacks

-- a clock that is lacked has its cause
pub clock_whenever : {S : Type 0} (sources : Sources S) (o : Outside) (t : Task) (given : Cause) (failed : Option S) (text name : List ℕ) →
    o.content t.queries ≡ Holds text → CauseHolds sources o t given failed → LacksItsClock t text name → (given ≡ cause.ClockKind name) ⊎ IsFromOutside given
clock_whenever sources o t cause.Fine failed text name same holds lacks = absurd (not_lacked o t End failed text name same holds lacks)
clock_whenever sources o t cause.Usage failed text name same holds lacks = absurd holds
clock_whenever sources o t (cause.Queries fault place) failed text name same holds lacks =
    absurd (lacks_or_refuses t text name fault place lacks (text_told _ text (λ w. IsRefusedText w fault place) same holds.2))
clock_whenever sources o t (cause.ClockKind other) failed text name same holds lacks = inl (one_clock t text other name (text_told _ text (λ w. LacksItsClock t w other) same holds.2) lacks)
clock_whenever sources o t (cause.Event line fault) failed text name same holds lacks = absurd (not_lacked o t (Event line fault) failed text name same holds lacks)
clock_whenever sources o t (cause.InputTooLong taken) failed text name same holds lacks = absurd (not_lacked o t (InputTooLong taken) failed text name same holds lacks)
clock_whenever sources o t (cause.Checkpoint line fault) failed text name same holds lacks = absurd (takes_or_lacks t text name (text_told _ text (TakesText t) same holds.2) lacks)
clock_whenever sources o t (cause.OpenFault opened before after) failed text name same holds lacks = inr tt
clock_whenever sources o t (cause.ReadFault read after) failed text name same holds lacks = inr tt
clock_whenever sources o t (cause.WriteFault before after) failed text name same holds lacks = inr tt
clock_whenever sources o t cause.Memory failed text name same holds lacks = inr tt

-- the task went on, so it does not refuse its checkpoint
not_bad : {S : Type 0} (o : Outside) (t : Task) (stop : RunStop) (failed : Option S) (text kept : List ℕ) (line : ℕ) (fault : CheckpointFault) →
    o.content t.queries ≡ Holds text → CheckpointHolds o.content t kept → HasStopped o t stop failed → RefusesCheckpoint t text kept line fault → ⊥
not_bad o t stop failed text kept line fault first second stopped refused = kept_or_refused t text kept line fault (stopped.resumed.taken text kept first second) refused

-- a refused checkpoint has its cause
pub checkpoint_whenever : {S : Type 0} (sources : Sources S) (o : Outside) (t : Task) (given : Cause) (failed : Option S) (text kept : List ℕ) (line : ℕ) (fault : CheckpointFault) →
    o.content t.queries ≡ Holds text → CheckpointHolds o.content t kept → CauseHolds sources o t given failed → RefusesCheckpoint t text kept line fault → (given ≡ cause.Checkpoint line fault) ⊎ IsFromOutside given
checkpoint_whenever sources o t cause.Fine failed text kept line fault first second holds refused = absurd (not_bad o t End failed text kept line fault first second holds refused)
checkpoint_whenever sources o t cause.Usage failed text kept line fault first second holds refused = absurd holds
checkpoint_whenever sources o t (cause.Queries other place) failed text kept line fault first second holds refused =
    absurd (takes_or_refuses t text other place (text_of_refusal t text kept line fault refused) (text_told _ text (λ w. IsRefusedText w other place) first holds.2))
checkpoint_whenever sources o t (cause.ClockKind name) failed text kept line fault first second holds refused =
    absurd (takes_or_lacks t text name (text_of_refusal t text kept line fault refused) (text_told _ text (λ w. LacksItsClock t w name) first holds.2))
checkpoint_whenever sources o t (cause.Checkpoint there other) failed text kept line fault first second holds refused =
    inl (one_bad_line t text kept there line other fault (holds.3.refused text kept first second) refused)
checkpoint_whenever sources o t (cause.Event number other) failed text kept line fault first second holds refused = absurd (not_bad o t (Event number other) failed text kept line fault first second holds refused)
checkpoint_whenever sources o t (cause.InputTooLong taken) failed text kept line fault first second holds refused = absurd (not_bad o t (InputTooLong taken) failed text kept line fault first second holds refused)
checkpoint_whenever sources o t (cause.OpenFault opened before after) failed text kept line fault first second holds refused = inr tt
checkpoint_whenever sources o t (cause.ReadFault read after) failed text kept line fault first second holds refused = inr tt
checkpoint_whenever sources o t (cause.WriteFault before after) failed text kept line fault first second holds refused = inr tt
checkpoint_whenever sources o t cause.Memory failed text kept line fault first second holds refused = inr tt

-- the cause of each stop
abbrev pub cause_of : RunStop → Cause
cause_of End = cause.Fine
cause_of (Event line fault) = cause.Event line fault
cause_of (InputTooLong taken) = cause.InputTooLong taken

-- the task stopped so, so that is its cause
stopped_so : {S : Type 0} (o : Outside) (t : Task) (law : IsLawful t) (was : RunStop) (failed : Option S) (text kept lines : List ℕ) (stop : RunStop) →
    o.content t.queries ≡ Holds text → CheckpointHolds o.content t kept → o.content t.events ≡ Holds lines → HasStopped o t was failed → TaskStops t text kept lines stop → cause_of was ≡ cause_of stop
stopped_so o t law was failed text kept lines stop first middle second stopped stops =
    ap cause_of (one_end t law text kept lines was stop (stopped.stops text kept lines first middle second) stops)

-- a stop of the events has its cause
pub stop_whenever : {S : Type 0} (sources : Sources S) (o : Outside) (t : Task) (law : IsLawful t) (given : Cause) (failed : Option S) (text kept lines : List ℕ) (stop : RunStop) →
    o.content t.queries ≡ Holds text → CheckpointHolds o.content t kept → o.content t.events ≡ Holds lines → CauseHolds sources o t given failed →
    TaskStops t text kept lines stop → (given ≡ cause_of stop) ⊎ IsFromOutside given
stop_whenever sources o t law cause.Fine failed text kept lines stop first middle second holds stops = inl (stopped_so o t law End failed text kept lines stop first middle second holds stops)
stop_whenever sources o t law cause.Usage failed text kept lines stop first middle second holds stops = absurd holds
stop_whenever sources o t law (cause.Queries fault place) failed text kept lines stop first middle second holds stops =
    absurd (takes_or_refuses t text fault place (taken_where_stopped t text kept lines stop stops) (text_told _ text (λ w. IsRefusedText w fault place) first holds.2))
stop_whenever sources o t law (cause.ClockKind name) failed text kept lines stop first middle second holds stops =
    absurd (takes_or_lacks t text name (taken_where_stopped t text kept lines stop stops) (text_told _ text (λ w. LacksItsClock t w name) first holds.2))
stop_whenever sources o t law (cause.Event line fault) failed text kept lines stop first middle second holds stops = inl (stopped_so o t law (Event line fault) failed text kept lines stop first middle second holds stops)
stop_whenever sources o t law (cause.InputTooLong taken) failed text kept lines stop first middle second holds stops = inl (stopped_so o t law (InputTooLong taken) failed text kept lines stop first middle second holds stops)
stop_whenever sources o t law (cause.Checkpoint line fault) failed text kept lines stop first middle second holds stops =
    absurd (kept_or_refused t text kept line fault (kept_where_stopped t text kept lines stop stops) (holds.3.refused text kept first middle))
stop_whenever sources o t law (cause.OpenFault opened before after) failed text kept lines stop first middle second holds stops = inr tt
stop_whenever sources o t law (cause.ReadFault read after) failed text kept lines stop first middle second holds stops = inr tt
stop_whenever sources o t law (cause.WriteFault before after) failed text kept lines stop first middle second holds stops = inr tt
stop_whenever sources o t law cause.Memory failed text kept lines stop first middle second holds stops = inr tt

-- and the other way round
pub stops_of_cause : {S : Type 0} (sources : Sources S) (o : Outside) (t : Task) (failed : Option S) (text kept lines : List ℕ) (stop : RunStop) →
    o.content t.queries ≡ Holds text → CheckpointHolds o.content t kept → o.content t.events ≡ Holds lines → CauseHolds sources o t (cause_of stop) failed → TaskStops t text kept lines stop
stops_of_cause sources o t failed text kept lines End first middle second holds = holds.stops text kept lines first middle second
stops_of_cause sources o t failed text kept lines (Event line fault) first middle second holds = holds.stops text kept lines first middle second
stops_of_cause sources o t failed text kept lines (InputTooLong taken) first middle second holds = holds.stops text kept lines first middle second

-- fine, or the outside
pub fine_or_outside : (given : Cause) → (given ≡ cause.Fine) ⊎ IsFromOutside given → IsFineOrOutside given
fine_or_outside cause.Fine way = tt
fine_or_outside cause.Usage (inl same) = let wrong : cause.Usage ≡ cause.Fine = same in absurd cc
fine_or_outside cause.Usage (inr outside) = outside
fine_or_outside (cause.Queries fault place) (inl same) = absurd cc
fine_or_outside (cause.Queries fault place) (inr outside) = outside
fine_or_outside (cause.ClockKind name) (inl same) = absurd cc
fine_or_outside (cause.ClockKind name) (inr outside) = outside
fine_or_outside (cause.Event line fault) (inl same) = absurd cc
fine_or_outside (cause.Event line fault) (inr outside) = outside
fine_or_outside (cause.InputTooLong taken) (inl same) = absurd cc
fine_or_outside (cause.Checkpoint line fault) (inl same) = absurd cc
fine_or_outside (cause.InputTooLong taken) (inr outside) = outside
fine_or_outside (cause.Checkpoint line fault) (inr outside) = outside
fine_or_outside (cause.OpenFault opened before after) way = tt
fine_or_outside (cause.ReadFault read after) way = tt
fine_or_outside (cause.WriteFault before after) way = tt
fine_or_outside cause.Memory way = tt

-- none is not some
pub no_source : {S : Type 0} (failed : Option S) → failed ≡ None → IsSome failed → ⊥
no_source {S} failed none some = let P : Option S → Type 0 = IsSome in let wrong = subst P none some in cc

-- some with a fact is some
pub some_source : {S : Type 0} (failed : Option S) (P : S → Type 0) → IsSomeAnd failed P → IsSome failed
some_source None P fact = absurd fact
some_source (Some source) P fact = refl

-- a source failed exactly where reading did
pub failed_reading : {S : Type 0} (sources : Sources S) (o : Outside) (t : Task) (given : Cause) (failed : Option S) → CauseHolds sources o t given failed → IsSome failed ↔ IsReading given
failed_reading sources o t cause.Fine failed holds = (no_source failed holds.none, λ h. absurd h)
failed_reading sources o t cause.Usage failed holds = absurd holds
failed_reading sources o t (cause.Queries fault place) failed holds = (no_source failed holds.0, λ h. absurd h)
failed_reading sources o t (cause.ClockKind name) failed holds = (no_source failed holds.0, λ h. absurd h)
failed_reading sources o t (cause.Event line fault) failed holds = (no_source failed holds.none, λ h. absurd h)
failed_reading sources o t (cause.InputTooLong taken) failed holds = (no_source failed holds.none, λ h. absurd h)
failed_reading sources o t (cause.Checkpoint line fault) failed holds = (no_source failed holds.0, λ h. absurd h)
failed_reading sources o t (cause.OpenFault opened before after) failed holds = (no_source failed holds.0, λ h. absurd h)
failed_reading sources o t (cause.ReadFault file.Queries after) failed holds = (λ h. tt, λ h. some_source failed _ holds.1)
failed_reading sources o t (cause.ReadFault file.Checkpoint after) failed holds = (λ h. tt, λ h. some_source failed _ holds.2)
failed_reading sources o t (cause.ReadFault file.Events after) failed holds = (λ h. tt, λ h. some_source failed _ holds.1)
failed_reading sources o t (cause.WriteFault before after) failed holds = (no_source failed holds.0, λ h. absurd h)
failed_reading sources o t cause.Memory failed holds = (no_source failed holds.0, λ h. absurd h)

-- a missing file was not opened,
not_opened : (content : Content) (P : List ℕ → Type 0) → content ≡ Missing → OfOpened content P → ⊥
not_opened content P missing fact = let Q : Content → Type 0 = λ w. OfOpened w P in subst Q missing fact

-- not read,
not_left : (content : Content) (left : Option (List ℕ)) → content ≡ Missing → IsRestOf content left → ⊥
not_left content left missing rest = let Q : Content → Type 0 = λ w. IsRestOf w left in subst Q missing rest

not_read : {S : Type 0} (sources : Sources S) (content : Content) (after : ℕ) (failed : Option S) → content ≡ Missing → IsSomeAnd failed (FailedWith sources content after) → ⊥
not_read sources content after None missing fact = fact
not_read sources content after (Some source) missing fact = not_left content (sources.left source) missing fact.rest

not_read_whole : {S : Type 0} (sources : Sources S) (content : Content) (after : ℕ) (failed : Option S) → content ≡ Missing → IsSomeAnd failed (FailedWhole sources content after) → ⊥
not_read_whole sources content after None missing fact = fact
not_read_whole sources content after (Some source) missing fact = not_left content (sources.left source) missing fact.failed.rest

-- and lacking.
lacks : (o : Outside) (t : Task) (lost : File) → ReadsFile t lost → o.content (name_of lost t) ≡ Missing → HasFiles o.content t → ⊥
lacks o t file.Queries reads missing files = files.queries missing
lacks o t file.Checkpoint reads missing files = files.checkpoint reads missing
lacks o t file.Events reads missing files = files.events missing

-- A task that lacks a file ends without it.
pub ends_without : {S : Type 0} (sources : Sources S) (o : Outside) (t : Task) (given : Cause) (failed : Option S) (lost : File) → ReadsFile t lost →
    o.content (name_of lost t) ≡ Missing → CauseHolds sources o t given failed → EndsWithout lost given × (o.after ≡ o.before)
ends_without sources o t cause.Fine failed lost reads missing holds = absurd (lacks o t lost reads missing holds.files)
ends_without sources o t cause.Usage failed lost reads missing holds = absurd holds
ends_without sources o t (cause.Queries fault place) failed file.Queries reads missing holds = absurd (not_opened _ (λ text. IsRefusedText text fault place) missing holds.2)
ends_without sources o t (cause.Queries fault place) failed file.Checkpoint reads missing holds = (tt, holds.1)
ends_without sources o t (cause.Queries fault place) failed file.Events reads missing holds = (tt, holds.1)
ends_without sources o t (cause.ClockKind name) failed file.Queries reads missing holds = absurd (not_opened _ (λ text. LacksItsClock t text name) missing holds.2)
ends_without sources o t (cause.ClockKind name) failed file.Checkpoint reads missing holds = (tt, holds.1)
ends_without sources o t (cause.ClockKind name) failed file.Events reads missing holds = (tt, holds.1)
ends_without sources o t (cause.Checkpoint line fault) failed file.Queries reads missing holds = absurd (not_opened _ (TakesText t) missing holds.2)
ends_without sources o t (cause.Checkpoint line fault) failed file.Checkpoint reads missing holds = absurd (holds.3.has missing)
ends_without sources o t (cause.Checkpoint line fault) failed file.Events reads missing holds = (tt, holds.1)
ends_without sources o t (cause.Event line fault) failed lost reads missing holds = absurd (lacks o t lost reads missing holds.files)
ends_without sources o t (cause.InputTooLong taken) failed lost reads missing holds = absurd (lacks o t lost reads missing holds.files)
ends_without sources o t (cause.OpenFault file.Queries before after) failed file.Queries reads missing holds = (inl refl, holds.1)
ends_without sources o t (cause.OpenFault file.Queries before after) failed file.Checkpoint reads missing holds = (inr tt, holds.1)
ends_without sources o t (cause.OpenFault file.Queries before after) failed file.Events reads missing holds = (inr tt, holds.1)
ends_without sources o t (cause.OpenFault file.Checkpoint before after) failed file.Queries reads missing holds = absurd (not_opened _ (TakesText t) missing holds.2.1)
ends_without sources o t (cause.OpenFault file.Checkpoint before after) failed file.Checkpoint reads missing holds = (inl refl, holds.1)
ends_without sources o t (cause.OpenFault file.Checkpoint before after) failed file.Events reads missing holds = (inr tt, holds.1)
ends_without sources o t (cause.OpenFault file.Events before after) failed file.Queries reads missing holds = absurd (not_opened _ (TakesText t) missing holds.2.0)
ends_without sources o t (cause.OpenFault file.Events before after) failed file.Checkpoint reads missing holds = absurd (holds.2.1.has reads missing)
ends_without sources o t (cause.OpenFault file.Events before after) failed file.Events reads missing holds = (inl refl, holds.1)
ends_without sources o t (cause.ReadFault file.Queries after) failed file.Queries reads missing holds = absurd (not_read_whole sources _ after failed missing holds.1)
ends_without sources o t (cause.ReadFault file.Queries after) failed file.Checkpoint reads missing holds = (tt, holds.0)
ends_without sources o t (cause.ReadFault file.Queries after) failed file.Events reads missing holds = (tt, holds.0)
ends_without sources o t (cause.ReadFault file.Checkpoint after) failed file.Queries reads missing holds = absurd (not_opened _ (TakesText t) missing holds.1.1)
ends_without sources o t (cause.ReadFault file.Checkpoint after) failed file.Checkpoint reads missing holds = absurd (not_read sources _ after failed missing holds.2)
ends_without sources o t (cause.ReadFault file.Checkpoint after) failed file.Events reads missing holds = (tt, holds.0)
ends_without sources o t (cause.ReadFault file.Events after) failed file.Queries reads missing holds = absurd (not_opened _ (TakesText t) missing holds.0.0)
ends_without sources o t (cause.ReadFault file.Events after) failed file.Checkpoint reads missing holds = absurd (holds.0.1.has reads missing)
ends_without sources o t (cause.ReadFault file.Events after) failed file.Events reads missing holds = absurd (not_read sources _ after failed missing holds.1)
ends_without sources o t (cause.WriteFault before after) failed lost reads missing holds = absurd (lacks o t lost reads missing holds.1)
ends_without sources o t cause.Memory failed lost reads missing holds =
    (tt, elim holds.1 [ inl kept ↦ kept | inr files ↦ absurd (lacks o t lost reads missing files) ])
