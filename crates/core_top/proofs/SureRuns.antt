-- A job over a host that never fails ends well, or memory ran out.
use Rattle.std.proofs.Common.{◌≡◌, ℕ, List, Option, Some, None, refl, sym, ◌∙◌, ap, subst, arith, IsSomeAnd, cond, is_some}
use Rattle.cer_outside.specs.Causes.{Rose}
use Rattle.cer_outside.specs.Content.{Content, Missing, Holds}
use Rattle.cer_outside.specs.States.{FileState}
use Rattle.cer_outside.specs.Files.{file_under, content_of, content_under, sure_faults_under}
use Rattle.fault_notes.specs.declared.File.{File}
use Rattle.fault_notes.specs.declared.File.TheVariants as file
use Rattle.command_base.specs.declared.Cause.{Cause}
use Rattle.command_base.specs.declared.Cause.TheVariants as cause
use Rattle.command_base.specs.Tasks.{Task, HasCheckpoint, ReadsFile, ComesInTurn, name_in, name_of}
use Rattle.command_base.specs.Causes.{IsFineOrOutside, IsFineOrMemory}
use Rattle.core_top.specs.Jobs.{Job, task_of, AsksJob}
use Rattle.core_top.specs.Faults.{HasOpenFault, HasReadFault}
use Rattle.core_top.proofs.Words.{one_job}

-- a count that is 0 has not risen
pub never_rose : (before after : ℕ) → after ≡ 0 → Rose before after → ⊥
never_rose before after none rose = omega arith

-- a name that has bytes has no faults
none_of : (under : Option FileState) (bytes : List ℕ) (others : ℕ) → content_of under ≡ Holds bytes → cond (is_some under) 0 others ≡ 0
none_of None bytes others told = absurd (let wrong : Missing ≡ Holds bytes = told in cc)
none_of (Some file) bytes others told = refl

pub no_faults : (files : List FileState) (others : ℕ) (name bytes : List ℕ) → content_under files name ≡ Holds bytes → sure_faults_under files others name ≡ 0
no_faults files others name bytes told = none_of (file_under files name) bytes others told

-- none of the names has faults
pub no_name : (new : List ℕ → ℕ) (t : Task) → new t.queries ≡ 0 → (HasCheckpoint t → new (name_in t.checkpoint) ≡ 0) → new t.events ≡ 0 → (opened : File) → ReadsFile t opened → new (name_of opened t) ≡ 0
no_name new t first middle second file.Queries reads = first
no_name new t first middle second file.Checkpoint reads = middle reads
no_name new t first middle second file.Events reads = second

-- what comes in its turn is a file of the task
in_turn : (t : Task) (opened : File) (content : List ℕ → Content) → ComesInTurn t opened content → ReadsFile t opened
in_turn t file.Queries content turn = tt
in_turn t file.Checkpoint content turn = turn.0
in_turn t file.Events content turn = tt

-- no file of the words failed to open
pub never_open : (words : List (List ℕ)) (content : List ℕ → Content) (old new : List ℕ → ℕ) (job : Job) (opened : File) (before after : ℕ) →
    AsksJob words job → new (task_of job).queries ≡ 0 → (HasCheckpoint (task_of job) → new (name_in (task_of job).checkpoint) ≡ 0) → new (task_of job).events ≡ 0 → HasOpenFault words content old new opened before after → ⊥
never_open words content old new job opened before after is first middle second fault =
    let same = one_job words fault.job job fault.asked is in
    let R : Job → Type 0 = λ w. ReadsFile (task_of w) opened in
    let reads : ReadsFile (task_of job) opened = subst R same (in_turn (task_of fault.job) opened content fault.turn) in
    let here : new (name_of opened (task_of fault.job)) ≡ 0 = ap (λ (w : Job). new (name_of opened (task_of w))) same ∙ no_name new (task_of job) first middle second opened reads in
    never_rose before after (fault.to ∙ here) fault.rose

-- no source failed
pub never_read : {S : Type 0} (words : List (List ℕ)) (content : List ℕ → Content) (failed : Option S) (read : File) (after : ℕ) (faults : S → ℕ) (left : S → Option (List ℕ)) →
    ((source : S) → faults source ≡ 0) → IsSomeAnd failed (λ source. HasReadFault words content read after (faults source) (left source)) → ⊥
never_read words content None read after faults left none fault = fault
never_read words content (Some source) read after faults left none fault = never_rose 0 after (sym fault.told ∙ none source) fault.rose

-- what is left where nothing outside failed
pub fine_or_memory : (given : Cause) → IsFineOrOutside given → ((opened : File) (before after : ℕ) → given ≡ cause.OpenFault opened before after → ⊥) →
    ((read : File) (after : ℕ) → given ≡ cause.ReadFault read after → ⊥) → ((before after : ℕ) → given ≡ cause.WriteFault before after → ⊥) → IsFineOrMemory given
fine_or_memory cause.Fine ends opens reads writes = tt
fine_or_memory cause.Memory ends opens reads writes = tt
fine_or_memory cause.Usage ends opens reads writes = ends
fine_or_memory (cause.Queries fault place) ends opens reads writes = ends
fine_or_memory (cause.ClockKind name) ends opens reads writes = ends
fine_or_memory (cause.Event line fault) ends opens reads writes = ends
fine_or_memory (cause.InputTooLong taken) ends opens reads writes = ends
fine_or_memory (cause.Checkpoint line fault) ends opens reads writes = ends
fine_or_memory (cause.OpenFault opened before after) ends opens reads writes = opens opened before after refl
fine_or_memory (cause.ReadFault read after) ends opens reads writes = reads read after refl
fine_or_memory (cause.WriteFault before after) ends opens reads writes = writes before after refl
