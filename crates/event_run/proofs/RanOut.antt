-- Steps where memory ran out.
use Rattle.std.proofs.Common.{◌≡◌, ℕ, ◌⊎◌, inl, inr, List, [], ◌∷◌, ◌++◌, Option, Some, Result, Ok, Err, refl, sym, ◌∙◌, ap, subst}
use Rattle.cer_base.specs.declared.OrMemory.{OrMemory}
use Rattle.cer_base.specs.declared.OrMemory.TheVariants.{Fault, Memory}
use Rattle.stream_schema.specs.Types.{Declared}
use Rattle.stream_schema.specs.declared.Event.{Event}
use Rattle.cel_terms.specs.declared.Query.{Query}
use Rattle.event_reader.specs.declared.EventFault.{EventFault}
use Rattle.event_reader.specs.Events.{event_of_line}
use Rattle.query_engine.specs.Clocks.{NoneFallsBack}
use Rattle.event_run.specs.Wanting.{OnMemory, AreWantingSteps, WantsSteps}

-- the same steps, where the engine's schema and queries and the first count have other names
pub wants_as : (schema now : Declared) (queries asked : List Query) (events : List Event) (Is ComesNext : Event → Type 0) (first before last : ℕ) → now ≡ schema → asked ≡ queries → before ≡ first →
    ((next : Event) → Is next → ComesNext next) → WantsSteps now asked events Is before last → WantsSteps schema queries events ComesNext first last
wants_as schema now queries asked events Is ComesNext first before last same alike at comes (inl none) = inl (none ∙ at)
wants_as schema now queries asked events Is ComesNext first before last same alike at comes (inr some) =
    let all = events ++ some.0 ∷ [] in
    let S : Declared → Type 0 = λ s. AreWantingSteps s asked all before last in
    let Q : List Query → Type 0 = λ qs. AreWantingSteps schema qs all before last in
    let N : ℕ → Type 0 = λ n. AreWantingSteps schema queries all n last in
    inr (some.0, comes some.0 some.1, subst N at (subst Q alike (subst S same some.2)))

-- memory ran out at the event of this line
pub wants_this : (T X : Type 0) (schema : Declared) (queries : List Query) (text : List ℕ) (events : List Event) (event : Event) (before last : ℕ) (e : OrMemory EventFault) → event_of_line schema text ≡ Ok (Some event) →
    OnMemory {T = T} (Err e) (NoneFallsBack schema queries events event × AreWantingSteps schema queries (events ++ event ∷ []) before last) →
    OnMemory {T = X} (Err e) (WantsSteps schema queries events (λ next. (event_of_line schema text ≡ Ok (Some next)) × NoneFallsBack schema queries events next) before last)
wants_this T X schema queries text events event before last (Fault fault) is wants = tt
wants_this T X schema queries text events event before last Memory is wants = inr (event, (is, wants.0), wants.1)

-- memory ran out before there was an event
pub wants_none : (T : Type 0) (schema : Declared) (queries : List Query) (events : List Event) (ComesNext : Event → Type 0) (before : ℕ) (e : OrMemory EventFault) → OnMemory {T = T} (Err e) (WantsSteps schema queries events ComesNext before before)
wants_none T schema queries events ComesNext before (Fault fault) = tt
wants_none T schema queries events ComesNext before Memory = inl refl
