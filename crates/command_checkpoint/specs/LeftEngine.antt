-- The engine that a run leaves which goes on from a checkpoint.
use Rattle.std.specs.Prelude.{◌≡◌, ℕ, List, Option, Ok, IsSomeAnd}
use Rattle.cer_outside.specs.Content.{Content, Holds}
use Rattle.query_engine.specs.Engine.{EngineState}
use Rattle.checkpoint_text.specs.declared.history.History.{History}
use Rattle.checkpoint_text.specs.Checkpoints.{checkpoint_of}
use Rattle.command_words.specs.declared.ResumeWords.{ResumeWords}
use Rattle.command_base.specs.Accepted.{Accepts}
use Rattle.command_checkpoint.specs.Resumed.{StandsForResumed}
use Rattle.command_checkpoint.specs.GoingOn.{resume_asked_of}

-- Where the host tells all three files, the engine stands for every stream of the history and then the events of the event file, which is read to its end. It was compacted after every so many of the latter, where that was asked for, and its nodes follow the windows; before any event it had none. Where no number was asked for, each of its queries is kept small.
pub record StandsForThreeFiles (content : List ℕ → Content) (r : ResumeWords) (engine : EngineState) : Type 0 where
  pub told : (text kept lines : List ℕ) → content r.queries ≡ Holds text → content r.checkpoint ≡ Holds kept → content r.events ≡ Holds lines →
      Accepts text engine.schema engine.queries × ((history : History) × (checkpoint_of engine.schema engine.queries kept ≡ Ok history)
      × StandsForResumed r.compact_every (λ query. 0) history (resume_asked_of r engine.schema engine.queries) lines engine)

-- an engine is left where all was well, and it stands for the files
abbrev pub resume_leaves : ResumeWords → (List ℕ → Content) → Option EngineState → Type 0
resume_leaves r content left = IsSomeAnd left (StandsForThreeFiles content r)
