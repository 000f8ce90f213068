-- Laws of what is saved.
use Rattle.std.specs.Prelude.{◌≡◌, ℕ, ◌<◌, ◌≤◌, List, length, All, Ok}
use Rattle.stream_schema.specs.Types.{Declared, IsWellDeclared}
use Rattle.cel_terms.specs.declared.Query.{Query}
use Rattle.cel_terms.specs.Checked.{IsChecked}
use Rattle.checkpoint_text.specs.declared.numbers.TheConstants.{MOST_POSITIONS}
use Rattle.cer_base.specs.declared.limits.TheConstants.{MOST_BYTES}
use Rattle.checkpoint_text.specs.Checkpoints.{checkpoint_of}
use Rattle.checkpoint_text.specs.KeepLaws.{placed_lines, kept_lines, told_stream}
use Rattle.command_checkpoint.specs.Saved.{IsCheckpointOf}

-- The checkpoint of a file, if it is not too long to be read, is read as the stream of the file's events, of which those are known that some window still needs.
abbrev pub CheckpointsAreRead : Type 0
CheckpointsAreRead = (schema : Declared) (queries : List Query) (most_bytes : ℕ) (bytes text : List ℕ) → IsWellDeclared schema → All (IsChecked schema) queries →
    (saved : IsCheckpointOf schema queries most_bytes bytes text) → length saved.came ≤ MOST_POSITIONS → length text < MOST_BYTES →
    checkpoint_of schema queries text ≡ Ok (told_stream (length saved.came) (kept_lines schema queries (placed_lines saved.came)))
