-- What a sink has of the bytes that were to be written, by how the call ended.
use Rattle.std.specs.Prelude.{◌≡◌, ℕ, ◌≤◌, List, ◌++◌, length, take, Option, Some, None, Result, Ok, Err}
use Rattle.cer_base.specs.declared.OrMemory.{OrMemory}
use Rattle.cer_base.specs.declared.OrMemory.TheVariants.{Fault, Memory}
use Rattle.cer_outside.specs.Bytes.{TookAll, TookPart}

-- a first part of the bytes, perhaps all of them
pub record IsPart (before after bytes : List ℕ) : Type 0 where
  pub count : ℕ
  pub within : count ≤ length bytes
  pub took : after ≡ before ++ take count bytes

-- Of an object that tells its bytes: it took a first part of them.
abbrev pub TookPrefix : Option (List ℕ) → Option (List ℕ) → List ℕ → Type 0
TookPrefix None after bytes = after ≡ None
TookPrefix (Some before) None bytes = ⊥
TookPrefix (Some before) (Some after) bytes = IsPart before after bytes

-- all of the bytes, after a fault a proper first part, and where memory ran out a first part
abbrev pub TookBy : {T F : Type 0} → Option (List ℕ) → Option (List ℕ) → List ℕ → Result T (OrMemory F) → Type 0
TookBy before after bytes (Ok done) = TookAll before after bytes
TookBy before after bytes (Err (Fault f)) = TookPart before after bytes
TookBy before after bytes (Err Memory) = TookPrefix before after bytes
