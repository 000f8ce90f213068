-- The engine that a command leaves.
use Rattle.std.specs.Prelude.{◌≡◌, Option, None}
use Rattle.query_engine.specs.Engine.{EngineState}
use Rattle.command_base.specs.declared.Cause.{Cause}
use Rattle.command_base.specs.declared.Cause.TheVariants as cause

-- where all was well this is said of the engine; else none is left
abbrev pub IsLeftBy : Cause → (Option EngineState → Type 0) → Option EngineState → Type 0
IsLeftBy cause.Fine Leaves left = Leaves left
IsLeftBy _ Leaves left = left ≡ None
