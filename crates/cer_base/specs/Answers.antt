-- What a call answered: its value, a fault of its own, or that memory ran out.
use Rattle.std.specs.Prelude.{◌≡◌, Result, Ok, Err}
use Rattle.cer_base.specs.declared.OrMemory.{OrMemory}
use Rattle.cer_base.specs.declared.OrMemory.TheVariants.{Fault, Memory}

-- the value, seen by view, or the fault is the one that is wanted; memory may run out at any time
abbrev pub Gives : {X F Y : Type 0} → (X → Y) → Result X (OrMemory F) → Result Y F → Type 0
Gives view (Ok x) wanted = wanted ≡ Ok (view x)
Gives view (Err (Fault fault)) wanted = wanted ≡ Err fault
Gives view (Err Memory) wanted = Unit {0}

-- the fact, where the call answered a fault
abbrev pub OnFault : {T F : Type 0} → Result T (OrMemory F) → (F → Type 0) → Type 0
OnFault (Ok value) P = Unit {0}
OnFault (Err (Fault fault)) P = P fault
OnFault (Err Memory) P = Unit {0}
