-- The first fault among some tests, each with the place where it is told.
use Rattle.std.specs.Prelude.{◌≡◌, ℕ, Bool, true, false, List, [], ◌∷◌, Option, Some, None, Result, Ok, Err}
use Rattle.std.specs.Option.{option_or}
use Rattle.cer_base.specs.declared.OrMemory.{OrMemory}
use Rattle.cer_base.specs.declared.OrMemory.TheVariants as wanted
use Rattle.cer_base.specs.declared.Location.{Location}
use Rattle.cel_terms.specs.declared.Name.{Name}
use Rattle.ceql_grammar.specs.declared.faults.QueryFault.{QueryFault}
use Rattle.ceql_grammar.specs.declared.faults.QueryError.{QueryError}

-- what is found at the first of the list at which anything is
abbrev pub first_in : {X Y : Type 0} → (X → Option Y) → List X → Option Y
first_in find [] = None
first_in find (x ∷ xs) = option_or (find x) (first_in find xs)

-- the first fault of these
abbrev pub first_fault : List (Option QueryError) → Option QueryError
first_fault [] = None
first_fault (o ∷ os) = option_or o (first_fault os)

-- the fault, where the test fails
abbrev pub unless : Bool → QueryFault → Location → Option QueryError
unless true fault place = None
unless false fault place = Some (record { fault = fault; place = place })

-- no fault where it passes, else the fault with the name, at the name's place
abbrev pub unless_named : Bool → (List ℕ → QueryFault) → Name → Option QueryError
unless_named passes fault name = unless passes (fault name.text) name.place

-- A call answers the fault, exactly where there is one, unless memory ran out.
abbrev pub FindsFault : {T : Type 0} → Result T (OrMemory QueryError) → Option QueryError → Type 0
FindsFault (Ok value) fault = fault ≡ None
FindsFault (Err (wanted.Fault error)) fault = fault ≡ Some error
FindsFault (Err wanted.Memory) fault = Unit {0}
