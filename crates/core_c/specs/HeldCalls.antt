-- What the calls on held cursors leave, in the words of `core_service`.
use Rattle.std.specs.Prelude.{◌≡◌, ℕ, ℤ, ◌<◌, ◌≤◌, Bool, true, false, List, length, Option, Some, None, Result, Ok, Err}
use Rattle.core_service.specs.declared.AnswerNumbers.{AnswerNumbers}
use Rattle.core_service.specs.declared.HoldFault.{HoldFault}
use Rattle.core_service.specs.declared.HoldFault.TheVariants as fault
use Rattle.core_service.specs.declared.HeldFault.TheVariants as held
use Rattle.core_service.specs.Services.{ServiceState}
use Rattle.core_service.specs.HeldCalls.{IsHeld, IsPeeked, IsPulled, IsLetGo}
use Rattle.core_c.specs.declared.answers.CoreAnswer.{CoreAnswer}
use Rattle.core_c.specs.declared.status.TheConstants.{OK, NONE, ROOM, MEMORY, MISUSE}
use Rattle.core_c.specs.Notes.{put_first}
use Rattle.core_c.specs.Calls.{numbers_told}

abbrev pub hold_status : Result ℕ HoldFault → ℤ
hold_status (Ok number) = OK
hold_status (Err fault.NoQuery) = NONE
hold_status (Err fault.NoEventYet) = NONE
hold_status (Err fault.TooMany) = ROOM
hold_status (Err fault.Memory) = MEMORY

-- the number of the cursor that is held, or what stood there
abbrev pub number_told : ℕ → Result ℕ HoldFault → ℕ
number_told cursor (Ok number) = number
number_told cursor (Err refused) = cursor

-- A cursor was to be held over the answers of the query.
pub record HasHeld (query : ℕ) (old new : ServiceState) (status : ℤ) (cursor told : ℕ) : Type 0 where
  pub outcome : Result ℕ HoldFault
  pub holds : IsHeld query old new outcome
  pub ends : status ≡ hold_status outcome
  pub tells : told ≡ number_told cursor outcome

-- What a call for the next answer of a held cursor made: the answer was given, and the buffer begins with its positions; the buffer is too short for them, and the answer is the next one still; the cursor has no more; memory ran out; or no cursor of this number is held.
pub data HasPulled (cursor : ℕ) (old new : ServiceState) (status : ℤ) (answer told : CoreAnswer) (room positions : List ℕ) : Type 0 where
  given : (numbers : AnswerNumbers) → status ≡ OK → IsPulled cursor old new (Ok (Some numbers)) → told ≡ numbers_told numbers
      → numbers.count ≤ length room → positions ≡ put_first new.answers.positions room → HasPulled cursor old new status answer told room positions
  kept : (numbers : AnswerNumbers) → status ≡ ROOM → IsPeeked cursor old new (Ok (Some numbers)) → told ≡ numbers_told numbers
      → length room < numbers.count → positions ≡ room → HasPulled cursor old new status answer told room positions
  none : status ≡ NONE → IsPulled cursor old new (Ok None) → told ≡ answer → positions ≡ room → HasPulled cursor old new status answer told room positions
  wants : status ≡ MEMORY → IsPulled cursor old new (Err held.Memory) → told ≡ answer → positions ≡ room → HasPulled cursor old new status answer told room positions
  unheld : status ≡ MISUSE → IsPulled cursor old new (Err held.NotHeld) → told ≡ answer → positions ≡ room → HasPulled cursor old new status answer told room positions

abbrev pub drop_status : Bool → ℤ
drop_status true = OK
drop_status false = MISUSE

-- A held cursor was to be let go.
pub record HasDropped (cursor : ℕ) (old new : ServiceState) (status : ℤ) : Type 0 where
  pub outcome : Bool
  pub drops : IsLetGo cursor old new outcome
  pub ends : status ≡ drop_status outcome
