-- Counts of faults. They tell of each call whether it failed: the count of the object that was asked stays where the
-- call went well, and is one more where it failed.
use Rattle.std.specs.Prelude.{◌≡◌, ℕ, ◌+◌, ◌-◌, ◌^◌, ◌⊎◌, min, max, List, Result, Ok, Err, OnOk, OnErr}
use Rattle.cer_base.specs.declared.OrMemory.{OrMemory}
use Rattle.cer_base.specs.declared.OrMemory.TheVariants as or
use Rattle.cer_outside.specs.declared.OpenError.{OpenError}
use Rattle.cer_outside.specs.declared.OpenError.TheVariants.{Failed, Memory}

-- the last value of a counter, at which it stays
abbrev pub last_count : ℕ
last_count = 2 ^ 64 - 1

-- one more; a counter stays at its last value
abbrev pub one_more : ℕ → ℕ
one_more count = max count (min (count + 1) last_count)

-- the count is one more than before, or stands at the counter's last value
abbrev pub Rose : ℕ → ℕ → Type 0
Rose before now = now ≡ one_more before

-- The count rose where the call failed, and else stays.
pub record HasCause {T E : Type 0} (before now : ℕ) (result : Result T E) : Type 0 where
  pub well : OnOk result (now ≡ before)
  pub failed : OnErr result (Rose before now)

-- the same of a call for which memory may run out too, where the count stays
abbrev pub HasCauseOrMemory : {T F : Type 0} → ℕ → ℕ → Result T (OrMemory F) → Type 0
HasCauseOrMemory before now (Ok done) = now ≡ before
HasCauseOrMemory before now (Err (or.Fault fault)) = Rose before now
HasCauseOrMemory before now (Err or.Memory) = now ≡ before

-- the count of each name stays
abbrev pub AllStay : (List ℕ → ℕ) → (List ℕ → ℕ) → Type 0
AllStay before now = (name : List ℕ) → now name ≡ before name

-- The count of this name rose. That of another stays, or rose too where a host has one counter for both.
pub record RoseAt (name : List ℕ) (before now : List ℕ → ℕ) : Type 0 where
  pub here : Rose (before name) (now name)
  pub others : (other : List ℕ) → (now other ≡ before other) ⊎ Rose (before other) (now other)

-- the counts of a host, by name, after a call that opens the file of this name: running out of memory is no fault
abbrev pub HasOpenCause : {T : Type 0} → List ℕ → (List ℕ → ℕ) → (List ℕ → ℕ) → Result T OpenError → Type 0
HasOpenCause name before now (Ok source) = AllStay before now
HasOpenCause name before now (Err Failed) = RoseAt name before now
HasOpenCause name before now (Err Memory) = AllStay before now
