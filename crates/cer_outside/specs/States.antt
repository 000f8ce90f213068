-- What a contract sees of the objects in memory.
use Rattle.std.specs.Prelude.{ℕ, List}

-- The numbers of the calls that fail, from 1, and how many calls were made.
pub record CallState : Type 0 where
  pub fails : List ℕ
  pub made : ℕ

-- A source that never fails: the bytes that are left, and how many of them one call moves at most.
pub record PortionState : Type 0 where
  pub left : List ℕ
  pub piece : ℕ

-- A source: the same, its calls, and how often one failed.
pub record SourceState : Type 0 where
  pub left : List ℕ
  pub piece : ℕ
  pub calls : CallState
  pub faults : ℕ

-- A sink: the bytes that it has taken, how many it takes in all and in one call at most, its calls, and how often one
-- failed.
pub record SinkState : Type 0 where
  pub taken : List ℕ
  pub room : ℕ
  pub piece : ℕ
  pub calls : CallState
  pub faults : ℕ

-- A file that a host has: its name and its bytes; of each source that is opened how many bytes one call moves at most,
-- and which calls fail; and how often opening it failed.
pub record FileState : Type 0 where
  pub name : List ℕ
  pub bytes : List ℕ
  pub piece : ℕ
  pub fails : List ℕ
  pub faults : ℕ

-- A host in memory: its files, how often a call for a name that none of them has failed, and its calls.
pub record HostState : Type 0 where
  pub files : List FileState
  pub others : ℕ
  pub calls : CallState

-- A host in memory whose calls fail for the names alone that it lacks.
pub record SureHostState : Type 0 where
  pub files : List FileState
  pub others : ℕ
