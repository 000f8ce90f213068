-- What one call does to the objects in memory, exactly.
use Rattle.std.specs.Prelude.{◌≡◌, ℕ, ◌-◌, ◌≤◌, ◌⊎◌, min, List, ◌++◌, length, take, drop, Contains, None, Result, Ok, Err}
use Rattle.cer_outside.specs.declared.OpenError.{OpenError}
use Rattle.cer_outside.specs.declared.OpenError.TheVariants.{Failed, Memory}
use Rattle.cer_outside.specs.Causes.{one_more}
use Rattle.cer_outside.specs.States.{CallState, SourceState, SinkState, FileState, HostState}
use Rattle.cer_outside.specs.Files.{file_under, with_fault}

-- The calls with one more.
abbrev pub after_call : CallState → CallState
after_call calls = record calls { made = one_more calls.made }

-- The next call is among those that fail.
abbrev pub FailsNext : CallState → Type 0
FailsNext calls = Contains calls.fails (one_more calls.made)

-- How many bytes a read moves into a buffer: as many as it has, as one call moves, and as are left.
abbrev pub read_count : ℕ → List ℕ → List ℕ → ℕ
read_count piece buffer left = min (length buffer) (min piece (length left))

-- The buffer after a read, with the first bytes that were left in front.
abbrev pub buffer_after : {E : Type 0} → List ℕ → List ℕ → Result ℕ E → List ℕ
buffer_after left buffer (Ok count) = take count left ++ drop count buffer
buffer_after left buffer (Err e) = buffer

-- The source after a read.
abbrev pub source_after : {E : Type 0} → SourceState → Result ℕ E → SourceState
source_after source (Ok count) = record source { left = drop count source.left; calls = after_call source.calls }
source_after source (Err e) = record source { calls = after_call source.calls; faults = one_more source.faults }

-- The next write fails: it is among those that do, or the sink is full.
abbrev pub WriteFails : SinkState → Type 0
WriteFails sink = FailsNext sink.calls ⊎ (sink.room ≤ length sink.taken)

-- How many bytes a write takes of a piece: as many as it has, as one call takes, and as there is room for.
abbrev pub write_count : SinkState → List ℕ → ℕ
write_count sink piece = min (length piece) (min sink.piece (sink.room - length sink.taken))

-- The sink after a write.
abbrev pub sink_after : {E : Type 0} → SinkState → List ℕ → Result ℕ E → SinkState
sink_after sink piece (Ok count) =
    record sink { taken = sink.taken ++ take count piece; calls = after_call sink.calls }
sink_after sink piece (Err e) = record sink { calls = after_call sink.calls; faults = one_more sink.faults }

-- The source of a file that was opened.
abbrev pub source_of : FileState → SourceState
source_of file = record {
  left = file.bytes;
  piece = file.piece;
  calls = record { fails = file.fails; made = 0 };
  faults = 0;
}

-- The next call for this name fails: it is among those that do, or the host has no such file.
abbrev pub OpenFails : HostState → List ℕ → Type 0
OpenFails host name = FailsNext host.calls ⊎ (file_under host.files name ≡ None)

-- The host after a call for this name.
abbrev pub host_after : {T : Type 0} → HostState → List ℕ → Result T OpenError → HostState
host_after host name (Ok source) = record host { calls = after_call host.calls }
host_after host name (Err Failed) = record (with_fault name host) { calls = after_call host.calls }
host_after host name (Err Memory) = record host { calls = after_call host.calls }
