use Rattle.std.proofs.Common.{◌≡◌, ◌+◌, ◌≤◌, length, take}
use Rattle.tecs_arena.proofs.table.Table.shrink.Given as goal

-- the places of so many nodes are as they were, and each turn took a chunk
abbrev pub invariant-loop : goal.invariant-loop
invariant-loop l = (l.count ≤ length l.self.places) × (take l.count l.self.places ≡ take l.count l.fn.self.places) × (l.self.chunks + l.counter ≤ l.fn.self.chunks)
