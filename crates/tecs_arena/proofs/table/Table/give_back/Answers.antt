use Rattle.std.proofs.Common.{arith, ◌-◌}
use Rattle.tecs_arena.proofs.Chunks.{cut_row}
use Rattle.tecs_arena.proofs.table.Table.give_back.Goals as goal

pub invariant_of-self : goal.invariant_of-self
invariant_of-self c =
    let some = rw (← c.self.view_is) at c.requires in
    (cut_row c.self.inside.made (c.self.inside.made - 1) c.self.inside.chunks c.self.invariant.0 c.self.invariant.1 (omega arith)).0

pub returns-clause-places : goal.returns-clause-places
returns-clause-places c =
    let some = rw (← c.self.view_is) at c.requires in
    rw (← c.self.view_is) ((cut_row c.self.inside.made (c.self.inside.made - 1) c.self.inside.chunks c.self.invariant.0 c.self.invariant.1 (omega arith)).1)
