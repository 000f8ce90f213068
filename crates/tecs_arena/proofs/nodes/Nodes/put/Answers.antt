use Rattle.std.proofs.Common.{arith}
use Rattle.tecs_arena.proofs.Filled.{held_length, held_put}
use Rattle.tecs_arena.proofs.nodes.Nodes.put.Goals as goal

pub write-requires : goal.write-requires
write-requires c =
    let long = held_length c.self.inside.len c.self.inside.table.places c.self.invariant.0 in
    let inside = rw (← c.self.view_is) at c.requires in
    omega (arith, c.self.invariant.0.0)

pub invariant_of-self : goal.invariant_of-self
invariant_of-self c = ((held_put c.self.inside.len c.args.id c.args.node c.self.inside.table.places _ c.self.invariant.0 (rw (← c.self.view_is) at c.requires) c.write.ensures.places).0, c.self.invariant.1)

pub returns-clause-written : goal.returns-clause-written
returns-clause-written c = rw (← c.self.view_is) ((held_put c.self.inside.len c.args.id c.args.node c.self.inside.table.places _ c.self.invariant.0 (rw (← c.self.view_is) at c.requires) c.write.ensures.places).1)
