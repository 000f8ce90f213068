use Rattle.std.proofs.Common.{arith}
use Rattle.tecs_arena.proofs.Filled.{held_length, held_filled, held_told}
use Rattle.tecs_arena.proofs.nodes.Nodes.get.Goals as goal

pub read-requires : goal.read-requires
read-requires c = held_filled c.self.inside.len c.args.id c.self.inside.table.places c.self.invariant.0 (rw (← c.self.view_is) at c.requires)

pub returns-clause-node : goal.returns-clause-node
returns-clause-node c = rw (← c.self.view_is) (held_told c.self.inside.len c.args.id c.read.result c.self.inside.table.places c.self.invariant.0 (rw (← c.self.view_is) at c.requires) c.read.ensures)

pub returns-clause-countable : goal.returns-clause-countable
returns-clause-countable c =
    let long = held_length c.self.inside.len c.self.inside.table.places c.self.invariant.0 in
    rw (← c.self.view_is) (omega (arith, c.self.invariant.0.0, c.self.invariant.1))
