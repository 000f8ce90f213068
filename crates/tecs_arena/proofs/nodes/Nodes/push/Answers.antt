use Rattle.std.proofs.Common.{arith}
use Rattle.tecs_arena.proofs.Filled.{held_push}
use Rattle.tecs_arena.proofs.nodes.Nodes.push.Goals as goal

pub invariant_of-self-2 : goal.invariant_of-self-2
invariant_of-self-2 c = ((held_push c.self.inside.len c.args.node c.self.inside.table.places c.make_room.new.self.places _ c.self.invariant.0 c.in_ok-make_room.ensures.same c.in_ok-make_room.ensures.inside c.write.ensures.places).0, omega arith)

pub returns-clause-appended : goal.returns-clause-appended
returns-clause-appended c = rw (← c.self.view_is) ((held_push c.self.inside.len c.args.node c.self.inside.table.places c.make_room.new.self.places _ c.self.invariant.0 c.in_ok-make_room.ensures.same c.in_ok-make_room.ensures.inside c.write.ensures.places).1)
