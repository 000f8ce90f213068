use Rattle.std.proofs.Common.{arith, sym}
use Rattle.std.proofs.lemmas.List.{take_all}
use Rattle.tecs_arena.proofs.Filled.{held_cut, held_length}
use Rattle.tecs_arena.proofs.nodes.Nodes.cut_to.Goals as goal

pub invariant_of-self : goal.invariant_of-self
invariant_of-self c = ((held_cut c.self.inside.len c.args.n c.self.inside.table.places c.self.invariant.0 (rw (← c.self.view_is) at c.requires)).0, omega (arith, c.self.invariant.1))

pub returns-then-n-self-clause-nodes : goal.returns-then-n-self-clause-nodes
returns-then-n-self-clause-nodes c = rw (← c.self.view_is) ((held_cut c.self.inside.len c.args.n c.self.inside.table.places c.self.invariant.0 (rw (← c.self.view_is) at c.requires)).1)

pub returns-else-n-self-clause-nodes : goal.returns-else-n-self-clause-nodes
returns-else-n-self-clause-nodes c =
    let long = held_length c.self.inside.len c.self.inside.table.places c.self.invariant.0 in
    rw (← c.self.view_is) (sym (take_all c.args.n _ (omega arith)))
