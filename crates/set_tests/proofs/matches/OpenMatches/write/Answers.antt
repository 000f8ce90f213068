use Rattle.set_tests.proofs.Ready.{roots_at}
use Rattle.set_tests.proofs.matches.OpenMatches.write.Goals as goal

pub write_list-requires-clause-roots : goal.write_list-requires-clause-roots
write_list-requires-clause-roots g c = roots_at c.self.inside.store.nodes c.self.inside.active.entries c.loop-k.k c.list.result.now c.self.invariant.stand.lists c.list.ensures
