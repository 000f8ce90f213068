use Rattle.std.proofs.Common.{arith, leb-true, leb-false}
use Rattle.tecs_arena.proofs.Chunks.{two_empty, not_two_empty}
use Rattle.tecs_arena.proofs.table.Table.has_two_empty.Goals as goal

pub returns-then-self-ge2-clause-yes : goal.returns-then-self-ge2-clause-yes
returns-then-self-ge2-clause-yes c = λ e. rw (← c.self.view_is) (omega arith, two_empty c.self.inside.made c.args.count (omega arith) c.self.invariant.1 (leb-true _ _ e))

pub returns-then-self-ge2-clause-no : goal.returns-then-self-ge2-clause-no
returns-then-self-ge2-clause-no c = λ e. rw (← c.self.view_is) (not_two_empty c.self.inside.made c.args.count (omega arith) c.self.invariant.1 (leb-false _ _ e))
