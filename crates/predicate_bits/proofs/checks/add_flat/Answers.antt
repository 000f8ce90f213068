use Rattle.std.proofs.Common.{sym, subst}
use Rattle.query_leaves.specs.Shapes.{test_holds}
use Rattle.predicate_bits.specs.Checks.{Adds}
use Rattle.predicate_bits.proofs.checks.add_flat.Goals as goal

pub returns-in_ok-add-in-Cmp : goal.returns-in_ok-add-in-Cmp
returns-in_ok-add-in-Cmp c h = subst (λ t. Adds c.args.range.now (test_holds t) c.args.checks.now.items c.add.new.checks.items) (sym c.in-Cmp.is) c.in_ok-add-in-Cmp.ensures
