use Rattle.std.proofs.Common.{subst, sym}
use Rattle.cea_determinise.specs.LazyDfa.{Table}
use Rattle.cea_determinise.specs.Rows.{IsListed}
use Rattle.cea_determinise.proofs.lazy_dfa.LazyDfa.keep_row.Goals as goal

pub invariant_of-self : goal.invariant_of-self
invariant_of-self c =
    let ts = c.self.inside.transitions.entries in
    let listed = subst (λ (t : Table). IsListed t.transitions c.args.row) (sym c.self.view_is) c.requires in
    (c.self.invariant.0, c.put.ensures ts c.self.invariant.1 listed, c.self.invariant.2, c.self.invariant.3)
