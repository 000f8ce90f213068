use Rattle.std.proofs.Common.{◌≡◌, ◌∙◌, All, List, sym, ap, subst}
use Rattle.cer_base.specs.declared.node.Node.{Node}
use Rattle.cer_base.specs.Nodes.{IsRoot}
use Rattle.query_state.specs.Matches.{OpenMatches, entries_for}
use Rattle.query_state.proofs.Giving.{are_roots}
use Rattle.query_state.proofs.matches.Matches.cursor.Goals as goal

pub begin-requires-clause-roots : goal.begin-requires-clause-roots
begin-requires-clause-roots g c =
    let entries : c.as_slice.result.now ≡ entries_for c.args.self.now c.args.key = c.as_slice.ensures.value ∙ c.in_ok-roots.ensures.entries in
    let nodes : c.self.inside.store.nodes ≡ c.args.self.now.nodes = ap (λ (h : OpenMatches). h.nodes) c.self.view_is in
    subst (λ (ns : List Node). All (IsRoot ns) c.as_slice.result.now) (sym nodes) (subst (All (IsRoot c.args.self.now.nodes)) (sym entries) (are_roots c.args.self.now c.args.key c.requires.stands))
