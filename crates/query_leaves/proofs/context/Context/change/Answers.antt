use Rattle.std.proofs.Common.{◌≡◌, ◌+◌, ◌<◌, List, length, sym, ◌∙◌, subst, take}
use Rattle.query_leaves.specs.declared.occurrence.Change.{Change}
use Rattle.query_leaves.specs.Changes.{change_all}
use Rattle.query_leaves.proofs.Keyed.{next_made, next_passed}
use Rattle.query_leaves.proofs.context.Context.change.Goals.{then-may_change_by+in_ok-change, else-may_change_by}
use Rattle.query_leaves.proofs.context.Context.change.Goals as goal

pub loop-k-preserved : goal.loop-k-preserved
loop-k-preserved c =
    let items : List Change = c.self.inside.changes.items in
    let k = c.loop-k.k in
    let first = c.args.occurrence.now in
    let less : k < length items = subst (λ n. k < n) (c.len-k-end.ensures ∙ c.self.inside.changes.ok.0) c.loop-k-test.true in
    let so_far : c.loop-k.occurrence ≡ change_all (take k items) first = subst (λ (cs : List Change). c.loop-k.occurrence ≡ change_all (take k cs) first) (sym c.self.view_is) c.loop-k.invariant in
    subst (λ (cs : List Change). c.if-may_change_by.occurrence ≡ change_all (take (k + 1) cs) first) c.self.view_is
    (elim c.if-may_change_by.branch [
      | then-may_change_by+in_ok-change w ↦ w.occurrence-is ∙ next_made items k w.index-then-may_change_by.result.now first c.loop-k.occurrence w.change.new.self less w.index-then-may_change_by.ensures so_far w.in_ok-change.ensures
      | else-may_change_by w ↦ w.occurrence-is ∙ next_passed items c.self.inside.keys.items k c.index.result.now first c.loop-k.occurrence less c.self.invariant c.index.ensures so_far (λ x is. c.may_change_by.ensures x is w.if-may_change_by.false)
    ])
