use Rattle.std.proofs.Common.{IfSome, sym, subst, ◌∙◌}
use Rattle.event_update.specs.Dormancy.{AreNoOp}
use Rattle.query_state.specs.Matches.{IsNoOpSet}
use Rattle.query_state.proofs.NoOp.{one_set}
use Rattle.query_state.proofs.lists.Lists.let_pass.Goals as goal

pub returns-in-Some : goal.returns-in-Some
returns-in-Some c told t known =
    let set = subst (λ o. IfSome o (IsNoOpSet t c.args.sets.now c.args.self.now.active.entries)) c.in-Some.is known.no_op in
    let same = one_set set.leaves c.args.bits.now (sym set.at ∙ c.is_set.ensures told) in
    subst (λ leaves. AreNoOp t leaves c.args.self.now.active.entries) same set.no_op
