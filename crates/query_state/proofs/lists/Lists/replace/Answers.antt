use Rattle.std.proofs.Common.{◌∙◌, ap, sym, subst, IfSome}
use Rattle.event_update.specs.Dormancy.{AreDormant}
use Rattle.event_update.specs.Update.{rows_after}
use Rattle.query_state.specs.Matches.{HasStatesOnce, IsNoOpSet}
use Rattle.query_state.proofs.lists.Lists.replace.Goals as goal

pub returns-else-not-stays : goal.returns-else-not-stays
returns-else-not-stays c =
    let same = sym (c.commit.ensures ∙ ap (rows_after c.args.self.now.active.entries) (c.is_unchanged-stays.ensures c.if-not-stays.false)) in
    record {
      rows = c.commit.ensures;
      is_dormant = λ t sets known. record {
        once = subst HasStatesOnce same known.once;
        rest = λ told. subst (AreDormant t) same (known.rest told);
        no_op = subst (λ rows. IfSome c.args.self.now.no_op (IsNoOpSet t sets rows)) same known.no_op;
      };
    }

pub returns-then-not-stays : goal.returns-then-not-stays
returns-then-not-stays c = record { rows = c.forget.ensures.rows ∙ c.commit.ensures; is_dormant = λ t sets known. c.forget.ensures.is_dormant t sets tt }
