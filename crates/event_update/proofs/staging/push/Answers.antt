use Rattle.std.proofs.Common.{ℕ, List, [], ◌∷◌, ◌++◌, map, take, nat_eq, sym, subst, ap, ◌∙◌, arith}
use Rattle.std.specs.List.{IsDistinct}
use Rattle.cer_base.specs.declared.node.Root.{Root}
use Rattle.event_update.specs.ActiveLists.{ActiveLists}
use Rattle.event_update.specs.Update.{IsAbsent}
use Rattle.event_update.proofs.Finding.{distinct_more}
use Rattle.event_update.proofs.staging.push.Goals as goal

pub invariant_of-rows-2 : goal.invariant_of-rows-2
invariant_of-rows-2 c =
    let room = c.in_ok-make_room.ensures.room in
    let long = c.in_ok-write_row.ensures.upto in
    let absent = subst (λ (a : ActiveLists). IsAbsent c.args.state a.entries) (sym c.rows.view_is) c.requires in
    let row = c.in_ok-write_row.ensures.row ∙ ap (λ (rs : List (ℕ × List Root)). rs ++ (c.args.state, c.args.list.now) ∷ []) c.in_ok-make_room.ensures.before in
    (omega arith, subst (λ (rows : List (ℕ × List Root)). IsDistinct nat_eq (map (λ (r : ℕ × List Root). r.0) rows)) (sym row) (distinct_more c.args.state c.args.list.now (take c.rows.inside.used c.rows.inside.rows.items) c.rows.invariant.1 absent))
