use Rattle.std.proofs.Common.{◌≡◌, ◌∙◌, ℕ, List, length, sym, ap, subst, arith}
use Rattle.std.proofs.lemmas.List.{with_items_is}
use Rattle.query_engine.specs.declared.times.Group.{Group}
use Rattle.query_engine.specs.Times.{row_of, AreMoved, HaveClocksIn}
use Rattle.query_engine.proofs.times.Times.note.Goals as goal

pub move_clocks-requires : goal.move_clocks-requires
move_clocks-requires c =
    let row = c.row_in-row.ensures ∙ ap (λ rows. row_of rows c.args.event.now.ty) c.as_slice.ensures.value in
    record { inside = subst (λ (gs : List Group). HaveClocksIn c.args.event.now c.args.position gs c.row_in-row.result.now) (sym c.as_mut_slice.ensures.value) (subst (HaveClocksIn c.args.event.now c.args.position c.args.self.now.groups.items) (sym row) c.requires.inside) }

pub returns-clause-moved : goal.returns-clause-moved
returns-clause-moved c =
    let row = c.row_in-row.ensures ∙ ap (λ rows. row_of rows c.args.event.now.ty) c.as_slice.ensures.value in
    let long : length c.move_clocks.new.groups ≡ c.args.self.now.groups.len = (let e = c.as_mut_slice.ensures.len in let f = c.move_clocks.auto.groups in omega arith) in
    subst (λ (gs : List Group). AreMoved c.args.event.now c.args.position (row_of c.args.self.now.by_type.items c.args.event.now.ty) c.args.self.now.groups.items gs) (sym (with_items_is c.args.self.now.groups c.move_clocks.new.groups long))
    (subst (λ (gs : List Group). AreMoved c.args.event.now c.args.position (row_of c.args.self.now.by_type.items c.args.event.now.ty) gs c.move_clocks.new.groups) c.as_mut_slice.ensures.value
    (subst (λ (ns : List ℕ). AreMoved c.args.event.now c.args.position ns c.as_mut_slice.result.now c.move_clocks.new.groups) row c.move_clocks.ensures))
