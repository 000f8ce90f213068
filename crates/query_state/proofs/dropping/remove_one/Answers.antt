use Rattle.std.proofs.Common.{◌≡◌, ◌∙◌, ◌-◌, [], Some, slice_get, subst, ap, refl, length, arith}
use Rattle.query_standing.specs.Giving.{renumbered}
use Rattle.query_state.specs.Dropping.{rows_of}
use Rattle.query_state.proofs.Removed.{IsOne, one_given, one_count, one_kept}
use Rattle.query_state.proofs.dropping.remove_one.Goals as goal

pub returns-clause-removed : goal.returns-clause-removed
returns-clause-removed c =
    let len : c.len.result ≡ length c.args.lists.now.items = (let a = c.as_slice.ensures.len in let b = ap length c.as_slice.ensures.value in let d = c.len.ensures in omega arith) in
    let h : IsOne c.args.keys.now c.remove.new.self c.args.lists.now.items c.swap_remove-gone.new.self.items c.args.number c.args.told c.renumbered.result c.swap_remove-gone.result = record {
      count = c.requires.count;
      none = subst (λ ls. slice_get (rows_of ls) c.args.number ≡ Some []) c.as_slice.ensures.value (c.if-is_to_stay.ensures.none refl);
      untold = λ e. c.if-is_to_stay.ensures.untold refl e;
      keys_are = c.remove.ensures;
      lists_are = c.swap_remove-gone.ensures.items;
      told_is = c.renumbered.ensures ∙ ap (λ n. renumbered (n - 1) c.args.number c.args.told) len;
    } in
    record {
      given = one_given c.args.keys.now c.remove.new.self c.args.lists.now.items c.swap_remove-gone.new.self.items c.args.number c.args.told c.renumbered.result c.swap_remove-gone.result h;
      count = one_count c.args.keys.now c.remove.new.self c.args.lists.now.items c.swap_remove-gone.new.self.items c.args.number c.args.told c.renumbered.result c.swap_remove-gone.result h;
    }

pub returns-clause-kept : goal.returns-clause-kept
returns-clause-kept c =
    let len : c.len.result ≡ length c.args.lists.now.items = (let a = c.as_slice.ensures.len in let b = ap length c.as_slice.ensures.value in let d = c.len.ensures in omega arith) in
    let h : IsOne c.args.keys.now c.remove.new.self c.args.lists.now.items c.swap_remove-gone.new.self.items c.args.number c.args.told c.renumbered.result c.swap_remove-gone.result = record {
      count = c.requires.count;
      none = subst (λ ls. slice_get (rows_of ls) c.args.number ≡ Some []) c.as_slice.ensures.value (c.if-is_to_stay.ensures.none refl);
      untold = λ e. c.if-is_to_stay.ensures.untold refl e;
      keys_are = c.remove.ensures;
      lists_are = c.swap_remove-gone.ensures.items;
      told_is = c.renumbered.ensures ∙ ap (λ n. renumbered (n - 1) c.args.number c.args.told) len;
    } in
    one_kept c.args.keys.now c.remove.new.self c.args.lists.now.items c.swap_remove-gone.new.self.items c.args.number c.args.told c.renumbered.result c.swap_remove-gone.result h
