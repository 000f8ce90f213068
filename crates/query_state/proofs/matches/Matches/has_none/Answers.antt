use Rattle.std.proofs.Common.{◌≡◌, ◌<◌, ◌∙◌, [], ap, subst, length, Some, slice_get, arith}
use Rattle.query_state.specs.Matches.{OpenMatches}
use Rattle.query_state.proofs.Cuts.{row_at, rows_length}
use Rattle.query_state.proofs.NoOp.{no_rows}
use Rattle.query_state.proofs.matches.Matches.has_none.Goals as goal

pub returns : goal.returns
returns c told =
    let less = c.requires in
    let inside : c.args.number < length c.self.inside.lists.items = (let l = rows_length _ c.self.inside.lists.items c.args.self.now.rows (ap (λ (h : OpenMatches). h.rows) c.self.view_is) in omega arith) in
    subst (λ (h : OpenMatches). slice_get h.rows c.args.number ≡ Some []) c.self.view_is (row_at _ c.self.inside.lists.items c.args.number c.index.result.now inside c.index.ensures
    ∙ ap (λ x. Some x) (no_rows c.index.result.now.active.entries c.len.result c.len.ensures.len told))
