use Rattle.std.proofs.Common.{◌++◌, ◌∷◌, [], ◌∙◌, ap, Vec}
use Rattle.std.specs.declared.alloc.Global.{Global}
use Rattle.query_index.specs.declared.rows.LeafRow.{LeafRow}
use Rattle.query_index.proofs.Listed.{put_is}
use Rattle.query_index.proofs.rows.push_row.Goals as goal

pub returns : goal.returns
returns c = put_is c.args.rows.now.items c.args.ty c.args.row c.index_mut.result.now c.push.new.self c.requires (c.in_ok-push.ensures.items ∙ ap (λ (u : Vec LeafRow Global). u.items ++ c.args.row ∷ []) c.index_mut.ensures.value)
