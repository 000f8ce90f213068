use Rattle.query_index.specs.Rows.{rows_of}
use Rattle.query_index.proofs.Listed.{put_after}
use Rattle.query_index.proofs.rows.put.Goals as goal

pub returns : goal.returns
returns c = put_after c.args.ty c.args.row (rows_of c.args.rows.now.items) (rows_of c.grow.new.rows.items) (rows_of c.push_row.new.rows.items) c.in_ok-grow.ensures.same c.in_ok-push_row.ensures
