use Rattle.output_laws.proofs.RowsGrow.{rows_grow}
use Rattle.output_laws.proofs.rows_grow_at_their_end.Goals as goal

pub returns : goal.returns
returns c = rows_grow
