use Rattle.output_laws.proofs.RowsWritten.{output_rows}
use Rattle.output_laws.proofs.output_is_rows.Goals as goal

pub returns : goal.returns
returns c = output_rows
