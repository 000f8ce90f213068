use Rattle.output_laws.proofs.RowsWritten.{same_lines}
use Rattle.output_laws.proofs.orders_write_the_same_lines.Goals as goal

pub returns : goal.returns
returns c = same_lines
