use Rattle.output_laws.proofs.RowsGrow.{rows_are_output}
use Rattle.output_laws.proofs.rows_are_the_output.Goals as goal

pub returns : goal.returns
returns c = rows_are_output
