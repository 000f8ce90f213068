use Rattle.output_laws.proofs.LineText.{row_tells}
use Rattle.output_laws.proofs.lines_tell_their_rows.Goals as goal

pub returns : goal.returns
returns c = row_tells
