use Rattle.std.proofs.Common.{refl, ◌∙◌}
use Rattle.event_reader.proofs.QuotedFields.{marked_named}
use Rattle.event_reader.proofs.quoted.read_quoted.Goals as goal

pub returns-then-read_cells : goal.returns-then-read_cells
returns-then-read_cells c =
    marked_named c.args.schema.now c.args.line.now c.in-Some.ty c.in-Some.end c.as_slice-kinds.result.now c.read_cells.new.values.items c.in-Some.ensures (c.if-read_cells.ensures refl)
    c.requires.some c.requires.fine c.requires.line_feed (λ d. c.as_slice-kinds.ensures ∙ c.kinds.ensures d)
