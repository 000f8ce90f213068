use Rattle.std.proofs.Common.{◌≡◌, ap, sym, ◌∙◌, map, None}
use Rattle.ceql_parser.specs.StatementFaults.{stream_fault}
use Rattle.ceql_parser.proofs.AcceptedDeclarations.{stream_accepted}
use Rattle.ceql_parser.proofs.declaring.declare_stream.Goals as goal

pub unreachable-requires : goal.unreachable-requires
unreachable-requires c =
    stream_accepted c.args.schema.now c.args.name.now c.args.types.now c.as_str.result.now c.in-Ok-texts_of.given c.in-Err-Fault.field-0-0
    (let e : stream_fault c.args.schema.now c.args.name.now c.as_slice.result.now ≡ None = c.in-Ok.ensures in ap (stream_fault c.args.schema.now c.args.name.now) (sym c.as_slice.ensures) ∙ e)
    c.as_str.ensures
    (c.in-Ok-texts_of.ensures ∙ ap (map (λ n. n.text)) c.as_slice-2.ensures)
    (rw c.in-Err-Fault.field-0-is at c.in-Err-Fault.ensures.refused)
