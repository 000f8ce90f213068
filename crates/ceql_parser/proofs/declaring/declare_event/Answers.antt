use Rattle.std.proofs.Common.{◌≡◌, ap, sym, ◌∙◌, map, None}
use Rattle.ceql_parser.specs.StatementFaults.{event_fault}
use Rattle.ceql_parser.specs.ScriptFaults.{attr_declared}
use Rattle.ceql_parser.proofs.AcceptedDeclarations.{event_accepted}
use Rattle.ceql_parser.proofs.declaring.declare_event.Goals as goal

pub unreachable-requires : goal.unreachable-requires
unreachable-requires c =
    event_accepted c.args.schema.now c.args.name.now c.args.attrs.now c.as_str.result.now c.in-Ok-attrs_of.given c.in-Err-Fault.field-0-0
    (let e : event_fault c.args.schema.now c.args.name.now c.as_slice.result.now ≡ None = c.in-Ok.ensures in ap (event_fault c.args.schema.now c.args.name.now) (sym c.as_slice.ensures) ∙ e)
    c.as_str.ensures
    (c.in-Ok-attrs_of.ensures ∙ ap (map attr_declared) c.as_slice-2.ensures)
    (rw c.in-Err-Fault.field-0-is at c.in-Err-Fault.ensures.refused)
