use Rattle.std.proofs.Common.{◌∙◌, ap}
use Rattle.stream_schema.specs.Names.{type_number}
use Rattle.event_reader.proofs.RefusedLines.{names_type, no_type, other_count, other_value}
use Rattle.event_reader.proofs.refusals.refusal.Goals as goal

pub returns-in_default-type_of_bytes : goal.returns-in_default-type_of_bytes
returns-in_default-type_of_bytes c =
    no_type c.args.schema.now c.args.line.now c.unescape.new.scratch.items c.in-Some.count c.in-Some-unescape.end c.requires.some c.requires.fine c.requires.line_feed c.in-Some.ensures.count c.in-Some-unescape.ensures
    (c.in_default-type_of_bytes.ensures.place ∙ ap (type_number c.args.schema.now.types) c.as_slice.ensures.value)

pub returns-then-count-kinds : goal.returns-then-count-kinds
returns-then-count-kinds c =
    other_count c.args.schema.now c.args.line.now c.in-Some.count c.in-Some-unescape.end c.in-Some-type_of_bytes.ty c.as_slice-kinds.result.now
    (names_type c.args.schema.now c.args.line.now c.unescape.new.scratch.items c.in-Some.count c.in-Some-unescape.end c.in-Some-type_of_bytes.ty c.as_slice-kinds.result.now c.requires.some c.requires.fine c.requires.line_feed
    c.in-Some.ensures.count c.in-Some-unescape.ensures (c.in-Some-type_of_bytes.ensures.place ∙ ap (type_number c.args.schema.now.types) c.as_slice.ensures.value) c.in-Some-type_of_bytes.ensures.bound
    (λ d. c.as_slice-kinds.ensures ∙ c.kinds.ensures d))
    c.if-count-kinds.true

pub returns : goal.returns
returns c =
    other_value c.args.schema.now c.args.line.now c.in-Some.count c.in-Some-unescape.end c.in-Some-type_of_bytes.ty c.as_slice-kinds.result.now c.bad_value.result
    (names_type c.args.schema.now c.args.line.now c.unescape.new.scratch.items c.in-Some.count c.in-Some-unescape.end c.in-Some-type_of_bytes.ty c.as_slice-kinds.result.now c.requires.some c.requires.fine c.requires.line_feed
    c.in-Some.ensures.count c.in-Some-unescape.ensures (c.in-Some-type_of_bytes.ensures.place ∙ ap (type_number c.args.schema.now.types) c.as_slice.ensures.value) c.in-Some-type_of_bytes.ensures.bound
    (λ d. c.as_slice-kinds.ensures ∙ c.kinds.ensures d))
    c.if-count-kinds.false c.bad_value.ensures
