use Rattle.event_reader.proofs.QuotedParts.{plain_part, first_told}
use Rattle.event_reader.proofs.quoted.part_at.Goals as goal

pub returns : goal.returns
returns c =
    plain_part c.args.text.now c.byte_at-end.result c.byte_at-end.ensures.within (first_told c.args.text.now c.in-Some.rest.now c.in-Some.first.now c.in-Some.ensures.cases.0 c.if-first-eq-QUOTE.false) c.byte_at-end.ensures.none c.byte_at-end.ensures.here
