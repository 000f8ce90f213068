use Rattle.std.proofs.Common.{refl}
use Rattle.event_reader.proofs.QuotedRuns.{cut_at_comma}
use Rattle.event_reader.proofs.fields.unescape.Goals as goal

pub returns-then-keep : goal.returns-then-keep
returns-then-keep c =
    cut_at_comma c.args.text.now c.keep_quoted.new.scratch.items c.keep.new.scratch.items c.in-Some.from c.byte_at-size.result c.in-Some.ensures c.byte_at-size.ensures.within c.byte_at-size.ensures.none c.byte_at-size.ensures.here (c.if-keep.ensures refl)
