use Rattle.std.proofs.Common.{◌∙◌, sym, ap}
use Rattle.stream_schema.specs.declared.Value.TheVariants as value
use Rattle.query_index.proofs.Opened.{asks_text}
use Rattle.query_index.proofs.text_prefilters.asked_by_comparison.Goals as goal

pub returns-in-Eq-Text : goal.returns-in-Eq-Text
returns-in-Eq-Text c = asks_text c.text_prefilter_at.result c.args.place c.args.op c.args.literal.now c.as_str.result.now c.in-Eq-Text.is-0 (c.in-Eq-Text.is-1 ∙ ap (λ t. value.Text t) (sym c.as_str.ensures)) c.text_prefilter_at.ensures.place c.text_prefilter_at.ensures.opens
