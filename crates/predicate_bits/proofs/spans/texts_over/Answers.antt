use Rattle.std.proofs.Common.{◌∙◌, sym, ap}
use Rattle.stream_schema.specs.declared.Value.TheVariants as value
use Rattle.predicate_bits.proofs.Spanned.{read_text_eq, read_text_ne}
use Rattle.predicate_bits.proofs.spans.texts_over.Goals as goal

pub returns-in-Eq-Text : goal.returns-in-Eq-Text
returns-in-Eq-Text c = read_text_eq c.args.span.now c.args.op c.args.literal.now c.as_str.result.now c.has_digest.result c.requires c.in-Eq-Text.is-0 (c.in-Eq-Text.is-1 ∙ ap (λ t. value.Text t) (sym c.as_str.ensures)) c.has_digest.ensures

pub returns-in-Ne-Text : goal.returns-in-Ne-Text
returns-in-Ne-Text c = read_text_ne c.args.span.now c.args.op c.args.literal.now c.as_str-in-Ne-Text.result.now c.has_digest-in-Ne-Text.result c.requires c.in-Ne-Text.is-0 (c.in-Ne-Text.is-1 ∙ ap (λ t. value.Text t) (sym c.as_str-in-Ne-Text.ensures)) c.has_digest-in-Ne-Text.ensures
