use Rattle.std.proofs.Common.{sym, ap, ◌∙◌, not}
use Rattle.std.proofs.lemmas.Map.Text.{is_eq-slice_cmp}
use Rattle.std.specs.Ordering.{nat_cmp}
use Rattle.std.specs.Cmp.Lexicographic.{slice_cmp}
use Rattle.stream_schema.specs.Comparing.{meets}
use Rattle.predicate_bits.proofs.holding.texts_compare.Goals as goal

pub returns-in-Eq : goal.returns-in-Eq
returns-in-Eq c = c.eq.ensures ∙ (sym (is_eq-slice_cmp c.args.text.now c.args.literal.now) ∙ ap (λ op. meets op (slice_cmp nat_cmp c.args.text.now c.args.literal.now)) (sym c.in-Eq.is))

pub returns-in-Ne : goal.returns-in-Ne
returns-in-Ne c = c.ne.ensures ∙ (ap not (sym (is_eq-slice_cmp c.args.text.now c.args.literal.now)) ∙ ap (λ op. meets op (slice_cmp nat_cmp c.args.text.now c.args.literal.now)) (sym c.in-Ne.is))
