use Rattle.std.proofs.Common.{ap, ◌∙◌, [], ◌∷◌, ◌++◌}
use Rattle.predicate_bits.proofs.Checked.{settled_out, put_in}
use Rattle.predicate_bits.proofs.checks.add.Goals as goal

pub returns-then-settles_comparison : goal.returns-then-settles_comparison
returns-then-settles_comparison c = settled_out c.args.range.now c.args.place c.args.op c.args.literal.now c.args.negated c.args.checks.now.items c.if-not-negated.true (c.settles_comparison.ensures c.if-settles_comparison.true)

pub returns : goal.returns
returns c = put_in c.args.range.now (record { place = c.args.place; op = c.args.op; literal = c.args.literal.now; negated = c.args.negated }) c.args.checks.now.items c.push.new.self.items (c.in_ok-push.ensures.items ∙ ap (λ l. c.args.checks.now.items ++ record { place = c.args.place; op = c.args.op; literal = l; negated = c.args.negated } ∷ []) c.in_ok-literal.ensures)
