use Rattle.std.proofs.Common.{rules, sym, ◌∙◌}
use Rattle.reorder_gate.proofs.Tables.{fails_at, fits_more}
use Rattle.reorder_gate.proofs.clock.clock_fits.Goals as goal

pub returns-then-not-has_clock : goal.returns-then-not-has_clock
returns-then-not-has_clock c = sym (fails_at c.args.name.now c.args.schema.now.types c.loop-ty.ty (search rules) (sym c.has_clock.ensures ∙ c.if-not-has_clock.true))

pub loop-ty-preserved : goal.loop-ty-preserved
loop-ty-preserved c = fits_more c.args.name.now c.args.schema.now.types c.loop-ty.ty (search rules) c.loop-ty.invariant (sym c.has_clock.ensures ∙ c.if-not-has_clock.false)
