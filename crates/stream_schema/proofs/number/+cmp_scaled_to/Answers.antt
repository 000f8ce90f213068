use Rattle.std.proofs.Common.{ap, sym, ◌∙◌, arith}
use Rattle.std.specs.Ordering.{nat_cmp}
use Rattle.stream_schema.proofs.Numbers.{scaled_more, scaled_step}
use Rattle.stream_schema.proofs.number.+cmp_scaled_to.Goals as goal

pub returns-then-x-target : goal.returns-then-x-target
returns-then-x-target t c = scaled_more c.args.x c.args.y c.args.places (omega arith)

pub returns-else-x-target : goal.returns-else-x-target
returns-else-x-target t c = c.cmp_scaled_to.ensures ∙ ap (λ n. nat_cmp n c.args.y) (sym (scaled_step c.args.x c.args.places (omega arith)))
