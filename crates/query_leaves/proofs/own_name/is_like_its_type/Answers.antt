use Rattle.std.proofs.Common.{sym, ◌∙◌}
use Rattle.query_leaves.proofs.Apart.{is_like}
use Rattle.query_leaves.proofs.own_name.is_like_its_type.Goals as goal

pub returns-in-Some : goal.returns-in-Some
returns-in-Some c passes = is_like c.args.above.now c.args.occurrence.now c.in-Some.own.now c.in-Some.ensures (sym c.passes_by.ensures ∙ passes)
