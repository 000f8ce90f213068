use Rattle.std.proofs.Common.{arith}
use Rattle.std.proofs.lemmas.Grind.{common_steps}
use Rattle.std.proofs.lemmas.List.Elements.{filter_map-append}
use Rattle.cel_plain.proofs.single.singles.Goals as goal

pub loop-position-preserved : goal.loop-position-preserved
loop-position-preserved c = grind (arith, common_steps, filter_map-append)
