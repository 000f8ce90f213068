use Rattle.std.proofs.Common.{[]}
use Rattle.command_reorder.specs.Late.{feed_for, fed, let_go}
use Rattle.command_reorder.proofs.Takings.{one_takes}
use Rattle.command_reorder.proofs.laws.late_runs_are_one.Goals as goal

pub returns : goal.returns
returns c = λ a bytes events again halt other one two.
    one_takes a.schema a.queries [] (let_go (feed_for a) (fed (feed_for a) bytes).put (fed (feed_for a) bytes).stop) (fed (feed_for a) bytes).stop events again halt other one two
