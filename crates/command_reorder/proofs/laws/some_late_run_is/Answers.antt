use Rattle.std.proofs.Common.{[]}
use Rattle.command_reorder.specs.Late.{feed_for, fed, let_go}
use Rattle.command_reorder.proofs.Takings.{some_takes}
use Rattle.command_reorder.proofs.laws.some_late_run_is.Goals as goal

pub returns : goal.returns
returns c = λ a bytes.
    let some = some_takes a.schema a.queries [] (let_go (feed_for a) (fed (feed_for a) bytes).put (fed (feed_for a) bytes).stop) (fed (feed_for a) bytes).stop in
    (some.more, some.halt, some.takes)
