use Rattle.std.proofs.Common.{◌≡◌, take}
use Rattle.query_engine.specs.Times.{StayInTime, row_of}
use Rattle.query_engine.proofs.times.Times.first_fall.Given as goal

abbrev pub invariant-loop-number : goal.invariant-loop-number
invariant-loop-number l = record {
  items : l.number-items ≡ row_of l.self.by_type.items l.event.ty;
  stay : StayInTime l.event l.position l.self.groups.items (take l.number-index l.number-items);
}
