use Rattle.std.proofs.Common.{◌≡◌, length}
use Rattle.query_engine.specs.Dispatch.{HaveLooked}
use Rattle.query_engine.proofs.dispatch.look_all.Given as goal

abbrev pub invariant-loop-k : goal.invariant-loop-k
invariant-loop-k l = record {
  looked : HaveLooked l.query_states l.activity l.k;
  active_room : length l.activity.active_queries ≡ length l.fn.activity.active_queries;
  open_room : length l.activity.open_queries ≡ length l.fn.activity.open_queries;
}
