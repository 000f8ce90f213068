use Rattle.std.proofs.Common.{◌≡◌, ◌+◌, ◌≤◌, ◌∙◌, length, sym, subst, arith}
use Rattle.query_engine.proofs.Dispatched.{looked_first, looked_next}
use Rattle.query_engine.proofs.dispatch.look_all.Goals as goal

pub loop-k-init : goal.loop-k-init
loop-k-init c = record { looked = looked_first c.args.query_states.now (record { active_queries = c.clear.new.self; open_queries = c.clear-2.new.self }) c.clear.ensures.members; active_room = c.clear.ensures.room; open_room = c.clear-2.ensures.room }

pub look-requires-clause-active : goal.look-requires-clause-active
look-requires-clause-active c =
    let room = c.loop-k.invariant.active_room in
    let given = c.requires.active in
    omega arith

pub look-requires-clause-open : goal.look-requires-clause-open
look-requires-clause-open c =
    let room = c.loop-k.invariant.open_room in
    let given = c.requires.open in
    omega arith

pub loop-k-preserved : goal.loop-k-preserved
loop-k-preserved c = record {
  looked = looked_next c.args.query_states.now c.loop-k.activity c.look.new.activity c.loop-k.k c.index-query_states-k.result (omega arith) c.index-query_states-k.is c.look.ensures c.loop-k.invariant.looked;
  active_room = c.look.ensures.room.0 ∙ c.loop-k.invariant.active_room;
  open_room = c.look.ensures.room.1 ∙ c.loop-k.invariant.open_room;
}
