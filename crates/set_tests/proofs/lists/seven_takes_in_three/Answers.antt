use Rattle.std.proofs.Common.{arith}
use Rattle.cer_base.specs.Nodes.{tree}
use Rattle.set_tests.proofs.HeadedBySeven.{can_take_three, indexed}
use Rattle.set_tests.proofs.lists.seven_takes_in_three.Goals as goal

pub insert_each-requires-clause-can : goal.insert_each-requires-clause-can
insert_each-requires-clause-can g c =
    let ids = c.in_ok-ids.ids.items in
    let f = tree (g.S.NodeStore.nodes c.make_all.new.store) in
    let all = c.in_ok-ids.ensures.trees in
    can_take_three _ _ ids _ _ _ _ c.in_ok-ids.ensures.nodes.inside all (indexed f ids _ 2 _ all (omega arith) c.index.ensures) (indexed f ids _ 3 _ all (omega arith) c.index-2.ensures) (indexed f ids _ 4 _ all (omega arith) c.index-3.ensures) (indexed f ids _ 5 _ all (omega arith) c.index-4.ensures) c.in_ok-list.ensures.list c.in_ok-list.ensures.node
