use Rattle.std.proofs.Common.{◌≡◌, rules, SFits, to_z, of_z}
use Rattle.std.specs.Int.{w64}
use Rattle.std.proofs.lemmas.Int.{to_z-of_z}
use Rattle.set_tests.proofs.Made.{can_start, extend_inside, can_join, can_unite, made_start, made_extend, made_join, made_unite, bottom_nodes, bottom_trees, grown_nodes, grown_trees}
use Rattle.set_tests.proofs.parts.make.Goals as goal

pub bottom-requires-clause-in_step : goal.bottom-requires-clause-in_step
bottom-requires-clause-in_step g c =
    let small : SFits w64 c.in-Start.clock = search rules in
    let same : to_z w64 (of_z w64 c.in-Start.clock) ≡ c.in-Start.clock = to_z-of_z _ _ small in
    rw (c.of-clock.ensures, same) (can_start _ _ _ _ c.in-Start.is c.requires.nodes c.requires.can)

pub join-requires-clause-can : goal.join-requires-clause-can
join-requires-clause-can g c = can_join _ _ _ _ _ c.in-Join.is c.requires.can

pub union-requires-clause-can : goal.union-requires-clause-can
union-requires-clause-can g c = can_unite _ _ _ _ _ c.in-Unite.is c.requires.can

pub returns-in-Start-clause-nodes : goal.returns-in-Start-clause-nodes
returns-in-Start-clause-nodes g c = bottom_nodes c.bottom.result _ _ _ _ c.requires.nodes c.bottom.ensures.made c.bottom.ensures.appended c.bottom.ensures.well_formed

pub returns-in-Start-clause-trees : goal.returns-in-Start-clause-trees
returns-in-Start-clause-trees g c =
    let small : SFits w64 c.in-Start.clock = search rules in
    let same : to_z w64 (of_z w64 c.in-Start.clock) ≡ c.in-Start.clock = to_z-of_z _ _ small in
    bottom_trees c.bottom.result _ _ _ _ _ (rw (c.of-clock.ensures, same) (made_start _ _ _ _ c.in-Start.is)) c.requires.nodes c.bottom.ensures.made c.bottom.ensures.appended

pub returns-in-Extend-clause-nodes : goal.returns-in-Extend-clause-nodes
returns-in-Extend-clause-nodes g c = grown_nodes c.extend.result _ _ _ _ c.requires.nodes c.extend.ensures.grows c.extend.ensures.made

pub returns-in-Extend-clause-trees : goal.returns-in-Extend-clause-trees
returns-in-Extend-clause-trees g c = grown_trees c.extend.result _ _ _ _ _ (made_extend _ _ _ _ _ c.in-Extend.is (extend_inside _ _ _ _ _ c.in-Extend.is c.requires.can)) c.requires.nodes c.extend.ensures.grows c.extend.ensures.made

pub returns-in-Join-clause-nodes : goal.returns-in-Join-clause-nodes
returns-in-Join-clause-nodes g c = grown_nodes c.join.result _ _ _ _ c.requires.nodes c.join.ensures.grows c.join.ensures.made

pub returns-in-Join-clause-trees : goal.returns-in-Join-clause-trees
returns-in-Join-clause-trees g c = grown_trees c.join.result _ _ _ _ _ (made_join _ _ _ _ _ c.in-Join.is c.requires.can) c.requires.nodes c.join.ensures.grows c.join.ensures.made

pub returns-in-Unite-clause-nodes : goal.returns-in-Unite-clause-nodes
returns-in-Unite-clause-nodes g c = grown_nodes c.union.result _ _ _ _ c.requires.nodes c.union.ensures.grows c.union.ensures.made

pub returns-in-Unite-clause-trees : goal.returns-in-Unite-clause-trees
returns-in-Unite-clause-trees g c = grown_trees c.union.result _ _ _ _ _ (made_unite _ _ _ _ _ c.in-Unite.is c.requires.can) c.requires.nodes c.union.ensures.grows c.union.ensures.made
