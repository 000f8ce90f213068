use Rattle.std.proofs.Common.{◌++◌, ◌∷◌, [], subst, List, ℕ}
use Rattle.ceql_parser.specs.NameSets.{HaveSameNames}
use Rattle.ceql_parser.proofs.NameSetLemmas.{same_self, same_as, same_next, same_listed}
use Rattle.ceql_parser.proofs.name_sets.NameSet.of.Goals as goal

pub loop-name-init : goal.loop-name-init
loop-name-init c = same_as c.new-set.result c.new-set.result [] (same_self c.new-set.result) c.new-set.ensures

pub loop-name-preserved : goal.loop-name-preserved
loop-name-preserved c =
    same_next (λ n. n.text) c.args.names.now c.loop-name.name-index c.name-item.result [] c.loop-name.set c.add.new.self c.loop-name-test.true c.name-item.is c.loop-name.invariant
    (subst (λ (t : List ℕ). HaveSameNames c.add.new.self (c.loop-name.set ++ t ∷ [])) c.as_str.ensures c.in_ok-add.ensures)

pub returns : goal.returns
returns c = same_listed (λ n. n.text) c.args.names.now c.loop-name.name-index [] c.loop-name.set c.loop-name-test.false c.loop-name.invariant
