use Rattle.std.proofs.Common.{sym, ap, ◌∙◌, append-nil, ◌++◌, ◌∷◌, [], subst, List, ℕ}
use Rattle.std.specs.Prelude.{string_bytes}
use Rattle.ceql_parser.specs.NameSets.{HaveSameNames}
use Rattle.ceql_parser.proofs.NameSetLemmas.{same_self, same_as, same_next, same_listed}
use Rattle.ceql_parser.proofs.name_sets.NameSet.add_all.Goals as goal

pub loop-name-init : goal.loop-name-init
loop-name-init c = same_as c.args.self.now c.args.self.now (c.args.self.now ++ []) (same_self c.args.self.now) (sym (append-nil c.args.self.now))

pub loop-name-preserved : goal.loop-name-preserved
loop-name-preserved c =
    same_next string_bytes c.args.names.now c.loop-name.name-index c.name-item.result c.args.self.now c.loop-name.self c.add.new.self c.loop-name-test.true c.name-item.is c.loop-name.invariant
    (subst (λ (t : List ℕ). HaveSameNames c.add.new.self (c.loop-name.self ++ t ∷ [])) c.as_str.ensures.value c.in_ok-add.ensures)

pub returns : goal.returns
returns c = same_listed string_bytes c.args.names.now c.loop-name.name-index c.args.self.now c.loop-name.self c.loop-name-test.false c.loop-name.invariant
