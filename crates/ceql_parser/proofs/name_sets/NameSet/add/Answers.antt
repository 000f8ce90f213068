use Rattle.std.proofs.Common.{ap₂, sym, ◌∙◌, ◌++◌, ◌∷◌, [], map}
use Rattle.std.specs.Prelude.{string_bytes}
use Rattle.ceql_parser.proofs.NameSetLemmas.{same_as, known_added, new_added}
use Rattle.ceql_parser.proofs.name_sets.NameSet.add.Goals as goal

pub returns-in_ok-insert : goal.returns-in_ok-insert
returns-in_ok-insert c =
    same_as (map string_bytes c.insert.new.self.keys) (map string_bytes c.self.inside.names.keys ++ string_bytes c.in_ok-name.name ∷ []) (c.args.self.now ++ c.args.name.now ∷ [])
    (new_added c.self.inside.names c.insert.new.self (string_bytes c.in_ok-name.name) c.in_ok-insert.ensures.updates)
    (ap₂ (λ a b. a ++ b ∷ []) c.self.view_is c.in_ok-name.ensures.ok)

pub returns-else-not-has : goal.returns-else-not-has
returns-else-not-has c = known_added c.args.self.now c.args.name.now (sym c.has.ensures ∙ c.if-not-has.false)
